use Rattle.std.proofs.Common.{◌++◌, List, ℕ, length, ap, ◌∙◌, arith, length-append}
use Rattle.cm_text.proofs.Repeats.{repeated-next}
use Rattle.cm_text.proofs.gathered.append_times.Goals as goal

pub loop-preserved : goal.loop-preserved
loop-preserved c =
    let own = c.copy-own.result in
    let room = c.loop.invariant.room in
    let short = c.copy-own.ensures.short in
    let below = c.loop-test.true in
    record {
      so_far = c.append.ensures ∙ ap (λ (t : List ℕ). t ++ own) c.loop.invariant.so_far ∙ repeated-next c.loop.counter c.args.lines.now own;
      room = omega (arith, ap (length {A = ℕ}) c.append.ensures, length-append c.loop.lines own);
    }
