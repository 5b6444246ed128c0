use Rattle.std.proofs.Common.{◌<◌, set, length, get_or, ap, ◌∙◌, arith, rules}
use Rattle.cm_sub.specs.declared.claim.Claim.{Claim}
use Rattle.cm_replay.specs.Session.{left_by}
use Rattle.cm_replay.specs.State.{Device}
use Rattle.cm_replay.proofs.Closings.{left-next}
use Rattle.cm_replay.proofs.closing.end_commands.Goals as goal

pub loop-i-preserved : goal.loop-i-preserved
loop-i-preserved c =
    let i = c.loop-i.i in
    let seats = c.args.seats.now.items in
    let within : i < length seats = search rules in
    let seat : Device = c.index_mut.result.now in
    record {
      so_far = ap (λ xs. set xs i c.end_command.new.seat) c.loop-i.invariant.so_far
          ∙ left-next c.args.files.now.claims seats i seat c.end_command.new.seat (omega (arith, within, c.requires.many)) within
          (c.index_mut.ensures.value ∙ ap (λ xs. get_or xs i seat) c.loop-i.invariant.so_far)
          (c.end_command.ensures ∙ ap (λ (claim : Claim). left_by claim seat) c.claim.ensures);
    }
