use Rattle.std.proofs.Common.{◌≡◌, ◌<◌, ◌++◌, length, take, drop, get_or, codes, sym, ap, ◌∙◌, arith, append_assoc, length-drop}
use Rattle.std.proofs.lemmas.List.{get_or-drop}
use Rattle.std.specs.Prelude.{ℕ, List}
use Rattle.std.specs.Fmt.{decimal}
use Rattle.cm_running.specs.Texts.{words_text}
use Rattle.cm_running.proofs.Wordings.{words_text-next}
use Rattle.cm_running.proofs.text.put_cells.Goals as goal

pub loop-i-preserved : goal.loop-i-preserved
loop-i-preserved c =
    let i = c.loop-i.i in
    let old = c.args.text.now.items in
    let held = c.args.ring.now.held in
    let words : List ℕ = drop c.args.from held in
    let within : i < length words = omega (arith, c.loop-i-test.true, c.requires.granted (omega (arith, c.loop-i-test.true)), c.requires.held, length-drop c.args.from held) in
    let word : c.word.result ≡ get_or words i 0 = c.word.ensures ∙ sym (get_or-drop c.args.from held i 0) in
    record {
      so_far = c.in_ok-put_word.ensures
          ∙ ap (λ text. text ++ (codes " " ++ decimal c.word.result)) c.loop-i.invariant.so_far
          ∙ ap (λ n. (old ++ words_text (take i words)) ++ (codes " " ++ decimal n)) word
          ∙ append_assoc old (words_text (take i words)) (codes " " ++ decimal (get_or words i 0))
          ∙ ap (λ text. old ++ text) (sym (words_text-next words i within));
    }
