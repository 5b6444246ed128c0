use Rattle.std.proofs.Common.{◌++◌, take, get_or, codes, sym, ap, ◌∙◌, append_assoc}
use Rattle.std.specs.Fmt.{decimal}
use Rattle.cm_running.specs.Texts.{words_text}
use Rattle.cm_running.proofs.Wordings.{words_text-next}
use Rattle.cm_running.proofs.text.put_spaced.Goals as goal

pub loop-word-preserved : goal.loop-word-preserved
loop-word-preserved c =
    let i = c.loop-word.word-index in
    let words = c.args.words.now in
    record {
      so_far = c.in_ok-put_word.ensures
          ∙ ap (λ text. text ++ (codes " " ++ decimal (get_or words i 0))) c.loop-word.invariant.so_far
          ∙ append_assoc c.args.text.now.items (words_text (take i words)) (codes " " ++ decimal (get_or words i 0))
          ∙ ap (λ text. c.args.text.now.items ++ text) (sym (words_text-next words i c.loop-word-test.true));
    }
