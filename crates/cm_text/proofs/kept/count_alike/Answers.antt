use Rattle.std.proofs.Common.{◌++◌, ◌∷◌, [], List, ℕ, replicate, get_or, ap, ◌∙◌, arith}
use Rattle.std.proofs.lemmas.List.{replicate_more, take_more}
use Rattle.cm_text.proofs.kept.count_alike.Goals as goal

pub loop-count-preserved : goal.loop-count-preserved
loop-count-preserved c =
    let count = c.loop-count.count in
    let words = c.args.words.now in
    record {
      within = omega arith;
      alike = take_more words count 0 (omega arith) ∙ ap (λ (t : List ℕ). t ++ get_or words count 0 ∷ []) c.loop-count.invariant.alike ∙ ap (λ w. replicate count c.args.word ++ w ∷ []) (cc) ∙ replicate_more count c.args.word;
    }
