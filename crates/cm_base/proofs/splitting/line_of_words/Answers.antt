use Rattle.std.proofs.Common.{◌≡◌, false, sym, ap, ◌∙◌, ◌++◌, List, ℕ, map}
use Rattle.cm_base.specs.Lines.{is_bad, words_of}
use Rattle.cm_base.proofs.CleanWords.{clean_words}
use Rattle.cm_base.proofs.splitting.line_of_words.Goals as goal

pub invariant_of-result-else-branch : goal.invariant_of-result-else-branch
invariant_of-result-else-branch c =
    let raw : List ℕ = c.args.raw.now in
    let good : is_bad raw ≡ false = sym c.in_ok-push_words.ensures.bad ∙ c.if-branch.false in
    let reported = c.in_ok-push_words.ensures.words good in
    record {
      clean = clean_words (λ word. word.now) c.push_words.new.words.items raw false (reported ∙ ap (λ ws. map (λ word. word.now) ws ++ words_of raw) c.clear.ensures.items) (sym good);
    }
