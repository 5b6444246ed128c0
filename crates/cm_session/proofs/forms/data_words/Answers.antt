use Rattle.std.proofs.Common.{◌≤◌, length, map, List, ℕ, subst, sym}
use Rattle.cm_session.proofs.Then.{few_values}
use Rattle.cm_session.proofs.forms.data_words.Goals as goal

pub returns-clause-few : goal.returns-clause-few
returns-clause-few c =
    subst (λ (xs : List ℕ). length xs ≤ c.args.most) (sym c.new.ensures)
    (few_values c.args.most c.args.line (map (λ word. word.now) c.args.words.now) c.in_ok-few.few.items c.in_ok-few.ensures)
