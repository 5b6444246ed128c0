use Rattle.std.proofs.Common.{sym, ap, ◌∙◌}
use Rattle.std.specs.Prelude.{nat_le}
use Rattle.std.proofs.Common.{◌≡◌, ℕ, ◌<◌, ◌≤◌, true, false, arith}
use Rattle.std.proofs.lemmas.Bool.Decides.{nat_tests}
use Rattle.cm_expand.specs.Taking.{come}
use Rattle.cm_fifo.proofs.Looks.{left_early, left_late, left_none}
use Rattle.cm_fifo.proofs.filling.has_come.Goals as goal

small : (a b : ℕ) → nat_le a b ≡ true → a ≤ b
small a b e = grind (arith, nat_tests)

large : (a b : ℕ) → nat_le a b ≡ false → b < a
large a b e = grind (arith, nat_tests)

pub returns-in-None-clause-no : goal.returns-in-None-clause-no
returns-in-None-clause-no c = λ _. ap (come c.args.time) (left_none c.args.board.now (sym c.next_time.ensures ∙ c.in-None.is))

pub returns-in-Some-clause-yes : goal.returns-in-Some-clause-yes
returns-in-Some-clause-yes c = λ e. left_early c.args.board.now c.args.time c.in-Some.next (sym c.next_time.ensures ∙ c.in-Some.is) (small c.in-Some.next c.args.time e)

pub returns-in-Some-clause-no : goal.returns-in-Some-clause-no
returns-in-Some-clause-no c = λ e. left_late c.args.board.now c.args.time c.in-Some.next c.place.ensures.expansion (sym c.next_time.ensures ∙ c.in-Some.is) (large c.in-Some.next c.args.time e)
