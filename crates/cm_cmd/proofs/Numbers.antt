-- Decimal numbers of commands are read as they were written.
use Rattle.std.proofs.Common.{◌≡◌, ℕ, ◌^◌, ◌<◌, ◌≤◌, Ok, arith, decimal}
use Rattle.std.proofs.lemmas.Bool.{le-leb}
use Rattle.cm_base.specs.Words.{number_in}
use Rattle.cm_base.proofs.Bools.{and_true}
use Rattle.cm_base.proofs.NumbersBack as back

pub number_in-decimal : (most n : ℕ) → n < 2 ^ 32 → n ≤ most → number_in 0 most (decimal n) ≡ Ok n
number_in-decimal most n h k = back.number_in-decimal 0 most n h (and_true _ _ (le-leb 0 n (omega arith)) (le-leb n most k))
