-- The rules over both commands.
use Rattle.std.proofs.Common.{◌≡◌, ℕ, ◌<◌, ◌≤◌, true, false, arith}
use Rattle.std.specs.Prelude.{nat_le}
use Rattle.std.proofs.lemmas.Bool.{le-leb, lt-leb}

pub few_short : (most n : ℕ) → n ≤ most → most ≤ 1000000 → nat_le n 1000000 ≡ true
few_short most n up_to few = le-leb n 1000000 (omega (arith, up_to, few))

pub many_not_short : (n : ℕ) → 1000000 < n → nat_le n 1000000 ≡ false
many_not_short n many = lt-leb n 1000000 many
