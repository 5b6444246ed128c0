-- The limits of a version.
use Rattle.std.proofs.Common.{◌≡◌, ℕ, ◌≤◌, Bool, true, false, cond, ◌&&◌, nat_le, arith}
use Rattle.std.proofs.lemmas.Bool.{le-leb, leb-true}
use Rattle.cm_base.proofs.Bools.{and_true, both}
use Rattle.cm_board.specs.Kept.{is_within}
use Rattle.cm_board.specs.Versions.{is_wide, most_in}
use Rattle.cm_board.specs.declared.table.Limits.{Limits}

-- what fits into the lesser limit fits into that of each version
pub least_most : (version n most wide : ℕ) → n ≤ most → most ≤ wide → n ≤ most_in version most wide
least_most version n most wide h k = by (is_wide version)
  where
    by : (b : Bool) → n ≤ cond b wide most
    by true = omega (arith, h, k)
    by false = h

-- and what fits into that of a version fits into the greater
pub most_wide : (version n most wide : ℕ) → most ≤ wide → n ≤ most_in version most wide → n ≤ wide
most_wide version n most wide k h = by (is_wide version) h
  where
    by : (b : Bool) → n ≤ cond b wide most → n ≤ wide
    by true h = h
    by false h = omega (arith, h, k)

-- a number between two others
abbrev pub is_between : ℕ → ℕ → ℕ → Bool
is_between least most n = nat_le least n && nat_le n most

pub between : (version : ℕ) (l : Limits) (n : ℕ) → nat_le l.most l.wide ≡ true → is_within version l n ≡ true → is_between l.least l.wide n ≡ true
between version l n k h =
    let b = both (nat_le l.least n) (nat_le n (most_in version l.most l.wide)) h in
    and_true _ _ b.0 (le-leb n l.wide (most_wide version n l.most l.wide (leb-true l.most l.wide k) (leb-true n (most_in version l.most l.wide) b.1)))

pub within : (version : ℕ) (l : Limits) (n : ℕ) → nat_le l.most l.wide ≡ true → is_between l.least l.most n ≡ true → is_within version l n ≡ true
within version l n k h =
    let b = both (nat_le l.least n) (nat_le n l.most) h in
    and_true _ _ b.0 (le-leb n (most_in version l.most l.wide) (least_most version n l.most l.wide (leb-true n l.most b.1) (leb-true l.most l.wide k)))
