-- What a worker of a ring owes the next one.
use Rattle.std.specs.Prelude.{◌≡◌, ◌⊎◌, ℕ, true, min, IsSome}
use Rattle.cm_ring.specs.Roles.{Reading}

-- a number as a counter of 64 bits has it that stands still at its end
abbrev pub in_64_bits : ℕ → ℕ
in_64_bits n = min n 18446744073709551615

-- a reader has found the end, or has asked the writer for it
abbrev pub IsOver : Reading → Type 0
IsOver r = (r.part.asked ≡ true) ⊎ IsSome r.part.found
