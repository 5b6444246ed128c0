-- A count with a limit.
use Rattle.std.specs.Prelude.{ℕ, min, Option, Some, None}

-- the smaller of a count and a number that may be missing
abbrev pub up_to : ℕ → Option ℕ → ℕ
up_to count None = count
up_to count (Some most) = min count most
