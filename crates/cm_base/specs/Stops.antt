-- The bytes at which a word or a line stops.
use Rattle.std.specs.Prelude.{ℕ, Bool, ◌==◌, not}
use Rattle.std.specs.Char.{is_ascii_digit}
use Rattle.cm_base.specs.Lines.{is_printable}

-- a byte that may not stand in a word
abbrev pub is_unprintable : ℕ → Bool
is_unprintable c = not (is_printable c)

-- the byte that is looked for
abbrev pub is_byte : ℕ → ℕ → Bool
is_byte byte c = c == byte

-- another byte than the one that is looked for
abbrev pub differs : ℕ → ℕ → Bool
differs byte c = not (is_byte byte c)

-- a byte that may not stand in a number
abbrev pub is_no_digit : ℕ → Bool
is_no_digit c = not (is_ascii_digit c)
