-- The versions of board texts.
use Rattle.std.specs.Prelude.{ℕ, Bool, nat_le, if◌then◌else◌}

-- texts that begin with `zendrouz 1` are the wider ones; that is the third version
abbrev pub is_wide : ℕ → Bool
is_wide version = nat_le 3 version

-- the greater of two limits in the wider texts, and the other before
abbrev pub most_in : ℕ → ℕ → ℕ → ℕ
most_in version most wide = if is_wide version then wide else most

-- the longest list of a command
abbrev pub most_entries : ℕ → ℕ
most_entries version = most_in version 256 1024

-- the external lines that a board may have
abbrev pub most_lines : ℕ → ℕ
most_lines version = most_in version 16 64
