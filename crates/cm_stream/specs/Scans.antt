-- A list of samples in scans.
use Rattle.std.specs.Prelude.{ℕ, ◌+◌, ◌-◌, ◌*◌, ◌/◌, List, length, map, take, drop}
use Rattle.std.specs.List.{range_with_len}

-- a scan as contracts see it
pub record ScanText : Type 0 where
  pub first : ℕ
  pub words : List ℕ

-- a scan by its fields
abbrev pub scan_text : ℕ → List ℕ → ScanText
scan_text first words = record { first = first; words = words }

-- the scan with number i, of n words or of what is left
abbrev pub scan_at : List ℕ → ℕ → ℕ → ScanText
scan_at words n i = scan_text (i * n) (take n (drop (i * n) words))

-- how many scans of n words there are, the last of which may be shorter
abbrev pub scan_count : List ℕ → ℕ → ℕ
scan_count words n = (length words + n - 1) / n

-- the scans of a list
unfoldable pub scans : List ℕ → ℕ → List ScanText
scans words n = map (scan_at words n) (range_with_len 0 (scan_count words n))
