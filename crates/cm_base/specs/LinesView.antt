-- The lines of a text as contracts see them.
use Rattle.std.specs.Prelude.{ℕ, ◌≡◌, ◌+◌, ◌<◌, ◌≤◌, ◌^◌, List, length}
use Rattle.cm_base.specs.Lines.{LineText, lines_from, raw_lines}

-- the lines that count, and the number after the last line's
pub record LinesText : Type 0 where
  pub list : List LineText
  pub end : ℕ

-- the lines that count of a text whose first line has this number
abbrev pub lines_text : ℕ → List ℕ → LinesText
lines_text number text = record { list = lines_from number (raw_lines text); end = number + length (raw_lines text) }

-- what the lines keep: the text is short enough to number its lines from this number on,
-- and the end is that of the text
pub record IsLines (number : ℕ) (text : List ℕ) (end : ℕ) : Type 0 where
  pub first : 1 ≤ number
  pub short : number + length text < 2 ^ 32
  pub ends : end ≡ number + length (raw_lines text)

-- a text without some of its first lines, none of which counts; its first line has the second number
pub record IsFrom (number : ℕ) (text : List ℕ) (from : ℕ) (rest : List ℕ) : Type 0 where
  pub rises : number ≤ from
  pub list : lines_from number (raw_lines text) ≡ lines_from from (raw_lines rest)
  pub end : number + length (raw_lines text) ≡ from + length (raw_lines rest)
  pub shorter : from + length rest ≤ number + length text
