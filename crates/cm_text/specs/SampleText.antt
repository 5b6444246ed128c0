-- How contracts see the lines of samples that are made as the samples come.
use Rattle.std.specs.Prelude.{ℕ, ◌+◌, ◌<◌, ◌^◌, List, [], ◌++◌, length}
use Rattle.cm_text.specs.Format.{Format, IsSample, sample_lines}
use Rattle.cm_text.specs.declared.sample_text.SampleText.TheInside.{Inside}

-- the text so far, of so many samples
pub record LinesText : Type 0 where
  pub format : Format
  pub text : List ℕ
  pub count : ℕ

-- the text so far as a record
abbrev pub lines_text : Inside → LinesText
lines_text t = record { format = t.lines; text = t.text.items; count = t.count }

-- a word can be reported as the sample of a place
abbrev pub CanReport : LinesText → ℕ → ℕ → Type 0
CanReport t place word = (place < 2 ^ 60) × IsSample t.format place word

-- before the first sample
abbrev pub no_lines : Format → LinesText
no_lines format = record { format = format; text = []; count = 0 }

-- after more samples
abbrev pub with_lines : LinesText → List ℕ → LinesText
with_lines t words = record t { text = t.text ++ sample_lines t.format t.count words; count = t.count + length words }

-- the lines of a command's first samples
abbrev pub lines_of : Format → List ℕ → LinesText
lines_of format words = record { format = format; text = sample_lines format 0 words; count = length words }
