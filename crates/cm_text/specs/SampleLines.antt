-- How contracts see what makes the lines of a command's samples.
use Rattle.cm_text.specs.Format.{Format}
use Rattle.cm_text.specs.Kept.{AreKept}
use Rattle.cm_text.specs.declared.sample_lines.SampleLines.TheInside.{Inside}

-- how the samples of these lines are reported
abbrev pub format_view : Inside → Format
format_view l = l.format

-- the lines that are kept are those of its format
abbrev pub HasKept : Inside → Type 0
HasKept l = AreKept l.format l.kept.items
