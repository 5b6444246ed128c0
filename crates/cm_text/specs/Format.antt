-- How the samples of a command are reported.
use Rattle.std.specs.Prelude.{ℕ, ◌%◌, ◌<◌, ◌≤◌, suc, Bool, false, List, [], ◌∷◌, ◌++◌, length, slice_index, codes, ◌≡◌}
use Rattle.std.specs.Prelude.{if◌then◌else◌}
use Rattle.std.specs.Fmt.{decimal, signed_decimal}
use Rattle.cm_board.specs.Board.{SubText, maxdata_of, range_count, range_of}
use Rattle.cm_cmd.specs.Entry.{chan, range}
use Rattle.cm_expand.specs.Plan.{PlanText}
use Rattle.cm_expand.specs.Rule.{entry_at, is_raw}
use Rattle.cm_sample.specs.Sample.{micro_of}

-- a command's subdevice and channel list, and whether it asks for raw words
pub record Format : Type 0 where
  pub sub : SubText
  pub list : List ℕ
  pub raw : Bool

-- how the samples of a plan's command are reported
abbrev pub format_of : PlanText → Format
format_of p = record { sub = p.sub; list = p.cmd.list; raw = is_raw p.cmd.flags }

-- the level that a word of a list entry stands for, in micro-units
abbrev pub level_of : SubText → ℕ → ℕ → List ℕ
level_of sub entry word =
    signed_decimal (micro_of (range_of sub (chan entry) (range entry)) (maxdata_of sub (chan entry)) word)

-- what a word of a place says
abbrev pub value_text : Format → ℕ → ℕ → List ℕ
value_text f place word = if f.raw then codes "raw " ++ decimal word else level_of f.sub (entry_at f.list place) word

-- the sample of a place: its list index, and what its word says
abbrev pub sample_line : Format → ℕ → ℕ → List ℕ
sample_line f place word = decimal (place % length f.list) ++ codes " " ++ value_text f place word ++ codes "\n"

-- the lines of samples, the first of which is the command's sample of this place
abbrev pub sample_lines : Format → ℕ → List ℕ → List ℕ
sample_lines f place [] = []
sample_lines f place (word ∷ words) = sample_line f place word ++ sample_lines f (suc place) words

-- a word of a place can be reported: raw, or a code of its channel
abbrev pub IsSample : Format → ℕ → ℕ → Type 0
IsSample f place word = f.raw ≡ false → word ≤ maxdata_of f.sub (chan (entry_at f.list place))

-- each entry names a channel and a range
pub record IsFormat (f : Format) : Type 0 where
  pub some : 1 ≤ length f.list
  pub channels : (i : ℕ) → i < length f.list → chan (slice_index f.list i) < f.sub.channels
  pub ranges : (i : ℕ) → i < length f.list
      → range (slice_index f.list i) < range_count f.sub (chan (slice_index f.list i))
