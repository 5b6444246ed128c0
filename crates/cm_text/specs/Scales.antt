-- The scales of a channel list, one for each entry.
use Rattle.std.specs.Prelude.{◌≡◌, ℕ, Bool, List, ◌++◌, codes, length, slice_get, slice_index, Some, if◌then◌else◌}
use Rattle.std.specs.Fmt.{decimal, signed_decimal}
use Rattle.cm_board.specs.Board.{SubText, maxdata_of, range_of}
use Rattle.cm_cmd.specs.Entry.{chan, range}
use Rattle.cm_sample.specs.Sample.{micro_of}
use Rattle.cm_sample.specs.declared.scale.Scale.{Scale}

-- the range and the greatest code are those of the entry's channel
pub record IsScaleOf (sub : SubText) (entry : ℕ) (scale : Scale) : Type 0 where
  pub range : scale.range ≡ range_of sub (chan entry) (range entry)
  pub maxdata : scale.maxdata ≡ maxdata_of sub (chan entry)

-- each is that of the list entry at its place
pub record AreScales (sub : SubText) (list : List ℕ) (scales : List Scale) : Type 0 where
  pub all : length scales ≡ length list
  pub each : (i : ℕ) (scale : Scale) → slice_get scales i ≡ Some scale → IsScaleOf sub (slice_index list i) scale

-- the level that a code stands for, in micro-units
abbrev pub scaled_level : Scale → ℕ → List ℕ
scaled_level scale word = signed_decimal (micro_of scale.range scale.maxdata word)

-- the line of a list index and a word of its entry
abbrev pub scaled_line : Scale → Bool → ℕ → ℕ → List ℕ
scaled_line scale raw index word =
    decimal index ++ codes " "
    ++ (if raw then codes "raw " ++ decimal word else scaled_level scale word)
    ++ codes "\n"
