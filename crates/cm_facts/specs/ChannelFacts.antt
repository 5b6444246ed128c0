-- What is known of the codes of a subdevice and of its channels.
use Rattle.std.specs.Prelude.{ℕ, ◌+◌, List, [], ◌∷◌, ◌++◌, codes, decimal, flat_map, Some, if◌then◌else◌}
use Rattle.std.specs.Fmt.{signed_decimal}
use Rattle.cm_board.specs.Board.{ChanText, SubText, is_unused, maxdata_by, munge_by, ranges_by}
use Rattle.cm_board.specs.declared.board.Range.{Range}
use Rattle.cm_board.specs.declared.munge.Munge.{Munge}
use Rattle.cm_facts.specs.FactLine.{fact_line}
use Rattle.cm_facts.specs.Names.{munge_words}

-- a range with its number: its least and its greatest level, and its unit
abbrev pub range_words : ℕ → Range → List (List ℕ)
range_words number r =
    decimal number ∷ signed_decimal r.min ∷ signed_decimal r.max ∷ decimal r.unit ∷ []

-- ranges of a subdevice or a channel, numbered from a number on
abbrev pub range_facts : List ℕ → List ℕ → ℕ → List Range → List ℕ
range_facts key place number [] = []
range_facts key place number (r ∷ more) =
    fact_line key place (range_words number r) ++ range_facts key place (number + 1) more

-- the codes of a subdevice that isn't unused: its greatest code, its munge, and its ranges
unfoldable pub code_facts : ℕ → SubText → List ℕ
code_facts index s =
    if is_unused s.kind then [] else
    (fact_line (codes "maxdata") (index ∷ s.maxdata ∷ []) []
    ++ fact_line (codes "munge") (index ∷ []) (munge_words s.munge)
    ++ range_facts (codes "range") (index ∷ []) 0 s.ranges)

-- the codes of a channel: its greatest code, its munge, and its ranges
unfoldable pub chan_facts : ℕ → ℕ → ℕ → Munge → List Range → List ℕ
chan_facts index chan maxdata munge ranges =
    fact_line (codes "chan_maxdata") (index ∷ chan ∷ maxdata ∷ []) []
    ++ fact_line (codes "chan_munge") (index ∷ chan ∷ []) (munge_words munge)
    ++ range_facts (codes "chan_range") (index ∷ chan ∷ []) 0 ranges

-- the codes of a channel that has something of its own. What it doesn't have is that of its subdevice
abbrev pub channel_facts : ℕ → SubText → ChanText → List ℕ
channel_facts index s c =
    chan_facts index c.chan (maxdata_by (Some c) s.maxdata) (munge_by (Some c) s.munge) (ranges_by (Some c) s.ranges)

-- all such channels
abbrev pub channels_facts : ℕ → SubText → List ℕ
channels_facts index s = flat_map (channel_facts index s) s.chans
