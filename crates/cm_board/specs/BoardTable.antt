-- The lines of a block: their rows and their forms.
use Rattle.std.specs.Prelude.{ℕ, List, [], ◌∷◌, ◌++◌, codes, true, false}
use Rattle.cm_board.specs.Munge.{munge_forms}
use Rattle.cm_board.specs.Rows as rows
use Rattle.cm_board.specs.Table.{FormText, TableText, WordText, Fixed, Number, Signed, Sources, Source, Name, Channel}
use Rattle.cm_board.specs.Table.{Divisors}
use Rattle.cm_board.specs.declared.table.Absent.{Absent}
use Rattle.cm_board.specs.declared.table.Absent.TheVariants as absents
use Rattle.cm_board.specs.declared.table.Place.{Place}
use Rattle.cm_board.specs.declared.table.Place.TheVariants as places
use Rattle.cm_board.specs.declared.table.Row.{Row}
use Rattle.cm_board.specs.declared.table.Rule.{Rule}
use Rattle.cm_board.specs.declared.table.Sets.{Sets}
use Rattle.cm_board.specs.declared.table.Rule.TheVariants as rules_of

-- a number from one to another, or to a third in the wider texts
abbrev pub widening : ℕ → ℕ → ℕ → WordText
widening least most wide = Number (record { least = least; most = most; wide = wide })

-- a number between two others
abbrev pub from_to : ℕ → ℕ → WordText
from_to least most = widening least most most

-- a time between triggers, or a count of scans: 1 to 4,000,000,000, and in the wider texts each number of 32 bits but 0
abbrev pub time : WordText
time = widening 1 4000000000 4294967295

-- how the channels of a list follow each other
abbrev pub following : WordText
following =
    Name (codes "consecutive" ∷ codes "straight" ∷ codes "first" ∷ codes "rising" ∷ codes "distinct" ∷ [])

-- what a subdevice can offer
abbrev pub offered : WordText
offered =
    Name (codes "readable" ∷ codes "ground" ∷ codes "common" ∷ codes "diff" ∷ codes "other" ∷ codes "mmap" ∷ [])

-- the sources that a trigger may have, by the version
abbrev pub by_version : ℕ → ℕ → ℕ → Sets
by_version first second wide = record { first = first; second = second; wide = wide }

-- and those that it may have in each
abbrev pub in_each : ℕ → Sets
in_each set = by_version set set set

-- the sources that may start a command: now, ext or int
abbrev pub start_sets : Sets
start_sets = in_each 194

-- those that may begin its scans: follow, timer or ext
abbrev pub scan_begin_sets : Sets
scan_begin_sets = in_each 84

-- those that may start its conversions: now, timer or ext, and follow in the wider texts
abbrev pub convert_sets : Sets
convert_sets = by_version 82 82 86

-- the one that ends its scans: count
abbrev pub scan_end_sets : Sets
scan_end_sets = in_each 32

-- those that may stop it: none or count, and ext but in version 1
abbrev pub stop_sets : Sets
stop_sets = by_version 33 97 97

-- the sources that each trigger may have
abbrev pub source_words : List WordText
source_words =
    Fixed (codes "sources")
    ∷ Sources start_sets ∷ Sources scan_begin_sets ∷ Sources convert_sets
    ∷ Sources scan_end_sets ∷ Sources stop_sets ∷ []

-- a trigger of a command
abbrev pub field : WordText
field = Name (codes "start" ∷ codes "scan_begin" ∷ codes "convert" ∷ codes "scan_end" ∷ codes "stop" ∷ [])

-- a line about all channels: how many there may be, since which version, in which blocks, and what holds without one
abbrev pub of_all : ℕ → ℕ → Place → Absent → Row
of_all most since place absent = record {
  most = most;
  wide = most;
  since = since;
  place = place;
  absent = absent;
  of_channel = false;
}

-- a line about one channel: how many there may be of each, before the wider texts and in them
abbrev pub of_each : ℕ → ℕ → Row
of_each most wide = record {
  most = most;
  wide = wide;
  since = 2;
  place = places.Any;
  absent = absents.Nothing;
  of_channel = true;
}

-- the ranges of all channels
abbrev pub ranges : Row
ranges = record { most = 16; wide = 32; since = 1; place = places.Any; absent = absents.Missing; of_channel = false }

-- a form of a row: its words after these, and what its values keep together
abbrev pub form : ℕ → List WordText → Rule → FormText
form n words rule = record { row = n; words = words; rule = rule }

-- a line that each block with commands needs, once
abbrev pub needed : Row
needed = of_all 1 1 places.Commands absents.MissingWithCommands

-- a line of the wider texts that a block with commands may have, once
abbrev pub wide : Row
wide = of_all 1 3 places.Commands absents.Nothing

-- the rows, in the order in which they are printed
abbrev pub board_rows : List Row
board_rows =
    of_all 1 1 places.Any absents.Missing
    ∷ of_all 1 1 places.Any (absents.Stands rows.munge_form)
    ∷ ranges
    ∷ needed
    ∷ needed
    ∷ needed
    ∷ needed
    ∷ needed
    ∷ of_all 1 1 places.Commands (absents.Says rows.scans_form 1000000)
    ∷ of_all 1 1 places.Commands (absents.Says rows.lines_form 0)
    ∷ needed
    ∷ of_all 1 1 places.Commands absents.Nothing
    ∷ of_all 16 1 places.Commands absents.Nothing
    ∷ of_all 1 2 places.Commands absents.Nothing
    ∷ of_all 1 2 places.Inputs absents.Nothing
    ∷ wide
    ∷ wide
    ∷ wide
    ∷ wide
    ∷ wide
    ∷ wide
    ∷ wide
    ∷ wide
    ∷ of_each 1 1
    ∷ of_each 1 1
    ∷ of_each 16 32
    ∷ of_all 6 3 places.Any absents.Nothing
    ∷ []

-- their forms
abbrev pub board_forms : List FormText
board_forms =
    form rows.bits (Fixed (codes "bits") ∷ from_to 1 24 ∷ []) rules_of.Free
    ∷ munge_forms rows.munge []
    ++ form rows.range (Fixed (codes "range") ∷ Signed ∷ Signed ∷ from_to 0 2 ∷ []) rules_of.Below
    ∷ form rows.sources source_words rules_of.Free
    ∷ form rows.tick (Fixed (codes "tick") ∷ from_to 1 1000000000 ∷ []) rules_of.Free
    ∷ form rows.scan (Fixed (codes "scan") ∷ time ∷ time ∷ []) rules_of.Rising
    ∷ form rows.convert (Fixed (codes "convert") ∷ time ∷ time ∷ []) rules_of.Rising
    ∷ form rows.list (Fixed (codes "list") ∷ widening 1 256 1024 ∷ []) rules_of.Free
    ∷ form rows.scans (Fixed (codes "scans") ∷ time ∷ []) rules_of.Free
    ∷ form rows.lines (Fixed (codes "lines") ∷ widening 0 16 64 ∷ []) rules_of.Free
    ∷ form rows.buffer (Fixed (codes "buffer") ∷ widening 1 65536 1048576 ∷ []) rules_of.Free
    ∷ form rows.same_range (Fixed (codes "samerange") ∷ []) rules_of.Free
    ∷ form rows.forbid (Fixed (codes "forbid") ∷ field ∷ Source ∷ field ∷ Source ∷ []) rules_of.Apart
    ∷ form rows.invert (Fixed (codes "invert") ∷ []) rules_of.Free
    ∷ form rows.fifo (Fixed (codes "fifo") ∷ from_to 2 4096 ∷ from_to 0 1000000000 ∷ []) rules_of.Even
    ∷ form rows.clock (Fixed (codes "clock") ∷ Divisors ∷ []) rules_of.Ordered
    ∷ form rows.clock (Fixed (codes "clock") ∷ Divisors ∷ Divisors ∷ []) rules_of.Ordered
    ∷ form rows.rounds
    (Fixed (codes "rounds") ∷ Name (codes "nearest" ∷ codes "down" ∷ codes "up" ∷ []) ∷ []) rules_of.Free
    ∷ form rows.half_down (Fixed (codes "halfdown") ∷ []) rules_of.Free
    ∷ form rows.per_entry (Fixed (codes "perchan") ∷ from_to 1 4294967295 ∷ []) rules_of.Free
    ∷ form rows.holds (Fixed (codes "scanfits") ∷ []) rules_of.Free
    ∷ form rows.order (Fixed (codes "channels") ∷ following ∷ []) rules_of.Free
    ∷ form rows.order (Fixed (codes "channels") ∷ following ∷ Name (codes "repeat" ∷ []) ∷ []) rules_of.Free
    ∷ form rows.same_reference (Fixed (codes "samearef") ∷ []) rules_of.Free
    ∷ form rows.same_polarity (Fixed (codes "samepolarity") ∷ []) rules_of.Free
    ∷ form rows.chan_bits (Fixed (codes "chan") ∷ Channel ∷ Fixed (codes "bits") ∷ from_to 1 24 ∷ []) rules_of.Free
    ∷ munge_forms rows.chan_munge (Fixed (codes "chan") ∷ Channel ∷ [])
    ++ form rows.chan_range
    (Fixed (codes "chan") ∷ Channel ∷ Fixed (codes "range") ∷ Signed ∷ Signed ∷ from_to 0 2 ∷ []) rules_of.Below
    ∷ form rows.flag (Fixed (codes "flag") ∷ offered ∷ []) rules_of.Free
    ∷ []

-- the table
abbrev pub board_table : TableText
board_table = record { rows = board_rows; forms = board_forms }
