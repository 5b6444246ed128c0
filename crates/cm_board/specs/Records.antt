-- Subdevices as plain records.
use Rattle.std.specs.Prelude.{ℕ, Bool, false, None, ◌||◌, nat_le, List, length, Option}
use Rattle.std.specs.Option.{is_some}
use Rattle.cm_board.specs.Items.{ItemText}
use Rattle.cm_board.specs.Times.{TimersText}
use Rattle.cm_board.specs.declared.board.Fifo.{Fifo}
use Rattle.cm_board.specs.declared.board.Forbid.{Forbid}
use Rattle.cm_board.specs.declared.board.Kind.{Kind}
use Rattle.cm_board.specs.declared.board.LeastScan.{LeastScan}
use Rattle.cm_board.specs.declared.board.ListRules.{ListRules}
use Rattle.cm_board.specs.declared.munge.Munge.{Munge}
use Rattle.cm_board.specs.declared.board.Range.{Range}
use Rattle.cm_board.specs.declared.board.Rounding.{Rounding}

-- the sources that each trigger may have
pub record Masks : Type 0 where
  pub start : ℕ
  pub scan_begin : ℕ
  pub convert : ℕ
  pub scan_end : ℕ
  pub stop : ℕ

-- what a board says of one channel alone: its greatest code, its munge and its ranges, each only where it says it
pub record ChanText : Type 0 where
  pub chan : ℕ
  pub maxdata : Option ℕ
  pub munge : Option Munge
  pub ranges : List Range

-- a subdevice as a plain record of numbers and lists: its kind and its board's version,
-- what the lines of its block say, and these lines themselves, in the order in which they are printed
pub record SubText : Type 0 where
  pub version : ℕ
  pub kind : Kind
  pub channels : ℕ
  pub maxdata : ℕ
  pub munge : Munge
  pub ranges : List Range
  pub masks : Masks
  pub timers : TimersText
  pub scan_min : ℕ
  pub scan_max : ℕ
  pub conv_min : ℕ
  pub conv_max : ℕ
  pub list_max : ℕ
  pub scans_max : ℕ
  pub lines : ℕ
  pub buffer : ℕ
  pub rounding : Rounding
  pub least_scan : LeastScan
  pub lists : ListRules
  pub forbidden : List Forbid
  pub chans : List ChanText
  pub invert : Bool
  pub fifo : Option Fifo
  pub block : List ItemText

-- any list
abbrev pub any_list : ListRules
any_list = record { same_range = false; order = None; same_reference = false; same_polarity = false }

-- times rounded as a command's flags say
abbrev pub any_rounding : Rounding
any_rounding = record { own = None; half_down = false }

-- a scan as short as its limits say
abbrev pub any_scan : LeastScan
any_scan = record { per_entry = 0; holds = false }

-- a channel says something of itself
abbrev pub says_any : ChanText → Bool
says_any c = is_some c.maxdata || is_some c.munge || nat_le 1 (length c.ranges)
