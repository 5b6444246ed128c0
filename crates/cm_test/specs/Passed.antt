-- What a command says that passes the whole test of its subdevice.
use Rattle.std.specs.Prelude.{ℕ, ◌*◌, ◌≡◌, ◌<◌, ◌≤◌, ◌^◌, ◌⊎◌, not, length, IsTrue}
use Rattle.std.specs.List.{All}
use Rattle.cm_board.specs.Board.{SubText, IsSoundSub, IsFrom1To, range_count, takes_commands}
use Rattle.cm_base.specs.Source as source
use Rattle.cm_cmd.specs.Command.{CmdText}
use Rattle.cm_cmd.specs.Entry.{chan, range}
use Rattle.cm_test.specs.Law.{AreInside}
use Rattle.cm_test.specs.Questions.{is_endless, is_one_bit, tested}
use Rattle.cm_test.specs.ValidList.{keeps_rules}

-- one source, and one of the mask
pub record IsOneOf (mask src : ℕ) : Type 0 where
  pub some : 1 ≤ src
  pub allowed : IsTrue (source.allows mask src)
  pub single : IsTrue (is_one_bit src)

-- a start is at once, at an edge or at an internal trigger
abbrev pub IsStart : ℕ → Type 0
IsStart src = (src ≡ source.now) ⊎ ((src ≡ source.ext) ⊎ (src ≡ source.int))

-- scans follow each other, are timed or begin at edges
abbrev pub IsScanBegin : ℕ → Type 0
IsScanBegin src = (src ≡ source.follow) ⊎ ((src ≡ source.timer) ⊎ (src ≡ source.ext))

-- conversions are made at once, follow each other, which is the same, are timed or come at edges
abbrev pub IsConvert : ℕ → Type 0
IsConvert src = (src ≡ source.now) ⊎ ((src ≡ source.follow) ⊎ ((src ≡ source.timer) ⊎ (src ≡ source.ext)))

-- a command never stops, or it stops after a count of scans or at an edge
abbrev pub IsStop : ℕ → Type 0
IsStop src = (src ≡ source.none) ⊎ ((src ≡ source.count) ⊎ (src ≡ source.ext))

-- an entry of a channel that the subdevice has, with a range that the channel has
pub record IsEntry (sub : SubText) (entry : ℕ) : Type 0 where
  pub fits : entry < 2 ^ 26
  pub has_chan : chan entry < sub.channels
  pub has_range : range entry < range_count sub (chan entry)

-- a command that its subdevice takes: its sources, its arguments, and its list
pub record IsPassed (sub : SubText) (cmd : CmdText) : Type 0 where
  pub takes : IsTrue (takes_commands sub)
  pub start_of : IsOneOf sub.masks.start cmd.start.src
  pub scan_begin_of : IsOneOf sub.masks.scan_begin cmd.scan_begin.src
  pub convert_of : IsOneOf sub.masks.convert cmd.convert.src
  pub scan_end_of : IsOneOf sub.masks.scan_end cmd.scan_end.src
  pub stop_of : IsOneOf sub.masks.stop cmd.stop.src
  pub start : IsStart cmd.start.src
  pub scan_begin : IsScanBegin cmd.scan_begin.src
  pub convert : IsConvert cmd.convert.src
  pub scan_end : cmd.scan_end.src ≡ source.count
  pub stop : IsStop cmd.stop.src
  pub ends : IsTrue (not (is_endless cmd))
  pub inside : AreInside sub cmd
  pub period : cmd.scan_begin.src ≡ source.timer → 1 ≤ cmd.scan_begin.arg
  pub gap : cmd.convert.src ≡ source.timer → 1 ≤ cmd.convert.arg
  pub fits : cmd.scan_begin.src ≡ source.timer → cmd.convert.src ≡ source.timer
      → cmd.convert.arg * length cmd.list ≤ cmd.scan_begin.arg
  pub entries_fit : cmd.scan_begin.src ≡ source.timer → sub.least_scan.per_entry * length cmd.list ≤ cmd.scan_begin.arg
  pub scans : cmd.stop.src ≡ source.count → IsFrom1To sub.scans_max cmd.stop.arg
  pub list : IsFrom1To sub.list_max (length cmd.list)
  pub entries : All (IsEntry sub) cmd.list
  pub rules : IsTrue (keeps_rules sub cmd.list)

-- what passes the test is a command that the subdevice takes
abbrev pub PassedIsTaken : Type 0
PassedIsTaken = (sub : SubText) (cmd : CmdText) → IsSoundSub sub → (tested sub cmd).0 ≡ 0 → IsPassed sub cmd
