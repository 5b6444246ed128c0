-- What a board's subdevices promise.
use Rattle.std.specs.Prelude.{◌≡◌, ◌≤◌, ◌<◌, ◌*◌, ◌^◌, ◌%◌, ◌/◌, ◌-◌, ◌+◌, ℕ, Bool, true, false, not, ◌&&◌, ◌||◌, ◌==◌}
use Rattle.std.specs.Prelude.{nat_le, nat_lt, pos, ◌<ℤ◌, List, [], ◌∷◌, length, slice_index_or, IsTrue, if◌then◌else◌}
use Rattle.std.specs.Prelude.{Option, Some, None, option_to_list}
use Rattle.std.specs.Option.{is_some, unwrap_or}
use Rattle.std.specs.List.{All, list_all, list_any, range_with_len}
use Rattle.cm_base.specs.Lines.{is_printable}
use Rattle.cm_base.specs.Words.{is_int}
use Rattle.cm_base.specs.Source.{allows, ext, timer}
use Rattle.cm_board.specs.declared.board.Kind.{Kind}
use Rattle.cm_board.specs.declared.board.Kind.TheVariants as kinds
use Rattle.cm_board.specs.declared.munge.Munge.{Munge}
use Rattle.cm_board.specs.declared.munge.Munge.TheVariants as munges
use Rattle.cm_board.specs.declared.board.Range.{Range}
use Rattle.cm_board.specs.declared.board.Forbid.{Forbid}
use Rattle.cm_board.specs.declared.board.LeastScan.{LeastScan}
use Rattle.cm_board.specs.declared.board.ListRules.{ListRules}
use Rattle.cm_board.specs.declared.board.Rounding.{Rounding}
use Rattle.cm_board.specs.declared.board.Fifo.{Fifo}
use Rattle.cm_board.specs.BoardTable.{board_table, convert_sets, scan_begin_sets, scan_end_sets, start_sets, stop_sets}
use Rattle.cm_board.specs.Kept.{IsWhole, set_in}
use Rattle.cm_board.specs.Said.{head_of, sub_of}
pub use Rattle.cm_board.specs.Kept.{is_among, is_source}
pub use Rattle.cm_board.specs.Kinds.{has_levels, is_digital, is_dio, is_output, is_unused, may_command, may_fifo}
pub use Rattle.cm_board.specs.Munge.{fits_bits, is_munge, is_plain}
pub use Rattle.cm_board.specs.Records.{ChanText, Masks, SubText, any_list, any_rounding, any_scan, says_any}
pub use Rattle.cm_board.specs.Times.{AreTimers, TimersText, are_divisors, are_rising, can_make, down, up}
pub use Rattle.cm_board.specs.Versions.{is_wide, most_in}

-- timers that can make each time
abbrev pub each_nanosecond : TimersText
each_nanosecond = record { tick = 1; clock = [] }

-- a subdevice of a kind that takes no commands, with this many channels,
-- this greatest code and these ranges, and nothing else
abbrev pub idle_sub : Kind → ℕ → ℕ → List Range → SubText
idle_sub kind channels maxdata ranges = record {
  version = 1;
  kind = kind;
  channels = channels;
  maxdata = maxdata;
  munge = munges.Plain;
  ranges = ranges;
  masks = record { start = 0; scan_begin = 0; convert = 0; scan_end = 0; stop = 0 };
  timers = each_nanosecond;
  scan_min = 1;
  scan_max = 1;
  conv_min = 1;
  conv_max = 1;
  list_max = 1;
  scans_max = 1;
  lines = 0;
  buffer = 1;
  rounding = any_rounding;
  least_scan = any_scan;
  lists = any_list;
  forbidden = [];
  chans = [];
  invert = false;
  fifo = None;
  block = [];
}

-- a place of a board that has no subdevice
abbrev pub no_sub : SubText
no_sub = idle_sub kinds.Unused 0 1 []

-- a board as a plain record
pub record BoardText : Type 0 where
  pub version : ℕ
  pub name : List ℕ
  pub subs : List SubText

-- what stands here of a channel, where something does
abbrev pub set_for : List ChanText → ℕ → Option ChanText
set_for [] chan = None
set_for (c ∷ more) chan = if c.chan == chan then Some c else set_for more chan

-- the greatest code of a channel: its own, where it says one, else that of its subdevice
abbrev pub maxdata_by : Option ChanText → ℕ → ℕ
maxdata_by None whole = whole
maxdata_by (Some c) whole = unwrap_or c.maxdata whole

-- its munge likewise
abbrev pub munge_by : Option ChanText → Munge → Munge
munge_by None whole = whole
munge_by (Some c) whole = unwrap_or c.munge whole

-- a list, where it has items, else another
abbrev pub some_or : {X : Type 0} → List X → List X → List X
some_or [] whole = whole
some_or (x ∷ xs) whole = x ∷ xs

-- its ranges: its own alone, where it has any
abbrev pub ranges_by : Option ChanText → List Range → List Range
ranges_by None whole = whole
ranges_by (Some c) whole = some_or c.ranges whole

-- the greatest code of a channel
unfoldable pub maxdata_of : SubText → ℕ → ℕ
maxdata_of sub chan = maxdata_by (set_for sub.chans chan) sub.maxdata

-- how the words of a channel are munged
unfoldable pub munge_of : SubText → ℕ → Munge
munge_of sub chan = munge_by (set_for sub.chans chan) sub.munge

-- the ranges of a channel
unfoldable pub ranges_of : SubText → ℕ → List Range
ranges_of sub chan = ranges_by (set_for sub.chans chan) sub.ranges

-- how many ranges a channel has
abbrev pub range_count : SubText → ℕ → ℕ
range_count sub chan = length (ranges_of sub chan)

-- the range of a channel with this number, and an empty one where there is none
abbrev pub range_of : SubText → ℕ → ℕ → Range
range_of sub chan index = slice_index_or (ranges_of sub chan) index (record { min = pos 0; max = pos 0; unit = 0 })

-- the external line that an argument names: where lines can be inverted, bit 31 isn't part of its number
abbrev pub external_line : SubText → ℕ → ℕ
external_line sub arg = if sub.invert then arg % 2 ^ 31 else arg

-- whether an external argument asks for the falling edges of its line
abbrev pub is_fall : SubText → ℕ → Bool
is_fall sub arg = sub.invert && arg / 2 ^ 31 % 2 == 1

-- 1 to 64 channels, in the wider texts to 256, and none where the subdevice is unused
abbrev pub has_channels : ℕ → Kind → ℕ → Bool
has_channels version kinds.Unused channels = channels == 0
has_channels version kind channels = nat_le 1 channels && nat_le channels (most_in version 64 256)

-- the greatest number of 1 to 24 bits
abbrev pub is_maxdata : ℕ → Bool
is_maxdata n = list_any (λ bits. n == 2 ^ bits - 1) (range_with_len 1 24)

-- a range is not empty
abbrev pub IsRange : Range → Type 0
IsRange r = r.min <ℤ r.max

-- ends of 32 bits, and one of the three units
abbrev pub fits_range : Range → Bool
fits_range r = is_int r.min && is_int r.max && nat_le r.unit 2

-- an even depth of 2 to 4,096 samples, and a latency of at most a second
abbrev pub is_fifo : Fifo → Bool
is_fifo f = nat_le 2 f.depth && nat_le f.depth 4096 && f.depth % 2 == 0 && nat_le f.latency 1000000000

-- no trigger has a source
abbrev pub are_empty : Masks → Bool
are_empty m = m.start == 0 && m.scan_begin == 0 && m.convert == 0 && m.scan_end == 0 && m.stop == 0

-- a subdevice takes commands where some trigger may have a source
abbrev pub takes_commands : SubText → Bool
takes_commands sub = not (are_empty sub.masks)

-- each trigger has sources of those that it may have on a board of this version
abbrev pub are_full : ℕ → Masks → Bool
are_full version m =
    is_among (set_in version start_sets) m.start
    && is_among (set_in version scan_begin_sets) m.scan_begin
    && is_among (set_in version convert_sets) m.convert
    && is_among (set_in version scan_end_sets) m.scan_end
    && is_among (set_in version stop_sets) m.stop

-- nothing is asked of a list
abbrev pub takes_any_list : ListRules → Bool
takes_any_list l = not l.same_range && not (is_some l.order) && not l.same_reference && not l.same_polarity

-- times are rounded as the flags say
abbrev pub rounds_by_flags : Rounding → Bool
rounds_by_flags r = not (is_some r.own) && not r.half_down

-- nothing is asked of a scan but its limits
abbrev pub takes_any_scan : LeastScan → Bool
takes_any_scan l = l.per_entry == 0 && not l.holds

-- the numbers of a subdevice that takes no commands
abbrev pub is_idle : SubText → Bool
is_idle s =
    are_empty s.masks
    && s.timers.tick == 1
    && length s.timers.clock == 0
    && s.scan_min == 1
    && s.scan_max == 1
    && s.conv_min == 1
    && s.conv_max == 1
    && s.list_max == 1
    && s.scans_max == 1
    && s.lines == 0
    && s.buffer == 1
    && rounds_by_flags s.rounding
    && takes_any_scan s.least_scan
    && takes_any_list s.lists
    && length s.forbidden == 0 && not s.invert && not (is_some s.fifo)

-- an unused subdevice has no ranges, and its words are plain bits
abbrev pub is_bare : SubText → Bool
is_bare s = length s.ranges == 0 && s.maxdata == 1 && is_plain s.munge && length s.chans == 0 && is_idle s

-- two different triggers, each with a source
abbrev pub is_pair : Forbid → Bool
is_pair f = nat_lt f.field 5 && nat_lt f.other 5 && not (f.field == f.other) && is_source f.src && is_source f.other_src

-- a number from 1 on, at most `most`
pub record IsFrom1To (most n : ℕ) : Type 0 where
  pub low : 1 ≤ n
  pub high : n ≤ most

-- both times are on the tick
pub record AreOnTick (tick least most : ℕ) : Type 0 where
  pub least_ticks : least % tick ≡ 0
  pub most_ticks : most % tick ≡ 0

-- two times in their order, with one between them that the board can make;
-- both are multiples of the tick but in the wider texts
pub record AreTimes (sub : SubText) (least most : ℕ) : Type 0 where
  pub some : 1 ≤ least
  pub order : least ≤ most
  pub high : most < 2 ^ 32
  pub possible : up sub.timers least ≤ most
  pub ticks : sub.version ≤ 2 → AreOnTick sub.timers.tick least most

-- where scans may be timed, the longest that the board can make holds so much
abbrev pub FitsTimed : SubText → ℕ → Type 0
FitsTimed sub time = IsTrue (allows sub.masks.scan_begin timer) → time ≤ down sub.timers sub.scan_max

-- the longest scan holds the least conversions of the longest list,
-- and where both are timed the longest that the board can make those that it can make
pub record HoldsList (sub : SubText) : Type 0 where
  pub any : sub.conv_min * sub.list_max ≤ sub.scan_max
  pub timed : IsTrue (allows sub.masks.convert timer) → FitsTimed sub (up sub.timers sub.conv_min * sub.list_max)

-- and the time that it needs for the entries of the longest list
pub record HoldsEntries (sub : SubText) : Type 0 where
  pub small : sub.least_scan.per_entry < 2 ^ 32
  pub any : sub.least_scan.per_entry * sub.list_max ≤ sub.scan_max
  pub timed : FitsTimed sub (sub.least_scan.per_entry * sub.list_max)

-- a trigger that may be external has a line
abbrev pub HasLine : ℕ → ℕ → Type 0
HasLine lines mask = IsTrue (allows mask ext) → 1 ≤ lines

-- what the kind asks: channels, ranges, commands and a FIFO, and nothing of an unused subdevice
abbrev pub fits_kind : SubText → Bool
fits_kind s =
    has_channels s.version s.kind s.channels
    && (is_unused s.kind || nat_le 1 (length s.ranges))
    && (not (is_some s.fifo) || may_fifo s.kind)
    && (not (is_unused s.kind) || is_bare s)

-- a subdevice takes commands by its kind, and by all of its triggers or none
abbrev pub fits_commands : SubText → Bool
fits_commands s = (if takes_commands s then are_full s.version s.masks && may_command s.kind else is_idle s)

-- each number, range, pair and FIFO is one that a line can say
abbrev pub fits_lines : SubText → Bool
fits_lines s =
    is_maxdata s.maxdata
    && is_munge s.munge
    && list_all fits_range s.ranges
    && list_all is_pair s.forbidden
    && list_all is_fifo (option_to_list s.fifo)

-- what only the text of a board looks at
unfoldable pub has_text : SubText → Bool
has_text s = fits_kind s && fits_commands s && fits_lines s

-- a channel of a digital subdevice has one bit, and the munge of each goes with its greatest code
abbrev pub is_channel_ok : SubText → ℕ → Bool
is_channel_ok s chan =
    (not (is_digital s.kind) || maxdata_of s chan == 1)
    && fits_bits (munge_of s chan) (maxdata_of s chan)

-- that holds of each channel
unfoldable pub is_bits_ok : SubText → Bool
is_bits_ok s = list_all (is_channel_ok s) (range_with_len 0 s.channels)

-- what a board may say of one of so many channels
pub record IsSoundChan (channels : ℕ) (c : ChanText) : Type 0 where
  pub within : c.chan < channels
  pub some : IsTrue (says_any c)
  pub maxdata : IsTrue (list_all is_maxdata (option_to_list c.maxdata))
  pub munge : IsTrue (list_all is_munge (option_to_list c.munge))
  pub units : IsTrue (list_all fits_range c.ranges)
  pub ranges : All IsRange c.ranges
  pub few_ranges : length c.ranges ≤ 32

-- these are about rising channels, none below `least`
abbrev pub chans_rise : ℕ → List ChanText → Bool
chans_rise least [] = true
chans_rise least (c ∷ more) = nat_le least c.chan && chans_rise (c.chan + 1) more

-- the limits of a block, and the rules over several of its lines
pub record IsSoundSub (sub : SubText) : Type 0 where
  pub text : IsTrue (has_text sub)
  pub bits : IsTrue (is_bits_ok sub)
  pub largest : IsFrom1To (2 ^ 24 - 1) sub.maxdata
  pub few_channels : sub.channels ≤ 256
  pub few_ranges : length sub.ranges ≤ 32
  pub ranges : All IsRange sub.ranges
  pub timers : AreTimers sub.timers
  pub scan : AreTimes sub sub.scan_min sub.scan_max
  pub convert : AreTimes sub sub.conv_min sub.conv_max
  pub list : IsFrom1To 1024 sub.list_max
  pub list_fits : HoldsList sub
  pub entries_fit : HoldsEntries sub
  pub scans : IsFrom1To (2 ^ 32 - 1) sub.scans_max
  pub few_lines : sub.lines ≤ 64
  pub start_line : HasLine sub.lines sub.masks.start
  pub scan_begin_line : HasLine sub.lines sub.masks.scan_begin
  pub convert_line : HasLine sub.lines sub.masks.convert
  pub scan_end_line : HasLine sub.lines sub.masks.scan_end
  pub stop_line : HasLine sub.lines sub.masks.stop
  pub buffer : IsFrom1To (2 ^ 20) sub.buffer
  pub few_pairs : length sub.forbidden ≤ 16
  pub chans : All (IsSoundChan sub.channels) sub.chans
  pub rise : IsTrue (chans_rise 0 sub.chans)

-- the lines of a block are whole, and the subdevice is what they say
pub record IsSaid (sub : SubText) : Type 0 where
  pub whole : IsWhole board_table (head_of sub) sub.block
  pub says : sub_of (head_of sub) sub.block ≡ sub

-- that of a subdevice, which only its text looks at
unfoldable pub IsBlock : SubText → Type 0
IsBlock sub = IsSaid sub

-- a subdevice as a text describes it: within the limits, and what its lines say
pub record IsSaidSub (sub : SubText) : Type 0 where
  pub sound : IsSoundSub sub
  pub block : IsBlock sub

-- what holds of the numbers of each channel
pub record IsChannel (maxdata : ℕ) (munge : Munge) (ranges : List Range) : Type 0 where
  pub largest : IsFrom1To (2 ^ 24 - 1) maxdata
  pub munge_fits : IsTrue (is_munge munge)
  pub bits_fit : IsTrue (fits_bits munge maxdata)
  pub some : 1 ≤ length ranges
  pub few : length ranges ≤ 32
  pub proper : All IsRange ranges

-- version 1 or 2, or 3 for the wider texts, a name of 1 to 32 printable bytes, and 1 to 16 subdevices of this version
pub record IsSoundBoard (board : BoardText) : Type 0 where
  pub version : IsFrom1To 3 board.version
  pub name : IsFrom1To 32 (length board.name)
  pub printable : IsTrue (list_all is_printable board.name)
  pub subs : IsFrom1To 16 (length board.subs)
  pub blocks : IsTrue (list_all (λ sub. sub.version == board.version) board.subs)
