-- What the lines of a block say of its subdevice.
use Rattle.std.specs.Prelude.{ℕ, ℤ, zero, suc, pos, ◌+◌, ◌-◌, ◌*◌, ◌^◌, ◌==◌, min, not, Bool, List, [], ◌∷◌, filter}
use Rattle.std.specs.Prelude.{length, map, Option, Some, None}
use Rattle.std.specs.List.{range_with_len}
use Rattle.cm_board.specs.BoardTable.{board_rows}
use Rattle.cm_board.specs.Items.{ItemText}
use Rattle.cm_board.specs.Munge.{munge_by_form}
use Rattle.cm_board.specs.Records.{ChanText, Masks, SubText, says_any}
use Rattle.cm_board.specs.Rows as rows
use Rattle.cm_board.specs.Slots.{is_empty, of_row}
use Rattle.cm_board.specs.declared.board.Divisors.{Divisors}
use Rattle.cm_board.specs.Times.{TimersText}
use Rattle.cm_board.specs.declared.board.Fifo.{Fifo}
use Rattle.cm_board.specs.declared.board.Forbid.{Forbid}
use Rattle.cm_board.specs.declared.board.LeastScan.{LeastScan}
use Rattle.cm_board.specs.declared.board.ListOrder.{ListOrder}
use Rattle.cm_board.specs.declared.board.ListRules.{ListRules}
use Rattle.cm_board.specs.declared.munge.Munge.{Munge}
use Rattle.cm_board.specs.declared.munge.Munge.TheVariants as munges
use Rattle.cm_board.specs.declared.board.Order.{Order}
use Rattle.cm_board.specs.declared.board.Order.TheVariants as orders
use Rattle.cm_board.specs.declared.board.Range.{Range}
use Rattle.cm_board.specs.declared.board.Rounding.{Rounding}
use Rattle.cm_board.specs.declared.board.Way.{Way}
use Rattle.cm_board.specs.declared.board.Way.TheVariants as ways
use Rattle.cm_board.specs.declared.table.Head.{Head}
use Rattle.cm_board.specs.declared.table.Value.{Value}
use Rattle.cm_board.specs.declared.table.Value.TheVariants as values_of

-- the number at a place of a line's values
abbrev pub number_at : ℕ → List Value → ℕ
number_at zero (values_of.Number n ∷ values) = n
number_at (suc k) (v ∷ values) = number_at k values
number_at k values = 0

-- the signed number at a place
abbrev pub signed_at : ℕ → List Value → ℤ
signed_at zero (values_of.Signed z ∷ values) = z
signed_at (suc k) (v ∷ values) = signed_at k values
signed_at k values = pos 0

-- the place of the name at a place
abbrev pub name_at : ℕ → List Value → ℕ
name_at zero (values_of.Name n ∷ values) = n
name_at (suc k) (v ∷ values) = name_at k values
name_at k values = 0

-- the first of these
abbrev pub first_of : {X : Type 0} → List X → Option X
first_of [] = None
first_of (x ∷ more) = Some x

-- the first of these, or what holds without one
abbrev pub first_or : {X : Type 0} → X → List X → X
first_or default [] = default
first_or default (x ∷ more) = x

-- a number of the line of a row, or what holds without the line
abbrev pub number_of : ℕ → ℕ → ℕ → List ItemText → ℕ
number_of row word default items = first_or default (map (λ item. number_at word item.values) (of_row row items))

-- whether the line of a row stands in the block
abbrev pub has_line : ℕ → List ItemText → Bool
has_line row items = not (is_empty (of_row row items))

-- the greatest code of so many bits, 24 at most
abbrev pub greatest : ℕ → ℕ
greatest bits = 2 ^ min 24 bits - 1

-- the unit of a range, none but 0, 1 and 2
abbrev pub unit_of : ℕ → ℕ
unit_of n = min 2 n

-- the ends of a range and its unit, from a place on
abbrev pub range_said : ℕ → ItemText → Range
range_said k item =
    record {
      min = signed_at k item.values;
      max = signed_at (k + 1) item.values;
      unit = unit_of (number_at (k + 2) item.values);
    }

-- two triggers that may not have these sources together; a trigger is one of five
abbrev pub forbid_said : ItemText → Forbid
forbid_said item = record {
  field = min 4 (name_at 0 item.values);
  src = number_at 1 item.values;
  other = min 4 (name_at 2 item.values);
  other_src = number_at 3 item.values;
}

-- a FIFO's depth and latency
abbrev pub fifo_said : ItemText → Fifo
fifo_said item = record { depth = number_at 0 item.values; latency = number_at 1 item.values }

-- an order by its number among their names
abbrev pub order_named : ℕ → Order
order_named zero = orders.Consecutive
order_named (suc zero) = orders.Straight
order_named (suc (suc zero)) = orders.First
order_named (suc (suc (suc zero))) = orders.Rising
order_named n = orders.Distinct

-- the order of a list, which may be repeated
abbrev pub order_said : ItemText → ListOrder
order_said item = record { order = order_named (name_at 0 item.values); repeats = item.form == rows.repeated_form }

-- what a list keeps
abbrev pub lists_said : List ItemText → ListRules
lists_said items = record {
  same_range = has_line rows.same_range items;
  order = first_of (map order_said (of_row rows.order items));
  same_reference = has_line rows.same_reference items;
  same_polarity = has_line rows.same_polarity items;
}

-- a way of rounding by its number among their names
abbrev pub way_named : ℕ → Way
way_named zero = ways.Nearest
way_named (suc zero) = ways.Down
way_named n = ways.Up

-- the counters of a line
abbrev pub counters_in : List Value → List Divisors
counters_in [] = []
counters_in (values_of.Divisors d ∷ values) = d ∷ counters_in values
counters_in (v ∷ values) = counters_in values

-- the timers of the board, with the counters of its clock where it has one
abbrev pub timers_said : List ItemText → TimersText
timers_said items = record {
  tick = number_of rows.tick 0 1 items;
  clock = first_or [] (map (λ item. counters_in item.values) (of_row rows.clock items));
}

-- how times are rounded
abbrev pub rounding_said : List ItemText → Rounding
rounding_said items = record {
  own = first_of (map (λ item. way_named (name_at 0 item.values)) (of_row rows.rounds items));
  half_down = has_line rows.half_down items;
}

-- what a timed scan holds at least
abbrev pub least_scan_said : List ItemText → LeastScan
least_scan_said items = record { per_entry = number_of rows.per_entry 0 0 items; holds = has_line rows.holds items }

-- the place of a row of channels
abbrev pub channel_place : ℕ → ℕ → ℕ
channel_place chan row = (chan + 1) * length board_rows + row

-- the munge that a line says, by the first form of its row and the place of a shift among its values
abbrev pub munge_said : ℕ → ℕ → ItemText → Munge
munge_said first k item = munge_by_form (item.form - first) (number_at k item.values)

-- what is said of one channel
abbrev pub set_said : List ItemText → ℕ → ChanText
set_said items chan = record {
  chan = chan;
  maxdata =
      first_of (map (λ item. greatest (number_at 1 item.values)) (of_row (channel_place chan rows.chan_bits) items));
  munge = first_of (map (munge_said rows.chan_munge_form 1) (of_row (channel_place chan rows.chan_munge) items));
  ranges = map (range_said 1) (of_row (channel_place chan rows.chan_range) items);
}

-- the channels of which something is said, out of so many
abbrev pub sets_said : ℕ → List ItemText → List ChanText
sets_said channels items = filter says_any (map (set_said items) (range_with_len 0 channels))

-- the sources that each trigger may have, none where no line says it
abbrev pub masks_said : List ItemText → Masks
masks_said items = record {
  start = number_of rows.sources 0 0 items;
  scan_begin = number_of rows.sources 1 0 items;
  convert = number_of rows.sources 2 0 items;
  scan_end = number_of rows.sources 3 0 items;
  stop = number_of rows.sources 4 0 items;
}

-- the subdevice that the lines of a whole block describe
abbrev pub sub_of : Head → List ItemText → SubText
sub_of head items = record {
  version = head.version;
  kind = head.kind;
  channels = head.channels;
  maxdata = greatest (number_of rows.bits 0 1 items);
  munge = first_or munges.Plain (map (munge_said rows.munge_form 0) (of_row rows.munge items));
  ranges = map (range_said 0) (of_row rows.range items);
  masks = masks_said items;
  timers = timers_said items;
  scan_min = number_of rows.scan 0 1 items;
  scan_max = number_of rows.scan 1 1 items;
  conv_min = number_of rows.convert 0 1 items;
  conv_max = number_of rows.convert 1 1 items;
  list_max = number_of rows.list 0 1 items;
  scans_max = number_of rows.scans 0 1 items;
  lines = number_of rows.lines 0 0 items;
  buffer = number_of rows.buffer 0 1 items;
  rounding = rounding_said items;
  least_scan = least_scan_said items;
  lists = lists_said items;
  forbidden = map forbid_said (of_row rows.forbid items);
  chans = sets_said head.channels items;
  invert = has_line rows.invert items;
  fifo = first_of (map fifo_said (of_row rows.fifo items));
  block = items;
}

-- the head of a subdevice's block
abbrev pub head_of : SubText → Head
head_of sub = record { version = sub.version; kind = sub.kind; channels = sub.channels }
