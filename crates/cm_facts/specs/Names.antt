-- The words that stand for what a board can be.
use Rattle.std.specs.Prelude.{ℕ, zero, suc, Bool, false, List, [], ◌∷◌, codes, Option, Some, None, if◌then◌else◌}
use Rattle.std.specs.Fmt.{decimal}
use Rattle.cm_board.specs.declared.board.ListOrder.{ListOrder}
use Rattle.cm_board.specs.declared.board.Order.{Order}
use Rattle.cm_board.specs.declared.board.Order.TheVariants as orders
use Rattle.cm_board.specs.declared.board.Way.{Way}
use Rattle.cm_board.specs.declared.board.Way.TheVariants as ways
use Rattle.cm_board.specs.declared.munge.Munge.{Munge}
use Rattle.cm_board.specs.declared.munge.Munge.TheVariants as munges
use Rattle.cm_signal.specs.declared.wave.Wave.{Wave}
use Rattle.cm_signal.specs.declared.wave.Wave.TheVariants as waves

-- whether something holds
abbrev pub yes_or_no : Bool → List ℕ
yes_or_no holds = if holds then codes "yes" else codes "no"

-- how words of the buffer are munged, with the bits of a shift
abbrev pub munge_words : Munge → List (List ℕ)
munge_words munges.Plain = codes "none" ∷ []
munge_words munges.Offset = codes "offset" ∷ []
munge_words munges.Swap16 = codes "swap16" ∷ []
munge_words (munges.Left bits) = codes "left" ∷ decimal bits ∷ []

-- a trigger by its number
abbrev pub trigger_name : ℕ → List ℕ
trigger_name zero = codes "start"
trigger_name (suc zero) = codes "scan_begin"
trigger_name (suc (suc zero)) = codes "convert"
trigger_name (suc (suc (suc zero))) = codes "scan_end"
trigger_name n = codes "stop"

-- how times are rounded: as the flags of a command say, or in the board's own way
abbrev pub rounding_name : Option Way → List ℕ
rounding_name None = codes "flags"
rounding_name (Some ways.Nearest) = codes "nearest"
rounding_name (Some ways.Down) = codes "down"
rounding_name (Some ways.Up) = codes "up"

-- how the channels of a list follow each other
abbrev pub order_name : Order → List ℕ
order_name orders.Consecutive = codes "consecutive"
order_name orders.Straight = codes "straight"
order_name orders.First = codes "first"
order_name orders.Rising = codes "rising"
order_name orders.Distinct = codes "distinct"

-- the order that is asked of a list, if one is
abbrev pub list_order_name : Option ListOrder → List ℕ
list_order_name None = codes "any"
list_order_name (Some order) = order_name order.order

-- whether a list may repeat entries in this order
abbrev pub may_repeat : Option ListOrder → Bool
may_repeat None = false
may_repeat (Some order) = order.repeats

-- the kind of a wave
abbrev pub wave_name : Wave → List ℕ
wave_name (waves.Const level) = codes "const"
wave_name (waves.Square low high period) = codes "square"
wave_name (waves.Saw low high period) = codes "saw"
wave_name (waves.Table period levels) = codes "table"
wave_name (waves.Record period levels) = codes "record"
