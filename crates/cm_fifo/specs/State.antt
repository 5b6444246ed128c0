-- What contracts see of a board with a FIFO.
use Rattle.std.specs.Prelude.{◌≡◌, ℕ, ◌+◌, ◌-◌, ◌<◌, ◌≤◌, Bool, true, false, List, length, drop, Option, Some, None}
use Rattle.std.specs.Prelude.{if◌then◌else◌}
use Rattle.circular_buffer.specs.Buffer.{Buffer}
use Rattle.cm_board.specs.declared.board.Fifo.{Fifo}
use Rattle.cm_expand.specs.Board.{BoardState}
use Rattle.cm_expand.specs.Fit.{IsExpansion}
use Rattle.cm_expand.specs.Items.{items_of}
use Rattle.cm_expand.specs.Plan.{PlanText}
use Rattle.cm_expand.specs.declared.conv.Conv.{Conv}
use Rattle.cm_fifo.specs.Handed.{NextEvent, Nothing, Drains, Overflows, next_event, last_of}
use Rattle.cm_fifo.specs.Held.{IsEarly, IsFilled, IsSize}
use Rattle.cm_fifo.specs.declared.board.FifoStep.{FifoStep}
use Rattle.cm_fifo.specs.declared.board.FifoStep.TheVariants as steps
use Rattle.cm_fifo.specs.declared.requests.Look.{Look}
use Rattle.cm_fifo.specs.declared.requests.Look.TheVariants as looks

-- how many drains there were, how many conversions were taken,
-- and how many more are ready, and whether a conversion was lost
pub record FifoState : Type 0 where
  pub plan : PlanText
  pub fifo : Fifo
  pub drains : ℕ
  pub taken : ℕ
  pub ready : ℕ
  pub over : Bool

-- the conversions that weren't handed over
abbrev pub left_after : FifoState → List Conv
left_after b = drop (b.taken + b.ready) (items_of b.plan)

-- what comes next; after an overflow nothing does
abbrev pub next_of : FifoState → NextEvent
next_of b = if b.over then Nothing else next_event b.fifo (last_of b.plan) b.plan.signals.horizon (left_after b)

-- when it comes
abbrev pub time_of : NextEvent → Option ℕ
time_of Nothing = None
time_of (Drains time count) = Some time
time_of (Overflows time) = Some time

-- nothing comes up to a time
abbrev pub IsLater : NextEvent → ℕ → Type 0
IsLater Nothing to = Unit {0}
IsLater (Drains time count) to = to < time
IsLater (Overflows time) to = to < time

-- a step up to a time
abbrev pub HasGone : FifoStep → ℕ → FifoState → FifoState → Type 0
HasGone steps.Idle to old new = (new ≡ old) × IsLater (next_of old) to
HasGone (steps.Drained time count) to old new =
    (time ≤ to)
    × (1 ≤ count)
    × (next_of old ≡ Drains time count)
    × (new ≡ record old { drains = old.drains + 1; ready = count })
HasGone (steps.Overflow time place) to old new =
    (time ≤ to)
    × (next_of old ≡ Overflows time)
    × (place ≡ old.taken + old.fifo.depth)
    × (new ≡ record old { ready = old.fifo.depth; over = true })

-- what each board with a FIFO keeps
pub record IsSoundFifo (b : FifoState) : Type 0 where
  pub expansion : IsExpansion b.plan
  pub size : IsSize b.fifo
  pub within : b.taken + b.ready ≤ length (items_of b.plan)
  pub few : b.ready ≤ b.fifo.depth
  pub drains : b.drains ≤ b.taken + b.ready

-- what was found by a look, where so many are held
abbrev pub IsLook : Look → NextEvent → ℕ → ℕ → Type 0
IsLook looks.Nothing c count depth = c ≡ Nothing
IsLook (looks.Drains time) c count depth = (c ≡ Drains time count) × (1 ≤ count)
IsLook (looks.Overflows time) c count depth = (c ≡ Overflows time) × (count ≡ depth)

-- how many are ready of those that are held
abbrev pub ready_of : Bool → List Conv → ℕ
ready_of is_ready cells = if is_ready then length cells else 0

-- what a board with a FIFO keeps of its parts: what is held and isn't ready comes by the next drain
pub record IsFifo
    (f : Fifo) (horizon : ℕ) (edge : Option ℕ) (board : BoardState) (cells : Buffer Conv) (drains : ℕ) (is_ready : Bool)
    : Type 0 where
  pub filled : IsFilled f horizon edge board cells
  pub early : is_ready ≡ false → IsEarly f board cells.items
  pub counted : drains ≤ board.place - length cells.items + ready_of is_ready cells.items
