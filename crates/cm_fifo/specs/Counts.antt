-- How many conversions of a whole expansion were handed over by a time.
use Rattle.std.specs.Prelude.{ℕ, zero, suc, ◌+◌, ◌-◌, ◌/◌, min, nat_le, nat_lt, length, slice_get, Option, Some, None}
use Rattle.std.specs.Prelude.{if◌then◌else◌}
use Rattle.cm_board.specs.declared.board.Fifo.{Fifo}
use Rattle.cm_expand.specs.Items.{items_of}
use Rattle.cm_expand.specs.Plan.{PlanText}
use Rattle.cm_expand.specs.Taking.{come}
use Rattle.cm_fifo.specs.Handed.{NextEvent, Nothing, Drains, Overflows, last_of, time_or, unless_lost}

-- when a drain is requested once `q` conversions were handed over
abbrev pub request_at : Fifo → PlanText → ℕ → ℕ
request_at f p q = time_or (last_of p) (slice_get (items_of p) (q + (f.depth / 2 - 1)))

-- and when it comes
abbrev pub drain_at : Fifo → PlanText → ℕ → ℕ
drain_at f p q = min (request_at f p q + f.latency) p.signals.horizon

-- what comes next: a drain of all conversions that have come by its time,
-- so that so many were then handed over of the whole expansion, or an overflow
abbrev pub next_at : Fifo → PlanText → ℕ → NextEvent
next_at f p q =
    if nat_lt q (length (items_of p))
    then unless_lost (slice_get (items_of p) (q + f.depth)) (drain_at f p q) (come (drain_at f p q) (items_of p))
    else Nothing

-- how many were handed over by a time, where `later` says it of what follows a drain
abbrev pub count_by : NextEvent → ℕ → ℕ → ℕ → (ℕ → ℕ) → ℕ
count_by Nothing t q depth later = q
count_by (Drains time whole) t q depth later = if nat_le time t then later whole else q
count_by (Overflows time) t q depth later = if nat_le time t then q + depth else q

-- the same from `q` on, in so many drains at most
abbrev pub count_from : Fifo → PlanText → ℕ → ℕ → ℕ → ℕ
count_from f p t zero q = q
count_from f p t (suc more) q = count_by (next_at f p q) t q f.depth (count_from f p t more)

-- and from the first conversion on
abbrev pub count_of : Fifo → PlanText → ℕ → ℕ
count_of f p t = count_from f p t (length (items_of p)) 0

-- when a conversion is lost
abbrev pub loss_by : NextEvent → (ℕ → Option ℕ) → Option ℕ
loss_by Nothing later = None
loss_by (Drains time whole) later = later whole
loss_by (Overflows time) later = Some time

-- the same from `q` on, in so many drains at most
abbrev pub loss_from : Fifo → PlanText → ℕ → ℕ → Option ℕ
loss_from f p zero q = None
loss_from f p (suc more) q = loss_by (next_at f p q) (loss_from f p more)

-- and from the first conversion on
abbrev pub loss_of : Fifo → PlanText → Option ℕ
loss_of f p = loss_from f p (length (items_of p)) 0
