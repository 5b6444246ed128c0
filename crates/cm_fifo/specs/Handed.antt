-- What a board with a FIFO of its own hands over, and when.
use Rattle.std.specs.Prelude.{ℕ, zero, suc, ◌+◌, ◌-◌, ◌/◌, min, max, Bool, nat_le, List, [], ◌∷◌, ◌++◌, length, map}
use Rattle.std.specs.Prelude.{take, drop, slice_get, Option, Some, None, if◌then◌else◌}
use Rattle.cm_board.specs.declared.board.Fifo.{Fifo}
use Rattle.cm_expand.specs.Items.{items_of}
use Rattle.cm_expand.specs.Plan.{PlanText, is_complete, stop_edge_of}
use Rattle.cm_expand.specs.Taking.{come}
use Rattle.cm_expand.specs.declared.conv.Conv.{Conv}

-- conversions, each at the time at which it is handed over, and when the one after them is lost
pub record Handed : Type 0 where
  pub arrivals : List Conv
  pub lost_at : Option ℕ

-- what comes next: nothing, a drain at a time of so many conversions, or an overflow at a time
pub data NextEvent : Type 0 where
  Nothing : NextEvent
  Drains : (time count : ℕ) → NextEvent
  Overflows : (time : ℕ) → NextEvent

-- a conversion that is handed over at a time
abbrev pub at_time : ℕ → Conv → Conv
at_time time c = record c { time = time }

-- the time of a conversion, where there is one
abbrev pub time_or : ℕ → Option Conv → ℕ
time_or other None = other
time_or other (Some c) = c.time

-- when a drain is requested: at the conversion that makes the FIFO half full, and without one at the last request
abbrev pub request : Fifo → ℕ → List Conv → ℕ
request f last left = time_or last (slice_get left (f.depth / 2 - 1))

-- and when the drain comes: a while later, and by the horizon
abbrev pub drain_time : Fifo → ℕ → ℕ → List Conv → ℕ
drain_time f last horizon left = min (request f last left + f.latency) horizon

-- a drain, unless a conversion that finds the FIFO full comes by its time
abbrev pub unless_lost : Option Conv → ℕ → ℕ → NextEvent
unless_lost None time count = Drains time count
unless_lost (Some c) time count = if nat_le c.time time then Overflows c.time else Drains time count

-- what comes next where these conversions are left: a drain of all that have come by its time,
-- or an overflow by the first one that the FIFO has no room for
abbrev pub next_event : Fifo → ℕ → ℕ → List Conv → NextEvent
next_event f last horizon [] = Nothing
next_event f last horizon (c ∷ left) =
    unless_lost (slice_get (c ∷ left) f.depth) (drain_time f last horizon (c ∷ left))
    (come (drain_time f last horizon (c ∷ left)) (c ∷ left))

-- nothing is handed over, and nothing is lost
abbrev pub nothing : Handed
nothing = record { arrivals = []; lost_at = None }

-- some conversions are handed over at a time, and others later
abbrev pub and_then : ℕ → List Conv → Handed → Handed
and_then time conversions rest = record {
  arrivals = map (at_time time) conversions ++ rest.arrivals;
  lost_at = rest.lost_at;
}

-- what is handed over by what comes next and by the drains after it
abbrev pub handed_by : NextEvent → ℕ → List Conv → (List Conv → Handed) → Handed
handed_by Nothing depth left later = nothing
handed_by (Drains time count) depth left later = and_then time (take count left) (later (drop count left))
handed_by (Overflows time) depth left later = record {
  arrivals = map (at_time time) (take depth left);
  lost_at = Some time;
}

-- what is handed over of the conversions that are left, by so many drains at most
abbrev pub handed : Fifo → ℕ → ℕ → ℕ → List Conv → Handed
handed f last horizon zero left = nothing
handed f last horizon (suc more) left =
    handed_by (next_event f last horizon left) f.depth left (handed f last horizon more)

-- the time of the last conversion
abbrev pub last_time : List Conv → ℕ
last_time conversions = time_or 0 (slice_get conversions (length conversions - 1))

-- the later of a time and the stop edge, where there is one
abbrev pub later : ℕ → Option ℕ → ℕ
later time None = time
later time (Some edge) = max time edge

-- the last request: at the last conversion of a complete expansion,
-- or the stop edge where that is later, and otherwise at the horizon
abbrev pub last_request : Bool → Option ℕ → ℕ → List Conv → ℕ
last_request complete edge horizon conversions = if complete then later (last_time conversions) edge else horizon

-- the same for the expansion of a plan
abbrev pub last_of : PlanText → ℕ
last_of p = last_request (is_complete p) (stop_edge_of p) p.signals.horizon (items_of p)

-- what is handed over of an expansion after so many of its conversions, by so many drains at most
abbrev pub handed_after : Fifo → PlanText → ℕ → ℕ → Handed
handed_after f p place more = handed f (last_of p) p.signals.horizon more (drop place (items_of p))

-- what is handed over of the expansion of a plan: each drain hands over one conversion at least
abbrev pub handed_of : PlanText → Fifo → Handed
handed_of p f = handed f (last_of p) p.signals.horizon (length (items_of p)) (items_of p)
