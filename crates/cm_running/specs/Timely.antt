-- When what is planned for a command reaches its buffer.
use Rattle.std.specs.Prelude.{◌≡◌, ℕ, ◌<◌, ◌≤◌, false, length, Some, None}
use Rattle.cm_expand.specs.Plan.{start_of}
use Rattle.cm_expand.specs.Taking.{NeverFalls}
use Rattle.cm_fifo.specs.Law.{IsNext}
use Rattle.cm_running.specs.Running.{Schedule, arrived}
use Rattle.cm_running.specs.Triggering.{has_come}

-- nothing reaches the buffer before the start, and all that reaches it does so in order,
-- up to the horizon; that is the whole expansion, or less where one is lost after it.
-- The one that is lost is the next conversion, and it is lost when it comes
pub record IsTimely (s : Schedule) : Type 0 where
  pub order : NeverFalls s.arrivals
  pub early : (time : ℕ) → has_come (start_of s.plan) time ≡ false → arrived s time ≡ 0
  pub cut : arrived s s.horizon ≡ length s.arrivals
  pub within : length s.arrivals ≤ length s.conversions
  pub whole : s.lost_at ≡ None → length s.arrivals ≡ length s.conversions
  pub lost : (time : ℕ) → s.lost_at ≡ Some time
      → (time ≤ s.horizon) × (arrived s time ≡ length s.arrivals) × (length s.arrivals < length s.conversions)
  pub next : (time : ℕ) → s.lost_at ≡ Some time → IsNext s.conversions s.arrivals time
