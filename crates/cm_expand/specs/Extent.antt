-- How long the scans of a timing are.
use Rattle.std.specs.Prelude.{◌≡◌, ℕ, ◌+◌, ◌≤◌, true, Some}
use Rattle.cm_expand.specs.Timing.{Timing, scan_end, is_full}

-- each scan ends `end` after its begin, and lacks no conversion where `last` after its begin isn't above the horizon
pub record IsExtent (c : Timing) (last end : ℕ) : Type 0 where
  pub some : 1 ≤ end
  pub ends : (begin : ℕ) → scan_end c.converts c.per_scan begin ≡ Some (begin + end)
  pub full : (begin : ℕ) → begin + last ≤ c.horizon → is_full c begin ≡ true
