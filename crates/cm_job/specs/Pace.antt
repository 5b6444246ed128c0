-- Timings whose scans are all alike.
use Rattle.std.specs.Prelude.{◌≡◌, ℕ, ◌+◌, ◌-◌, ◌*◌, ◌<◌, ◌≤◌}
use Rattle.cm_expand.specs.Timing.{Timing, Every, Converts, AtOnce, Spaced, PerEdge}

-- how far apart the conversions of a scan are, where no edges decide it
abbrev pub IsGap : Converts → ℕ → Type 0
IsGap AtOnce gap = gap ≡ 0
IsGap (Spaced apart) gap = gap ≡ apart
IsGap (PerEdge edges) gap = ⊥

-- scans begin a period apart and take no longer than that, and `most` of them are over before `until`
pub record IsPace (c : Timing) (period gap : ℕ) : Type 0 where
  pub begins : c.begins ≡ Every period
  pub converts : IsGap c.converts gap
  pub short : c.per_scan * gap ≤ period
  pub whole : c.start + (c.most - 1) * period + c.per_scan * gap < c.until
