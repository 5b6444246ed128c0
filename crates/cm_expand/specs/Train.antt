-- Conversions at even distances.
use Rattle.std.specs.Prelude.{◌≡◌, ℕ, ◌+◌, ◌-◌, ◌*◌, ◌%◌, ◌<◌, ◌≤◌, ◌^◌, ◌++◌, [], Some}
use Rattle.cm_signal.specs.Adding.{progression}
use Rattle.cm_expand.specs.Timing.{Timing, Every, conversion_time, next_begin}
use Rattle.cm_expand.specs.Extent.{IsExtent}
use Rattle.cm_expand.specs.TimePoint.{IsTimePoint, convert_edges, full_from, rest_from}
use Rattle.cm_expand.specs.declared.timing.TimePoint.{TimePoint}
use Rattle.cm_expand.specs.declared.train.Train.{Train}

-- scans of one conversion, which comes as its scan begins, take so long
pub record IsWidth (c : Timing) (width : ℕ) : Type 0 where
  pub at_begin : (begin : ℕ) → conversion_time c.converts begin 0 ≡ Some begin
  pub no_edges : convert_edges c.converts ≡ []
  pub extent : IsExtent c 0 width

-- scans of one conversion, which comes as its scan begins, a period after the one before
pub record IsEven (c : Timing) (period : ℕ) : Type 0 where
  pub begins : c.begins ≡ Every period
  pub some : 1 ≤ period
  pub short : period < 2 ^ 32
  pub one : c.per_scan ≡ 1
  pub at_begin : (begin : ℕ) → conversion_time c.converts begin 0 ≡ Some begin
  pub no_edges : convert_edges c.converts ≡ []
  pub next : (begin : ℕ) → c.start ≤ begin → (begin - c.start) % period ≡ 0 → begin + period < c.until
      → next_begin c begin ≡ Some (begin + period)

-- a conversion and those after it up to another one: each a step after the one before, all of one list entry
pub record IsTrain (c : Timing) (point : TimePoint) (t : Train) : Type 0 where
  pub some : 1 ≤ t.count
  pub entry : (k : ℕ) → k < t.count → (point.index + k) % c.per_scan ≡ point.index
  pub times : rest_from c point ≡ progression point.time t.step (t.count - 1) ++ rest_from c t.last
  pub time : t.last.time ≡ point.time + (t.count - 1) * t.step
  pub index : t.last.index ≡ point.index
  pub is : IsTimePoint c t.last
  pub full : full_from c point ≡ full_from c t.last
