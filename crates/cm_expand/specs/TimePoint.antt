-- A conversion of a timing, with what the next one is found from.
use Rattle.std.specs.Prelude.{◌≡◌, ℕ, ◌+◌, ◌-◌, ◌%◌, ◌<◌, ◌≤◌, Bool, true, false, List, [], ◌∷◌, ◌++◌, length, flat_map}
use Rattle.std.specs.Prelude.{slice_index, Option, Some}
use Rattle.cm_expand.specs.Timing.{Timing, Begins, Every, OnEdges, Converts, PerEdge, soonest}
use Rattle.cm_expand.specs.Timing.{conversion, as_long_as, scan, are_full, begins_from, next_begin}
use Rattle.cm_expand.specs.declared.timing.Next.{Next}
use Rattle.cm_expand.specs.declared.timing.Next.TheVariants.{At, Done, Cut}
use Rattle.cm_expand.specs.declared.timing.TimePoint.{TimePoint}

-- the edges before a place are below a time, and the others aren't
pub record IsCut (edges : List ℕ) (at time : ℕ) : Type 0 where
  pub within : at ≤ length edges
  pub below : (k : ℕ) → k < at → slice_index edges k < time
  pub above : (k : ℕ) → at ≤ k → k < length edges → time ≤ slice_index edges k

-- the edges at which scans begin
abbrev pub begin_edges : Begins → List ℕ
begin_edges (OnEdges edges) = edges
begin_edges other = []

-- the edges at which conversions come
abbrev pub convert_edges : Converts → List ℕ
convert_edges (PerEdge edges) = edges
convert_edges other = []

-- for scans that begin in a period, a time is a number of periods after the start
abbrev pub IsTick : Begins → ℕ → ℕ → Type 0
IsTick (Every period) start time = (time - start) % period ≡ 0
IsTick other start time = Unit {0}

-- the first time not below another at which a scan may begin, with the place of its edge
pub record IsSoonest (begins : Begins) (start from time at : ℕ) : Type 0 where
  pub is : soonest begins start from ≡ Some time
  pub low : from ≤ time
  pub tick : IsTick begins start time
  pub cut : IsCut (begin_edges begins) at time

-- a scan begins at a time, and the edges before a place are below it
pub record IsBegin (c : Timing) (time at : ℕ) : Type 0 where
  pub since : c.start ≤ time
  pub tick : IsTick c.begins c.start time
  pub before_end : time < c.until
  pub cut : IsCut (begin_edges c.begins) at time

-- a conversion of a timing, the places of its scan in the lists of edges, and that its scan lacks none before it
pub record IsTimePoint (c : Timing) (point : TimePoint) : Type 0 where
  pub index : point.index < c.per_scan
  pub here : conversion c point.begin point.index ≡ Some point.time
  pub begin : IsBegin c point.begin point.begin_at
  pub convert_at : IsCut (convert_edges c.converts) point.convert_at point.begin
  pub counted :
      length (scan c point.begin)
      ≡ point.index + length (as_long_as (conversion c point.begin) point.index (c.per_scan - point.index))

-- the conversions of `left` scans at most, from one that begins at a time
abbrev pub scans_from : Timing → ℕ → Option ℕ → List ℕ
scans_from c left begin = flat_map (scan c) (begins_from c left begin)

-- the conversions from this one on
abbrev pub rest_from : Timing → TimePoint → List ℕ
rest_from c point =
    as_long_as (conversion c point.begin) point.index (c.per_scan - point.index)
    ++ scans_from c point.left (next_begin c point.begin)

-- a fact of the next conversion, where there is one
abbrev pub IfAt : Next → (TimePoint → Type 0) → Type 0
IfAt (At point) P = P point
IfAt next P = Unit {0}

-- the times of the next conversion and those after it
abbrev pub rest_of : Timing → Next → List ℕ
rest_of c (At point) = rest_from c point
rest_of c next = []

-- whether the scan of a point and those after it have all their conversions
abbrev pub full_from : Timing → TimePoint → Bool
full_from c point = are_full c (point.begin ∷ begins_from c point.left (next_begin c point.begin))

-- the same of the next conversion; where there is none, whether no scan was cut
abbrev pub full_of : Timing → Next → Bool
full_of c (At point) = full_from c point
full_of c Done = true
full_of c Cut = false
