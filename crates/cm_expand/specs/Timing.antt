-- When the scans of a command begin, and when their conversions come.
use Rattle.std.specs.Prelude.{ℕ, zero, suc, ◌+◌, ◌-◌, ◌*◌, ◌<◌, ◌≤◌, ◌^◌, Bool, if◌then◌else◌, nat_le, nat_lt}
use Rattle.std.specs.Prelude.{List, [], ◌∷◌, filter, length, flat_map, slice_get, Option, Some, None}
use Rattle.std.specs.Prelude.{option_map, option_and_then, ◌==◌}
use Rattle.std.specs.Int.{div_ceil}
use Rattle.std.specs.List.{list_all}
use Rattle.cm_signal.specs.Signals.{AreEdges}

-- when a scan may begin: a whole number of periods after the start, at an edge, or at any time
pub data Begins : Type 0 where
  Every : ℕ → Begins
  OnEdges : List ℕ → Begins
  AnyTime : Begins

-- when the conversions of a scan come: with its begin, a gap apart, or one at each edge
pub data Converts : Type 0 where
  AtOnce : Converts
  Spaced : ℕ → Converts
  PerEdge : List ℕ → Converts

-- what decides the times of a command: `per_scan` conversions a scan,
-- and at most `most` scans, each begun before `until`
pub record Timing : Type 0 where
  pub start : ℕ
  pub begins : Begins
  pub converts : Converts
  pub per_scan : ℕ
  pub most : ℕ
  pub until : ℕ
  pub horizon : ℕ

-- the edges not below a time
abbrev pub edges_from : List ℕ → ℕ → List ℕ
edges_from edges time = filter (nat_le time) edges

-- the first edge not below a time
abbrev pub first_edge : List ℕ → ℕ → Option ℕ
first_edge edges time = slice_get (edges_from edges time) 0

-- the first time not below `from` that is a whole number of periods after the start, an edge, or any time
abbrev pub soonest : Begins → ℕ → ℕ → Option ℕ
soonest (Every period) start from = Some (start + div_ceil (from - start) period * period)
soonest (OnEdges edges) start from = first_edge edges from
soonest AnyTime start from = Some from

-- a time, if it is below a limit
abbrev pub before : ℕ → Option ℕ → Option ℕ
before until None = None
before until (Some time) = if nat_lt time until then Some time else None

-- the first time not below `from` at which a scan may begin
abbrev pub first : Timing → ℕ → Option ℕ
first c from = before c.until (soonest c.begins c.start from)

-- when conversion i comes of a scan that begins at a time
abbrev pub conversion_time : Converts → ℕ → ℕ → Option ℕ
conversion_time AtOnce begin i = Some begin
conversion_time (Spaced gap) begin i = Some (begin + i * gap)
conversion_time (PerEdge edges) begin i = slice_get (edges_from edges begin) i

-- times above the horizon don't exist
abbrev pub up_to : ℕ → Option ℕ → Option ℕ
up_to horizon None = None
up_to horizon (Some time) = if nat_le time horizon then Some time else None

-- when conversion i comes of a scan that begins at a time, if it comes by the horizon
abbrev pub conversion : Timing → ℕ → ℕ → Option ℕ
conversion c begin i = up_to c.horizon (conversion_time c.converts begin i)

-- nothing more, or a time and what follows it
abbrev pub before_none : Option ℕ → List ℕ → List ℕ
before_none None rest = []
before_none (Some time) rest = time ∷ rest

-- what a function gives at `from`, `from + 1`, .., `count` times at most and as long as it gives a number
abbrev pub as_long_as : (ℕ → Option ℕ) → ℕ → ℕ → List ℕ
as_long_as f from zero = []
as_long_as f from (suc count) = before_none (f from) (as_long_as f (suc from) count)

-- the conversions of a scan that begins at a time
abbrev pub scan : Timing → ℕ → List ℕ
scan c begin = as_long_as (conversion c begin) 0 c.per_scan

-- when a scan ends that begins at a time
abbrev pub scan_end : Converts → ℕ → ℕ → Option ℕ
scan_end AtOnce n begin = Some (begin + 1)
scan_end (Spaced gap) n begin = Some (begin + n * gap)
scan_end (PerEdge edges) n begin = option_map (λ last. last + 1) (slice_get (edges_from edges begin) (n - 1))

-- when the scan begins that follows one which begins at a time
abbrev pub next_begin : Timing → ℕ → Option ℕ
next_begin c begin = option_and_then (first c) (scan_end c.converts c.per_scan begin)

-- when the scans begin from this one on, `left` of them at most
abbrev pub begins_from : Timing → ℕ → Option ℕ → List ℕ
begins_from c zero begin = []
begins_from c (suc left) None = []
begins_from c (suc left) (Some begin) = begin ∷ begins_from c left (next_begin c begin)

-- when the scans begin
abbrev pub begins : Timing → List ℕ
begins c = begins_from c c.most (first c c.start)

-- the times of all conversions in order; no scan follows one that is cut,
-- which lacks a conversion (law `a_cut_scan_is_the_last`)
abbrev pub times : Timing → List ℕ
times c = flat_map (scan c) (begins c)

-- whether a scan that begins at a time has all its conversions
abbrev pub is_full : Timing → ℕ → Bool
is_full c begin = length (scan c begin) == c.per_scan

-- whether scans that begin at these times have all their conversions
abbrev pub are_full : Timing → List ℕ → Bool
are_full c begins = list_all (is_full c) begins

-- a period is not zero and has 32 bits, and the edges of a line rise up to the horizon
abbrev pub AreBegins : ℕ → Begins → Type 0
AreBegins horizon (Every period) = (1 ≤ period) × (period < 2 ^ 32)
AreBegins horizon (OnEdges edges) = AreEdges horizon edges
AreBegins horizon AnyTime = Unit {0}

-- a gap is not zero and has 32 bits, and the edges of a line rise up to the horizon
abbrev pub AreConverts : ℕ → Converts → Type 0
AreConverts horizon AtOnce = Unit {0}
AreConverts horizon (Spaced gap) = (1 ≤ gap) × (gap < 2 ^ 32)
AreConverts horizon (PerEdge edges) = AreEdges horizon edges

-- what each timing keeps
pub record IsTiming (c : Timing) : Type 0 where
  pub horizon : c.horizon ≤ 10 ^ 15
  pub until : c.until ≤ c.horizon + 1
  pub start : c.start ≤ c.horizon
  pub begins : AreBegins c.horizon c.begins
  pub converts : AreConverts c.horizon c.converts
  pub some : 1 ≤ c.per_scan
  pub few : c.per_scan ≤ 2 ^ 10
  pub most : 1 ≤ c.most
  pub not_more : c.most ≤ 2 ^ 50
