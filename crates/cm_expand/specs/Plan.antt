-- What a command's expansion is made from.
use Rattle.std.specs.Prelude.{◌≡◌, ℕ, ◌+◌, ◌≤◌, ◌*◌, Bool, true, ◌&&◌, ◌==◌, if◌then◌else◌, nat_le}
use Rattle.std.specs.Prelude.{List, [], ◌∷◌, length, map, Option, Some, None, option_map, option_and_then, unwrap_or}
use Rattle.std.specs.Prelude.{is_some}
use Rattle.cm_board.specs.Board.{SubText, is_fall, external_line}
use Rattle.cm_base.specs.Source as source
use Rattle.cm_cmd.specs.Command.{CmdText}
use Rattle.cm_test.specs.Questions.{tested}
use Rattle.cm_signal.specs.Signals.{SignalsText, times_at}
use Rattle.cm_signal.specs.declared.signals.Slope.{Slope}
use Rattle.cm_signal.specs.declared.signals.Slope.TheVariants as slopes
use Rattle.cm_signal.specs.declared.signals.IntAt.{IntAt}
use Rattle.cm_expand.specs.Timing.{Timing, Begins, Every, OnEdges, AnyTime, Converts, AtOnce, Spaced, PerEdge}
use Rattle.cm_expand.specs.Timing.{first_edge, begins, are_full, times}
use Rattle.cm_expand.specs.Sooner.{sooner_of}

-- a command on the subdevice at a place of its board, which is called at `t0`, and maybe given a trigger
pub record PlanText : Type 0 where
  pub sub : SubText
  pub signals : SignalsText
  pub cmd : CmdText
  pub index : ℕ
  pub t0 : ℕ
  pub trig : Option ℕ

-- which edges of its line an external argument names
abbrev pub slope_of : SubText → ℕ → Slope
slope_of sub arg = if is_fall sub arg then slopes.Fall else slopes.Rise

-- the edges that an external argument names
abbrev pub edges_of : PlanText → ℕ → List ℕ
edges_of p arg = times_at p.signals (slope_of p.sub arg) (external_line p.sub arg)

-- the first edge not below a time
abbrev pub edge_since : PlanText → ℕ → ℕ → Option ℕ
edge_since p arg from = first_edge (edges_of p arg) from

-- an internal trigger of this subdevice with the start argument as number
abbrev pub is_own : PlanText → IntAt → Bool
is_own p int = int.sub == p.index && int.arg == p.cmd.start.arg

-- when such a trigger comes, if that isn't below the time of the call
abbrev pub own_time : PlanText → IntAt → Option ℕ
own_time p int = if is_own p int && nat_le p.t0 int.time then Some int.time else None

-- the soonest of times that may be missing
abbrev pub soonest_of : List (Option ℕ) → Option ℕ
soonest_of [] = None
soonest_of (time ∷ times) = sooner_of time (soonest_of times)

-- the first internal trigger not below the time of the call: the given one or one of the signals
abbrev pub first_trigger : PlanText → Option ℕ
first_trigger p = soonest_of (p.trig ∷ map (own_time p) p.signals.ints)

-- when the command starts, if it does
abbrev pub start_of : PlanText → Option ℕ
start_of p =
    if p.cmd.start.src == source.ext then edge_since p p.cmd.start.arg p.t0
    else (if p.cmd.start.src == source.int then first_trigger p else Some p.t0)

-- what begins the scans of a command
abbrev pub begins_of : PlanText → Begins
begins_of p =
    if p.cmd.scan_begin.src == source.timer then Every p.cmd.scan_begin.arg
    else (if p.cmd.scan_begin.src == source.ext then OnEdges (edges_of p p.cmd.scan_begin.arg) else AnyTime)

-- what starts the conversions of a command
abbrev pub converts_of : PlanText → Converts
converts_of p =
    if p.cmd.convert.src == source.timer then Spaced p.cmd.convert.arg
    else (if p.cmd.convert.src == source.ext then PerEdge (edges_of p p.cmd.convert.arg) else AtOnce)

-- how many scans there are at most: the stop count,
-- or as many as there are nanoseconds, since a scan takes one at least
abbrev pub most_of : PlanText → ℕ
most_of p = if p.cmd.stop.src == source.count then p.cmd.stop.arg else p.signals.horizon + 1

-- the edge that stops a command which starts at a time: with stop EXT, the first one after the start
abbrev pub stop_edge_from : PlanText → ℕ → Option ℕ
stop_edge_from p start = if p.cmd.stop.src == source.ext then edge_since p p.cmd.stop.arg (start + 1) else None

-- the edge that stops a command, if it starts
abbrev pub stop_edge_of : PlanText → Option ℕ
stop_edge_of p = option_and_then (stop_edge_from p) (start_of p)

-- the timing of a command that starts at a time, whose scans begin before the stop edge where there is one
abbrev pub timing_from : PlanText → ℕ → Timing
timing_from p start = record {
  start = start;
  begins = begins_of p;
  converts = converts_of p;
  per_scan = length p.cmd.list;
  most = most_of p;
  until = unwrap_or (stop_edge_from p start) (p.signals.horizon + 1);
  horizon = p.signals.horizon;
}

-- the timing of a command, if its start trigger comes
abbrev pub timing_of : PlanText → Option Timing
timing_of p = option_map (timing_from p) (start_of p)

-- the times of a timing, and none without one
abbrev pub times_if : Option Timing → List ℕ
times_if None = []
times_if (Some c) = times c

-- the times of the expansion
abbrev pub times_of : PlanText → List ℕ
times_of p = times_if (timing_of p)

-- how many conversions a command with a stop count has when it is complete
abbrev pub whole_count : PlanText → Option ℕ
whole_count p = if p.cmd.stop.src == source.count then Some (p.cmd.stop.arg * length p.cmd.list) else None

-- whether all scans of a timing have all their conversions; without a timing no scan lacks one
abbrev pub all_full : Option Timing → Bool
all_full None = true
all_full (Some c) = are_full c (begins c)

-- whether all conversions of a stop count come by the horizon;
-- without a count, whether there is a stop edge and all come of the scans that begin before it
abbrev pub is_complete_by : Option ℕ → PlanText → Bool
is_complete_by (Some count) p = length (times_of p) == count
is_complete_by None p = is_some (stop_edge_of p) && all_full (timing_of p)

-- whether the expansion has all conversions that the command is to make until it stops
abbrev pub is_complete : PlanText → Bool
is_complete p = is_complete_by (whole_count p) p

-- the command passes the test, and the times are within the signals
pub record IsPlan (p : PlanText) : Type 0 where
  pub passed : (tested p.sub p.cmd).0 ≡ 0
  pub t0 : p.t0 ≤ p.signals.horizon
  pub given : (t : ℕ) → p.trig ≡ Some t → (p.t0 ≤ t) × (t ≤ p.signals.horizon)
