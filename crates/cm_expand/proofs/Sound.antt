-- What each plan of a sound subdevice and sound signals keeps, over the definitions alone.
use Rattle.std.proofs.Common.{◌≡◌, ℕ, ◌+◌, ◌<◌, ◌≤◌, ◌^◌, min, Bool, true, false, List, length, Option, Some, None, refl, arith, mul-le-mul_right, mul-le-mul_left}
use Rattle.std.specs.Prelude.{◌==◌, IfSome, option_map, unwrap_or, if◌then◌else◌}
use Rattle.std.proofs.lemmas.Bool.{eqb-true}
use Rattle.cm_board.specs.Board as board
use Rattle.cm_board.specs.Board.{SubText}
use Rattle.cm_base.specs.Source as source
use Rattle.cm_cmd.specs.Command.{CmdText}
use Rattle.cm_signal.specs.Signals as signals
use Rattle.cm_signal.proofs.Grown.{line_edges}
use Rattle.cm_test.specs.Law.{AreInside}
use Rattle.cm_test.specs.Steps.{convert_limits, limited, scan_begin_limits, slowest_conversion, stop_limits}
use Rattle.cm_test.proofs.Moved.{whole}
use Rattle.cm_test.proofs.Passed.{passed}
use Rattle.cm_expand.specs.Timing.{AnyTime, AreBegins, AreConverts, AtOnce, Timing, Every, OnEdges, PerEdge, Spaced, IsTiming, begins, first, times}
use Rattle.cm_expand.specs.Fit.{IsExpansion}
use Rattle.cm_expand.specs.Plan.{IsPlan, PlanText, timing_from, timing_of, edge_since, edges_of, first_trigger, slope_of, start_of, stop_edge_from, times_if, times_of}
use Rattle.cm_expand.proofs.Boards.{begins_short, scans_short}
use Rattle.cm_expand.proofs.Fits.{fit}
use Rattle.cm_expand.proofs.Order.{expansion}
use Rattle.cm_expand.proofs.Plans.{edge_by}
use Rattle.cm_expand.proofs.Triggers.{trigger_within}

-- a plan whose subdevice and signals keep their rules
pub record IsSoundPlan (p : PlanText) : Type 0 where
  pub sub : board.IsSoundSub p.sub
  pub signals : signals.IsSoundSignals p.signals
  pub plan : IsPlan p

-- a choice of three, by two tests
start_by : (horizon t0 s : ℕ) (one two : Bool) (a b : Option ℕ) → t0 ≤ horizon → (a ≡ Some s → s ≤ horizon) → (b ≡ Some s → s ≤ horizon) → (if one then a else (if two then b else Some t0)) ≡ Some s → s ≤ horizon
start_by horizon t0 s true two a b by first second e = first e
start_by horizon t0 s false true a b by first second e = second e
start_by horizon t0 s false false a b by first second e = let same : t0 ≡ s = cc in omega arith

-- a command starts by the horizon
start_within : (p : PlanText) (s : ℕ) → IsSoundPlan p → start_of p ≡ Some s → s ≤ p.signals.horizon
start_within p s sound e =
    start_by p.signals.horizon p.t0 s (p.cmd.start.src == source.ext) (p.cmd.start.src == source.int) (edge_since p p.cmd.start.arg p.t0) (first_trigger p) sound.plan.t0
    (λ found. edge_by p p.cmd.start.arg p.t0 s sound.signals found)
    (λ found. trigger_within p s sound.signals sound.plan found)
    e

begins_by : (horizon arg : ℕ) (timer ext : Bool) (edges : List ℕ) → (timer ≡ true → (1 ≤ arg) × (arg < 2 ^ 32)) → (ext ≡ true → signals.AreEdges horizon edges) → AreBegins horizon (if timer then Every arg else (if ext then OnEdges edges else AnyTime))
begins_by horizon arg true ext edges ticks lines = ticks refl
begins_by horizon arg false true edges ticks lines = lines refl
begins_by horizon arg false false edges ticks lines = tt

converts_by : (horizon arg : ℕ) (timer ext : Bool) (edges : List ℕ) → (timer ≡ true → (1 ≤ arg) × (arg < 2 ^ 32)) → (ext ≡ true → signals.AreEdges horizon edges) → AreConverts horizon (if timer then Spaced arg else (if ext then PerEdge edges else AtOnce))
converts_by horizon arg true ext edges ticks lines = ticks refl
converts_by horizon arg false true edges ticks lines = lines refl
converts_by horizon arg false false edges ticks lines = tt

most_by : (horizon arg : ℕ) (counted : Bool) → horizon ≤ 10 ^ 15 → (counted ≡ true → (1 ≤ arg) × (arg < 2 ^ 32)) → (1 ≤ (if counted then arg else horizon + 1)) × ((if counted then arg else horizon + 1) ≤ 2 ^ 50)
most_by horizon arg true by counts = (let c = counts refl in c.0, let c = counts refl in omega arith)
most_by horizon arg false by counts = (omega arith, omega arith)

slowest : (timed : Bool) (most other : ℕ) → (if timed then min most other else most) ≤ most
slowest true most other = omega arith
slowest false most other = omega arith

period_high : (sub : SubText) (cmd : CmdText) → board.IsSoundSub sub → AreInside sub cmd → (cmd.scan_begin.src == source.timer) ≡ true → cmd.scan_begin.arg < 2 ^ 32
period_high sub cmd sound inside timer =
    let high : limited sub cmd.scan_begin ≤ (scan_begin_limits sub cmd).high = inside.scan_begin.high in
    let most : limited sub cmd.scan_begin ≤ sub.scan_max = rw timer at high in
    let period = whole sub cmd.scan_begin source.timer refl (eqb-true cmd.scan_begin.src source.timer timer) in
    let limit = sound.scan.high in
    omega arith

gap_high : (sub : SubText) (cmd : CmdText) → board.IsSoundSub sub → AreInside sub cmd → (cmd.convert.src == source.timer) ≡ true → cmd.convert.arg < 2 ^ 32
gap_high sub cmd sound inside timer =
    let high : limited sub cmd.convert ≤ (convert_limits sub cmd).high = inside.convert.high in
    let most : limited sub cmd.convert ≤ slowest_conversion sub cmd = rw timer at high in
    let gap = whole sub cmd.convert source.timer refl (eqb-true cmd.convert.src source.timer timer) in
    let slow : slowest_conversion sub cmd ≤ sub.conv_max = slowest (cmd.scan_begin.src == source.timer) sub.conv_max _ in
    let limit = sound.convert.high in
    omega arith

count_high : (sub : SubText) (cmd : CmdText) → board.IsSoundSub sub → AreInside sub cmd → (cmd.stop.src == source.count) ≡ true → cmd.stop.arg < 2 ^ 32
count_high sub cmd sound inside counted =
    let high : limited sub cmd.stop ≤ (stop_limits sub cmd).high = inside.stop.high in
    let most : limited sub cmd.stop ≤ sub.scans_max = rw counted at high in
    let count = whole sub cmd.stop source.count refl (eqb-true cmd.stop.src source.count counted) in
    let limit = sound.scans.high in
    omega arith

-- a stop edge is up to the horizon
until_by : (horizon : ℕ) (ext : Bool) (edge : Option ℕ) → ((e : ℕ) → edge ≡ Some e → e ≤ horizon) → unwrap_or (if ext then edge else None) (horizon + 1) ≤ horizon + 1
until_by horizon true (Some e) within = let up = within e refl in omega arith
until_by horizon true None within = omega arith
until_by horizon false edge within = omega arith

until_within : (p : PlanText) (start : ℕ) → signals.IsSoundSignals p.signals → unwrap_or (stop_edge_from p start) (p.signals.horizon + 1) ≤ p.signals.horizon + 1
until_within p start sound =
    until_by p.signals.horizon (p.cmd.stop.src == source.ext) (edge_since p p.cmd.stop.arg (start + 1))
    (λ e found. edge_by p p.cmd.stop.arg (start + 1) e sound found)

pub timing_is : (p : PlanText) (start : ℕ) → IsSoundPlan p → start_of p ≡ Some start → IsTiming (timing_from p start)
timing_is p start sound begun =
    let fits = fit p sound.sub sound.plan in
    let inside = (passed p.sub p.cmd sound.sub sound.plan.passed).inside in
    let most = most_by p.signals.horizon p.cmd.stop.arg (p.cmd.stop.src == source.count) sound.signals.horizon (λ counted. (fits.count counted, count_high p.sub p.cmd sound.sub inside counted)) in
    record {
      horizon = sound.signals.horizon;
      until = until_within p start sound.signals;
      start = start_within p start sound begun;
      begins = begins_by p.signals.horizon p.cmd.scan_begin.arg (p.cmd.scan_begin.src == source.timer) (p.cmd.scan_begin.src == source.ext) (edges_of p p.cmd.scan_begin.arg)
          (λ timer. (fits.period timer, period_high p.sub p.cmd sound.sub inside timer)) (λ ext. line_edges p.signals (slope_of p.sub p.cmd.scan_begin.arg) (board.external_line p.sub p.cmd.scan_begin.arg) sound.signals (fits.begin_line ext));
      converts = converts_by p.signals.horizon p.cmd.convert.arg (p.cmd.convert.src == source.timer) (p.cmd.convert.src == source.ext) (edges_of p p.cmd.convert.arg)
          (λ timer. (fits.gap timer, gap_high p.sub p.cmd sound.sub inside timer)) (λ ext. line_edges p.signals (slope_of p.sub p.cmd.convert.arg) (board.external_line p.sub p.cmd.convert.arg) sound.signals (fits.convert_line ext));
      some = fits.some;
      few = omega (arith, fits.few);
      most = most.0;
      not_more = most.1;
    }

timing_if : (p : PlanText) (start : Option ℕ) → IsSoundPlan p → start_of p ≡ start → IfSome (option_map (timing_from p) start) IsTiming
timing_if p None sound e = tt
timing_if p (Some start) sound e = timing_is p start sound e

same_horizon : (p : PlanText) (start : Option ℕ) → IfSome (option_map (timing_from p) start) (λ c. c.horizon ≡ p.signals.horizon)
same_horizon p None = tt
same_horizon p (Some start) = refl

-- what the expansion of a sound plan keeps
pub expansion_of : (p : PlanText) → IsSoundPlan p → IsExpansion p
expansion_of p sound = expansion p (timing_of p) refl (timing_if p (start_of p) sound refl) (same_horizon p (start_of p)) (fit p sound.sub sound.plan)

length-times : (c : Timing) → IsTiming c → length (times c) ≤ 2 ^ 60
length-times c is =
    let all = scans_short c (begins c) in
    let some : length (begins c) ≤ 2 ^ 50 = omega (arith, begins_short c c.most (first c c.start), is.not_more) in
    let a = mul-le-mul_right c.per_scan some in
    let b = mul-le-mul_left (2 ^ 50) is.few in
    omega arith

length-times_if : (o : Option Timing) → IfSome o IsTiming → length (times_if o) ≤ 2 ^ 60
length-times_if None is = omega arith
length-times_if (Some c) is = length-times c is

-- an expansion isn't long
pub length-times_of : (p : PlanText) → IsSoundPlan p → length (times_of p) ≤ 2 ^ 60
length-times_of p sound = length-times_if (timing_of p) (timing_if p (start_of p) sound refl)
