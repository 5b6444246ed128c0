use Rattle.cm_ring.specs.Seated.{IsSeatOf, IsSameSeat}
use Rattle.cm_ring.specs.Roles.{HasRun}
use Rattle.cm_ring.proofs.munger.munge_run.Given as goal

abbrev pub invariant-loop-i : goal.invariant-loop-i
invariant-loop-i g l = record {
  of : IsSeatOf g.P.Planned.samples l.table l.seat;
  same : IsSameSeat l.initial.seat l.seat;
  run : HasRun l.i l.initial.seat.me.0 l.seat.me.0;
}
