use Rattle.std.proofs.Common.{◌≡◌, ◌-◌, ◌≤◌}
use Rattle.cm_ring_core.specs.Local.{IsRing}
use Rattle.cm_ring_core.specs.Cut.{local_cut, munged_by}
use Rattle.cm_ring_core.specs.Pushed.{munged_to}
use Rattle.cm_ring_core.proofs.local.LocalRing.munge_to_written.Given as goal

-- the places before the counter are munged, and all else stands
abbrev pub invariant-loop : goal.invariant-loop
invariant-loop l = record {
  so_far : l.self ≡ munged_to l.initial.self l.counter;
  cut : local_cut l.self ≡ munged_by l.initial.self.rule (l.counter - l.initial.self.m) (local_cut l.initial.self);
  so_low : l.initial.self.m ≤ l.counter;
  was_ring : IsRing l.initial.self;
  to_w : l.end ≡ l.initial.self.w;
}
