use Rattle.std.proofs.Common.{◌≡◌, ◌-◌, ℕ, ap, refl, subst, arith}
use Rattle.cm_ring_core.specs.Cut.{local_cut, munged_by}
use Rattle.cm_ring_core.specs.Local.{Ring, IsRing}
use Rattle.cm_ring_core.specs.LocalView.{ring_of}
use Rattle.cm_ring_core.specs.Pushed.{munged_to}
use Rattle.cm_ring_core.proofs.CutLaws.{munge_on}
use Rattle.cm_ring_core.proofs.Views.{IsRing-ring_of}
use Rattle.cm_ring_core.proofs.Written.{munged_next, munged_none}
use Rattle.cm_ring_core.proofs.local.LocalRing.munge_to_written.Goals as goal

pub loop-init : goal.loop-init
loop-init c =
    let l = c.self.inside in
    let same_m = ap (λ (ring : Ring). ring.m) c.self.view_is in
    let here : 0 ≡ l.m - c.args.self.now.m = omega arith in
    record {
      so_far = subst (λ (ring : Ring). ring ≡ munged_to ring l.m) c.self.view_is (munged_none (ring_of l));
      cut = subst (λ (n : ℕ). local_cut c.args.self.now ≡ munged_by c.args.self.now.rule n (local_cut c.args.self.now)) here refl;
      so_low = omega arith;
      was_ring = subst IsRing c.self.view_is (IsRing-ring_of l c.self.invariant);
      to_w = ap (λ (ring : Ring). ring.w) c.self.view_is;
    }

pub loop-preserved : goal.loop-preserved
loop-preserved c =
    let same_m = ap (λ (ring : Ring). ring.m) c.self.view_is in
    record {
      so_far = munged_next c.args.self.now c.loop.self c.munge_one.new.self c.loop.counter c.loop.invariant.was_ring (omega arith) (omega arith) c.loop.invariant.so_far c.munge_one.ensures.after;
      cut = munge_on c.args.self.now c.loop.self c.munge_one.new.self c.loop.counter c.loop.invariant.so_low (ap (λ (ring : Ring). ring.rule) c.loop.invariant.so_far) c.loop.invariant.cut c.munge_one.ensures.cut;
      so_low = omega (arith, c.loop.invariant.so_low);
      was_ring = c.loop.invariant.was_ring;
      to_w = c.loop.invariant.to_w;
    }
