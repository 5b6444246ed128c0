use Rattle.std.proofs.Common.{rules, refl, arith, ap, ◌∙◌}
use Rattle.std.proofs.lemmas.Grind.{common_steps}
use Rattle.cm_ring.specs.Roles.{Munging}
use Rattle.cm_client.specs.declared.handover.Handover.{Handover}
use Rattle.cm_client.proofs.Served.{has_waited, more_handed, same_handed}
use Rattle.cm_client.proofs.munging.munge_waiting.Goals as goal
use Rattle.cm_client.proofs.munging.munge_waiting.Goals.{in-None, in-Some+else-count-ge-SMALL+then-has_all}

pub loop-preserved-then-count-ge-SMALL : goal.loop-preserved-then-count-ge-SMALL
loop-preserved-then-count-ge-SMALL g c = record {
  table = search rules;
  ring = search rules;
  handed = search rules;
  idle = (let some = c.if-count-ge-SMALL.true in let is = c.hand_on.ensures.idle in grind (arith, common_steps));
  way = more_handed _ _ _ _ _ _ _ _ _ c.loop.invariant.way c.hand_on.ensures.way (ap (λ (m : Munging). m.part.munged) c.munge_some-count.ensures.same);
}

pub loop-preserved : goal.loop-preserved
loop-preserved g c = record {
  table = search rules;
  ring = search rules;
  handed = search rules;
  idle = search rules;
  way = has_waited _ _ _ _ _ _ _ (same_handed _ _ _ _ _ _ _ _
      (more_handed _ _ _ _ _ _ _ _ _ c.loop.invariant.way c.hand_on.ensures.way (ap (λ (m : Munging). m.part.munged) c.munge_some-count.ensures.same))
      (ap (λ (m : Munging). m.part.munged) c.has_all.ensures.same)
      refl) c.wait.ensures.way;
}

pub returns-clause-served : goal.returns-clause-served
returns-clause-served g c = record {
  last = c.match-next.handover.way;
  handed = elim c.match-next.branch [
    | in-None w ↦ same_handed _ _ _ _ _ _ _ _ c.loop.invariant.way (ap (λ (m : Munging). m.part.munged) w.munger-is) (ap (λ (h : Handover g.row.W.Denot). h.way) w.handover-is)
    | in-Some+else-count-ge-SMALL+then-has_all w ↦ same_handed _ _ _ _ _ _ _ _
        (more_handed _ _ _ _ _ _ _ _ _ c.loop.invariant.way w.hand_on.ensures.way (ap (λ (m : Munging). m.part.munged) w.munge_some-count.ensures.same))
        (ap (λ (m : Munging). m.part.munged) (w.munger-is ∙ w.has_all.ensures.same))
        (ap (λ (h : Handover g.row.W.Denot). h.way) w.handover-is)
  ];
  ended = c.end-way.ensures;
}
