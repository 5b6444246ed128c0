use Rattle.std.proofs.Common.{refl, ap}
use Rattle.cm_ring.specs.Roles.{Closing}
use Rattle.cm_client.proofs.Served.{same_handed}
use Rattle.cm_client.proofs.boarding.end.Goals as goal

pub returns-clause-served : goal.returns-clause-served
returns-clause-served g c = λ start from had. record {
  last = c.args.handover.way;
  handed = same_handed _ _ _ _ _ _ _ _ had (ap (λ (x : Closing). x.end.count) c.end-closed.ensures) refl;
  ended = c.end-way.ensures;
}
