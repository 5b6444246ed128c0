use Rattle.cm_client.specs.Idle.{IsIdle}
use Rattle.cm_client.proofs.claiming.claim_waiting.Given as goal

abbrev pub invariant-loop : goal.invariant-loop
invariant-loop g l = IsIdle l.owners l.seat
