use Rattle.cm_watch.proofs.Stopped.{asked_after}
use Rattle.cm_watch.proofs.client.read_scans.Goals as goal

pub returns-in-Err-clause-gave_up : goal.returns-in-Err-clause-gave_up
returns-in-Err-clause-gave_up g c = asked_after _ _ _ c.in-Err.ensures.kept c.give_up.ensures
