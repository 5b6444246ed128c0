use Rattle.cm_replay.proofs.Lost.{loss_law}
use Rattle.cm_replay.proofs.law.losses_come_exactly.Goals as goal

pub returns : goal.returns
returns c = loss_law
