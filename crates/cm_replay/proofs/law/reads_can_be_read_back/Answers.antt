use Rattle.cm_replay.proofs.Readback.{readback_law}
use Rattle.cm_replay.proofs.law.reads_can_be_read_back.Goals as goal

pub returns : goal.returns
returns c = readback_law
