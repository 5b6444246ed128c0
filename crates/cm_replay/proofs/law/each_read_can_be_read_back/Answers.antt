use Rattle.cm_replay.proofs.ReadsBack.{session_readback}
use Rattle.cm_replay.proofs.law.each_read_can_be_read_back.Goals as goal

pub returns : goal.returns
returns c = session_readback
