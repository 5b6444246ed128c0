use Rattle.cm_replay.proofs.WholeLines.{whole_lines_law}
use Rattle.cm_replay.proofs.law.steps_write_whole_lines.Goals as goal

pub returns : goal.returns
returns c = whole_lines_law
