use Rattle.cm_cli.proofs.Headlines.{jobs_sound}
use Rattle.cm_cli.proofs.law.jobs_are_sound.Goals as goal

pub returns : goal.returns
returns c = jobs_sound c.boards_are_sound.ensures c.signals_are_sound.ensures c.sessions_are_in_order.ensures
