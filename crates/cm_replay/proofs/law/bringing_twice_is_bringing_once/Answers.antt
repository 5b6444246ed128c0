use Rattle.cm_replay.proofs.Twice.{bringing_law, nothing_is_left}
use Rattle.cm_replay.proofs.law.bringing_twice_is_bringing_once.Goals as goal

pub returns-clause-same : goal.returns-clause-same
returns-clause-same c = bringing_law

pub returns-clause-silent : goal.returns-clause-silent
returns-clause-silent c = nothing_is_left
