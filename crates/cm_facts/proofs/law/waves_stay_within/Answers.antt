use Rattle.cm_facts.proofs.Within.{within}
use Rattle.cm_facts.proofs.law.waves_stay_within.Goals as goal

pub returns : goal.returns
returns c = within
