use Rattle.std.proofs.Common.{length}
use Rattle.cm_facts.proofs.command_facts.+put_forbids.Given as goal

-- those that are left
abbrev pub decreases-put_forbids : goal.decreases-put_forbids
decreases-put_forbids l = length l.pairs.now
