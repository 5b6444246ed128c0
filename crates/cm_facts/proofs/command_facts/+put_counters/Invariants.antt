use Rattle.std.proofs.Common.{length}
use Rattle.cm_facts.proofs.command_facts.+put_counters.Given as goal

-- those that are left
abbrev pub decreases-put_counters : goal.decreases-put_counters
decreases-put_counters l = length l.counters.now
