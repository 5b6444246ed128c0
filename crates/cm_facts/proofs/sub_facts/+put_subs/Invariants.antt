use Rattle.std.proofs.Common.{length}
use Rattle.cm_facts.proofs.sub_facts.+put_subs.Given as goal

-- those that are left
abbrev pub decreases-put_subs : goal.decreases-put_subs
decreases-put_subs l = length l.subs.now
