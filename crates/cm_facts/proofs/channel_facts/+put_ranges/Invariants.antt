use Rattle.std.proofs.Common.{length}
use Rattle.cm_facts.proofs.channel_facts.+put_ranges.Given as goal

-- those that are left
abbrev pub decreases-put_ranges : goal.decreases-put_ranges
decreases-put_ranges l = length l.ranges.now
