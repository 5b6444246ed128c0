use Rattle.std.proofs.Common.{length}
use Rattle.cm_facts.proofs.fact.+put_words.Given as goal

-- those that are left
abbrev pub decreases-put_words : goal.decreases-put_words
decreases-put_words l = length l.words.now
