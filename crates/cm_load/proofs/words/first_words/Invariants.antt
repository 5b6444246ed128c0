use Rattle.std.proofs.Common.{◌≡◌}
use Rattle.cm_load.specs.Words.{place_words}
use Rattle.cm_load.proofs.words.first_words.Given as goal

abbrev pub invariant-loop-place : goal.invariant-loop-place
invariant-loop-place l = l.words.items ≡ place_words l.maxdata l.place
