use Rattle.std.proofs.Common.{◌≡◌, take}
use Rattle.cm_job.proofs.loop_asked.copied.Given as goal

-- the words so far
abbrev pub invariant-loop-word : goal.invariant-loop-word
invariant-loop-word l = record { so_far : l.copy.items ≡ take l.word-index l.words }
