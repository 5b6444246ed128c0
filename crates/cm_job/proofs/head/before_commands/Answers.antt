use Rattle.std.proofs.Common.{List, ℕ, Bor, arith}
use Rattle.cm_job.proofs.LoopWords.{before_seen}
use Rattle.cm_job.proofs.head.before_commands.Goals as goal

pub returns-then-words-count-clause-words : goal.returns-then-words-count-clause-words
returns-then-words-count-clause-words c = before_seen (λ (word : Bor (List ℕ)). word.now) c.args.count c.args.rest c.args.words.now (omega (arith, c.if-words-count.true))
