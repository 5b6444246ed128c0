use Rattle.std.proofs.Common.{◌≡◌, [], drop, map}
use Rattle.cm_base.specs.Words.{number_in, values}
use Rattle.cm_base.proofs.words.numbers.Given as goal

-- the numbers so far, and what the words that are left say after them
abbrev pub invariant-loop-word : goal.invariant-loop-word
invariant-loop-word l = values l.count (number_in 0 4294967295) [] (map (λ word. word.now) l.words) ≡ values l.count (number_in 0 4294967295) l.numbers.items (map (λ word. word.now) (drop l.word-index l.words))
