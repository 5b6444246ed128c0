use Rattle.std.proofs.Common.{◌≡◌, [], drop, map}
use Rattle.cm_base.specs.Words.{signed_number, values}
use Rattle.cm_base.proofs.words.signed_numbers.Given as goal

-- the numbers so far, and what the words that are left say after them
abbrev pub invariant-loop-word : goal.invariant-loop-word
invariant-loop-word l = values l.count signed_number [] (map (λ word. word.now) l.words) ≡ values l.count signed_number l.numbers.items (map (λ word. word.now) (drop l.word-index l.words))
