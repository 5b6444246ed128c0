use Rattle.std.proofs.Common.{◌≡◌, [], drop, map}
use Rattle.cm_base.specs.Words.{each_word, number_in}
use Rattle.cm_base.proofs.words.times_in.Given as goal

-- the times so far, and what the words that are left say after them
abbrev pub invariant-loop-word : goal.invariant-loop-word
invariant-loop-word l = each_word (number_in 0 l.most) [] (map (λ word. word.now) l.words) ≡ each_word (number_in 0 l.most) l.times.items (map (λ word. word.now) (drop l.word-index l.words))
