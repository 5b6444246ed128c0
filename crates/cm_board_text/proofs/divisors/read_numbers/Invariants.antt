use Rattle.std.proofs.Common.{◌≡◌, [], drop, map}
use Rattle.cm_base.specs.Words.{values}
use Rattle.cm_board_text.specs.DivisorsText.{divisor_of}
use Rattle.cm_board_text.proofs.divisors.read_numbers.Given as goal

-- the numbers so far, and what the words that are left say after them
abbrev pub invariant-loop-word : goal.invariant-loop-word
invariant-loop-word l =
    values 32 divisor_of [] (map (λ word. word.now) l.words)
    ≡ values 32 divisor_of l.numbers.items (map (λ word. word.now) (drop l.word-index l.words))
