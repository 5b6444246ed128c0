use Rattle.std.proofs.Common.{min, ◌==◌}
use Rattle.cm_insn.specs.Site.{value_at}
use Rattle.cm_insn.proofs.Back.{bit_back}
use Rattle.cm_insn.proofs.BitsRead.{bit_word, word_below}
use Rattle.cm_insn.proofs.law.bits_are_values.Goals as goal

pub returns-clause-values : goal.returns-clause-values
returns-clause-values c s state chan below = bit_word (λ i. value_at s state i 0 == 1) (min 32 s.sub.channels) chan below

pub returns-clause-few : goal.returns-clause-few
returns-clause-few c s state = word_below (λ i. value_at s state i 0 == 1) (min 32 s.sub.channels)

pub returns-clause-back : goal.returns-clause-back
returns-clause-back c = bit_back
