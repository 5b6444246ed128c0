use Rattle.std.proofs.Common.{arith, sym}
use Rattle.cm_board_text.proofs.BoardKept.{name_is}
use Rattle.cm_board_text.proofs.reading.name.Goals as goal

pub returns-then-name-le32-clause-word : goal.returns-then-name-le32-clause-word
returns-then-name-le32-clause-word c = name_is (λ w. w.now) c.args.words.now c.in_ok-name.name.now c.requires (sym c.in_ok-name.ensures) (omega arith)
