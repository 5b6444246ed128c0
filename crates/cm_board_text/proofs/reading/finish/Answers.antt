use Rattle.std.proofs.Common.{true, Ok, ap, sym, ◌∙◌}
use Rattle.cm_board.specs.Board.{SubText}
use Rattle.cm_board_text.specs.UncheckedView.{unchecked_text}
use Rattle.cm_board_text.proofs.BlockEnd.{checked_is, sub_said, timers_kept}
use Rattle.cm_board_text.proofs.reading.finish.Goals as goal

pub is_board_ok-requires : goal.is_board_ok-requires
is_board_ok-requires c = timers_kept c.args.head.now c.args.all.items (unchecked_text c.in_ok-sub.sub) c.requires.whole c.in_ok-sub.ensures

pub into_sub-requires : goal.into_sub-requires
into_sub-requires c =
    sub_said c.args.head.now c.args.all.items (unchecked_text c.in_ok-sub.sub) c.requires.whole c.requires.channels c.requires.version c.in_ok-sub.ensures
    (sym c.is_board_ok.ensures ∙ c.if-is_board_ok.true)

pub returns-then-is_board_ok : goal.returns-then-is_board_ok
returns-then-is_board_ok c =
    checked_is c.args.stop c.args.head.now c.args.all.items (unchecked_text c.in_ok-sub.sub) true c.in_ok-sub.ensures
    (sym c.is_board_ok.ensures ∙ c.if-is_board_ok.true)
    ∙ ap (λ (sub : SubText). Ok sub) (sym c.into_sub.ensures)
