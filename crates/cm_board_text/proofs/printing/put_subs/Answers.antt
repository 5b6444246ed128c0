use Rattle.std.proofs.Common.{flat_map, refl, ◌∙◌, subst}
use Rattle.std.specs.List.{All}
use Rattle.std.proofs.lemmas.List.{take_all}
use Rattle.std.proofs.lemmas.List.Elements.{All-more}
use Rattle.cm_board.specs.Board.{IsSaidSub}
use Rattle.cm_board_text.specs.Printed.{block_text}
use Rattle.cm_board_text.proofs.BoardPieces.{all_put, piece_next}
use Rattle.cm_board_text.proofs.printing.put_subs.Goals as goal

pub loop-sub-preserved : goal.loop-sub-preserved
loop-sub-preserved c = record {
  text = c.loop-sub.invariant.text
      ∙ piece_next block_text _ _ c.args.subs.now c.loop-sub.sub-index _ _ c.loop-sub-test.true c.sub-item.is c.in_ok-put_sub.ensures.text;
  sound = All-more IsSaidSub c.args.subs.now c.loop-sub.sub-index c.sub-item.result c.loop-sub-test.true c.loop-sub.invariant.sound (subst IsSaidSub c.sub-item.is c.put_sub.ensures.sound);
}

pub returns-clause-sound : goal.returns-clause-sound
returns-clause-sound c = subst (All IsSaidSub) (take_all c.loop-sub.sub-index c.args.subs.now c.loop-sub-test.false) c.loop-sub.invariant.sound

pub returns-clause-text : goal.returns-clause-text
returns-clause-text c =
    all_put (flat_map block_text) _ c.loop-sub.out.items c.args.subs.now c.loop-sub.sub-index refl c.loop-sub-test.false c.loop-sub.invariant.text
