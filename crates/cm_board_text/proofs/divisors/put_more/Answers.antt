use Rattle.std.proofs.Common.{◌∷◌, [], decimal, flat_map, refl, ◌∙◌}
use Rattle.cm_board_text.proofs.BoardPieces.{all_put, piece_next, two_pieces}
use Rattle.cm_board_text.proofs.divisors.put_more.Goals as goal

pub loop-number-preserved : goal.loop-number-preserved
loop-number-preserved c =
    c.loop-number.invariant
    ∙ piece_next (λ n. 44 ∷ decimal n) _ _ c.args.list.now c.loop-number.number-index _ _ c.loop-number-test.true refl
    (two_pieces _ _ _ (44 ∷ []) _ c.in_ok-push.ensures.items c.in_ok-put_u64.ensures.ok)

pub returns : goal.returns
returns c =
    all_put (flat_map (λ n. 44 ∷ decimal n)) _ c.loop-number.out.items c.args.list.now c.loop-number.number-index refl c.loop-number-test.false c.loop-number.invariant
