use Rattle.std.proofs.Common.{ℕ, zero, suc, ◌≡◌, ◌+◌, List, [], ◌∷◌, ◌++◌, filter, map, ap, sym, ◌∙◌, arith}
use Rattle.std.specs.List.{range_with_len}
use Rattle.std.proofs.lemmas.List.Elements.{filter-append}
use Rattle.std.proofs.lemmas.List.{map-append}
use Rattle.cm_board.specs.Board.{ChanText, says_any}
use Rattle.cm_board.specs.Items.{ItemText}
use Rattle.cm_board.specs.Said.{set_said}
use Rattle.cm_board_text.proofs.said.sets_said.Goals as goal

-- one number more
range_more : (n a : ℕ) → range_with_len a (n + 1) ≡ range_with_len a n ++ (a + n) ∷ []
range_more zero a = ap (λ (k : ℕ). k ∷ []) (omega arith)
range_more (suc n) a =
    ap (range_with_len a) (let e : suc n + 1 ≡ suc (n + 1) = omega arith in e)
    ∙ ap (λ (ks : List ℕ). a ∷ ks) (range_more n (a + 1) ∙ ap (λ (k : ℕ). range_with_len (a + 1) n ++ k ∷ []) (omega arith))

pub loop-chan-preserved : goal.loop-chan-preserved
loop-chan-preserved c =
    let items : List ItemText = c.args.items.now in
    let n : ℕ = c.loop-chan.chan in
    let so_far : List ChanText = map (set_said items) (range_with_len 0 n) in
    c.in_ok-push_set.ensures
    ∙ ap (λ (sets : List ChanText). sets ++ filter says_any (c.in_ok-set.set ∷ [])) c.loop-chan.invariant
    ∙ ap (λ (s : ChanText). filter says_any so_far ++ filter says_any (s ∷ [])) c.in_ok-set.ensures
    ∙ sym (filter-append says_any so_far (set_said items n ∷ []))
    ∙ ap (filter says_any) (sym (map-append (set_said items) (range_with_len 0 n) (n ∷ []))
    ∙ ap (map (set_said items)) (sym (range_more n 0 ∙ ap (λ (k : ℕ). range_with_len 0 n ++ k ∷ []) (omega arith))))
