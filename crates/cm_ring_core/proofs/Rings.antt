-- Rings compared field by field.
use Rattle.std.proofs.Common.{◌≡◌, ℕ, ◌+◌, List, [], ◌∷◌, ◌++◌, length, get_or, take, drop, set, refl, ap, ap₂, ◌∙◌, arith}
use Rattle.cm_ring_core.specs.Local.{Ring}

-- rings with the same fields are the same
pub same_ring : (x y : Ring) → x.rule ≡ y.rule → x.size ≡ y.size → x.r ≡ y.r → x.ra ≡ y.ra → x.m ≡ y.m → x.w ≡ y.w → x.a ≡ y.a → x.cells ≡ y.cells → x.held ≡ y.held → x ≡ y
same_ring x y e1 e0 e2 e3 e4 e5 e6 e7 e8 = λ i. record { rule = e1 i; size = e0 i; r = e2 i; ra = e3 i; m = e4 i; w = e5 i; a = e6 i; cells = e7 i; held = e8 i }

-- a list one longer, whose last item is then written
pub written_last : (old new : List ℕ) (k word : ℕ) → take (length old) new ≡ old → length new ≡ length old + 1 → k ≡ length old → set new k word ≡ old ++ word ∷ []
written_last [] [] k word prefix len at = absurd (omega arith)
written_last [] (x ∷ []) k word prefix len at = ap (λ k. set (x ∷ []) k word) at
written_last [] (x ∷ y ∷ ys) k word prefix len at = absurd (omega arith)
written_last (x ∷ xs) [] k word prefix len at = absurd (omega arith)
written_last (x ∷ xs) (y ∷ ys) k word prefix len at =
    ap (λ k. set (y ∷ ys) k word) at
    ∙ ap₂ ◌∷◌ (ap (λ l. get_or l 0 0) prefix) (written_last xs ys (length xs) word (ap (drop 1) prefix) (omega arith) refl)
