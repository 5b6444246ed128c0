-- What a write to the cell of one place leaves of the others.
use Rattle.std.proofs.Common.{◌≡◌, ◌≢◌, ℕ, ◌+◌, ◌-◌, ◌%◌, ◌<◌, ◌≤◌, List, length, get_or, set, sym, ap, ◌∙◌, subst, arith, get_or-set_same, get_or-set_other}
use mathlib.Core.Logic.{dite}
use native.Mathlib.Decide.{dec_le, ℕ_discrete}
use Rattle.atomic_table.proofs.Lists.{one_turn}
use Rattle.cm_ring_core.specs.Held.{Held}
use Rattle.cm_ring_core.specs.Lawful.{Each}

-- two places less than a turn apart have two cells
pub apart : (size k j : ℕ) → k ≢ j → k < j + size → j < k + size → k % size ≢ j % size
apart size k j ne near near' e = dite (dec_le k j) (λ le. ne (one_turn k j size le near' e)) (λ gt. ne (sym (one_turn j k size (omega arith) near (sym e))))

module _ (cells : List ℕ) (size lo hi : ℕ) (q : ℕ → ℕ → Type 0) where
  -- a write to the cell of p, within a turn of all of them
  pub each_write : Each cells size lo hi q → (p word base : ℕ) → p % size < length cells → base ≤ lo → hi ≤ base + size → base ≤ p → p < base + size → (lo ≤ p → p < hi → q p word)
      → Each (set cells (p % size) word) size lo hi q
  each_write h p word base in_row a b c d there k lo_k k_hi = dite (ℕ_discrete k p)
      (λ e. subst (λ (j : ℕ). q j (get_or (set cells (p % size) word) (j % size) 0)) (sym e)
      (subst (λ (x : ℕ). q p x) (sym (get_or-set_same cells (p % size) word 0 in_row)) (there (omega arith) (omega arith))))
      (λ ne. subst (λ (x : ℕ). q k x) (sym (get_or-set_other cells (p % size) (k % size) word 0 (apart size k p ne (omega arith) (omega arith)))) (h k lo_k k_hi))

  pub each_snoc : Each cells size lo hi q → q hi (get_or cells (hi % size) 0) → Each cells size lo (hi + 1) q
  each_snoc h last k lo_k k_hi = dite (ℕ_discrete k hi)
      (λ e. subst (λ (j : ℕ). q j (get_or cells (j % size) 0)) (sym e) last)
      (λ ne. h k lo_k (omega arith))

  pub each_part : Each cells size lo hi q → (lo' hi' : ℕ) → lo ≤ lo' → hi' ≤ hi → Each cells size lo' hi' q
  each_part h lo' hi' a b k lo_k k_hi = h k (omega arith) (omega arith)

-- the samples that a ring of one thread holds, place by place
pub each_of_held : (cells : List ℕ) (size lo : ℕ) (xs : List ℕ) → Held cells size lo xs → Each cells size lo (lo + length xs) (λ k word. word ≡ get_or xs (k - lo) 0)
each_of_held cells size lo xs h k low high = let i : ℕ = k - lo in let e : lo + i ≡ k = omega arith in
    ap (λ (j : ℕ). get_or cells (j % size) 0) (sym e) ∙ h.each i (omega arith)
