-- Texts that are joined are the parts that they are cut into.
use Rattle.std.proofs.Common.{get_or, map, ◌-◌, ◌≤◌, arith, ◌≡◌, ℕ, ◌<◌, List, [], ◌∷◌, ◌++◌, append_assoc, drop, length, min, take, refl, sym, ap, ◌∙◌, inl, inr}
use Rattle.std.proofs.lemmas.Bool.{cases_lt}
use Rattle.std.proofs.lemmas.List.{drop-map, drop_all, take_rest}
use Rattle.std.specs.List.{join_with_byte}

pub eight : {X : Type 0} (now : X → List ℕ) (xs : List X) (d : X) → 8 ≤ length xs → length xs < 9 →
    map now xs ≡ now (get_or xs 0 d) ∷ now (get_or xs 1 d) ∷ now (get_or xs 2 d) ∷ now (get_or xs 3 d) ∷ now (get_or xs 4 d) ∷ now (get_or xs 5 d) ∷ now (get_or xs 6 d) ∷ now (get_or xs 7 d) ∷ []
eight now [] d h k = absurd (omega arith)
eight now (a ∷ []) d h k = absurd (omega arith)
eight now (a ∷ b ∷ []) d h k = absurd (omega arith)
eight now (a ∷ b ∷ c ∷ []) d h k = absurd (omega arith)
eight now (a ∷ b ∷ c ∷ e ∷ []) d h k = absurd (omega arith)
eight now (a ∷ b ∷ c ∷ e ∷ f ∷ []) d h k = absurd (omega arith)
eight now (a ∷ b ∷ c ∷ e ∷ f ∷ g ∷ []) d h k = absurd (omega arith)
eight now (a ∷ b ∷ c ∷ e ∷ f ∷ g ∷ i ∷ []) d h k = absurd (omega arith)
eight now (a ∷ b ∷ c ∷ e ∷ f ∷ g ∷ i ∷ j ∷ []) d h k = refl
eight now (a ∷ b ∷ c ∷ e ∷ f ∷ g ∷ i ∷ j ∷ l ∷ xs) d h k = absurd (omega arith)

-- a list from a place on, which may be past its end
drop_within : {X : Type 0} (xs : List X) (from : ℕ) → drop (min from (length xs)) xs ≡ drop from xs
drop_within xs from = elim (cases_lt from (length xs)) [
  | inl p ↦ (let e : min from (length xs) ≡ from = omega arith in ap (λ (n : ℕ). drop n xs) e)
  | inr p ↦ (let e : min from (length xs) ≡ length xs = omega arith in ap (λ (n : ℕ). drop n xs) e ∙ drop_all (length xs) xs (omega arith) ∙ sym (drop_all from xs p))
]

pub words_after : {X : Type 0} (now : X → List ℕ) (words all : List X) (m from n : ℕ) → words ≡ all → m ≡ min from n → n ≡ length all → map now (take (length words - m) (drop m words)) ≡ drop from (map now all)
words_after now words all m from n same at size =
    let place : m ≡ min from (length words) = at ∙ ap (min from) (size ∙ ap length (sym same)) in
    ap (map now) (take_rest words m ∙ ap (λ (k : ℕ). drop k words) place ∙ drop_within words from ∙ ap (drop from) same) ∙ sym (drop-map now from all)

pub further : (before after text more : List ℕ) → after ≡ before ++ text → after ++ more ≡ before ++ (text ++ more)
further before after text more e = ap (λ (t : List ℕ). t ++ more) e ∙ append_assoc before text more

-- a command's words, written one after the other: the first two at once, and each of the others after a space
pub eight_written : (o0 o1 o2 o3 o4 o5 o6 o7 a b t0 t1 t2 t3 t4 l : List ℕ) →
    o1 ≡ o0 ++ (a ++ 32 ∷ b) → o2 ≡ o1 ++ 32 ∷ t0 → o3 ≡ o2 ++ 32 ∷ t1 → o4 ≡ o3 ++ 32 ∷ t2 → o5 ≡ o4 ++ 32 ∷ t3 → o6 ≡ o5 ++ 32 ∷ t4 → o7 ≡ o6 ++ 32 ∷ l →
    o7 ≡ o0 ++ join_with_byte 32 (a ∷ b ∷ t0 ∷ t1 ∷ t2 ∷ t3 ∷ t4 ∷ l ∷ [])
eight_written o0 o1 o2 o3 o4 o5 o6 o7 a b t0 t1 t2 t3 t4 l e1 e2 e3 e4 e5 e6 e7 =
    let y6 : List ℕ = 32 ∷ l in
    let y5 : List ℕ = 32 ∷ (t4 ++ y6) in
    let y4 : List ℕ = 32 ∷ (t3 ++ y5) in
    let y3 : List ℕ = 32 ∷ (t2 ++ y4) in
    let y2 : List ℕ = 32 ∷ (t1 ++ y3) in
    let y1 : List ℕ = 32 ∷ (t0 ++ y2) in
    e7 ∙ further o5 o6 (32 ∷ t4) y6 e6 ∙ further o4 o5 (32 ∷ t3) y5 e5 ∙ further o3 o4 (32 ∷ t2) y4 e4 ∙ further o2 o3 (32 ∷ t1) y3 e3 ∙ further o1 o2 (32 ∷ t0) y2 e2
    ∙ further o0 o1 (a ++ 32 ∷ b) y1 e1 ∙ ap (λ (t : List ℕ). o0 ++ t) (append_assoc a (32 ∷ b) y1)
