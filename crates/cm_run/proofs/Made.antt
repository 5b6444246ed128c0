-- What is made of the lines of a job.
use Rattle.std.proofs.Common.{◌≡◌, inl, inr, ℕ, zero, suc, ◌+◌, List, [], ◌∷◌, ◌++◌, length, length-append, refl, sym, subst, ◌∙◌, arith, IfSome, Some}
use Rattle.std.specs.Prelude.{slice_get}
use Rattle.std.specs.List.{AllZip}
use Rattle.cm_run.specs.Lines.{AreMade}
use Rattle.cm_base.proofs.Elements.{snoc_cases}

-- one more
pub made_more : {D : Type 0} (may : ℕ → D → Type 0) (n count : ℕ) (made : List D) (one : D) → n + 1 ≡ count → AreMade may n made → may n one → AreMade may count (made ++ one ∷ [])
made_more may n count made one next before last = record {
  size = (let long = length-append made (one ∷ []) in let e = before.size in omega arith);
  each = λ place d is. elim (snoc_cases made one place d is) [
    | inl there ↦ before.each place d there
    | inr end ↦ subst (λ (i : ℕ). may i d) (sym (end.0 ∙ before.size)) (subst (may n) end.1 last)
  ];
}

-- what is made at the place of each line
pub all_made : {A D : Type 0} (R : A → D → Type 0) (lines : List A) (made : List D) → length made ≡ length lines → ((place : ℕ) (one : D) → slice_get made place ≡ Some one → IfSome (slice_get lines place) (λ line. R line one)) → AllZip R lines made
all_made R [] [] same each = tt
all_made R [] (d ∷ made) same each = absurd (omega arith)
all_made R (x ∷ lines) [] same each = absurd (omega arith)
all_made R (x ∷ lines) (d ∷ made) same each = (each zero d refl, all_made R lines made (omega arith) (λ place one is. each (suc place) one is))
