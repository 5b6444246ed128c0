-- Words of an output's buffer, of which those below a place are munged.
use Rattle.std.proofs.Common.{◌≡◌, ℕ, zero, suc, ◌+◌, ◌<◌, ◌≤◌, Bool, true, false, List, [], ◌∷◌, ◌++◌, length, drop, refl, sym, ap, ap₂, ◌∙◌, inl, inr, arith}
use Rattle.std.specs.Prelude.{nat_le, nat_lt, ◌&&◌, if◌then◌else◌}
use Rattle.std.proofs.lemmas.Bool.{cases_lt, lt-ltb, le-ltb, le-leb, lt-leb}
use Rattle.cm_expand.specs.declared.conv.Conv.{Conv}
use Rattle.cm_sample.specs.Rule.{map_from}
use Rattle.cm_text.specs.Outputs.{Output}
use Rattle.cm_running.specs.Running.{outputs}
use Rattle.cm_running.specs.Writing.{munged_within}

pub map_from-append : (f : ℕ → ℕ → ℕ) (place : ℕ) (xs ys : List ℕ) → map_from f place (xs ++ ys) ≡ map_from f place xs ++ map_from f (place + length xs) ys
map_from-append f place [] ys = ap (λ p. map_from f p ys) (omega arith)
map_from-append f place (x ∷ xs) ys = ap (λ zs. f place x ∷ zs) (map_from-append f (suc place) xs ys ∙ ap (λ p. map_from f (suc place) xs ++ map_from f p ys) (omega arith))

pub map_from-drop : (f : ℕ → ℕ → ℕ) (place n : ℕ) (xs : List ℕ) → drop n (map_from f place xs) ≡ map_from f (place + n) (drop n xs)
map_from-drop f place zero xs = ap (λ p. map_from f p xs) (omega arith)
map_from-drop f place (suc n) [] = refl
map_from-drop f place (suc n) (x ∷ xs) = map_from-drop f (suc place) n xs ∙ ap (λ p. map_from f p (drop n xs)) (omega arith)

within : (munge : ℕ → ℕ → ℕ) (low high place word : ℕ) → low ≤ place → place < high → munged_within munge low high place word ≡ munge place word
within munge low high place word above below = rw (le-leb _ _ above) (rw (lt-ltb _ _ below) refl)

after : (munge : ℕ → ℕ → ℕ) (low high place word : ℕ) → high ≤ place → munged_within munge low high place word ≡ word
after munge low high place word above = by (nat_le low place)
  where
    by : (b : Bool) → (if b && nat_lt place high then munge place word else word) ≡ word
    by true = rw (le-ltb _ _ above) refl
    by false = refl

-- words after those that are munged stay as they are
pub map_from-after : (munge : ℕ → ℕ → ℕ) (low high place : ℕ) (xs : List ℕ) → high ≤ place → map_from (munged_within munge low high) place xs ≡ xs
map_from-after munge low high place [] above = refl
map_from-after munge low high place (x ∷ xs) above = ap₂ (λ y ys. y ∷ ys) (after munge low high place x above) (map_from-after munge low high (suc place) xs (omega arith))

before : (munge : ℕ → ℕ → ℕ) (low high place word : ℕ) → place < low → munged_within munge low high place word ≡ word
before munge low high place word below = rw (lt-leb _ _ below) refl

-- what was munged up to a place, and from there on up to another
further : (munge : ℕ → ℕ → ℕ) (w more place word : ℕ) → munged_within munge w (w + more) place (munged_within munge 0 w place word) ≡ munged_within munge 0 (w + more) place word
further munge w more place word = elim (cases_lt place w) [
  | inl low ↦ before munge w (w + more) place _ low ∙ within munge 0 w place word (omega arith) low ∙ sym (within munge 0 (w + more) place word (omega arith) (omega arith))
  | inr high ↦ ap (munged_within munge w (w + more) place) (after munge 0 w place word high) ∙ elim (cases_lt place (w + more)) [
    | inl low ↦ within munge w (w + more) place word high low ∙ sym (within munge 0 (w + more) place word (omega arith) low)
    | inr higher ↦ after munge w (w + more) place word higher ∙ sym (after munge 0 (w + more) place word higher)
  ]
]

pub map_from-further : (munge : ℕ → ℕ → ℕ) (w more place : ℕ) (xs : List ℕ) →
    map_from (munged_within munge w (w + more)) place (map_from (munged_within munge 0 w) place xs) ≡ map_from (munged_within munge 0 (w + more)) place xs
map_from-further munge w more place [] = refl
map_from-further munge w more place (x ∷ xs) = ap₂ (λ y ys. y ∷ ys) (further munge w more place x) (map_from-further munge w more (suc place) xs)

-- outputs whose words lie below a place have these munged
pub outputs-munged : (sub : ℕ) (munge : ℕ → ℕ → ℕ) (w place : ℕ) (cs : List Conv) (xs : List ℕ) → place + length cs ≤ w →
    outputs sub cs (map_from (munged_within munge 0 w) place xs) ≡ outputs sub cs (map_from munge place xs)
outputs-munged sub munge w place [] xs below = refl
outputs-munged sub munge w place (c ∷ cs) [] below = refl
outputs-munged sub munge w place (c ∷ cs) (x ∷ xs) below =
    ap₂ (λ word (more : List Output). let o : Output = record { sub = sub; time = c.time; index = c.list_index; word = word } in o ∷ more)
    (within munge 0 w place x (omega arith) (omega arith)) (outputs-munged sub munge w (suc place) cs xs (omega arith))
