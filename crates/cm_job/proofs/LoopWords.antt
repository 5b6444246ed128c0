-- Some of the words of a line.
use Rattle.std.proofs.Common.{◌≡◌, ℕ, ◌+◌, inl, inr, min, Bool, true, false, List, length, map, take, drop, Result, Ok, Err, refl, sym, ap, ◌∙◌, arith}
use Rattle.std.specs.Prelude.{◌||◌, ◌==◌, IsTrue, if◌then◌else◌}
use Rattle.std.specs.List.{list_all}
use Rattle.std.proofs.lemmas.Bool.{and_parts, cases_lt, eq-eqb}
use Rattle.std.proofs.lemmas.List.{drop-map, drop_all, length-map, take-append-drop, take-map, take_all}
use Rattle.std.proofs.lemmas.List.Folds.{list_all-append}
use Rattle.cm_base.specs.declared.faults.Fault.{Fault}
use Rattle.cm_base.specs.declared.faults.Fault.TheVariants.{BadLine}
use Rattle.cm_job.specs.Head.{before_commands}

all_drop : {X : Type 0} (p : X → Bool) (n : ℕ) (xs : List X) → list_all p xs ≡ true → list_all p (drop n xs) ≡ true
all_drop p n xs all =
    let joined = sym (list_all-append p (take n xs) (drop n xs)) ∙ ap (list_all p) (take-append-drop n xs) ∙ all in
    (and_parts (list_all p (take n xs)) (list_all p (drop n xs)) joined).1

all_take : {X : Type 0} (p : X → Bool) (n : ℕ) (xs : List X) → list_all p xs ≡ true → list_all p (take n xs) ≡ true
all_take p n xs all =
    let joined = sym (list_all-append p (take n xs) (drop n xs)) ∙ ap (list_all p) (take-append-drop n xs) ∙ all in
    (and_parts (list_all p (take n xs)) (list_all p (drop n xs)) joined).0

-- the words of a part of a line that isn't bad are words
pub clean_part : {X : Type 0} (p : X → Bool) (bad : Bool) (count from : ℕ) (xs : List X) → IsTrue (bad || list_all p xs) → IsTrue (bad || list_all p (take count (drop from xs)))
clean_part p true count from xs clean = refl
clean_part p false count from xs clean = all_take p count (drop from xs) (all_drop p from xs clean)

-- a part of a line is seen as that part of the line
pub part_seen : {X Y : Type 0} (view : X → Y) (count from : ℕ) (xs : List X) → map view (take count (drop from xs)) ≡ take count (drop from (map view xs))
part_seen view count from xs = sym (take-map view count (drop from xs)) ∙ ap (take count) (sym (drop-map view from xs))

drop_min : {X : Type 0} (n : ℕ) (xs : List X) → drop (min n (length xs)) xs ≡ drop n xs
drop_min n xs = elim (cases_lt n (length xs)) [
  | inl below ↦ ap (λ (k : ℕ). drop k xs) (omega (arith, below))
  | inr above ↦ drop_all (min n (length xs)) xs (omega (arith, above)) ∙ sym (drop_all n xs above)
]

take_min : {X : Type 0} (n : ℕ) (xs : List X) → take (min n (length xs)) xs ≡ take n xs
take_min n xs = elim (cases_lt n (length xs)) [
  | inl below ↦ ap (λ (k : ℕ). take k xs) (omega (arith, below))
  | inr above ↦ take_all (min n (length xs)) xs (omega (arith, above)) ∙ sym (take_all n xs above)
]

-- a part that is cut to what is there
pub part_between : {X : Type 0} (count from : ℕ) (xs : List X) → take (min count (length (drop (min from (length xs)) xs))) (drop (min from (length xs)) xs) ≡ take count (drop from xs)
part_between count from xs = take_min count (drop (min from (length xs)) xs) ∙ ap (take count) (drop_min from xs)

-- the words before those of the commands are seen as such
pub before_seen : {X : Type 0} (view : X → List ℕ) (count rest : ℕ) (xs : List X) → length xs ≡ count + rest → (let r : Result (List (List ℕ)) Fault = Ok (map view (take count xs)) in r) ≡ before_commands count rest (map view xs)
before_seen view count rest xs long =
    let test : (length (map view xs) == count + rest) ≡ true = eq-eqb (length (map view xs)) (count + rest) (length-map xs view ∙ long) in
    let pick : Bool → Result (List (List ℕ)) Fault = λ b. if b then Ok (take count (map view xs)) else Err BadLine in
    ap (λ (words : List (List ℕ)). let r : Result (List (List ℕ)) Fault = Ok words in r) (sym (take-map view count xs)) ∙ sym (ap pick test)
