-- The lines of a dialogue up to the one after which the session starts.
use Rattle.std.proofs.Common.{◌≡◌, ℕ, suc, ◌+◌, Bool, true, false, cond, not, ◌||◌, ◌==◌, List, [], ◌∷◌, ◌++◌, length, take, drop, refl, ap, sym, ◌∙◌, append_assoc, arith, add-one}
use Rattle.std.specs.List.{All, list_any, position_or_len}
use Rattle.std.proofs.lemmas.Bool.Decides.{nat_tests}
use Rattle.std.proofs.lemmas.List.Elements.{All-head, All-nil, All-tail, All-push}
use Rattle.cm_dialogue.specs.Heading.{Follows, IsHead, StartsLater, head_of, starts_session}

-- where the first place of a test is, by its first element
pub first_here : {X : Type 0} (p : X → Bool) (x : X) (xs : List X) → p x ≡ true → position_or_len p (x ∷ xs) ≡ 0
first_here p x xs h = ap (λ (b : Bool). cond (not b) (1 + position_or_len p xs) 0) h

pub first_later : {X : Type 0} (p : X → Bool) (x : X) (xs : List X) → p x ≡ false → position_or_len p (x ∷ xs) ≡ suc (position_or_len p xs)
first_later p x xs h = ap (λ (b : Bool). cond (not b) (1 + position_or_len p xs) 0) h ∙ omega arith

here : {X : Type 0} (x : X) (xs : List X) → not (length (x ∷ xs) == 0) ≡ true
here x xs = grind (arith, nat_tests)

-- there is something from that place on where the test holds of anything
pub some_from : {X : Type 0} (p : X → Bool) (xs : List X) → not (length (drop (position_or_len p xs) xs) == 0) ≡ list_any p xs
some_from p [] = refl
some_from p (x ∷ xs) = by (some_from p xs) (p x) refl
  where
    by : not (length (drop (position_or_len p xs) xs) == 0) ≡ list_any p xs → (b : Bool) → p x ≡ b → not (length (drop (position_or_len p (x ∷ xs)) (x ∷ xs)) == 0) ≡ (p x || list_any p xs)
    by later true e = ap (λ (n : ℕ). not (length (drop n (x ∷ xs)) == 0)) (first_here p x xs e) ∙ here x xs ∙ sym (ap (λ (b : Bool). b || list_any p xs) e)
    by later false e = ap (λ (n : ℕ). not (length (drop n (x ∷ xs)) == 0)) (first_later p x xs e) ∙ later ∙ sym (ap (λ (b : Bool). b || list_any p xs) e)

-- what is taken up to the first place, where the first element doesn't pass
take_later : {X : Type 0} (p : X → Bool) (x : X) (xs : List X) → p x ≡ false → take (position_or_len p (x ∷ xs) + 1) (x ∷ xs) ≡ x ∷ take (position_or_len p xs + 1) xs
take_later p x xs h =
    ap (λ (n : ℕ). take (n + 1) (x ∷ xs)) (first_later p x xs h)
    ∙ ap (λ (n : ℕ). take n (x ∷ xs)) (add-one (suc (position_or_len p xs)))
    ∙ ap (λ (n : ℕ). x ∷ take n xs) (sym (add-one (position_or_len p xs)))

-- none of these passes, and then one does
first_after : {X : Type 0} (p : X → Bool) (before : List X) (x : X) (more : List X) → All (λ y. p y ≡ false) before → p x ≡ true →
    take (position_or_len p (before ++ x ∷ more) + 1) (before ++ x ∷ more) ≡ before ++ x ∷ []
first_after p [] x more none h = ap (λ (n : ℕ). take (n + 1) (x ∷ more)) (first_here p x more h)
first_after {X} p (y ∷ before) x more none h =
    take_later p y (before ++ x ∷ more) (All-head (λ z. p z ≡ false) y before none)
    ∙ ap (λ (ys : List X). y ∷ ys) (first_after p before x more (All-tail (λ z. p z ≡ false) y before none) h)

-- none passes
first_never : {X : Type 0} (p : X → Bool) (xs : List X) → All (λ y. p y ≡ false) xs → take (position_or_len p xs + 1) xs ≡ xs
first_never p [] none = refl
first_never {X} p (y ∷ xs) none = take_later p y xs (All-head (λ z. p z ≡ false) y xs none) ∙ ap (λ (ys : List X). y ∷ ys) (first_never p xs (All-tail (λ z. p z ≡ false) y xs none))

-- lines of which none starts the session are a head
pub later-head : (lines : List (List ℕ)) → StartsLater lines → IsHead lines
later-head lines later = first_never starts_session lines later

-- the head ends where the session starts, whatever is said after it
pub head-follows : (lines more : List (List ℕ)) → Follows true lines → head_of (lines ++ more) ≡ lines
head-follows lines more f =
    ap (λ (ls : List (List ℕ)). head_of (ls ++ more)) f.2
    ∙ ap head_of (append_assoc f.0 (f.1 ∷ []) more)
    ∙ first_after starts_session f.0 f.1 more f.3 f.4
    ∙ sym f.2

-- a line more, whatever it says
pub head-more : (lines : List (List ℕ)) (line : List ℕ) → StartsLater lines → IsHead (lines ++ line ∷ [])
head-more lines line later = by (starts_session line) refl
  where
    by : (b : Bool) → starts_session line ≡ b → IsHead (lines ++ line ∷ [])
    by true e = first_after starts_session lines line [] later e
    by false e = later-head (lines ++ line ∷ []) (All-push (λ line. starts_session line ≡ false) lines line later e)

-- lines of a head are of the head that goes on, whatever is said after them
pub head-prefix : (lines more : List (List ℕ)) → IsHead lines → (rest : List (List ℕ)) × (head_of (lines ++ more) ≡ lines ++ rest)
head-prefix [] more head = (head_of more, refl)
head-prefix (line ∷ lines) more head = by (λ h. head-prefix lines more h) (starts_session line) refl
  where
    tails : (x : List ℕ) (xs : List (List ℕ)) (y : List ℕ) (ys : List (List ℕ)) → x ∷ xs ≡ y ∷ ys → ys ≡ xs
    tails x xs y ys e = cc

    by : (IsHead lines → (rest : List (List ℕ)) × (head_of (lines ++ more) ≡ lines ++ rest)) → (b : Bool) → starts_session line ≡ b → (rest : List (List ℕ)) × (head_of ((line ∷ lines) ++ more) ≡ (line ∷ lines) ++ rest)
    by later true e =
        let alone : (xs : List (List ℕ)) → head_of (line ∷ xs) ≡ line ∷ [] = λ xs. first_after starts_session [] line xs (All-nil (λ y. starts_session y ≡ false)) e in
        let none : lines ≡ [] = tails line [] line lines (sym (alone lines) ∙ head) in
        ([], alone (lines ++ more) ∙ ap (λ (ls : List (List ℕ)). line ∷ (ls ++ [])) (sym none))
    by later false e =
        let further = later (tails line lines line (head_of lines) (sym head ∙ take_later starts_session line lines e)) in
        (further.0, take_later starts_session line (lines ++ more) e ∙ ap (λ (ls : List (List ℕ)). line ∷ ls) further.1)
