-- A list piece by piece, and known bytes along with it.
use Rattle.std.proofs.Common.{◌≡◌, ℕ, ◌+◌, ◌-◌, List, ◌++◌, length, take, drop, Option, Result, Ok, Err, OnOk, sym, ap, ap₂, ◌∙◌, arith, subst}
use Rattle.std.proofs.lemmas.List.{take-append-drop, take-take, drop-take, take_rest}
use Rattle.std.specs.Io.KnownBytes.{Appends}
use Rattle.std.proofs.KnownBytes.{Appends-trans}

-- a longer prefix is a prefix and a prefix of what follows it
pub take_sum : {X : Type 0} → (i n : ℕ) (xs : List X) → take (i + n) xs ≡ take i xs ++ take n (drop i xs)
take_sum i n xs = sym (take-append-drop i (take (i + n) xs)) ∙ ap₂ ◌++◌ (take-take i (i + n) xs (omega arith)) (drop-take i n xs)

-- what was taken of a text grows by a prefix of the rest
pub Appends_further : (a b c : Option (List ℕ)) (text : List ℕ) (i n : ℕ) →
    Appends a b (take i text) → Appends b c (take n (take (length text - i) (drop i text))) → Appends a c (take (i + n) text)
Appends_further a b c text i n prefix more =
    subst (Appends a c) (ap (λ rest. take i text ++ take n rest) (take_rest text i) ∙ sym (take_sum i n text)) (Appends-trans a b c _ _ prefix more)

-- what follows from a fact about a call that went well
pub on_ok : {X E : Type 0} (r : Result X E) (P Q : Type 0) → OnOk r P → (P → Q) → OnOk r Q
on_ok (Ok x) P Q p f = f p
on_ok (Err e) P Q p f = tt
