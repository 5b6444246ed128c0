-- Texts that are written piece by piece.
use Rattle.std.proofs.Common.{◌≡◌, ℕ, ◌+◌, List, [], ◌∷◌, ◌++◌, map, Result, Ok, Err, OnOk, sym, ap, ◌∙◌, arith, append_assoc, append-nil}
use Rattle.std.specs.Prelude.{codes, flat_map}
use Rattle.cm_facts.specs.FactLine.{spaced}

-- nothing is written after others
pub none_more : (old : List ℕ) → old ≡ old ++ []
none_more old = sym (append-nil old)

-- a word, and then those after it
pub word_more : (old word : List ℕ) (words : List (List ℕ)) → (old ++ (codes " " ++ word)) ++ spaced words ≡ old ++ spaced (word ∷ words)
word_more old word words = append_assoc old (codes " " ++ word) (spaced words)

-- a fact, and then those after it
pub facts_more : (old one more : List ℕ) → (old ++ one) ++ more ≡ old ++ (one ++ more)
facts_more old one more = append_assoc old one more

-- three texts, one after another
pub three_more : (old one two three a b c : List ℕ) → a ≡ old ++ one → b ≡ a ++ two → c ≡ b ++ three → c ≡ old ++ (one ++ two ++ three)
three_more old one two three a b c p q r =
    r ∙ ap (λ (t : List ℕ). t ++ three) (q ∙ ap (λ (t : List ℕ). t ++ two) p ∙ append_assoc old one two)
    ∙ append_assoc old (one ++ two) three

-- what holds if a call succeeds holds in another form, too
pub if_ok : {T E P Q : Type 0} (r : Result T E) → OnOk r P → (P → Q) → OnOk r Q
if_ok (Ok x) p more = more p
if_ok (Err e) p more = tt
