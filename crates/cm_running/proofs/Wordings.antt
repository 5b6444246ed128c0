-- The words of an answer, one after another.
use Rattle.std.proofs.Common.{◌≡◌, ℕ, zero, suc, ◌+◌, ◌<◌, ◌≤◌, List, [], ◌∷◌, ◌++◌, length, get_or, take, codes, refl, sym, ap, ap₂, ◌∙◌, arith, append_assoc, append-nil}
use Rattle.std.proofs.lemmas.List.{length-take-le}
use Rattle.std.specs.Fmt.{decimal}
use Rattle.cm_running.specs.Texts.{codes_text, words_text}

-- one more word stands after the others
pub words_text-next : (xs : List ℕ) (i : ℕ) → i < length xs → words_text (take (i + 1) xs) ≡ words_text (take i xs) ++ (codes " " ++ decimal (get_or xs i 0))
words_text-next [] i within = absurd (omega arith)
words_text-next (x ∷ xs) zero within = ap (λ text. codes " " ++ text) (append-nil (decimal x))
words_text-next (x ∷ xs) (suc i) within =
    let longer : suc i + 1 ≡ suc (i + 1) = omega arith in
    let word = codes " " ++ decimal (get_or xs i 0) in
    ap (λ n. words_text (take n (x ∷ xs))) longer
    ∙ ap (λ text. codes " " ++ (decimal x ++ text)) (words_text-next xs i (omega arith))
    ∙ ap (λ text. codes " " ++ text) (sym (append_assoc (decimal x) (words_text (take i xs)) word))

-- the words of two lists
pub words_text-append : (xs ys : List ℕ) → words_text (xs ++ ys) ≡ words_text xs ++ words_text ys
words_text-append [] ys = refl
words_text-append (x ∷ xs) ys =
    let word = codes " " ++ decimal x in
    ap (λ text. word ++ text) (words_text-append xs ys) ∙ sym (append_assoc word (words_text xs) (words_text ys))

-- the text of words in two parts, after their count
pub codes_text-parts : (old first rest held : List ℕ) (count : ℕ) → count ≤ length held → first ++ rest ≡ take count held →
    old ++ codes "ok " ++ decimal count ++ words_text first ++ words_text rest ++ codes "\n" ≡ old ++ codes_text (take count held)
codes_text-parts old first rest held count within both =
    let words = take count held in
    let said : words_text first ++ words_text rest ≡ words_text words = sym (words_text-append first rest) ∙ ap words_text both in
    let many : length words ≡ count = length-take-le count held within in
    five old (codes "ok ") (decimal count) (words_text first) (words_text rest) (codes "\n")
    ∙ ap₂ (λ n text. old ++ (codes "ok " ++ decimal n ++ text ++ codes "\n")) (sym many) said
  where
    five : (x a b c d e : List ℕ) → x ++ a ++ b ++ c ++ d ++ e ≡ x ++ (a ++ b ++ (c ++ d) ++ e)
    five x a b c d e = simp append_assoc
