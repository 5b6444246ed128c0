-- Lines of samples, one list after another.
use Rattle.std.proofs.Common.{◌≡◌, ℕ, suc, ◌+◌, List, [], ◌∷◌, ◌++◌, length, length-append, sym, ap, ap₂, ◌∙◌, arith, append_assoc}
use Rattle.cm_text.specs.Format.{Format, sample_line, sample_lines}
use Rattle.cm_text.specs.SampleText.{lines_of, with_lines}

-- the lines of two lists of samples are those of the first and then those of the second
pub lines-joined : (f : Format) (place : ℕ) (xs ys : List ℕ) → sample_lines f place (xs ++ ys) ≡ sample_lines f place xs ++ sample_lines f (place + length xs) ys
lines-joined f place [] ys = let here : place ≡ place + 0 = omega arith in ap (λ n. sample_lines f n ys) here
lines-joined f place (x ∷ xs) ys =
    let there : suc place + length xs ≡ place + suc (length xs) = omega arith in
    ap (λ text. sample_line f place x ++ text) (lines-joined f (suc place) xs ys ∙ ap (λ n. sample_lines f (suc place) xs ++ sample_lines f n ys) there)
    ∙ sym (append_assoc (sample_line f place x) (sample_lines f (suc place) xs) (sample_lines f (place + suc (length xs)) ys))

-- the lines of samples, and those of more of them
pub lines_more : (f : Format) (words more : List ℕ) → with_lines (lines_of f words) more ≡ lines_of f (words ++ more)
lines_more f words more =
    let place : length words ≡ 0 + length words = omega arith in
    let text : sample_lines f 0 words ++ sample_lines f (length words) more ≡ sample_lines f 0 (words ++ more) = ap (λ (n : ℕ). sample_lines f 0 words ++ sample_lines f n more) place ∙ sym (lines-joined f 0 words more) in
    ap₂ (λ (made : List ℕ) (n : ℕ). record { format = f; text = made; count = n }) text (sym (length-append words more))
