-- The lines of samples, one after another.
use Rattle.std.proofs.Common.{◌≡◌, ℕ, zero, suc, ◌+◌, ◌<◌, List, [], ◌∷◌, ◌++◌, length, get_or, take, sym, ap, ◌∙◌, arith, append_assoc, append-nil}
use Rattle.cm_text.specs.Format.{Format, sample_line, sample_lines}

-- one more sample is one more line
pub sample_lines-next : (f : Format) (place : ℕ) (xs : List ℕ) (i : ℕ) → i < length xs →
    sample_lines f place (take (i + 1) xs) ≡ sample_lines f place (take i xs) ++ sample_line f (place + i) (get_or xs i 0)
sample_lines-next f place [] i within = absurd (omega arith)
sample_lines-next f place (x ∷ xs) zero within = append-nil (sample_line f place x) ∙ ap (λ p. sample_line f p x) (omega arith)
sample_lines-next f place (x ∷ xs) (suc i) within =
    let longer : suc i + 1 ≡ suc (i + 1) = omega arith in
    ap (λ n. sample_lines f place (take n (x ∷ xs))) longer
    ∙ ap (λ text. sample_line f place x ++ text) (sample_lines-next f (suc place) xs i (omega arith) ∙ ap (λ p. sample_lines f (suc place) (take i xs) ++ sample_line f p (get_or xs i 0)) (omega arith))
    ∙ sym (append_assoc (sample_line f place x) (sample_lines f (suc place) (take i xs)) (sample_line f (place + suc i) (get_or xs i 0)))
