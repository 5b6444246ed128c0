-- The lines of subdevices, one more at a time.
use Rattle.std.proofs.Common.{◌≡◌, ℕ, ◌+◌, ◌<◌, List, [], ◌∷◌, ◌++◌, length, length-take, get_or, take, sym, ap, ◌∙◌, arith, append_assoc, append-nil}
use Rattle.std.proofs.lemmas.List.{take_more}
use Rattle.cm_run.specs.SoakText.{part_line, part_lines}
use Rattle.cm_run.specs.declared.soak.part.Part.{Part}

after : (first : ℕ) (parts : List Part) (part : Part) → part_lines first (parts ++ part ∷ []) ≡ part_lines first parts ++ part_line (first + length parts) part
after first [] part = append-nil (part_line first part) ∙ ap (λ (n : ℕ). part_line n part) (let e : first ≡ first + 0 = omega arith in e)
after first (p ∷ ps) part =
    ap (λ (l : List ℕ). part_line first p ++ l) (after (first + 1) ps part)
    ∙ ap (λ (n : ℕ). part_line first p ++ (part_lines (first + 1) ps ++ part_line n part)) (let e : first + 1 + length ps ≡ first + length (p ∷ ps) = omega arith in e)
    ∙ sym (append_assoc (part_line first p) (part_lines (first + 1) ps) (part_line (first + length (p ∷ ps)) part))

-- the line of the next subdevice
pub lines_more : (text : List ℕ) (parts : List Part) (i : ℕ) (d : Part) → i < length parts → (text ++ part_lines 0 (take i parts)) ++ part_line i (get_or parts i d) ≡ text ++ part_lines 0 (take (i + 1) parts)
lines_more text parts i d below =
    let size : 0 + length (take i parts) ≡ i = (let taken = length-take i parts in omega arith) in
    append_assoc text (part_lines 0 (take i parts)) (part_line i (get_or parts i d))
    ∙ ap (λ (n : ℕ). text ++ (part_lines 0 (take i parts) ++ part_line n (get_or parts i d))) (sym size)
    ∙ ap (λ (l : List ℕ). text ++ l) (sym (after 0 (take i parts) (get_or parts i d)))
    ∙ ap (λ (l : List Part). text ++ part_lines 0 l) (sym (take_more parts i d below))
