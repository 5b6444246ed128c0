-- Times that are a period apart.
use Rattle.std.proofs.Common.{◌≡◌, ℕ, zero, suc, ◌+◌, ◌*◌, ◌-◌, ◌<◌, List, [], ◌∷◌, ◌++◌, length, map, take, set, add-one, ap, sym, ◌∙◌, arith, append_assoc}
use Rattle.std.proofs.lemmas.List.{map-append, take_more_set}
use Rattle.cm_signal.specs.Adding.{progression}

-- one time more
pub more_times : (first period count i : ℕ) (times : List ℕ) → i < count →
    times ++ progression (first + i * period) period (count - i) ≡ (times ++ (first + i * period) ∷ []) ++ progression (first + (i + 1) * period) period (count - (i + 1))
more_times first period count i times h =
    let less : count - i ≡ suc (count - (i + 1)) = omega arith in
    let next : first + i * period + period ≡ first + (i + 1) * period = omega arith in
    ap (λ n. times ++ progression (first + i * period) period n) less
    ∙ ap (λ t. times ++ (first + i * period) ∷ progression t period (count - (i + 1))) next
    ∙ sym (append_assoc times ((first + i * period) ∷ []) (progression (first + (i + 1) * period) period (count - (i + 1))))

-- one time more at the end
pub later_time : (first period count : ℕ) → progression first period (suc count) ≡ progression first period count ++ (first + count * period) ∷ []
later_time first period zero = ap (λ t. t ∷ []) (omega arith)
later_time first period (suc count) =
    let there : first + period + count * period ≡ first + suc count * period = omega arith in
    ap (λ (ts : List ℕ). first ∷ ts) (later_time (first + period) period count ∙ ap (λ t. progression (first + period) period count ++ t ∷ []) there)

-- what a function gives at the times so far, and at one time more
pub put_later : {X : Type 0} (f : ℕ → X) (first period i : ℕ) (items : List X) (item : X) → i < length items → take i items ≡ map f (progression first period i) → item ≡ f (first + i * period) →
    take (i + 1) (set items i item) ≡ map f (progression first period (i + 1))
put_later f first period i items item room so_far this =
    take_more_set items i item room
    ∙ ap (λ zs. zs ++ item ∷ []) so_far
    ∙ ap (λ z. map f (progression first period i) ++ z ∷ []) this
    ∙ sym (map-append f (progression first period i) ((first + i * period) ∷ []))
    ∙ ap (map f) (sym (later_time first period i) ∙ ap (progression first period) (sym (add-one i)))
