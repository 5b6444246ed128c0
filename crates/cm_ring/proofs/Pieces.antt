-- Pieces of the munged plan, one sample longer at a time.
use Rattle.std.proofs.Common.{◌≡◌, ℕ, ◌+◌, ◌-◌, ◌<◌, ◌≤◌, List, [], ◌∷◌, ◌++◌, length, get_or, drop, set, sym, ap, ◌∙◌, arith, length-drop, get_or-drop, append_assoc}
use Rattle.std.proofs.lemmas.List.{take_more, drop_more, set-append_right, length-take-le}
use Rattle.cm_sample.proofs.Mapped.{length-map_from, get_or-map_from}
use Rattle.cm_sample.specs.Rule.{munged_word}
use Rattle.cm_ring_core.specs.declared.view.RingConstants.{RingConstants}
use Rattle.cm_ring_core.specs.Lawful.{munged_at}
use Rattle.cm_ring.specs.Samples.{munged_plan, piece}

-- there are as many munged samples as samples, and each is that of its place
pub length_munged : (ring : RingConstants) → length (munged_plan ring) ≡ length ring.samples
length_munged ring = length-map_from (munged_word ring.rule) 0 ring.samples

pub munged_there : (ring : RingConstants) (k : ℕ) → k < length ring.samples → get_or (munged_plan ring) k 0 ≡ munged_at ring k
munged_there ring k h =
    let here : 0 + k ≡ k = omega arith in
    get_or-map_from (munged_word ring.rule) 0 ring.samples k 0 0 h ∙ ap (λ (p : ℕ). munged_word ring.rule p (get_or ring.samples k 0)) here

pub piece_more : (ring : RingConstants) (place count : ℕ) → place + count < length ring.samples → piece ring place (count + 1) ≡ piece ring place count ++ munged_at ring (place + count) ∷ []
piece_more ring place count within =
    let all = munged_plan ring in
    let size = length_munged ring in
    let left : length (drop place all) ≡ length all - place = length-drop place all in
    take_more (drop place all) count 0 (omega arith)
    ∙ ap (λ (w : ℕ). piece ring place count ++ w ∷ []) (get_or-drop place all count 0 ∙ munged_there ring (place + count) within)

pub length-piece : (ring : RingConstants) (place count : ℕ) → place + count ≤ length ring.samples → length (piece ring place count) ≡ count
length-piece ring place count within =
    let all = munged_plan ring in
    let size = length_munged ring in
    let left : length (drop place all) ≡ length all - place = length-drop place all in
    length-take-le count (drop place all) (omega arith)

-- a sample more is copied
pub copied_more : (ring : RingConstants) (place i : ℕ) (out old : List ℕ) → place + i < length ring.samples → i < length old → out ≡ piece ring place i ++ drop i old
    → set out i (munged_at ring (place + i)) ≡ piece ring place (i + 1) ++ drop (i + 1) old
copied_more ring place i out old within room is =
    let w = munged_at ring (place + i) in
    let size : length (piece ring place i) ≡ i = length-piece ring place i (omega arith) in
    let split : drop i old ≡ get_or old i 0 ∷ drop (i + 1) old = drop_more old i 0 room in
    let same : i - i ≡ 0 = omega arith in
    ap (λ (l : List ℕ). set l i w) is
    ∙ set-append_right (piece ring place i) (drop i old) i i w size (omega arith)
    ∙ ap (λ (l : List ℕ). piece ring place i ++ set l (i - i) w) split
    ∙ ap (λ (k : ℕ). piece ring place i ++ set (get_or old i 0 ∷ drop (i + 1) old) k w) same
    ∙ sym (append_assoc (piece ring place i) (w ∷ []) (drop (i + 1) old))
    ∙ ap (λ (l : List ℕ). l ++ drop (i + 1) old) (sym (piece_more ring place i within))
