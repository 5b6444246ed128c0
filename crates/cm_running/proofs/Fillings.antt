-- Filling a ring, one piece after the other.
use Rattle.std.proofs.Common.{◌≡◌, ℕ, ◌+◌, ◌≤◌, List, length, take, drop, sym, ap, ◌∙◌, arith, drop-drop}
use Rattle.std.proofs.Math.Seq.{take-add}
use Rattle.std.proofs.lemmas.List.{length-map, length-take-le, map-append}
use Rattle.cm_expand.specs.Taking.{raw_words}
use Rattle.cm_expand.specs.declared.conv.Conv.{Conv}
use Rattle.cm_ring_core.specs.Local.{IsLevel, Ring}
use Rattle.cm_ring_core.specs.Pushed.{pushed}
use Rattle.cm_ring_core.proofs.Stored.{pushed_parts}
use Rattle.cm_expand.specs.Taking.{NeverFalls, come}
use Rattle.cm_running.specs.Filling.{filled, moving}
use Rattle.cm_expand.proofs.Come.{come-drop}
use Rattle.cm_expand.proofs.Come.{come-le}

-- a ring that took the first conversions of those that move
abbrev pub with_piece : Ring → List Conv → ℕ → Ring
with_piece ring to_come count = pushed ring (raw_words (take count to_come))

pub piece_length : (to_come : List Conv) (time count : ℕ) → count ≤ come time to_come → length (raw_words (take count to_come)) ≡ count
piece_length to_come time count some = length-map (take count to_come) (λ (c : Conv). c.raw) ∙ length-take-le count to_come (omega (arith, come-le time to_come))

-- then the others move
moving_rest : (ring : Ring) (to_come : List Conv) (time count : ℕ) → NeverFalls to_come → IsLevel ring → count ≤ moving ring to_come time →
    count + moving (with_piece ring to_come count) (drop count to_come) time ≡ moving ring to_come time
moving_rest ring to_come time count order level some =
    let left = come-drop time count to_come order (omega arith) in
    let piece = piece_length to_come time count (omega arith) in
    omega (arith, level.w_a)

-- and the same ring comes about
pub filled_piece : (ring : Ring) (to_come : List Conv) (time count : ℕ) → NeverFalls to_come → IsLevel ring → count ≤ moving ring to_come time →
    filled (with_piece ring to_come count) (drop count to_come) time ≡ filled ring to_come time
filled_piece ring to_come time count order level some =
    let more = moving (with_piece ring to_come count) (drop count to_come) time in
    pushed_parts ring (raw_words (take count to_come)) (raw_words (take more (drop count to_come)))
    ∙ ap (pushed ring) (sym (map-append (λ (c : Conv). c.raw) (take count to_come) (take more (drop count to_come))))
    ∙ ap (λ cs. pushed ring (raw_words cs)) (sym (take-add count more to_come))
    ∙ ap (λ n. pushed ring (raw_words (take n to_come))) (moving_rest ring to_come time count order level some)

-- with the same conversions left
pub left_piece : (ring : Ring) (to_come : List Conv) (time count : ℕ) → NeverFalls to_come → IsLevel ring → count ≤ moving ring to_come time →
    drop (moving (with_piece ring to_come count) (drop count to_come) time) (drop count to_come) ≡ drop (moving ring to_come time) to_come
left_piece ring to_come time count order level some =
    drop-drop (moving (with_piece ring to_come count) (drop count to_come) time) count to_come ∙ ap (λ n. drop n to_come) (moving_rest ring to_come time count order level some)
