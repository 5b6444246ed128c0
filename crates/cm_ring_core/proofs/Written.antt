-- Rings whose written samples are munged one after another.
use Rattle.std.proofs.Common.{◌≡◌, ℕ, suc, ◌+◌, ◌-◌, ◌%◌, ◌<◌, ◌≤◌, List, [], ◌∷◌, ◌++◌, length, get_or, take, drop, set, refl, sym, ap, ◌∙◌, arith, length-drop}
use Rattle.std.proofs.Math.Seq.{take-suc}
use Rattle.std.proofs.lemmas.Bool.Decides.{nat_tests}
use Rattle.std.proofs.lemmas.List.{drop-append-le, drop-take, length-take-le}
use Rattle.cm_ring_core.specs.Between.{munged_between}
use Rattle.cm_ring_core.specs.Held.{stored_from}
use Rattle.cm_ring_core.specs.Local.{Ring, IsRing}
use Rattle.cm_ring_core.specs.Pushed.{munged_from, munged_to, samples_between}
use Rattle.cm_sample.proofs.Mapped.{get_or-map_from}
use Rattle.cm_ring_core.proofs.Munged.{map_from-next, map_from-none}
use Rattle.cm_ring_core.proofs.Rings.{same_ring}
use Rattle.cm_ring_core.proofs.Stored.{stored_parts}
use Rattle.cm_sample.specs.Rule.{RuleText, map_from, munged_word}

-- the samples up to the next place
between_next : (ring : Ring) (c : ℕ) → IsRing ring → ring.m ≤ c → c < ring.w → samples_between ring ring.m (c + 1) ≡ samples_between ring ring.m c ++ get_or ring.held (c - ring.r) 0 ∷ []
between_next ring c is low high =
    let r_m : ring.r ≤ ring.m = omega (arith, is.r_ra, is.ra_m) in
    let below : c - ring.r < length ring.held = omega (arith, is.w_a, is.count) in
    let more : c + 1 - ring.r ≡ suc (c - ring.r) = omega arith in
    ap (λ n. drop (ring.m - ring.r) (take n ring.held)) more
    ∙ ap (drop (ring.m - ring.r)) (take-suc ring.held (c - ring.r) 0 below)
    ∙ drop-append-le (ring.m - ring.r) (take (c - ring.r) ring.held) (get_or ring.held (c - ring.r) 0 ∷ []) (omega (arith, length-take-le (c - ring.r) ring.held (omega arith)))

-- and how many they are
between_count : (ring : Ring) (c : ℕ) → IsRing ring → ring.m ≤ c → c < ring.w → ring.m + length (samples_between ring ring.m c) ≡ c
between_count ring c is low high =
    let within : c - ring.r ≤ length ring.held = omega (arith, is.w_a, is.count) in
    omega (arith, is.r_ra, is.ra_m, length-drop (ring.m - ring.r) (take (c - ring.r) ring.held), length-take-le (c - ring.r) ring.held within)

-- the next sample is not munged yet
not_yet : (rule : RuleText) (low place word : ℕ) → munged_between rule low place place word ≡ word
not_yet rule low place word = grind (arith, nat_tests)

next_word : (ring : Ring) (c : ℕ) → IsRing ring → ring.m ≤ c → c < ring.w →
    get_or (map_from (munged_between ring.rule ring.m c) ring.r ring.held) (c - ring.r) 0 ≡ get_or ring.held (c - ring.r) 0
next_word ring c is low high =
    let here : ring.r + (c - ring.r) ≡ c = omega (arith, is.r_ra, is.ra_m) in
    get_or-map_from (munged_between ring.rule ring.m c) ring.r ring.held (c - ring.r) 0 0 (omega (arith, is.r_ra, is.ra_m, is.w_a, is.count))
    ∙ ap (λ p. munged_between ring.rule ring.m c p (get_or ring.held (c - ring.r) 0)) here
    ∙ not_yet ring.rule ring.m c (get_or ring.held (c - ring.r) 0)

-- the cells after one sample more
cells_next : (ring : Ring) (c word : ℕ) → IsRing ring → ring.m ≤ c → c < ring.w → word ≡ munged_word ring.rule c (get_or ring.held (c - ring.r) 0) →
    set (munged_to ring c).cells (c % ring.size) word ≡ (munged_to ring (c + 1)).cells
cells_next ring c word is low high this =
    let some = samples_between ring ring.m c in
    let f = munged_word ring.rule in
    let x = get_or ring.held (c - ring.r) 0 in
    ap (set (munged_to ring c).cells (c % ring.size)) this
    ∙ ap (λ p. stored_from (munged_to ring c).cells ring.size p (map_from f p (x ∷ []))) (sym (between_count ring c is low high))
    ∙ stored_parts f ring.cells ring.size ring.m some (x ∷ [])
    ∙ ap (λ xs. stored_from ring.cells ring.size ring.m (map_from f ring.m xs)) (sym (between_next ring c is low high))

-- before the first place nothing is munged
pub munged_none : (ring : Ring) → ring ≡ munged_to ring ring.m
munged_none ring = same_ring _ _ refl refl refl refl refl refl refl (no_cells ring.m (samples_between ring ring.m ring.m) (none (ring.m - ring.r) ring.held)) (sym (map_from-none ring.rule ring.m ring.r ring.held))
  where
    none : (n : ℕ) (xs : List ℕ) → drop n (take n xs) ≡ []
    none n xs =
        let all : n ≡ n + 0 = omega arith in
        ap (λ k. drop n (take k xs)) all ∙ drop-take n 0 xs

    no_cells : (place : ℕ) (words : List ℕ) → words ≡ [] → ring.cells ≡ stored_from ring.cells ring.size place (munged_from ring.rule place words)
    no_cells place words e = ap (λ ws. stored_from ring.cells ring.size place (munged_from ring.rule place ws)) (sym e)

-- one place more
pub munged_next : (old now new : Ring) (c : ℕ) → IsRing old → old.m ≤ c → c < old.w → now ≡ munged_to old c →
    new ≡ record now {
      m = now.m + 1;
      cells = set now.cells (now.m % now.size) (munged_word now.rule now.m (get_or now.held (now.m - now.r) 0));
      held = set now.held (now.m - now.r) (munged_word now.rule now.m (get_or now.held (now.m - now.r) 0));
    } →
    new ≡ munged_to old (c + 1)
munged_next old now new c is low high so_far step =
    step
    ∙ ap (λ (at : Ring). record at {
      m = at.m + 1;
      cells = set at.cells (at.m % at.size) (munged_word at.rule at.m (get_or at.held (at.m - at.r) 0));
      held = set at.held (at.m - at.r) (munged_word at.rule at.m (get_or at.held (at.m - at.r) 0));
    }) so_far
    ∙ same_ring _ _ refl refl refl refl refl refl refl
    (cells_next old c _ is low high (ap (munged_word old.rule c) (next_word old c is low high)))
    (map_from-next old.rule old.m c old.r old.held low (omega (arith, is.r_ra, is.ra_m)) (omega (arith, is.r_ra, is.ra_m, is.w_a, is.count)))
