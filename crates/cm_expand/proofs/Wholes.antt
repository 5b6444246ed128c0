-- How many conversions a timing has whose scans all begin a period apart and are whole.
use Rattle.std.proofs.Common.{◌≡◌, ℕ, zero, suc, ◌+◌, ◌-◌, ◌*◌, ◌/◌, ◌%◌, ◌<◌, ◌≤◌, [], ◌++◌, length, Option, Some, true, refl, ap, sym, subst, ◌∙◌, arith, length-append, mul-le-mul_right}
use Rattle.std.specs.Prelude.{option_and_then}
use Rattle.std.proofs.Math.Nat.{mod_self, zero-mod}
use Rattle.std.proofs.lemmas.Bool.{eq-eqb, eqb-true}
use Rattle.cm_expand.specs.Timing.{Timing, Begins, Every, Converts, AtOnce, Spaced, up_to, conversion_time, conversion, as_long_as, scan, scan_end, is_full, first, next_begin, times}
use Rattle.cm_expand.specs.Extent.{IsExtent}
use Rattle.cm_expand.specs.TimePoint.{IsSoonest, scans_from}
use Rattle.cm_expand.proofs.Conversions.{up_to_some}
use Rattle.cm_expand.proofs.Scans.{as_long_some}
use Rattle.cm_expand.proofs.Soonest.{tick_is_soonest, first_is}
use Rattle.cm_expand.proofs.Ticks.{ticks_later}

-- as many as are asked for where the function gives a number at each place
as_long_all : (f : ℕ → Option ℕ) (i count : ℕ) → ((k : ℕ) → i ≤ k → k < i + count → (t : ℕ) × (f k ≡ Some t)) → length (as_long_as f i count) ≡ count
as_long_all f i zero all = refl
as_long_all f i (suc count) all =
    let here = all i (omega arith) (omega arith) in
    let rest = as_long_all f (suc i) count (λ k low high. all k (omega arith) (omega arith)) in
    let one_less : suc count - 1 ≡ count = omega arith in
    ap (length {A = ℕ}) (as_long_some f i (suc count) here.0 here.1 (omega arith))
    ∙ ap (λ n. suc (length (as_long_as f (suc i) n))) one_less
    ∙ ap (λ n. suc n) rest

-- a scan lacks no conversion where each comes by the horizon
full_by : (c : Timing) (begin : ℕ) → ((i : ℕ) → i < c.per_scan → (t : ℕ) × (conversion_time c.converts begin i ≡ Some t) × (t ≤ c.horizon)) → is_full c begin ≡ true
full_by c begin each = eq-eqb _ _ (as_long_all (conversion c begin) 0 c.per_scan (λ k low high. at k (each k (omega arith))))
  where
    at : (i : ℕ) → (t : ℕ) × (conversion_time c.converts begin i ≡ Some t) × (t ≤ c.horizon) → (t : ℕ) × (conversion c begin i ≡ Some t)
    at i (t, here, within) = (t, ap (up_to c.horizon) here ∙ up_to_some c.horizon t within)

-- scans whose conversions come at once end a nanosecond after their begin
pub extent_at_once : (c : Timing) → c.converts ≡ AtOnce → IsExtent c 0 1
extent_at_once c is = record {
  some = omega arith;
  ends = λ begin. ap (λ (v : Converts). scan_end v c.per_scan begin) is;
  full = λ begin within. full_by c begin (λ i below. (begin, ap (λ (v : Converts). conversion_time v begin i) is, omega arith));
}

-- scans whose conversions come a gap apart end a gap after their last conversion
pub extent_spaced : (c : Timing) (gap last end : ℕ) → c.converts ≡ Spaced gap → 1 ≤ gap → 1 ≤ c.per_scan → last ≡ (c.per_scan - 1) * gap → end ≡ last + gap → IsExtent c last end
extent_spaced c gap last end is some more at_last at_end = record {
  some = omega arith;
  ends = λ begin. ap (λ (v : Converts). scan_end v c.per_scan begin) is ∙ ap (λ n. Some (begin + n)) whole;
  full = λ begin within. full_by c begin (λ i below. (
    begin + i * gap,
    ap (λ (v : Converts). conversion_time v begin i) is,
    let fewer : i * gap ≤ (c.per_scan - 1) * gap = mul-le-mul_right gap (omega arith) in omega arith,
  ));
}
  where
    whole : c.per_scan * gap ≡ end
    whole =
        let count : c.per_scan ≡ c.per_scan - 1 + 1 = omega arith in
        ap (λ n. n * gap) count ∙ omega arith

-- the start is a tick
start_tick : (start period : ℕ) → (start - start) % period ≡ 0
start_tick start period =
    let none : start - start ≡ 0 = omega arith in
    ap (λ n. n % period) none ∙ zero-mod period

-- the first scan begins at the start
first_at_start : (c : Timing) (period : ℕ) → c.begins ≡ Every period → 1 ≤ period → c.start < c.until → first c c.start ≡ Some c.start
first_at_start c period is some inside =
    let tick = start_tick c.start period in
    first_is c c.start c.start 0
    (subst (λ (b : Begins). IsSoonest b c.start c.start c.start 0) (sym is)
    (tick_is_soonest c.start c.start c.start period c.start (omega arith) (omega arith) tick tick (omega arith) (omega arith) (omega arith)))
    inside

-- a scan that takes a period at most is followed by one a period after its begin
pub next_tick : (c : Timing) (period last end begin : ℕ) → c.begins ≡ Every period → IsExtent c last end → end ≤ period → c.start ≤ begin → (begin - c.start) % period ≡ 0 →
    begin + period < c.until → next_begin c begin ≡ Some (begin + period)
next_tick c period last end begin is extent short since tick inside =
    let some = extent.some in
    let one : begin + period - begin ≡ period = omega arith in
    let later : (begin + period - begin) % period ≡ 0 = ap (λ n. n % period) one ∙ mod_self period in
    ap (option_and_then (first c)) (extent.ends begin)
    ∙ first_is c (begin + end) (begin + period) 0
    (subst (λ (b : Begins). IsSoonest b c.start (begin + end) (begin + period) 0) (sym is)
    (tick_is_soonest c.start begin (begin + end) period (begin + period) since (omega arith) tick later (omega arith) (omega arith) (omega arith)))
    inside

-- a scan and `left` more, each a period after the one before, have all their conversions
whole_scans : (c : Timing) (period last end begin left : ℕ) → c.begins ≡ Every period → IsExtent c last end → end ≤ period → c.start ≤ begin → (begin - c.start) % period ≡ 0 →
    begin + left * period < c.until → begin + left * period + last ≤ c.horizon → length (scans_from c (suc left) (Some begin)) ≡ suc left * c.per_scan
whole_scans c period last end begin zero is extent short since tick inside within =
    let here = eqb-true _ _ (extent.full begin (omega arith)) in
    omega (arith, here, length-append (scan c begin) [])
whole_scans c period last end begin (suc left) is extent short since tick inside within =
    let here = eqb-true _ _ (extent.full begin (omega arith)) in
    let one : 1 * period ≡ period = omega arith in
    let next_is_tick = ap (λ n. (begin + n - c.start) % period) (sym one) ∙ ticks_later c.start begin period 1 since tick in
    let rest = whole_scans c period last end (begin + period) left is extent short (omega arith) next_is_tick (omega arith) (omega arith) in
    let next = ap (λ (b : Option ℕ). length (scan c begin ++ scans_from c (suc left) b)) (next_tick c period last end begin is extent short since tick (omega arith)) in
    next ∙ omega (arith, here, rest, length-append (scan c begin) (scans_from c (suc left) (Some (begin + period))))

-- a timing of whole scans a period apart has `most` times the conversions of a scan
pub whole_times : (c : Timing) (period last end room : ℕ) → c.begins ≡ Every period → 1 ≤ period → 1 ≤ c.most → IsExtent c last end → end ≤ period →
    c.start + room < c.until → c.start + room + last ≤ c.horizon → c.most - 1 ≤ room / period → length (times c) ≡ c.most * c.per_scan
whole_times c period last end room is some more extent short inside within fits =
    let tick = start_tick c.start period in
    let count : c.most ≡ suc (c.most - 1) = omega arith in
    let far : (c.most - 1) * period ≤ room / period * period = mul-le-mul_right period fits in
    let all = whole_scans c period last end c.start (c.most - 1) is extent short (omega arith) tick (omega arith) (omega arith) in
    ap (λ (b : Option ℕ). length (scans_from c c.most b)) (first_at_start c period is some (omega arith))
    ∙ ap (λ n. length (scans_from c n (Some c.start))) count
    ∙ all
    ∙ ap (λ n. n * c.per_scan) (sym count)
