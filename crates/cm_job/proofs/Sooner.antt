-- Timings of the same pace, one of which starts later than the other.
use Rattle.std.proofs.Common.{◌≡◌, ℕ, zero, suc, ◌+◌, ◌-◌, ◌*◌, ◌%◌, ◌<◌, ◌≤◌, Bool, true, List, [], ◌∷◌, ◌++◌, refl, sym, ap, ◌∙◌, subst, Option, Some, arith, mul-le-mul_right}
use Rattle.std.specs.Prelude.{◌&&◌, nat_lt, option_and_then}
use Rattle.std.proofs.Math.Nat.{mod_self, zero-mod}
use Rattle.std.proofs.lemmas.Bool.{lt-ltb}
use Rattle.cm_sample.specs.Rule.{map_from}
use Rattle.cm_expand.specs.Timing.{Timing, Begins, Converts, AtOnce, Spaced, PerEdge, IsTiming, AreBegins, AreConverts, up_to, conversion, conversion_time, before_none, as_long_as, scan, scan_end, first, next_begin, times}
use Rattle.cm_expand.specs.Items.{conv_at}
use Rattle.cm_expand.specs.Plan.{PlanText}
use Rattle.cm_expand.specs.TimePoint.{IsSoonest, scans_from}
use Rattle.cm_expand.proofs.Conversions.{up_to_some}
use Rattle.cm_expand.proofs.Soonest.{tick_is_soonest, first_is}
use Rattle.cm_expand.proofs.Ticks.{ticks_later}
use Rattle.cm_job.specs.Later.{are_later, are_sooner}
use Rattle.cm_job.specs.Pace.{IsGap, IsPace}

-- the times of conversions decide
pub later_sooner : (p q : PlanText) (i j : ℕ) (xs ys : List ℕ) → are_later (map_from (conv_at p) i xs) (map_from (conv_at q) j ys) ≡ are_sooner xs ys
later_sooner p q i j [] ys = refl
later_sooner p q i j (x ∷ xs) [] = refl
later_sooner p q i j (x ∷ xs) (y ∷ ys) = ap (λ (b : Bool). nat_lt x y && b) (later_sooner p q (suc i) (suc j) xs ys)

no_others : (xs : List ℕ) → are_sooner xs [] ≡ true
no_others [] = refl
no_others (x ∷ xs) = refl

-- after scans of the same gap, the second of which begins later, those that follow decide
sooner_steps : (f g : ℕ → Option ℕ) (b e gap i count : ℕ) (xs ys : List ℕ) → b < e → ((k : ℕ) → k < i + count → f k ≡ Some (b + k * gap)) → ((k : ℕ) → k < i + count → g k ≡ Some (e + k * gap)) →
    are_sooner (as_long_as f i count ++ xs) (as_long_as g i count ++ ys) ≡ are_sooner xs ys
sooner_steps f g b e gap i zero xs ys later here there = refl
sooner_steps f g b e gap i (suc count) xs ys later here there =
    ap (λ (o : Option ℕ). are_sooner (before_none o (as_long_as f (suc i) count) ++ xs) (as_long_as g i (suc count) ++ ys)) (here i (omega arith))
    ∙ ap (λ (o : Option ℕ). are_sooner ((b + i * gap) ∷ (as_long_as f (suc i) count ++ xs)) (before_none o (as_long_as g (suc i) count) ++ ys)) (there i (omega arith))
    ∙ ap (λ (t : Bool). t && are_sooner (as_long_as f (suc i) count ++ xs) (as_long_as g (suc i) count ++ ys)) (lt-ltb (b + i * gap) (e + i * gap) (omega arith))
    ∙ sooner_steps f g b e gap (suc i) count xs ys later (λ k below. here k (omega arith)) (λ k below. there k (omega arith))

-- when the conversions come of a scan that is over by the horizon
comes : (v : Converts) (horizon n gap begin i : ℕ) → IsGap v gap → i < n → begin + n * gap ≤ horizon → up_to horizon (conversion_time v begin i) ≡ Some (begin + i * gap)
comes AtOnce horizon n gap begin i is below within =
    let none : i * gap ≡ i * 0 = ap (λ g. i * g) is in
    up_to_some horizon begin (omega arith) ∙ ap (λ t. Some t) (omega arith)
comes (Spaced apart) horizon n gap begin i is below within =
    let fewer : i * gap ≤ n * gap = mul-le-mul_right gap (omega arith) in
    ap (λ g. up_to horizon (Some (begin + i * g))) (sym is) ∙ up_to_some horizon (begin + i * gap) (omega arith)
comes (PerEdge edges) horizon n gap begin i is below within = absurd is

-- when such a scan ends
ends : (v : Converts) (horizon n gap period begin : ℕ) → AreConverts horizon v → IsGap v gap → 1 ≤ n → 1 ≤ period → n * gap ≤ period →
    (e : ℕ) × (scan_end v n begin ≡ Some (begin + e)) × (1 ≤ e) × (e ≤ period)
ends AtOnce horizon n gap period begin are is some more short = (1, refl, omega arith, more)
ends (Spaced apart) horizon n gap period begin are is some more short =
    let one : 1 * gap ≤ n * gap = mul-le-mul_right gap some in
    (n * gap, ap (λ g. Some (begin + n * g)) (sym is), (let low = are.0 in omega arith), short)
ends (PerEdge edges) horizon n gap period begin are is some more short = absurd is

-- a scan begins at a time, and is one of `left` more that are all over before `until`
record IsAt (c : Timing) (period gap left begin : ℕ) : Type 0 where
  timing : IsTiming c
  pace : IsPace c period gap
  some : 1 ≤ period
  since : c.start ≤ begin
  tick : (begin - c.start) % period ≡ 0
  whole : begin + left * period + c.per_scan * gap < c.until + period

-- the next scan begins a period later
next_at : (c : Timing) (period gap left begin : ℕ) → IsAt c period gap (suc left) begin → IsAt c period gap left (begin + period)
next_at c period gap left begin at =
    let since = at.since in
    let whole = at.whole in
    let one : 1 * period ≡ period = omega arith in
    record {
      timing = at.timing;
      pace = at.pace;
      some = at.some;
      since = omega arith;
      tick = ap (λ n. (begin + n - c.start) % period) (sym one) ∙ ticks_later c.start begin period 1 since at.tick;
      whole = omega arith;
    }

next_tick : (c : Timing) (period gap left begin : ℕ) → IsAt c period gap (suc (suc left)) begin → next_begin c begin ≡ Some (begin + period)
next_tick c period gap left begin at =
    let some = at.some in
    let whole = at.whole in
    let end = ends c.converts c.horizon c.per_scan gap period begin at.timing.converts at.pace.converts at.timing.some some at.pace.short in
    let low = end.2 in
    let high = end.3 in
    let one : begin + period - begin ≡ period = omega arith in
    let later : (begin + period - begin) % period ≡ 0 = ap (λ n. n % period) one ∙ mod_self period in
    ap (option_and_then (first c)) end.1
    ∙ first_is c (begin + end.0) (begin + period) 0
    (subst (λ (b : Begins). IsSoonest b c.start (begin + end.0) (begin + period) 0) (sym at.pace.begins)
    (tick_is_soonest c.start begin (begin + end.0) period (begin + period) at.since (omega arith) at.tick later (omega arith) (omega arith) (omega arith)))
    (omega arith)

rest_at : (c : Timing) (period gap left begin : ℕ) → IsAt c period gap (suc left) begin → scans_from c left (next_begin c begin) ≡ scans_from c left (Some (begin + period))
rest_at c period gap zero begin at = refl
rest_at c period gap (suc left) begin at = ap (scans_from c (suc left)) (next_tick c period gap left begin at)

scan_at : (c : Timing) (period gap left begin : ℕ) → IsAt c period gap (suc left) begin → (i : ℕ) → i < 0 + c.per_scan → conversion c begin i ≡ Some (begin + i * gap)
scan_at c period gap left begin at i below =
    let until = at.timing.until in
    let whole = at.whole in
    comes c.converts c.horizon c.per_scan gap begin i at.pace.converts (omega arith) (omega arith)

-- scans that begin sooner than those of another timing
sooner_scans : (c d : Timing) (period gap m n b e : ℕ) → IsAt c period gap m b → IsAt d period gap n e → c.per_scan ≡ d.per_scan → b < e →
    are_sooner (scans_from c m (Some b)) (scans_from d n (Some e)) ≡ true
sooner_scans c d period gap zero n b e one other same later = refl
sooner_scans c d period gap (suc m) zero b e one other same later = no_others (scans_from c (suc m) (Some b))
sooner_scans c d period gap (suc m) (suc n) b e one other same later =
    ap (λ (xs : List ℕ). are_sooner (scan c b ++ xs) (scans_from d (suc n) (Some e))) (rest_at c period gap m b one)
    ∙ ap (λ (ys : List ℕ). are_sooner (scan c b ++ scans_from c m (Some (b + period))) (scan d e ++ ys)) (rest_at d period gap n e other)
    ∙ ap (λ k. are_sooner (scan c b ++ scans_from c m (Some (b + period))) (as_long_as (conversion d e) 0 k ++ scans_from d n (Some (e + period)))) (sym same)
    ∙ sooner_steps (conversion c b) (conversion d e) b e gap 0 c.per_scan (scans_from c m (Some (b + period))) (scans_from d n (Some (e + period))) later
    (scan_at c period gap m b one) (λ i below. scan_at d period gap n e other i (omega arith))
    ∙ sooner_scans c d period gap m n (b + period) (e + period) (next_at c period gap m b one) (next_at d period gap n e other) same (omega arith)

start_tick : (start period : ℕ) → (start - start) % period ≡ 0
start_tick start period =
    let none : start - start ≡ 0 = omega arith in
    ap (λ n. n % period) none ∙ zero-mod period

-- the first scan begins at the start
at_start : (c : Timing) (period gap : ℕ) → IsTiming c → IsPace c period gap → IsAt c period gap c.most c.start
at_start c period gap timing pace =
    let are = subst (λ (b : Begins). AreBegins c.horizon b) pace.begins timing.begins in
    let count : c.most ≡ c.most - 1 + 1 = let more = timing.most in omega arith in
    let far : c.most * period ≡ (c.most - 1) * period + period = ap (λ n. n * period) count ∙ omega arith in
    let whole = pace.whole in
    record {
      timing = timing;
      pace = pace;
      some = are.0;
      since = omega arith;
      tick = start_tick c.start period;
      whole = omega arith;
    }

times_at_start : (c : Timing) (period gap : ℕ) → IsAt c period gap c.most c.start → times c ≡ scans_from c c.most (Some c.start)
times_at_start c period gap at =
    let some = at.some in
    let whole = at.pace.whole in
    ap (scans_from c c.most)
    (first_is c c.start c.start 0
    (subst (λ (b : Begins). IsSoonest b c.start c.start c.start 0) (sym at.pace.begins)
    (tick_is_soonest c.start c.start c.start period c.start (omega arith) (omega arith) at.tick at.tick (omega arith) (omega arith) (omega arith)))
    (omega arith))

-- a timing is sooner than one of the same pace that starts later
pub sooner_start : (c d : Timing) (period gap : ℕ) → IsTiming c → IsTiming d → IsPace c period gap → IsPace d period gap → c.per_scan ≡ d.per_scan → c.start < d.start →
    are_sooner (times c) (times d) ≡ true
sooner_start c d period gap timing other_timing pace other_pace same later =
    let one = at_start c period gap timing pace in
    let other = at_start d period gap other_timing other_pace in
    ap (λ (xs : List ℕ). are_sooner xs (times d)) (times_at_start c period gap one)
    ∙ ap (are_sooner (scans_from c c.most (Some c.start))) (times_at_start d period gap other)
    ∙ sooner_scans c d period gap c.most d.most c.start d.start one other same later
