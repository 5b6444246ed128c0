-- Conversions at even distances.
use Rattle.std.proofs.Common.{◌≡◌, ℕ, zero, suc, ◌+◌, ◌-◌, ◌*◌, ◌%◌, ◌^◌, ◌<◌, ◌≤◌, List, [], ◌∷◌, ◌++◌, length, Option, Some, true, refl, ap, sym, subst, ◌∙◌, arith, min, ◌/◌, mul-le-mul_right}
use Rattle.std.specs.Prelude.{◌&&◌, Bool}
use Rattle.std.proofs.lemmas.Bool.{eq-eqb}
use Rattle.cm_signal.specs.Adding.{progression}
use Rattle.cm_expand.specs.Timing.{Timing, Begins, Every, Converts, AtOnce, Spaced, IsTiming, as_long_as, begins_from, conversion, conversion_time, is_full, are_full, next_begin, up_to}
use Rattle.cm_expand.specs.TimePoint.{IsCut, IsTimePoint, IsTick, begin_edges, convert_edges, full_from, rest_from, scans_from}
use Rattle.cm_expand.specs.Train.{IsEven, IsTrain, IsWidth}
use Rattle.cm_expand.specs.declared.timing.TimePoint.{TimePoint}
use Rattle.cm_expand.proofs.Conversions.{up_to_is, up_to_some}
use Rattle.cm_expand.proofs.Scans.{as_long_some, rest_step}
use Rattle.cm_expand.proofs.Ticks.{ticks_later}
use Rattle.cm_expand.proofs.Wholes.{extent_at_once, extent_spaced, next_tick}

-- how long scans of one conversion take
pub width_at_once : (c : Timing) → c.converts ≡ AtOnce → IsWidth c 1
width_at_once c is = record {
  at_begin = λ begin. ap (λ (v : Converts). conversion_time v begin 0) is;
  no_edges = ap convert_edges is;
  extent = extent_at_once c is;
}

pub width_spaced : (c : Timing) (gap : ℕ) → c.converts ≡ Spaced gap → 1 ≤ gap → c.per_scan ≡ 1 → IsWidth c gap
width_spaced c gap is some one = record {
  at_begin = λ begin. ap (λ (v : Converts). conversion_time v begin 0) is ∙ ap (λ t. Some t) (omega arith);
  no_edges = ap convert_edges is;
  extent =
      let fewer : c.per_scan - 1 ≡ 0 = omega arith in
      let no_gap : 0 * gap ≡ 0 = omega arith in
      let none : 0 ≡ (c.per_scan - 1) * gap = sym (ap (λ n. n * gap) fewer ∙ no_gap) in
      extent_spaced c gap 0 gap is some (omega arith) none (omega arith);
}

-- each scan begins a period after the one before
pub even : (c : Timing) (period width : ℕ) → c.begins ≡ Every period → 1 ≤ period → period < 2 ^ 32 → c.per_scan ≡ 1 → IsWidth c width → width ≤ period → IsEven c period
even c period width is some short one wide fits = record {
  begins = is;
  some = some;
  short = short;
  one = one;
  at_begin = wide.at_begin;
  no_edges = wide.no_edges;
  next = λ begin since tick inside. next_tick c period 0 width begin is wide.extent fits since tick inside;
}

-- a conversion comes as its scan begins
comes_at_begin : (c : Timing) (begin i time : ℕ) → i ≡ 0 → conversion_time c.converts begin 0 ≡ Some begin → conversion c begin i ≡ Some time → time ≡ begin
comes_at_begin c begin i time first at here =
    let there : up_to c.horizon (conversion_time c.converts begin 0) ≡ Some time = subst (λ k. conversion c begin k ≡ Some time) first here in
    let same = (up_to_is c.horizon _ time there).0 in
    cc

-- a point some periods later
abbrev pub later : TimePoint → ℕ → ℕ → TimePoint
later s n period = record s { time = s.time + n * period; begin = s.begin + n * period; left = s.left - n }

same_later : (s : TimePoint) (time begin left other_time other_begin other_left : ℕ) → time ≡ other_time → begin ≡ other_begin → left ≡ other_left →
    let one : TimePoint = record s { time = time; begin = begin; left = left } in one ≡ record s { time = other_time; begin = other_begin; left = other_left }
same_later s time begin left other_time other_begin other_left t b l =
    ap (λ n. let one : TimePoint = record s { time = n; begin = begin; left = left } in one) t
    ∙ ap (λ n. let one : TimePoint = record s { time = other_time; begin = n; left = left } in one) b
    ∙ ap (λ n. let one : TimePoint = record s { time = other_time; begin = other_begin; left = n } in one) l

-- a point, its scan's only conversion, and a point a period later
pub record IsFollowed (c : Timing) (s next : TimePoint) : Type 0 where
  pub is : IsTimePoint c next
  pub rest : rest_from c s ≡ s.time ∷ rest_from c next
  pub full : full_from c s ≡ full_from c next

first_alone : (f : ℕ → Option ℕ) (i n : ℕ) → i ≡ 0 → as_long_as f i (n - i) ≡ as_long_as f 0 n
first_alone f i n first = ap (λ k. as_long_as f k (n - k)) first ∙ ap (as_long_as f 0) (omega arith)

pub followed : (c : Timing) (s : TimePoint) (period : ℕ) → IsTiming c → IsEven c period → IsTimePoint c s → 1 ≤ s.left → s.begin + period < c.until →
    IsFollowed c s (record s { time = s.time + period; begin = s.begin + period; left = s.left - 1 })
followed c s period timing evenly is some inside = record {
  is = record {
    index = is.index;
    here = ap (conversion c (s.begin + period)) first ∙ ap (up_to c.horizon) (evenly.at_begin (s.begin + period)) ∙ up_to_some c.horizon (s.begin + period) within ∙ ap (λ t. Some (t + period)) (sym same);
    begin = record {
      since = let since = is.begin.since in omega arith;
      tick = subst (λ (b : Begins). IsTick b c.start (s.begin + period)) (sym evenly.begins) next_tick_is;
      before_end = inside;
      cut = subst (λ (b : Begins). IsCut (begin_edges b) s.begin_at (s.begin + period)) (sym evenly.begins) (no_cut s.begin_at (s.begin + period) (s.begin) (subst (λ (b : Begins). IsCut (begin_edges b) s.begin_at s.begin) evenly.begins is.begin.cut));
    };
    convert_at = subst (λ (es : List ℕ). IsCut es s.convert_at (s.begin + period)) (sym evenly.no_edges) (no_cut s.convert_at (s.begin + period) s.begin (subst (λ (es : List ℕ). IsCut es s.convert_at s.begin) evenly.no_edges is.convert_at));
    counted = let there = ap (length {A = ℕ}) (first_alone (conversion c (s.begin + period)) s.index c.per_scan first) in let at = first in omega arith;
  };
  rest = rest_step c s is
      ∙ ap (λ n. s.time ∷ (as_long_as (conversion c s.begin) (suc s.index) n ++ scans_from c s.left (next_begin c s.begin))) alone
      ∙ ap (λ n. s.time ∷ scans_from c n (next_begin c s.begin)) more
      ∙ ap (λ b. s.time ∷ scans_from c (suc (s.left - 1)) b) next
      ∙ ap (λ (xs : List ℕ). s.time ∷ (xs ++ scans_from c (s.left - 1) (next_begin c (s.begin + period)))) (sym (first_alone (conversion c (s.begin + period)) s.index c.per_scan first));
  full =
      ap (λ (b : Bool). b && are_full c (begins_from c s.left (next_begin c s.begin))) whole
      ∙ ap (λ n. are_full c (begins_from c n (next_begin c s.begin))) more
      ∙ ap (λ b. are_full c (begins_from c (suc (s.left - 1)) b)) next;
}
  where
    first : s.index ≡ 0
    first = let one = evenly.one in let below = is.index in omega arith

    same : s.time ≡ s.begin
    same = comes_at_begin c s.begin s.index s.time first (evenly.at_begin s.begin) is.here

    within : s.begin + period ≤ c.horizon
    within = let until = timing.until in omega arith

    tick : (s.begin - c.start) % period ≡ 0
    tick = subst (λ (b : Begins). IsTick b c.start s.begin) evenly.begins is.begin.tick

    once : 1 * period ≡ period
    once = omega arith

    next_tick_is : (s.begin + period - c.start) % period ≡ 0
    next_tick_is = ap (λ n. (s.begin + n - c.start) % period) (sym once) ∙ ticks_later c.start s.begin period 1 is.begin.since tick

    next : next_begin c s.begin ≡ Some (s.begin + period)
    next = evenly.next s.begin is.begin.since tick inside

    more : s.left ≡ suc (s.left - 1)
    more = omega arith

    alone : c.per_scan - s.index - 1 ≡ 0
    alone = let one = evenly.one in omega arith

    whole : is_full c s.begin ≡ true
    whole =
        let one = evenly.one in
        let counted = is.counted in
        let here = ap (length {A = ℕ}) (as_long_some (conversion c s.begin) s.index (c.per_scan - s.index) s.time is.here (omega arith)) in
        let none = ap (λ n. length (as_long_as (conversion c s.begin) (suc s.index) n)) alone in
        eq-eqb _ _ (omega arith)

    no_cut : (at time before : ℕ) → IsCut [] at before → IsCut [] at time
    no_cut at time before cut = record {
      within = cut.within;
      below = λ k h. let within = cut.within in absurd (omega arith);
      above = λ k h l. absurd (omega arith);
    }

-- a point, the conversions from it up to another one, and that one
pub record IsReached (c : Timing) (s last : TimePoint) (period n : ℕ) : Type 0 where
  pub is : IsTimePoint c last
  pub rest : rest_from c s ≡ progression s.time period n ++ rest_from c last
  pub full : full_from c s ≡ full_from c last

reached_at : (c : Timing) (s last : TimePoint) (period n : ℕ) → IsTiming c → IsEven c period → IsTimePoint c s → n ≤ s.left → s.begin + n * period < c.until → last ≡ later s n period → IsReached c s last period n
reached_at c s last period zero timing evenly is few inside there =
    let same : last ≡ s = there ∙ same_later s _ _ _ s.time s.begin s.left (omega arith) (omega arith) (omega arith) in
    record {
      is = subst (IsTimePoint c) (sym same) is;
      rest = ap (rest_from c) (sym same);
      full = ap (full_from c) (sym same);
    }
reached_at c s last period (suc n) timing evenly is few inside there =
    let next : TimePoint = record s { time = s.time + period; begin = s.begin + period; left = s.left - 1 } in
    let one = followed c s period timing evenly is (omega arith) (omega arith) in
    let same : last ≡ later next n period = there ∙ same_later s _ _ _ _ _ _ (omega arith) (omega arith) (omega arith) in
    let others = reached_at c next last period n timing evenly one.is (omega arith) (omega arith) same in
    record {
      is = others.is;
      rest = one.rest ∙ ap (λ (xs : List ℕ). s.time ∷ xs) others.rest;
      full = one.full ∙ others.full;
    }

-- the train up to a point some periods later
pub train_to : (c : Timing) (s : TimePoint) (period n count : ℕ) → IsTiming c → IsEven c period → IsTimePoint c s → n ≤ s.left → s.begin + n * period < c.until → count ≡ n + 1 →
    IsTrain c s (record { count = count; step = period; last = later s n period })
train_to c s period n count timing evenly is few inside counted =
    let reached = reached_at c s (later s n period) period n timing evenly is few inside refl in
    let fewer : n ≡ count - 1 = omega arith in
    let one = evenly.one in
    let below = is.index in
    record {
      some = omega arith;
      entry = λ k h. ap (λ (m : ℕ). (s.index + k) % m) one ∙ omega arith;
      times = reached.rest ∙ ap (λ m. progression s.time period m ++ rest_from c (later s n period)) fewer;
      time = ap (λ m. s.time + m * period) fewer;
      index = refl;
      is = reached.is;
      full = reached.full;
    }

-- a point so many periods later begins in time
pub begins_in_time : (c : Timing) (s : TimePoint) (period time n : ℕ) → IsTiming c → IsEven c period → IsTimePoint c s → s.time ≤ time → n ≤ (min time (c.until - 1) - s.time) / period →
    (s.begin + n * period < c.until) × (s.time + n * period ≤ time)
begins_in_time c s period time n timing evenly is come few =
    let one = evenly.one in
    let below = is.index in
    let same = comes_at_begin c s.begin s.index s.time (omega arith) (evenly.at_begin s.begin) is.here in
    let inside = is.begin.before_end in
    let far : n * period ≤ (min time (c.until - 1) - s.time) / period * period = mul-le-mul_right period few in
    (omega arith, omega arith)
