-- What is handed over of what is left, by places of the whole expansion.
use Rattle.std.proofs.Common.{◌≡◌, ℕ, zero, suc, ◌+◌, ◌-◌, ◌/◌, ◌<◌, ◌≤◌, min, Bool, true, false, List, [], ◌∷◌, length, map, take, drop, refl, sym, ap, ◌∙◌, inl, inr, arith, subst, length-drop, drop-drop, Option, Some, None}
use Rattle.std.specs.Prelude.{if◌then◌else◌, nat_le, slice_get}
use Rattle.std.proofs.lemmas.Bool.{cases_lt, le-leb, le-ltb, lt-leb, lt-ltb}
use Rattle.std.proofs.lemmas.List.{length-take-le}
use Rattle.cm_board.specs.declared.board.Fifo.{Fifo}
use Rattle.cm_expand.specs.Fit.{IsExpansion}
use Rattle.cm_expand.specs.Items.{items_of}
use Rattle.cm_expand.specs.Plan.{PlanText}
use Rattle.cm_expand.specs.Taking.{come}
use Rattle.cm_expand.specs.declared.conv.Conv.{Conv}
use Rattle.cm_expand.proofs.Come.{come-drop, come-le, come-none}
use Rattle.cm_expand.proofs.Sound.{IsSoundPlan, expansion_of}
use Rattle.cm_fifo.specs.Counts.{count_by, count_from, count_of, drain_at, loss_by, loss_from, loss_of, next_at}
use Rattle.cm_fifo.specs.Handed.{NextEvent, Drains, Handed, Nothing, Overflows, at_time, next_event, drain_time, handed, handed_after, handed_by, handed_of, last_of, time_or, unless_lost}
use Rattle.cm_fifo.proofs.Arrivals.{above, handed-is}
use Rattle.cm_fifo.proofs.Nexts.{is_next, IsNext}
use Rattle.cm_fifo.proofs.Lasts.{are_all, are_left, AreLeft}
use Rattle.cm_fifo.proofs.Lists.{come-append, come-at_time, come-before_time, found-come, get-drop, left-from}

-- what comes next after a place, of the whole expansion
abbrev whole : ℕ → NextEvent → NextEvent
whole q Nothing = Nothing
whole q (Drains time count) = Drains time (q + count)
whole q (Overflows time) = Overflows time

whole-unless : (q : ℕ) (o : Option Conv) (time count all : ℕ) → all ≡ q + count → unless_lost o time all ≡ whole q (unless_lost o time count)
whole-unless q None time count all e = ap (Drains time) e
whole-unless q (Some c) time count all e = at (nat_le c.time time)
  where
    at : (late : Bool) → (if late then Overflows c.time else Drains time all) ≡ whole q (if late then Overflows c.time else Drains time count)
    at true = refl
    at false = ap (Drains time) e

module _ (p : PlanText) (f : Fifo) (is : IsExpansion p) (q : ℕ) (within : q ≤ length (items_of p)) where
  same_drain : drain_at f p q ≡ drain_time f (last_of p) p.signals.horizon (drop q (items_of p))
  same_drain = ap (λ o. min (time_or (last_of p) o + f.latency) p.signals.horizon) (sym (get-drop q (items_of p) (f.depth / 2 - 1)))

  -- what comes next, by places of the whole expansion
  next-whole : next_at f p q ≡ whole q (next_event f (last_of p) p.signals.horizon (drop q (items_of p)))
  next-whole = at (drop q (items_of p)) refl
    where
      long : length (drop q (items_of p)) ≡ length (items_of p) - q
      long = length-drop q (items_of p)

      are : AreLeft p (drop q (items_of p))
      are = are_left p q is within

      at : (left : List Conv) → drop q (items_of p) ≡ left → next_at f p q ≡ whole q (next_event f (last_of p) p.signals.horizon left)
      at [] e = rw (le-ltb q (length (items_of p)) (omega (arith, ap length e, long))) refl
      at (x ∷ xs) e =
          let left_are : AreLeft p (x ∷ xs) = subst (AreLeft p) e are in
          let drain : drain_at f p q ≡ drain_time f (last_of p) p.signals.horizon (x ∷ xs) = same_drain ∙ ap (drain_time f (last_of p) p.signals.horizon) e in
          let first : x.time ≤ drain_at f p q = omega (arith, above f (last_of p) p.signals.horizon 0 x xs left_are.order left_are.by left_are.all) in
          let there : slice_get (items_of p) (q + 0) ≡ Some x = sym (get-drop q (items_of p) 0) ∙ ap (λ (l : List Conv). slice_get l 0) e in
          let some : q + 0 < come (drain_at f p q) (items_of p) = found-come (drain_at f p q) (q + 0) (items_of p) x (are_all p is).order there first in
          let rest : come (drain_at f p q) (drop q (items_of p)) ≡ come (drain_at f p q) (items_of p) - q = come-drop (drain_at f p q) q (items_of p) (are_all p is).order (omega arith) in
          let all : come (drain_at f p q) (items_of p) ≡ q + come (drain_at f p q) (x ∷ xs) = omega (arith, ap (come (drain_at f p q)) e) in
          rw (lt-ltb q (length (items_of p)) (omega (arith, ap length e, long)))
          (ap (λ o. unless_lost o (drain_at f p q) (come (drain_at f p q) (items_of p))) (sym (get-drop q (items_of p) f.depth) ∙ ap (λ (l : List Conv). slice_get l f.depth) e)
          ∙ whole-unless q (slice_get (x ∷ xs) f.depth) (drain_at f p q) (come (drain_at f p q) (x ∷ xs)) (come (drain_at f p q) (items_of p)) all
          ∙ ap (λ d. whole q (unless_lost (slice_get (x ∷ xs) f.depth) d (come d (x ∷ xs)))) drain)

-- after a drain none comes before it
late_rest : (p : PlanText) (f : Fifo) (is : IsExpansion p) (q t time count more : ℕ) → q + count ≤ length (items_of p) → length (items_of p) ≤ q + count + more → count ≡ come time (drop q (items_of p)) → t < time →
    come t (handed_after f p (q + count) more).arrivals ≡ 0
late_rest p f is q t time count more within few counted late =
    let are = are_left p (q + count) is within in
    let before = are_left p q is (omega arith) in
    let handed_is = handed-is f (last_of p) p.signals.horizon more (drop (q + count) (items_of p)) are.order are.by are.all (omega (arith, length-drop (q + count) (items_of p))) in
    let same : drop (come time (drop q (items_of p))) (drop q (items_of p)) ≡ drop (q + count) (items_of p) = ap (λ n. drop n (drop q (items_of p))) (sym counted) ∙ drop-drop count q (items_of p) in
    let none : come t (drop (q + count) (items_of p)) ≡ 0 = ap (come t) (sym same) ∙ come-none t (drop (come time (drop q (items_of p))) (drop q (items_of p))) time (left-from time (drop q (items_of p)) before.order) late in
    omega (arith, handed_is.come_before t)

-- what follows a drain, by the place after it
after_drain : (p : PlanText) (f : Fifo) (q count more : ℕ) → handed f (last_of p) p.signals.horizon more (drop count (drop q (items_of p))) ≡ handed_after f p (q + count) more
after_drain p f q count more = ap (handed f (last_of p) p.signals.horizon more) (drop-drop count q (items_of p))

module _ (p : PlanText) (f : Fifo) (is : IsExpansion p) (t more q : ℕ) (within : q ≤ length (items_of p)) (few : length (items_of p) ≤ q + suc more)
    (rest : (count : ℕ) → 1 ≤ count → q + count ≤ length (items_of p) → q + count + come t (handed_after f p (q + count) more).arrivals ≡ count_from f p t more (q + count)) where
  count-step : (c : NextEvent) → IsNext f p.signals.horizon (drop q (items_of p)) c →
      q + come t (handed_by c f.depth (drop q (items_of p)) (handed f (last_of p) p.signals.horizon more)).arrivals ≡ count_by (whole q c) t q f.depth (count_from f p t more)
  count-step Nothing facts = omega arith
  count-step (Drains time count) facts =
      let left : List Conv = drop q (items_of p) in
      let long = length-drop q (items_of p) in
      let most : count ≤ length (items_of p) - q = omega (arith, come-le time (drop q (items_of p)), facts.0) in
      let size : length (take count (drop q (items_of p))) ≡ count = length-take-le count (drop q (items_of p)) (omega arith) in
      let later : Handed = handed f (last_of p) p.signals.horizon more (drop count (drop q (items_of p))) in
      let sum = come-append t (map (at_time time) (take count (drop q (items_of p)))) later.arrivals in
      let same : come t later.arrivals ≡ come t (handed_after f p (q + count) more).arrivals = ap (λ (h : Handed). come t h.arrivals) (after_drain p f q count more) in
      elim (cases_lt t time) [
        | inl late ↦ rw (lt-leb time t late) (omega (arith, come-before_time t time (take count (drop q (items_of p))) late, late_rest p f is q t time count more (omega arith) (omega (arith, facts.1)) facts.0 late))
        | inr early ↦ rw (le-leb time t early) (omega (arith, come-at_time t time (take count (drop q (items_of p))) early, rest count facts.1 (omega arith)))
      ]
  count-step (Overflows time) facts =
      let size : length (take f.depth (drop q (items_of p))) ≡ f.depth = length-take-le f.depth (drop q (items_of p)) (omega arith) in
      elim (cases_lt t time) [
        | inl late ↦ rw (lt-leb time t late) (omega (arith, come-before_time t time (take f.depth (drop q (items_of p))) late))
        | inr early ↦ rw (le-leb time t early) (omega (arith, come-at_time t time (take f.depth (drop q (items_of p))) early))
      ]

counts : (p : PlanText) (f : Fifo) → IsExpansion p → (t more q : ℕ) → q ≤ length (items_of p) → length (items_of p) ≤ q + more → q + come t (handed_after f p q more).arrivals ≡ count_from f p t more q
counts p f is t zero q within few = omega arith
counts p f is t (suc more) q within few =
    count-step p f is t more q within few (λ count some in_all. counts p f is t more (q + count) in_all (omega arith))
    (next_event f (last_of p) p.signals.horizon (drop q (items_of p))) (is_next p f (drop q (items_of p)) (are_left p q is within) (next_event f (last_of p) p.signals.horizon (drop q (items_of p))) refl)
    ∙ ap (λ c. count_by c t q f.depth (count_from f p t more)) (sym (next-whole p f is q within))

loss-step : (p : PlanText) (f : Fifo) (more q : ℕ) → q ≤ length (items_of p) →
    ((count : ℕ) → q + count ≤ length (items_of p) → (handed_after f p (q + count) more).lost_at ≡ loss_from f p more (q + count)) →
    (c : NextEvent) → IsNext f p.signals.horizon (drop q (items_of p)) c → (handed_by c f.depth (drop q (items_of p)) (handed f (last_of p) p.signals.horizon more)).lost_at ≡ loss_by (whole q c) (loss_from f p more)
loss-step p f more q within rest Nothing facts = refl
loss-step p f more q within rest (Overflows time) facts = refl
loss-step p f more q within rest (Drains time count) facts =
    ap (λ (h : Handed). h.lost_at) (after_drain p f q count more)
    ∙ rest count (omega (arith, come-le time (drop q (items_of p)), facts.0, length-drop q (items_of p)))

losses : (p : PlanText) (f : Fifo) → IsExpansion p → (more q : ℕ) → q ≤ length (items_of p) → (handed_after f p q more).lost_at ≡ loss_from f p more q
losses p f is zero q within = refl
losses p f is (suc more) q within =
    loss-step p f more q within (λ count in_all. losses p f is more (q + count) in_all)
    (next_event f (last_of p) p.signals.horizon (drop q (items_of p))) (is_next p f (drop q (items_of p)) (are_left p q is within) (next_event f (last_of p) p.signals.horizon (drop q (items_of p))) refl)
    ∙ ap (λ c. loss_by c (loss_from f p more)) (sym (next-whole p f is q within))

-- for the whole expansion of a sound plan
pub counts-of : (p : PlanText) (f : Fifo) → IsSoundPlan p → (t : ℕ) → come t (handed_of p f).arrivals ≡ count_of f p t
counts-of p f sound t =
    let all = counts p f (expansion_of p sound) t (length (items_of p)) 0 (omega arith) (omega arith) in
    let same : 0 + come t (handed_of p f).arrivals ≡ come t (handed_of p f).arrivals = omega arith in
    sym same ∙ all

pub losses-of : (p : PlanText) (f : Fifo) → IsSoundPlan p → (handed_of p f).lost_at ≡ loss_of f p
losses-of p f sound = losses p f (expansion_of p sound) (length (items_of p)) 0 (omega arith)
