-- What is left of an expansion once some of it has come.
use Rattle.std.proofs.Common.{◌≡◌, ℕ, zero, suc, ◌+◌, ◌-◌, ◌<◌, ◌≤◌, min, List, [], ◌∷◌, ◌++◌, length, take, drop, Bool, true, false, Option, Some, None, refl, sym, ap, ap₂, ◌∙◌, inl, inr, arith, subst, length-take, length-drop, drop-drop}
use Rattle.std.specs.Prelude.{if◌then◌else◌}
use Rattle.std.proofs.lemmas.Bool.{cases_lt, le-leb, lt-leb, eq-eqb, lt-ltb, le-ltb, ne_eqb}
use Rattle.std.proofs.lemmas.List.{length-map, drop-append-le, drop-map, drop-take, length-take-le, take-map, take-take}
use Rattle.cm_base.proofs.Pieces.{take_sum}
use Rattle.cm_ring_core.specs.Local.{Ring}
use Rattle.cm_expand.specs.Taking.{raw_words}
use Rattle.cm_expand.specs.Taking.{come, NeverFalls}
use Rattle.cm_running.specs.Conversions.{munged_from}
use Rattle.cm_running.specs.Planned.{IsSchedule}
use Rattle.cm_running.specs.Putting.{without}
use Rattle.cm_running.specs.Running.{Schedule, arrived, end_by, lost_end, missed, munge_in, quiet_end, samples}
use Rattle.cm_running.specs.Timely.{IsTimely}
use Rattle.cm_sample.specs.Rule.{map_from}
use Rattle.cm_running.specs.CommandView.{IsInStep}
use Rattle.cm_running.specs.Filling.{moving, filled}
use Rattle.cm_running.specs.ToCome.{ToCome, end_shown, last_end_shown, left_after}
use Rattle.cm_expand.specs.declared.conv.Conv.{Conv}
use Rattle.cm_text.specs.declared.end.End.{End}
use Rattle.cm_text.specs.declared.end.End.TheVariants.{Fifo}
use Rattle.cm_running.proofs.Samples.{length-munged_from}
use Rattle.cm_expand.proofs.Come.{NeverFalls-drop, come-drop, come-first, come-le, come-later, come-later_first, come-none}

-- munging from a later place on gives the later samples
munged_from-drop : (munge : ℕ → ℕ → ℕ) (place w : ℕ) (cs : List Conv) → drop w (munged_from munge place cs) ≡ munged_from munge (place + w) (drop w cs)
munged_from-drop munge place zero cs = ap (λ p. munged_from munge p cs) (omega arith)
munged_from-drop munge place (suc w) [] = refl
munged_from-drop munge place (suc w) (c ∷ cs) = munged_from-drop munge (suc place) w cs ∙ ap (λ p. munged_from munge p (drop w cs)) (omega arith)

munged_from-take : (munge : ℕ → ℕ → ℕ) (place n : ℕ) (cs : List Conv) → take n (munged_from munge place cs) ≡ munged_from munge place (take n cs)
munged_from-take munge place zero cs = refl
munged_from-take munge place (suc n) [] = refl
munged_from-take munge place (suc n) (c ∷ cs) = ap (λ xs. munge place c.raw ∷ xs) (munged_from-take munge (suc place) n cs)

-- the samples from r on with those of more conversions
pub held-more : (munge : ℕ → ℕ → ℕ) (cs : List Conv) (r w n : ℕ) → r ≤ w → w ≤ length cs →
    drop r (take w (munged_from munge 0 cs)) ++ munged_from munge w (take n (drop w cs)) ≡ drop r (take (w + n) (munged_from munge 0 cs))
held-more munge cs r w n within all =
    let m : List ℕ = munged_from munge 0 cs in
    let prefix : length (take w m) ≡ w = length-take-le w m (omega (arith, length-munged_from munge 0 cs)) in
    let more : munged_from munge w (take n (drop w cs)) ≡ take n (drop w m) = sym (munged_from-take munge w n (drop w cs)) ∙ ap (take n) (sym (munged_from-drop munge 0 w cs ∙ ap (λ p. munged_from munge p (drop w cs)) (omega arith))) in
    ap (λ xs. drop r (take w m) ++ xs) more ∙ sym (drop-append-le r (take w m) (take n (drop w m)) (omega arith)) ∙ ap (drop r) (sym (take_sum w n m))

raw-take : (n : ℕ) (cs : List Conv) → raw_words (take n cs) ≡ take n (raw_words cs)
raw-take n cs = sym (take-map (λ (c : Conv). c.raw) n cs)

raw-drop : (n : ℕ) (cs : List Conv) → raw_words (drop n cs) ≡ drop n (raw_words cs)
raw-drop n cs = sym (drop-map (λ (c : Conv). c.raw) n cs)

-- what has the words of the first of others has the same words piece by piece
same-words : (cs others : List Conv) (w n : ℕ) → raw_words cs ≡ take (length cs) (raw_words others) → w + n ≤ length cs → raw_words (take n (drop w cs)) ≡ raw_words (take n (drop w others))
same-words cs others w n same within =
    let all : length cs ≡ w + (length cs - w) = omega arith in
    raw-take n (drop w cs) ∙ ap (take n) (raw-drop w cs ∙ ap (drop w) same ∙ ap (λ k. drop w (take k (raw_words others))) all ∙ drop-take w (length cs - w) (raw_words others))
    ∙ take-take n (length cs - w) (drop w (raw_words others)) (omega arith) ∙ ap (take n) (sym (raw-drop w others)) ∙ sym (raw-take n (drop w others))

neither : (e : Option End) (complete : Bool) → e ≡ (if complete then e else e)
neither e true = refl
neither e false = refl

-- without a loss no end has come before all has
pub quiet-none : (s : Schedule) (time : ℕ) → arrived s time < length s.conversions → (time ≡ s.horizon → ⊥) → None ≡ quiet_end s time
quiet-none s time fewer early =
    rw (ne_eqb (arrived s time) (length s.conversions) (λ (e : arrived s time ≡ length s.conversions). absurd (omega arith))) (rw (ne_eqb time s.horizon early) (neither None s.complete))

-- no end has come while something is to come
pub none-yet : (s : Schedule) (time : ℕ) (lost : Option ℕ) → s.lost_at ≡ lost → IsTimely s → arrived s time < length s.arrivals → None ≡ lost_end lost s time
none-yet s time None is timely fewer = quiet-none s time (omega (arith, timely.within)) (λ (e : time ≡ s.horizon). absurd (omega (arith, timely.cut, ap (arrived s) e)))
none-yet s time (Some at) is timely fewer =
    let loss = timely.lost at is in
    elim (cases_lt time at) [
      | inl early ↦ rw (lt-leb _ _ early) (quiet-none s time (omega (arith, timely.within)) (λ (e : time ≡ s.horizon). absurd (omega (arith, timely.cut, ap (arrived s) e))))
      | inr late ↦ absurd (omega (arith, loss.1, come-later at time s.arrivals late))
    ]

-- the end that has come once nothing is to come
last-right : (s : Schedule) (served time : ℕ) (lost : Option ℕ) → s.lost_at ≡ lost → IsTimely s → arrived s time ≡ length s.arrivals → served ≡ length s.arrivals →
    last_end_shown (record { conversions = []; complete = s.complete; edge = s.edge; lost_at = lost }) served s.horizon time ≡ lost_end lost s time
last-right s served time None is timely all here =
    let whole : arrived s time ≡ length s.conversions = all ∙ timely.whole is in
    rw (eq-eqb _ _ whole) refl
last-right s served time (Some at) is timely all here =
    let loss = timely.lost at is in
    elim (cases_lt time at) [
      | inl early ↦ rw (lt-leb _ _ early) (quiet-none s time (omega (arith, loss.2)) (λ (e : time ≡ s.horizon). absurd (omega (arith, loss.0))))
      | inr late ↦ rw (le-leb _ _ late) (ap (λ k. Some (Fifo k)) here)
    ]

-- the end that a board shows is the one that has come, where all that has come is served up to a limit
pub end_shown-right : (s : Schedule) (its_miss : End) (limit count time : ℕ) → NeverFalls s.arrivals → IsTimely s → count ≡ min (arrived s time) limit → (limit < arrived s time → its_miss ≡ missed s limit) →
    end_shown (left_after count s) its_miss count s.horizon time ≡ end_by s limit time
end_shown-right s its_miss limit count time order timely here over = by_left (drop count s.arrivals) refl
  where
    few : arrived s time ≤ length s.arrivals
    few = come-le time s.arrivals

    after : come time (drop count s.arrivals) ≡ arrived s time - count
    after = come-drop time count s.arrivals order (omega arith)

    many : length (drop count s.arrivals) ≡ length s.arrivals - count
    many = length-drop count s.arrivals

    by_left : (left : List Conv) → drop count s.arrivals ≡ left → end_shown (record { conversions = left; complete = s.complete; edge = s.edge; lost_at = s.lost_at }) its_miss count s.horizon time ≡ end_by s limit time
    by_left [] none =
        let all : arrived s time ≡ length s.arrivals = omega (arith, ap length none, many, few) in
        rw (le-ltb limit (arrived s time) (omega (arith, ap length none, many, few))) (last-right s count time s.lost_at refl timely all (omega (arith, ap length none, many, few)))
    by_left (c ∷ rest) more = elim (cases_lt time c.time) [
      | inl late ↦
          let none_has : come time (c ∷ rest) ≡ 0 = come-later_first time c rest late ∙ come-none time rest c.time (subst NeverFalls more (NeverFalls-drop count s.arrivals order)).1 late in
          let fewer : arrived s time < length s.arrivals = omega (arith, ap (come time) more, ap length more, after, many) in
          rw (lt-leb _ _ late) (rw (le-ltb limit (arrived s time) (omega (arith, ap (come time) more, after))) (none-yet s time s.lost_at refl timely fewer))
      | inr come_too ↦
          let above : limit < arrived s time = omega (arith, ap (come time) more, after, come-first time c rest come_too) in
          rw (le-leb _ _ come_too) (rw (lt-ltb _ _ above) (ap (λ (e : End). Some e) (over above)))
    ]

-- the ring and the board are in step after the conversions that have come by a time moved from one into the other
pub filled-in_step : (s : Schedule) (ring : Ring) (board : ToCome) (time : ℕ) → IsSchedule s → IsInStep s ring board → ring.w ≤ arrived s time →
    IsInStep s (filled ring board.conversions time) (without (moving ring board.conversions time) board)
    × ((filled ring board.conversions time).w ≡ min (arrived s time) (ring.r + s.size))
filled-in_step s ring board time planned in_step some = (
  record {
    level = record { m_w = refl; w_a = refl };
    munge = in_step.munge;
    size = in_step.size;
    r_ra = in_step.r_ra;
    ra_w = omega (arith, in_step.ra_w);
    within = omega (arith, moved, place, few);
    w_room = omega (arith, moved, place, in_step.w_room);
    held = ap₂ (λ words munge. ring.held ++ map_from munge ring.w words) words in_step.munge
        ∙ ap (λ xs. xs ++ munged_from (munge_in s) ring.w (take n (drop ring.w s.conversions))) in_step.held
        ∙ held-more (munge_in s) s.conversions ring.r ring.w n (omega (arith, in_step.r_ra, in_step.ra_w)) (omega (arith, in_step.within, planned.timely.within))
        ∙ ap (λ k. drop ring.r (take k (samples s))) (sym place);
    ahead = ap (without n) in_step.ahead ∙ ap (λ cs. let t : ToCome = record { conversions = cs; complete = s.complete; edge = s.edge; lost_at = s.lost_at } in t) (drop-drop n ring.w s.arrivals ∙ ap (λ k. drop k s.arrivals) (sym place));
  },
  place ∙ moved,
)
  where
    left : board.conversions ≡ drop ring.w s.arrivals
    left = ap (λ (b : ToCome). b.conversions) in_step.ahead

    few : arrived s time ≤ length s.arrivals
    few = come-le time s.arrivals

    n : ℕ
    n = moving ring board.conversions time

    after : come time board.conversions ≡ arrived s time - ring.w
    after = ap (come time) left ∙ come-drop time ring.w s.arrivals planned.timely.order some

    words : raw_words (take n board.conversions) ≡ raw_words (take n (drop ring.w s.conversions))
    words = ap (λ cs. raw_words (take n cs)) left ∙ same-words s.arrivals s.conversions ring.w n planned.words (omega (arith, after, some, few))

    place : ring.w + length (raw_words (take n board.conversions)) ≡ ring.w + n
    place = omega (arith, length-map (take n board.conversions) (λ (c : Conv). c.raw), length-take n board.conversions, come-le time board.conversions)

    moved : ring.w + n ≡ min (arrived s time) (ring.r + s.size)
    moved = omega (arith, after, some, in_step.level.w_a, in_step.size, in_step.w_room)

-- what is taken of a ring's samples is taken of the expansion's
pub take-held : (s : Schedule) (r w k : ℕ) → r ≤ w → k ≤ w - r → take k (drop r (take w (samples s))) ≡ take k (drop r (samples s))
take-held s r w k r_w k_w =
    let there : w ≡ r + (w - r) = omega arith in
    ap (λ i. take k (drop r (take i (samples s)))) there ∙ ap (take k) (drop-take r (w - r) (samples s)) ∙ take-take k (w - r) (drop r (samples s)) k_w

pub length-held : (s : Schedule) (r w : ℕ) → r ≤ w → w ≤ length s.conversions → length (drop r (take w (samples s))) ≡ w - r
length-held s r w r_w within = omega (arith, length-drop r (take w (samples s)), length-take w (samples s), length-munged_from (munge_in s) 0 s.conversions)
