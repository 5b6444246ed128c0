-- What a board with a FIFO is still to hand over, as it goes on.
use Rattle.std.proofs.Common.{◌≡◌, ℕ, zero, suc, ◌+◌, ◌-◌, ◌<◌, ◌≤◌, Bool, true, false, List, [], ◌∷◌, ◌++◌, length, map, take, drop, Option, Some, None, refl, sym, ap, ap₂, ◌∙◌, inl, inr, arith, subst, append-nil, length-drop}
use Rattle.std.proofs.lemmas.Bool.{cases_lt}
use Rattle.std.specs.Prelude.{if◌then◌else◌, option_map, slice_get}
use Rattle.cm_board.specs.declared.board.Fifo.{Fifo}
use Rattle.cm_expand.specs.Items.{items_of}
use Rattle.cm_expand.specs.Plan.{is_complete}
use Rattle.cm_expand.specs.Taking.{NeverFalls, come}
use Rattle.cm_expand.specs.declared.conv.Conv.{Conv}
use Rattle.cm_fifo.specs.Handed.{NextEvent, Drains, Handed, Nothing, Overflows, at_time, next_event, handed, handed_after, last_of}
use Rattle.cm_fifo.specs.State.{FifoState, IsLater, IsSoundFifo, left_after, next_of, time_of}
use Rattle.cm_fifo.proofs.Nexts.{step-next}
use Rattle.cm_fifo.proofs.Unfolding.{all-taken, handed-enough, none-comes, not_over, step-drains, step-nothing, step-overflows}
use Rattle.cm_expand.proofs.Come.{come-le}
use Rattle.cm_running.specs.DelayedView.{later_than, ready_at, to_hand_over}
use Rattle.cm_running.specs.ToCome.{ToCome}
use Rattle.cm_expand.proofs.Taking.{drop-found}
use Rattle.cm_running.proofs.Come.{come-late, nothing_left}

-- what is handed over later of a board that lost a conversion, and of one that didn't
later-over : (at : ℕ) (b : FifoState) → b.over ≡ true → later_than at b ≡ record { arrivals = []; lost_at = Some at }
later-over at b over = rw over refl

later-on : (at : ℕ) (b : FifoState) → b.over ≡ false → later_than at b ≡ handed_after b.fifo b.plan (b.taken + b.ready) (length (items_of b.plan))
later-on at b on = rw on refl

-- a board that goes on has lost none
on_of : (b : FifoState) (c : NextEvent) → next_of b ≡ c → (c ≡ Nothing → ⊥) → b.over ≡ false
on_of b c next some = not_over b.over (next_event b.fifo (last_of b.plan) b.plan.signals.horizon (left_after b)) c next some

-- and where conversions are left, there are conversions at all
more-of : (b : FifoState) → 1 ≤ length (left_after b) → length (items_of b.plan) ≡ suc (length (items_of b.plan) - 1)
more-of b some = omega (arith, some, length-drop (b.taken + b.ready) (items_of b.plan))

drains-left : (b : FifoState) (t n : ℕ) → IsSoundFifo b → next_of b ≡ Drains t n → 1 ≤ length (left_after b)
drains-left b t n is next = let what = step-next b is (Drains t n) next in omega (arith, what.0, what.1, come-le t (left_after b))

overflows-left : (b : FifoState) (t : ℕ) → IsSoundFifo b → next_of b ≡ Overflows t → 1 ≤ length (left_after b)
overflows-left b t is next = let what = step-next b is (Overflows t) next in omega (arith, what.0)

-- conversions that are ready, and those that are handed over later
abbrev packed : Bool → Option ℕ → List Conv → Handed → ToCome
packed complete edge ready later = record { conversions = ready ++ later.arrivals; complete = complete; edge = edge; lost_at = later.lost_at }

none-ready : (at : ℕ) (b : FifoState) → b.ready ≡ 0 → ready_at at b ≡ []
none-ready at b none = ap (λ n. map (at_time at) (take n (drop b.taken (items_of b.plan)))) none

same-left : (b : FifoState) → b.ready ≡ 0 → left_after b ≡ drop b.taken (items_of b.plan)
same-left b none = let same : b.taken + b.ready ≡ b.taken = omega arith in ap (λ n. drop n (items_of b.plan)) same

-- a drain hands over what was to be handed over first
pub drained-same : (at t n : ℕ) (old new : FifoState) (edge : Option ℕ) → IsSoundFifo old → old.ready ≡ 0 → next_of old ≡ Drains t n → new ≡ record old { drains = old.drains + 1; ready = n } → to_hand_over t new edge ≡ to_hand_over at old edge
drained-same at t n old new edge is none next after =
    ap (λ (b : FifoState). to_hand_over t b edge) after
    ∙ ap (packed complete edge (map (at_time t) (take n (drop old.taken items)))) (later-on t (record old { drains = old.drains + 1; ready = n }) on ∙ rest)
    ∙ ap (λ xs. packed complete edge (map (at_time t) (take n xs)) (handed f last horizon m (drop (old.taken + old.ready + n) items))) (sym (same-left old none))
    ∙ sym (ap₂ (packed complete edge) (none-ready at old none) (later-on at old on ∙ ap (handed_after f old.plan (old.taken + old.ready)) more ∙ step-drains old m t n next))
  where
    items : List Conv
    items = items_of old.plan

    f : Fifo
    f = old.fifo

    last : ℕ
    last = last_of old.plan

    horizon : ℕ
    horizon = old.plan.signals.horizon

    m : ℕ
    m = length items - 1

    complete : Bool
    complete = is_complete old.plan

    on : old.over ≡ false
    on = on_of old (Drains t n) next (λ x. cc)

    more : length items ≡ suc m
    more = more-of old (drains-left old t n is next)

    few : length (drop (old.taken + n) items) ≤ m
    few = let what = step-next old is (Drains t n) next in omega (arith, what.1, length-drop (old.taken + n) items)

    rest : handed f last horizon (length items) (drop (old.taken + n) items) ≡ handed f last horizon m (drop (old.taken + old.ready + n) items)
    rest =
        let place : old.taken + n ≡ old.taken + old.ready + n = omega arith in
        handed-enough f last horizon (length items) (drop (old.taken + n) items) (omega (arith, length-drop (old.taken + n) items))
        ∙ sym (handed-enough f last horizon m (drop (old.taken + n) items) few) ∙ ap (λ k. handed f last horizon m (drop k items)) place

-- the first of some conversions that are handed over at a time
first-at : (t n : ℕ) (xs ys : List Conv) → 1 ≤ n → 1 ≤ length xs → option_map (λ (c : Conv). c.time) (slice_get (map (at_time t) (take n xs) ++ ys) 0) ≡ Some t
first-at t zero xs ys some there = absurd (omega arith)
first-at t (suc n) [] ys some there = absurd (omega arith)
first-at t (suc n) (x ∷ xs) ys some there = refl

-- where conversions are ready, the next one is one of them
pub next-ready : (at : ℕ) (b : FifoState) (edge : Option ℕ) → IsSoundFifo b → 1 ≤ b.ready → option_map (λ (c : Conv). c.time) (slice_get (to_hand_over at b edge).conversions 0) ≡ Some at
next-ready at b edge is some = first-at at b.ready (drop b.taken (items_of b.plan)) (later_than at b).arrivals some (omega (arith, is.within, length-drop b.taken (items_of b.plan)))

-- and otherwise it comes with the next drain or overflow
pub next-later : (at : ℕ) (b : FifoState) (edge : Option ℕ) → IsSoundFifo b → b.ready ≡ 0 → option_map (λ (c : Conv). c.time) (slice_get (to_hand_over at b edge).conversions 0) ≡ time_of (next_of b)
next-later at b edge is none = alone ∙ by_over b.over refl
  where
    first : List Conv → Option ℕ
    first xs = option_map (λ (c : Conv). c.time) (slice_get xs 0)

    alone : first (to_hand_over at b edge).conversions ≡ first (later_than at b).arrivals
    alone = ap (λ xs. first (xs ++ (later_than at b).arrivals)) (none-ready at b none)

    arrivals-by : (h : Handed) → later_than at b ≡ h → first (later_than at b).arrivals ≡ first h.arrivals
    arrivals-by h e = ap (λ (x : Handed). first x.arrivals) e

    by_next : (c : NextEvent) → b.over ≡ false → next_of b ≡ c → first (later_than at b).arrivals ≡ time_of c
    by_next Nothing on next = arrivals-by _ (later-on at b on ∙ step-nothing b (length (items_of b.plan)) on next)
    by_next (Drains t n) on next =
        let some = drains-left b t n is next in
        arrivals-by _ (later-on at b on ∙ ap (handed_after b.fifo b.plan (b.taken + b.ready)) (more-of b some) ∙ step-drains b (length (items_of b.plan) - 1) t n next)
        ∙ first-at t n (left_after b) _ (step-next b is (Drains t n) next).1 some
    by_next (Overflows t) on next =
        let some = overflows-left b t is next in
        arrivals-by _ (later-on at b on ∙ ap (handed_after b.fifo b.plan (b.taken + b.ready)) (more-of b some) ∙ step-overflows b (length (items_of b.plan) - 1) t next)
        ∙ ap first (sym (append-nil (map (at_time t) (take b.fifo.depth (left_after b))))) ∙ first-at t b.fifo.depth (left_after b) [] (omega (arith, is.size.low)) some

    by_over : (over : Bool) → b.over ≡ over → first (later_than at b).arrivals ≡ time_of (next_of b)
    by_over true e = let none_next : next_of b ≡ Nothing = rw e refl in arrivals-by _ (later-over at b e) ∙ ap time_of (sym none_next)
    by_over false e = by_next (next_of b) e refl

-- one more is taken of those that are ready
pub taken-moves : (at : ℕ) (old new : FifoState) (edge : Option ℕ) (c : Conv) → 0 < old.ready → slice_get (items_of old.plan) old.taken ≡ Some c → new ≡ record old { taken = old.taken + 1; ready = old.ready - 1 } →
    to_hand_over at old edge ≡ record (to_hand_over at new edge) { conversions = at_time at c ∷ (to_hand_over at new edge).conversions }
taken-moves at old new edge c some there after =
    ap₂ (packed (is_complete old.plan) edge) ready (later ∙ sym (ap (later_than at) after))
    ∙ ap (λ (b : FifoState). let t : ToCome = record (to_hand_over at b edge) { conversions = at_time at c ∷ (ready_at at b ++ (later_than at new).arrivals); lost_at = (later_than at new).lost_at } in t) (sym after)
  where
    items : List Conv
    items = items_of old.plan

    ready : ready_at at old ≡ at_time at c ∷ map (at_time at) (take (old.ready - 1) (drop (old.taken + 1) items))
    ready =
        let count : old.ready ≡ suc (old.ready - 1) = omega arith in
        let next : suc old.taken ≡ old.taken + 1 = omega arith in
        ap₂ (λ n xs. map (at_time at) (take n xs)) count (drop-found items old.taken c there) ∙ ap (λ n. at_time at c ∷ map (at_time at) (take (old.ready - 1) (drop n items))) next

    later : later_than at old ≡ later_than at (record old { taken = old.taken + 1; ready = old.ready - 1 })
    later =
        let place : old.taken + old.ready ≡ old.taken + 1 + (old.ready - 1) = omega arith in
        ap (λ n. if old.over then record { arrivals = []; lost_at = Some at } else handed_after old.fifo old.plan n (length items)) place

-- nothing comes up to a time where nothing is ready and what comes next is later
pub come-later_on : (at time : ℕ) (b : FifoState) (edge : Option ℕ) → IsSoundFifo b → NeverFalls (to_hand_over at b edge).conversions → b.ready ≡ 0 → IsLater (next_of b) time → come time (to_hand_over at b edge).conversions ≡ 0
come-later_on at time b edge is order none late = by_next (next_of b) refl
  where
    cs : List Conv
    cs = (to_hand_over at b edge).conversions

    by_next : (c : NextEvent) → next_of b ≡ c → come time cs ≡ 0
    by_next Nothing next = ap (come time) (nothing_left cs (next-later at b edge is none ∙ ap time_of next))
    by_next (Drains t n) next = come-late time t cs order (next-later at b edge is none ∙ ap time_of next) (subst (λ (c : NextEvent). IsLater c time) next late)
    by_next (Overflows t) next = come-late time t cs order (next-later at b edge is none ∙ ap time_of next) (subst (λ (c : NextEvent). IsLater c time) next late)

-- where nothing is to come, nothing is ready, and nothing comes next
pub none-next : (at : ℕ) (b : FifoState) (edge : Option ℕ) → IsSoundFifo b → (to_hand_over at b edge).conversions ≡ [] → (b.ready ≡ 0) × (next_of b ≡ Nothing)
none-next at b edge is none = (unready, none-comes (next_of b) (sym (next-later at b edge is unready) ∙ first))
  where
    first : option_map (λ (c : Conv). c.time) (slice_get (to_hand_over at b edge).conversions 0) ≡ None
    first = ap (λ xs. option_map (λ (c : Conv). c.time) (slice_get xs 0)) none

    unready : b.ready ≡ 0
    unready = elim (cases_lt 0 b.ready) [
      | inl some ↦ let same : Some at ≡ None = sym (next-ready at b edge is some) ∙ first in absurd (cc)
      | inr few ↦ omega arith
    ]

-- then a conversion was lost at the last time, or none is
pub lost-over : (at : ℕ) (b : FifoState) (edge : Option ℕ) → b.over ≡ true → Some at ≡ (to_hand_over at b edge).lost_at
lost-over at b edge over = sym (ap (λ (h : Handed). h.lost_at) (later-over at b over))

pub lost-never : (at : ℕ) (b : FifoState) (edge : Option ℕ) → IsSoundFifo b → (to_hand_over at b edge).conversions ≡ [] → b.over ≡ false → None ≡ (to_hand_over at b edge).lost_at
lost-never at b edge is none on = sym (ap (λ (h : Handed). h.lost_at) (later-on at b on ∙ step-nothing b (length (items_of b.plan)) on (none-next at b edge is none).1))

-- and all was taken where none was lost
pub all-given : (at : ℕ) (b : FifoState) (edge : Option ℕ) → IsSoundFifo b → (to_hand_over at b edge).conversions ≡ [] → (to_hand_over at b edge).lost_at ≡ None → b.taken ≡ length (items_of b.plan)
all-given at b edge is none whole = by_over b.over refl
  where
    by_over : (over : Bool) → b.over ≡ over → b.taken ≡ length (items_of b.plan)
    by_over true e = let same : Some at ≡ None = lost-over at b edge e ∙ whole in absurd (cc)
    by_over false e = let nothing = none-next at b edge is none in all-taken b is e nothing.0 nothing.1

-- a view that is another one has the other's parts
pub kept-else : (a b : ToCome) → a ≡ b → a ≡ record b { conversions = a.conversions }
kept-else a b e = ap (λ (t : ToCome). let u : ToCome = record t { conversions = a.conversions } in u) e

-- a view of which the first was taken
pub taken-else : (a b : ToCome) (at : ℕ) (old new : FifoState) (edge : Option ℕ) (c : Conv) → to_hand_over at old edge ≡ b → 0 < old.ready → slice_get (items_of old.plan) old.taken ≡ Some c → new ≡ record old { taken = old.taken + 1; ready = old.ready - 1 } → a ≡ to_hand_over at new edge →
    (b.conversions ≡ at_time at c ∷ a.conversions) × (a ≡ record b { conversions = a.conversions })
taken-else a b at old new edge c whole some there after is =
    let moved : b ≡ record a { conversions = at_time at c ∷ a.conversions } =
    sym whole ∙ taken-moves at old new edge c some there after ∙ ap (λ (t : ToCome). let u : ToCome = record t { conversions = at_time at c ∷ t.conversions } in u) (sym is) in (
      ap (λ (t : ToCome). t.conversions) moved,
      sym (ap (λ (t : ToCome). let u : ToCome = record t { conversions = a.conversions } in u) moved),
    )
