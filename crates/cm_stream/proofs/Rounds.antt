-- One turn more of a round.
use Rattle.std.proofs.Common.{◌≡◌, ◌≢◌, ℕ, zero, suc, ◌+◌, ◌<◌, ◌≤◌, ◌⊎◌, inl, inr, Bool, true, false, List, [], ◌∷◌, length, set, refl, sym, ap, ◌∙◌, subst, Option, Some, None, arith, length-set}
use mathlib.Core.Logic.{dite}
use native.Mathlib.Decide.{ℕ_discrete}
use Rattle.std.specs.Prelude.{slice_get}
use Rattle.std.specs.List.{All, AllByRecursion}
use Rattle.std.proofs.lemmas.Bool.{false≢true}
use Rattle.std.proofs.lemmas.Bool.Decides.{nat_tests}
use Rattle.std.proofs.lemmas.Option.{slice_get_within}
use Rattle.std.proofs.lemmas.List.Elements.{All-from_recursion}
use Rattle.cm_ring_core.specs.declared.view.End.{End}
use Rattle.cm_stream.specs.Stream.{Streaming, wanted, is_over, is_released, IsOver}
use Rattle.cm_stream.specs.Step.{HasStepped}
use Rattle.cm_stream.specs.Merging.{source_after, turn_of, IsTurn, HasTurned, Passes, HavePassed}
use Rattle.cm_stream.specs.declared.step.StreamStep.{StreamStep}
use Rattle.cm_stream.specs.declared.step.StreamStep.TheVariants as steps

-- some stream isn't over whose turn was passed
abbrev pub IsLeftBefore : ℕ → ℕ → ℕ → List Streaming → Type 0
IsLeftBefore first count turns streams = (j : ℕ) × (b : Streaming) × (slice_get streams j ≡ Some b) × (is_over b ≡ false) × (turn_of first count j < turns)

-- some turns of a round, none of which gave anything
pub record IsUnderWay (first count turns : ℕ) (waits : Bool) (old new : List Streaming) : Type 0 where
  pub all : count ≡ length old
  pub have_passed : HavePassed first turns old new
  pub some : waits ≡ true → IsLeftBefore first count turns new
  pub none : waits ≡ false → (j : ℕ) (b : Streaming) → slice_get new j ≡ Some b → turn_of first count j < turns → IsOver b

pub get_same : (xs : List Streaming) (i : ℕ) (v : Streaming) → i < length xs → slice_get (set xs i v) i ≡ Some v
get_same [] i v h = absurd (omega arith)
get_same (x ∷ xs) zero v h = refl
get_same (x ∷ xs) (suc i) v h = get_same xs i v (omega arith)

pub get_other : (xs : List Streaming) (i j : ℕ) (v : Streaming) → j ≢ i → slice_get (set xs i v) j ≡ slice_get xs j
get_other [] i j v h = refl
get_other (x ∷ xs) zero zero v h = absurd (h refl)
get_other (x ∷ xs) zero (suc j) v h = refl
get_other (x ∷ xs) (suc i) zero v h = refl
get_other (x ∷ xs) (suc i) (suc j) v h = get_other xs i j v (λ e. h (ap suc e))

-- a source has its turn, and no other source has that turn
pub turn_of-source_after : (first count turn : ℕ) → first < count → turn < count → turn_of first count (source_after first count turn) ≡ turn
turn_of-source_after first count turn a b = grind (arith, nat_tests)

pub source_after-turn_of : (first count source : ℕ) → first < count → source < count → source_after first count (turn_of first count source) ≡ source
source_after-turn_of first count source a b = grind (arith, nat_tests)

turn_within : (first count source : ℕ) → first < count → source < count → turn_of first count source < count
turn_within first count source a b = grind (arith, nat_tests)

-- a stream that waits isn't over
pub waits_on : (a b : Streaming) → HasStepped steps.Waiting a b → is_over b ≡ false
waits_on a b h = over_not b.reader.part.found a.n a.reader.part.released b.reader.part.released (h.answers.0) (omega arith)
  where
    over_not : (found : Option End) (n released now : ℕ) → now ≡ released → 0 < wanted n released found → is_released now found ≡ false
    over_not None n released now e some = refl
    over_not (Some x) n released now e some = grind (arith, nat_tests)

module _ (first count k : ℕ) (waits : Bool) (old now new : List Streaming) (answer : Option StreamStep) (source : ℕ) (way : IsUnderWay first count k waits old now) (start : first < count) (more : k < count) (is : source ≡ source_after first count k)
    (turn : HasTurned answer source now new) where
  mine : turn_of first count source ≡ k
  mine = ap (turn_of first count) is ∙ turn_of-source_after first count k start more

  same_count : (j : ℕ) → turn_of first (length old) j ≡ turn_of first count j
  same_count j = ap (λ (n : ℕ). turn_of first n j) (sym way.all)

  here : slice_get new source ≡ Some turn.after
  here = ap (λ (l : List Streaming). slice_get l source) turn.set ∙ get_same now source turn.after (slice_get_within now source turn.before turn.had)

  there : (j : ℕ) → j ≢ source → slice_get new j ≡ slice_get now j
  there j ne = ap (λ (l : List Streaming). slice_get l j) turn.set ∙ get_other now source j turn.after ne

  wide : length new ≡ length now
  wide = ap (length {A = Streaming}) turn.set ∙ length-set now source turn.after

  was : slice_get old source ≡ Some turn.before
  was = sym (way.have_passed.left source (let e = mine in let t = same_count source in omega arith)) ∙ turn.had

  -- another source has another turn
  other_turn : (j : ℕ) → j < count → j ≢ source → turn_of first count j ≢ k
  other_turn j within ne e = ne (sym (source_after-turn_of first count j start within) ∙ (ap (source_after first count) e ∙ sym is))

  -- a source that has another turn is another
  other : (j : ℕ) → turn_of first count j ≢ k → j ≢ source
  other j ne e = ne (ap (turn_of first count) e ∙ mine)

  -- one more source was passed
  pub passed_one : Passes turn.before turn.after → HavePassed first (k + 1) old new
  passed_one passes = record {
    count = wide ∙ way.have_passed.count;
    passed = λ j a b had has early. dite (ℕ_discrete j source)
        (λ (same : j ≡ source). let e : Some a ≡ Some turn.before = sym had ∙ (ap (slice_get old) same ∙ was) in let f : Some b ≡ Some turn.after = sym has ∙ (ap (slice_get new) same ∙ here) in
        let ea : a ≡ turn.before = cc in let eb : b ≡ turn.after = cc in subst (λ (x : Streaming). Passes x b) (sym ea) (subst (λ (x : Streaming). Passes turn.before x) (sym eb) passes))
        (λ (ne : j ≢ source). let within : j < length old = slice_get_within old j a had in let all = way.all in
        let n : turn_of first count j ≢ k = other_turn j (omega arith) ne in
        let t = same_count j in
        way.have_passed.passed j a b had (sym (there j ne) ∙ has) (omega arith));
    left = λ j late. let t = same_count j in
        let ne : j ≢ source = other j (λ e. omega arith) in
        there j ne ∙ way.have_passed.left j (omega arith);
  }

  -- a round goes on, and what it knows of the streams that wait
  pub goes_on : Passes turn.before turn.after → (waits' : Bool) → (waits' ≡ true → (waits ≡ true) ⊎ (is_over turn.after ≡ false)) → (waits' ≡ false → (waits ≡ false) × IsOver turn.after) → IsUnderWay first count (k + 1) waits' old new
  goes_on passes waits' some none = record {
    all = way.all;
    have_passed = passed_one passes;
    some = λ e. some_left (some e);
    none = λ e j b has early. dite (ℕ_discrete j source)
        (λ (same : j ≡ source). let f : Some b ≡ Some turn.after = sym has ∙ (ap (slice_get new) same ∙ here) in let eb : b ≡ turn.after = cc in subst IsOver (sym eb) (none e).1)
        (λ (ne : j ≢ source). let within : j < length new = slice_get_within new j b has in let w = wide in let c = way.have_passed.count in let all = way.all in
        let n : turn_of first count j ≢ k = other_turn j (omega arith) ne in
        way.none (none e).0 j b (sym (there j ne) ∙ has) (omega arith));
  }
    where
      some_left : (waits ≡ true) ⊎ (is_over turn.after ≡ false) → IsLeftBefore first count (k + 1) new
      some_left (inr left) = let m = mine in (source, turn.after, here, left, omega arith)
      some_left (inl before) = let l = way.some before in let early = l.4 in (l.0, l.1, there l.0 (other l.0 (λ e. omega arith)) ∙ l.2, l.3, omega arith)

  -- by the answer of its turn
  pub over_passed : IsTurn None turn.before turn.after → (waits' : Bool) → waits' ≡ waits → IsUnderWay first count (k + 1) waits' old new
  over_passed h waits' same = goes_on (inl h) waits' (λ e. inl (sym same ∙ e)) (λ e. (sym same ∙ e, subst IsOver (sym h.0) h.2))

  pub ended_passed : IsTurn (Some steps.Ended) turn.before turn.after → (waits' : Bool) → waits' ≡ waits → IsUnderWay first count (k + 1) waits' old new
  ended_passed h waits' same = goes_on (inr (inl h)) waits' (λ e. inl (sym same ∙ e)) (λ e. (sym same ∙ e, h.1.answers.1))

  pub waiting_passed : IsTurn (Some steps.Waiting) turn.before turn.after → (waits' : Bool) → waits' ≡ true → IsUnderWay first count (k + 1) waits' old new
  waiting_passed h waits' same = goes_on (inr (inr h)) waits' (λ e. inr (waits_on turn.before turn.after h.1)) (λ e. absurd (false≢true (sym e ∙ same)))

each_over : (xs : List Streaming) → ((j : ℕ) (b : Streaming) → slice_get xs j ≡ Some b → IsOver b) → AllByRecursion IsOver xs
each_over [] each = tt
each_over (x ∷ xs) each = (each 0 x refl, each_over xs (λ j b has. each (suc j) b has))

-- when all turns were passed and no stream waits, all are over
pub all_over : (first count turns : ℕ) (old new : List Streaming) → first < count → count ≤ turns → IsUnderWay first count turns false old new → All IsOver new
all_over first count turns old new start done way = All-from_recursion IsOver new (each_over new (λ j b has.
    let within : j < length new = slice_get_within new j b has in let c = way.have_passed.count in let all = way.all in
    let t = turn_within first count j start (omega arith) in way.none refl j b has (omega arith)))
