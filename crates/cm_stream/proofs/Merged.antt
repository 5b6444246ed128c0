-- What a round means for what each source has given.
use Rattle.std.proofs.Common.{◌≡◌, ℕ, zero, suc, ◌+◌, List, [], ◌∷◌, ◌++◌, length, map, set, refl, sym, ap, ◌∙◌, subst, Some, inl, inr, arith}
use Rattle.std.specs.Prelude.{slice_get, option_map}
use Rattle.std.proofs.Math.ListN.{length-map}
use Rattle.std.specs.List.{AllByRecursion}
use Rattle.std.proofs.Math.Seq.{take-add}
use Rattle.std.proofs.lemmas.Bool.{cases_lt}
use Rattle.std.proofs.lemmas.List.{map-set, set-get_or}
use Rattle.std.proofs.lemmas.List.Elements.{recursion_from_All}
use Rattle.std.proofs.lemmas.Option.{slice_get-map, get_or_from_slice_get}
use Rattle.cm_ring_core.specs.declared.view.RingConstants.{RingConstants}
use Rattle.cm_ring.specs.Samples.{munged_plan, first_munged, piece}
use Rattle.cm_ring.proofs.AtEnd.{whole_plan}
use Rattle.cm_stream.specs.Scans.{ScanText}
use Rattle.cm_stream.specs.Stream.{Streaming, IsOver, IsSameStream}
use Rattle.cm_stream.specs.Step.{HasStepped, given_scans}
use Rattle.cm_stream.specs.Merging.{turn_of, HasTurned, Passes, HavePassed, HasGoneRound, AddsScan, released_of, given_words, plan_of, Fixed, fixed, IsPacedOn, EndsAll, HasMerged}
use Rattle.cm_stream.specs.declared.merge.MergeStep.{MergeStep}
use Rattle.cm_stream.specs.declared.merge.MergeStep.TheVariants as merged
use Rattle.cm_stream.specs.declared.step.StreamStep.TheVariants as steps

-- two lists of streams that a function can't tell from each other
alike : {X : Type 0} (f : Streaming → X) (old new : List Streaming) → length new ≡ length old
    → ((j : ℕ) (a b : Streaming) → slice_get old j ≡ Some a → slice_get new j ≡ Some b → f b ≡ f a) → map f new ≡ map f old
alike f [] [] same each = refl
alike f [] (y ∷ new) same each = absurd (omega arith)
alike f (x ∷ old) [] same each = absurd (omega arith)
alike f (x ∷ old) (y ∷ new) same each =
    let head : f y ≡ f x = each 0 x y refl refl in
    let tail : map f new ≡ map f old = alike f old new (omega arith) (λ j a b had has. each (suc j) a b had has) in cc

pub set_alike : {X : Type 0} (f : Streaming → X) (xs : List Streaming) (i : ℕ) (a b : Streaming) → slice_get xs i ≡ Some a → f b ≡ f a → map f (set xs i b) ≡ map f xs
set_alike f [] i a b had same = refl
set_alike f (x ∷ xs) zero a b had same = let e : x ≡ a = cc had in ap (λ (y : _). y ∷ map f xs) (same ∙ sym (ap f e))
set_alike f (x ∷ xs) (suc i) a b had same = ap (λ (ys : List _). f x ∷ ys) (set_alike f xs i a b had same)

-- something of a stream that only a scan changes
pub record IsOfScans {X : Type 0} (f : Streaming → X) (add : X → ScanText → X) : Type 0 where
  pub gives : (scan : ScanText) (a b : Streaming) → HasStepped (steps.Given scan) a b → f b ≡ add (f a) scan
  pub ended : (a b : Streaming) → HasStepped steps.Ended a b → f b ≡ f a
  pub waits : (a b : Streaming) → HasStepped steps.Waiting a b → f b ≡ f a
  pub lacks : (a b : Streaming) → HasStepped steps.NoMemory a b → f b ≡ f a

passes_keeps : {X : Type 0} (f : Streaming → X) (add : X → ScanText → X) → IsOfScans f add → (a b : Streaming) → Passes a b → f b ≡ f a
passes_keeps f add of a b (inl over) = ap f over.0
passes_keeps f add of a b (inr (inl ended)) = of.ended a b ended.1
passes_keeps f add of a b (inr (inr waits)) = of.waits a b waits.1

passed_keeps : {X : Type 0} (f : Streaming → X) (add : X → ScanText → X) → IsOfScans f add → (first turns : ℕ) (old passed : List Streaming) → HavePassed first turns old passed → map f passed ≡ map f old
passed_keeps f add of first turns old passed have = alike f old passed have.count (λ j a b had has.
    elim (cases_lt (turn_of first (length old) j) turns) [
      | inl early ↦ passes_keeps f add of a b (have.passed j a b had has early)
      | inr late ↦ let e : Some b ≡ Some a = sym has ∙ (have.left j late ∙ had) in let same : b ≡ a = cc in ap f same
    ])

turned_adds : {X : Type 0} (f : Streaming → X) (add : X → ScanText → X) → IsOfScans f add → (scan : ScanText) (source : ℕ) (passed new : List Streaming) → HasTurned (Some (steps.Given scan)) source passed new
    → AddsScan add (merged.Given source scan) (map f passed) (map f new)
turned_adds f add of scan source passed new t =
    let had : slice_get (map f passed) source ≡ Some (f t.before) = slice_get-map f passed source ∙ ap (option_map f) t.had in
    (f t.before, had, ap (map f) t.set ∙ (map-set f passed source t.after ∙ ap (set (map f passed) source) (of.gives scan t.before t.after t.turn.1)))

turned_keeps : {X : Type 0} (f : Streaming → X) (add : X → ScanText → X) → IsOfScans f add → (source : ℕ) (passed new : List Streaming) → HasTurned (Some steps.NoMemory) source passed new → map f new ≡ map f passed
turned_keeps f add of source passed new t = ap (map f) t.set ∙ set_alike f passed source t.before t.after t.had (of.lacks t.before t.after t.turn.1)

pub adds_scan : {X : Type 0} (f : Streaming → X) (add : X → ScanText → X) → IsOfScans f add → (answer : MergeStep) (first : ℕ) (old new : List Streaming) → HasGoneRound answer first old new → AddsScan add answer (map f old) (map f new)
adds_scan {X = X} f add of (merged.Given source scan) first old new h =
    subst (λ (xs : List X). AddsScan add (merged.Given source scan) xs (map f new)) (passed_keeps f add of first h.turns old h.passed h.have_passed) (turned_adds f add of scan source h.passed new h.ends.1)
adds_scan f add of (merged.NoMemory source) first old new h = turned_keeps f add of source h.passed new h.ends.1 ∙ passed_keeps f add of first h.turns old h.passed h.have_passed
adds_scan f add of merged.Ended first old new h = ap (map f) h.ends.1 ∙ passed_keeps f add of first h.turns old h.passed h.have_passed
adds_scan f add of merged.Waiting first old new h = ap (map f) h.ends.1 ∙ passed_keeps f add of first h.turns old h.passed h.have_passed

-- what stays the same in any step
module _ {X : Type 0} (f : Streaming → X) (add : X → ScanText → X) (given : (scan : ScanText) (a b : Streaming) → HasStepped (steps.Given scan) a b → f b ≡ add (f a) scan)
    (kept : (a b : Streaming) → IsSameStream a b → b.reader.part.released ≡ a.reader.part.released → f b ≡ f a) where
  of_scans : IsOfScans f add
  of_scans = record {
    gives = given;
    ended = λ a b step. kept a b step.same step.answers.0;
    waits = λ a b step. kept a b step.same step.answers.0;
    lacks = λ a b step. kept a b step.same step.answers.0;
  }

pub fixed_same : (a b : Streaming) → IsSameStream a b → fixed b ≡ fixed a
fixed_same a b same = let n = same.n in let table = same.table in let ring = same.ring in let asked = same.asked in cc

words_same : (a b : Streaming) → IsSameStream a b → b.reader.part.released ≡ a.reader.part.released → given_words b ≡ given_words a
words_same a b same released = let ring = same.ring in cc

scans_same : (a b : Streaming) → IsSameStream a b → b.reader.part.released ≡ a.reader.part.released → given_scans b ≡ given_scans a
scans_same a b same released = let ring = same.ring in let n = same.n in cc

words_given : (scan : ScanText) (a b : Streaming) → HasStepped (steps.Given scan) a b → given_words b ≡ given_words a ++ scan.words
words_given scan a b step =
    let given = step.answers in let from : ℕ = a.reader.part.released in let want : ℕ = length scan.words in
    let plan : given_words b ≡ first_munged a.reader.ring b.reader.part.released = ap (λ (ring : RingConstants). first_munged ring b.reader.part.released) step.same.ring in
    let to : b.reader.part.released ≡ from + want = given.released ∙ ap (λ (count : ℕ). from + count) (sym given.count) in
    let words : scan.words ≡ piece a.reader.ring from want = given.words ∙ ap (λ (count : ℕ). piece a.reader.ring from count) (sym given.count) in
    plan ∙ (ap (λ (count : ℕ). first_munged a.reader.ring count) to ∙ (take-add from want (munged_plan a.reader.ring) ∙ ap (λ (l : List ℕ). given_words a ++ l) (sym words)))

released_given : (scan : ScanText) (a b : Streaming) → HasStepped (steps.Given scan) a b → released_of b ≡ released_of a + length scan.words
released_given scan a b step = step.answers.released ∙ ap (λ (count : ℕ). released_of a + count) (sym step.answers.count)

-- at the end each source that was paced on has given its whole plan
whole_of : (s : Streaming) → IsOver s → IsPacedOn s → given_words s ≡ plan_of s
whole_of s over paced = let whole = whole_plan s.reader.ring s.reader.part over.end.kind over.end.count paced.0 paced.1 over.says in
    ap (λ (count : ℕ). first_munged s.reader.ring count) (sym over.count) ∙ whole.1

whole_each : (xs : List Streaming) → AllByRecursion IsOver xs → AllByRecursion IsPacedOn xs → map given_words xs ≡ map plan_of xs
whole_each [] over paced = refl
whole_each (x ∷ xs) over paced = let head = whole_of x over.0 paced.0 in let tail = whole_each xs over.1 paced.1 in cc

ends_all : (answer : MergeStep) (first : ℕ) (old new : List Streaming) → HasGoneRound answer first old new → EndsAll answer new
ends_all (merged.Given source scan) first old new h = tt
ends_all (merged.NoMemory source) first old new h = tt
ends_all merged.Ended first old new h = (h.ends.2, λ paced. whole_each new (recursion_from_All IsOver new h.ends.2) (recursion_from_All IsPacedOn new paced))
ends_all merged.Waiting first old new h = tt

adds_same : {X : Type 0} (f : Streaming → X) (answer : MergeStep) (old new : List Streaming) → AddsScan (λ had scan. had) answer (map f old) (map f new) → map f new ≡ map f old
adds_same {X = X} f (merged.Given source scan) old new h =
    let xs : List X = map f old in
    h.2 ∙ (ap (set xs source) (sym (get_or_from_slice_get xs source h.0 h.0 h.1)) ∙ set-get_or xs source h.0)
adds_same f (merged.NoMemory source) old new h = h
adds_same f merged.Ended old new h = h
adds_same f merged.Waiting old new h = h

pub merged_so : (answer : MergeStep) (first : ℕ) (old new : List Streaming) → HasGoneRound answer first old new → HasMerged answer first old new
merged_so answer first old new h =
    let unchanged = adds_scan fixed (λ had scan. had) (of_scans fixed (λ had scan. had) (λ scan a b step. fixed_same a b step.same) (λ a b same released. fixed_same a b same)) answer first old new h in
    let same : map fixed new ≡ map fixed old = adds_same fixed answer old new unchanged in
    record {
      round = h;
      count = sym (length-map new fixed) ∙ (ap (length {A = Fixed}) same ∙ length-map old fixed);
      fixed = same;
      released = adds_scan released_of (λ count scan. count + length scan.words) (of_scans released_of (λ count scan. count + length scan.words) released_given (λ a b same released. released)) answer first old new h;
      words = adds_scan given_words (λ words scan. words ++ scan.words) (of_scans given_words (λ words scan. words ++ scan.words) words_given words_same) answer first old new h;
      scans = adds_scan given_scans (λ scans scan. scans ++ scan ∷ []) (of_scans given_scans (λ scans scan. scans ++ scan ∷ []) (λ scan a b step. step.answers.scans) scans_same) answer first old new h;
      ended = ends_all answer first old new h;
    }
