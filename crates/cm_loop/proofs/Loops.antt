-- What comes out of a loop's output ring.
use Rattle.std.proofs.Common.{◌≡◌, ℕ, ◌<◌, ◌≤◌, min, Bool, true, cond, List, [], ◌∷◌, ◌++◌, length, take, refl, sym, ap, ◌∙◌, subst, inl, inr, Option, Some, None, arith}
use Rattle.std.proofs.lemmas.Bool.{cases_lt, lt-ltb, le-ltb, true≢false}
use Rattle.std.proofs.lemmas.List.{take_all}
use Rattle.cm_sample.proofs.Mapped.{length-map_from}
use Rattle.cm_sample.specs.Rule.{RuleText, map_from, munged_word}
use Rattle.cm_client.specs.Progress.{IsTaken}
use Rattle.cm_ring.specs.Samples.{munged_plan}
use Rattle.cm_expand.specs.Items.{items_of, samples_of}
use Rattle.cm_expand.specs.Plan.{PlanText}
use Rattle.cm_expand.specs.Rule.{rule_of}
use Rattle.cm_expand.specs.declared.conv.Conv.{Conv}
use Rattle.cm_loop.proofs.Outputs.{length_all_filtered}
use Rattle.cm_loop.specs.Filter.{FilterText, AreWithin, all_filtered}
use Rattle.cm_loop.specs.Looped.{looped_samples}
use Rattle.cm_job.specs.LoopJob.{LoopJobText, input_of, output_of}
use Rattle.cm_ring.specs.Roles.{Reading}
use Rattle.cm_ring_core.specs.Lawful.{IsFoundEnd}
use Rattle.cm_ring_core.specs.declared.view.End.{End}
use Rattle.cm_ring_core.specs.declared.view.EndKind.{EndKind}
use Rattle.cm_ring_core.specs.declared.view.EndKind.TheVariants.{Done, Overrun, Cancelled}
use Rattle.cm_ring_core.specs.declared.view.ReaderPart.{ReaderPart}
use Rattle.cm_ring_core.specs.declared.view.RingConstants.{RingConstants}
use Rattle.cm_expand.specs.Totals.{length_of}
use Rattle.cm_text.specs.Blocks.{munged_samples, munged_words, outputs_of, values_tail}
use Rattle.cm_client.specs.LineRing.{ring_of}
use Rattle.cm_text.proofs.Counts.{length-munged, munged_by_rule}
use Rattle.cm_client.specs.Streamed.{HasStreamed}
use Rattle.cm_text.specs.Outputs.{Output, output_texts}
use Rattle.cm_text.specs.Tails.{tail_text}
use Rattle.cm_loop.specs.LoopText.{filter_of, loop_text, loop_words, take_of}

-- as many words as samples of the input
pub length-loop_words : (job : LoopJobText) → length (loop_words job) ≡ length_of (input_of job)
length-loop_words job = length_all_filtered (filter_of job) (munged_samples (input_of job)) ∙ length-munged (input_of job)

-- the words past the last conversion are not put out
pub outputs_first : (sub : ℕ) (convs : List Conv) (words : List ℕ) → outputs_of sub convs (take (length convs) words) ≡ outputs_of sub convs words
outputs_first sub [] words = refl
outputs_first sub (conv ∷ convs) [] = refl
outputs_first sub (conv ∷ convs) (word ∷ words) = ap (λ (l : List Output). record { sub = sub; time = conv.time; index = conv.list_index; word = word } ∷ l) (outputs_first sub convs words)

-- the munged samples of an input's paced ring
pub munged_ring : (p : PlanText) → 1 ≤ length p.cmd.list → munged_plan (ring_of p true) ≡ munged_samples p
munged_ring p some = munged_by_rule p (samples_of p) some

pub ring_samples : (p q : PlanText) (ring : RingConstants) → ring ≡ ring_of p true → p ≡ q → 1 ≤ length q.cmd.list → munged_plan ring ≡ munged_samples q
ring_samples p q ring is same some = ap munged_plan is ∙ ap (λ (x : PlanText). munged_plan (ring_of x true)) same ∙ munged_ring q some

-- the filtered samples of such a ring are a loop's words
pub filtered_ring : (job : LoopJobText) (ring : RingConstants) (filter : FilterText) → filter ≡ filter_of job → munged_plan ring ≡ munged_samples (input_of job) → all_filtered filter (munged_plan ring) ≡ loop_words job
filtered_ring job ring filter is munged = ap (λ (f : FilterText). all_filtered f (munged_plan ring)) is ∙ ap (all_filtered (filter_of job)) munged

pub within_ring : (job : LoopJobText) (ring : RingConstants) (filter : FilterText) → filter ≡ filter_of job → munged_plan ring ≡ munged_samples (input_of job) → AreWithin (filter_of job) (munged_samples (input_of job)) → AreWithin filter (munged_plan ring)
within_ring job ring filter is munged within = subst (λ (f : FilterText). AreWithin f (munged_plan ring)) (sym is) (subst (AreWithin (filter_of job)) (sym munged) within)

-- and so are those of a plan that takes no memory
pub looped_is : (job : LoopJobText) (raw : List ℕ) (rule : RuleText) (filter : FilterText) → raw ≡ samples_of (input_of job) → rule ≡ rule_of (input_of job).sub (input_of job).cmd → filter ≡ filter_of job → 1 ≤ length (input_of job).cmd.list
    → looped_samples raw rule filter ≡ loop_words job
looped_is job raw rule filter samples munge is some =
    let p : PlanText = input_of job in
    let munged : map_from (munged_word rule) 0 raw ≡ munged_samples p = ap (λ (l : List ℕ). map_from (munged_word rule) 0 l) samples ∙ ap (λ (x : RuleText). map_from (munged_word x) 0 (samples_of p)) munge ∙ munged_by_rule p (samples_of p) some in
    ap (λ (f : FilterText). all_filtered f (map_from (munged_word rule) 0 raw)) is ∙ ap (all_filtered (filter_of job)) munged

-- where a client takes fewer samples than a paced ring has, it has as many as it takes
taken_by : (ring : RingConstants) (r : ReaderPart) (kind : EndKind) (count outputs : ℕ) → ring.paced ≡ true → outputs < length ring.samples → IsFoundEnd ring r kind count → (kind ≡ Cancelled → IsTaken (Some outputs) count) → outputs ≤ count
taken_by ring r Done count outputs paced fewer says cancelled = omega arith
taken_by ring r Overrun count outputs paced fewer says cancelled = absurd (true≢false (sym paced ∙ says.3))
taken_by ring r Cancelled count outputs paced fewer says cancelled = cancelled refl

module _ (ring : RingConstants) (samples outputs : ℕ) (words : List ℕ) (e : End) (r : Reading) (paced : ring.paced ≡ true) (many : length ring.samples ≡ samples) where
  Streams : Bool → Type 0
  Streams fewer = HasStreamed ring (cond fewer (Some outputs) None) words e r

  -- the words are the first ones of the ring, as many as there are conversions of the output
  pub first_words : HasStreamed ring (take_of samples outputs) words e r → words ≡ take outputs (munged_plan ring)
  unfolding Streams
  first_words streamed = elim (cases_lt outputs samples) [
    | inl fewer ↦
        let s : HasStreamed ring (Some outputs) words e r = subst Streams (lt-ltb outputs samples fewer) streamed in
        let says : IsFoundEnd ring r.part e.kind e.count = subst (λ (x : RingConstants). IsFoundEnd x r.part e.kind e.count) s.of s.says in
        let enough = taken_by ring r.part e.kind e.count outputs paced (omega arith) says s.cancelled in
        let count : min e.count outputs ≡ outputs = omega arith in
        s.are ∙ ap (λ (n : ℕ). take n (munged_plan ring)) count
    | inr all ↦
        let s : HasStreamed ring None words e r = subst Streams (le-ltb outputs samples all) streamed in
        let munged = length-map_from (munged_word ring.rule) 0 ring.samples in
        (s.whole paced refl).1 ∙ sym (take_all outputs (munged_plan ring) (omega arith))
  ]

-- the words of a ring with a command's rule are munged as that command's
pub munged_as : (p : PlanText) (ring : RingConstants) (words : List ℕ) → 1 ≤ length p.cmd.list → ring.rule ≡ rule_of p.sub p.cmd → ring.samples ≡ words → munged_plan ring ≡ munged_words p words
munged_as p ring words some rule samples =
    ap (λ (x : RuleText). map_from (munged_word x) 0 ring.samples) rule ∙ ap (λ (l : List ℕ). map_from (munged_word (rule_of p.sub p.cmd)) 0 l) samples ∙ munged_by_rule p words some

-- what comes out of a loop's output ring
pub loop_out : (job : LoopJobText) (ring : RingConstants) (most : Option ℕ) (words : List ℕ) (e : End) (r : Reading) → 1 ≤ length (output_of job).cmd.list → ring.paced ≡ true → ring.rule ≡ rule_of (output_of job).sub (output_of job).cmd → ring.samples ≡ loop_words job
    → most ≡ take_of (length_of (input_of job)) (length_of (output_of job)) → HasStreamed ring most words e r → words ≡ take (length_of (output_of job)) (munged_words (output_of job) (loop_words job))
loop_out job ring most words e r some paced rule samples takes streamed =
    let s = subst (λ (o : Option ℕ). HasStreamed ring o words e r) takes streamed in
    let many : length ring.samples ≡ length_of (input_of job) = ap (length {A = ℕ}) samples ∙ length-loop_words job in
    first_words ring (length_of (input_of job)) (length_of (output_of job)) words e r paced many s ∙ ap (take (length_of (output_of job))) (munged_as (output_of job) ring (loop_words job) some rule samples)

-- the text of a loop, of which the words past the last conversion are no part
pub text_is : (job : LoopJobText) (sub : ℕ) (p : PlanText) (words : List ℕ) (values : ℕ) → sub ≡ (output_of job).index → p ≡ output_of job → words ≡ take (length_of (output_of job)) (munged_words (output_of job) (loop_words job)) → values ≡ length (loop_words job)
    → output_texts (outputs_of sub (items_of p) words) ++ tail_text (values_tail p values) ≡ loop_text job
text_is job sub p words values sub_is plan words_are values_are =
    let q : PlanText = output_of job in
    (λ j. output_texts (outputs_of (sub_is j) (items_of (plan j)) (words_are j)) ++ tail_text (values_tail (plan j) (values_are j)))
    ∙ ap (λ (l : List Output). output_texts l ++ tail_text (values_tail q (length (loop_words job)))) (outputs_first q.index (items_of q) (munged_words q (loop_words job)))
