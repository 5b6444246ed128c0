-- The text of a streamed command as the samples that came, or the words that were put out.
use Rattle.std.proofs.Common.{◌≡◌, ℕ, suc, ◌<◌, ◌≤◌, Bool, true, false, cond, List, [], ◌∷◌, ◌++◌, length, take, Option, Some, None, refl, sym, ap, ◌∙◌, subst, arith}
use Rattle.std.specs.Prelude.{min, nat_lt}
use Rattle.std.proofs.lemmas.Bool.Decides.{nat_tests}
use Rattle.std.proofs.lemmas.List.{length-take-le}
use Rattle.cm_sample.proofs.Mapped.{length-map_from}
use Rattle.cm_expand.specs.Items.{items_of}
use Rattle.cm_expand.specs.Plan.{PlanText, is_complete}
use Rattle.cm_expand.specs.Rule.{munged_at}
use Rattle.cm_expand.specs.Totals.{length_of}
use Rattle.cm_expand.specs.declared.conv.Conv.{Conv}
use Rattle.cm_text.specs.Blocks.{HasOverrun, block, cut_tail, drive_block, ending, munged_samples, munged_words, outputs_of, paced_block, take_count, values_tail}
use Rattle.cm_text.specs.Streams.{EndsInput, EndsOutput, StreamsInput, StreamsOutput}
use Rattle.cm_text.specs.declared.tail.Tail.{Tail}
use Rattle.cm_text.specs.declared.tail.Tail.TheVariants as tails
use Rattle.cm_text.proofs.Counts.{length-munged}

-- the block of the first k samples
first_block : (paced : Bool) (p : PlanText) (most : Option ℕ) (k : ℕ) (tail : Tail) → k ≤ length_of p → EndsInput paced p most tail k →
    StreamsInput paced p most (block p k tail)
first_block paced p most k tail within end =
    let all : List ℕ = munged_samples p in
    let counted : length (take k all) ≡ k = length-take-le k all (omega (arith, within, length-munged p)) in
    record {
      samples = take k all;
      tail = tail;
      prefix = ap (λ (n : ℕ). take n all) (sym counted);
      end = subst (λ (n : ℕ). EndsInput paced p most tail n) (sym counted) end;
      text_is = refl;
    }

-- the end after all samples
ends_whole : (paced : Bool) (p : PlanText) (most : Option ℕ) (complete : Bool) → is_complete p ≡ complete →
    EndsInput paced p most (cond complete tails.Done tails.Dry) (length_of p)
ends_whole paced p most true is = (refl, is)
ends_whole paced p most false is = (refl, is)

-- where nothing is lost
pub paced_streams : (paced : Bool) (p : PlanText) (most : Option ℕ) → StreamsInput paced p most (paced_block p most)
paced_streams paced p None = first_block paced p None (length_of p) (ending p) (omega arith) (ends_whole paced p None (is_complete p) refl)
paced_streams paced p (Some most) = by (nat_lt most (length_of p)) refl
  where
    by : (less : Bool) → nat_lt most (length_of p) ≡ less →
        StreamsInput paced p (Some most) (block p (min (length_of p) most) (cond less (tails.Taken most) (ending p)))
    by true e =
        let few : most < length_of p = grind (arith, nat_tests) in
        first_block paced p (Some most) (min (length_of p) most) (tails.Taken most) (grind arith) (grind arith, refl, few)
    by false e =
        let all : min (length_of p) most ≡ length_of p = grind (arith, nat_tests) in
        first_block paced p (Some most) (min (length_of p) most) (ending p) (omega (arith, all))
        (subst (λ (n : ℕ). EndsInput paced p (Some most) (ending p) n) (sym all) (ends_whole paced p (Some most) (is_complete p) refl))

-- no client takes more than there are
few_taken : (p : PlanText) (most : Option ℕ) → take_count p most ≤ length_of p
few_taken p None = omega arith
few_taken p (Some most) = grind arith

-- where one is lost
pub overrun_streams : (p : PlanText) (most : Option ℕ) (text : List ℕ) → HasOverrun p most text → StreamsInput false p most text
overrun_streams p most text h =
    let short : h.k < length_of p = omega (arith, h.short, few_taken p most) in
    subst (λ (t : List ℕ). StreamsInput false p most t) (sym h.is)
    (first_block false p most h.k (tails.Overrun h.k) (omega (arith, short)) (refl, refl, h.full, short))

-- as many words are put out as there are conversions and words
length_outputs : (sub : ℕ) (convs : List Conv) (words : List ℕ) → length (outputs_of sub convs words) ≡ min (length convs) (length words)
length_outputs sub [] words = grind arith
length_outputs sub (conv ∷ convs) [] = grind arith
length_outputs sub (conv ∷ convs) (word ∷ words) = let rest = length_outputs sub convs words in grind arith

-- an output's block
pub drive_streams : (p : PlanText) (words : List ℕ) → StreamsOutput p words (drive_block p words)
drive_streams p words = record {
  puts = outputs_of p.index (items_of p) (munged_words p words);
  tail = values_tail p (length words);
  words_are = refl;
  end = by (nat_lt (length words) (length_of p)) refl;
  text_is = refl;
}
  where
    counted : length (outputs_of p.index (items_of p) (munged_words p words)) ≡ min (length_of p) (length words)
    counted =
        length_outputs p.index (items_of p) (munged_words p words)
        ∙ ap (λ (n : ℕ). min (length_of p) n) (length-map_from (munged_at p.sub p.cmd) 0 words)

    whole : (complete : Bool) → is_complete p ≡ complete → EndsOutput p (length words) (cond complete tails.Done tails.Dry) (length_of p)
    whole true is = (refl, is)
    whole false is = (refl, is)

    by : (less : Bool) → nat_lt (length words) (length_of p) ≡ less →
        EndsOutput p (length words) (cond less (tails.Underrun (length words)) (ending p)) (length (outputs_of p.index (items_of p) (munged_words p words)))
    by true e = let few : length words < length_of p = grind (arith, nat_tests) in (counted ∙ grind arith, refl, few)
    by false e =
        let all : min (length_of p) (length words) ≡ length_of p = grind (arith, nat_tests) in
        subst (λ (n : ℕ). EndsOutput p (length words) (ending p) n) (sym (counted ∙ all)) (whole (is_complete p) refl)
