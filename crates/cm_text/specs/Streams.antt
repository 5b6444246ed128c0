-- What the text of a streamed command says: which samples came, or which words were put out, and how it ended.
use Rattle.std.specs.Prelude.{◌≡◌, ◌<◌, ◌≤◌, ℕ, Bool, true, false, List, ◌++◌, length, take, Option, Some}
use Rattle.cm_expand.specs.Items.{items_of}
use Rattle.cm_expand.specs.Plan.{PlanText, is_complete}
use Rattle.cm_expand.specs.Totals.{length_of}
use Rattle.cm_text.specs.Blocks.{munged_samples, munged_words, outputs_of}
use Rattle.cm_text.specs.Format.{format_of, sample_lines}
use Rattle.cm_text.specs.Outputs.{Output, output_texts}
use Rattle.cm_text.specs.Tails.{tail_text}
use Rattle.cm_text.specs.declared.tail.Tail.{Tail}
use Rattle.cm_text.specs.declared.tail.Tail.TheVariants as tails

-- how an input's command ends after `count` samples came: `done` and `dry` after all of them,
-- `taken n` after the n that its client asked for, and `overrun k` after exactly k of more,
-- which only a board reports that isn't paced, and only if they fill the buffer at least once
abbrev pub EndsInput : Bool → PlanText → Option ℕ → Tail → ℕ → Type 0
EndsInput paced p most tails.Done count = (count ≡ length_of p) × (is_complete p ≡ true)
EndsInput paced p most tails.Dry count = (count ≡ length_of p) × (is_complete p ≡ false)
EndsInput paced p most (tails.Taken n) count = (count ≡ n) × (most ≡ Some n) × (n < length_of p)
EndsInput paced p most (tails.Overrun k) count =
    (count ≡ k) × (paced ≡ false) × (p.sub.buffer ≤ k) × (k < length_of p)
EndsInput paced p most (tails.Underrun k) count = ⊥

-- the text of an input's command: a prefix of its munged expansion in trigger order, a line for each sample,
-- and its end
pub record StreamsInput (paced : Bool) (p : PlanText) (most : Option ℕ) (text : List ℕ) : Type 0 where
  pub samples : List ℕ
  pub tail : Tail
  pub prefix : samples ≡ take (length samples) (munged_samples p)
  pub end : EndsInput paced p most tail (length samples)
  pub text_is : text ≡ sample_lines (format_of p) 0 samples ++ tail_text tail

-- how an output's command ends after `count` words were put out of so many that were given:
-- `done` and `dry` if no conversion lacked its word,
-- and `underrun k` if all k were put out and there are more conversions
abbrev pub EndsOutput : PlanText → ℕ → Tail → ℕ → Type 0
EndsOutput p given tails.Done count = (count ≡ length_of p) × (is_complete p ≡ true)
EndsOutput p given tails.Dry count = (count ≡ length_of p) × (is_complete p ≡ false)
EndsOutput p given (tails.Underrun k) count = (count ≡ k) × (k ≡ given) × (k < length_of p)
EndsOutput p given other count = ⊥

-- the text of an output's command: the words that were given, munged at their places,
-- each at the time of its conversion, and its end
pub record StreamsOutput (p : PlanText) (words : List ℕ) (text : List ℕ) : Type 0 where
  pub puts : List Output
  pub tail : Tail
  pub words_are : puts ≡ outputs_of p.index (items_of p) (munged_words p words)
  pub end : EndsOutput p (length words) tail (length puts)
  pub text_is : text ≡ output_texts puts ++ tail_text tail
