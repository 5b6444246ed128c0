-- That each munged sample of an input's expansion can be reported, and what may be its samples may be their words.
use Rattle.std.proofs.Common.{◌≡◌, ℕ, ◌+◌, ◌<◌, ◌≤◌, ◌^◌, false, List, length, get_or, sym, ap, ◌∙◌, subst, arith}
use Rattle.std.specs.Prelude.{slice_index}
use Rattle.cm_board.specs.Board.{is_output}
use Rattle.cm_sample.proofs.Mapped.{get_or-map_from, length-map_from}
use Rattle.cm_expand.specs.Fit.{IsExpansion}
use Rattle.cm_expand.specs.Items.{samples_of}
use Rattle.cm_expand.specs.Plan.{PlanText}
use Rattle.cm_expand.specs.Rule.{munged_at}
use Rattle.cm_expand.specs.Totals.{length_of}
use Rattle.cm_text.specs.Blocks.{munged_samples}
use Rattle.cm_text.specs.Format.{IsSample, format_of}
use Rattle.cm_text.proofs.Codes.{sample_from}
use Rattle.cm_text.proofs.Counts.{length-samples}
use Rattle.cm_block.specs.Going.{AcceptsSamples}

-- the munged sample of a place
munged_there : (p : PlanText) (place : ℕ) → place < length (samples_of p) → get_or (munged_samples p) place 0 ≡ munged_at p.sub p.cmd place (slice_index (samples_of p) place)
munged_there p place below =
    let here : 0 + place ≡ place = omega arith in
    get_or-map_from (munged_at p.sub p.cmd) 0 (samples_of p) place 0 0 below ∙ ap (λ (n : ℕ). munged_at p.sub p.cmd n (get_or (samples_of p) place 0)) here

-- each of them can be reported
pub all_reported : (p : PlanText) → IsExpansion p → 1 ≤ length p.cmd.list → is_output p.sub.kind ≡ false → length_of p ≤ 4000000 → AcceptsSamples (λ place word. (place < 2 ^ 60) × IsSample (format_of p) place word) p
all_reported p is some input few place below =
    let many = length-samples p in (
      omega (arith, below, few, many),
      subst (IsSample (format_of p) place) (munged_there p place below) (sample_from p is some input place (omega (arith, below, many))),
    )

-- what may be the munged samples may be each of their words
pub words_accepted : (p : PlanText) (may : ℕ → ℕ → Type 0) → AcceptsSamples may p → (words : List ℕ) → words ≡ munged_samples p → (i : ℕ) → i < length words → may i (get_or words i 0)
words_accepted p may accepts words are i below =
    let count : length words ≡ length (samples_of p) = ap (λ (l : List ℕ). length l) are ∙ length-map_from (munged_at p.sub p.cmd) 0 (samples_of p) in
    let there : i < length (samples_of p) = omega (arith, below, count) in
    subst (may i) (sym (ap (λ (l : List ℕ). get_or l i 0) are ∙ munged_there p i there)) (accepts i there)
