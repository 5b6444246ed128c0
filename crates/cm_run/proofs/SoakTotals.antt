-- What was read of lines that nobody cuts short.
use Rattle.std.proofs.Common.{◌≡◌, ℕ, zero, suc, ◌≤◌, true, List, [], ◌∷◌, length, map, refl, sym, ap, subst, ◌∙◌, Option, Some, None}
use Rattle.std.specs.Prelude.{slice_get}
use Rattle.std.specs.List.{AllZip, sum}
use Rattle.cm_board.specs.Board.{BoardText}
use Rattle.cm_signal.specs.Signals.{SignalsText}
use Rattle.cm_expand.specs.Items.{samples_of}
use Rattle.cm_expand.specs.Plan.{PlanText}
use Rattle.cm_ring_core.specs.declared.view.End.{End}
use Rattle.cm_ring_core.specs.declared.view.EndKind.TheVariants as ends
use Rattle.cm_ring.specs.Roles.{Reading}
use Rattle.cm_client.specs.Streamed.{HasStreamed}
use Rattle.cm_job.specs.Calls.{plan_of}
use Rattle.cm_job.specs.Modes.{is_paced}
use Rattle.cm_job.specs.declared.line.Mode.{Mode}
use Rattle.cm_job.specs.declared.line.Mode.TheVariants.{Paced}
use Rattle.cm_job.specs.declared.line.RunLine.{RunLine}
use Rattle.cm_expand.specs.Totals.{length_of}
use Rattle.cm_text.specs.Blocks.{munged_samples}
use Rattle.cm_client.specs.LineRing.{ring_of}
use Rattle.cm_text.proofs.Counts.{length-munged, munged_by_rule}
use Rattle.cm_run.specs.SoakSums.{AreWhole, HasSummed, IsWhole, line_part, part_at}
use Rattle.cm_run.specs.declared.soak.part.Part.{Part}
use Rattle.cm_run.specs.declared.soak.summing.Summed.{Summed}

module _ (p : PlanText) (words : List ℕ) (e : End) (r : Reading) (s : HasStreamed (ring_of p true) None words e r) (some : 1 ≤ length p.cmd.list) where
  words_whole : words ≡ munged_samples p
  words_whole = (s.whole refl refl).1 ∙ munged_by_rule p (samples_of p) some

  pub count_whole : length words ≡ length_of p
  count_whole = ap (λ (l : List ℕ). length l) words_whole ∙ length-munged p

  end_whole : e ≡ record { kind = ends.Done; count = length_of p }
  end_whole = λ i. record { kind = (s.whole refl refl).0 i; count = (sym s.count ∙ count_whole) i }

  reader_whole : IsWhole p r
  reader_whole = record {
    of = s.of;
    found = s.found ∙ ap (λ (x : End). Some x) end_whole;
    released = s.released ∙ sym s.count ∙ count_whole;
  }

  pub has_summed : (part : Part) → part ≡ record { count = length words; sum = sum words } → HasSummed p part r
  has_summed part is = record {
    is = is ∙ ap (λ (l : List ℕ). record { count = length l; sum = sum l }) words_whole;
    whole = reader_whole;
  }

-- a paced line without a number to take
pub as_paced : (p : PlanText) (mode : Mode) (most : Option ℕ) (words : List ℕ) (e : End) (r : Reading) → mode ≡ Paced → most ≡ None → HasStreamed (ring_of p (is_paced mode)) most words e r → HasStreamed (ring_of p true) None words e r
as_paced p mode most words e r paced none s =
    subst (λ (m : Mode). HasStreamed (ring_of p (is_paced m)) None words e r) paced (subst (λ (m : Option ℕ). HasStreamed (ring_of p (is_paced mode)) m words e r) none s)

module _ (board : BoardText) (signals : SignalsText) where
  abbrev pub HaveSummed : List RunLine → List Summed → Type 0
  HaveSummed lines sums = AllZip (λ line s. HasSummed (plan_of board signals line) s.part s.reader) lines sums

  pub sums_at : (lines : List RunLine) (sums : List Summed) (i : ℕ) → HaveSummed lines sums → part_at (map (λ s. s.part) sums) i ≡ line_part board signals (slice_get lines i)
  sums_at [] [] i all = refl
  sums_at [] (s ∷ sums) i all = absurd all
  sums_at (l ∷ lines) [] i all = absurd all
  sums_at (l ∷ lines) (s ∷ sums) zero all = all.0.is
  sums_at (l ∷ lines) (s ∷ sums) (suc i) all = sums_at lines sums i all.1

  pub sums_whole : (lines : List RunLine) (sums : List Summed) → HaveSummed lines sums → AreWhole board signals lines (map (λ s. s.reader) sums)
  sums_whole [] [] all = tt
  sums_whole [] (s ∷ sums) all = absurd all
  sums_whole (l ∷ lines) [] all = absurd all
  sums_whole (l ∷ lines) (s ∷ sums) all = (all.0.whole, sums_whole lines sums all.1)
