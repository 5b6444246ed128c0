-- What a stream through a line's ring says of the line.
use Rattle.std.proofs.Common.{◌≡◌, ℕ, ◌≤◌, ◌++◌, List, length, take, sym, ap, ◌∙◌, subst, arith, Option}
use Rattle.cm_base.specs.UpTo.{up_to}
use Rattle.cm_expand.specs.Items.{samples_of}
use Rattle.cm_expand.specs.Plan.{PlanText}
use Rattle.cm_ring.specs.Roles.{Reading}
use Rattle.cm_ring_core.specs.Lawful.{IsFoundEnd}
use Rattle.cm_ring_core.specs.declared.view.End.{End}
use Rattle.cm_ring_core.specs.declared.view.EndKind.{EndKind}
use Rattle.cm_ring_core.specs.declared.view.EndKind.TheVariants.{Done, Overrun, Cancelled}
use Rattle.cm_ring_core.specs.declared.view.ReaderPart.{ReaderPart}
use Rattle.cm_ring_core.specs.declared.view.RingConstants.{RingConstants}
use Rattle.cm_client.specs.Streamed.{HasStreamed}
use Rattle.cm_job.specs.Modes.{is_paced}
use Rattle.cm_job.specs.declared.line.Mode.{Mode}
use Rattle.cm_text.specs.Format.{format_of, sample_lines}
use Rattle.cm_text.specs.Tails.{tail_text}
use Rattle.cm_text.specs.Blocks.{block, munged_samples}
use Rattle.cm_text.specs.Limits.{FitsCount}
use Rattle.cm_run.specs.Ran.{GoRan}
use Rattle.cm_client.specs.LineRing.{ring_of}
use Rattle.cm_text.specs.Ends.{tail_after}
use Rattle.cm_text.proofs.Counts.{length-samples, munged_by_rule}

module _ (p : PlanText) (mode : Mode) (most : Option ℕ) (words : List ℕ) (e : End) (r : Reading) (s : HasStreamed (ring_of p (is_paced mode)) most words e r) where
  pub words_are : 1 ≤ length p.cmd.list → words ≡ take (up_to e.count most) (munged_samples p)
  words_are some = s.are ∙ ap (λ (l : List ℕ). take (up_to e.count most) l) (munged_by_rule p (samples_of p) some)

  kind_fits : (q : ReaderPart) (kind : EndKind) (count : ℕ) → IsFoundEnd (ring_of p (is_paced mode)) q kind count → FitsCount p kind count
  kind_fits q Done count says = says ∙ length-samples p
  kind_fits q Overrun count says = let all = length-samples p in let fewer = says.1 in omega arith
  kind_fits q Cancelled count says = tt

  pub count_fits : FitsCount p e.kind e.count
  count_fits = kind_fits r.part e.kind e.count (subst (λ (x : RingConstants). IsFoundEnd x r.part e.kind e.count) s.of s.says)

  pub go_ran : 1 ≤ length p.cmd.list → (text : List ℕ) → text ≡ sample_lines (format_of p) 0 words ++ tail_text (tail_after p most e.kind e.count) → GoRan p mode most text r
  go_ran some text is = record {
    words = words;
    end = e;
    streamed = s;
    is = is ∙ ap (λ (l : List ℕ). sample_lines (format_of p) 0 l ++ tail_text (tail_after p most e.kind e.count)) (words_are some)
        ∙ ap (λ (n : ℕ). block p n (tail_after p most e.kind e.count)) (sym s.released);
  }
