-- Lines that have run; their text as the definition says it; and that a run without free lines has one text.
use Rattle.std.proofs.Common.{◌≡◌, ℕ, List, [], ◌∷◌, ◌++◌, Option, refl, ap, subst, ◌∙◌}
use Rattle.std.specs.List.{AllZip, flat_map}
use Rattle.cm_board.specs.Board.{BoardText}
use Rattle.cm_signal.specs.Signals.{SignalsText}
use Rattle.cm_expand.specs.Plan.{PlanText}
use Rattle.cm_ring.specs.Roles.{Reading}
use Rattle.cm_expand.specs.Calls.{plan_at}
use Rattle.cm_job.specs.declared.line.Mode.{Mode}
use Rattle.cm_job.specs.declared.line.Mode.TheVariants.{Paced}
use Rattle.cm_job.specs.declared.line.RunLine.{RunLine}
use Rattle.cm_job.specs.declared.line.RunLine.TheVariants.{Go, Drive}
use Rattle.cm_block.specs.RunText.{IsBlock, IsGoBlock, IsRunText, line_block, run_text}
use Rattle.cm_run.specs.Law.{ArePaced, PacedLaw}
use Rattle.cm_text.specs.Blocks.{paced_block}
use Rattle.cm_run.specs.Ran.{HaveRun, LineRan, as_list}
use Rattle.cm_run.specs.declared.done.LineDone.{LineDone}
use Rattle.cm_run.proofs.Ends.{go_fits}

module _ (board : BoardText) (signals : SignalsText) where
  pub have_run : (lines : List RunLine) (done : List LineDone) (text : List ℕ) (readers : List Reading) → AllZip (λ line d. LineRan board signals line d.block.items (as_list d.reader)) lines done
      → text ≡ flat_map (λ d. d.block.items) done → readers ≡ flat_map (λ d. as_list d.reader) done → HaveRun board signals lines text readers
  have_run [] [] text readers ran t r = (t, r)
  have_run [] (d ∷ done) text readers ran t r = absurd ran
  have_run (line ∷ lines) [] text readers ran t r = absurd ran
  have_run (line ∷ lines) (d ∷ done) text readers ran t r = record {
    block = d.block.items;
    rest = flat_map (λ d. d.block.items) done;
    mine = as_list d.reader;
    theirs = flat_map (λ d. as_list d.reader) done;
    text_is = t;
    readers_are = r;
    fits = ran.0;
    go_on = have_run lines done _ _ ran.1 refl refl;
  }

  line_fits : (line : RunLine) (text : List ℕ) (readers : List Reading) → LineRan board signals line text readers → IsBlock board signals line text
  line_fits (Go mode access t0 most cmd) text [] ran = absurd ran
  line_fits (Go mode access t0 most cmd) text (r ∷ []) ran = go_fits (plan_at board signals t0 cmd) mode most text r ran
  line_fits (Go mode access t0 most cmd) text (r ∷ s ∷ more) ran = absurd ran
  line_fits (Drive t0 values cmd) text [] ran = ran
  line_fits (Drive t0 values cmd) text (r ∷ more) ran = absurd ran

  pub text_of_run : (lines : List RunLine) (text : List ℕ) (readers : List Reading) → HaveRun board signals lines text readers → IsRunText board signals lines text
  text_of_run [] text readers ran = ran.0
  text_of_run (line ∷ lines) text readers ran = record {
    block = ran.block;
    rest = ran.rest;
    is = ran.text_is;
    fits = line_fits line ran.block ran.mine ran.fits;
    go_on = text_of_run lines ran.rest ran.theirs ran.go_on;
  }

  paced_go : (mode : Mode) (p : PlanText) (most : Option ℕ) (text : List ℕ) → mode ≡ Paced → IsGoBlock mode p most text → text ≡ paced_block p most
  paced_go mode p most text is fits = subst (λ (m : Mode). IsGoBlock m p most text) is fits

  pub paced_text : (lines : List RunLine) (text : List ℕ) → ArePaced lines → IsRunText board signals lines text → text ≡ run_text board signals lines
  paced_text [] text paced is = is
  paced_text (Go mode access t0 most cmd ∷ lines) text paced is =
      is.is ∙ ap (λ (l : List ℕ). l ++ is.rest) (paced_go mode (plan_at board signals t0 cmd) most is.block paced.0 is.fits)
      ∙ ap (λ (l : List ℕ). paced_block (plan_at board signals t0 cmd) most ++ l) (paced_text lines is.rest paced.1 is.go_on)
  paced_text (Drive t0 values cmd ∷ lines) text paced is =
      is.is ∙ ap (λ (l : List ℕ). l ++ is.rest) is.fits
      ∙ ap (λ (l : List ℕ). line_block board signals (Drive t0 values cmd) ++ l) (paced_text lines is.rest paced is.go_on)

pub paced_law : PacedLaw
paced_law board signals lines text paced is = paced_text board signals lines text paced is
