use Rattle.std.proofs.Common.{ℕ, ◌+◌, List, length, ap, ap₂, ◌∙◌}
use Rattle.cm_text.specs.Format.{Format}
use Rattle.cm_text.specs.SampleText.{LinesText, lines_text, with_lines}
use Rattle.cm_text.proofs.sample_text.SampleText.put.Goals as goal

pub returns-clause-lines : goal.returns-clause-lines
returns-clause-lines c =
    let l = lines_text c.self.inside in
    let words = c.args.words.now in
    ap₂ (λ (f : Format) (made : List ℕ). record { format = f; text = made; count = l.count + length words }) c.in_ok-put.ensures.format c.in_ok-put.ensures.lines
    ∙ ap (λ (t : LinesText). with_lines t words) c.self.view_is
