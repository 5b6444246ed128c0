use Rattle.std.proofs.Common.{◌≡◌, ℕ, ◌+◌, ◌++◌, List, length, sym, ap, ap₂, ◌∙◌, arith}
use Rattle.cm_text.specs.Format.{sample_lines}
use Rattle.cm_text.specs.SampleText.{LinesText}
use Rattle.cm_text.proofs.Joined.{lines-joined}
use Rattle.cm_text.proofs.sample_text.SampleTextConsumer.consume.Goals as goal

pub returns-clause-made : goal.returns-clause-made
returns-clause-made c = λ had counted made.
    let t = c.args.self.now in
    let words = c.args.words.now in
    let new = c.in_ok-put.ensures.lines in
    let count : t.count ≡ 0 + length had = omega (arith, counted) in
    ap (λ (x : LinesText). x.text) new
    ∙ ap₂ (λ (text : List ℕ) (place : ℕ). text ++ sample_lines t.format place words) made count
    ∙ sym (lines-joined t.format 0 had words)
