use Rattle.std.proofs.Common.{◌∷◌, ℕ, List, length, ap, ap₂, sym, ◌∙◌, arith}
use Rattle.cm_base.specs.Lines.{raw_lines}
use Rattle.cm_base.proofs.RawLines.{raw_lines-cons, shorter_rest}
use Rattle.cm_base.proofs.splitting.first_line.Goals as goal

pub returns-clause-lines : goal.returns-clause-lines
returns-clause-lines c =
    raw_lines-cons c.args.text.now c.requires ∙ sym (ap₂ (λ (x y : List ℕ). x ∷ raw_lines y) c.cut_line.ensures.line c.cut_line.ensures.rest)

pub returns-clause-shorter : goal.returns-clause-shorter
returns-clause-shorter c =
    let same = ap length c.cut_line.ensures.rest in
    omega (arith, shorter_rest c.args.text.now c.requires, same)
