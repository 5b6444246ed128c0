use Rattle.std.proofs.Common.{length, ap, arith}
use Rattle.cm_base.specs.Lines.{raw_lines}
use Rattle.cm_base.specs.LinesView.{LinesText}
use Rattle.cm_base.proofs.RawLines.{few_count}
use Rattle.cm_base.proofs.cursor.Lines.end.Goals as goal

pub returns-clause-few : goal.returns-clause-few
returns-clause-few c =
    omega (arith, few_count c.self.inside.number (raw_lines c.self.inside.text.now), c.self.invariant.first, c.self.invariant.ends, ap (λ (l : LinesText). length l.list) c.self.view_is)
