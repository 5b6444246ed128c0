use Rattle.std.proofs.Common.{arith}
use Rattle.cm_client.proofs.Sources.{some_left}
use Rattle.cm_client.proofs.words.WordSourceWords.step.Goals as goal

pub invariant_of-self-else-self : goal.invariant_of-self-else-self
invariant_of-self-else-self c =
    let is = c.self.invariant in
    let more = some_left c.self.inside c.args.self.now c.self.view_is is c.requires in
    record {
      few = is.few;
      given = omega (arith, more);
      before = is.before;
      within = λ _. is.within more;
      horizon = is.horizon;
      kept = is.kept;
      some = λ same. absurd (c.if-self.false same);
    }
