use Rattle.std.proofs.Common.{Err, Ok, sym}
use Rattle.std.proofs.lemmas.Bool.{cond-false, ne_eqb}
use Rattle.std.specs.Prelude.{◌==◌}
use Rattle.cm_base.specs.declared.faults.Fault.TheVariants.{Bad}
use Rattle.cm_test.specs.Questions.{tested}
use Rattle.cm_test.proofs.accepting.passed.Goals as goal

pub returns-clause-value : goal.returns-clause-value
returns-clause-value c =
    let step = (tested c.args.sub.now c.args.cmd).0 in
    sym (cond-false (step == 0) (Ok c.args.cmd) (Err Bad) (ne_eqb step 0 c.in-Err.ensures.0))
