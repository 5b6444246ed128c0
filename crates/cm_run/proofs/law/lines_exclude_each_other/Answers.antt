use Rattle.std.proofs.Common.{ℕ, sym, subst}
use Rattle.cm_job.specs.Calls.{cmd_of}
use Rattle.cm_sub.proofs.Stepping.{one_holder_always}
use Rattle.cm_sub.specs.Laws.{HoldsPlace}
use Rattle.cm_run.proofs.law.lines_exclude_each_other.Goals as goal

pub returns : goal.returns
returns c states steps s has one other mine theirs apart here there same =
    apart (one_holder_always states steps s has (cmd_of one).sub mine theirs here (subst (λ (sub : ℕ). HoldsPlace s sub theirs) (sym same) there))
