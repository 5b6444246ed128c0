use Rattle.std.proofs.Common.{rules}
use Rattle.std.proofs.lemmas.List.Sums.{fold_more}
use Rattle.cm_facts.proofs.bounds.widened.Goals as goal

pub loop-level-preserved : goal.loop-level-preserved
loop-level-preserved c = search (rules, fold_more)
