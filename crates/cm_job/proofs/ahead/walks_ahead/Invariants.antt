use Rattle.std.proofs.Common.{◌≡◌, drop}
use Rattle.cm_expand.specs.Items.{items_of}
use Rattle.cm_expand.specs.PlanView.{plan_text}
use Rattle.cm_job.specs.Later.{are_later}
use Rattle.cm_job.proofs.Later.{StandsAt}
use Rattle.cm_job.proofs.ahead.walks_ahead.Given as goal

-- both boards stand at the same place, and the conversions that are left decide
abbrev pub invariant-loop : goal.invariant-loop
invariant-loop l = record {
  input : StandsAt (plan_text l.input) l.inputs l.counter;
  output : StandsAt (plan_text l.output) l.outputs l.counter;
  rest : are_later (drop l.counter (items_of (plan_text l.input))) (drop l.counter (items_of (plan_text l.output))) ≡ are_later (items_of (plan_text l.input)) (items_of (plan_text l.output));
}
