use Rattle.std.proofs.Common.{◌≡◌, length, take, map}
use Rattle.cm_signal.specs.Adding.{progression}
use Rattle.cm_expand.specs.Items.{raw_at}
use Rattle.cm_expand.specs.PlanView.{plan_text}
use Rattle.cm_expand.proofs.plan.Plan.raws.Given as goal

-- the words so far
abbrev pub invariant-loop-i : goal.invariant-loop-i
invariant-loop-i l = record {
  so_far : take l.i l.words ≡ map (raw_at (plan_text l.self) l.list_index) (progression l.first l.step l.i);
  size : length l.words ≡ length l.initial.words;
}
