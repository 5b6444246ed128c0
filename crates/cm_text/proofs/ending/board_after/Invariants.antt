use Rattle.std.proofs.Common.{◌≡◌, min}
use Rattle.cm_expand.specs.PlanView.{plan_text}
use Rattle.cm_text.proofs.ending.board_after.Given as goal
use Rattle.cm_expand.specs.Totals.{length_of}

-- the board has passed as many conversions as were counted, or all
abbrev pub invariant-loop : goal.invariant-loop
invariant-loop l = record {
  plan : l.board.plan ≡ plan_text l.plan;
  place : l.board.place ≡ min l.counter (length_of (plan_text l.plan));
}
