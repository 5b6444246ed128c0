use Rattle.std.proofs.Common.{◌≡◌, ◌+◌, ◌-◌, ◌≤◌, length, take, drop, Some}
use Rattle.cm_expand.specs.Board.{IsBoard, progress_of}
use Rattle.cm_expand.specs.Items.{items_of}
use Rattle.cm_expand.specs.PlanView.{plan_text}
use Rattle.cm_expand.specs.Taking.{come_first, raw_words}
use Rattle.cm_expand.proofs.board.taken.Given as goal

-- the words so far, and a board that stands after them
abbrev pub invariant-loop-count : goal.invariant-loop-count
invariant-loop-count l = record {
  size : length l.out ≡ length l.initial.out;
  within : l.count ≤ length l.out;
  words : take l.count l.out ≡ raw_words (take l.count (drop l.fn.place (items_of (plan_text l.plan))));
  come : l.count + come_first l.time (drop l.count (drop l.fn.place (items_of (plan_text l.plan)))) ≡ come_first l.time (drop l.fn.place (items_of (plan_text l.plan)));
  board : IsBoard (plan_text l.plan) (l.fn.place + l.count) (progress_of (Some l.timing) l.point);
}

abbrev pub decreases-loop-count : goal.decreases-loop-count
decreases-loop-count l = length l.out - l.count
