use Rattle.std.proofs.Common.{◌≡◌, sym, subst}
use Rattle.cm_board.specs.Board.{IsSaidSub, SubText}
use Rattle.cm_run.specs.SoakJob.{soak_sub}
use Rattle.cm_run.proofs.SoakAccepted.{sub_said}
use Rattle.cm_run.proofs.soak.job.soak_sub.Goals as goal

pub invariant_of-result : goal.invariant_of-result
invariant_of-result c =
    let same : ◌≡◌ {A = SubText} (record soak_sub {
      ranges = c.in_ok-ranges.field-0.items;
      timers = record { tick = 1; clock = c.new.result.items };
      forbidden = c.new-2.result.items;
      chans = c.new-3.result.items;
      block = c.in_ok-soak_block.field-0.items;
    }) soak_sub =
    λ i. record soak_sub {
      ranges = c.in_ok-ranges.ensures i;
      timers = record { tick = 1; clock = c.new.ensures.items i };
      forbidden = c.new-2.ensures.items i;
      chans = c.new-3.ensures.items i;
      block = c.in_ok-soak_block.ensures i;
    } in
    subst IsSaidSub (sym same) sub_said
