-- The end line of a block whose reader found an end.
use Rattle.std.specs.Prelude.{ℕ, nat_lt, Option, Some, None, if◌then◌else◌}
use Rattle.cm_expand.specs.Plan.{PlanText}
use Rattle.cm_ring_core.specs.declared.view.EndKind.{EndKind}
use Rattle.cm_ring_core.specs.declared.view.EndKind.TheVariants as ends
use Rattle.cm_expand.specs.Totals.{length_of}
use Rattle.cm_text.specs.Blocks.{ending}
use Rattle.cm_text.specs.declared.tail.Tail.{Tail}
use Rattle.cm_text.specs.declared.tail.Tail.TheVariants as tails

-- the end line of a block whose reader found an end, where the client takes all
abbrev pub tail_whole : PlanText → EndKind → ℕ → Tail
tail_whole p ends.Overrun count = tails.Overrun count
tail_whole p kind count = ending p

-- and where it takes fewer than there are
abbrev pub tail_cut : ℕ → EndKind → ℕ → Tail
tail_cut most ends.Overrun count = if nat_lt count most then tails.Overrun count else tails.Taken most
tail_cut most kind count = tails.Taken most

-- the end line of a block whose reader found an end
abbrev pub tail_after : PlanText → Option ℕ → EndKind → ℕ → Tail
tail_after p None kind count = tail_whole p kind count
tail_after p (Some most) kind count =
    if nat_lt most (length_of p) then tail_cut most kind count else tail_whole p kind count
