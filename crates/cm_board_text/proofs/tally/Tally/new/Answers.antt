use Rattle.std.proofs.Common.{List, ℕ, [], subst, sym}
use Rattle.cm_board.specs.Items.{ItemText}
use Rattle.cm_board_text.specs.Counts.{AreCounts}
use Rattle.cm_board_text.proofs.Counting.{counts_none}
use Rattle.cm_board_text.proofs.tally.Tally.new.Goals as goal

pub invariant_of-result : goal.invariant_of-result
invariant_of-result c =
    subst (λ (items : List ItemText). AreCounts c.in_ok-counts.counts.items items) (sym c.new.ensures.items)
    (subst (λ (counts : List ℕ). AreCounts counts []) (sym (c.in_ok-counts.ensures.items_if_clones_equal (λ y e. e))) (counts_none c.args.rows))
