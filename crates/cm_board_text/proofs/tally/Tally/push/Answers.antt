use Rattle.std.proofs.Common.{◌<◌, ◌≤◌, ◌+◌, List, slice_set, ap, arith, length, rules, subst, sym}
use Rattle.cm_board.specs.Items.{ItemText}
use Rattle.cm_board_text.specs.Counts.{AreCounts}
use Rattle.cm_board_text.proofs.Counting.{count_few, counts_more, counts_past}
use Rattle.cm_board_text.proofs.tally.Tally.push.Goals as goal

pub overflow_add-index_mut : goal.overflow_add-index_mut
overflow_add-index_mut c =
    let below : c.item.inside.row < length c.self.inside.counts.items = omega (arith, c.len.ensures, c.if-row-len.true) in
    let few = count_few c.self.inside.counts.items c.self.inside.items.items c.item.inside.row c.index_mut.result.now _ c.self.invariant below c.index_mut.ensures.value in
    search (rules, few)

pub invariant_of-self-then-row-len : goal.invariant_of-self-then-row-len
invariant_of-self-then-row-len c =
    let below : c.item.inside.row < length c.self.inside.counts.items = omega (arith, c.len.ensures, c.if-row-len.true) in
    subst (λ (items : List ItemText). AreCounts (slice_set c.self.inside.counts.items c.item.inside.row (c.index_mut.result.now + 1)) items) (sym c.in_ok-push.ensures.items)
    (counts_more c.self.inside.counts.items c.self.inside.items.items c.args.item c.item.inside.row c.index_mut.result.now _
    (ap (λ (i : ItemText). i.row) c.item.view_is) below c.index_mut.ensures.value c.self.invariant)

pub invariant_of-self-else-row-len : goal.invariant_of-self-else-row-len
invariant_of-self-else-row-len c =
    let row = ap (λ (i : ItemText). i.row) c.item.view_is in
    let past : length c.self.inside.counts.items ≤ c.args.item.row = omega (arith, row, c.len.ensures, c.if-row-len.false) in
    subst (λ (items : List ItemText). AreCounts c.self.inside.counts.items items) (sym c.in_ok-push.ensures.items)
    (counts_past c.self.inside.counts.items c.self.inside.items.items c.args.item past c.self.invariant)
