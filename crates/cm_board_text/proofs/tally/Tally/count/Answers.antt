use Rattle.std.proofs.Common.{◌<◌, arith, length}
use Rattle.cm_board_text.proofs.Counting.{counted}
use Rattle.cm_board_text.proofs.tally.Tally.count.Goals as goal

pub returns-then-at-len : goal.returns-then-at-len
returns-then-at-len c =
    let below : c.args.at < length c.self.inside.counts.items = omega (arith, c.len.ensures, c.if-at-len.true) in
    counted c.self.inside.counts.items c.self.inside.items.items c.args.self.now c.args.at c.index.result.now _ c.self.view_is below c.index.ensures c.self.invariant
