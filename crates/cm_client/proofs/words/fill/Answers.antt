use Rattle.std.proofs.Common.{◌≡◌, ◌-◌, min, length, arith}
use Rattle.cm_expand.specs.Items.{items_of}
use Rattle.cm_client.proofs.Sources.{taken_left}
use Rattle.cm_client.proofs.words.fill.Goals as goal

pub returns-clause-within : goal.returns-clause-within
returns-clause-within c = λ some.
    let b = c.args.board.now in
    let count : c.take_by.result ≡ min (length c.args.piece.now) (length (items_of b.plan) - b.place) = taken_left b.plan b.place c.args.horizon _ c.take_by.result c.place.ensures.expansion c.requires c.take_by.ensures.count in
    omega (arith, count, some)

pub returns-clause-some : goal.returns-clause-some
returns-clause-some c = λ none.
    let b = c.args.board.now in
    let count : c.take_by.result ≡ min (length c.args.piece.now) (length (items_of b.plan) - b.place) = taken_left b.plan b.place c.args.horizon _ c.take_by.result c.place.ensures.expansion c.requires c.take_by.ensures.count in
    omega (arith, count, none, c.told-piece)
