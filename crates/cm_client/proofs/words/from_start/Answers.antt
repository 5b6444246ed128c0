use Rattle.std.proofs.Common.{refl}
use Rattle.cm_client.proofs.Sources.{filled}
use Rattle.cm_client.proofs.words.from_start.Goals as goal

pub invariant_of-result : goal.invariant_of-result
invariant_of-result c =
    let got = c.fill-count.ensures in
    filled (record { board = c.fill-count.new.board; horizon = c.args.horizon; piece = c.fill-count.new.piece; count = c.fill-count.result; given = 0 }) c.args.board got.board refl c.requires.horizon got.few got.kept got.within got.some
