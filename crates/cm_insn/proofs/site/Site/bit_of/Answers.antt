use Rattle.std.proofs.Common.{rules}
use Rattle.cm_board.specs.Board.{IsSoundSub, SubText}
use Rattle.cm_board.proofs.ChannelNumbers.{channel}
use Rattle.cm_insn.proofs.site.Site.bit_of.Goals as goal

pub value-requires-clause-range : goal.value-requires-clause-range
value-requires-clause-range c =
    let s : SubText = c.args.self.now.sub.now in
    let sound : IsSoundSub s = search rules in
    (channel s c.args.chan sound c.requires.chan).some
