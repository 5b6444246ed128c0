use Rattle.std.proofs.Common.{◌≡◌, ◌≤◌, List, length, rules, subst, sym}
use Rattle.std.specs.List.{All}
use Rattle.cm_board.specs.Board.{IsRange, IsSoundSub, SubText, ranges_of}
use Rattle.cm_board.specs.declared.board.Range.{Range}
use Rattle.cm_board.proofs.ChannelNumbers.{channel}
use Rattle.cm_board.proofs.board.Sub.ranges_of.Goals as goal

pub returns-clause-few : goal.returns-clause-few
unfolding ranges_of
returns-clause-few c =
    let s : SubText = c.args.self.now in
    let same : c.ranges_by.result.now ≡ ranges_of s c.args.chan = search rules in
    let sound : IsSoundSub s = search rules in
    subst (λ (rs : List Range). length rs ≤ 32) (sym same) (channel s c.args.chan sound c.requires).few

pub returns-clause-proper : goal.returns-clause-proper
unfolding ranges_of
returns-clause-proper c =
    let s : SubText = c.args.self.now in
    let same : c.ranges_by.result.now ≡ ranges_of s c.args.chan = search rules in
    let sound : IsSoundSub s = search rules in
    subst (All IsRange) (sym same) (channel s c.args.chan sound c.requires).proper
