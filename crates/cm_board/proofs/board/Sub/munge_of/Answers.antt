use Rattle.std.proofs.Common.{◌≡◌, IsTrue, rules, subst, sym}
use Rattle.cm_board.specs.Board.{IsSoundSub, SubText, is_munge, munge_of}
use Rattle.cm_board.specs.declared.munge.Munge.{Munge}
use Rattle.cm_board.proofs.ChannelNumbers.{channel}
use Rattle.cm_board.proofs.board.Sub.munge_of.Goals as goal

pub returns-clause-shift : goal.returns-clause-shift
unfolding munge_of
returns-clause-shift c =
    let s : SubText = c.args.self.now in
    let same : c.munge_by.result ≡ munge_of s c.args.chan = search rules in
    let sound : IsSoundSub s = search rules in
    subst (λ (m : Munge). IsTrue (is_munge m)) (sym same) (channel s c.args.chan sound c.requires).munge_fits
