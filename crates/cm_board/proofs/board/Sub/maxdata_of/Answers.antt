use Rattle.std.proofs.Common.{◌≡◌, ℕ, ◌-◌, ◌^◌, ◌<◌, arith, rules, subst, sym}
use Rattle.cm_board.specs.Board.{IsFrom1To, IsSoundSub, SubText, maxdata_of}
use Rattle.cm_board.proofs.ChannelNumbers.{channel}
use Rattle.cm_board.proofs.board.Sub.maxdata_of.Goals as goal

-- the greatest code of a channel of a sound subdevice
largest : (s : SubText) (chan code : ℕ) → code ≡ maxdata_of s chan → IsSoundSub s → chan < s.channels → IsFrom1To (2 ^ 24 - 1) code
largest s chan code same sound below = subst (IsFrom1To (2 ^ 24 - 1)) (sym same) (channel s chan sound below).largest

pub returns-clause-low : goal.returns-clause-low
unfolding maxdata_of
returns-clause-low c = let code = largest c.args.self.now c.args.chan c.maxdata_by.result (search rules) (search rules) c.requires in omega (arith, code.low)

pub returns-clause-high : goal.returns-clause-high
unfolding maxdata_of
returns-clause-high c = let code = largest c.args.self.now c.args.chan c.maxdata_by.result (search rules) (search rules) c.requires in omega (arith, code.high)
