-- Munging gives the codes of each channel back.
use Rattle.std.proofs.Common.{◌≡◌, ℕ, ◌<◌, ◌≤◌}
use Rattle.cm_board.specs.Board.{SubText, IsSoundSub, maxdata_of, munge_of}
use Rattle.cm_board.specs.Munge.{munged, unmunged}
use Rattle.cm_board.proofs.ChannelNumbers.{channel}
use Rattle.cm_board.proofs.Munging.{code_back, munged-unmunged}

pub channel_code_back : (sub : SubText) (chan code : ℕ) → IsSoundSub sub → chan < sub.channels → code ≤ maxdata_of sub chan →
    munged (munge_of sub chan) (maxdata_of sub chan) (unmunged (munge_of sub chan) (maxdata_of sub chan) code) ≡ code
channel_code_back sub chan code sound there within =
    let is = channel sub chan sound there in
    munged-unmunged (munge_of sub chan) (maxdata_of sub chan) code (code_back (munge_of sub chan) (maxdata_of sub chan) code is.munge_fits is.bits_fit is.largest.high within)
