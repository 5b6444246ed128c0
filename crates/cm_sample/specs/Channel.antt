-- What holds of the codes of each channel.
use Rattle.std.specs.Prelude.{◌≡◌, ℕ, ◌<◌, ◌≤◌}
use Rattle.cm_board.specs.Board.{SubText, IsSoundSub, maxdata_of, munge_of}
use Rattle.cm_board.specs.Munge.{munged, unmunged}

-- munging gives back each code of each channel that was unmunged
abbrev pub GivesCodesBack : Type 0
GivesCodesBack =
    (sub : SubText) (chan code : ℕ)
    → IsSoundSub sub → chan < sub.channels → code ≤ maxdata_of sub chan
    → munged (munge_of sub chan) (maxdata_of sub chan) (unmunged (munge_of sub chan) (maxdata_of sub chan) code) ≡ code
