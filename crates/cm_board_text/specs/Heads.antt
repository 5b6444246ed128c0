-- The first line of a block.
use Rattle.std.specs.Prelude.{ℕ, List, [], ◌∷◌, codes, Result, Ok}
use Rattle.cm_base.specs.Reading.{◌>>=◌}
use Rattle.cm_base.specs.Words.{Form, keyword, number_in, two_words}
use Rattle.cm_base.specs.declared.faults.Fault.{Fault}
use Rattle.cm_board.specs.Board.{most_in}
use Rattle.cm_board.specs.declared.board.Kind.{Kind}
use Rattle.cm_board.specs.declared.board.Kind.TheVariants as kinds
use Rattle.cm_board.specs.declared.table.Head.{Head}

-- what a subdevice is
abbrev pub kind_word : List ℕ → Result Kind Fault
kind_word = keyword
    ((codes "unused", kinds.Unused) ∷ (codes "ai", kinds.Ai) ∷ (codes "ao", kinds.Ao)
    ∷ (codes "di", kinds.Di) ∷ (codes "do", kinds.Do) ∷ (codes "dio", kinds.Dio) ∷ [])

-- the channels of a subdevice on a board of this version, none where it is unused
abbrev pub channels_word : ℕ → Kind → List ℕ → Result ℕ Fault
channels_word version kinds.Unused = number_in 0 0
channels_word version kind = number_in 1 (most_in version 64 256)

-- what the words after `subdevice` say on a board of this version
abbrev pub head_words : ℕ → Form Head
head_words version words =
    two_words words >>= λ w.
    kind_word w.0 >>= λ k.
    channels_word version k w.1 >>= λ n.
    Ok (record { version = version; kind = k; channels = n })
