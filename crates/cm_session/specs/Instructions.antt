-- The lines of instructions, `T insn F SUB KIND ..`, by their kinds.
use Rattle.std.specs.Prelude.{ℕ, List, [], ◌∷◌, codes, Ok}
use Rattle.cm_base.specs.Reading.{◌>>=◌}
use Rattle.cm_base.specs.Words.{Form, keyword, no_words, number_in, one_and_more, one_word, three_and_more, two_words}
use Rattle.cm_base.specs.Words.{values}
use Rattle.cm_cmd.specs.ListText.{entry_of}
use Rattle.cm_session.specs.Forms.{LineForm, data_word, line_by, place_of}
use Rattle.cm_signal.specs.declared.bounds.Bounds.{Bounds}
use Rattle.cm_session.specs.declared.op.Op.TheVariants as ops
use Rattle.cm_session.specs.declared.op.SessionLine.{SessionLine}

-- a kind of instruction, by its bounds, the words of its time, its file and its subdevice, and those after its kind
abbrev pub InsnForm : Type 0
InsnForm = Bounds → List ℕ → List ℕ → List ℕ → Form SessionLine

-- `read ENTRY N`
abbrev pub read_words : InsnForm
read_words bounds time file sub words =
    two_words words >>= λ w.
    place_of bounds time file sub >>= λ at.
    entry_of w.0 >>= λ entry.
    number_in 1 64 w.1 >>= λ n.
    Ok (line_by at.0 (ops.InsnRead at.1 entry n))

-- `write ENTRY V..`, with up to 64 values
abbrev pub write_words : InsnForm
write_words bounds time file sub words =
    one_and_more words >>= λ w.
    place_of bounds time file sub >>= λ at.
    entry_of w.0 >>= λ entry.
    values 64 data_word [] w.1 >>= λ vs.
    Ok (line_by at.0 (ops.InsnWrite at.1 entry vs))

-- `bits MASK BITS`
abbrev pub bits_words : InsnForm
bits_words bounds time file sub words =
    two_words words >>= λ w. place_of bounds time file sub >>= λ at. data_word w.0 >>= λ mask. data_word w.1 >>= λ bits.
    Ok (line_by at.0 (ops.InsnBits at.1 mask bits))

-- `config ENTRY D`
abbrev pub config_words : InsnForm
config_words bounds time file sub words =
    two_words words >>= λ w.
    place_of bounds time file sub >>= λ at.
    entry_of w.0 >>= λ entry.
    data_word w.1 >>= λ value.
    Ok (line_by at.0 (ops.InsnConfig at.1 entry value))

-- `gtod`
abbrev pub gtod_words : InsnForm
gtod_words bounds time file sub words =
    no_words words >>= λ none. place_of bounds time file sub >>= λ at. Ok (line_by at.0 (ops.InsnGtod at.1))

-- `inttrig D`
abbrev pub trigger_words : InsnForm
trigger_words bounds time file sub words =
    one_word words >>= λ w.
    place_of bounds time file sub >>= λ at.
    data_word w >>= λ num.
    Ok (line_by at.0 (ops.InsnIntTrig at.1 num))

-- the kinds of instruction by their names
abbrev pub insn_forms : List (List ℕ × InsnForm)
insn_forms =
    (codes "read", read_words)
    ∷ (codes "write", write_words)
    ∷ (codes "bits", bits_words)
    ∷ (codes "config", config_words)
    ∷ (codes "gtod", gtod_words)
    ∷ (codes "inttrig", trigger_words)
    ∷ []

-- `T insn F SUB KIND ..`
abbrev pub on_instruction : LineForm
on_instruction bounds time words =
    three_and_more words >>= λ w. keyword insn_forms w.2 >>= λ form. form bounds time w.0 w.1 w.3
