-- What each instruction does to a subdevice and to its data words.
use Rattle.std.specs.Prelude.{ℕ, ◌-◌, ◌/◌, ◌%◌, Bool, not, ◌&&◌, ◌==◌, nat_le, List, [], ◌∷◌, length, get_or, set}
use Rattle.std.specs.Prelude.{slice_index, replicate, Option, Some, None, Result, Ok, Err, if◌then◌else◌}
use Rattle.std.specs.List.{list_all}
use Rattle.cm_board.specs.Board.{SubText, is_digital, is_dio, is_unused, maxdata_of}
use Rattle.cm_cmd.specs.Entry.{chan, range}
use Rattle.cm_signal.specs.Signals.{SignalsText}
use Rattle.cm_sub.specs.State.{StateText}
use Rattle.cm_sub.specs.declared.errno.Errno.{Errno}
use Rattle.cm_sub.specs.declared.errno.Errno.TheVariants.{Inval}
use Rattle.cm_insn.specs.Bits.{bits_of, with_bits}
use Rattle.cm_insn.specs.Site.{SiteText, has_entry, is_out, value_at}
use Rattle.cm_insn.specs.declared.insn.InsnCode.{InsnCode}
use Rattle.cm_insn.specs.declared.insn.InsnCode.TheVariants as codes
use Rattle.cm_insn.specs.declared.insn.Instr.{Instr}

-- what an instruction leaves: the state of its subdevice, and the data words
pub record Done : Type 0 where
  pub state : StateText
  pub words : List ℕ

-- an instruction is done where a test holds
abbrev pub done_if : Bool → StateText → List ℕ → Option Done
done_if test state words = if test then Some (record { state = state; words = words }) else None

-- a channel can be read in a range that it has, once at least
abbrev pub can_read : SubText → ℕ → List ℕ → Bool
can_read sub entry given = not (is_unused sub.kind) && (has_entry sub entry && nat_le 1 (length given))

-- each word that is read is the channel's value
abbrev pub read : SiteText → StateText → ℕ → List ℕ → Option Done
read s state entry given =
    done_if (can_read s.sub entry given) state (replicate (length given) (value_at s state (chan entry) (range entry)))

-- no word is above a greatest code
abbrev pub are_codes : ℕ → List ℕ → Bool
are_codes maxdata words = list_all (λ word. nat_le word maxdata) words

-- an output can be written, with one of its codes at least
abbrev pub can_write : SubText → List Bool → ℕ → List ℕ → Bool
can_write sub outs entry given =
    has_entry sub entry
    && (is_out sub outs (chan entry)
    && (nat_le 1 (length given)
    && are_codes (maxdata_of sub (chan entry)) given))

-- the last of some words
abbrev pub last_of : List ℕ → ℕ
last_of words = get_or words (length words - 1) 0

-- the channel keeps the last word that is written
abbrev pub write : SubText → StateText → ℕ → List ℕ → Option Done
write sub state entry given =
    done_if (can_write sub state.outs entry given)
    (record state { values = set state.values (chan entry) (last_of given) }) given

-- bits are put to a digital subdevice by two words
abbrev pub can_put : SubText → List ℕ → Bool
can_put sub given = is_digital sub.kind && length given == 2

-- the state after the outputs in the mask, word 0, took the bits of word 1
abbrev pub put : SubText → StateText → List ℕ → StateText
put sub state given = with_bits sub state (slice_index given 0) (slice_index given 1)

-- bits are put, and then word 1 is that of the subdevice
abbrev pub bits : SiteText → StateText → List ℕ → Option Done
bits s state given =
    done_if (can_put s.sub given) (put s.sub state given) (set given 1 (bits_of s (put s.sub state given)))

-- a channel can become an input by the word 0, and an output by the word 1
abbrev pub can_config : SubText → ℕ → ℕ → Bool
can_config sub entry word = is_dio sub.kind && (has_entry sub entry && nat_le word 1)

-- the channel becomes an input or an output
abbrev pub config : SubText → StateText → ℕ → List ℕ → Option Done
config sub state entry (word ∷ []) =
    done_if (can_config sub entry word) (record state { outs = set state.outs (chan entry) (word == 1) }) (word ∷ [])
config sub state entry given = None

-- the time of day: its seconds, and the microseconds since the last of them
abbrev pub time_words : ℕ → List ℕ
time_words time = time / 1000000000 ∷ time / 1000 % 1000000 ∷ []

-- both words are the time of day
abbrev pub gtod : ℕ → StateText → List ℕ → Option Done
gtod time state given = done_if (length given == 2) state (time_words time)

-- an instruction for an entry, or nothing where it is refused
abbrev pub insn : SiteText → StateText → InsnCode → ℕ → List ℕ → Option Done
insn s state codes.Read entry given = read s state entry given
insn s state codes.Write entry given = write s.sub state entry given
insn s state codes.Bits entry given = bits s state given
insn s state codes.Config entry given = config s.sub state entry given
insn s state codes.Gtod entry given = gtod s.time state given

-- an instruction on the subdevice at a place of its board, with its signals, at a time
abbrev pub insn_at : SubText → ℕ → SignalsText → ℕ → StateText → Instr → List ℕ → Option Done
insn_at sub index signals time state what given =
    insn (record { sub = sub; index = index; signals = signals; time = time }) state what.code what.entry given

-- the number of data words, or that the instruction isn't valid
abbrev pub answer_of : Option Done → Result ℕ Errno
answer_of None = Err Inval
answer_of (Some done) = Ok (length done.words)

-- the state after an instruction, unchanged where it is refused
abbrev pub state_after : Option Done → StateText → StateText
state_after None state = state
state_after (Some done) state = done.state

-- the data words after an instruction, unchanged where it is refused
abbrev pub words_after : Option Done → List ℕ → List ℕ
words_after None given = given
words_after (Some done) given = done.words
