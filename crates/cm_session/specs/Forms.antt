-- The forms of a session's lines: what each word of a line has to be, and what they ask together.
use Rattle.std.specs.Prelude.{ℕ, ◌==◌, List, [], length, drop, slice_index_or, Result, Ok, Err, if◌then◌else◌}
use Rattle.cm_base.specs.Reading.{◌>>=◌}
use Rattle.cm_base.specs.Words.{Form, number_in, one_word, two_and_more, two_words, three_words, values}
use Rattle.cm_base.specs.declared.faults.Fault.{Fault}
use Rattle.cm_base.specs.declared.faults.Fault.TheVariants.{BadLine}
use Rattle.cm_board.specs.Versions.{most_entries}
use Rattle.cm_cmd.specs.Command.{CmdText}
use Rattle.cm_cmd.specs.CommandText.{command_of}
use Rattle.cm_signal.specs.declared.bounds.Bounds.{Bounds}
use Rattle.cm_session.specs.declared.forms.LineHead.{LineHead}
use Rattle.cm_session.specs.declared.op.Op.{Op}
use Rattle.cm_session.specs.declared.op.SessionLine.{SessionLine}

-- a form of line, by its bounds, the word of its time, and the words after its key
abbrev pub LineForm : Type 0
LineForm = Bounds → List ℕ → Form SessionLine

-- the time of a line and its file, which is one of 16
abbrev pub head_of : Bounds → List ℕ → List ℕ → Result LineHead Fault
head_of bounds time file =
    number_in 0 bounds.horizon time >>= λ t. number_in 0 15 file >>= λ f. Ok (record { time = t; file = f })

-- a line with this time and file
abbrev pub line_by : LineHead → Op → SessionLine
line_by head op = record { time = head.time; file = head.file; op = op }

-- the number of a subdevice
abbrev pub sub_word : List ℕ → Result ℕ Fault
sub_word = number_in 0 255

-- a number of 32 bits
abbrev pub data_word : List ℕ → Result ℕ Fault
data_word = number_in 0 4294967295

-- the file of `T KEY F`
abbrev pub file_words : Bounds → List ℕ → Form LineHead
file_words bounds time words = one_word words >>= λ file. head_of bounds time file

-- the time, the file and the subdevice where these words stand for them
abbrev pub place_of : Bounds → List ℕ → List ℕ → List ℕ → Result (LineHead × ℕ) Fault
place_of bounds time file sub = head_of bounds time file >>= λ head. sub_word sub >>= λ s. Ok (head, s)

-- those of `T KEY F SUB`
abbrev pub sub_words : Bounds → List ℕ → Form (LineHead × ℕ)
sub_words bounds time words = two_words words >>= λ w. place_of bounds time w.0 w.1

-- those of `T KEY F SUB N`, with a number up to a limit
abbrev pub number_words : ℕ → Bounds → List ℕ → Form (LineHead × ℕ × ℕ)
number_words most bounds time words =
    three_words words >>= λ w.
    place_of bounds time w.0 w.1 >>= λ at.
    number_in 0 most w.2 >>= λ n.
    Ok (at.0, at.1, n)

-- those of `T KEY F SUB V..`, with up to 1,024 values
abbrev pub values_words : Bounds → List ℕ → Form (LineHead × ℕ × List ℕ)
values_words bounds time words =
    two_and_more words >>= λ w.
    place_of bounds time w.0 w.1 >>= λ at.
    values 1024 data_word [] w.2 >>= λ vs.
    Ok (at.0, at.1, vs)

-- the file, where the eight words of a command stand after it
abbrev pub file_word : List (List ℕ) → Result (List ℕ) Fault
file_word words = if length words == 9 then Ok (slice_index_or words 0 []) else Err BadLine

-- the file and the command of `T cmd F COMMAND`
abbrev pub command_words : Bounds → List ℕ → Form (LineHead × CmdText)
command_words bounds time words =
    file_word words >>= λ file.
    head_of bounds time file >>= λ head.
    command_of (most_entries bounds.version) (drop 1 words) >>= λ cmd.
    Ok (head, cmd)

-- the forms, each with what it asks
abbrev pub on_file : Op → LineForm
on_file op bounds time words = file_words bounds time words >>= λ head. Ok (line_by head op)

-- a line that names a subdevice
abbrev pub on_sub : (ℕ → Op) → LineForm
on_sub make bounds time words = sub_words bounds time words >>= λ w. Ok (line_by w.0 (make w.1))

-- a line with a number after its subdevice
abbrev pub with_number : ℕ → (ℕ → ℕ → Op) → LineForm
with_number most make bounds time words = number_words most bounds time words >>= λ w. Ok (line_by w.0 (make w.1 w.2))

-- a line with values after its subdevice
abbrev pub with_values : (ℕ → List ℕ → Op) → LineForm
with_values make bounds time words = values_words bounds time words >>= λ w. Ok (line_by w.0 (make w.1 w.2))

-- a line with a command after its file
abbrev pub with_command : (CmdText → Op) → LineForm
with_command make bounds time words = command_words bounds time words >>= λ w. Ok (line_by w.0 (make w.1))
