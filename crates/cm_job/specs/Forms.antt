-- The forms of a run's lines: what each word of a line has to be, and what they ask together.
use Rattle.std.specs.Prelude.{ℕ, List, [], ◌∷◌, drop, codes, Option, Some, None, Result, Ok, Err, if◌then◌else◌}
use Rattle.std.specs.List.{slice_split}
use Rattle.std.specs.Str.{bytes_eq}
use Rattle.cm_base.specs.Lines.{LineText}
use Rattle.cm_base.specs.Reading.{◌>>=◌}
use Rattle.cm_base.specs.Words.{Form, each_word, keyword, number_in}
use Rattle.cm_base.specs.declared.faults.Fault.{Fault}
use Rattle.cm_base.specs.declared.faults.Fault.TheVariants.{BadLine}
use Rattle.cm_board.specs.Versions.{most_entries}
use Rattle.cm_cmd.specs.Command.{CmdText}
use Rattle.cm_cmd.specs.CommandText.{command_of}
use Rattle.cm_base.specs.Stops.{is_byte}
use Rattle.cm_signal.specs.declared.bounds.Bounds.{Bounds}
use Rattle.cm_job.specs.Head.{before_commands, word_at}
use Rattle.cm_job.specs.declared.asked.AskedLine.{AskedLine}
use Rattle.cm_job.specs.declared.asked.AskedLine.TheVariants as asks
use Rattle.cm_job.specs.declared.asked.Key.{Key}
use Rattle.cm_job.specs.declared.asked.Key.TheVariants as keys
use Rattle.cm_job.specs.declared.line.Access.{Access}
use Rattle.cm_job.specs.declared.line.Access.TheVariants as accesses
use Rattle.cm_job.specs.declared.line.Mode.{Mode}
use Rattle.cm_job.specs.declared.line.Mode.TheVariants as modes

-- the command that is asked for
abbrev pub asked_cmd : AskedLine → CmdText
asked_cmd (asks.Go mode access t0 most cmd) = cmd
asked_cmd (asks.Drive t0 numbers cmd) = cmd

-- what the board does where the buffer is full
abbrev pub mode_of : List ℕ → Result Mode Fault
mode_of word = keyword ((codes "paced", modes.Paced) ∷ (codes "free", modes.Free) ∷ []) word

-- how the client gets at the samples
abbrev pub access_of : List ℕ → Result Access Fault
access_of word = keyword ((codes "copy", accesses.Copy) ∷ (codes "map", accesses.Map) ∷ []) word

-- how many samples the client takes: all, or up to a million
abbrev pub take_of : List ℕ → Result (Option ℕ) Fault
take_of word = if bytes_eq word (codes "all") then Ok None else (number_in 1 1000000 word >>= λ n. Ok (Some n))

-- numbers with commas between them, each of at most 18 digits as all numbers are
abbrev pub numbers_of : List ℕ → Result (List ℕ) Fault
numbers_of text = each_word (number_in 0 999999999999999999) [] (slice_split (is_byte 44) text)

-- what stands between the key and the command in `go MODE READER CALL TAKE COMMAND`
abbrev pub go_head : ℕ → Form (Mode × Access × ℕ × Option ℕ)
go_head horizon words =
    before_commands 4 8 words >>= λ w.
    mode_of (word_at w 0) >>= λ mode.
    access_of (word_at w 1) >>= λ access.
    number_in 0 horizon (word_at w 2) >>= λ t0.
    take_of (word_at w 3) >>= λ most.
    Ok (mode, access, t0, most)

-- `go MODE READER CALL TAKE COMMAND`
abbrev pub go_line : Bounds → LineText → Result AskedLine Fault
go_line bounds line =
    go_head bounds.horizon (drop 1 line.words) >>= λ h.
    command_of (most_entries bounds.version) (drop 5 line.words) >>= λ cmd.
    Ok (asks.Go h.0 h.1 h.2 h.3 cmd)

-- the time and the word of the values in `drive CALL VALUES COMMAND`
abbrev pub drive_head : ℕ → Form (ℕ × List ℕ)
drive_head horizon words =
    before_commands 2 8 words >>= λ w. number_in 0 horizon (word_at w 0) >>= λ t0. Ok (t0, word_at w 1)

-- `drive CALL VALUES COMMAND`
abbrev pub drive_line : Bounds → LineText → Result AskedLine Fault
drive_line bounds line =
    drive_head bounds.horizon (drop 1 line.words) >>= λ h.
    numbers_of h.1 >>= λ numbers.
    command_of (most_entries bounds.version) (drop 3 line.words) >>= λ cmd.
    Ok (asks.Drive h.0 numbers cmd)

-- the form that a word names
abbrev pub key_named : List ℕ → Result Key Fault
key_named word = keyword ((codes "go", keys.Go) ∷ (codes "drive", keys.Drive) ∷ []) word

-- the form that the first word names
abbrev pub key_of : List (List ℕ) → Result Key Fault
key_of [] = Err BadLine
key_of (word ∷ words) = key_named word

-- the form of a line
abbrev pub line_key : LineText → Result Key Fault
line_key line = if line.bad then Err BadLine else key_of line.words

-- a line of this form
abbrev pub keyed : Bounds → LineText → Key → Result AskedLine Fault
keyed bounds line keys.Go = go_line bounds line
keyed bounds line keys.Drive = drive_line bounds line

-- what the words of a line ask
abbrev pub asked_of : Bounds → LineText → Result AskedLine Fault
asked_of bounds line = line_key line >>= λ key. keyed bounds line key
