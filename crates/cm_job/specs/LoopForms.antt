-- The form of a `loop` line: what each of its words has to be.
use Rattle.std.specs.Prelude.{ℕ, List, take, drop, codes, Result, Ok}
use Rattle.cm_base.specs.Lines.{LineText}
use Rattle.cm_base.specs.Reading.{◌>>=◌}
use Rattle.cm_base.specs.Words.{number_in}
use Rattle.cm_base.specs.declared.faults.Fault.{Fault}
use Rattle.cm_board.specs.Versions.{most_entries}
use Rattle.cm_cmd.specs.CommandText.{command_of}
use Rattle.cm_signal.specs.declared.bounds.Bounds.{Bounds}
use Rattle.cm_job.specs.Head.{before_commands, only_word, word_at}
use Rattle.cm_job.specs.declared.loop_asked.AskedLoop.{AskedLoop}

-- the words after the one word that may begin the line
abbrev pub after_loop : LineText → Result (List (List ℕ)) Fault
after_loop line = only_word (codes "loop") line >>= λ u. Ok (drop 1 line.words)

-- what stands before the commands in `loop CALL_IN CALL_OUT WINDOW INPUT OUTPUT`:
-- both times are up to the horizon, and the window is 1 to 16
abbrev pub loop_head : ℕ → LineText → Result (ℕ × ℕ × ℕ) Fault
loop_head horizon line =
    after_loop line >>= λ words.
    before_commands 3 16 words >>= λ w.
    number_in 0 horizon (word_at w 0) >>= λ t_in.
    number_in 0 horizon (word_at w 1) >>= λ t_out.
    number_in 1 16 (word_at w 2) >>= λ window.
    Ok (t_in, t_out, window)

-- what the words of a line ask
abbrev pub asked_of : Bounds → LineText → Result AskedLoop Fault
asked_of bounds line =
    loop_head bounds.horizon line >>= λ h.
    command_of (most_entries bounds.version) (take 8 (drop 4 line.words)) >>= λ input.
    command_of (most_entries bounds.version) (drop 12 line.words) >>= λ output.
    Ok (record { t_in = h.0; t_out = h.1; window = h.2; input = input; output = output })
