-- What the text of a run or a watch says of each line.
use Rattle.std.specs.Prelude.{◌≡◌, ℕ, List, [], ◌∷◌}
use Rattle.cm_board.specs.Board.{BoardText}
use Rattle.cm_signal.specs.Signals.{SignalsText}
use Rattle.cm_expand.specs.Calls.{plan_at}
use Rattle.cm_text.specs.Streams.{StreamsInput, StreamsOutput}
use Rattle.cm_job.specs.Modes.{is_paced}
use Rattle.cm_job.specs.declared.line.RunLine.{RunLine}
use Rattle.cm_job.specs.declared.line.RunLine.TheVariants.{Go, Drive}
use Rattle.cm_block.specs.RunText.{IsRunText, StartsWith, run_text}

-- the block of a line: a prefix of its munged expansion and its end, or its words and their end
abbrev pub LineStreams : BoardText → SignalsText → RunLine → List ℕ → Type 0
LineStreams board signals (Go mode access t0 most cmd) text =
    StreamsInput (is_paced mode) (plan_at board signals t0 cmd) most text
LineStreams board signals (Drive t0 values cmd) text = StreamsOutput (plan_at board signals t0 cmd) values text

-- the blocks of all lines, in the order of the lines
abbrev pub StreamsWell : BoardText → SignalsText → List RunLine → List ℕ → Type 0
StreamsWell board signals [] text = text ≡ []
StreamsWell board signals (line ∷ lines) text =
    StartsWith (LineStreams board signals line) (StreamsWell board signals lines) text

-- that of each text that a run may have
abbrev pub RunLaw : Type 0
RunLaw =
    (board : BoardText) (signals : SignalsText) (lines : List RunLine) (text : List ℕ)
    → IsRunText board signals lines text → StreamsWell board signals lines text

-- that of the text of a watch
abbrev pub WatchLaw : Type 0
WatchLaw =
    (board : BoardText) (signals : SignalsText) (lines : List RunLine)
    → StreamsWell board signals lines (run_text board signals lines)
