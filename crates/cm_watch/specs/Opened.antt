-- The streams of watched lines before anything was read.
use Rattle.std.specs.Prelude.{◌≡◌, ℕ, true, List, length, map}
use Rattle.cm_board.specs.Board.{BoardText}
use Rattle.cm_signal.specs.Signals.{SignalsText}
use Rattle.cm_ring_core.specs.declared.view.ReaderPart.{ReaderPart}
use Rattle.cm_ring_core.specs.declared.view.RingConstants.{RingConstants}
use Rattle.cm_ring_core.specs.Lawful.{first_reader}
use Rattle.cm_job.specs.Calls.{cmd_of, plan_of}
use Rattle.cm_job.specs.declared.line.RunLine.{RunLine}
use Rattle.cm_client.specs.LineRing.{ring_of}
use Rattle.cm_text.specs.SampleText.{LinesText}
use Rattle.cm_block.specs.Whole.{line_format}
use Rattle.cm_stream.specs.Stream.{Streaming}
use Rattle.cm_watch.specs.Watched.{HasWatched, text_format}

-- a stream, whichever table its ring has: the length of its scans, its ring, and its reader
pub record Start : Type 0 where
  pub scan : ℕ
  pub ring : RingConstants
  pub part : ReaderPart
  pub mapped : ℕ

-- how a stream stands
abbrev pub stream_start : Streaming → Start
stream_start s = record { scan = s.n; ring = s.reader.ring; part = s.reader.part; mapped = s.reader.mapped }

-- how a line's stream starts: with scans as long as the channel list, over a paced ring for the line's expansion
abbrev pub line_start : BoardText → SignalsText → RunLine → Start
line_start board signals line = record {
  scan = length (cmd_of line).list;
  ring = ring_of (plan_of board signals line) true;
  part = first_reader;
  mapped = 0;
}

-- streams as they start for lines, and lines of text in their formats
pub record AreFor
    (board : BoardText) (signals : SignalsText) (lines : List RunLine) (first : List Streaming) (texts : List LinesText)
    : Type 0 where
  pub streams : map stream_start first ≡ map (line_start board signals) lines
  pub formats : map text_format texts ≡ map (line_format board signals) lines

-- streams that started for the lines have been read to their ends
pub record HaveWatched
    (board : BoardText) (signals : SignalsText) (lines : List RunLine) (now : List Streaming) (texts : List LinesText)
    : Type 0 where
  pub first : List Streaming
  pub before : List LinesText
  pub start : AreFor board signals lines first before
  pub read : HasWatched first now before texts
