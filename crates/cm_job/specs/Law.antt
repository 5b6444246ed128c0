-- What holds of the lines of every job of the session part.
use Rattle.std.specs.Prelude.{◌≡◌, ℕ, List}
use Rattle.cm_base.specs.Lines.{LineText}
use Rattle.cm_base.specs.Reading.{◌>>=◌}
use Rattle.cm_base.specs.Refusal.{RefusesFirst}
use Rattle.cm_board.specs.Board.{BoardText}
use Rattle.cm_signal.specs.Signals.{SignalsText}
use Rattle.cm_job.specs.ExpandLines as expands
use Rattle.cm_job.specs.LoopPart as loops
use Rattle.cm_job.specs.RunPart as runs
use Rattle.cm_job.specs.TestLines as tests
use Rattle.cm_job.specs.declared.asked.Session.{Session}

-- the lines of a run, of a watch, of an expansion, of tests and of a loop are refused at the first that fails,
-- and a loop's job is what its lines say
pub record FirstLineIsRefused : Type 0 where
  pub streamed : (session : Session) (board : BoardText) (signals : SignalsText)
      → RefusesFirst (runs.lines_of session board signals) (runs.line_after session board signals)
  pub expanded : (board : BoardText) (signals : SignalsText)
      → RefusesFirst (expands.expands_of board signals) (expands.line_after board signals)
  pub tested : (board : BoardText) → RefusesFirst (tests.tests_of board) (λ before line. tests.test_line board line)
  pub looped : (board : BoardText) (signals : SignalsText)
      → RefusesFirst (loops.lines_of board signals) (loops.line_after board signals)
  pub of_lines : (board : BoardText) (signals : SignalsText) (end : ℕ) (lines : List LineText)
      → loops.loop_of board signals end lines
      ≡ (loops.lines_of board signals lines >>= λ all. loops.job_of_lines board signals end all)
