-- A loop's job as its lines say it one after another.
use Rattle.std.proofs.Common.{◌≡◌, ℕ, List, [], ◌∷◌, Result, Ok, Err, refl}
use Rattle.cm_base.specs.Lines.{LineText}
use Rattle.cm_base.specs.Reading.{◌>>=◌, at_line, read_each}
use Rattle.cm_base.specs.declared.faults.Fault.{Fault}
use Rattle.cm_base.specs.declared.faults.Fault.TheVariants.{Limit}
use Rattle.cm_base.specs.declared.faults.Refused.{Refused}
use Rattle.cm_board.specs.Board.{BoardText}
use Rattle.cm_signal.specs.Bounds.{bounds_of}
use Rattle.cm_signal.specs.Signals.{SignalsText}
use Rattle.cm_job.specs.LoopForms.{asked_of}
use Rattle.cm_job.specs.LoopPart.{job_of, job_of_lines, line_after, lines_of, loop_line, loop_of}
use Rattle.cm_job.specs.declared.loop_asked.AskedLoop.{AskedLoop}
use Rattle.cm_job.specs.declared.loop_line.LoopLine.{LoopLine}

-- a further line, by what its words ask
abbrev further : Result AskedLoop Fault → Result (Unit {0}) Fault
further asked = asked >>= λ a. Err Limit

pub job_of_its_lines : (board : BoardText) (signals : SignalsText) (end : ℕ) (lines : List LineText) →
    loop_of board signals end lines ≡ (lines_of board signals lines >>= λ all. job_of_lines board signals end all)
job_of_its_lines board signals end [] = refl
job_of_its_lines board signals end (first ∷ []) = by (at_line first.number (loop_line board signals first))
  where
    by : (said : Result LoopLine Refused) →
        ((said >>= λ line. Ok line) >>= λ line. Ok (job_of board signals line))
        ≡ ((said >>= λ x. Ok (x ∷ [])) >>= λ all. job_of_lines board signals end all)
    by (Ok x) = refl
    by (Err r) = refl
job_of_its_lines board signals end (first ∷ second ∷ more) =
    by (at_line first.number (loop_line board signals first)) (asked_of (bounds_of board signals) second)
  where
    by : (said : Result LoopLine Refused) (asked : Result AskedLoop Fault) →
        ((said >>= λ line. at_line second.number (further asked) >>= λ none. Ok line) >>= λ line. Ok (job_of board signals line))
        ≡ ((said >>= λ x. at_line second.number (further asked >>= λ none. Ok x) >>= λ y. read_each (line_after board signals) (x ∷ y ∷ []) more)
        >>= λ all. job_of_lines board signals end all)
    by (Err r) asked = refl
    by (Ok x) (Ok a) = refl
    by (Ok x) (Err fault) = refl
