-- What a mode says of the board.
use Rattle.std.specs.Prelude.{Bool, true, false}
use Rattle.cm_job.specs.declared.line.Mode.{Mode}
use Rattle.cm_job.specs.declared.line.Mode.TheVariants as modes

-- the board waits for room
abbrev pub is_paced : Mode → Bool
is_paced modes.Paced = true
is_paced modes.Free = false
