-- What the lines of a session that were read keep.
use Rattle.std.specs.Prelude.{ℕ, ◌≤◌, List, [], ◌∷◌, length}
use Rattle.cm_cmd.specs.PrintedReads.{HasText}
use Rattle.cm_session.specs.declared.op.Op.{Op}
use Rattle.cm_session.specs.declared.op.Op.TheVariants as ops
use Rattle.cm_session.specs.declared.op.SessionLine.{SessionLine}

-- the limits on what a line asks, of which the session's work needs those on lists and on reads
abbrev pub HasLimits : Op → Type 0
HasLimits (ops.Cmd cmd) = HasText 1024 cmd
HasLimits (ops.Read sub n) = n ≤ 65536
HasLimits (ops.Map sub n) = n ≤ 65536
HasLimits (ops.Write sub values) = length values ≤ 1024
HasLimits (ops.Fill sub values) = length values ≤ 1024
HasLimits (ops.InsnRead sub entry n) = n ≤ 64
HasLimits (ops.InsnWrite sub entry values) = length values ≤ 64
HasLimits op = Unit {0}

-- a line has its limits, and isn't after the horizon
abbrev pub IsLimited : ℕ → SessionLine → Type 0
IsLimited horizon line = (line.time ≤ horizon) × HasLimits line.op

-- no line is before an earlier one or before a time, none is after the horizon, and each has its limits
abbrev pub InOrder : ℕ → ℕ → List SessionLine → Type 0
InOrder horizon time [] = Unit {0}
InOrder horizon time (line ∷ rest) = (time ≤ line.time) × IsLimited horizon line × InOrder horizon line.time rest
