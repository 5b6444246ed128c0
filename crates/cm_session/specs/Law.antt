-- What holds of every session.
use Rattle.std.specs.Prelude.{◌≡◌, Bool, true, false, List, Ok}
use Rattle.cm_base.specs.Lines.{LineText}
use Rattle.cm_base.specs.Refusal.{RefusesFirst}
use Rattle.cm_session.specs.Limits.{InOrder}
use Rattle.cm_session.specs.SessionPart.{last_time, line_after, session_of}
use Rattle.cm_signal.specs.declared.bounds.Bounds.{Bounds}
use Rattle.cm_session.specs.declared.op.SessionLine.{SessionLine}

-- what a session of instructions alone reads, a session of all kinds reads the same
abbrev pub InsnReadsTheSame : Type 0
InsnReadsTheSame =
    (bounds : Bounds) (lines : List LineText) (all : List SessionLine)
    → session_of true bounds lines ≡ Ok all
    → session_of false bounds lines ≡ Ok all

-- a session is refused at its first line that fails
abbrev pub FirstLineIsRefused : Type 0
FirstLineIsRefused = (only_insn : Bool) (bounds : Bounds)
    → RefusesFirst (session_of only_insn bounds) (λ before line. line_after only_insn bounds (last_time before) line)

-- the lines of a session are in order, none is after the horizon, and each is within the limits of its form
abbrev pub SessionsAreInOrder : Type 0
SessionsAreInOrder =
    (only_insn : Bool) (bounds : Bounds) (lines : List LineText) (all : List SessionLine)
    → session_of only_insn bounds lines ≡ Ok all
    → InOrder bounds.horizon 0 all
