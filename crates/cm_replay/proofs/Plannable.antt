-- The schedule of each accepted command is timely.
use Rattle.std.proofs.Common.{◌≡◌, ◌<◌, ◌≤◌, length, arith, Some}
use Rattle.std.specs.List.{All}
use Rattle.cm_board.specs.Board.{IsSoundSub, no_sub}
use Rattle.cm_signal.specs.Signals.{IsSoundSignals}
use Rattle.cm_signal.specs.Setting.{Setting}
use Rattle.cm_session.specs.declared.op.SessionLine.{SessionLine}
use Rattle.cm_running.proofs.Plans.{timely}
use Rattle.cm_replay.specs.Forms.{named_sub}
use Rattle.cm_replay.specs.Session.{here}
use Rattle.cm_replay.specs.State.{State, plan_here}
use Rattle.cm_replay.proofs.FormLaws.{IsPlannable}

-- what is planned for a command that is accepted at a line is timely, and so it is once it is triggered later
pub plannable : (s : Setting) (line : SessionLine) (state : State) → All IsSoundSub s.board.subs → IsSoundSignals s.signals → line.time ≤ s.signals.horizon → named_sub line.op < length s.board.subs → IsPlannable (here s line state)
plannable s line state subs sound by within = λ cmd passed.
    let sub = subs (named_sub line.op) no_sub within in (
      timely (plan_here (here s line state) cmd) (record {
        sub = sub;
        signals = sound;
        plan = record { passed = passed; t0 = by; given = λ t e. absurd (cc) };
      }),
      λ at after below. timely (record (plan_here (here s line state) cmd) { trig = Some at }) (record {
        sub = sub;
        signals = sound;
        plan = record { passed = passed; t0 = by; given = λ t e. let same : at ≡ t = cc in (omega arith, omega arith) };
      }),
    )
