-- A session whose lines come one after another stays ready.
use Rattle.std.proofs.Common.{◌≡◌, ◌≤◌, List, [], ◌∷◌, length, refl, sym, ◌∙◌, arith, Option, None}
use Rattle.std.specs.List.{All}
use Rattle.cm_board.specs.Board.{BoardText, IsSoundSub}
use Rattle.cm_cmd.specs.Command.{CmdText}
use Rattle.cm_signal.specs.Setting.{Setting}
use Rattle.cm_session.specs.Limits.{InOrder, IsLimited}
use Rattle.cm_session.specs.declared.op.SessionLine.{SessionLine}
use Rattle.cm_signal.specs.Fitting.{FitBoard}
use Rattle.cm_signal.specs.Signals.{IsSoundSignals}
use Rattle.cm_dialogue.specs.Asked.{asked_op, session_line}
use Rattle.cm_serve.specs.Playing.{Play, first_play, played}
use Rattle.cm_dialogue.specs.declared.asked.Asked.{Asked}
use Rattle.cm_dialogue.specs.declared.asked.Question.{Question}
use Rattle.cm_dialogue.specs.declared.asked.Question.TheVariants.{Await, Info, Codes, Peek}
use Rattle.cm_serve.specs.PlayingView.{IsPlay}
use Rattle.cm_replay.specs.Ready.{StaysReady}
use Rattle.cm_replay.specs.Replies.{CanStep, HasCome, tried_of}
use Rattle.cm_replay.specs.Session.{brought_all, step}
use Rattle.cm_replay.proofs.Counts.{length-brought}
use Rattle.cm_replay.proofs.Folds.{all-come, many-after, many-start, whole-after}
use Rattle.cm_replay.proofs.Readiness.{job_stays_ready}
use Rattle.cm_replay.proofs.Wholes.{whole-brought, whole-start}

-- before the first line
pub play-first : (s : Setting) → All IsSoundSub s.board.subs → IsSoundSignals s.signals → FitBoard s.board.subs s.signals → length s.board.subs ≤ 16 → IsPlay (first_play s)
play-first s subs signals fits few = record {
  few = few;
  many = many-start s;
  whole = whole-start s;
  ready = λ lines order. job_stays_ready (record { board = s.board; signals = s.signals; lines = lines }) (record { is = record { signals = signals; fits = fits; lines = order }; subs = subs });
}

-- a line isn't before the last, and has its limits
abbrev pub ComesNext : SessionLine → Play → Type 0
ComesNext line p = (p.latest ≤ line.time) × IsLimited p.setting.signals.horizon line

-- the session is ready for such a line, and for those after it
next-ready : (p : Play) (line : SessionLine) (rest : List SessionLine) → IsPlay p → ComesNext line p → InOrder p.setting.signals.horizon line.time rest → StaysReady p.setting p.state (line ∷ rest)
next-ready p line rest is next after = is.ready (line ∷ rest) (next.0, next.1, after)

-- so each command can be brought to its time
pub play-come : (p : Play) (line : SessionLine) → IsPlay p → ComesNext line p → All (HasCome line.time) p.state.devices
play-come p line is next = all-come p.setting (line ∷ []) p.state 0 line (next-ready p line [] is next tt) (omega arith) refl

-- and what it asks can be done
pub play-can : (p : Play) (line : SessionLine) (tried : Option CmdText) → IsPlay p → ComesNext line p → tried ≡ tried_of p.setting.board line.op → CanStep p.setting line tried (brought_all line.time p.state)
play-can p line tried is next trial = record {
  limits = next.1;
  many = record { claims = is.many.claims ∙ sym (length-brought line.time p.state); places = length-brought line.time p.state ∙ is.many.places };
  few = omega (arith, length-brought line.time p.state, is.many.places, is.few);
  whole = whole-brought p.setting.board line.time p.state.devices is.whole;
  ready = (next-ready p line [] is next tt).2;
  its_trial = trial;
}

-- after it the session is as ready
pub play-after : (p : Play) (line : SessionLine) → IsPlay p → ComesNext line p → IsPlay (played p line)
play-after p line is next = record {
  few = is.few;
  many = many-after p.setting line p.state (step p.setting line p.state).state refl is.many;
  whole = whole-after p.setting line p.state (step p.setting line p.state).state refl is.whole;
  ready = λ rest after. (next-ready p line rest is next after).3;
}

-- a question has no command that was tried
pub untried : (board : BoardText) (asked : Asked) → None ≡ tried_of board (session_line asked).op
untried board asked = by asked.question
  where
    by : (q : Question) → None ≡ tried_of board (asked_op asked.sub q)
    by (Await n) = refl
    by Info = refl
    by (Codes n) = refl
    by (Peek from n) = refl
