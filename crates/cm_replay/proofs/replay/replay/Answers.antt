use Rattle.std.proofs.Common.{◌≤◌, List, OnErr, length, map, sym, ap, ◌∙◌, subst}
use Rattle.std.specs.List.{All}
use Rattle.cm_base.specs.Transfer.{AppendsPrefix}
use Rattle.cm_board.specs.Board.{BoardText}
use Rattle.cm_session.specs.Limits.{HasLimits}
use Rattle.cm_session.specs.declared.op.SessionLine.{SessionLine}
use Rattle.cm_replay.specs.Job.{JobText, setting_of}
use Rattle.cm_replay.specs.JobView.{job_text}
use Rattle.cm_replay.specs.Replies.{CanReplay, tried_of}
use Rattle.cm_replay.specs.Texts.{replay_text}
use Rattle.cm_replay.proofs.Trials.{all-limited}
use Rattle.cm_replay.proofs.replay.replay.Goals as goal

pub try_all-requires : goal.try_all-requires
try_all-requires g c =
    subst (λ (lines : List SessionLine). All (λ (line : SessionLine). HasLimits line.op) lines) (sym c.deref.ensures.value)
    (all-limited c.job.inside.signals.horizon 0 c.job.inside.lines.items c.job.invariant.lines)

pub replay_lines-requires : goal.replay_lines-requires
replay_lines-requires g c =
    let job : JobText = job_text c.job.inside in
    let few : length job.board.subs ≤ 16 = subst (λ (board : BoardText). length board.subs ≤ 16) c.board.view_is c.board.invariant.subs.high in
    subst (λ (lines : List SessionLine). CanReplay (setting_of job) lines c.deref-3.result.now c.in_ok-seats.seats.items) (sym c.deref-2.ensures.value)
    (record {
      job = record { is = c.job.invariant; subs = c.in_ok-seats.ensures.subs };
      few = few;
      trials = c.deref-3.ensures.value ∙ c.in_ok-tried.ensures ∙ ap (λ (lines : List SessionLine). map (λ (line : SessionLine). tried_of job.board line.op) lines) c.deref.ensures.value;
      idle = c.in_ok-seats.ensures.seats;
    })

pub returns-clause-prefix : goal.returns-clause-prefix
returns-clause-prefix g c =
    let job : JobText = job_text c.job.inside in
    let stopped : OnErr c.replay_lines.result (AppendsPrefix (g.K.Sink.text c.args.sink.now) (g.K.Sink.text c.replay_lines.new.sink) (replay_text (setting_of job) job.lines)) =
    subst (λ (lines : List SessionLine). OnErr c.replay_lines.result (AppendsPrefix (g.K.Sink.text c.args.sink.now) (g.K.Sink.text c.replay_lines.new.sink) (replay_text (setting_of job) lines))) c.deref-2.ensures.value c.replay_lines.ensures.prefix in
    subst (λ (j : JobText). OnErr c.replay_lines.result (AppendsPrefix (g.K.Sink.text c.args.sink.now) (g.K.Sink.text c.replay_lines.new.sink) (replay_text (setting_of j) j.lines))) c.job.view_is stopped
