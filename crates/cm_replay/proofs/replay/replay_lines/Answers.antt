use Rattle.std.proofs.Common.{◌≡◌, ℕ, ◌+◌, List, [], length, drop, ap, sym, subst, ◌∙◌, arith}
use Rattle.cm_base.proofs.UnderWay.{on_err, under_way-ended, under_way-failed, under_way-moved, under_way-start, under_way-stopped}
use Rattle.cm_base.specs.Transfer.{IsUnderWay}
use Rattle.cm_board.specs.Board.{BoardText}
use Rattle.cm_sub.specs.Files.{no_files}
use Rattle.cm_signal.specs.Setting.{Setting}
use Rattle.cm_replay.specs.Job.{JobText}
use Rattle.cm_replay.specs.Ready.{StaysReady}
use Rattle.cm_replay.specs.Replies.{AreMany, AreWhole}
use Rattle.cm_replay.specs.State.{State, at_start}
use Rattle.cm_replay.specs.Texts.{replay_text, texts_from}
use Rattle.cm_replay.proofs.Folds.{all-answered, all-come, can-step, line-answered, many-after, many-start, ready-after, whole-after}
use Rattle.cm_replay.proofs.Readiness.{job_stays_ready}
use Rattle.cm_replay.proofs.Wholes.{whole-start}
use Rattle.cm_replay.proofs.replay.replay_lines.Goals as goal

pub loop-i-init : goal.loop-i-init
loop-i-init g c =
    let s = c.args.setting.now in
    let job : JobText = record { board = s.board; signals = s.signals; lines = c.args.lines.now } in
    let state : State = record { files = c.new-files.result; devices = c.args.seats.items } in
    let size : c.len.result ≡ length c.board.inside.subs.items = omega (arith, c.len.ensures) in
    let files : c.new-files.result ≡ no_files (length s.board.subs) =
    c.new-files.ensures ∙ ap no_files (size ∙ ap (λ (b : BoardText). length b.subs) c.board.view_is ∙ ap (λ (x : Setting). length x.board.subs) c.setting.view_is) in
    let start : state ≡ at_start s = λ k. record { files = files k; devices = c.requires.idle k } in
    let whole = replay_text s c.args.lines.now in
    let reported = g.K.Sink.text c.args.sink.now in
    record {
      many = subst (λ (n : State). AreMany s.board n.files n.devices) (sym start) (many-start s);
      whole = subst (λ (n : State). AreWhole s.board n.devices) (sym start) (whole-start s);
      ready = subst (λ (n : State). StaysReady s n c.args.lines.now) (sym start) (job_stays_ready job c.requires.job);
      way = subst (λ (text : List ℕ). IsUnderWay reported reported text (texts_from s state c.args.lines.now) whole) (sym c.new-text.ensures.items)
          (subst (λ (n : State). IsUnderWay reported reported [] (texts_from s n c.args.lines.now) whole) (sym start) (under_way-start reported whole));
      later = omega arith;
    }

pub step-requires-clause-come : goal.step-requires-clause-come
step-requires-clause-come g c =
    let state : State = record { files = c.loop-i.files; devices = c.loop-i.seats.items } in
    all-come c.args.setting.now c.args.lines.now state c.loop-i.i c.index-lines-i.result c.loop-i.invariant.ready c.loop-i-test.true c.index-lines-i.is

pub step-requires-clause-can : goal.step-requires-clause-can
step-requires-clause-can g c =
    let state : State = record { files = c.loop-i.files; devices = c.loop-i.seats.items } in
    can-step c.args.setting.now c.args.lines.now c.args.tried.now c.args.seats.items state c.loop-i.i c.index-lines-i.result c.index-tried-i.result c.requires c.loop-i.invariant.many c.loop-i.invariant.whole c.loop-i.invariant.ready
    c.loop-i-test.true c.index-lines-i.is c.index-tried-i.is

pub returns-in_err-step-clause-prefix : goal.returns-in_err-step-clause-prefix
returns-in_err-step-clause-prefix g c =
    let s = c.args.setting.now in
    let state : State = record { files = c.loop-i.files; devices = c.loop-i.seats.items } in
    on_err c.from_residual.result
    (under_way-stopped (g.K.Sink.text c.args.sink.now) (g.K.Sink.text c.loop-i.sink) c.loop-i.text.items (texts_from s state (drop c.loop-i.i c.args.lines.now)) (replay_text s c.args.lines.now) c.loop-i.invariant.way)

pub returns-in_err-flush_full-clause-prefix : goal.returns-in_err-flush_full-clause-prefix
returns-in_err-flush_full-clause-prefix g c =
    let s = c.args.setting.now in
    let state : State = record { files = c.loop-i.files; devices = c.loop-i.seats.items } in
    let after : State = record { files = c.step.new.files; devices = c.step.new.seats.items } in
    on_err c.from_residual-in_err-flush_full.result
    (under_way-failed (g.K.Sink.text c.args.sink.now) (g.K.Sink.text c.loop-i.sink) (g.K.Sink.text c.flush_full.new.sink) c.step.new.text.items (texts_from s after (drop (c.loop-i.i + 1) c.args.lines.now)) (replay_text s c.args.lines.now)
    c.in_err-flush_full.ensures.prefix
    (line-answered s (g.K.Sink.text c.args.sink.now) (g.K.Sink.text c.loop-i.sink) c.args.lines.now c.loop-i.i c.index-lines-i.result state after c.loop-i.text.items c.step.new.text.items (replay_text s c.args.lines.now)
    c.loop-i-test.true c.index-lines-i.is c.in_ok-step.ensures c.loop-i.invariant.way))

pub loop-i-preserved : goal.loop-i-preserved
loop-i-preserved g c =
    let s = c.args.setting.now in
    let i = c.loop-i.i in
    let line = c.index-lines-i.result in
    let state : State = record { files = c.loop-i.files; devices = c.loop-i.seats.items } in
    let after : State = record { files = c.step.new.files; devices = c.step.new.seats.items } in
    record {
      many = many-after s line state after c.in_ok-step.ensures.after c.loop-i.invariant.many;
      whole = whole-after s line state after c.in_ok-step.ensures.after c.loop-i.invariant.whole;
      ready = ready-after s c.args.lines.now i line state after c.loop-i-test.true c.index-lines-i.is c.in_ok-step.ensures.after c.loop-i.invariant.ready;
      way = under_way-moved (g.K.Sink.text c.args.sink.now) (g.K.Sink.text c.loop-i.sink) (g.K.Sink.text c.flush_full.new.sink) c.step.new.text.items c.flush_full.new.text.items (texts_from s after (drop (i + 1) c.args.lines.now)) (replay_text s c.args.lines.now)
          c.in_ok-flush_full.ensures.ok
          (line-answered s (g.K.Sink.text c.args.sink.now) (g.K.Sink.text c.loop-i.sink) c.args.lines.now i line state after c.loop-i.text.items c.step.new.text.items (replay_text s c.args.lines.now) c.loop-i-test.true c.index-lines-i.is
          c.in_ok-step.ensures c.loop-i.invariant.way);
      later = omega (arith, c.loop-i.invariant.later, c.flush_full.ensures.later);
    }

pub returns-in_err-flush-clause-prefix : goal.returns-in_err-flush-clause-prefix
returns-in_err-flush-clause-prefix g c =
    let s = c.args.setting.now in
    let state : State = record { files = c.loop-i.files; devices = c.loop-i.seats.items } in
    on_err c.from_residual-in_err-flush.result
    (under_way-failed (g.K.Sink.text c.args.sink.now) (g.K.Sink.text c.loop-i.sink) (g.K.Sink.text c.flush.new.sink) c.loop-i.text.items (texts_from s state (drop c.loop-i.i c.args.lines.now)) (replay_text s c.args.lines.now)
    c.in_err-flush.ensures.prefix c.loop-i.invariant.way)

pub returns-clause-ok : goal.returns-clause-ok
returns-clause-ok g c =
    let s = c.args.setting.now in
    let state : State = record { files = c.loop-i.files; devices = c.loop-i.seats.items } in
    under_way-ended (g.K.Sink.text c.args.sink.now) (g.K.Sink.text c.loop-i.sink) (g.K.Sink.text c.flush.new.sink) c.loop-i.text.items (replay_text s c.args.lines.now) c.in_ok-flush.ensures.ok
    (subst (λ (rest : List ℕ). IsUnderWay (g.K.Sink.text c.args.sink.now) (g.K.Sink.text c.loop-i.sink) c.loop-i.text.items rest (replay_text s c.args.lines.now))
    (all-answered s state c.args.lines.now c.loop-i.i (omega (arith, c.loop-i-test.false))) c.loop-i.invariant.way)
