use Rattle.std.proofs.Common.{◌≡◌, ◌≤◌, length, sym, ap, ◌∙◌, subst, arith}
use Rattle.cm_board.specs.Board.{BoardText}
use Rattle.cm_signal.specs.Signals.{IsSoundSignals}
use Rattle.cm_sub.specs.Files.{no_files}
use Rattle.cm_signal.specs.Setting.{Setting}
use Rattle.cm_serve.specs.PlayingView.{IsPlay}
use Rattle.cm_replay.specs.State.{State, at_start}
use Rattle.cm_serve.proofs.Plays.{play-first}
use Rattle.cm_serve.proofs.playing.Playing.new.Goals as goal

pub invariant_of-result : goal.invariant_of-result
invariant_of-result c =
    let s : Setting = record { board = c.args.board.now; signals = c.args.signals.now } in
    let state : State = record { files = c.new.result; devices = c.in_ok-seats.seats.items } in
    let size : c.len.result ≡ length c.board.inside.subs.items = omega (arith, c.len.ensures) in
    let files : c.new.result ≡ no_files (length s.board.subs) = c.new.ensures ∙ ap no_files (size ∙ ap (λ (b : BoardText). length b.subs) c.board.view_is) in
    let start : state ≡ at_start s = λ k. record { files = files k; devices = c.in_ok-seats.ensures.seats k } in
    let few : length s.board.subs ≤ 16 = subst (λ (b : BoardText). length b.subs ≤ 16) c.board.view_is c.board.invariant.subs.high in
    subst (λ (n : State). IsPlay (record { setting = s; state = n; latest = 0 })) (sym start) (play-first s c.in_ok-seats.ensures.subs (subst IsSoundSignals c.signals.view_is c.signals.invariant) c.requires few)
