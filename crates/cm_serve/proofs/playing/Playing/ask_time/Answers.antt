use Rattle.std.proofs.Common.{sym, subst, None}
use Rattle.cm_dialogue.specs.Asked.{session_line}
use Rattle.cm_serve.specs.PlayingView.{IsPlay, play_of}
use Rattle.cm_replay.specs.State.{State}
use Rattle.cm_serve.proofs.Plays.{ComesNext, play-after, play-can, play-come, untried}
use Rattle.cm_serve.proofs.playing.Playing.ask_time.Goals as goal

pub ask-requires-clause-come : goal.ask-requires-clause-come
ask-requires-clause-come c =
    let line = session_line c.args.asked.now in
    play-come (play_of c.self.inside) line c.self.invariant (subst (ComesNext line) (sym c.self.view_is) (c.requires.order, c.requires.limits))

pub ask-requires-clause-can : goal.ask-requires-clause-can
ask-requires-clause-can c =
    let line = session_line c.args.asked.now in
    play-can (play_of c.self.inside) line None c.self.invariant (subst (ComesNext line) (sym c.self.view_is) (c.requires.order, c.requires.limits))
    (untried (play_of c.self.inside).setting.board c.args.asked.now)

pub invariant_of-playing : goal.invariant_of-playing
invariant_of-playing c =
    let line = session_line c.args.asked.now in
    subst (λ (n : State). IsPlay (record { setting = c.self.inside.setting; state = n; latest = line.time })) (sym c.in_ok-told.ensures.after)
    (play-after (play_of c.self.inside) line c.self.invariant (subst (ComesNext line) (sym c.self.view_is) (c.requires.order, c.requires.limits)))
