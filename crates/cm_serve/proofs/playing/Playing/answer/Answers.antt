use Rattle.std.proofs.Common.{◌≡◌, sym, subst}
use Rattle.cm_serve.specs.Playing.{Play}
use Rattle.cm_serve.specs.PlayingView.{IsPlay, play_of}
use Rattle.cm_replay.specs.Replies.{tried_of}
use Rattle.cm_replay.specs.State.{State}
use Rattle.cm_serve.proofs.Plays.{ComesNext, play-after, play-can, play-come}
use Rattle.cm_serve.proofs.playing.Playing.answer.Goals as goal

pub step-requires-clause-come : goal.step-requires-clause-come
step-requires-clause-come c =
    let line = c.args.line.now in
    play-come (play_of c.self.inside) line c.self.invariant (subst (ComesNext line) (sym c.self.view_is) (c.requires.order, c.requires.limits))

pub step-requires-clause-can : goal.step-requires-clause-can
step-requires-clause-can c =
    let line = c.args.line.now in
    play-can (play_of c.self.inside) line c.args.tried.now c.self.invariant (subst (ComesNext line) (sym c.self.view_is) (c.requires.order, c.requires.limits))
    (subst (λ (p : Play). c.args.tried.now ≡ tried_of p.setting.board line.op) (sym c.self.view_is) c.requires.trial)

pub invariant_of-result : goal.invariant_of-result
invariant_of-result c =
    let line = c.args.line.now in
    subst (λ (n : State). IsPlay (record { setting = c.self.inside.setting; state = n; latest = line.time })) (sym c.in_ok-step.ensures.after)
    (play-after (play_of c.self.inside) line c.self.invariant (subst (ComesNext line) (sym c.self.view_is) (c.requires.order, c.requires.limits)))
