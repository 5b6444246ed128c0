use Rattle.std.proofs.Common.{List, sym, subst}
use Rattle.cm_signal.specs.Signals.{IsSoundSignals, SignalsText}
use Rattle.cm_signal.specs.View.{signals_text}
use Rattle.cm_signal.specs.declared.wave.WaveAt.{WaveAt}
use Rattle.cm_signal.proofs.Grown.{MayWave, more_waves}
use Rattle.cm_signal.proofs.signals.Signals.put_wave.Goals as goal

pub invariant_of-self-2 : goal.invariant_of-self-2
invariant_of-self-2 c =
    let s : SignalsText = signals_text c.self.inside in
    let w = c.args.wave in
    let given : MayWave c.args.self.now w = record { period = c.requires.period; room = c.requires.room; own = c.requires.own; fine = c.requires.fine } in
    let may = subst (λ (t : SignalsText). MayWave t w) (sym c.self.view_is) given in
    subst (λ (ws : List WaveAt). IsSoundSignals (record s { waves = ws })) (sym c.in_ok-push.ensures.items) (more_waves s w c.self.invariant may)
