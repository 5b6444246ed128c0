use Rattle.std.proofs.Common.{◌≡◌, None, sym, ap, ◌∙◌, subst}
use Rattle.cm_board.specs.Board.{IsSoundSub}
use Rattle.cm_signal.specs.Signals as signals
use Rattle.cm_running.specs.Triggering.{trigger_on}
use Rattle.cm_running.specs.CommandView.{running_of}
use Rattle.cm_running.specs.Running.{Running, served}
use Rattle.cm_running.proofs.Triggering.{not-some, running-triggered, trigger-command, trigger-planned}
use Rattle.cm_running.proofs.command.Command.trigger.Goals as goal

pub new-requires : goal.new-requires
new-requires c =
    (trigger-planned c.triggered-plan.result (subst IsSoundSub (c.sub.view_is ∙ c.sub-sub.ensures) c.sub.invariant.sound)
    (subst signals.IsSoundSignals (c.signals.view_is ∙ c.signals-signals.ensures) c.signals.invariant)).timely.order

pub invariant_of-self : goal.invariant_of-self
invariant_of-self c =
    let planned = trigger-planned c.triggered-plan.result (subst IsSoundSub (c.sub.view_is ∙ c.sub-sub.ensures) c.sub.invariant.sound)
    (subst signals.IsSoundSignals (c.signals.view_is ∙ c.signals-signals.ensures) c.signals.invariant) in
    let none : served (running_of c.self.inside) ≡ 0 = subst (λ (r : Running). served r ≡ 0) (sym c.self.view_is) c.requires.early in
    trigger-command c.self.inside c.self.invariant c.triggered-plan.result c.in_ok-self-inside.field-0 c.args.time none c.triggered-plan.ensures planned c.in_ok-self-inside.ensures

pub returns : goal.returns
returns c =
    let runs : c.self.inside.end ≡ None = not-some c.self.inside.end c.is_some.result c.is_some.ensures c.if-is_some.false in
    running-triggered c.self.inside c.triggered-plan.result c.in_ok-self-inside.field-0 c.args.time runs c.triggered-plan.ensures ∙ ap (trigger_on c.args.time) c.self.view_is
