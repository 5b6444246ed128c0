use Rattle.std.proofs.Common.{◌≡◌, ◌*◌, ◌≤◌, true, sym, ap, ap₂, ◌∙◌, arith, subst}
use Rattle.std.proofs.lemmas.Bool.{eq-eqb}
use Rattle.std.specs.Prelude.{◌==◌}
use Rattle.cm_base.specs.Source as source
use Rattle.cm_board.specs.Board.{IsSoundSub}
use Rattle.cm_cmd.specs.Command.{CmdText}
use Rattle.cm_cmd.specs.declared.command.Trig.{Trig}
use Rattle.cm_test.specs.Steps.{moved}
use Rattle.cm_test.proofs.Adjusted.{moved_fits}
use Rattle.cm_test.proofs.limits.held_time.Goals as goal

sound : (c : goal.After-scan_length) → IsSoundSub c.args.sub.now
sound c = subst IsSoundSub c.sub.view_is c.sub.invariant.sound

-- the conversions within their limits fit into the longest scan
fits : (c : goal.After-scan_length) → c.repair.new.trigger.arg * c.scan_length.result ≤ c.args.sub.now.scan_max
fits c =
    let timed : (c.args.cmd.now.convert.src == source.timer) ≡ true =
    ap (λ (k : CmdText). k.convert.src == source.timer) (sym c.cmd.view_is) ∙ eq-eqb c.cmd.inside.convert.src source.timer c.if-cmd-eq-TIMER.true in
    let within = c.repair.ensures.trigger ∙ ap₂ (moved c.args.sub.now) c.convert_limits.ensures (ap (λ (k : CmdText). k.convert) c.cmd.view_is) in
    let time = ap₂ (λ x y. x * y) (ap (λ (t : Trig). t.arg) within) c.scan_length.ensures.value in
    let most = moved_fits c.args.sub.now c.args.cmd.now (sound c) c.requires.timed timed in
    omega (arith, time, most)

pub overflow_mul-result : goal.overflow_mul-result
overflow_mul-result c = let most = fits c in let high = (sound c).scan.high in omega (arith, most, high)

pub returns-then-cmd-eq-TIMER-clause-fits : goal.returns-then-cmd-eq-TIMER-clause-fits
returns-then-cmd-eq-TIMER-clause-fits c = fits c
