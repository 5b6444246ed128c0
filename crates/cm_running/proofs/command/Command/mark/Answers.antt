use Rattle.std.proofs.Common.{◌≡◌, ◌≤◌, ◌-◌, true, sym, ap, ◌∙◌, subst}
use Rattle.cm_running.specs.CommandView.{its_schedule}
use Rattle.cm_running.specs.Running.{Running, is_out}
use Rattle.cm_running.specs.Writing.{mark_on}
use Rattle.cm_running.proofs.Pacing.{marked-view}
use Rattle.cm_running.proofs.command.Command.mark.Goals as goal

pub returns : goal.returns
returns c =
    let output : is_out (its_schedule c.self.inside) ≡ true = subst (λ (r : Running). is_out r.schedule ≡ true) (sym c.self.view_is) c.requires.output in
    let filled : c.args.k ≤ c.self.inside.ring.a - c.self.inside.ring.w = subst (λ (r : Running). c.args.k ≤ r.a - r.w) (sym c.self.view_is) c.requires.filled in
    marked-view c.self.inside c.self.invariant output c.args.k c.write_free.result c.write_free.new.self c.munge_to_written.new.self filled c.write_free.ensures.granted c.write_free.ensures.after c.munge_to_written.ensures.after
    ∙ ap (mark_on c.args.k) c.self.view_is
