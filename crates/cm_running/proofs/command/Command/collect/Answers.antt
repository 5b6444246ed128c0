use Rattle.std.proofs.Common.{◌≡◌, ◌≤◌, false, sym, ap, ◌∙◌, subst, rules}
use Rattle.cm_running.specs.CommandView.{its_schedule}
use Rattle.cm_running.specs.Running.{Running, arrived, collected, is_out}
use Rattle.cm_running.specs.ToCome.{end_shown}
use Rattle.cm_text.specs.declared.end.End.TheVariants.{Overrun}
use Rattle.cm_running.proofs.Commands.{collected-command, places_left, running-collected}
use Rattle.cm_running.proofs.command.Command.collect.Goals as goal

pub fill-requires-clause-places : goal.fill-requires-clause-places
fill-requires-clause-places c =
    let input : is_out (its_schedule c.self.inside) ≡ false = subst (λ (r : Running). is_out r.schedule ≡ false) (sym c.self.view_is) c.requires.input in
    places_left c.self.inside c.self.invariant input

pub invariant_of-self : goal.invariant_of-self
invariant_of-self c =
    let input : is_out (its_schedule c.self.inside) ≡ false = subst (λ (r : Running). is_out r.schedule ≡ false) (sym c.self.view_is) c.requires.input in
    let some : c.self.inside.ring.w ≤ arrived (its_schedule c.self.inside) c.args.time = subst (λ (r : Running). r.w ≤ arrived r.schedule c.args.time) (sym c.self.view_is) c.requires.ready in
    collected-command c.self.inside c.self.invariant input c.args.time c.fill.new.ring _ some c.fill.ensures.ring (c.shown_end-self-inside.ensures.after ∙ c.fill.ensures.board) _

pub returns : goal.returns
returns c =
    let input : is_out (its_schedule c.self.inside) ≡ false = subst (λ (r : Running). is_out r.schedule ≡ false) (sym c.self.view_is) c.requires.input in
    let some : c.self.inside.ring.w ≤ arrived (its_schedule c.self.inside) c.args.time = subst (λ (r : Running). r.w ≤ arrived r.schedule c.args.time) (sym c.self.view_is) c.requires.ready in
    let shown : c.shown_end-self-inside.result ≡ end_shown c.shown_end-self-inside.new.board (Overrun c.fill.new.ring.w) c.fill.new.ring.w (its_schedule c.self.inside).horizon c.args.time = search rules in
    running-collected c.self.inside c.self.invariant input c.args.time c.fill.new.ring c.shown_end-self-inside.new.board some c.fill.ensures.ring (c.shown_end-self-inside.ensures.after ∙ c.fill.ensures.board) _ shown
    ∙ ap (λ (r : Running). collected r c.args.time) c.self.view_is
