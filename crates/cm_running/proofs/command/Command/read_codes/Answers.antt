use Rattle.std.proofs.Common.{◌≡◌, ◌++◌, false, OnOk, length, take, sym, ap, ◌∙◌, arith, subst}
use Rattle.cm_ring_core.specs.Local.{Ring}
use Rattle.cm_running.specs.CommandView.{its_schedule}
use Rattle.cm_running.specs.Reading.{taken}
use Rattle.cm_running.specs.Running.{Running, is_out}
use Rattle.cm_running.specs.Texts.{codes_text}
use Rattle.cm_running.proofs.Commands.{in_step, length-ring, read-words}
use Rattle.cm_running.proofs.command.Command.read_codes.Goals as goal

pub put_codes-reported-requires-clause-held : goal.put_codes-reported-requires-clause-held
put_codes-reported-requires-clause-held c =
    let input : is_out (its_schedule c.self.inside) ≡ false = subst (λ (r : Running). is_out r.schedule ≡ false) (sym c.self.view_is) c.requires.input in
    let step = in_step c.self.inside c.self.invariant input in
    omega (arith, c.read_alloc-granted.ensures.granted, step.level.m_w, subst (λ (r : Running). r.ra ≡ r.r) (sym c.self.view_is) c.requires.unmapped, ap (λ (ring : Ring). length ring.held) c.read_alloc-granted.ensures.after, length-ring c.self.inside c.self.invariant input)

pub returns-clause-answer : goal.returns-clause-answer
returns-clause-answer c =
    let input : is_out (its_schedule c.self.inside) ≡ false = subst (λ (r : Running). is_out r.schedule ≡ false) (sym c.self.view_is) c.requires.input in
    let granted = c.read_alloc-granted.result in
    subst (λ text. OnOk c.put_codes-reported.result (c.put_codes-reported.new.text.items ≡ c.args.text.now.items ++ text))
    (ap (λ (ring : Ring). codes_text (take granted ring.held)) c.read_alloc-granted.ensures.after
    ∙ ap codes_text (read-words c.self.inside c.self.invariant input (subst (λ (r : Running). r.ra ≡ r.r) (sym c.self.view_is) c.requires.unmapped) c.args.n granted c.read_alloc-granted.ensures.granted)
    ∙ ap (λ (r : Running). codes_text (taken c.args.n r)) c.self.view_is)
    c.put_codes-reported.ensures
