use Rattle.std.proofs.Common.{◌≡◌, ◌+◌, ◌<◌, ◌-◌, ◌++◌, false, OnOk, codes, length, take, get_or, sym, ap, ap₂, ◌∙◌, arith, subst}
use Rattle.std.specs.Fmt.{decimal}
use Rattle.cm_ring_core.specs.Local.{Ring}
use Rattle.cm_text.specs.Format.{Format, IsSample, sample_lines}
use Rattle.cm_running.specs.CommandView.{its_schedule}
use Rattle.cm_running.specs.Texts.{taken_text}
use Rattle.cm_running.specs.Reading.{taken}
use Rattle.cm_running.specs.Running.{Running, is_out}
use Rattle.cm_running.proofs.Commands.{codes-ring, in_step, length-ring, places_left, read-answer}
use Rattle.cm_running.proofs.command.Command.read.Goals as goal

pub put_taken-reported-requires-clause-held : goal.put_taken-reported-requires-clause-held
put_taken-reported-requires-clause-held c =
    let input : is_out (its_schedule c.self.inside) ≡ false = subst (λ (r : Running). is_out r.schedule ≡ false) (sym c.self.view_is) c.requires.input in
    let step = in_step c.self.inside c.self.invariant input in
    omega (arith, c.read_alloc-granted.ensures.granted, step.level.m_w, subst (λ (r : Running). r.ra ≡ r.r) (sym c.self.view_is) c.requires.unmapped, ap (λ (ring : Ring). length ring.held) c.read_alloc-granted.ensures.after, length-ring c.self.inside c.self.invariant input)

pub put_taken-reported-requires-clause-codes : goal.put_taken-reported-requires-clause-codes
put_taken-reported-requires-clause-codes c = λ i below.
    let input : is_out (its_schedule c.self.inside) ≡ false = subst (λ (r : Running). is_out r.schedule ≡ false) (sym c.self.view_is) c.requires.input in
    let step = in_step c.self.inside c.self.invariant input in
    let within : i < c.self.inside.ring.w - c.self.inside.ring.r = omega (arith, c.read_alloc-granted.ensures.granted, step.level.m_w, subst (λ (r : Running). r.ra ≡ r.r) (sym c.self.view_is) c.requires.unmapped) in
    subst (λ (ring : Ring). IsSample c.self.inside.lines (ring.r + i) (get_or ring.held i 0)) (sym c.read_alloc-granted.ensures.after)
    (subst (λ (f : Format). IsSample f (c.self.inside.ring.r + i) (get_or c.self.inside.ring.held i 0)) (sym c.self.invariant.lines) (codes-ring c.self.inside c.self.invariant input i within))

pub put_taken-reported-requires-clause-small : goal.put_taken-reported-requires-clause-small
put_taken-reported-requires-clause-small c =
    let input : is_out (its_schedule c.self.inside) ≡ false = subst (λ (r : Running). is_out r.schedule ≡ false) (sym c.self.view_is) c.requires.input in
    let step = in_step c.self.inside c.self.invariant input in
    omega (arith, step.r_ra, step.ra_w, step.level.w_a, places_left c.self.inside c.self.invariant input, ap (λ (ring : Ring). ring.r) c.read_alloc-granted.ensures.after)

pub returns-clause-answer : goal.returns-clause-answer
returns-clause-answer c =
    let input : is_out (its_schedule c.self.inside) ≡ false = subst (λ (r : Running). is_out r.schedule ≡ false) (sym c.self.view_is) c.requires.input in
    let after = c.read_alloc-granted.ensures.after in
    let granted = c.read_alloc-granted.result in
    subst (λ answer. OnOk c.put_taken-reported.result (c.put_taken-reported.new.text.items ≡ c.args.text.now.items ++ answer))
    (ap₂ (λ (f : Format) (ring : Ring). codes "ok " ++ decimal granted ++ codes "\n" ++ sample_lines f ring.r (take granted ring.held)) c.self.invariant.lines after
    ∙ read-answer c.self.inside c.self.invariant input (subst (λ (r : Running). r.ra ≡ r.r) (sym c.self.view_is) c.requires.unmapped) c.args.n granted c.read_alloc-granted.ensures.granted
    ∙ ap (λ (r : Running). taken_text r.schedule.format r.r (taken c.args.n r)) c.self.view_is)
    c.put_taken-reported.ensures.text
