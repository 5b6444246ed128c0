use Rattle.std.proofs.Common.{◌≡◌, ◌-◌, ◌++◌, min, Some, OnOk, ap, ◌∙◌, arith, subst}
use Rattle.cm_running.specs.Reading.{peeked}
use Rattle.cm_running.specs.Running.{Running}
use Rattle.cm_running.specs.Texts.{codes_text}
use Rattle.cm_running.proofs.Peeks.{mapped-held, peeked-words}
use Rattle.cm_running.proofs.command.Command.peek.Goals as goal

pub put_mapped-requires-clause-held : goal.put_mapped-requires-clause-held
put_mapped-requires-clause-held c = mapped-held c.self.inside c.self.invariant

pub returns : goal.returns
returns c =
    let seen = c.self.view_is in
    let was : c.min.result ≡ min c.args.n (c.self.inside.ring.ra - c.self.inside.ring.r - c.args.from) =
    omega (arith, c.min.ensures, c.saturating_sub.ensures, c.places-places.ensures.ra, c.places-places.ensures.r, ap (λ (r : Running). r.ra) seen, ap (λ (r : Running). r.r) seen) in
    subst (λ words. OnOk c.put_mapped.result (c.put_mapped.new.text.items ≡ c.args.text.now.items ++ codes_text words))
    (peeked-words c.self.inside c.self.invariant c.args.from c.args.n c.min.result was ∙ ap (λ (r : Running). peeked c.args.from c.args.n (Some r)) seen)
    c.put_mapped.ensures
