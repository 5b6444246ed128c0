use Rattle.std.proofs.Common.{◌≡◌, ℕ, IfOk, length, subst, ◌∙◌, refl}
use Rattle.std.proofs.lemmas.Result.{IfOk-weaker}
use Rattle.cm_loop.specs.Parts.{lines_from, lines_of}
use Rattle.cm_loop.proofs.Parts.{lines_empty, lines_parts}
use Rattle.cm_loop.proofs.text.+fn-text_up_to-join+arg3+text_up_to.Goals as goal

pub returns-in_default : goal.returns-in_default
returns-in_default g t c = c.new.ensures ∙ lines_empty c.args.sub c.args.job.now c.args.words.now c.in_default.ensures

pub returns : goal.returns
returns g t c =
    let from : ℕ = length c.in-Some.before.now in
    let part = subst (λ r. IfOk r (λ part. part.items ≡ lines_from c.args.sub c.args.job.now from c.in-Some.last.now)) c.in_ok-part.was c.join-part.ensures.first in
    let text = subst (λ r. IfOk r (λ text. text ≡ lines_of c.args.sub c.args.job.now c.in-Some.before.now)) c.in_ok-text.was c.join-part.ensures.second in
    IfOk-weaker c.with.result _ _ (λ longer is. lines_parts c.args.sub from c.args.job.now c.args.words.now c.in-Some.before.now c.in-Some.last.now c.in_ok-text.field-0 c.in_ok-part.field-0.items longer c.in-Some.ensures refl text part is) c.with.ensures
