use Rattle.std.proofs.Common.{◌∙◌, ap, List, ℕ, Ok, Err, rules}
use Rattle.cm_base.specs.Stops.{is_byte}
use Rattle.cm_cmd.proofs.Cuts.{three_by_two}
use Rattle.cm_cmd.proofs.separated.three_parts.Goals as goal

pub returns-in_err-second : goal.returns-in_err-second
returns-in_err-second c =
    rw (← three_by_two (is_byte c.args.separator) c.args.text.now c.in-Some.at c.after.result.now (Err c.in_err-second.field-0.0) c.in-Some.ensures.place c.after.ensures c.in_err-second.ensures) (search rules)

pub returns : goal.returns
returns c =
    ap (λ (first : List ℕ). Ok (first, c.in_ok-second.second.now, c.in_ok-second.third.now)) c.before-2.ensures
    ∙ three_by_two (is_byte c.args.separator) c.args.text.now c.in-Some.at c.after.result.now (Ok (c.in_ok-second.second.now, c.in_ok-second.third.now)) c.in-Some.ensures.place c.after.ensures c.in_ok-second.ensures
