use Rattle.std.proofs.Common.{◌+◌, ◌-◌, ◌<◌, length, sym, ◌∙◌, ap, arith}
use Rattle.std.proofs.lemmas.Option.{get_or_from_slice_get, slice_get_within}
use Rattle.cm_signal.specs.Adding.{rises_from}
use Rattle.cm_signal.proofs.Grown.{rises_after_is}
use Rattle.cm_signal.proofs.adding.rises_after.Goals as goal

pub returns-in-Some : goal.returns-in-Some
returns-in-Some c =
    let before = c.args.before.now in
    let last = get_or_from_slice_get before (length before - 1) c.in-Some.last.now 0 (sym c.in-Some.ensures.value) in
    let inside = slice_get_within before (length before - 1) c.in-Some.last.now (sym c.in-Some.ensures.value) in
    let some : 0 < length before = omega arith in
    c.rises_from-in-Some.ensures ∙ ap (λ n. rises_from (n + 1) c.args.times.now) (sym last) ∙ sym (rises_after_is before c.args.times.now c.requires.rise some)
