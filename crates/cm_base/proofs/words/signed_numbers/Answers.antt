use Rattle.std.proofs.Common.{◌≡◌, ◌+◌, [], ◌∷◌, ◌++◌, length, drop, map, sym, ap, ◌∙◌, arith, rules, w32, to_z, of_z}
use Rattle.std.proofs.lemmas.Int.{to_z-of_z}
use Rattle.cm_base.specs.Words.{signed_number, values}
use Rattle.cm_base.proofs.Values.{at_line_ok, values_next}
use Rattle.cm_base.proofs.words.signed_numbers.Goals as goal

pub loop-word-preserved : goal.loop-word-preserved
loop-word-preserved c =
    let long : c.len.result ≡ length c.loop-word.numbers.items = omega (arith, c.len.ensures) in
    let said = sym c.signed_after.ensures ∙ at_line_ok c.args.line c.signed_after.result c.in_ok-number.number c.in_ok-number.ensures in
    let next = values_next (λ word. word.now) c.args.count signed_number c.loop-word.numbers.items c.args.words.now c.loop-word.word-index c.len.result _ c.in_ok-number.number c.loop-word-test.true long said in
    let same : to_z w32 (of_z w32 c.in_ok-number.number) ≡ c.in_ok-number.number = to_z-of_z w32 c.in_ok-number.number (record { sfits = search (rules, c.in_ok-number.is, c.branch-number.type_inv) }) in
    c.loop-word.invariant ∙ next
    ∙ ap (λ ns. values c.args.count signed_number ns (map (λ word. word.now) (drop (c.loop-word.word-index + 1) c.args.words.now))) (sym (c.in_ok-push.ensures.items ∙ ap (λ x. c.loop-word.numbers.items ++ x ∷ []) same))
