use Rattle.std.proofs.Common.{◌≡◌, Bor, List, ℕ, ◌+◌, length, drop, map, sym, ap, subst, ◌∙◌, arith}
use Rattle.cm_base.specs.Words.{values}
use Rattle.cm_base.specs.ReadStop.{Stops}
use Rattle.cm_base.specs.Reading.{at_line}
use Rattle.cm_base.proofs.Refusal.{gives_err}
use Rattle.cm_base.proofs.Values.{at_line_ok, values_next}
use Rattle.cm_board_text.specs.DivisorsText.{divisor_of}
use Rattle.cm_board_text.proofs.BoardPieces.{none_left}
use Rattle.cm_board_text.proofs.DivisorsSaid.{numbers_stop}
use Rattle.cm_board_text.proofs.divisors.read_numbers.Goals as goal

pub loop-word-preserved : goal.loop-word-preserved
loop-word-preserved c =
    let long : c.len.result ≡ length c.loop-word.numbers.items = omega (arith, c.len.ensures) in
    let said = sym c.divisor_after.ensures ∙ at_line_ok c.args.line c.divisor_after.result c.in_ok-number.number c.in_ok-number.ensures in
    let next = values_next (λ word. word.now) 32 divisor_of c.loop-word.numbers.items c.args.words.now c.loop-word.word-index c.len.result _ c.in_ok-number.number c.loop-word-test.true long said in
    c.loop-word.invariant ∙ next
    ∙ ap (λ ns. values 32 divisor_of ns (map (λ word. word.now) (drop (c.loop-word.word-index + 1) c.args.words.now))) (sym c.in_ok-push.ensures.items)

pub returns-in_err-number : goal.returns-in_err-number
returns-in_err-number c =
    let long : c.len.result ≡ length c.loop-word.numbers.items = omega (arith, c.len.ensures) in
    gives_err _ c.from_residual.result c.in_err-number.field-0.0 _ c.from_residual.ensures.1
    (numbers_stop c.args.line c.in_err-number.field-0.0 c.loop-word.numbers.items c.args.words.now c.loop-word.word-index c.len.result _ _ c.loop-word-test.true long c.loop-word.invariant
    (subst (λ r. Stops c.in_err-number.field-0.0 (at_line c.args.line r)) c.divisor_after.ensures c.in_err-number.ensures))

pub returns : goal.returns
returns c =
    ap (at_line c.args.line)
    (none_left (λ (words : List (Bor (List ℕ))). values 32 divisor_of c.loop-word.numbers.items (map (λ word. word.now) words)) _ c.args.words.now
    c.loop-word.word-index c.loop-word-test.false c.loop-word.invariant)
