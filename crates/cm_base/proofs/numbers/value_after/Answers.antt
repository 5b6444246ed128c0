use Rattle.std.proofs.Common.{◌≡◌, ℕ, List, Some, None, true, cond, get_or, ap, sym, ◌∙◌, arith}
use Rattle.std.specs.Char.{is_ascii_digit}
use Rattle.std.specs.Str.Parse.{digits_value}
use Rattle.std.proofs.lemmas.List.{take_all}
use Rattle.cm_base.proofs.Digits.{below_limit, below_all, digit_at, digits_more, no_digits, no_more, short_more, value_more}
use Rattle.cm_base.proofs.numbers.value_after.Goals as goal

pub returns-then-not-is_ascii_digit-clause-value : goal.returns-then-not-is_ascii_digit-clause-value
returns-then-not-is_ascii_digit-clause-value c =
    let word : List ℕ = c.args.word.now in
    let none = no_digits word c.loop-at.at c.loop-at-test.true (sym c.is_ascii_digit.ensures.value ∙ c.if-not-is_ascii_digit.true) in
    sym (ap (λ b. cond b (Some (digits_value 10 word)) None) (c.loop-at.invariant.digits ∙ none))

pub overflow_mul-value : goal.overflow_mul-value
overflow_mul-value c = let small = below_limit c.loop-at.value c.loop-at.at c.loop-at.invariant.short (omega arith) in omega arith

pub overflow_add-value : goal.overflow_add-value
overflow_add-value c =
    let small = below_limit c.loop-at.value c.loop-at.at c.loop-at.invariant.short (omega arith) in
    let is : is_ascii_digit (get_or c.args.word.now c.loop-at.at 0) ≡ true = sym c.is_ascii_digit.ensures.value ∙ c.if-not-is_ascii_digit.false in
    omega (arith, small, digit_at (get_or c.args.word.now c.loop-at.at 0) is)

pub loop-at-preserved : goal.loop-at-preserved
loop-at-preserved c =
    let word : List ℕ = c.args.word.now in
    let is : is_ascii_digit (get_or word c.loop-at.at 0) ≡ true = sym c.is_ascii_digit.ensures.value ∙ c.if-not-is_ascii_digit.false in
    let digit = digit_at (get_or word c.loop-at.at 0) is in
    record {
      value = value_more word c.loop-at.at c.loop-at.value c.loop-at-test.true is c.loop-at.invariant.value;
      short = short_more c.loop-at.value _ c.loop-at.at c.loop-at.invariant.short (omega (arith, digit));
      digits = c.loop-at.invariant.digits ∙ digits_more word c.loop-at.at c.loop-at-test.true is;
      within = omega arith;
    }

pub returns-clause-value : goal.returns-clause-value
returns-clause-value c =
    let word : List ℕ = c.args.word.now in
    let all = no_more word c.loop-at.at (omega arith) in
    let whole = c.loop-at.invariant.value ∙ ap (digits_value 10) (take_all c.loop-at.at word (omega arith)) in
    ap Some whole ∙ sym (ap (λ b. cond b (Some (digits_value 10 word)) None) (c.loop-at.invariant.digits ∙ all))

pub returns-clause-bound : goal.returns-clause-bound
returns-clause-bound c = below_all c.loop-at.value c.loop-at.at c.loop-at.invariant.short (omega arith)
