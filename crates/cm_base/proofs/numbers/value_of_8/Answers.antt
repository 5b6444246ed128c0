use Rattle.std.proofs.Common.{◌≡◌, ℕ, List, get_or, take, true, ap, ◌∙◌, arith}
use Rattle.std.specs.Char.{is_ascii_digit}
use Rattle.std.specs.Str.Parse.{digits_value}
use Rattle.cm_base.proofs.Digits.{below_limit, digit_at, digits_more, short_more, value_more}
use Rattle.cm_base.proofs.numbers.value_of_8.Goals as goal

pub overflow_mul-value : goal.overflow_mul-value
overflow_mul-value c = let small = below_limit c.loop-at.value c.loop-at.at c.loop-at.invariant.short (omega arith) in omega arith

pub overflow_sub-value : goal.overflow_sub-value
overflow_sub-value c =
    let is : is_ascii_digit (get_or c.args.word.now c.loop-at.at 0) ≡ true = c.requires.digits c.loop-at.at (omega arith) in
    omega (arith, digit_at (get_or c.args.word.now c.loop-at.at 0) is)

pub overflow_add-value : goal.overflow_add-value
overflow_add-value c =
    let small = below_limit c.loop-at.value c.loop-at.at c.loop-at.invariant.short (omega arith) in
    let is : is_ascii_digit (get_or c.args.word.now c.loop-at.at 0) ≡ true = c.requires.digits c.loop-at.at (omega arith) in
    omega (arith, digit_at (get_or c.args.word.now c.loop-at.at 0) is)

pub loop-at-preserved : goal.loop-at-preserved
loop-at-preserved c =
    let word : List ℕ = c.args.word.now in
    let is : is_ascii_digit (get_or word c.loop-at.at 0) ≡ true = c.requires.digits c.loop-at.at (omega arith) in
    let digit = digit_at (get_or word c.loop-at.at 0) is in
    record {
      value = value_more word c.loop-at.at c.loop-at.value (omega arith) is c.loop-at.invariant.value;
      short = short_more c.loop-at.value _ c.loop-at.at c.loop-at.invariant.short (omega (arith, digit));
      digits = c.loop-at.invariant.digits ∙ digits_more word c.loop-at.at (omega arith) is;
    }

pub returns-clause-value : goal.returns-clause-value
returns-clause-value c =
    let word : List ℕ = c.args.word.now in
    let all : c.loop-at.at ≡ 8 = omega arith in
    c.loop-at.invariant.value ∙ ap (λ (n : ℕ). digits_value 10 (take n word)) all
