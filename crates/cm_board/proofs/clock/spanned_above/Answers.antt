use Rattle.std.proofs.Common.{◌≡◌, ◌∙◌, ◌+◌, ◌-◌, ◌^◌, ap, sym, arith, min}
use Rattle.std.specs.List.{range_with_len}
use Rattle.cm_board.specs.Times.{are_multiples, least_to, is_one, numbers}
use Rattle.cm_board.proofs.Products.{no_range_above, range_above}
use Rattle.cm_board.proofs.Searches.{least_is}
use Rattle.cm_board.proofs.clock.spanned_above.Goals as goal

pub loop-number-init : goal.loop-number-init
loop-number-init c =
    let past = (least_is (are_multiples (range_with_len c.args.first (c.args.end - c.args.first)) (is_one (numbers c.args.other.now))) (2 ^ 32) c.args.bound (omega arith)).not_past in
    record { best = omega arith; within = omega arith }

pub loop-number-preserved : goal.loop-number-preserved
loop-number-preserved c =
    let has = is_one (numbers c.args.other.now) in
    let a = c.loop-number.number in
    record {
      best =
          ap (λ n. min n (least_to (are_multiples (range_with_len (a + 1) (c.args.end - (a + 1))) has) c.args.bound)) (c.min-best.ensures ∙ ap (λ n. min n c.loop-number.best) c.multiple_above.ensures.value)
          ∙ (range_above has a c.args.end (2 ^ 32) c.args.bound c.loop-number.best (omega arith) c.loop-number-test.true ∙ c.loop-number.invariant.best);
      within = let low = c.multiple_above.ensures.within in omega arith;
    }

pub returns-clause-value : goal.returns-clause-value
returns-clause-value c =
    let none = no_range_above (is_one (numbers c.args.other.now)) c.loop-number.number (c.args.end - c.loop-number.number) (2 ^ 32) c.args.bound (omega arith) (omega arith) in
    let best : c.loop-number.best ≡ min c.loop-number.best _ = sym (ap (min c.loop-number.best) none ∙ omega arith) in
    best ∙ c.loop-number.invariant.best
