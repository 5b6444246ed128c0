use Rattle.std.proofs.Common.{◌≡◌, ◌∙◌, ◌+◌, ◌-◌, ap, sym, arith, max}
use Rattle.std.specs.List.{range_with_len}
use Rattle.cm_board.specs.Times.{are_multiples, greatest_to, is_one, numbers}
use Rattle.cm_board.proofs.Products.{no_range_below, range_below}
use Rattle.cm_board.proofs.clock.spanned_below.Goals as goal

pub loop-number-preserved : goal.loop-number-preserved
loop-number-preserved c =
    let has = is_one (numbers c.args.other.now) in
    let a = c.loop-number.number in
    record {
      best =
          ap (λ n. max n (greatest_to (are_multiples (range_with_len (a + 1) (c.args.end - (a + 1))) has) c.args.bound)) (c.max-best.ensures ∙ ap (λ n. max n c.loop-number.best) c.multiple_below.ensures.value)
          ∙ (range_below has a c.args.end c.args.bound c.loop-number.best c.loop-number-test.true ∙ c.loop-number.invariant.best);
      within = let low = c.multiple_below.ensures.within in omega arith;
    }

pub returns-clause-value : goal.returns-clause-value
returns-clause-value c =
    let none = no_range_below (is_one (numbers c.args.other.now)) c.loop-number.number (c.args.end - c.loop-number.number) c.args.bound (omega arith) in
    let best : c.loop-number.best ≡ max c.loop-number.best _ = sym (ap (max c.loop-number.best) none ∙ omega arith) in
    best ∙ c.loop-number.invariant.best
