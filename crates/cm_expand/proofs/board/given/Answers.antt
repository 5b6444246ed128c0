use Rattle.std.proofs.Common.{◌≡◌, ◌+◌, ◌-◌, ◌*◌, ◌^◌, ◌<◌, length, drop, take, Some, refl, sym, ap, subst, ◌∙◌, arith, length-drop}
use Rattle.std.proofs.lemmas.List.{length-take-le}
use Rattle.cm_sample.specs.Rule.{map_from}
use Rattle.cm_signal.specs.Adding.{progression}
use Rattle.cm_expand.specs.Board.{IsBoard, progress_of}
use Rattle.cm_expand.specs.Items.{conv_at, items_of}
use Rattle.cm_expand.specs.PlanView.{plan_text}
use Rattle.cm_expand.specs.declared.conv.Conv.{Conv}
use Rattle.cm_expand.specs.declared.timing.Next.TheVariants.{At}
use Rattle.cm_expand.proofs.Boards.{board_follows, board_room, runs_at}
use Rattle.cm_expand.proofs.Steps.{convs_and_more, convs_middle, given_first}
use Rattle.cm_expand.proofs.Taken.{board_train, entry_at, train_small}
use Rattle.cm_expand.proofs.Taking.{none_left}
use Rattle.cm_expand.proofs.board.given.Goals as goal

pub loop-count-init : goal.loop-count-init
loop-count-init c =
    let p = plan_text c.args.plan.now in
    let here : c.args.place ≡ c.args.place + 0 = omega arith in
    record {
      size = refl;
      within = omega arith;
      conversions = refl;
      come = omega arith;
      board = subst (λ place. IsBoard p place (progress_of (Some c.args.timing.now) c.args.from)) here c.requires.board;
    }

pub loop-count-preserved : goal.loop-count-preserved
loop-count-preserved c =
    let p = plan_text c.args.plan.now in
    let place = c.args.place in
    let timing = c.args.timing.now in
    let count = c.loop-count.count in
    let out = c.loop-count.out in
    let now = c.in-At.now in
    let train = c.train-train.result in
    let is_train = c.train-train.ensures.train in
    let convs = c.put_convs.new.convs in
    let is = runs_at p (place + count) (Some timing) c.loop-count.point (At now) timing refl c.in-At.is c.loop-count.invariant.board in
    let first = given_first p place count timing now train is is_train in
    let room = c.min-most.ensures in
    let most = c.train-train.ensures.most in
    let some = is_train.some in
    let size = c.loop-count.invariant.size in
    let k : count + train.count - count ≡ train.count = omega arith in
    let lent : length (take (count + train.count - count) (drop count out)) ≡ train.count = omega (arith, length-take-le (count + train.count - count) (drop count out), length-drop count out) in
    let many : length convs ≡ train.count = c.put_convs.auto.convs ∙ lent in
    let these = c.put_convs.ensures ∙ ap (λ n. map_from (conv_at p) (place + count) (progression now.time train.step n)) lent in
    let follows = board_follows p (place + count + (train.count - 1)) (Some timing) timing train.last c.following-point.result refl (board_train p (place + count) timing now train is is_train)
    c.following-point.ensures.rest c.following-point.ensures.full c.following-point.ensures.point c.following-point.ensures.index in
    let there : place + count + (train.count - 1) + 1 ≡ place + (count + train.count) = omega arith in
    let come = c.loop-count.invariant.come in
    let sooner = first.come in
    record {
      size = convs_middle count (count + train.count - count) out convs (omega arith) (omega arith) ∙ size;
      within = omega (arith, convs_middle count (count + train.count - count) out convs (omega arith) (omega arith));
      conversions = convs_and_more p place count (count + train.count - count) (count + train.count) now train out convs (omega arith) many refl c.loop-count.invariant.conversions these first;
      come = omega (arith, length-drop (count + train.count) (drop place (items_of p)), length-drop count (drop place (items_of p)));
      board = subst (λ place. IsBoard p place (progress_of (Some timing) c.following-point.result)) there follows;
    }

pub put_convs-requires-clause-entry : goal.put_convs-requires-clause-entry
put_convs-requires-clause-entry c = λ k below.
    let p = plan_text c.args.plan.now in
    let timing = c.args.timing.now in
    let count = c.loop-count.count in
    let out = c.loop-count.out in
    let train = c.train-train.result in
    let now = c.in-At.now in
    let is = runs_at p (c.args.place + count) (Some timing) c.loop-count.point (At now) timing refl c.in-At.is c.loop-count.invariant.board in
    let room = c.min-most.ensures in
    let most = c.train-train.ensures.most in
    let lent : length (take (count + train.count - count) (drop count out)) ≡ train.count = omega (arith, length-take-le (count + train.count - count) (drop count out), length-drop count out) in
    entry_at p (c.args.place + count) timing now train is c.train-train.ensures.train k (omega (arith, below, lent))

pub put_convs-requires-clause-small : goal.put_convs-requires-clause-small
put_convs-requires-clause-small c =
    let p = plan_text c.args.plan.now in
    let timing = c.args.timing.now in
    let count = c.loop-count.count in
    let train = c.train-train.result in
    let now = c.in-At.now in
    let is = runs_at p (c.args.place + count) (Some timing) c.loop-count.point (At now) timing refl c.in-At.is c.loop-count.invariant.board in
    let room = c.min-most.ensures in
    let most = c.train-train.ensures.most in
    let lent : length (take (count + train.count - count) (drop count c.loop-count.out)) ≡ train.count = omega (arith, length-take-le (count + train.count - count) (drop count c.loop-count.out), length-drop count c.loop-count.out) in
    subst (λ n. now.time + n * train.step < 2 ^ 64) (sym lent) (train_small timing now train is.running.timing c.train-train.ensures.train c.train-train.ensures.step)

pub put_convs-requires-clause-place : goal.put_convs-requires-clause-place
put_convs-requires-clause-place c =
    let p = plan_text c.args.plan.now in
    let timing = c.args.timing.now in
    let count = c.loop-count.count in
    let train = c.train-train.result in
    let is = runs_at p (c.args.place + count) (Some timing) c.loop-count.point (At c.in-At.now) timing refl c.in-At.is c.loop-count.invariant.board in
    let place = board_room p (c.args.place + count) (record { timing = timing; point = c.in-At.now }) is in
    let room = c.min-most.ensures in
    let most = c.train-train.ensures.most in
    let lent : length (take (count + train.count - count) (drop count c.loop-count.out)) ≡ train.count = omega (arith, length-take-le (count + train.count - count) (drop count c.loop-count.out), length-drop count c.loop-count.out) in
    omega arith

pub returns-in_default-clause-count : goal.returns-in_default-clause-count
returns-in_default-clause-count c =
    let p = plan_text c.args.plan.now in
    let timing = c.args.timing.now in
    let none = ap (length {A = Conv}) (none_left p c.args.place c.loop-count.count (Some timing) c.loop-count.point c.in_default.not-At c.loop-count.invariant.board) in
    let come = c.loop-count.invariant.come in
    let size = c.loop-count.invariant.size in
    omega arith

pub overflow_add-place : goal.overflow_add-place
overflow_add-place c =
    let p = plan_text c.args.plan.now in
    let timing = c.args.timing.now in
    let is = runs_at p (c.args.place + c.loop-count.count) (Some timing) c.loop-count.point (At c.in-At.now) timing refl c.in-At.is c.loop-count.invariant.board in
    let room = board_room p (c.args.place + c.loop-count.count) (record { timing = timing; point = c.in-At.now }) is in
    omega arith
