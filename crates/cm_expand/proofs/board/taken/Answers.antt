use Rattle.std.proofs.Common.{◌≡◌, ◌+◌, ◌-◌, ◌*◌, ◌^◌, ◌<◌, drop, length, map, take, drop-drop, length-drop, Some, refl, sym, ap, subst, ◌∙◌, arith}
use Rattle.std.proofs.lemmas.List.{length-take-le}
use Rattle.cm_signal.specs.Adding.{progression}
use Rattle.cm_expand.specs.Board.{IsBoard, progress_of}
use Rattle.cm_expand.specs.Items.{items_of, raw_at}
use Rattle.cm_expand.specs.PlanView.{plan_text}
use Rattle.cm_expand.specs.Taking.{come_first}
use Rattle.cm_expand.specs.declared.timing.Next.TheVariants.{At}
use Rattle.cm_expand.proofs.Boards.{board_follows, runs_at}
use Rattle.cm_expand.proofs.Taken.{board_train, put_middle, taken_first, train_small, words_and_more}
use Rattle.cm_expand.proofs.Taking.{late_first, none_left}
use Rattle.cm_expand.proofs.board.taken.Goals as goal

pub loop-count-init : goal.loop-count-init
loop-count-init c =
    let p = plan_text c.args.plan.now in
    let here : c.args.place ≡ c.args.place + 0 = omega arith in
    record {
      size = refl;
      within = omega arith;
      words = refl;
      come = omega arith;
      board = subst (λ place. IsBoard p place (progress_of (Some c.args.timing.now) c.args.from)) here c.requires.board;
    }

pub loop-count-preserved : goal.loop-count-preserved
loop-count-preserved c =
    let p = plan_text c.args.plan.now in
    let place = c.args.place in
    let timing = c.args.timing.now in
    let count = c.loop-count.count in
    let out = c.loop-count.out in
    let now = c.in-At.now in
    let train = c.train-train.result in
    let is_train = c.train-train.ensures.train in
    let words = c.put_raws.new.words in
    let is = runs_at p (place + count) (Some timing) c.loop-count.point (At now) timing refl c.in-At.is c.loop-count.invariant.board in
    let first = taken_first p place count c.args.time timing now train is is_train c.train-train.ensures.come in
    let room = c.min-most.ensures in
    let most = c.train-train.ensures.most in
    let some = is_train.some in
    let size = c.loop-count.invariant.size in
    let k : count + train.count - count ≡ train.count = omega arith in
    let lent : length (take (count + train.count - count) (drop count out)) ≡ train.count = omega (arith, length-take-le (count + train.count - count) (drop count out), length-drop count out) in
    let many : length words ≡ train.count = c.put_raws.auto.words ∙ lent in
    let these = c.put_raws.ensures ∙ ap (λ n. map (raw_at p now.index) (progression now.time train.step n)) lent in
    let follows = board_follows p (place + count + (train.count - 1)) (Some timing) timing train.last c.following-point.result refl (board_train p (place + count) timing now train is is_train)
    c.following-point.ensures.rest c.following-point.ensures.full c.following-point.ensures.point c.following-point.ensures.index in
    let there : place + count + (train.count - 1) + 1 ≡ place + (count + train.count) = omega arith in
    let come = c.loop-count.invariant.come in
    let later = ap (come_first c.args.time) (drop-drop train.count count (drop place (items_of p))) in
    let sooner = first.come in
    record {
      size = put_middle count (count + train.count - count) out words (omega arith) (omega arith) ∙ size;
      within = omega (arith, put_middle count (count + train.count - count) out words (omega arith) (omega arith));
      words = words_and_more p place count (count + train.count - count) (count + train.count) c.args.time now train out words (omega arith) many refl c.loop-count.invariant.words these first;
      come = omega arith;
      board = subst (λ place. IsBoard p place (progress_of (Some timing) c.following-point.result)) there follows;
    }

pub put_raws-requires-clause-small : goal.put_raws-requires-clause-small
put_raws-requires-clause-small c =
    let p = plan_text c.args.plan.now in
    let timing = c.args.timing.now in
    let count = c.loop-count.count in
    let train = c.train-train.result in
    let now = c.in-At.now in
    let is = runs_at p (c.args.place + count) (Some timing) c.loop-count.point (At now) timing refl c.in-At.is c.loop-count.invariant.board in
    let room = c.min-most.ensures in
    let most = c.train-train.ensures.most in
    let lent : length (take (count + train.count - count) (drop count c.loop-count.out)) ≡ train.count = omega (arith, length-take-le (count + train.count - count) (drop count c.loop-count.out), length-drop count c.loop-count.out) in
    subst (λ n. now.time + n * train.step < 2 ^ 64) (sym lent) (train_small timing now train is.running.timing c.train-train.ensures.train c.train-train.ensures.step)

pub returns-in_default-clause-count : goal.returns-in_default-clause-count
returns-in_default-clause-count c =
    let p = plan_text c.args.plan.now in
    let timing = c.args.timing.now in
    let none = ap (come_first c.args.time) (none_left p c.args.place c.loop-count.count (Some timing) c.loop-count.point c.in_default.not-At c.loop-count.invariant.board) in
    let come = c.loop-count.invariant.come in
    let size = c.loop-count.invariant.size in
    omega arith

pub returns-then-time-now-clause-count : goal.returns-then-time-now-clause-count
returns-then-time-now-clause-count c =
    let p = plan_text c.args.plan.now in
    let timing = c.args.timing.now in
    let is = runs_at p (c.args.place + c.loop-count.count) (Some timing) c.loop-count.point (At c.in-At.now) timing refl c.in-At.is c.loop-count.invariant.board in
    let late = late_first p c.args.place c.loop-count.count c.args.time (record { timing = timing; point = c.in-At.now }) is c.if-time-now.true in
    let come = c.loop-count.invariant.come in
    let size = c.loop-count.invariant.size in
    omega arith
