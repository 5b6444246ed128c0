use Rattle.std.proofs.Common.{arith}
use Rattle.cm_expand.specs.Items.{items_of}
use Rattle.cm_expand.specs.PlanView.{plan_text}
use Rattle.cm_job.proofs.Later.{goes_on, next_at, none_at, not_later, passed_at, puts_end, samples_end}
use Rattle.cm_job.proofs.ahead.walks_ahead.Goals as goal

pub returns-in_default : goal.returns-in_default
returns-in_default c =
    let p = plan_text c.args.input in let q = plan_text c.args.output in let at = c.loop.invariant in
    samples_end (items_of p) (items_of q) c.loop.counter at.rest (none_at p c.loop.inputs c.loop.counter c.next_time.result at.input c.next_time.ensures c.in_default.is)

pub returns-in_default-next_time : goal.returns-in_default-next_time
returns-in_default-next_time c =
    let p = plan_text c.args.input in let q = plan_text c.args.output in let at = c.loop.invariant in
    puts_end (items_of p) (items_of q) c.loop.counter at.rest (none_at q c.loop.outputs c.loop.counter c.next_time-in-loop.result at.output c.next_time-in-loop.ensures c.in_default-next_time.is)

pub returns-then-put-sample : goal.returns-then-put-sample
returns-then-put-sample c =
    let p = plan_text c.args.input in let q = plan_text c.args.output in let at = c.loop.invariant in
    let sample = next_at p c.loop.inputs c.loop.counter c.next_time.result c.in-Some.sample at.input c.next_time.ensures c.in-Some.is in
    let put = next_at q c.loop.outputs c.loop.counter c.next_time-in-loop.result c.in-Some-next_time.put at.output c.next_time-in-loop.ensures c.in-Some-next_time.is in
    not_later (items_of p) (items_of q) c.loop.counter at.rest sample.0 put.0 sample.1 put.1 (let s = sample.2 in let t = put.2 in omega (arith, c.if-put-sample.true))

pub loop-preserved : goal.loop-preserved
loop-preserved c =
    let p = plan_text c.args.input in let q = plan_text c.args.output in let at = c.loop.invariant in
    let sample = next_at p c.loop.inputs c.loop.counter c.next_time.result c.in-Some.sample at.input c.next_time.ensures c.in-Some.is in
    let put = next_at q c.loop.outputs c.loop.counter c.next_time-in-loop.result c.in-Some-next_time.put at.output c.next_time-in-loop.ensures c.in-Some-next_time.is in
    record {
      input = passed_at p c.loop.inputs c.pass.new.self c.loop.counter sample.0 at.input sample.1 c.pass.ensures;
      output = passed_at q c.loop.outputs c.pass-in-loop.new.self c.loop.counter put.0 at.output put.1 c.pass-in-loop.ensures;
      rest = goes_on (items_of p) (items_of q) c.loop.counter at.rest sample.0 put.0 sample.1 put.1 (let s = sample.2 in let t = put.2 in omega (arith, c.if-put-sample.false));
    }
