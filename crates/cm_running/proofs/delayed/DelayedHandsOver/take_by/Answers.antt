use Rattle.std.proofs.Common.{List, sym, ap, ap₂, ◌∙◌, arith}
use Rattle.std.proofs.lemmas.List.{length-set}
use Rattle.cm_expand.specs.Taking.{come}
use Rattle.cm_expand.specs.declared.conv.Conv.{Conv}
use Rattle.cm_running.specs.ToCome.{ToCome}
use Rattle.cm_running.proofs.Takings.{no-more, one-more, one-word}
use Rattle.cm_running.proofs.delayed.DelayedHandsOver.take_by.Goals as goal

pub loop-count-preserved : goal.loop-count-preserved
loop-count-preserved c =
    let way = c.loop-count.invariant in
    let all = c.args.self.now.conversions in
    let next = c.in-Some.ensures.conversions in
    let left = sym (ap (λ (t : ToCome). t.conversions) way.left) ∙ next.0 in
    let rest = c.next_by.new.self.conversions in
    let more = one-more c.args.time c.loop-count.count all c.in-Some.conversion rest way.order way.few left next.1 in
    record {
      order = way.order;
      few = more.0;
      fits = omega (arith, c.loop-count-test.true, way.size);
      left = c.in-Some.ensures.after ∙ ap₂ (λ (cs : List Conv) (t : ToCome). let u : ToCome = record t { conversions = cs } in u) more.1 way.left;
      words = one-word c.loop-count.count all c.in-Some.conversion rest c.loop-count.out left c.loop-count-test.true way.words;
      size = length-set c.loop-count.out c.loop-count.count c.in-Some.conversion.raw ∙ way.size;
    }

pub returns-in_default-clause-count : goal.returns-in_default-clause-count
returns-in_default-clause-count c =
    let way = c.loop-count.invariant in
    let none = sym (ap (λ (t : ToCome). come c.args.time t.conversions) way.left) ∙ c.in_default.ensures.conversions.1 in
    omega (arith, no-more c.args.time c.loop-count.count c.args.self.now.conversions way.order way.few none, c.loop-count-test.true, way.size)
