use Rattle.std.proofs.Common.{sym, ap, ap₂, ◌∙◌, arith, List}
use Rattle.cm_expand.specs.Taking.{come}
use Rattle.cm_expand.specs.declared.conv.Conv.{Conv}
use Rattle.cm_running.specs.Awaiting.{last_after}
use Rattle.cm_running.specs.ToCome.{ToCome}
use Rattle.cm_running.proofs.Awaited.{passed-all, passed-more}
use Rattle.cm_running.proofs.look_ahead.pass.Goals as goal

pub loop-passed-preserved : goal.loop-passed-preserved
loop-passed-preserved c =
    let way = c.loop-passed.invariant in
    let all = c.args.pending.now.conversions in
    let left = sym (ap (λ (t : ToCome). t.conversions) way.left) ∙ c.in-Some.ensures.conversions.0 in
    let more = passed-more c.args.before all c.loop-passed.passed c.in-Some.conversion c.next_by.new.self.conversions left in
    record {
      few = omega (arith, c.loop-passed-test.true);
      last = more.1;
      left = c.in-Some.ensures.after ∙ ap₂ (λ (cs : List Conv) (t : ToCome). let u : ToCome = record t { conversions = cs } in u) more.0 way.left;
    }

pub returns-in_default-clause-last : goal.returns-in_default-clause-last
returns-in_default-clause-last c =
    let way = c.loop-passed.invariant in
    let none = sym (ap (λ (t : ToCome). come c.args.horizon t.conversions) way.left) ∙ c.in_default.ensures.conversions.1 in
    way.last ∙ ap (last_after c.args.before) (passed-all c.args.horizon c.args.pending.now.conversions c.loop-passed.passed c.args.count c.requires way.few none).1

pub returns-in_default-clause-after : goal.returns-in_default-clause-after
returns-in_default-clause-after c =
    let way = c.loop-passed.invariant in
    let none = sym (ap (λ (t : ToCome). come c.args.horizon t.conversions) way.left) ∙ c.in_default.ensures.conversions.1 in
    c.in_default.ensures.after
    ∙ ap₂ (λ (cs : List Conv) (t : ToCome). let u : ToCome = record t { conversions = cs } in u)
    (c.in_default.ensures.conversions.0 ∙ ap (λ (t : ToCome). t.conversions) way.left ∙ (passed-all c.args.horizon c.args.pending.now.conversions c.loop-passed.passed c.args.count c.requires way.few none).0) way.left
