use Rattle.std.proofs.Common.{refl, ap, ◌∙◌, subst, arith, ℕ, List, Option, Some, None, Bool, false}
use Rattle.cm_stream.specs.Merging.{HasTurned}
use Rattle.cm_stream.specs.Stream.{Streaming}
use Rattle.cm_stream.specs.declared.step.StreamStep.{StreamStep}
use Rattle.cm_stream.specs.declared.step.StreamStep.TheVariants as steps
use Rattle.cm_stream.proofs.Rounds.{IsUnderWay, over_passed, ended_passed, waiting_passed, all_over}
use Rattle.cm_stream.proofs.round.round.Goals.{in-None, in-Some-Ended, in-Some-Waiting}
use Rattle.cm_stream.proofs.round.round.Goals as goal

pub loop-k-preserved : goal.loop-k-preserved
loop-k-preserved g c =
    let source : ℕ = c.source_at-source.result in let is = c.source_at-source.ensures.source in
    let now : List Streaming = c.loop-k.streams in let new : List Streaming = c.turn.new.streams in
    let Q : Option StreamStep → Type 0 = λ a. HasTurned a source now new in
    elim c.match-turn.branch [
      | in-None w ↦ let t : HasTurned (None) source now new = subst Q (w.in-None.is) c.turn.ensures in over_passed c.args.first c.args.count c.loop-k.k c.loop-k.waits c.args.streams.now now new (None) source c.loop-k.invariant c.requires.0 c.loop-k-test.true is t t.turn c.match-turn.waits w.waits-is
      | in-Some-Ended w ↦ let t : HasTurned (Some steps.Ended) source now new = subst Q (w.in-Some-Ended.is ∙ ap (λ (a : StreamStep). Some a) w.in-Some-Ended.field-0-is) c.turn.ensures in ended_passed c.args.first c.args.count c.loop-k.k c.loop-k.waits c.args.streams.now now new (Some steps.Ended) source c.loop-k.invariant c.requires.0 c.loop-k-test.true is t t.turn c.match-turn.waits w.waits-is
      | in-Some-Waiting w ↦ let t : HasTurned (Some steps.Waiting) source now new = subst Q (w.in-Some-Waiting.is ∙ ap (λ (a : StreamStep). Some a) w.in-Some-Waiting.field-0-is) c.turn.ensures in waiting_passed c.args.first c.args.count c.loop-k.k c.loop-k.waits c.args.streams.now now new (Some steps.Waiting) source c.loop-k.invariant c.requires.0 c.loop-k-test.true is t t.turn c.match-turn.waits w.waits-is
    ]

pub returns-else-waits : goal.returns-else-waits
returns-else-waits g c =
    let way : IsUnderWay c.args.first c.args.count c.loop-k.k false c.args.streams.now c.loop-k.streams =
    subst (λ (b : Bool). IsUnderWay c.args.first c.args.count c.loop-k.k b c.args.streams.now c.loop-k.streams) c.if-waits.false c.loop-k.invariant in
    let all = way.all in let done = c.loop-k-test.false in let most = c.loop-k.auto.k-end in let same = way.have_passed.count in record {
      turns = c.loop-k.k;
      passed = c.loop-k.streams;
      have_passed = way.have_passed;
      ends = (omega arith, refl, all_over c.args.first c.args.count c.loop-k.k c.args.streams.now c.loop-k.streams c.requires.0 done way);
    }
