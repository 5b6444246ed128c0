use Rattle.std.proofs.Common.{◌≡◌, length, ap, ◌∙◌, arith}
use Rattle.cm_ring_core.specs.declared.view.RingConstants.{RingConstants}
use Rattle.cm_ring.specs.Roles.{Writing}
use Rattle.cm_ring.specs.Samples.{munged_plan}
use Rattle.cm_ring.proofs.Pieces.{length_munged}
use Rattle.cm_loop.proofs.Works.{waiting_there, all_put}
use Rattle.cm_loop.proofs.work.loop_work.Goals as goal

pub put-requires : goal.put-requires
put-requires g c =
    let i = c.loop.invariant in
    let next : c.stop_asked.new.self.part.next ≡ c.loop.output.part.next = ap (λ (x : Writing). x.part.next) c.stop_asked.ensures.same in
    let now : c.stop_asked.new.self.ring.samples ≡ c.loop.output.ring.samples = ap (λ (x : Writing). x.ring.samples) c.stop_asked.ensures.same in
    let first : c.loop.output.ring.samples ≡ c.args.output.ring.samples = ap (λ (x : RingConstants). x.samples) i.output.1 in
    waiting_there c.args.rule.now (munged_plan c.args.input.now.ring) c.stop_asked.new.self.ring.samples c.stop_asked.new.self.part.next c.loop.output.part.next c.loop.input.part.released c.in-Some-waiting.word c.loop.waiting (now ∙ (first ∙ c.requires.plan))
    i.filtered.within c.in-Some-waiting.is i.filtered.waits next

pub end_whole-requires-clause-whole : goal.end_whole-requires-clause-whole
end_whole-requires-clause-whole g c =
    let i = c.loop.invariant in
    let written : c.stop_asked.new.self.part.written ≡ c.loop.output.part.written = ap (λ (x : Writing). x.part.written) c.stop_asked.ensures.same in
    let now : c.stop_asked.new.self.ring.samples ≡ c.loop.output.ring.samples = ap (λ (x : Writing). x.ring.samples) c.stop_asked.ensures.same in
    let first : c.loop.output.ring.samples ≡ c.args.output.ring.samples = ap (λ (x : RingConstants). x.samples) i.output.1 in
    let mapped = c.map_block-count.ensures.kept in let same = mapped.1 in let still = c.all_came.ensures.kept.1 in
    let all = c.all_came.ensures.all c.if-all_came.true in
    let here : length c.map_block-count.new.input.ring.samples ≡ length c.loop.input.ring.samples = ap (λ (x : RingConstants). length x.samples) mapped.0.1 in
    let size : length c.loop.input.ring.samples ≡ length c.args.input.now.ring.samples = ap (λ (x : RingConstants). length x.samples) i.input.1 in
    let munged = length_munged c.args.input.now.ring in
    all_put c.args.rule.now (munged_plan c.args.input.now.ring) c.stop_asked.new.self.ring.samples c.stop_asked.new.self.part.written c.loop.output.part.next c.loop.input.part.released c.loop.waiting (now ∙ (first ∙ c.requires.plan)) (omega arith)
    c.in-None-waiting.is i.filtered.waits (written ∙ i.published)
