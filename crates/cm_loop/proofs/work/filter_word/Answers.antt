use Rattle.cm_ring.specs.Samples.{munged_plan}
use Rattle.cm_loop.proofs.Works.{put_there}
use Rattle.cm_loop.proofs.work.filter_word.Goals as goal

pub put-requires : goal.put-requires
put-requires g c =
    put_there c.args.rule.now (munged_plan c.args.input.now.ring) c.args.output.now.ring.samples c.args.output.now.part.next _ c.next_answer-answer.result c.requires.plan c.next_answer-answer.ensures.within c.requires.filtered.waits
    c.next_answer-answer.ensures.answer
