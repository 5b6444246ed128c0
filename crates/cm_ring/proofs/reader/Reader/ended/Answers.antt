use Rattle.cm_ring.proofs.Readers.{found_sound, found_says, found_above, if_some}
use Rattle.cm_ring.proofs.reader.Reader.ended.Goals as goal

pub invariant_of-self : goal.invariant_of-self
invariant_of-self g c = found_sound _ _ _ _ _ _ _ _ _ _ c.self.invariant c.load_end-word.ensures.same _ c.load_end-word.ensures.gives

pub returns-clause-says : goal.returns-clause-says
returns-clause-says g c = if_some c.end_from.result _
    (found_says _ _ c.self.inside.seat c.load_end-word.new.seat _ _ _ _ _ _ c.self.invariant _ c.load_end-word.ensures.gives c.end_from.result c.end_from.ensures c.args.self.now c.self.view_is)

pub returns-clause-above : goal.returns-clause-above
returns-clause-above g c = if_some c.end_from.result _
    (found_above _ _ c.self.inside.seat c.load_end-word.new.seat _ _ _ _ _ _ c.self.invariant _ c.load_end-word.ensures.gives c.end_from.result c.end_from.ensures c.args.self.now c.self.view_is)
