use Rattle.cm_expand.proofs.Edges.{cuts}
use Rattle.cm_expand.proofs.timing.cut.Goals as goal

pub returns-else-edges-at : goal.returns-else-edges-at
returns-else-edges-at c = cuts _ _ _ c.requires.rise c.loop-at.invariant.within c.loop-at.invariant.below (λ h. c.if-edges-at.false)
