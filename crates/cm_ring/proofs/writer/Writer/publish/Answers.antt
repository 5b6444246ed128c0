use Rattle.cm_ring.proofs.Writers.{published, published_view}
use Rattle.cm_ring.proofs.writer.Writer.publish.Goals as goal

pub invariant_of-self : goal.invariant_of-self
invariant_of-self g c = published _ _ _ _ _ _ _ _ _ c.self.invariant c.publish_written.ensures.same c.publish_written.ensures.gives

pub returns : goal.returns
returns g c = published_view _ _ c.self.inside.seat c.publish_written.new.seat _ _ _ _ _ c.self.invariant c.publish_written.ensures.same c.publish_written.ensures.gives c.args.self.now c.self.view_is
