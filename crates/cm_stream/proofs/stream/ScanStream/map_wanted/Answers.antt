use Rattle.cm_stream.specs.Stream.{streaming}
use Rattle.cm_stream.proofs.Streams.{mapped_ok}
use Rattle.cm_stream.proofs.stream.ScanStream.map_wanted.Goals as goal

pub invariant_of-self : goal.invariant_of-self
invariant_of-self g c =
    mapped_ok (streaming c.self.inside.n c.self.inside.reader) c.self.inside.found c.self.invariant c.map.new.self _ _ _ c.map.ensures.same c.map.ensures.places c.map.ensures.ended
