use Rattle.cm_stream.specs.Stream.{streaming}
use Rattle.cm_stream.proofs.Streams.{asked_ok}
use Rattle.cm_stream.proofs.stream.ScanStream.ask_stop.Goals as goal

pub invariant_of-self : goal.invariant_of-self
invariant_of-self g c = asked_ok (streaming c.self.inside.n c.self.inside.reader) c.self.inside.found c.self.invariant c.ask_stop.new.self c.ask_stop.ensures
