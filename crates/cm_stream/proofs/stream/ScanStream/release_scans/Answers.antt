use Rattle.std.proofs.Common.{◌*◌, ◌≤◌, sym, subst}
use Rattle.cm_stream.specs.Stream.{Streaming, streaming}
use Rattle.cm_stream.proofs.Streams.{scans_ok}
use Rattle.cm_stream.proofs.stream.ScanStream.release_scans.Goals as goal

pub invariant_of-self : goal.invariant_of-self
invariant_of-self g c =
    let mapped = subst (λ (x : Streaming). c.args.scans * x.n ≤ x.reader.mapped) (sym c.self.view_is) c.requires.mapped in
    scans_ok (streaming c.self.inside.n c.self.inside.reader) c.self.inside.found c.args.scans c.self.invariant mapped c.release.new.self c.release.ensures c.mapped.ensures.places
