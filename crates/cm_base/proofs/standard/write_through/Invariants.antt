use Rattle.std.specs.Io.KnownBytes.{Keeps}
use Rattle.cm_base.proofs.standard.write_through.Given as goal

-- nothing was taken by the writes that were interrupted
abbrev pub invariant-loop : goal.invariant-loop
invariant-loop g l = Keeps (g.W.Write.contents l.fn.writer) (g.W.Write.contents l.writer)
