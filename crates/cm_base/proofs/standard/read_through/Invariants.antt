use Rattle.std.specs.Io.KnownBytes.{Keeps}
use Rattle.cm_base.proofs.standard.read_through.Given as goal

-- nothing was taken by the reads that were interrupted
abbrev pub invariant-loop : goal.invariant-loop
invariant-loop g l = Keeps (g.R.Read.remaining l.fn.reader) (g.R.Read.remaining l.reader)
