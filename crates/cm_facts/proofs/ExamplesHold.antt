-- The worked examples, computed.
use Rattle.std.proofs.Common.{refl}
use Rattle.cm_facts.specs.Examples as examples
use Rattle.cm_facts.proofs.Computes.{computes}

pub demo : examples.Demo
unfolding computes
demo = refl

pub bench : examples.Bench
unfolding computes
bench = refl

pub wider : examples.Wider
unfolding computes
wider = refl
