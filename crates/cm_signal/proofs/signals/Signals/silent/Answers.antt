use Rattle.cm_signal.proofs.Grown.{silent_like}
use Rattle.cm_signal.proofs.signals.Signals.silent.Goals as goal

pub invariant_of-result : goal.invariant_of-result
invariant_of-result c =
    silent_like c.args.horizon c.new.result.items c.in_ok-no_edges.field-0.items c.in_ok-no_edges-2.field-0.items c.new-2.result.items c.new.ensures.items c.in_ok-no_edges.ensures c.in_ok-no_edges-2.ensures c.new-2.ensures.items c.requires
