use Rattle.std.proofs.Common.{subst}
use Rattle.cm_signal.specs.Signals as signals
use Rattle.cm_cli.proofs.serving.read_job.Goals as goal

pub invariant_of-result : goal.invariant_of-result
invariant_of-result c = record {
  signals = subst signals.IsSoundSignals c.signals.view_is c.signals.invariant;
  fits = c.requires;
  lines = c.in_ok-session.ensures.order;
}
