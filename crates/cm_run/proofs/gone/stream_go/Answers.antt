use Rattle.cm_expand.specs.PlanView.{plan_text}
use Rattle.cm_client.proofs.Accepted.{ring_accepts}
use Rattle.cm_run.proofs.gone.stream_go.Goals as goal

pub stream_command-requires-clause-accepts : goal.stream_command-requires-clause-accepts
stream_command-requires-clause-accepts g c κs within =
    ring_accepts (plan_text c.args.go.plan) c.is_paced.result (g.C.Consumer.accepts c.args.consumer) c.args.go.plan.fits.some c.requires.accepts
