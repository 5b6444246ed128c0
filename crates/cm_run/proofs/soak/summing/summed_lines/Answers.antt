use Rattle.std.proofs.Common.{of_calls}
use Rattle.std.proofs.lemmas.Result.{IfOk-weaker}
use Rattle.cm_run.proofs.Made.{all_made}
use Rattle.cm_run.proofs.soak.summing.summed_lines.Goals as goal

pub returns : goal.returns
returns g c = IfOk-weaker c.stream_lines.result _ _ (λ v made. all_made _ c.args.job.now.lines v.items made.1.size (λ place one is. let post = (made.1.each place one is).3 in search of_calls)) c.stream_lines.ensures
