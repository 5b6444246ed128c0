use Rattle.std.proofs.Common.{sym, ◌∙◌, subst}
use Rattle.std.specs.List.{All}
use Rattle.cm_job.specs.Job.{RunJobText}
use Rattle.cm_job.specs.WatchLines.{IsWatched}
use Rattle.cm_watch.proofs.watching.watch_job.Goals as goal

pub watch_lines-requires-clause-watched : goal.watch_lines-requires-clause-watched
watch_lines-requires-clause-watched g c κs within =
    subst (All (IsWatched c.job.inside.board)) (sym c.deref.ensures.value)
    (subst (λ (j : RunJobText). All (IsWatched j.board) j.lines) (sym (c.job.view_is ∙ c.job-job.ensures.job)) c.job-job.ensures.watched)
