use Rattle.std.proofs.Common.{◌≡◌, sym, subst}
use Rattle.cm_job.specs.Job.{IsRunJob, RunJobText}
use Rattle.cm_run.specs.SoakJob.{soak_job}
use Rattle.cm_run.proofs.SoakJobs.{is_job}
use Rattle.cm_run.proofs.soak.job.soak_job.Goals as goal

pub invariant_of-result : goal.invariant_of-result
invariant_of-result c =
    let same : ◌≡◌ {A = RunJobText} (record { board = c.in_ok-board.board; signals = c.in_ok-signals.signals; lines = c.in_ok-lines.lines.items }) (soak_job c.args.n) =
    λ i. record { board = c.in_ok-board.ensures i; signals = c.in_ok-signals.ensures i; lines = c.in_ok-lines.ensures i } in
    subst IsRunJob (sym same) (is_job c.args.n c.requires.1)
