-- How contracts see a run job.
use Rattle.cm_job.specs.Job.{RunJobText}
use Rattle.cm_job.specs.declared.job.RunJob.TheInside.{Inside}

-- a run job as contracts see it
abbrev pub job_text : Inside → RunJobText
job_text j = record { board = j.board; signals = j.signals; lines = j.lines.items }
