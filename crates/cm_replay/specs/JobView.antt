-- How contracts see a job.
use Rattle.cm_replay.specs.Job.{JobText}
use Rattle.cm_replay.specs.declared.job.Job.TheInside.{Inside}

-- a job as contracts see it
abbrev pub job_text : Inside → JobText
job_text j = record { board = j.board; signals = j.signals; lines = j.lines.items }
