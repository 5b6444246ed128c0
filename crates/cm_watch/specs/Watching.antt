-- A watch job.
use Rattle.std.specs.List.{All}
use Rattle.cm_job.specs.Job.{RunJobText}
use Rattle.cm_job.specs.WatchLines.{IsWatched}

-- a run job whose lines can be watched
abbrev pub IsWatchJob : RunJobText → Type 0
IsWatchJob job = All (IsWatched job.board) job.lines
