-- How contracts see a loop job.
use Rattle.cm_job.specs.LoopJob.{LoopJobText}
use Rattle.cm_job.specs.declared.loop_job.LoopJob.TheInside.{Inside}

-- a loop job as contracts see it
abbrev pub job_text : Inside → LoopJobText
job_text j = record {
  board = j.board;
  signals = j.signals;
  t_in = j.t_in;
  t_out = j.t_out;
  window = j.window;
  input = j.input;
  output = j.output;
}
