use Rattle.cm_loop.specs.LoopText.{loop_words}
use Rattle.cm_job.specs.LoopJob.{output_of}
use Rattle.cm_text.proofs.Streams.{drive_streams}
use Rattle.cm_loop.proofs.law.a_loop_puts_its_filter.Goals as goal

pub returns : goal.returns
returns c job = drive_streams (output_of job) (loop_words job)
