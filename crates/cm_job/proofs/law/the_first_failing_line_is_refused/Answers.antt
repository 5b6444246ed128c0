use Rattle.std.specs.Prelude.{[]}
use Rattle.cm_base.proofs.Refusal.{refuses_first}
use Rattle.cm_job.specs.ExpandLines as expands
use Rattle.cm_job.specs.LoopPart as loops
use Rattle.cm_job.specs.RunPart as runs
use Rattle.cm_job.specs.TestLines as tests
use Rattle.cm_job.proofs.LoopLines.{job_of_its_lines}
use Rattle.cm_job.proofs.law.the_first_failing_line_is_refused.Goals as goal

pub returns : goal.returns
returns c = record {
  streamed = λ session board signals. refuses_first (runs.line_after session board signals) [];
  expanded = λ board signals. refuses_first (expands.line_after board signals) [];
  tested = λ board. refuses_first (λ before line. tests.test_line board line) [];
  looped = λ board signals. refuses_first (loops.line_after board signals) [];
  of_lines = job_of_its_lines;
}
