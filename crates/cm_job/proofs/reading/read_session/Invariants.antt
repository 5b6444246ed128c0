use Rattle.std.proofs.Common.{◌≡◌, length}
use Rattle.cm_base.specs.Reading.{read_each}
use Rattle.cm_expand.specs.Totals.{Reports, length_of_all}
use Rattle.cm_job.specs.Calls.{plan_of}
use Rattle.cm_job.specs.RunLines.{AreRunLines}
use Rattle.cm_job.specs.RunPart.{line_after, lines_of}
use Rattle.cm_job.proofs.reading.read_session.Given as goal

-- the lines so far, which can be run, and after which those that are left stand
abbrev pub invariant-loop-all : goal.invariant-loop-all
invariant-loop-all l = record {
  reported : lines_of l.session l.board l.signals l.initial.lines ≡ read_each (line_after l.session l.board l.signals) l.all.items l.lines;
  total : Reports l.total (length_of_all (plan_of l.board l.signals) l.all.items);
  runs : AreRunLines l.board l.signals l.all.items;
}

abbrev pub decreases-loop-all : goal.decreases-loop-all
decreases-loop-all l = length l.lines
