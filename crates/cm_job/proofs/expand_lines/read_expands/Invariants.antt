use Rattle.std.proofs.Common.{◌≡◌, length}
use Rattle.std.specs.List.{All}
use Rattle.cm_base.specs.Reading.{read_each}
use Rattle.cm_expand.specs.Totals.{Reports, length_of_all}
use Rattle.cm_job.specs.ExpandLines.{CanExpand, expands_of, line_after, plan_of}
use Rattle.cm_job.proofs.expand_lines.read_expands.Given as goal

-- the lines so far and their conversions, after which those of the lines that are left stand
abbrev pub invariant-loop-all : goal.invariant-loop-all
invariant-loop-all l = record {
  reported : expands_of l.board l.signals l.initial.lines ≡ read_each (line_after l.board l.signals) l.all.items l.lines;
  total : Reports l.total (length_of_all (plan_of l.board l.signals) l.all.items);
  can : All (CanExpand l.board l.signals) l.all.items;
}

abbrev pub decreases-loop-all : goal.decreases-loop-all
decreases-loop-all l = length l.lines
