use Rattle.std.proofs.Common.{◌≡◌, ◌≤◌, length}
use Rattle.std.specs.List.{All}
use Rattle.cm_base.specs.Reading.{read_each}
use Rattle.cm_job.specs.TestLines.{test_line, tests_of}
use Rattle.cm_job.proofs.test_lines.read_tests.Given as goal

-- the commands so far, after which those of the lines that are left stand
abbrev pub invariant-loop-cmds : goal.invariant-loop-cmds
invariant-loop-cmds l = record {
  reported : tests_of l.board l.initial.lines ≡ read_each (λ before line. test_line l.board line) l.cmds.items l.lines;
  few : All (λ cmd. length cmd.list ≤ 1024) l.cmds.items;
}

abbrev pub decreases-loop-cmds : goal.decreases-loop-cmds
decreases-loop-cmds l = length l.lines
