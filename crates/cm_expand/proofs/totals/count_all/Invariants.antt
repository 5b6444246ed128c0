use Rattle.std.proofs.Common.{◌≡◌, ◌+◌, ◌≤◌, drop}
use Rattle.cm_expand.specs.Totals.{length_of_all}
use Rattle.cm_expand.proofs.Rooms.{plan_by}
use Rattle.cm_expand.proofs.totals.count_all.Given as goal

-- the conversions that are counted, and those of the lines that are left
abbrev pub invariant-loop-line : goal.invariant-loop-line
invariant-loop-line g l =
    let plan = plan_by g.C.Call.call l.board l.signals in
    record {
      all : l.count + length_of_all plan (drop l.line-index l.lines) ≡ length_of_all plan l.lines;
      few : l.count ≤ 4000000;
    }
