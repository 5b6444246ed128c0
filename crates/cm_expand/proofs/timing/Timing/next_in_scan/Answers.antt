use Rattle.std.proofs.Common.{sym}
use Rattle.cm_expand.specs.TimingView.{timing_text}
use Rattle.cm_expand.proofs.Scans.{full_cut, rest_none, rest_some, point_next}
use Rattle.cm_expand.proofs.timing.Timing.next_in_scan.Goals as goal

pub returns-in-None-clause-rest : goal.returns-in-None-clause-rest
returns-in-None-clause-rest c = rest_none (timing_text c.args.self.now) c.args.point.now c.requires.timing c.requires.point c.requires.more (sym c.in-None.ensures)

pub returns-in-None-clause-full : goal.returns-in-None-clause-full
returns-in-None-clause-full c = full_cut (timing_text c.args.self.now) c.args.point.now c.requires.point c.requires.more (sym c.in-None.ensures)

pub returns-in-Some-clause-rest : goal.returns-in-Some-clause-rest
returns-in-Some-clause-rest c = rest_some (timing_text c.args.self.now) c.args.point.now c.in-Some.time c.requires.point c.requires.more

pub returns-in-Some-clause-point : goal.returns-in-Some-clause-point
returns-in-Some-clause-point c = point_next (timing_text c.args.self.now) c.args.point.now c.in-Some.time c.requires.point c.requires.more (sym c.in-Some.ensures)
