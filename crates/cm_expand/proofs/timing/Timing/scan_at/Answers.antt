use Rattle.std.proofs.Common.{sym}
use Rattle.cm_expand.specs.TimingView.{timing_text}
use Rattle.cm_expand.proofs.Scans.{full_none, scan_none}
use Rattle.cm_expand.proofs.timing.Timing.scan_at.Goals as goal

pub returns-in-None-clause-rest : goal.returns-in-None-clause-rest
returns-in-None-clause-rest c = sym (scan_none (timing_text c.args.self.now) c.args.begin.now.time c.args.left c.requires.timing c.requires.begin.before_end c.in-None.ensures)

pub returns-in-None-clause-full : goal.returns-in-None-clause-full
returns-in-None-clause-full c = sym (full_none (timing_text c.args.self.now) c.args.begin.now.time _ c.requires.timing c.in-None.ensures)
