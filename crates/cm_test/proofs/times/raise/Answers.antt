use Rattle.std.proofs.Common.{arith}
use Rattle.cm_test.specs.Steps.{scan_time}
use Rattle.cm_test.proofs.Made.{up_above}
use Rattle.cm_test.proofs.times.raise.Goals as goal

pub scan_time-least-requires-clause-fits : goal.scan_time-least-requires-clause-fits
scan_time-least-requires-clause-fits c =
    let above = up_above c.args.sub.now.timers (scan_time c.args.sub.now c.args.cmd.now) in
    let fits = c.requires.fits in
    omega arith
