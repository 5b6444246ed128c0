use Rattle.std.proofs.Common.{sym}
use Rattle.cm_job.proofs.LoopKept.{called-from}
use Rattle.cm_job.proofs.loop_accepting.accept_loop.Goals as goal

pub ask_rules-requires-clause-input : goal.ask_rules-requires-clause-input
ask_rules-requires-clause-input c =
    (called-from c.args.board.now c.args.signals.now c.args.asked c.in_ok-line.line c.requires.t_in c.requires.t_out (sym c.in_ok-line.ensures)).input

pub ask_rules-requires-clause-output : goal.ask_rules-requires-clause-output
ask_rules-requires-clause-output c =
    (called-from c.args.board.now c.args.signals.now c.args.asked c.in_ok-line.line c.requires.t_in c.requires.t_out (sym c.in_ok-line.ensures)).output
