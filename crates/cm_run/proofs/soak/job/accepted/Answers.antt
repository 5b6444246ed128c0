use Rattle.std.proofs.Common.{ap, ◌∙◌}
use Rattle.cm_board.specs.Board.{SubText}
use Rattle.cm_cmd.specs.Command.{CmdText}
use Rattle.cm_test.specs.Questions.{tested}
use Rattle.cm_run.specs.SoakJob.{soak_sub}
use Rattle.cm_run.proofs.SoakAccepted.{passes}
use Rattle.cm_run.proofs.soak.job.accepted.Goals as goal

pub unreachable-requires : goal.unreachable-requires
unreachable-requires c =
    c.in-Err.ensures.0
    (ap (λ (s : SubText). (tested s c.args.cmd).0) c.requires.sub ∙ ap (λ (x : CmdText). (tested soak_sub x).0) c.requires.cmd
    ∙ passes c.args.index c.args.count c.requires.count.0 c.requires.count.1)
