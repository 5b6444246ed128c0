use Rattle.std.proofs.Common.{Bool, None, Some, ap, sym, subst, ◌∙◌}
use Rattle.std.proofs.lemmas.Bool.{cond-false, ne_eqb}
use Rattle.std.specs.Prelude.{◌≢◌, ◌&&◌, ◌==◌}
use Rattle.cm_board.specs.Board.{takes_commands}
use Rattle.cm_cmd.specs.Command.{CmdText}
use Rattle.cm_test.specs.Questions.{tested}
use Rattle.cm_replay.proofs.trying.try_on.Goals as goal

pub returns : goal.returns
returns c =
    let sub = c.args.sub.now in
    let cmd = c.args.cmd.now in
    let step = (tested sub cmd).0 in
    let fails : step ≢ 0 = subst (λ (cmd : CmdText). (tested sub cmd).0 ≢ 0) c.in_ok-copy.ensures c.in-Err.ensures.0 in
    sym (cond-false (takes_commands sub && step == 0) (Some cmd) None (ap (λ (takes : Bool). takes && step == 0) c.requires.takes ∙ ne_eqb step 0 fails))
