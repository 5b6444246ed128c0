-- Answers to commands that are tested.
use Rattle.std.proofs.Common.{◌≡◌, ℕ, ◌+◌, ◌<◌, ◌≤◌, List, [], ◌++◌, length, get_or, drop, Option, ap, subst}
use Rattle.std.proofs.lemmas.List.{drop_all}
use Rattle.cm_base.specs.Transfer.{IsUnderWay}
use Rattle.cm_base.proofs.UnderWay.{under_way-more}
use Rattle.cm_board.specs.Board.{BoardText}
use Rattle.cm_cmd.specs.Command.{CmdText}
use Rattle.cm_test.specs.Testing.{test_answer}
use Rattle.cm_cli.specs.TestSession.{tests_text}
use Rattle.cm_base.proofs.Elements.{left-next}

-- one command more is answered
pub test-answered : (board : BoardText) (a b : Option (List ℕ)) (cmds : List CmdText) (i : ℕ) (cmd : CmdText) (text more whole : List ℕ) → i < length cmds → cmd ≡ get_or cmds i cmd →
    more ≡ text ++ test_answer board cmd → IsUnderWay a b text (tests_text board (drop i cmds)) whole → IsUnderWay a b more (tests_text board (drop (i + 1) cmds)) whole
test-answered board a b cmds i cmd text more whole within is reported way =
    under_way-more a b text more (test_answer board cmd) (tests_text board (drop (i + 1) cmds)) whole reported
    (subst (λ (cs : List CmdText). IsUnderWay a b text (tests_text board cs) whole) (left-next cmds i cmd within is) way)

pub all-tested : (board : BoardText) (cmds : List CmdText) (i : ℕ) → length cmds ≤ i → tests_text board (drop i cmds) ≡ []
all-tested board cmds i after = ap (λ (cs : List CmdText). tests_text board cs) (drop_all i cmds after)
