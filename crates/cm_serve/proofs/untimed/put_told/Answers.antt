use Rattle.std.proofs.Common.{◌≡◌, ◌++◌, List, ℕ, OnOk, ap, sym, ◌∙◌, subst}
use Rattle.cm_board.specs.Board.{BoardText}
use Rattle.cm_cmd.specs.Command.{CmdText}
use Rattle.cm_test.specs.Testing.{test_answer}
use Rattle.cm_dialogue.specs.declared.dialogue_line.Untimed.{Untimed}
use Rattle.cm_serve.specs.Untimed.{told}
use Rattle.cm_serve.proofs.untimed.put_told.Goals as goal

pub returns-in-Test : goal.returns-in-Test
returns-in-Test c =
    let playing = c.args.playing.now in
    subst (λ (answer : List ℕ). OnOk c.put_answer.result (c.put_answer.new.text.items ≡ c.args.text.now.items ++ answer))
    (ap (λ (board : BoardText). test_answer board c.cmd.result.now) c.board-board.ensures
    ∙ ap (λ (cmd : CmdText). test_answer playing.setting.board cmd) c.cmd.ensures
    ∙ sym (ap (λ (asked : Untimed). told playing asked) c.in-Test.is))
    c.put_answer.ensures
