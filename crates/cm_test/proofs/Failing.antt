-- Which step of its test a command fails, by what the steps ask.
use Rattle.std.proofs.Common.{◌≡◌, ℕ, Bool, ap, ◌∙◌}
use Rattle.std.specs.Prelude.{not, if◌then◌else◌}
use Rattle.cm_board.specs.Board.{SubText}
use Rattle.cm_cmd.specs.Command.{CmdText}
use Rattle.cm_test.specs.Questions.{is_compatible, is_narrow, is_rounded, is_within, tested}
use Rattle.cm_test.specs.Steps.{narrowed, repaired, rounded}
use Rattle.cm_test.specs.ValidList.{is_valid_list}

-- a step, and the command as it leaves it
abbrev pub left_at : ℕ → CmdText → ℕ × CmdText
left_at step cmd = (step, cmd)

-- the test by its five answers
abbrev by_steps : SubText → CmdText → Bool → Bool → Bool → Bool → Bool → ℕ × CmdText
by_steps sub cmd narrow compatible within round valid =
    if not narrow then (1, narrowed sub cmd)
    else (if not compatible then (2, cmd)
    else (if not within then (3, repaired sub cmd)
    else (if not round then (4, rounded sub cmd)
    else (if not valid then (5, cmd) else (0, cmd)))))

pub by_answers : (sub : SubText) (cmd : CmdText) (n c w r v : Bool) → is_narrow sub cmd ≡ n → is_compatible sub cmd ≡ c → is_within sub cmd ≡ w → is_rounded sub cmd ≡ r → is_valid_list sub cmd.list ≡ v →
    tested sub cmd ≡ by_steps sub cmd n c w r v
by_answers sub cmd n c w r v narrow compatible within round valid =
    ap (λ x. by_steps sub cmd x (is_compatible sub cmd) (is_within sub cmd) (is_rounded sub cmd) (is_valid_list sub cmd.list)) narrow
    ∙ ap (λ x. by_steps sub cmd n x (is_within sub cmd) (is_rounded sub cmd) (is_valid_list sub cmd.list)) compatible
    ∙ ap (λ x. by_steps sub cmd n c x (is_rounded sub cmd) (is_valid_list sub cmd.list)) within
    ∙ ap (λ x. by_steps sub cmd n c w x (is_valid_list sub cmd.list)) round
    ∙ ap (by_steps sub cmd n c w r) valid
