-- Values as codes of their channels.
use Rattle.std.proofs.Common.{◌≡◌, ℕ, ◌≤◌, Bool, List, length, sym, ap, ◌∙◌}
use Rattle.std.specs.Prelude.{◌&&◌}
use Rattle.std.proofs.lemmas.Bool.{le-leb}
use Rattle.cm_base.specs.Reading.{at_line}
use Rattle.cm_base.specs.Words.{limited}
use Rattle.cm_board.specs.Board.{SubText}
use Rattle.cm_cmd.specs.Command.{CmdText}
use Rattle.cm_job.specs.RunPart.{are_codes, values_of}

-- few enough values are those that are codes
pub few-codes : (sub : SubText) (cmd : CmdText) (list numbers : List ℕ) (line : ℕ) → list ≡ cmd.list → length numbers ≤ 1024 →
    at_line line (values_of sub cmd numbers) ≡ at_line line (limited (are_codes sub list 0 numbers) numbers)
few-codes sub cmd list numbers line same few =
    ap (λ (b : Bool). at_line line (limited (b && are_codes sub cmd.list 0 numbers) numbers)) (le-leb (length numbers) 1024 few)
    ∙ ap (λ (l : List ℕ). at_line line (limited (are_codes sub l 0 numbers) numbers)) (sym same)
