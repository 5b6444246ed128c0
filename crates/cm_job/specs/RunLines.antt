-- What the lines of a run that were read keep.
use Rattle.std.specs.Prelude.{◌≡◌, ◌≤◌, true, false, List, length, IfSome}
use Rattle.std.specs.List.{All}
use Rattle.cm_board.specs.Board.{BoardText, SubText, is_output}
use Rattle.cm_test.specs.Accepting.{sub_at}
use Rattle.cm_signal.specs.Signals.{SignalsText}
use Rattle.cm_expand.specs.Totals.{length_of, length_of_all}
use Rattle.cm_job.specs.Calls.{CanCall, cmd_of, plan_of}
use Rattle.cm_job.specs.RunPart.{are_codes}
use Rattle.cm_job.specs.declared.line.RunLine.{RunLine}
use Rattle.cm_job.specs.declared.line.RunLine.TheVariants.{Go, Drive}

-- `go` takes all samples of an input or 1 to 1,000,000, and `drive` gives an output 1 to 1,024 codes of its channels
abbrev pub HasLimits : SubText → RunLine → Type 0
HasLimits sub (Go mode access t0 most cmd) = (is_output sub.kind ≡ false) × IfSome most (λ n. (1 ≤ n) × (n ≤ 1000000))
HasLimits sub (Drive t0 values cmd) =
    (is_output sub.kind ≡ true)
    × (1 ≤ length values)
    × (length values ≤ 1024)
    × (are_codes sub cmd.list 0 values ≡ true)

-- a line can be run: its command can be called, it has the limits of its form, and it has 1,000,000 conversions at most
pub record CanRun (board : BoardText) (signals : SignalsText) (line : RunLine) : Type 0 where
  pub call : CanCall board signals line
  pub limits : HasLimits (sub_at board (cmd_of line).sub) line
  pub few : length_of (plan_of board signals line) ≤ 1000000

-- up to 16 lines that can be run, with 4,000,000 conversions together at most
pub record AreRunLines (board : BoardText) (signals : SignalsText) (lines : List RunLine) : Type 0 where
  pub each : All (CanRun board signals) lines
  pub few : length lines ≤ 16
  pub total : length_of_all (plan_of board signals) lines ≤ 4000000
