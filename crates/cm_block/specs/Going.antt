-- A `go` line whose command can be streamed.
use Rattle.std.specs.Prelude.{◌≡◌, ◌<◌, ◌≤◌, ℕ, false, length, slice_index, Option, ⊤}
use Rattle.cm_cmd.specs.Command.{CmdText}
use Rattle.cm_expand.specs.Plan.{PlanText}
use Rattle.cm_board.specs.Board.{is_output}
use Rattle.cm_job.specs.declared.line.Access.{Access}
use Rattle.cm_job.specs.declared.line.Mode.{Mode}
use Rattle.cm_job.specs.declared.line.RunLine.{RunLine}
use Rattle.cm_job.specs.declared.line.RunLine.TheVariants.{Go, Drive}
use Rattle.cm_test.specs.Questions.{tested}
use Rattle.cm_expand.specs.Items.{samples_of}
use Rattle.cm_expand.specs.Rule.{munged_at}
use Rattle.cm_expand.specs.Totals.{length_of}

-- the plan is of this command, which its subdevice, an input, accepts, and it has 4,000,000 conversions at most
pub record IsGo (p : PlanText) (c : CmdText) : Type 0 where
  pub cmd : p.cmd ≡ c
  pub passed : (tested p.sub c).0 ≡ 0
  pub input : is_output p.sub.kind ≡ false
  pub few : length_of p ≤ 4000000

-- a line that reads
abbrev pub IsGoLine : RunLine → Type 0
IsGoLine (Go mode access t0 most cmd) = ⊤
IsGoLine (Drive t0 values cmd) = ⊥

-- its mode, how its client gets at the samples, and how many of them it takes
abbrev pub Asks : RunLine → Mode → Access → Option ℕ → Type 0
Asks (Go mode access t0 most cmd) its_mode its_access its_most =
    (its_mode ≡ mode) × (its_access ≡ access) × (its_most ≡ most)
Asks (Drive t0 values cmd) its_mode its_access its_most = ⊥

-- a word may be the sample of a place, for each munged sample of an expansion
abbrev pub AcceptsSamples : (ℕ → ℕ → Type 0) → PlanText → Type 0
AcceptsSamples accepts p =
    (place : ℕ) → place < length (samples_of p)
    → accepts place (munged_at p.sub p.cmd place (slice_index (samples_of p) place))
