-- A loop job: a board, its signals, and two commands.
use Rattle.std.specs.Prelude.{◌≡◌, ℕ, ◌<◌, ◌≤◌, Bool, true, false, length}
use Rattle.cm_board.specs.Board.{BoardText, is_output}
use Rattle.cm_cmd.specs.Command.{CmdText}
use Rattle.cm_test.specs.Accepting.{sub_at}
use Rattle.cm_expand.specs.Items.{items_of}
use Rattle.cm_expand.specs.Plan.{PlanText}
use Rattle.cm_expand.specs.Rule.{is_raw}
use Rattle.cm_signal.specs.Signals.{SignalsText}
use Rattle.cm_test.specs.Questions.{tested}
use Rattle.cm_expand.specs.Calls.{plan_at}
use Rattle.cm_job.specs.Later.{are_later}

-- a loop job: the times of the calls are in nanoseconds,
-- and the window is how many samples of a list entry stand in a mean
pub record LoopJobText : Type 0 where
  pub board : BoardText
  pub signals : SignalsText
  pub t_in : ℕ
  pub t_out : ℕ
  pub window : ℕ
  pub input : CmdText
  pub output : CmdText

-- the plan of the input command
abbrev pub input_of : LoopJobText → PlanText
input_of job = plan_at job.board job.signals job.t_in job.input

-- the plan of the output command
abbrev pub output_of : LoopJobText → PlanText
output_of job = plan_at job.board job.signals job.t_out job.output

-- a command passes the test of its subdevice, which is an output or an input, and is called up to the horizon
pub record IsCalled (board : BoardText) (signals : SignalsText) (out : Bool) (t0 : ℕ) (cmd : CmdText) : Type 0 where
  pub within : cmd.sub < length board.subs
  pub directed : is_output (sub_at board cmd.sub).kind ≡ out
  pub passes : (tested (sub_at board cmd.sub) cmd).0 ≡ 0
  pub time : t0 ≤ signals.horizon

-- such a command can take part in a loop: its words are munged, and it has 1,000,000 conversions at most
pub record CanLoop (board : BoardText) (signals : SignalsText) (out : Bool) (t0 : ℕ) (cmd : CmdText) : Type 0 where
  pub call : IsCalled board signals out t0 cmd
  pub munged : is_raw cmd.flags ≡ false
  pub few : length (items_of (plan_at board signals t0 cmd)) ≤ 1000000

-- what each loop job keeps: an input's command and an output's, whose lists have the same length, a window of 1 to 16,
-- and each output later than the sample of its place
pub record IsLoopJob (job : LoopJobText) : Type 0 where
  pub input : CanLoop job.board job.signals false job.t_in job.input
  pub output : CanLoop job.board job.signals true job.t_out job.output
  pub window : (1 ≤ job.window) × (job.window ≤ 16)
  pub lists : length job.input.list ≡ length job.output.list
  pub later : are_later (items_of (input_of job)) (items_of (output_of job)) ≡ true
