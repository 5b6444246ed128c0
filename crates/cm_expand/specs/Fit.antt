-- What holds of each plan, since its command passes the test of a sound subdevice.
use Rattle.std.specs.Prelude.{◌≡◌, ℕ, ◌<◌, ◌≤◌, true, ◌==◌, length, slice_index}
use Rattle.cm_board.specs.Board.{SubText, external_line, maxdata_of, munge_of, range_count}
use Rattle.cm_base.specs.Source as source
use Rattle.cm_cmd.specs.Entry.{chan, range}
use Rattle.cm_board.specs.Munge.{munged}
use Rattle.cm_expand.specs.Items.{code_at, input_at}
use Rattle.cm_expand.specs.Laws.{NeverFall, AreUpTo}
use Rattle.cm_expand.specs.Plan.{PlanText, times_of}

-- munging gives the code of an input back, and it is at most the greatest one
pub record IsCodeAt (p : PlanText) (entry time : ℕ) : Type 0 where
  pub back :
      munged (munge_of p.sub (chan entry)) (maxdata_of p.sub (chan entry)) (input_at p entry time)
      ≡ code_at p entry time
  pub within : code_at p entry time ≤ maxdata_of p.sub (chan entry)

-- an external source names one of the 64 lines
abbrev pub NamesLine : SubText → ℕ → ℕ → Type 0
NamesLine sub src arg = (src == source.ext) ≡ true → external_line sub arg < 64

-- what the command of each plan keeps
pub record IsFit (p : PlanText) : Type 0 where
  pub some : 1 ≤ length p.cmd.list
  pub few : length p.cmd.list ≤ 1024
  pub channels : (i : ℕ) → i < length p.cmd.list → chan (slice_index p.cmd.list i) < p.sub.channels
  pub ranges : (i : ℕ) → i < length p.cmd.list
      → range (slice_index p.cmd.list i) < range_count p.sub (chan (slice_index p.cmd.list i))
  pub codes : (i time : ℕ) → i < length p.cmd.list → IsCodeAt p (slice_index p.cmd.list i) time
  pub start_line : NamesLine p.sub p.cmd.start.src p.cmd.start.arg
  pub begin_line : NamesLine p.sub p.cmd.scan_begin.src p.cmd.scan_begin.arg
  pub convert_line : NamesLine p.sub p.cmd.convert.src p.cmd.convert.arg
  pub stop_line : NamesLine p.sub p.cmd.stop.src p.cmd.stop.arg
  pub period : (p.cmd.scan_begin.src == source.timer) ≡ true → 1 ≤ p.cmd.scan_begin.arg
  pub gap : (p.cmd.convert.src == source.timer) ≡ true → 1 ≤ p.cmd.convert.arg
  pub count : (p.cmd.stop.src == source.count) ≡ true → 1 ≤ p.cmd.stop.arg

-- what each expansion keeps
pub record IsExpansion (p : PlanText) : Type 0 where
  pub order : NeverFall 0 (times_of p)
  pub horizon : AreUpTo p.signals.horizon (times_of p)
  pub codes : (i time : ℕ) → i < length p.cmd.list → IsCodeAt p (slice_index p.cmd.list i) time
