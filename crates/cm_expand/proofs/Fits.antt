-- What the command of a plan keeps, since it passes the test of a sound subdevice.
use Rattle.std.proofs.Common.{◌≡◌, ℕ, ◌<◌, ◌≤◌, length, get_or, Some, None, Option, subst, arith}
use Rattle.std.specs.Prelude.{IfSome}
use Rattle.std.proofs.lemmas.Bool.{eqb-true}
use Rattle.std.proofs.lemmas.List.Elements.{All-get_or}
use Rattle.cm_board.specs.Board.{SubText, IsSoundSub, external_line}
use Rattle.cm_base.specs.Source as source
use Rattle.cm_cmd.specs.Command.{CmdText}
use Rattle.cm_test.specs.Passed.{IsEntry, IsPassed}
use Rattle.cm_test.proofs.Passed.{passed}
use Rattle.cm_expand.proofs.Codes.{code_is}
use Rattle.cm_expand.specs.Fit.{IsFit, NamesLine}
use Rattle.cm_expand.specs.Plan.{PlanText, IsPlan}

line_below : (sub : SubText) (src arg : ℕ) → sub.lines ≤ 64 → (src ≡ source.ext → external_line sub arg < sub.lines) → NamesLine sub src arg
line_below sub src arg few names = λ is. let below = names (eqb-true src source.ext is) in omega (arith, few, below)

-- an entry of a list that passes
pub entry_at : (sub : SubText) (cmd : CmdText) → IsPassed sub cmd → (i : ℕ) → i < length cmd.list → IsEntry sub (get_or cmd.list i 0)
entry_at sub cmd is i h = All-get_or (IsEntry sub) cmd.list i 0 h is.entries

pub fit : (p : PlanText) → IsSoundSub p.sub → IsPlan p → IsFit p
fit p sound is =
    let passes = passed p.sub p.cmd sound is.passed in
    let few = passes.list.high in
    let most = sound.list.high in
    record {
      some = passes.list.low;
      few = omega arith;
      channels = λ i h. (entry_at p.sub p.cmd passes i h).has_chan;
      ranges = λ i h. (entry_at p.sub p.cmd passes i h).has_range;
      codes = λ i time h. let entry = entry_at p.sub p.cmd passes i h in code_is p (get_or p.cmd.list i 0) time sound entry.has_chan entry.has_range;
      start_line = line_below p.sub p.cmd.start.src p.cmd.start.arg sound.few_lines passes.inside.start_line;
      begin_line = line_below p.sub p.cmd.scan_begin.src p.cmd.scan_begin.arg sound.few_lines passes.inside.scan_begin_line;
      convert_line = line_below p.sub p.cmd.convert.src p.cmd.convert.arg sound.few_lines passes.inside.convert_line;
      stop_line = line_below p.sub p.cmd.stop.src p.cmd.stop.arg sound.few_lines passes.inside.stop_line;
      period = λ timer. passes.period (eqb-true p.cmd.scan_begin.src source.timer timer);
      gap = λ timer. passes.gap (eqb-true p.cmd.convert.src source.timer timer);
      count = λ counted. (passes.scans (eqb-true p.cmd.stop.src source.count counted)).low;
    }

-- a given trigger as the plan keeps it
pub given : (trig : Option ℕ) (t0 horizon : ℕ) → IfSome trig (λ t. (t0 ≤ t) × (t ≤ horizon)) → (t : ℕ) → trig ≡ Some t → (t0 ≤ t) × (t ≤ horizon)
given None t0 horizon within t e = cc
given (Some u) t0 horizon within t e = let same : u ≡ t = cc in subst (λ x. (t0 ≤ x) × (x ≤ horizon)) same within
