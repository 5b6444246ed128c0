-- The lines of an expansion's session.
use Rattle.std.proofs.Common.{◌≡◌, ℕ, ◌≤◌, length, Result, Ok, sym, ap, ◌∙◌, subst}
use Rattle.std.specs.Prelude.{nat_lt, IfOk}
use Rattle.std.proofs.lemmas.Bool.{ltb-true}
use Rattle.cm_base.specs.Reading.{at_line}
use Rattle.cm_base.specs.ReadStop.{Gives}
use Rattle.cm_base.specs.declared.faults.ReadStop.{ReadStop}
use Rattle.cm_board.specs.Board.{BoardText, SubText}
use Rattle.cm_cmd.specs.Command.{CmdText}
use Rattle.cm_signal.specs.Signals.{SignalsText}
use Rattle.cm_test.specs.Accepting.{accepted, numbered_sub, passed, sub_at}
use Rattle.cm_test.specs.Questions.{tested}
use Rattle.cm_job.specs.ExpandLines.{CanExpand, accepted_line}
use Rattle.cm_job.specs.declared.expand_lines.ExpandLine.{ExpandLine}
use Rattle.cm_job.proofs.Kept.{passed-from}
use Rattle.cm_job.proofs.Steps.{good-from, kept-by, same-ok, then-from}

-- a line with these words
abbrev line_with : ℕ → CmdText → ExpandLine
line_with t0 cmd = record { t0 = t0; cmd = cmd }

-- an accepted line can be expanded
accepted-can : (board : BoardText) (signals : SignalsText) (t0 : ℕ) (cmd : CmdText) (next : ExpandLine) → t0 ≤ signals.horizon → accepted_line board (t0, cmd) ≡ Ok next → CanExpand board signals next
accepted-can board signals t0 cmd next in_time e =
    let a = then-from (accepted board cmd) (λ cmd. Ok (line_with t0 cmd)) next e in
    let n = then-from (numbered_sub board cmd.sub) (λ sub. passed sub cmd) a.0 a.1 in
    let g = good-from (nat_lt cmd.sub (length board.subs)) (sub_at board cmd.sub) n.0 n.1 in
    let p = passed-from n.0 cmd a.0 n.2 in
    let same : line_with t0 cmd ≡ next = ap (line_with t0) p.1 ∙ same-ok (line_with t0 a.0) next a.2 in
    subst (CanExpand board signals) same (record {
      within = ltb-true cmd.sub (length board.subs) g.0;
      passes = subst (λ (s : SubText). (tested s cmd).0 ≡ 0) (sym g.1) p.0;
      time = in_time;
    })

-- and so can one that is read
pub line-can : (board : BoardText) (signals : SignalsText) (number t0 : ℕ) (cmd : CmdText) (result : Result ExpandLine ReadStop) → t0 ≤ signals.horizon →
    Gives (λ next. next) result (at_line number (accepted_line board (t0, cmd))) → IfOk result (CanExpand board signals)
line-can board signals number t0 cmd result in_time gives =
    kept-by (CanExpand board signals) number (accepted_line board (t0, cmd)) result (λ next e. accepted-can board signals t0 cmd next in_time e) gives
