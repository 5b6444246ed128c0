use Rattle.std.proofs.Common.{◌≡◌, ℕ, List, Ok, Result, Bor, true, ap, sym, ◌∙◌, subst}
use Rattle.cm_base.specs.ReadStop.{Stops}
use Rattle.cm_base.specs.Reading.{◌>>=◌, at_line, seen}
use Rattle.cm_base.specs.declared.faults.Fault.{Fault}
use Rattle.cm_base.proofs.Each.{stops-along}
use Rattle.cm_base.proofs.Values.{at_line_ok}
use Rattle.cm_board.specs.Board.{SubText}
use Rattle.cm_cmd.specs.Command.{CmdText}
use Rattle.cm_base.proofs.Refusal.{gives_err}
use Rattle.cm_test.specs.Accepting.{passed}
use Rattle.cm_test.specs.Questions.{tested}
use Rattle.cm_job.specs.RunPart as spec
use Rattle.cm_job.specs.declared.line.RunLine.TheVariants.{Drive}
use Rattle.cm_job.proofs.Kept.{passed-from}
use Rattle.cm_job.proofs.Next.{drive-by}
use Rattle.cm_job.proofs.Steps.{then-stops}
use Rattle.cm_job.proofs.accepting.accept_drive.Goals as goal

pub values_of-requires : goal.values_of-requires
values_of-requires c =
    let sub = c.in_ok-sub.sub.now in
    let takes : passed sub c.args.cmd ≡ Ok c.in_ok-cmd.cmd = sym c.passed.ensures.value ∙ at_line_ok c.args.number c.passed.result c.in_ok-cmd.cmd c.in_ok-cmd.ensures in
    let p = passed-from sub c.args.cmd c.in_ok-cmd.cmd takes in
    subst (λ (cmd : CmdText). (tested sub cmd).0 ≡ 0) p.1 p.0

pub returns-in_err-values : goal.returns-in_err-values
returns-in_err-values c =
    let board = c.args.board.now in
    let sub = c.in_ok-sub.sub.now in
    let cmd = c.args.cmd in
    let next = c.in_ok-cmd.cmd in
    let stop = c.in_err-values.field-0.0 in
    let takes : passed sub cmd ≡ Ok next = sym c.passed.ensures.value ∙ at_line_ok c.args.number c.passed.result next c.in_ok-cmd.ensures in
    let found : spec.directed_sub board true cmd.sub ≡ Ok sub =
    sym (c.directed_sub.ensures ∙ ap (λ (m : CmdText). spec.directed_sub board true m.sub) c.cmd.view_is)
    ∙ ap (λ (r : Result (Bor SubText) Fault). seen (λ s. s.now) r) (at_line_ok c.args.number c.directed_sub.result c.in_ok-sub.sub c.in_ok-sub.ensures) in
    gives_err _ c.from_residual-in_err-values.result stop _ c.from_residual-in_err-values.ensures.1
    (stops-along stop _ _ (drive-by board c.args.t0 c.args.number c.args.numbers.now cmd next sub found takes)
    (then-stops stop c.args.number (spec.values_of sub next c.args.numbers.now) _
    (subst (λ (numbers : List ℕ). Stops stop (at_line c.args.number (spec.values_of sub next numbers))) c.as_slice.ensures c.in_err-values.ensures)))

pub returns : goal.returns
returns c =
    let board = c.args.board.now in
    let sub = c.in_ok-sub.sub.now in
    let cmd = c.args.cmd in
    let next = c.in_ok-cmd.cmd in
    let takes : passed sub cmd ≡ Ok next = sym c.passed.ensures.value ∙ at_line_ok c.args.number c.passed.result next c.in_ok-cmd.ensures in
    let found : spec.directed_sub board true cmd.sub ≡ Ok sub =
    sym (c.directed_sub.ensures ∙ ap (λ (m : CmdText). spec.directed_sub board true m.sub) c.cmd.view_is)
    ∙ ap (λ (r : Result (Bor SubText) Fault). seen (λ s. s.now) r) (at_line_ok c.args.number c.directed_sub.result c.in_ok-sub.sub c.in_ok-sub.ensures) in
    let values : spec.values_of sub next c.args.numbers.now ≡ Ok c.in_ok-values.values =
    at_line_ok c.args.number (spec.values_of sub next c.args.numbers.now) c.in_ok-values.values
    (subst (λ (numbers : List ℕ). at_line c.args.number (spec.values_of sub next numbers) ≡ Ok c.in_ok-values.values) c.as_slice.ensures c.in_ok-values.ensures) in
    drive-by board c.args.t0 c.args.number c.args.numbers.now cmd next sub found takes
    ∙ ap (λ (r : Result (List ℕ) Fault). at_line c.args.number (r >>= λ (values : List ℕ). Ok (Drive c.args.t0 values next))) values
