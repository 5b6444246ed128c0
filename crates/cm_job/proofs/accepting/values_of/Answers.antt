use Rattle.std.proofs.Common.{◌≤◌, ℕ, List, length, Ok, ap, sym, ◌∙◌, subst}
use Rattle.cm_base.proofs.Each.{stops-along}
use Rattle.cm_board.specs.Board.{IsSoundSub}
use Rattle.cm_cmd.specs.Command.{CmdText}
use Rattle.cm_expand.proofs.Rules.{channels_there}
use Rattle.cm_base.proofs.Refusal.{gives_err}
use Rattle.cm_test.proofs.Passed.{passed}
use Rattle.cm_job.proofs.Codes.{few-codes}
use Rattle.cm_job.proofs.accepting.values_of.Goals as goal

pub codes_of-requires-clause-some : goal.codes_of-requires-clause-some
codes_of-requires-clause-some c =
    let same = c.deref.ensures.value ∙ ap (λ (cmd : CmdText). cmd.list) (c.cmd.view_is ∙ c.cmd-cmd.ensures) in
    let taken = passed c.args.sub.now c.args.cmd.now (subst IsSoundSub c.sub.view_is c.sub.invariant.sound) c.requires in
    subst (λ (list : List ℕ). 1 ≤ length list) (sym same) taken.list.low

pub codes_of-requires-clause-channels : goal.codes_of-requires-clause-channels
codes_of-requires-clause-channels c =
    channels_there c.args.sub.now c.args.cmd.now c.deref.result.now (subst IsSoundSub c.sub.view_is c.sub.invariant.sound) c.requires
    (c.deref.ensures.value ∙ ap (λ (cmd : CmdText). cmd.list) (c.cmd.view_is ∙ c.cmd-cmd.ensures))

pub returns-in_err-values : goal.returns-in_err-values
returns-in_err-values c =
    let stop = c.in_err-values.field-0.0 in
    let same = c.deref.ensures.value ∙ ap (λ (cmd : CmdText). cmd.list) (c.cmd.view_is ∙ c.cmd-cmd.ensures) in
    gives_err _ c.from_residual.result stop _ c.from_residual.ensures.1
    (stops-along stop _ _ (few-codes c.args.sub.now c.args.cmd.now c.deref.result.now c.args.numbers.now c.args.line same c.if-numbers-gt-MOST_VALUES.false) c.in_err-values.ensures)

pub returns : goal.returns
returns c =
    let same = c.deref.ensures.value ∙ ap (λ (cmd : CmdText). cmd.list) (c.cmd.view_is ∙ c.cmd-cmd.ensures) in
    few-codes c.args.sub.now c.args.cmd.now c.deref.result.now c.args.numbers.now c.args.line same c.if-numbers-gt-MOST_VALUES.false
    ∙ c.in_ok-values.ensures
    ∙ ap (λ (values : List ℕ). Ok values) (sym c.new.ensures)
