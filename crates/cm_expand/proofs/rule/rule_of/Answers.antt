use Rattle.std.proofs.Common.{◌≡◌, map, ap, sym, ◌∙◌, subst}
use Rattle.cm_board.specs.Board.{IsSoundSub}
use Rattle.cm_cmd.specs.Command.{CmdText}
use Rattle.cm_sample.specs.Rule.{RuleText, rule_text, munged_word}
use Rattle.cm_test.proofs.Passed.{passed}
use Rattle.cm_expand.specs.Rule as spec
use Rattle.cm_expand.proofs.Rules.{channels_there, rule_applies}
use Rattle.cm_expand.proofs.rule.rule_of.Goals as goal

pub items_of-requires : goal.items_of-requires
items_of-requires c =
    channels_there c.args.sub.now c.args.cmd.now c.deref.result.now (subst IsSoundSub c.sub.view_is c.sub.invariant.sound) c.requires
    (c.deref.ensures.value ∙ ap (λ (cmd : CmdText). cmd.list) (c.cmd.view_is ∙ c.cmd-cmd.ensures))

pub returns-clause-applies : goal.returns-clause-applies
returns-clause-applies c = λ place word.
    let cmd = c.cmd.view_is ∙ c.cmd-cmd.ensures in
    let same = ap (λ (cmd : CmdText). cmd.list) cmd in
    let flags = ap (λ (cmd : CmdText). cmd.flags) cmd in
    let items = c.in_ok-items.ensures ∙ ap (map (spec.item_of c.args.sub.now)) (c.deref.ensures.value ∙ same) in
    let rule : rule_text c.in_ok-items.items.items c.is_output-out.result c.is_raw.result ≡ spec.rule_of c.args.sub.now c.args.cmd.now = cc in
    let some = (passed c.args.sub.now c.args.cmd.now (subst IsSoundSub c.sub.view_is c.sub.invariant.sound) c.requires).list.low in
    let P : RuleText → Type 0 = λ r. munged_word r place word ≡ spec.munged_at c.args.sub.now c.args.cmd.now place word in
    subst P (sym rule) (rule_applies c.args.sub.now c.args.cmd.now some place word)
