use Rattle.std.proofs.Common.{◌≡◌, ◌&&◌, sym, ap, ap₂, ◌∙◌}
use Rattle.cm_cmd.specs.Command.{CmdText}
use Rattle.cm_test.specs.Questions.{is_rounded, same_trigger}
use Rattle.cm_test.specs.Steps.{raised, rounded}
use Rattle.cm_test.proofs.Same.{times_keep, times_tell}
use Rattle.cm_test.proofs.times.round.Goals as goal

is : (c : goal.After-has_times) → c.raise.new.cmd ≡ rounded c.args.sub.now c.args.cmd.now
is c = c.raise.ensures ∙ ap (raised c.args.sub.now) c.round_times.ensures.cmd

told : (c : goal.After-has_times) → c.has_times.result ≡ is_rounded c.args.sub.now c.args.cmd.now
told c =
    let new = rounded c.args.sub.now c.args.cmd.now in
    c.has_times.ensures
    ∙ ap₂ (λ (k old : CmdText). same_trigger k.scan_begin old.scan_begin && same_trigger k.convert old.convert) (is c) c.cmd.view_is
    ∙ sym (times_tell c.args.cmd.now new.scan_begin new.convert)

pub returns-clause-cmd : goal.returns-clause-cmd
returns-clause-cmd c = is c

pub returns-clause-result : goal.returns-clause-result
returns-clause-result c = told c

pub returns-clause-kept : goal.returns-clause-kept
returns-clause-kept c = λ kept.
    let new = rounded c.args.sub.now c.args.cmd.now in
    is c ∙ times_keep c.args.cmd.now new.scan_begin new.convert (sym (told c) ∙ kept)
