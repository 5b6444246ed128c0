use Rattle.std.proofs.Common.{rules, List, ℕ, map, Ok, ap, sym, ◌∙◌}
use Rattle.cm_base.specs.LineView.{line_view}
use Rattle.cm_base.proofs.Each.{stops-along}
use Rattle.cm_cmd.specs.Command.{CmdText}
use Rattle.cm_base.proofs.Refusal.{gives_err}
use Rattle.cm_session.proofs.Then.{command_placed, command_read, command_stops}
use Rattle.cm_session.proofs.forms.command_words.Goals as goal

pub returns-in_err-cmd-clause-value : goal.returns-in_err-cmd-clause-value
returns-in_err-cmd-clause-value c =
    let start = c.args.start.now in
    let words : List (List ℕ) = map (λ word. word.now) c.args.words.now in
    let stop = c.in_err-cmd.field-0.0 in
    let placed = command_placed start.bounds.version c.most_entries.result start.number c.args.line.now.number (line_view c.args.line.now).words words c.most_entries.ensures c.requires.number c.requires.words in
    gives_err _ c.from_residual-in_err-cmd.result stop _ c.from_residual-in_err-cmd.ensures.1
    (command_stops start.number start.bounds start.time.now c.in_ok-file.file.now words c.in_ok-head.head stop (search rules) (search rules) (stops-along stop _ _ placed c.in_err-cmd.ensures.read))

pub returns-clause-value : goal.returns-clause-value
returns-clause-value c =
    let start = c.args.start.now in
    let words : List (List ℕ) = map (λ word. word.now) c.args.words.now in
    let placed = command_placed start.bounds.version c.most_entries.result start.number c.args.line.now.number (line_view c.args.line.now).words words c.most_entries.ensures c.requires.number c.requires.words in
    command_read start.number start.bounds start.time.now c.in_ok-file.file.now words c.in_ok-head.head c.in_ok-cmd.cmd (search rules) (search rules) (placed ∙ c.in_ok-cmd.ensures.read)
    ∙ ap (λ (cmd : CmdText). Ok (c.in_ok-head.head, cmd)) (sym c.in_ok-new.ensures)
