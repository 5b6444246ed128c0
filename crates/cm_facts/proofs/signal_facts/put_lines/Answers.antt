use Rattle.std.proofs.Common.{List, ℕ, ◌++◌, ap, ◌∙◌}
use Rattle.cm_facts.specs.SignalFacts.{edge_fact}
use Rattle.cm_running.proofs.Texts.{text_more}
use Rattle.cm_facts.proofs.signal_facts.put_lines.Goals as goal

pub loop-line-preserved : goal.loop-line-preserved
loop-line-preserved c =
    c.in_ok-put_line.ensures
    ∙ ap (λ (text : List ℕ). text ++ edge_fact c.args.signals.now c.loop-line.line) c.loop-line.invariant
    ∙ text_more (edge_fact c.args.signals.now) c.args.text.now.items c.loop-line.line
