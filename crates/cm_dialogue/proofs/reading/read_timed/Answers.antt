use Rattle.std.proofs.Common.{List, ℕ, map, ap, ◌∙◌}
use Rattle.std.specs.Str.{bytes_eq}
use Rattle.cm_base.specs.LineView.{line_view}
use Rattle.cm_dialogue.proofs.Readings.{asks_nothing, gives-along, timed_next}
use Rattle.cm_dialogue.specs.declared.dialogue_line.DialogueLine.{DialogueLine}
use Rattle.cm_dialogue.proofs.reading.read_timed.Goals as goal

pub returns-else-eq-5-clause-value : goal.returns-else-eq-5-clause-value
returns-else-eq-5-clause-value c =
    let key = c.args.key.now in
    gives-along (λ (said : DialogueLine). said) c.read_next.result _ _
    (timed_next c.args.start.now.number c.args.line.now.number c.args.start.now.bounds c.args.before (line_view c.args.line.now) c.args.start.now.time.now (map (λ word. word.now) c.args.words.now) key c.requires.number
    (asks_nothing key
    (c.if-eq.ensures ∙ ap (λ (word : List ℕ). bytes_eq key word) c.as_slice.ensures)
    (c.if-eq-2.ensures ∙ ap (λ (word : List ℕ). bytes_eq key word) c.as_slice-else-eq.ensures)
    (c.if-eq-3.ensures ∙ ap (λ (word : List ℕ). bytes_eq key word) c.as_slice-else-eq-2.ensures)
    (c.if-eq-4.ensures ∙ ap (λ (word : List ℕ). bytes_eq key word) c.as_slice-else-eq-3.ensures)
    (c.if-eq-5.ensures ∙ ap (λ (word : List ℕ). bytes_eq key word) c.as_slice-else-eq-4.ensures)))
    c.read_next.ensures.value
