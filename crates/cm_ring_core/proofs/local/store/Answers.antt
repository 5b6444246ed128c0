use Rattle.std.proofs.Common.{◌≡◌, ℕ, ◌+◌, ◌-◌, ◌++◌, List, length, take, drop, sym, ap, ap₂, ◌∙◌, arith, drop-drop}
use Rattle.cm_sample.specs.Rule.{map_from, munged_word}
use Rattle.cm_sample.proofs.Mapped.{length-map_from}
use Rattle.cm_ring_core.proofs.Stored.{stored_run}
use Rattle.cm_ring_core.proofs.local.store.Goals as goal

pub returns : goal.returns
returns c =
    let cells = c.args.cells.now in
    let cell = c.args.cell in
    let words = c.args.words.now in
    let f = munged_word c.args.rule.now in
    let munged = map_from f c.args.place words in
    let many = length-map_from f c.args.place words in
    let alone : cell + length words - cell ≡ length munged = omega arith in
    let after : c.munge_words.new.words ≡ munged = c.munge_words.ensures ∙ ap (map_from f c.args.place) c.copy_from_slice.ensures.after in
    ap₂ (λ n (ws : List ℕ). take cell cells ++ (ws ++ drop n (drop cell cells))) alone after
    ∙ ap (λ rest. take cell cells ++ (munged ++ rest)) (drop-drop (length munged) cell cells)
    ∙ sym (stored_run cells (length cells) c.args.place cell munged (omega arith) (λ i below. c.requires.cells i (omega arith)))
