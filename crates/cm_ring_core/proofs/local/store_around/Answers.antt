use Rattle.std.proofs.Common.{◌≡◌, ℕ, ◌+◌, ◌-◌, ◌%◌, ◌<◌, length, take, drop, ap, ap₂, ◌∙◌, arith, length-take, length-drop}
use Rattle.std.proofs.lemmas.List.{take_all}
use Rattle.cm_sample.specs.Rule.{munged_word}
use Rattle.cm_ring_core.specs.Held.{stored_from}
use Rattle.cm_ring_core.specs.Pushed.{munged_from}
use Rattle.cm_ring_core.proofs.Stored.{around_end, before_end, length-stored_from, stored_both}
use Rattle.cm_ring_core.proofs.local.store_around.Goals as goal

pub store-requires-clause-cells : goal.store-requires-clause-cells
store-requires-clause-cells c = λ i below. before_end (length c.args.cells.now) c.args.place c.args.cell i c.requires.cell (omega (arith, length-take c.min-count.result c.args.words.now))

pub store-requires-2-clause-cells : goal.store-requires-2-clause-cells
store-requires-2-clause-cells c =
    let words = c.args.words.now in
    let k = c.min-count.result in
    let size : length c.store.new.cells ≡ length c.args.cells.now = ap (length {A = ℕ}) c.store.ensures ∙ length-stored_from c.args.cells.now (length c.args.cells.now) c.args.place (munged_from c.args.rule.now c.args.place (take k words)) in
    λ i below.
    let more : i < length words - k = omega (arith, length-take (length words - k) (drop k words), length-drop k words) in
    ap (λ n. (c.args.place + k + i) % n) size ∙ around_end (length c.args.cells.now) c.args.place c.args.cell k i c.requires.cell (omega arith) (omega arith) ∙ omega arith

pub returns : goal.returns
returns c =
    let old = c.args.cells.now in
    let rule = c.args.rule.now in
    let place = c.args.place in
    let words = c.args.words.now in
    let k = c.min-count.result in
    let size : length c.store.new.cells ≡ length old = ap (length {A = ℕ}) c.store.ensures ∙ length-stored_from old (length old) place (munged_from rule place (take k words)) in
    let rest : take (length words - k) (drop k words) ≡ drop k words = take_all (length words - k) (drop k words) (omega (arith, length-drop k words)) in
    c.store-2.ensures
    ∙ ap₂ (λ n xs. stored_from c.store.new.cells n (place + k) (munged_from rule (place + k) xs)) size rest
    ∙ ap (λ cells. stored_from cells (length old) (place + k) (munged_from rule (place + k) (drop k words))) c.store.ensures
    ∙ stored_both (munged_word rule) old (length old) place words k (omega arith)
