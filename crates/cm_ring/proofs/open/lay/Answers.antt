use Rattle.std.proofs.Common.{refl, ◌∙◌}
use Rattle.cm_ring_core.proofs.Keeps.{opens, laid_first}
use Rattle.cm_ring.proofs.open.lay.Goals as goal

pub of_words-requires : goal.of_words-requires
of_words-requires g c = opens _ (record { some_cell = c.requires.size.0; few_cells = c.requires.size.1; finite = c.requires.plan }) _
    (c.as_slice.ensures.value ∙ (c.in_ok-words.ensures ∙ laid_first _ c.args.with.now.size _ refl (c.word_of.ensures _ refl)))
