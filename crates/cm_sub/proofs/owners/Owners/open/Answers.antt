use Rattle.std.proofs.Common.{ℕ, List, length, replicate, ap, ◌∙◌}
use Rattle.cm_sub.specs.Owning.{channel_count}
use Rattle.cm_sub.proofs.Opening.{opens, mapped}
use Rattle.cm_sub.proofs.owners.Owners.open.Goals as goal

pub new-requires : goal.new-requires
new-requires c = opens c.loop-state.yielded _ _ _ c.loop-state.invariant.counts
    (c.as_slice.ensures.value ∙ (c.in_ok-words.ensures.items_if_clones_equal (λ y e. e) ∙ ap (λ (n : ℕ). replicate n 0) (c.len-2.ensures ∙ (c.loop-state.counts.ok.0 ∙ ap (λ (l : List ℕ). length l) c.loop-state.invariant.counts ∙ mapped channel_count c.loop-state.yielded)))) c.loop-state.invariant.slots
