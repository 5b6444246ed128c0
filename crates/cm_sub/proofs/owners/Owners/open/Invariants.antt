use Rattle.std.proofs.Common.{◌≡◌, map, Some}
use Rattle.cm_sub.specs.State.{StateText}
use Rattle.cm_sub.specs.Owning.{channel_count}
use Rattle.cm_sub.proofs.owners.Owners.open.Given as goal

abbrev pub invariant-loop-state : goal.invariant-loop-state
invariant-loop-state l = record {
  counts : l.counts.items ≡ map channel_count l.yielded;
  slots : l.slots.items ≡ map (λ (x : StateText). Some x) l.yielded;
}
