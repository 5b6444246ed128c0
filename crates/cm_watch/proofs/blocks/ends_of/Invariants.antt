use Rattle.std.proofs.Common.{◌≡◌, ℕ, length, Some}
use Rattle.std.specs.Prelude.{slice_get}
use Rattle.cm_ring_core.specs.declared.view.End.{End}
use Rattle.cm_stream.specs.Merging.{IsEndOf}
use Rattle.cm_watch.proofs.blocks.ends_of.Given as goal

-- the ends of the first sources
abbrev pub invariant-loop-i : goal.invariant-loop-i
invariant-loop-i g l = record {
  count : length l.ends.items ≡ l.i;
  each : (j : ℕ) (e : End) → slice_get l.ends.items j ≡ Some e → IsEndOf l.merge.streams j (Some e);
}
