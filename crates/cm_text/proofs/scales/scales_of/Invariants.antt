use Rattle.std.proofs.Common.{◌≡◌, ℕ, length, Some}
use Rattle.std.specs.Prelude.{slice_get, slice_index}
use Rattle.cm_sample.specs.declared.scale.Scale.{Scale}
use Rattle.cm_text.specs.Scales.{IsScaleOf}
use Rattle.cm_text.proofs.scales.scales_of.Given as goal

-- the scales so far are those of the first list entries
abbrev pub invariant-loop-entry : goal.invariant-loop-entry
invariant-loop-entry l = record {
  all : length l.scales.items ≡ l.entry-index;
  each : (k : ℕ) (scale : Scale) → slice_get l.scales.items k ≡ Some scale → IsScaleOf l.sub (slice_index l.list k) scale;
}
