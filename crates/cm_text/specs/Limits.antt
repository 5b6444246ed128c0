-- What an end says of the number of conversions.
use Rattle.std.specs.Prelude.{◌≡◌, ℕ, ◌<◌}
use Rattle.cm_expand.specs.Plan.{PlanText}
use Rattle.cm_ring_core.specs.declared.view.EndKind.{EndKind}
use Rattle.cm_ring_core.specs.declared.view.EndKind.TheVariants.{Done, Overrun, Cancelled}
use Rattle.cm_expand.specs.Totals.{length_of}

-- all of them were written where the writer was done, and fewer where a sample found no room
abbrev pub FitsCount : PlanText → EndKind → ℕ → Type 0
FitsCount p Done count = count ≡ length_of p
FitsCount p Overrun count = count < length_of p
FitsCount p Cancelled count = Unit {0}
