-- What the thread of a loop's filter has.
use Rattle.std.specs.Prelude.{◌≡◌, true, []}
use Rattle.cm_ring.specs.Samples.{munged_plan}
use Rattle.cm_loop.specs.Filter.{FilterText, all_filtered, AreWithin}
use Rattle.cm_loop.specs.State.{StateText, StandsFor}
use Rattle.cm_ring.specs.Roles.{Reading, Writing}
use Rattle.cm_ring_core.specs.Lawful.{first_reader, first_writer}

-- fresh ends of two paced rings, a fresh state of the filter,
-- samples that it takes, and its outputs as the plan of the output's ring
pub record IsFilterSide (input : Reading) (output : Writing) (rule : FilterText) (state : StateText) : Type 0 where
  pub reader : (input.part ≡ first_reader) × (input.mapped ≡ 0) × (input.ring.paced ≡ true)
  pub writer : (output.part ≡ first_writer) × (output.ring.paced ≡ true)
  pub fresh : (state.rule ≡ rule) × StandsFor state []
  pub within : AreWithin rule (munged_plan input.ring)
  pub plan : output.ring.samples ≡ all_filtered rule (munged_plan input.ring)
