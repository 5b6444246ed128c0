-- A loop on its way.
use Rattle.std.specs.Prelude.{◌≡◌, ℕ, ◌+◌, ◌≤◌, true, List, length, take, Option, Some, None}
use Rattle.cm_ring_core.specs.declared.view.EndKind.{EndKind}
use Rattle.cm_ring_core.specs.declared.view.EndKind.TheVariants.{Done, Overrun, Cancelled}
use Rattle.cm_ring_core.specs.declared.view.End.{End}
use Rattle.cm_ring.specs.Roles.{Reading, Writing}
use Rattle.cm_loop.specs.Filter.{FilterText, filtered}
use Rattle.cm_loop.specs.State.{StateText, StandsFor}

-- so many samples were taken and so many outputs put: all but one that waits for room, where there is one
abbrev pub IsWaiting : Option ℕ → ℕ → ℕ → FilterText → List ℕ → Type 0
IsWaiting None put taken rule x = put ≡ taken
IsWaiting (Some output) put taken rule x = (put + 1 ≡ taken) × (output ≡ filtered rule x put)

-- the first so many samples of a list are filtered
pub record HasFiltered
    (filter : FilterText) (x : List ℕ) (taken put : ℕ) (state : StateText) (waiting : Option ℕ) : Type 0 where
  pub within : taken ≤ length x
  pub rule : state.rule ≡ filter
  pub stands : StandsFor state (take taken x)
  pub waits : IsWaiting waiting put taken filter x

-- a reader of the same ring, which has asked for the stop as before
abbrev pub IsSameStream : Reading → Reading → Type 0
IsSameStream old new = (new.table ≡ old.table) × (new.ring ≡ old.ring) × (new.part.asked ≡ old.part.asked)

-- and has released no more
abbrev pub IsSameInput : Reading → Reading → Type 0
IsSameInput old new = IsSameStream old new × (new.part.released ≡ old.part.released)

-- a writer of the same ring
abbrev pub IsSameOutput : Writing → Writing → Type 0
IsSameOutput old new = (new.table ≡ old.table) × (new.ring ≡ old.ring)

-- how many outputs wait for room
abbrev pub waits : Option ℕ → ℕ
waits None = 0
waits (Some output) = 1

-- a writer each of whose looks found a sample more released,
-- but for that of an output which waits; none was at the stop
pub record HasLooked (old new : Writing) (waiting : Option ℕ) : Type 0 where
  pub looks : new.part.read_looks + old.part.freed ≤ old.part.read_looks + new.part.freed + waits waiting
  pub stop_looks : new.part.stop_looks ≡ old.part.stop_looks
  pub saw_stop : new.part.saw_stop ≡ old.part.saw_stop

-- the input stands as this kind of end asks:
-- after Done all of it is released, after Cancelled the stop was asked for, and Overrun never comes
abbrev pub IsLoopEndBy : EndKind → Reading → Type 0
IsLoopEndBy Done input = input.part.released ≡ length input.ring.samples
IsLoopEndBy Cancelled input = input.part.asked ≡ true
IsLoopEndBy Overrun input = ⊥

-- a loop may end so: the input stands as the kind of the end asks
abbrev pub IsLoopEnd : End → Reading → Type 0
IsLoopEnd end input = IsLoopEndBy end.kind input
