-- How the ring of a free line comes to lose each sample that it may lose.
use Rattle.std.specs.Prelude.{◌≡◌, ℕ, ◌<◌, ◌≤◌, ◌^◌, false, List, [], ◌∷◌, length, slice_index, Some, None}
use mathlib.Core.Option.{some}
use lib.ListN.{get_elem?}
use Rattle.atomic_table.specs.Table.{keeps, opening, stepped}
use Rattle.cm_ring_core.specs.Kinds.{EndsWith, MayEnd, MayMunge, MayPublish, MayPut, MayRelease, MayShow, Munges}
use Rattle.cm_ring_core.specs.Kinds.{Publishes, Puts, Releases, SeesMunged, SeesRead, SeesWritten, Shows}
use Rattle.cm_ring_core.specs.Law.{RingState, first_words}
use Rattle.cm_ring_core.specs.Lawful.{AreConstants, laid, munged_at, opened, plan_at}
use Rattle.cm_ring_core.specs.declared.view.EndKind.TheVariants.{Overrun}
use Rattle.cm_ring_core.specs.declared.view.RingConstants.{RingConstants}
use Rattle.cm_ring_core.specs.declared.view.View.{View}
use Rattle.cm_ring_core.specs.declared.view.WriterPart.{WriterPart}

-- the kinds of step with which samples go through a ring
pub data Kind : Type 0 where
  LoadRead : Kind
  StoreSample : Kind
  PublishWritten : Kind
  LoadWritten : Kind
  MungeCell : Kind
  PublishMunged : Kind
  LoadMunged : Kind
  PublishRead : Kind
  StoreEnd : Kind

-- a writer that hasn't ended
abbrev pub IsOpen : View → Type 0
IsOpen v = (w : WriterPart) × (v.writer ≡ Some w) × (w.closed ≡ None)

-- a seat may make such a step on a word: it finds a number, the word becomes another one, and then it knows this
abbrev pub Makes : Kind → View → ℕ → ℕ → ℕ → View → Type 0
Makes LoadRead v found word number u = (word ≡ 0) × (number ≡ found) × IsOpen v × SeesRead v found u
Makes StoreSample v found word number u = MayPut v word number × Puts v u
Makes PublishWritten v found word number u = (word ≡ 2) × MayPublish v number × Publishes v u
Makes LoadWritten v found word number u = (word ≡ 2) × (number ≡ found) × SeesWritten v found u
Makes MungeCell v found word number u = MayMunge v word number × Munges v found u
Makes PublishMunged v found word number u = (word ≡ 1) × MayShow v number × Shows v u
Makes LoadMunged v found word number u = (word ≡ 1) × (number ≡ found) × SeesMunged v found u
Makes PublishRead v found word number u = (word ≡ 0) × MayRelease v number × Releases v number u
Makes StoreEnd v found word number u = (word ≡ 3) × MayEnd v number × EndsWith v number u

-- a seat makes such a step
pub record IsMade (kind : Kind) (old new : RingState) : Type 0 where
  pub seat : ℕ
  pub word : ℕ
  pub number : ℕ
  pub knew : View
  pub knows : View
  pub there : get_elem? old.views seat ≡ some knew
  pub makes : Makes kind knew (slice_index old.words word) word number knows
  pub is : new ≡ stepped old word number seat [] knows keeps

-- these steps, the last of them first, lead from a state of a ring to another
abbrev pub Lead : List Kind → RingState → RingState → Type 0
Lead [] old new = new ≡ old
Lead (kind ∷ before) old new = (mid : RingState) × Lead before old mid × IsMade kind mid new

-- some order of steps leads a ring that is opened to the end `overrun k`
pub record CanOverrun (ring : RingConstants) (k : ℕ) : Type 0 where
  pub steps : List Kind
  pub state : RingState
  pub lead : Lead steps (opening (laid (first_words ring)) [] (opened ring)) state
  pub view : View
  pub there : get_elem? state.views 0 ≡ some view
  pub writer : WriterPart
  pub writes : view.writer ≡ Some writer
  pub ended : writer.closed ≡ Some (record { kind = Overrun; count = k })

-- samples and munged samples have 32 bits
abbrev pub Have32Bits : RingConstants → Type 0
Have32Bits ring = (k : ℕ) → (plan_at ring k < 2 ^ 32) × (munged_at ring k < 2 ^ 32)

-- a ring that isn't paced can lose each sample of its plan that comes after as many as it has cells
abbrev pub LossesCanCome : Type 0
LossesCanCome =
    (ring : RingConstants) → AreConstants ring → Have32Bits ring → ring.paced ≡ false
    → (k : ℕ) → ring.size ≤ k → k < length ring.samples → CanOverrun ring k
