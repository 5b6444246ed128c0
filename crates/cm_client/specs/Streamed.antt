-- What a stream of one command gives.
use Rattle.std.specs.Prelude.{◌≡◌, ℕ, ◌+◌, ◌≤◌, true, List, length, Option, Some, None, MatchOption}
use Rattle.cm_ring_core.specs.declared.view.RingConstants.{RingConstants}
use Rattle.cm_ring_core.specs.declared.view.End.{End}
use Rattle.cm_ring_core.specs.declared.view.EndKind.TheVariants.{Cancelled, Done}
use Rattle.cm_ring_core.specs.Lawful.{MayEndAs, IsFoundEnd, first_reader}
use Rattle.cm_ring.specs.Roles.{Reading, Munging, Closing}
use Rattle.cm_ring.specs.Samples.{first_munged, munged_plan}
use Rattle.cm_base.specs.UpTo.{up_to}
use Rattle.cm_client.specs.Progress.{IsTaken}

-- the writer's end is true of its last look and of the stop that it saw
abbrev pub EndsTruly : Closing → Type 0
EndsTruly c = MayEndAs c.ring c.part.at c.part.freed c.part.saw_stop c.end.kind c.end.count

-- a writer looked at the stop at least as often as a look found no sample more released,
-- and ended at the stop that it saw
abbrev pub HeedsStop : Closing → Type 0
HeedsStop c = (c.part.read_looks ≤ c.part.freed + c.part.stop_looks) × (c.part.saw_stop ≡ true → c.end.kind ≡ Cancelled)

-- the end was found, and all samples up to it are munged
abbrev pub HasMungedAll : Munging → Type 0
HasMungedAll m = MatchOption m.part.found ⊥ (λ e. m.part.munged ≡ e.count)

-- a reader that has neither read nor mapped nor asked for anything
abbrev pub IsFresh : Reading → Type 0
IsFresh r = (r.part ≡ first_reader) × (r.mapped ≡ 0)

-- a reader of the same ring, which has asked for the stop
abbrev pub HasAsked : Reading → Reading → Type 0
HasAsked old new = (new.table ≡ old.table) × (new.ring ≡ old.ring) × (new.part.asked ≡ true)

-- the munged words up to the end that was found, or to the number to take, were read and released;
-- the reader's stop was asked for by none but the client
pub record HasStreamed (ring : RingConstants) (most : Option ℕ) (words : List ℕ) (e : End) (r : Reading) : Type 0 where
  pub of : r.ring ≡ ring
  pub are : words ≡ first_munged ring (up_to e.count most)
  pub released : r.part.released ≡ up_to e.count most
  pub count : length words ≡ up_to e.count most
  pub within : up_to e.count most ≤ length ring.samples
  pub found : r.part.found ≡ Some e
  pub says : IsFoundEnd r.ring r.part e.kind e.count
  pub cancelled : e.kind ≡ Cancelled → IsTaken most e.count
  pub whole : ring.paced ≡ true → most ≡ None → (e.kind ≡ Done) × (words ≡ munged_plan ring)

-- what was made of a stream's samples, up to the end that was found
pub record StreamsTo
    (made : List ℕ) (makes : List ℕ → List ℕ) (ring : RingConstants) (most : Option ℕ) (e : End) (r : Reading)
    : Type 0 where
  pub words : List ℕ
  pub are : made ≡ makes words
  pub streamed : HasStreamed ring most words e r
