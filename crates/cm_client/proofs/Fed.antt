-- How a writer of a paced ring ends.
use Rattle.std.proofs.Common.{◌≡◌, ◌⊎◌, ℕ, Bool, true, List, length, refl, ap, ◌∙◌, inl, inr}
use Rattle.cm_ring_core.specs.declared.view.RingConstants.{RingConstants}
use Rattle.cm_ring_core.specs.declared.view.End.{End}
use Rattle.cm_ring_core.specs.declared.view.EndKind.{EndKind}
use Rattle.cm_ring_core.specs.declared.view.EndKind.TheVariants.{Done, Overrun, Cancelled}
use Rattle.cm_ring_core.specs.Lawful.{MayEndAs}
use Rattle.cm_ring.specs.Roles.{Closing}
use Rattle.cm_client.specs.Streamed.{EndsTruly}

ends_as : (ring : RingConstants) (at freed : ℕ) (saw_stop : Bool) (kind : EndKind) (count : ℕ) → ring.paced ≡ true → MayEndAs ring at freed saw_stop kind count
    → ((kind ≡ Done) × (count ≡ length ring.samples)) ⊎ ((kind ≡ Cancelled) × (saw_stop ≡ true))
ends_as ring at freed saw_stop Done count paced may = inl (refl, may)
ends_as ring at freed saw_stop Overrun count paced may = absurd (let free = may.3 in cc)
ends_as ring at freed saw_stop Cancelled count paced may = inr (refl, may)

same_end : (e : End) (words samples : List ℕ) → samples ≡ words → ((e.kind ≡ Done) × (e.count ≡ length samples)) → e ≡ (let whole : End = record { kind = Done; count = length words } in whole)
same_end e words samples plan done =
    let kind = done.0 in let count = done.1 ∙ ap (length {A = ℕ}) plan in λ i. record { kind = kind i; count = count i }

-- with Done after all words, or with Cancelled where it saw the stop
pub paced_end : (c : Closing) (words : List ℕ) → c.ring.samples ≡ words → c.ring.paced ≡ true → EndsTruly c
    → (c.end ≡ (let whole : End = record { kind = Done; count = length words } in whole)) ⊎ ((c.end.kind ≡ Cancelled) × (c.part.saw_stop ≡ true))
paced_end c words plan paced truly = either (ends_as c.ring c.part.at c.part.freed c.part.saw_stop c.end.kind c.end.count paced truly) where
  either : ((c.end.kind ≡ Done) × (c.end.count ≡ length c.ring.samples)) ⊎ ((c.end.kind ≡ Cancelled) × (c.part.saw_stop ≡ true))
      → (c.end ≡ (let whole : End = record { kind = Done; count = length words } in whole)) ⊎ ((c.end.kind ≡ Cancelled) × (c.part.saw_stop ≡ true))
  either (inl done) = inl (same_end c.end words c.ring.samples plan done)
  either (inr stopped) = inr stopped
