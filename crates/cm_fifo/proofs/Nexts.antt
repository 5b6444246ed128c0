-- What holds of each thing that comes next.
use Rattle.std.proofs.Common.{◌≡◌, ℕ, ◌+◌, ◌<◌, ◌≤◌, Bool, true, false, List, [], ◌∷◌, length, refl, arith, Option, Some, None}
use Rattle.std.specs.Prelude.{if◌then◌else◌, nat_le, slice_get}
use Rattle.std.proofs.lemmas.Bool.{leb-true}
use Rattle.std.proofs.lemmas.Option.{slice_get_within}
use Rattle.cm_board.specs.declared.board.Fifo.{Fifo}
use Rattle.cm_expand.specs.Plan.{PlanText}
use Rattle.cm_expand.specs.Taking.{come}
use Rattle.cm_expand.specs.declared.conv.Conv.{Conv}
use Rattle.cm_fifo.specs.Handed.{NextEvent, Drains, Nothing, Overflows, next_event, drain_time, last_of, unless_lost}
use Rattle.cm_fifo.specs.State.{FifoState, IsSoundFifo, left_after, next_of}
use Rattle.cm_fifo.proofs.Arrivals.{some_drained}
use Rattle.cm_fifo.proofs.Lasts.{are_left, AreLeft}

-- a drain is by the horizon, and of those that have come by its time, of which there are some; an overflow is by the horizon, and one more is left than the FIFO holds
abbrev pub IsNext : Fifo → ℕ → List Conv → NextEvent → Type 0
IsNext f horizon left Nothing = Unit {0}
IsNext f horizon left (Drains time count) = (count ≡ come time left) × (1 ≤ count) × (time ≤ horizon)
IsNext f horizon left (Overflows time) = (f.depth < length left) × (time ≤ horizon)

drains-next : (f : Fifo) (horizon : ℕ) (left : List Conv) (time : ℕ) (c : NextEvent) → time ≤ horizon → 1 ≤ come time left → Drains time (come time left) ≡ c → IsNext f horizon left c
drains-next f horizon left time Nothing by some e = absurd (cc)
drains-next f horizon left time (Overflows t) by some e = absurd (cc)
drains-next f horizon left time (Drains t count) by some e =
    let same : count ≡ come t left = cc in
    let counted : come time left ≡ count = cc in
    let now : time ≡ t = cc in
    (same, omega arith, omega arith)

overflows-next : (f : Fifo) (horizon : ℕ) (left : List Conv) (time : ℕ) (c : NextEvent) → time ≤ horizon → f.depth < length left → Overflows time ≡ c → IsNext f horizon left c
overflows-next f horizon left time Nothing by more e = tt
overflows-next f horizon left time (Overflows t) by more e = let now : time ≡ t = cc in (more, omega arith)
overflows-next f horizon left time (Drains t count) by more e = absurd (cc)

module _ (p : PlanText) (f : Fifo) where
  pub is_next : (left : List Conv) → AreLeft p left → (c : NextEvent) → next_event f (last_of p) p.signals.horizon left ≡ c → IsNext f p.signals.horizon left c
  is_next [] are Nothing e = tt
  is_next [] are (Drains time count) e = absurd (cc)
  is_next [] are (Overflows time) e = absurd (cc)
  is_next (x ∷ xs) are c e = at (slice_get (x ∷ xs) f.depth) refl e
    where
      some : 1 ≤ come (drain_time f (last_of p) p.signals.horizon (x ∷ xs)) (x ∷ xs)
      some = some_drained f (last_of p) p.signals.horizon 0 x xs are.order are.by are.all

      by_drain : drain_time f (last_of p) p.signals.horizon (x ∷ xs) ≤ p.signals.horizon
      by_drain = omega arith

      at : (o : Option Conv) → slice_get (x ∷ xs) f.depth ≡ o →
          unless_lost o (drain_time f (last_of p) p.signals.horizon (x ∷ xs)) (come (drain_time f (last_of p) p.signals.horizon (x ∷ xs)) (x ∷ xs)) ≡ c → IsNext f p.signals.horizon (x ∷ xs) c
      at None is e = drains-next f p.signals.horizon (x ∷ xs) (drain_time f (last_of p) p.signals.horizon (x ∷ xs)) c by_drain some e
      at (Some y) is e = by_late (nat_le y.time (drain_time f (last_of p) p.signals.horizon (x ∷ xs))) refl e
        where
          by_late : (late : Bool) → nat_le y.time (drain_time f (last_of p) p.signals.horizon (x ∷ xs)) ≡ late →
              (if late then Overflows y.time else Drains (drain_time f (last_of p) p.signals.horizon (x ∷ xs)) (come (drain_time f (last_of p) p.signals.horizon (x ∷ xs)) (x ∷ xs))) ≡ c → IsNext f p.signals.horizon (x ∷ xs) c
          by_late true early e = overflows-next f p.signals.horizon (x ∷ xs) y.time c (omega (arith, leb-true y.time (drain_time f (last_of p) p.signals.horizon (x ∷ xs)) early, by_drain)) (slice_get_within (x ∷ xs) f.depth y is) e
          by_late false late e = drains-next f p.signals.horizon (x ∷ xs) (drain_time f (last_of p) p.signals.horizon (x ∷ xs)) c by_drain some e

-- what comes next of a board, as far as it is a drain or an overflow
pub step-next : (b : FifoState) → IsSoundFifo b → (c : NextEvent) → next_of b ≡ c → IsNext b.fifo b.plan.signals.horizon (left_after b) c
step-next b is c e = by_over b.over refl c e
  where
    are : AreLeft b.plan (left_after b)
    are = are_left b.plan (b.taken + b.ready) is.expansion is.within

    by_over : (over : Bool) → b.over ≡ over → (c : NextEvent) → (if over then Nothing else next_event b.fifo (last_of b.plan) b.plan.signals.horizon (left_after b)) ≡ c → IsNext b.fifo b.plan.signals.horizon (left_after b) c
    by_over false same c e = is_next b.plan b.fifo (left_after b) are c e
    by_over true same Nothing e = tt
    by_over true same (Drains time count) e = absurd (cc)
    by_over true same (Overflows time) e = absurd (cc)
