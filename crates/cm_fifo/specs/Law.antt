-- What holds of all that a board with a FIFO hands over.
use Rattle.std.specs.Prelude.{◌≡◌, ◌↔◌, ℕ, ◌<◌, ◌≤◌, List, length, map, take, Some, None}
use Rattle.cm_board.specs.Board.{IsSoundSub}
use Rattle.cm_board.specs.declared.board.Fifo.{Fifo}
use Rattle.cm_expand.specs.Items.{items_of}
use Rattle.cm_expand.specs.Plan.{IsPlan, PlanText}
use Rattle.cm_expand.specs.Taking.{NeverFalls, come, raw_words}
use Rattle.cm_expand.specs.declared.conv.Conv.{Conv}
use Rattle.cm_signal.specs.Signals.{IsSoundSignals}
use Rattle.cm_fifo.specs.Counts.{count_of, loss_of}
use Rattle.cm_fifo.specs.Handed.{Handed, handed_of}

-- the places of conversions
abbrev pub places : List Conv → List ℕ
places conversions = map (λ conv. conv.place) conversions

-- their places in the channel list
abbrev pub indices : List Conv → List ℕ
indices conversions = map (λ conv. conv.list_index) conversions

-- these are the first ones of the conversions, by their words, their places and their places in the channel list
pub record AreFirst (items arrivals : List Conv) : Type 0 where
  pub words : raw_words arrivals ≡ take (length arrivals) (raw_words items)
  pub places : places arrivals ≡ take (length arrivals) (places items)
  pub indices : indices arrivals ≡ take (length arrivals) (indices items)

-- the conversion after those that are handed over comes at a time:
-- it has come by every time from then on, and by no other
abbrev pub IsNext : List Conv → List Conv → ℕ → Type 0
IsNext items arrivals t = (s : ℕ) → (t ≤ s) ↔ (length arrivals < come s items)

-- what is handed over of conversions by a horizon
pub record IsHanded (horizon : ℕ) (items : List Conv) (h : Handed) : Type 0 where
  pub are : AreFirst items h.arrivals
  pub order : NeverFalls h.arrivals
  pub by : come horizon h.arrivals ≡ length h.arrivals
  pub come_before : (t : ℕ) → come t h.arrivals ≤ come t items
  pub within : length h.arrivals ≤ length items
  pub whole : h.lost_at ≡ None → length h.arrivals ≡ length items
  pub lost : (t : ℕ) → h.lost_at ≡ Some t
      → (t ≤ horizon) × (come t h.arrivals ≡ length h.arrivals) × (length h.arrivals < length items)
  pub next : (t : ℕ) → h.lost_at ≡ Some t → IsNext items h.arrivals t

-- a fact of what is handed over of the expansion of each plan of a sound subdevice and sound signals
abbrev pub OfEach : (PlanText → Handed → Type 0) → Type 0
OfEach P = (p : PlanText) (f : Fifo) → IsSoundSub p.sub → IsSoundSignals p.signals → IsPlan p → P p (handed_of p f)

-- it is the expansion's conversions in order
abbrev pub HandedInOrder : Type 0
HandedInOrder = OfEach (λ p h. AreFirst (items_of p) h.arrivals)

-- the times at which it is handed over never fall, and each is by the horizon
abbrev pub HandedInTime : Type 0
HandedInTime = OfEach (λ p h. NeverFalls h.arrivals × (come p.signals.horizon h.arrivals ≡ length h.arrivals))

-- by any time no more was handed over than had come
abbrev pub HandedAfterComing : Type 0
HandedAfterComing = OfEach (λ p h. (t : ℕ) → come t h.arrivals ≤ come t (items_of p))

-- where none is lost, all is handed over
abbrev pub AllHanded : Type 0
AllHanded = OfEach (λ p h. h.lost_at ≡ None → length h.arrivals ≡ length (items_of p))

-- a time is by the horizon, all that is handed over was handed over by then, and one more conversion there is at least
abbrev pub IsAfterHanded : PlanText → Handed → ℕ → Type 0
IsAfterHanded p h t =
    (t ≤ p.signals.horizon)
    × (come t h.arrivals ≡ length h.arrivals)
    × (length h.arrivals < length (items_of p))

-- where one is lost at a time, it is such a time
abbrev pub LostAfterHanded : Type 0
LostAfterHanded = OfEach (λ p h. (t : ℕ) → h.lost_at ≡ Some t → IsAfterHanded p h t)

-- the conversion that is lost is the one after those that are handed over, and it is lost at its time
abbrev pub NextIsLost : Type 0
NextIsLost = OfEach (λ p h. (t : ℕ) → h.lost_at ≡ Some t → IsNext (items_of p) h.arrivals t)

-- the same by places of the whole expansion: each drain hands over all that has come by its time,
-- unless one comes for which the FIFO has no room
abbrev pub HandedByCounts : Type 0
HandedByCounts =
    (p : PlanText) (f : Fifo) (t : ℕ)
    → IsSoundSub p.sub → IsSoundSignals p.signals → IsPlan p
    → come t (handed_of p f).arrivals ≡ count_of f p t

-- and when one is lost
abbrev pub LostByCounts : Type 0
LostByCounts =
    (p : PlanText) (f : Fifo) → IsSoundSub p.sub → IsSoundSignals p.signals → IsPlan p
    → (handed_of p f).lost_at ≡ loss_of f p
