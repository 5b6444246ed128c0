-- How a worker falls asleep until an event, and how another one wakes it, in single steps on shared words: the event's
-- count of those who are announced, its count of wakes, and what the other one has published. Any number of others use
-- the event too.
use Rattle.std.specs.Prelude.{◌≡◌, ◌⊎◌, ℕ, ◌+◌, ◌-◌, ◌<◌, ◌≤◌, List, [], ◌∷◌, ⊤}

-- how far the one is that sleeps: it runs; it is announced; it has the count of wakes that it found then; it has looked
-- once more, and so many were published; it sleeps
pub data Sleeping : Type 0 where
  Runs : Sleeping
  IsAnnounced : Sleeping
  HasCount : ℕ → Sleeping
  HasLooked : ℕ → ℕ → Sleeping
  Sleeps : ℕ → ℕ → Sleeping

-- how far the one is that wakes it: it owes no wake; it has published something; it has found somebody announced; it
-- has counted its wake
pub data Waking : Type 0 where
  OwesNone : Waking
  HasPublished : Waking
  HasFound : Waking
  HasCounted : Waking

-- what is published, how many others are announced, the count of wakes, and how far the two are
pub record EventText : Type 0 where
  pub published : ℕ
  pub others : ℕ
  pub wakes : ℕ
  pub sleeping : Sleeping
  pub waking : Waking

-- 1 where it is announced
abbrev pub own_mark : Sleeping → ℕ
own_mark Runs = 0
own_mark other = 1

-- the word of those who are announced
abbrev pub announced : EventText → ℕ
announced e = own_mark e.sleeping + e.others

-- one that is woken goes on, and looks at the count of wakes again
abbrev pub woken : Sleeping → Sleeping
woken (Sleeps count seen) = HasLooked count seen
woken other = other

-- it sleeps until it is woken
abbrev pub IsAsleep : Sleeping → Type 0
IsAsleep (Sleeps count seen) = ⊤
IsAsleep other = ⊥

-- it may publish, also again before it wakes anybody
abbrev pub MayPublish : Waking → Type 0
MayPublish OwesNone = ⊤
MayPublish HasPublished = ⊤
MayPublish other = ⊥

-- each step is one access to one word: those of the one that sleeps, of the one that wakes it, and of the others
pub data Step : Type 0 where
  Announces : Step
  LoadsCount : Step
  Looks : Step
  GoesOn : Step
  FallsAsleep : Step
  WakesUp : Step
  Publishes : ℕ → Step
  FindsNobody : Step
  FindsSomebody : Step
  CountsWake : Step
  Wakes : Step
  OtherAnnounces : Step
  OtherGoesOn : Step
  OtherCounts : Step
  OtherWakes : Step

-- where a step may be made, and what it leaves. One falls asleep only while the count of wakes is the one that it has,
-- and may wake up for no reason
abbrev pub Makes : Step → EventText → EventText → Type 0
Makes Announces e f = (e.sleeping ≡ Runs) × (f ≡ record e { sleeping = IsAnnounced })
Makes LoadsCount e f = (e.sleeping ≡ IsAnnounced) × (f ≡ record e { sleeping = HasCount e.wakes })
Makes Looks e f =
    (count : ℕ) × (e.sleeping ≡ HasCount count) × (f ≡ record e { sleeping = HasLooked count e.published })
Makes GoesOn e f = (IsAsleep e.sleeping → ⊥) × (f ≡ record e { sleeping = Runs })
Makes FallsAsleep e f =
    (seen : ℕ) × (e.sleeping ≡ HasLooked e.wakes seen) × (f ≡ record e { sleeping = Sleeps e.wakes seen })
Makes WakesUp e f = f ≡ record e { sleeping = woken e.sleeping }
Makes (Publishes more) e f =
    MayPublish e.waking × (f ≡ record e { published = e.published + more; waking = HasPublished })
Makes FindsNobody e f = (e.waking ≡ HasPublished) × (announced e ≡ 0) × (f ≡ record e { waking = OwesNone })
Makes FindsSomebody e f = (e.waking ≡ HasPublished) × (0 < announced e) × (f ≡ record e { waking = HasFound })
Makes CountsWake e f = (e.waking ≡ HasFound) × (f ≡ record e { wakes = e.wakes + 1; waking = HasCounted })
Makes Wakes e f = (e.waking ≡ HasCounted) × (f ≡ record e { sleeping = woken e.sleeping; waking = OwesNone })
Makes OtherAnnounces e f = f ≡ record e { others = e.others + 1 }
Makes OtherGoesOn e f = (0 < e.others) × (f ≡ record e { others = e.others - 1 })
Makes OtherCounts e f = f ≡ record e { wakes = e.wakes + 1 }
Makes OtherWakes e f = f ≡ record e { sleeping = woken e.sleeping }

-- it has published, and is still to count its wake
abbrev pub WillCount : Waking → Type 0
WillCount HasPublished = ⊤
WillCount HasFound = ⊤
WillCount other = ⊥

-- it owes a wake
abbrev pub Owes : Waking → Type 0
Owes OwesNone = ⊥
Owes other = ⊤

-- what holds of the one that sleeps: where it saw less than is published, the count of wakes has risen since, or will
abbrev pub IsWakeable : Sleeping → ℕ → ℕ → Waking → Type 0
IsWakeable (HasCount count) published wakes w = count ≤ wakes
IsWakeable (HasLooked count seen) published wakes w =
    (count ≤ wakes) × (seen ≤ published) × (seen < published → (count < wakes) ⊎ WillCount w)
IsWakeable (Sleeps count seen) published wakes w =
    (count ≤ wakes)
    × (seen ≤ published)
    × (seen < published → ((count < wakes) × (w ≡ HasCounted)) ⊎ WillCount w)
IsWakeable other published wakes w = ⊤

-- the rule, between any two steps
abbrev pub AreWoken : EventText → Type 0
AreWoken e = IsWakeable e.sleeping e.published e.wakes e.waking

-- both run
pub record IsStart (e : EventText) : Type 0 where
  pub runs : e.sleeping ≡ Runs
  pub owes_none : e.waking ≡ OwesNone

-- the rule holds at the start, and each step keeps it
abbrev pub KeepsWoken : Type 0
KeepsWoken =
    ((e : EventText) → IsStart e → AreWoken e)
    × ((step : Step) (e f : EventText) → AreWoken e → Makes step e f → AreWoken f)

-- steps in any order that their workers can make them in
abbrev pub Leads : List Step → EventText → EventText → Type 0
Leads [] e f = f ≡ e
Leads (step ∷ steps) e f = (g : EventText) × Makes step e g × Leads steps g f

-- who sleeps while more is published than it saw is owed a wake
abbrev pub NoWakeIsLost : Type 0
NoWakeIsLost = (steps : List Step) (start e : EventText) (count seen : ℕ) → IsStart start
    → Leads steps start e
    → e.sleeping ≡ Sleeps count seen
    → seen < e.published
    → Owes e.waking

-- who has looked and would fall asleep has seen all that one has published who owes no wake
abbrev pub NotBothSeeNothing : Type 0
NotBothSeeNothing = (steps : List Step) (start e : EventText) (seen : ℕ) → IsStart start
    → Leads steps start e
    → e.sleeping ≡ HasLooked e.wakes seen
    → e.waking ≡ OwesNone
    → seen ≡ e.published
