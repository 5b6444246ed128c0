-- What a worker has made of the way of waiting that it was given.
use Rattle.std.specs.Prelude.{◌≡◌, ℕ, ◌+◌, List, [], ◌∷◌}
use Rattle.cm_ring.specs.Roles.{Reading}

-- a call that a worker makes of its way of waiting: it hands so many on, or waits
pub data Call : Type 0 where
  HandsOn : ℕ → Call
  Waits : Call

-- how many were handed on by some calls
abbrev pub handed_by : List Call → ℕ
handed_by [] = 0
handed_by (HandsOn count ∷ before) = handed_by before + count
handed_by (Waits ∷ before) = handed_by before

-- these calls, the last of them first, have led a way of waiting from what it was to what it is
abbrev pub HaveLed : {W : Type 0} → (W → ℕ → W → Type 0) → (W → W → Type 0) → List Call → W → W → Type 0
HaveLed {W = W} hands waits [] old new = new ≡ old
HaveLed {W = W} hands waits (HandsOn count ∷ before) old new =
    (mid : W) × HaveLed hands waits before old mid × hands mid count new
HaveLed {W = W} hands waits (Waits ∷ before) old new =
    (mid : W) × HaveLed hands waits before old mid × waits mid new

-- a worker that had shown so many has handed on all up to so many by such calls, and made no others
pub record HasHanded
    {W : Type 0} (hands : W → ℕ → W → Type 0) (waits : W → W → Type 0) (from to : ℕ) (old new : W) : Type 0 where
  pub calls : List Call
  pub handed : to ≡ from + handed_by calls
  pub led : HaveLed hands waits calls old new

-- a client's worker has handed on all that its reader has released since
abbrev pub HandsRead : {W : Type 0} → (W → ℕ → W → Type 0) → (W → W → Type 0) → Reading → Reading → W → W → Type 0
HandsRead hands waits before after old new = HasHanded hands waits before.part.released after.part.released old new

-- a worker that had shown so many has handed on all up to some number
abbrev pub HandsSome : {W : Type 0} → (W → ℕ → W → Type 0) → (W → W → Type 0) → ℕ → W → W → Type 0
HandsSome hands waits from old new = (to : ℕ) × HasHanded hands waits from to old new

-- of a worker that had shown so many: what it has handed on up to there, it has handed on up to here
abbrev pub HandsTo : {W : Type 0} → (W → ℕ → W → Type 0) → (W → W → Type 0) → ℕ → ℕ → W → W → Type 0
HandsTo {W = W} hands waits before after old new =
    (start : W) (from : ℕ) → HasHanded hands waits from before start old → HasHanded hands waits from after start new

-- the same of one that has shown so many more, which are now all
abbrev pub HandsMore : {W : Type 0} → (W → ℕ → W → Type 0) → (W → W → Type 0) → ℕ → ℕ → W → W → Type 0
HandsMore hands waits count all old new = (before : ℕ) → all ≡ before + count → HandsTo hands waits before all old new

-- and then it has ended its way of waiting
pub record HasServed
    {W : Type 0} (hands : W → ℕ → W → Type 0) (waits ends : W → W → Type 0) (from to : ℕ) (old new : W) : Type 0 where
  pub last : W
  pub handed : HasHanded hands waits from to old last
  pub ended : ends last new

-- of a worker that has ended: what it had handed on up to there, it has served up to here
abbrev pub EndsServing :
    {W : Type 0} → (W → ℕ → W → Type 0) → (W → W → Type 0) → (W → W → Type 0) → ℕ → ℕ → W → W → Type 0
EndsServing {W = W} hands waits ends before after old new =
    (start : W) (from : ℕ)
    → HasHanded hands waits from before start old → HasServed hands waits ends from after start new
