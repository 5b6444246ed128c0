-- Calls on a way of waiting, one after another.
use Rattle.std.proofs.Common.{◌≡◌, ℕ, ◌+◌, List, [], ◌∷◌, ◌++◌, refl, sym, subst, arith}
use Rattle.cm_client.specs.Served.{Call, HandsOn, Waits, handed_by, HaveLed, HasHanded, HasServed}

joined : {W : Type 0} (hands : W → ℕ → W → Type 0) (waits : W → W → Type 0) (before after : List Call) (old mid new : W) → HaveLed hands waits before old mid → HaveLed hands waits after mid new → HaveLed hands waits (after ++ before) old new
joined {W = W} hands waits before [] old mid new led more = subst (HaveLed hands waits before old) (sym more) led
joined {W = W} hands waits before (HandsOn count ∷ after) old mid new led more = (more.0, joined hands waits before after old mid more.0 led more.1, more.2)
joined {W = W} hands waits before (Waits ∷ after) old mid new led more = (more.0, joined hands waits before after old mid more.0 led more.1, more.2)

counted : (before after : List Call) → handed_by (after ++ before) ≡ handed_by before + handed_by after
counted before [] = omega arith
counted before (HandsOn count ∷ after) = let rest = counted before after in omega (arith, rest)
counted before (Waits ∷ after) = counted before after

-- none was handed on yet
pub none_handed : {W : Type 0} (hands : W → ℕ → W → Type 0) (waits : W → W → Type 0) (from to : ℕ) (old new : W) → to ≡ from → new ≡ old → HasHanded hands waits from to old new
none_handed hands waits from to old new same is = record { calls = []; handed = omega (arith, same); led = is }

-- so many more were handed on
pub more_handed : {W : Type 0} (hands : W → ℕ → W → Type 0) (waits : W → W → Type 0) (from to count all : ℕ) (old mid new : W) →
    HasHanded hands waits from to old mid → hands mid count new → all ≡ to + count → HasHanded hands waits from all old new
more_handed hands waits from to count all old mid new had more is =
    record { calls = HandsOn count ∷ had.calls; handed = (let e = had.handed in omega (arith, e, is)); led = (mid, had.led, more) }

-- the same where the numbers and the way are known by other names
pub same_handed : {W : Type 0} (hands : W → ℕ → W → Type 0) (waits : W → W → Type 0) (from to all : ℕ) (old mid new : W) →
    HasHanded hands waits from to old mid → all ≡ to → new ≡ mid → HasHanded hands waits from all old new
same_handed {W = W} hands waits from to all old mid new had count way =
    subst (λ (n : ℕ). HasHanded hands waits from n old new) (sym count) (subst (λ (w : W). HasHanded hands waits from to old w) (sym way) had)

-- the worker has waited
pub has_waited : {W : Type 0} (hands : W → ℕ → W → Type 0) (waits : W → W → Type 0) (from to : ℕ) (old mid new : W) →
    HasHanded hands waits from to old mid → waits mid new → HasHanded hands waits from to old new
has_waited hands waits from to old mid new had more = record { calls = Waits ∷ had.calls; handed = had.handed; led = (mid, had.led, more) }

-- other calls have followed
pub then_handed : {W : Type 0} (hands : W → ℕ → W → Type 0) (waits : W → W → Type 0) (from to count all : ℕ) (old mid new : W) →
    HasHanded hands waits from to old mid → HasHanded hands waits 0 count mid new → all ≡ to + count → HasHanded hands waits from all old new
then_handed hands waits from to count all old mid new had more is = record {
  calls = more.calls ++ had.calls;
  handed = (let e = had.handed in let m = more.handed in let c = counted had.calls more.calls in omega (arith, e, m, c, is));
  led = joined hands waits had.calls more.calls old mid new had.led more.led;
}
