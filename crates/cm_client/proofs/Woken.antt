-- Each step of workers that sleep and wake keeps their rule, so no wake is lost.
use Rattle.std.proofs.Common.{◌≡◌, ℕ, ◌+◌, ◌<◌, List, [], ◌∷◌, sym, refl, subst, ⊎_elim, inl, inr, arith}
use Rattle.cm_client.specs.Waking.{Sleeping, Waking, Runs, IsAnnounced, HasCount, HasLooked, Sleeps, OwesNone, HasPublished, HasFound, HasCounted, EventText, own_mark, woken, Step, Announces, LoadsCount, Looks, GoesOn, FallsAsleep, WakesUp, Publishes, FindsNobody, FindsSomebody, CountsWake, Wakes, OtherAnnounces, OtherGoesOn, OtherCounts, OtherWakes, Makes, Owes, IsWakeable, AreWoken, IsStart, KeepsWoken, Leads, NoWakeIsLost, NotBothSeeNothing}

-- one that is woken
up : (s : Sleeping) (p k : ℕ) (w : Waking) → IsWakeable s p k w → IsWakeable (woken s) p k w
up Runs p k w h = h
up IsAnnounced p k w h = h
up (HasCount c) p k w h = h
up (HasLooked c n) p k w h = h
up (Sleeps c n) p k w h = (h.0, h.1, λ lt. ⊎_elim (λ t. inl t.0) (λ t. inr t) (h.2 lt))

-- the count of wakes rises
rises : (s : Sleeping) (p k : ℕ) (w : Waking) → IsWakeable s p k w → IsWakeable s p (k + 1) w
rises Runs p k w h = h
rises IsAnnounced p k w h = h
rises (HasCount c) p k w h = omega arith
rises (HasLooked c n) p k w h = (omega arith, h.1, λ lt. ⊎_elim (λ t. inl (omega arith)) (λ t. inr t) (h.2 lt))
rises (Sleeps c n) p k w h = (omega arith, h.1, λ lt. ⊎_elim (λ t. inl (omega arith, t.1)) (λ t. inr t) (h.2 lt))

-- the wake is counted
counts : (s : Sleeping) (p k : ℕ) → IsWakeable s p k HasFound → IsWakeable s p (k + 1) HasCounted
counts Runs p k h = h
counts IsAnnounced p k h = h
counts (HasCount c) p k h = omega arith
counts (HasLooked c n) p k h = (omega arith, h.1, λ lt. inl (let a = h.0 in omega arith))
counts (Sleeps c n) p k h = (omega arith, h.1, λ lt. inl (let a = h.0 in omega arith, refl))

-- the wake is made
wakes : (s : Sleeping) (p k : ℕ) → IsWakeable s p k HasCounted → IsWakeable (woken s) p k OwesNone
wakes Runs p k h = h
wakes IsAnnounced p k h = h
wakes (HasCount c) p k h = h
wakes (HasLooked c n) p k h = (h.0, h.1, λ lt. ⊎_elim (λ t. inl t) (λ t. absurd t) (h.2 lt))
wakes (Sleeps c n) p k h = (h.0, h.1, λ lt. ⊎_elim (λ t. inl t.0) (λ t. absurd t) (h.2 lt))

-- more is published
more : (s : Sleeping) (p m k : ℕ) (w : Waking) → IsWakeable s p k w → IsWakeable s (p + m) k HasPublished
more Runs p m k w h = h
more IsAnnounced p m k w h = h
more (HasCount c) p m k w h = h
more (HasLooked c n) p m k w h = (h.0, (let a = h.1 in omega arith), λ lt. inr tt)
more (Sleeps c n) p m k w h = (h.0, (let a = h.1 in omega arith), λ lt. inr tt)

-- somebody is found
finds : (s : Sleeping) (p k : ℕ) → IsWakeable s p k HasPublished → IsWakeable s p k HasFound
finds Runs p k h = h
finds IsAnnounced p k h = h
finds (HasCount c) p k h = h
finds (HasLooked c n) p k h = (h.0, h.1, λ lt. inr tt)
finds (Sleeps c n) p k h = (h.0, h.1, λ lt. inr tt)

-- nobody is found, since the one runs
nobody : (s : Sleeping) (others p k : ℕ) → own_mark s + others ≡ 0 → IsWakeable s p k OwesNone
nobody Runs others p k e = tt
nobody IsAnnounced others p k e = tt
nobody (HasCount c) others p k e = absurd (omega arith)
nobody (HasLooked c n) others p k e = absurd (omega arith)
nobody (Sleeps c n) others p k e = absurd (omega arith)

-- from the worker's own words to the rule
at : (e : EventText) (s : Sleeping) (w : Waking) → e.sleeping ≡ s → e.waking ≡ w → AreWoken e → IsWakeable s e.published e.wakes w
at e s w is by h = subst (λ (x : Waking). IsWakeable s e.published e.wakes x) by (subst (λ (x : Sleeping). IsWakeable x e.published e.wakes e.waking) is h)

falls : (k n p : ℕ) (w : Waking) → IsWakeable (HasLooked k n) p k w → IsWakeable (Sleeps k n) p k w
falls k n p w h = (h.0, h.1, λ lt. ⊎_elim (λ t. absurd (omega arith)) (λ t. inr t) (h.2 lt))

pub keeps : (step : Step) (e f : EventText) → AreWoken e → Makes step e f → AreWoken f
keeps Announces e f h m = subst AreWoken (sym m.1) tt
keeps LoadsCount e f h m = subst AreWoken (sym m.1) (omega arith)
keeps Looks e f h m = subst AreWoken (sym m.2) ((at e (HasCount m.0) e.waking m.1 refl h), omega arith, λ lt. absurd (omega arith))
keeps GoesOn e f h m = subst AreWoken (sym m.1) tt
keeps FallsAsleep e f h m = subst AreWoken (sym m.2) (falls e.wakes m.0 e.published e.waking (at e (HasLooked e.wakes m.0) e.waking m.1 refl h))
keeps WakesUp e f h m = subst AreWoken (sym m) (up e.sleeping e.published e.wakes e.waking h)
keeps (Publishes n) e f h m = subst AreWoken (sym m.1) (more e.sleeping e.published n e.wakes e.waking h)
keeps FindsNobody e f h m = subst AreWoken (sym m.2) (nobody e.sleeping e.others e.published e.wakes m.1)
keeps FindsSomebody e f h m = subst AreWoken (sym m.2) (finds e.sleeping e.published e.wakes (at e e.sleeping HasPublished refl m.0 h))
keeps CountsWake e f h m = subst AreWoken (sym m.1) (counts e.sleeping e.published e.wakes (at e e.sleeping HasFound refl m.0 h))
keeps Wakes e f h m = subst AreWoken (sym m.1) (wakes e.sleeping e.published e.wakes (at e e.sleeping HasCounted refl m.0 h))
keeps OtherAnnounces e f h m = subst AreWoken (sym m) h
keeps OtherGoesOn e f h m = subst AreWoken (sym m.1) h
keeps OtherCounts e f h m = subst AreWoken (sym m) (rises e.sleeping e.published e.wakes e.waking h)
keeps OtherWakes e f h m = subst AreWoken (sym m) (up e.sleeping e.published e.wakes e.waking h)

starts : (e : EventText) → IsStart e → AreWoken e
starts e s = subst (λ (x : Sleeping). IsWakeable x e.published e.wakes e.waking) (sym s.runs) tt

pub keeps_woken : KeepsWoken
keeps_woken = (starts, keeps)

-- the rule holds after any steps
holds : (steps : List Step) (start e : EventText) → AreWoken start → Leads steps start e → AreWoken e
holds [] start e h l = subst AreWoken (sym l) h
holds (step ∷ steps) start e h l = holds steps l.0 e (keeps step start l.0 h l.1) l.2

owes : (w : Waking) (p k c n : ℕ) → n < p → IsWakeable (Sleeps c n) p k w → Owes w
owes OwesNone p k c n lt h = ⊎_elim (λ t. absurd (cc)) (λ t. absurd t) (h.2 lt)
owes HasPublished p k c n lt h = tt
owes HasFound p k c n lt h = tt
owes HasCounted p k c n lt h = tt

pub no_wake_is_lost : NoWakeIsLost
no_wake_is_lost steps start e count seen s l is lt =
    owes e.waking e.published e.wakes count seen lt (at e (Sleeps count seen) e.waking is refl (holds steps start e (starts start s) l))

sees_all : (p k n : ℕ) → IsWakeable (HasLooked k n) p k OwesNone → n ≡ p
sees_all p k n h = let a = h.1 in let not_less : n < p → ⊥ = λ lt. ⊎_elim (λ t. absurd (omega arith)) (λ t. t) (h.2 lt) in omega arith

pub not_both : NotBothSeeNothing
not_both steps start e seen s l is none = sees_all e.published e.wakes seen (at e (HasLooked e.wakes seen) OwesNone is none (holds steps start e (starts start s) l))
