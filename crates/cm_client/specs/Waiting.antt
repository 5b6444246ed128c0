-- What contracts see of how a worker waits.
use Rattle.std.specs.Prelude.{◌≡◌, ℕ, ◌+◌, ◌-◌, ◌<◌, ◌≤◌, List, min, Bool, false, not}
use Rattle.std.specs.List.{All}
use Rattle.cm_ring.specs.Roles.{Munging}

-- after how many samples a worker is woken, and how many came since it was woken last
pub record AlarmText : Type 0 where
  pub every : ℕ
  pub count : ℕ

-- alarms that have woken the others for all samples
abbrev pub HaveRung : List AlarmText → Type 0
HaveRung alarms = All (λ alarm. alarm.count ≡ 0) alarms

-- a worker that sleeps goes on, and the next one was woken where so many more were enough
pub record HasHandedOn (more : ℕ) (old : AlarmText) (announced : Bool) (new : AlarmText) : Type 0 where
  pub awake : 0 < more → announced ≡ false
  pub woken : 0 < more → old.every ≤ old.count + more → new ≡ record old { count = 0 }
  pub kept : old.count + more < old.every → new ≡ record old { count = old.count + more }

-- the next worker was woken for all, and this one is announced or has slept
pub record HasWaited (before : Bool) (old : AlarmText) (announced : Bool) (new : AlarmText) : Type 0 where
  pub alarm : new ≡ record old { count = 0 }
  pub sleeper : announced ≡ not before

-- the next worker was woken for all
abbrev pub HasEnded : AlarmText → AlarmText → Type 0
HasEnded old new = new ≡ record old { count = 0 }

-- a munger looked for samples once more, and munged those that were there, 256 at most
pub record HasMungedPiece (old new : Munging) : Type 0 where
  pub of : (new.table ≡ old.table) × (new.ring ≡ old.ring)
  pub looks : new.part.written_looks ≡ old.part.written_looks + 1
  pub munged : new.part.munged ≡ old.part.munged + min 256 (new.part.avail - old.part.munged)
