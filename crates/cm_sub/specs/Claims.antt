-- Who has a subdevice, and when a file is refused it.
use Rattle.std.specs.Prelude.{ℕ, Bool, false, not, ◌||◌, nat_eq, List, [], ◌∷◌, Option, Some, None, is_some}
use Rattle.std.specs.Prelude.{if◌then◌else◌}
use Rattle.cm_sub.specs.Checks.{refuse}
use Rattle.cm_sub.specs.declared.claim.Claim.{Claim}
use Rattle.cm_sub.specs.declared.errno.Errno.{Errno}
use Rattle.cm_sub.specs.declared.errno.Errno.TheVariants.{Access, Busy}

-- nobody has the subdevice
abbrev pub nobody : Claim
nobody = record { holder = None; runner = None }

-- there is a file, and it is not this one
abbrev pub is_other : ℕ → Option ℕ → Bool
is_other f None = false
is_other f (Some g) = not (nat_eq g f)

-- to lock: nobody may run or hold the subdevice
abbrev pub lock_checks : Claim → List (Option Errno)
lock_checks claim = refuse Busy (is_some claim.runner || is_some claim.holder) ∷ []

-- to unlock: nobody may run the subdevice, and no other file hold it
abbrev pub unlock_checks : ℕ → Claim → List (Option Errno)
unlock_checks f claim = refuse Busy (is_some claim.runner) ∷ refuse Access (is_other f claim.holder) ∷ []

-- to use: no other file may hold the subdevice, and nobody run it
abbrev pub use_checks : ℕ → Claim → List (Option Errno)
use_checks f claim = refuse Access (is_other f claim.holder) ∷ refuse Busy (is_some claim.runner) ∷ []

-- to cancel: no other file may hold the subdevice, and no other one run it
abbrev pub cancel_checks : ℕ → Claim → List (Option Errno)
cancel_checks f claim = refuse Access (is_other f claim.holder) ∷ refuse Busy (is_other f claim.runner) ∷ []

-- the same file where it is another one, and none otherwise
abbrev pub other_than : ℕ → Option ℕ → Option ℕ
other_than f file = if is_other f file then file else None

-- what is left when a file gives up its lock and its command
abbrev pub claim_without : ℕ → Claim → Claim
claim_without f claim = record { holder = other_than f claim.holder; runner = other_than f claim.runner }
