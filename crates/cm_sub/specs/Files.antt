-- Which files are open, and which of them has each subdevice.
use Rattle.std.specs.Prelude.{◌≡◌, ◌≤◌, ℕ, Bool, true, false, not, ◌||◌, nat_le, List, [], ◌∷◌, length, map, get_or}
use Rattle.std.specs.Prelude.{set, replicate, Option}
use Rattle.cm_sub.specs.Checks.{refuse}
use Rattle.cm_sub.specs.Claims.{nobody, claim_without}
use Rattle.cm_sub.specs.declared.claim.Claim.{Claim}
use Rattle.cm_sub.specs.declared.errno.Errno.{Errno}
use Rattle.cm_sub.specs.declared.errno.Errno.TheVariants.{Inval, NoDev}

-- whether each file is open, and who has each subdevice of the board
pub record FilesText : Type 0 where
  pub are_open : List Bool
  pub claims : List Claim

-- there are 16 files and at most 16 subdevices
pub record IsFiles (files : FilesText) : Type 0 where
  pub sixteen : length files.are_open ≡ 16
  pub few : length files.claims ≤ 16

-- whether a file is open
abbrev pub is_open : FilesText → ℕ → Bool
is_open files f = get_or files.are_open f false

-- who has a subdevice
abbrev pub claim_at : FilesText → ℕ → Claim
claim_at files sub = get_or files.claims sub nobody

-- no file is open, and nobody has a subdevice
abbrev pub no_files : ℕ → FilesText
no_files subs = record { are_open = replicate 16 false; claims = replicate subs nobody }

-- to open a file: it must be one of the 16, and not open
abbrev pub open_checks : ℕ → FilesText → List (Option Errno)
open_checks f files = refuse Inval (nat_le 16 f || is_open files f) ∷ []

-- to close a file: it must be open
abbrev pub close_checks : ℕ → FilesText → List (Option Errno)
close_checks f files = refuse Inval (not (is_open files f)) ∷ []

-- to reach a subdevice: the file must be open, and the subdevice there
abbrev pub reach_checks : ℕ → ℕ → FilesText → List (Option Errno)
reach_checks f sub files = refuse Inval (not (is_open files f)) ∷ refuse NoDev (nat_le (length files.claims) sub) ∷ []

-- one file more is open
abbrev pub opened : ℕ → FilesText → FilesText
opened f files = record files { are_open = set files.are_open f true }

-- a file is closed, and has no subdevice any more
abbrev pub closed : ℕ → FilesText → FilesText
closed f files = record { are_open = set files.are_open f false; claims = map (claim_without f) files.claims }

-- one subdevice's claim is this one, and all else is as before
abbrev pub with_claim : Claim → ℕ → FilesText → FilesText
with_claim claim sub files = record files { claims = set files.claims sub claim }

-- the file that holds one subdevice's lock is this one, or none, and all else is as before
abbrev pub with_holder : Option ℕ → ℕ → FilesText → FilesText
with_holder holder sub files = with_claim (record (claim_at files sub) { holder = holder }) sub files

-- the file with which one subdevice is busy is this one, or none, and all else is as before
abbrev pub with_runner : Option ℕ → ℕ → FilesText → FilesText
with_runner runner sub files = with_claim (record (claim_at files sub) { runner = runner }) sub files
