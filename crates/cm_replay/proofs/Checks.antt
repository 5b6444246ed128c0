-- What is known where no check refuses.
use Rattle.std.proofs.Common.{◌≡◌, ℕ, ◌<◌, ◌≤◌, Bool, true, false, List, [], ◌∷◌, ◌++◌, length, refl, inl, inr, Option, Some, None}
use Rattle.std.specs.Prelude.{nat_le, nat_lt, not}
use Rattle.std.proofs.lemmas.Bool.{cases_lt, lt-ltb, le-leb}
use Rattle.cm_base.proofs.Bools.{not_false}
use Rattle.cm_sub.specs.Checks.{first_refusal, refuse}
use Rattle.cm_sub.specs.Claims.{cancel_checks}
use Rattle.cm_sub.specs.Files.{FilesText, is_open, reach_checks}
use Rattle.cm_sub.specs.declared.errno.Errno.{Errno}
use Rattle.cm_sub.specs.declared.errno.Errno.TheVariants.{Access, Again, Inval, NoDev}
use Rattle.cm_running.specs.Running.{Running}
use Rattle.cm_running.specs.Triggering.{waits}
use Rattle.cm_replay.specs.Moves.{Act, Fill, Map, Mark, Release, Take, Trigger, Write, act_checks, reader_checks, writer_checks}
use Rattle.cm_replay.specs.Reading.{mapped}
use Rattle.cm_replay.specs.State.{Here, claim_of, is_foreign, is_out_here}
use Rattle.cm_replay.specs.Writing.{unmarked}

-- the first check didn't hold, and the rest passed too
pub passes : (e : Errno) (t : Bool) (rest : List (Option Errno)) → first_refusal (refuse e t ∷ rest) ≡ None → (t ≡ false) × (first_refusal rest ≡ None)
passes e true rest h = absurd (cc)
passes e false rest h = (refl, h)

-- both of two lists of checks passed
pub passes-both : (xs ys : List (Option Errno)) → first_refusal (xs ++ ys) ≡ None → (first_refusal xs ≡ None) × (first_refusal ys ≡ None)
passes-both [] ys h = (refl, h)
passes-both (None ∷ xs) ys h = passes-both xs ys h
passes-both (Some e ∷ xs) ys h = absurd (cc)

pub le-false : (m n : ℕ) → nat_le m n ≡ false → n < m
le-false m n h = elim (cases_lt n m) [
  | inl below ↦ below
  | inr above ↦ let t = le-leb m n above in absurd (cc)
]

pub lt-false : (m n : ℕ) → nat_lt m n ≡ false → n ≤ m
lt-false m n h = elim (cases_lt m n) [
  | inl below ↦ let t = lt-ltb m n below in absurd (cc)
  | inr above ↦ above
]

-- a subdevice that is reached is there
pub reached-within : (f i : ℕ) (files : FilesText) → first_refusal (reach_checks f i files) ≡ None → i < length files.claims
reached-within f i files reached = le-false _ _ (passes NoDev (nat_le (length files.claims) i) [] (passes Inval (not (is_open files f)) _ reached).1).0

-- a buffer that may be read is an input's, and no other file runs its command
pub reads : (h : Here) (rest : List (Option Errno)) → first_refusal (reader_checks h ++ rest) ≡ None → (is_out_here h ≡ false) × (is_foreign h ≡ false) × (first_refusal rest ≡ None)
reads h rest passed =
    let p = passes Inval (is_out_here h) (refuse Access (is_foreign h) ∷ rest) passed in
    let q = passes Access (is_foreign h) rest p.1 in
    (p.0, q.0, q.1)

-- one that may be written is an output's
pub writes : (h : Here) (rest : List (Option Errno)) → first_refusal (writer_checks h ++ rest) ≡ None → (is_out_here h ≡ true) × (is_foreign h ≡ false) × (first_refusal rest ≡ None)
writes h rest passed =
    let p = passes Inval (not (is_out_here h)) (refuse Access (is_foreign h) ∷ rest) passed in
    let q = passes Access (is_foreign h) rest p.1 in
    (not_false _ p.0, q.0, q.1)

-- what an act can rely on
abbrev pub Allows : Act → Here → Option Running → Type 0
Allows (Take shown n) h running = is_out_here h ≡ false
Allows (Map n) h running = is_out_here h ≡ false
Allows (Release k) h running = (is_out_here h ≡ false) × (k ≤ mapped running)
Allows (Write words) h running = is_out_here h ≡ true
Allows (Fill words) h running = is_out_here h ≡ true
Allows (Mark k) h running = (is_out_here h ≡ true) × (k ≤ unmarked running)
Allows Trigger h running = waits h.time running ≡ true

pub allows : (act : Act) (h : Here) → first_refusal (act_checks act h) ≡ None → Allows act h h.device.running
allows (Take shown n) h passed = (reads h _ passed).0
allows (Map n) h passed = (reads h [] passed).0
allows (Release k) h passed = let r = reads h _ passed in (r.0, lt-false _ _ (passes Inval _ [] r.2).0)
allows (Write words) h passed = (writes h [] passed).0
allows (Fill words) h passed = (writes h [] passed).0
allows (Mark k) h passed = let w = writes h _ passed in (w.0, lt-false _ _ (passes Inval _ [] w.2).0)
allows Trigger h passed = not_false _ (passes Again _ [] (passes-both (cancel_checks h.file (claim_of h)) _ passed).1).0
