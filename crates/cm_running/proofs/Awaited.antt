-- When what is awaited comes.
use Rattle.std.proofs.Common.{◌≡◌, ℕ, zero, suc, ◌+◌, ◌-◌, ◌≤◌, List, [], ◌∷◌, ◌++◌, length, take, drop, Bool, Option, Some, None, refl, sym, ap, ◌∙◌, inl, inr, arith, append-nil, drop-drop, take-add, length-append, length-drop}
use Rattle.std.specs.Prelude.{slice_get, option_map}
use Rattle.std.proofs.lemmas.Bool.{cases_lt}
use Rattle.std.proofs.lemmas.List.{take_all}
use Rattle.cm_expand.specs.Taking.{come}
use Rattle.cm_expand.specs.declared.conv.Conv.{Conv}
use Rattle.cm_expand.proofs.Come.{come-first, come-later_first, come-le}
use Rattle.cm_fifo.specs.Handed.{last_time, time_or}
use Rattle.cm_running.specs.Awaiting.{last_after, quiet_after}
use Rattle.cm_running.specs.ToCome.{ToCome}
use Rattle.cm_running.proofs.Ahead.{first-left}
use Rattle.cm_running.proofs.Takings.{take-more}

-- where all have come by a time, all that are left have
pub left-come : (time k : ℕ) (cs : List Conv) → come time cs ≡ length cs → come time (drop k cs) ≡ length (drop k cs)
left-come time zero cs all = all
left-come time (suc k) [] all = refl
left-come time (suc k) (c ∷ cs) all = elim (cases_lt time c.time) [
  | inl late ↦ absurd (omega (arith, all, come-later_first time c cs late, come-le time cs))
  | inr early ↦ left-come time k cs (omega (arith, all, come-first time c cs early))
]

-- the last of conversions to which one was added
added : (cs : List Conv) (c : Conv) → slice_get (cs ++ c ∷ []) (length cs) ≡ Some c
added [] c = refl
added (x ∷ cs) c = added cs c

last-more : (before : ℕ) (cs : List Conv) (c : Conv) → last_after before (cs ++ c ∷ []) ≡ c.time
last-more before cs c =
    let place : length (cs ++ c ∷ []) - 1 ≡ length cs = omega (arith, length-append cs (c ∷ [])) in
    ap (λ i. time_or before (slice_get (cs ++ c ∷ []) i)) place ∙ ap (time_or before) (added cs c)

-- one more has been passed
pub passed-more : (before : ℕ) (all : List Conv) (passed : ℕ) (c : Conv) (rest : List Conv) → drop passed all ≡ c ∷ rest → (rest ≡ drop (passed + 1) all) × (c.time ≡ last_after before (take (passed + 1) all))
passed-more before all passed c rest left = (
  sym (ap (drop 1) left) ∙ drop-drop 1 passed all,
  sym (ap (last_after before) (take-more passed all c rest left) ∙ last-more before (take passed all) c),
)

-- the last of two lists of conversions
last-there : (xs ys : List Conv) (i : ℕ) → slice_get (xs ++ ys) (length xs + i) ≡ slice_get ys i
last-there [] ys i = let same : 0 + i ≡ i = omega arith in ap (slice_get ys) same
last-there (x ∷ xs) ys i = let place : length (x ∷ xs) + i ≡ suc (length xs + i) = omega arith in ap (slice_get (x ∷ xs ++ ys)) place ∙ last-there xs ys i

last-is : (y : Conv) (ys : List Conv) → (c : Conv) × (slice_get (y ∷ ys) (length ys) ≡ Some c)
last-is y [] = (y, refl)
last-is y (z ∷ ys) = last-is z ys

last-joined : (before : ℕ) (xs ys : List Conv) → last_after (last_after before xs) ys ≡ last_after before (xs ++ ys)
last-joined before xs [] = sym (ap (last_after before) (append-nil xs))
last-joined before xs (y ∷ ys) =
    let there = last-is y ys in
    let place : length (xs ++ y ∷ ys) - 1 ≡ length xs + length ys = omega (arith, length-append xs (y ∷ ys)) in
    let last : length (y ∷ ys) - 1 ≡ length ys = omega arith in
    ap (λ i. time_or (last_after before xs) (slice_get (y ∷ ys) i)) last
    ∙ ap (time_or (last_after before xs)) there.1
    ∙ sym (ap (λ i. time_or before (slice_get (xs ++ y ∷ ys) i)) place ∙ ap (time_or before) (last-there xs (y ∷ ys) (length ys) ∙ there.1))

-- the last of those passed, where more were
pub last-passed : (first more : ℕ) (all : List Conv) → last_after (last_time (take first all)) (take more (drop first all)) ≡ last_time (take (first + more) all)
last-passed first more all = last-joined 0 (take first all) (take more (drop first all)) ∙ ap last_time (sym (take-add first more all))

-- none is left where none comes
pub passed-all : (time : ℕ) (all : List Conv) (passed count : ℕ) → come time all ≡ length all → passed ≤ count → come time (drop passed all) ≡ 0 → (drop passed all ≡ drop count all) × (take passed all ≡ take count all)
passed-all time all passed count by few none =
    let long : length all ≤ passed = omega (arith, left-come time passed all by, length-drop passed all) in (
      gone passed all long ∙ sym (gone count all (omega arith)),
      take_all passed all long ∙ sym (take_all count all (omega arith)),
    )
  where
    gone : (k : ℕ) (cs : List Conv) → length cs ≤ k → drop k cs ≡ []
    gone zero [] long = refl
    gone zero (c ∷ cs) long = absurd (omega arith)
    gone (suc k) [] long = refl
    gone (suc k) (c ∷ cs) long = gone k cs (omega arith)

-- the time at a place is that of the first that is left after it
pub time-there : (other place t : ℕ) (all : List Conv) → option_map (λ (c : Conv). c.time) (slice_get (drop place all) 0) ≡ Some t → time_or other (slice_get all place) ≡ t
time-there other place t all next = by_first (slice_get all place) (ap (option_map (λ (c : Conv). c.time)) (first-left all place) ∙ next)
  where
    by_first : (o : Option Conv) → option_map (λ (c : Conv). c.time) o ≡ Some t → time_or other o ≡ t
    by_first None is = absurd (cc)
    by_first (Some c) is = cc

-- nothing is at a place after which nothing is left, and all come before it
pub time-gone : (other place : ℕ) (all : List Conv) → drop place all ≡ [] → (time_or other (slice_get all place) ≡ other) × (take place all ≡ all)
time-gone other place all none = (
  ap (time_or other) (first-left all place ∙ ap (λ (cs : List Conv). slice_get cs 0) none),
  take_all place all (omega (arith, ap (length {A = Conv}) none, length-drop place all)),
)

-- how a command ends where nothing is to come has nothing to do with what came
pub quiet-same : (t : ToCome) (cs : List Conv) (last horizon : ℕ) → quiet_after (record t { conversions = cs }) last horizon ≡ quiet_after t last horizon
quiet-same t cs last horizon = by_parts t.conversions t.complete t.edge t.lost_at
  where
    by_parts : (old : List Conv) (complete : Bool) (edge lost : Option ℕ) → quiet_after (record { conversions = cs; complete = complete; edge = edge; lost_at = lost }) last horizon ≡ quiet_after (record { conversions = old; complete = complete; edge = edge; lost_at = lost }) last horizon
    by_parts old complete edge None = refl
    by_parts old complete edge (Some at) = refl
