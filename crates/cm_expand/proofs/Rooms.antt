-- How many conversions lines have together.
use Rattle.std.proofs.Common.{◌≡◌, ℕ, ◌+◌, ◌-◌, min, ◌<◌, ◌≤◌, Bool, true, false, List, [], ◌∷◌, ◌++◌, length, get_or, drop, Result, Ok, Err, refl, sym, ap, ◌∙◌, subst, arith, drop-cons, suc, add-one}
use Rattle.std.specs.Prelude.{nat_le, IsErrAnd, MatchResult}
use Rattle.std.proofs.lemmas.Bool.{and_from, and_parts, false_from_ne_true, le-leb, leb-true}
use Rattle.cm_base.specs.Reading.{at_line}
use Rattle.cm_base.specs.ReadStop.{Stops}
use Rattle.cm_base.specs.Words.{limited}
use Rattle.cm_base.specs.declared.faults.Fault.{Fault}
use Rattle.cm_base.specs.declared.faults.Fault.TheVariants.{Limit}
use Rattle.cm_base.specs.declared.faults.ReadStop.{ReadStop}
use Rattle.cm_base.specs.declared.faults.ReadStop.TheVariants as stops
use Rattle.cm_board.specs.Board.{BoardText}
use Rattle.cm_signal.specs.Signals.{SignalsText}
use Rattle.cm_expand.specs.Calls.{CallText, plan_of}
use Rattle.cm_expand.specs.Plan.{PlanText}
use Rattle.cm_expand.specs.Totals.{Adds, Reports, has_room, length_of, length_of_all}
use Rattle.cm_expand.specs.declared.conv.TooMany.{TooMany}
use Rattle.cm_expand.specs.declared.totals.Total.{Total}
use Rattle.cm_expand.specs.declared.totals.Total.TheVariants.{AtMost, Exactly}

-- the plan of what makes a call
abbrev pub plan_by : {X : Type 0} → (X → CallText) → BoardText → SignalsText → X → PlanText
plan_by call board signals x = plan_of board signals (call x)

few-fit : (before n : ℕ) → n ≤ 1000000 → before + n ≤ 4000000 → has_room before n ≡ true
few-fit before n one all = and_from _ _ (le-leb n 1000000 one) (le-leb (before + n) 4000000 all)

many-not : (before n : ℕ) → (n ≤ 1000000 → before + n ≤ 4000000 → ⊥) → has_room before n ≡ false
many-not before n many = false_from_ne_true _ (λ held.
    let parts = and_parts (nat_le n 1000000) (nat_le (before + n) 4000000) held in
    many (leb-true n 1000000 parts.0) (leb-true (before + n) 4000000 parts.1))

-- bounds within the limits show that there is room
pub adds-bound : (before n most more room : ℕ) → before ≤ most → most ≤ 4000000 → room ≡ min 1000000 (4000000 - most) → n ≤ more → more ≤ room → Adds before n (Ok (AtMost (most + more)))
adds-bound before n most more room low high is bounded within =
    (few-fit before n (omega (arith, is, bounded, within)) (omega (arith, low, high, is, bounded, within)), (omega (arith, low, bounded), omega (arith, high, is, within)))

-- and so do counts
pub adds-count : (before n count room : ℕ) → before ≤ 4000000 → room ≡ min 1000000 (4000000 - before) → count ≡ n → count ≤ room → Adds before n (Ok (Exactly (before + count)))
adds-count before n count room few is counted within =
    (few-fit before n (omega (arith, is, counted, within)) (omega (arith, few, is, counted, within)), (omega (arith, counted), omega (arith, few, is, within)))

pub adds-none : (before n room : ℕ) → before ≤ 4000000 → room ≡ min 1000000 (4000000 - before) → room < n → Adds before n (Err Limit)
adds-none before n room few is many = (many-not before n (λ one all. omega (arith, one, all, few, is, many)), refl)

pub adds-full : (before n : ℕ) → 4000000 < before → Adds before n (Err Limit)
adds-full before n many = (many-not before n (λ one all. omega (arith, all, many)), refl)

-- where there is no room the line stops
pub room-stops : {X : Type 0} (before n number : ℕ) (next : X) (r : Result Total Fault) (stop : ReadStop) → Adds before n r → Stops stop (at_line number r) → Stops stop (at_line number (limited (has_room before n) next))
room-stops before n number next r stops.NoMemory adds e = tt
room-stops before n number next (Ok total) (stops.Refused x) adds e = absurd (cc)
room-stops {X} before n number next (Err fault) (stops.Refused x) adds e =
    ap (λ (b : Bool). at_line number (limited b next)) adds.0 ∙ ap (λ (f : Fault). let r : Result X Fault = Err f in at_line number r) (sym adds.1) ∙ cc

-- and where there is, it is read, with the total
pub room-found : {X : Type 0} (before n number : ℕ) (next : X) (r : Result Total Fault) (total : Total) → Adds before n r → at_line number r ≡ Ok total →
    (at_line number (limited (has_room before n) next) ≡ Ok next) × Reports total (before + n)
room-found before n number next (Ok found) total adds e =
    let same : found ≡ total = cc in
    (ap (λ (b : Bool). at_line number (limited b next)) adds.0, subst (λ (t : Total). Reports t (before + n)) same adds.1)
room-found before n number next (Err fault) total adds e = absurd (cc)

-- what is left of lines is the next one and those after it
next-line : {X : Type 0} (lines : List X) (i : ℕ) (line : X) → i < length lines → line ≡ get_or lines i line → drop i lines ≡ line ∷ drop (i + 1) lines
next-line {X} lines i line within is =
    drop-cons lines i line within
    ∙ ap (λ (l : X). l ∷ drop (suc i) lines) (sym is)
    ∙ ap (λ (n : ℕ). line ∷ drop n lines) (sym (add-one i))

-- the conversions of the lines that are left are those of the next line and of the lines after it
pub left-more : {X : Type 0} (plan_of : X → PlanText) (lines : List X) (i : ℕ) (line : X) → i < length lines → line ≡ get_or lines i line →
    length_of_all plan_of (drop i lines) ≡ length_of (plan_of line) + length_of_all plan_of (drop (i + 1) lines)
left-more plan_of lines i line within is = ap (length_of_all plan_of) (next-line lines i line within is)

-- what a line adds to the conversions of all
pub length-more : {X : Type 0} (plan_of : X → PlanText) (lines : List X) (line : X) → length_of_all plan_of (lines ++ line ∷ []) ≡ length_of_all plan_of lines + length_of (plan_of line)
length-more plan_of [] line = omega arith
length-more plan_of (first ∷ lines) line = omega (arith, length-more plan_of lines line)

-- where a count stops the limit is passed
pub not-counted : {Above : Type 0} (Q : TooMany → Type 0) (r : Result ℕ TooMany) (counted : ℕ → Type 0) → IsErrAnd r Q → Above → MatchResult r counted (λ _. Above)
not-counted Q (Ok n) counted e above = absurd e
not-counted Q (Err too_many) counted e above = above
