-- How many parts a text has, by the places of its separators.
use Rattle.std.proofs.Common.{◌≡◌, ℕ, ◌+◌, Bool, List, [], ◌∷◌, ◌++◌, length, take, drop, refl, sym, ap, ◌∙◌, subst, Some, None, Result, Ok, Err}
use Rattle.std.specs.List.{slice_split, position}
use Rattle.cm_base.specs.Reading.{◌>>=◌, at_line}
use Rattle.cm_base.specs.ReadStop.{Stops}
use Rattle.cm_base.specs.Words.{two_words, three_words, up_to, values}
use Rattle.cm_base.specs.declared.faults.Fault.{Fault}
use Rattle.cm_base.specs.declared.faults.ReadStop.{ReadStop}
use Rattle.cm_base.specs.declared.faults.ReadStop.TheVariants as stops
use Rattle.cm_base.specs.declared.faults.Fault.TheVariants.{BadLine}
use Rattle.cm_base.proofs.Splits.{one_part, first_part}
use Rattle.cm_base.specs.Stops.{is_byte}
use Rattle.cm_cmd.specs.ListText.{entry_of, with_entry}

pub one_is_not_two : (p : ℕ → Bool) (text : List ℕ) → position p text ≡ None → two_words (slice_split p text) ≡ Err BadLine
one_is_not_two p text e = ap two_words (one_part p text e)

pub one_is_not_three : (p : ℕ → Bool) (text : List ℕ) → position p text ≡ None → three_words (slice_split p text) ≡ Err BadLine
one_is_not_three p text e = ap three_words (one_part p text e)

pub two_are_two : (p : ℕ → Bool) (text : List ℕ) (at : ℕ) → position p text ≡ Some at → position p (drop (at + 1) text) ≡ None → two_words (slice_split p text) ≡ Ok (take at text, drop (at + 1) text)
two_are_two p text at e f = ap two_words (first_part p text at e ∙ ap (λ (more : List (List ℕ)). take at text ∷ more) (one_part p (drop (at + 1) text) f))

three_are_not_two : (a b : List ℕ) (more : List (List ℕ)) (c : List ℕ) (d : List (List ℕ)) → more ≡ c ∷ d → two_words (a ∷ b ∷ more) ≡ Err BadLine
three_are_not_two a b more c d e = ap (λ (parts : List (List ℕ)). two_words (a ∷ b ∷ parts)) e

-- the parts are at least one
some_part : (p : ℕ → Bool) (text : List ℕ) → (first : List ℕ) × (more : List (List ℕ)) × (slice_split p text ≡ first ∷ more)
some_part p text = elim (position p text) as (λ o. position p text ≡ o → (first : List ℕ) × (more : List (List ℕ)) × (slice_split p text ≡ first ∷ more)) [
  | None ↦ λ e. (text, [], one_part p text e)
  | Some at ↦ λ e. (take at text, slice_split p (drop (at + 1) text), first_part p text at e)
] refl

pub more_are_not_two : (p : ℕ → Bool) (text : List ℕ) (at next : ℕ) → position p text ≡ Some at → position p (drop (at + 1) text) ≡ Some next → two_words (slice_split p text) ≡ Err BadLine
more_are_not_two p text at next e f =
    let rest : List ℕ = drop (at + 1) text in
    let some = some_part p (drop (next + 1) rest) in
    ap two_words (first_part p text at e ∙ ap (λ (more : List (List ℕ)). take at text ∷ more) (first_part p rest next f))
    ∙ three_are_not_two (take at text) (take next rest) (slice_split p (drop (next + 1) rest)) some.0 some.1 some.2

three_after : (first : List ℕ) (words : List (List ℕ)) → three_words (first ∷ words) ≡ (two_words words >>= λ w. Ok (first, w.0, w.1))
three_after first [] = refl
three_after first (a ∷ []) = refl
three_after first (a ∷ b ∷ []) = refl
three_after first (a ∷ b ∷ c ∷ more) = refl

pub three_are_one_and_two : (p : ℕ → Bool) (text : List ℕ) (at : ℕ) → position p text ≡ Some at → three_words (slice_split p text) ≡ (two_words (slice_split p (drop (at + 1) text)) >>= λ w. Ok (take at text, w.0, w.1))
three_are_one_and_two p text at e = ap three_words (first_part p text at e) ∙ three_after (take at text) (slice_split p (drop (at + 1) text))

-- the same where the others were read as two
pub three_by_two : (p : ℕ → Bool) (text : List ℕ) (at : ℕ) (rest : List ℕ) (read : Result (List ℕ × List ℕ) Fault) → Some at ≡ position p text → rest ≡ drop (at + 1) text → read ≡ two_words (slice_split p rest) → (read >>= λ w. Ok (take at text, w.0, w.1)) ≡ three_words (slice_split p text)
three_by_two p text at rest read e f g =
    sym (three_are_one_and_two p text at (sym e) ∙ ap (λ r. r >>= λ w. Ok (take at text, w.0, w.1)) (sym (g ∙ ap (λ (t : List ℕ). two_words (slice_split p t)) f)))

-- the entries of a text after others, of which there may be so many, and their faults in a line
abbrev pub entries_after : ℕ → List ℕ → List ℕ → Result (List ℕ) Fault
entries_after most before text = values most entry_of before (slice_split (is_byte 44) text)

pub last_entry : (most : ℕ) (before text : List ℕ) → position (is_byte 44) text ≡ None → entries_after most before text ≡ with_entry most before text
last_entry most before text e = ap (values most entry_of before) (one_part (is_byte 44) text e)

regroup : (read : Result ℕ Fault) (before : List ℕ) (next : List ℕ → Result (List ℕ) Fault) → (read >>= λ x. next (before ++ x ∷ [])) ≡ ((read >>= λ x. Ok (before ++ x ∷ [])) >>= next)
regroup (Ok x) before next = refl
regroup (Err fault) before next = refl

first_entry : (most : ℕ) (before text : List ℕ) (at : ℕ) → position (is_byte 44) text ≡ Some at → entries_after most before text ≡ (with_entry most before (take at text) >>= λ list. entries_after most list (drop (at + 1) text))
first_entry most before text at e =
    ap (values most entry_of before) (first_part (is_byte 44) text at e)
    ∙ regroup (up_to most entry_of (length before) (take at text)) before (λ list. entries_after most list (drop (at + 1) text))

pub line_ok : {X : Type 0} (line : ℕ) (read : Result X Fault) (x : X) → at_line line read ≡ Ok x → read ≡ Ok x
line_ok line (Ok y) x h = ap Ok (let e : y ≡ x = cc in e)
line_ok line (Err fault) x h = cc

-- an entry was read, and the others follow it
pub entry_more : (most line : ℕ) (before text : List ℕ) (at : ℕ) (prefix rest after : List ℕ) → Some at ≡ position (is_byte 44) text → prefix ≡ take at text → rest ≡ drop (at + 1) text → at_line line (with_entry most before prefix) ≡ Ok after → entries_after most before text ≡ entries_after most after rest
entry_more most line before text at prefix rest after e f g h =
    first_entry most before text at (sym e)
    ∙ ap (λ (t : List ℕ). with_entry most before t >>= λ list. entries_after most list (drop (at + 1) text)) (sym f)
    ∙ ap (λ r. r >>= λ list. entries_after most list (drop (at + 1) text)) (line_ok line (with_entry most before prefix) after h)
    ∙ ap (entries_after most after) (sym g)

stops_first : (line : ℕ) (stop : ReadStop) (read : Result (List ℕ) Fault) (next : List ℕ → Result (List ℕ) Fault) → Stops stop (at_line line read) → Stops stop (at_line line (read >>= next))
stops_first line stops.NoMemory read next h = tt
stops_first line (stops.Refused r) (Ok x) next h = cc
stops_first line (stops.Refused r) (Err fault) next h = h

-- an entry was not read, nor then the whole
pub entry_stops : (most line : ℕ) (stop : ReadStop) (all : Result (List ℕ) Fault) (before text : List ℕ) (at : ℕ) (prefix : List ℕ) → all ≡ entries_after most before text → Some at ≡ position (is_byte 44) text → prefix ≡ take at text → Stops stop (at_line line (with_entry most before prefix)) → Stops stop (at_line line all)
entry_stops most line stop all before text at prefix whole e f h =
    let same : (with_entry most before prefix >>= λ list. entries_after most list (drop (at + 1) text)) ≡ all =
    ap (λ (t : List ℕ). with_entry most before t >>= λ list. entries_after most list (drop (at + 1) text)) f ∙ sym (first_entry most before text at (sym e)) ∙ sym whole in
    subst (λ r. Stops stop (at_line line r)) same (stops_first line stop (with_entry most before prefix) (λ list. entries_after most list (drop (at + 1) text)) h)

pub last_stops : (most line : ℕ) (stop : ReadStop) (all : Result (List ℕ) Fault) (before text : List ℕ) → all ≡ entries_after most before text → position (is_byte 44) text ≡ None → Stops stop (at_line line (with_entry most before text)) → Stops stop (at_line line all)
last_stops most line stop all before text whole e h = subst (λ r. Stops stop (at_line line r)) (sym (last_entry most before text e) ∙ sym whole) h
