-- What the good lines of each row say.
use Rattle.std.proofs.Common.{◌+◌, ◌≡◌, ℕ, suc, ap₂, ◌||◌, ◌-◌, ◌%◌, ◌<◌, Bool, true, false, not, ◌&&◌, List, [], ◌∷◌, length, refl, sym, ap, subst, ◌∙◌, min, nat_le, nat_lt, ◌==◌, arith}
use Rattle.std.specs.Prelude.{codes, int_lt}
use Rattle.std.specs.List.{list_all}
use Rattle.std.proofs.lemmas.Bool.{eqb-true, le-leb, ltb-true}
use Rattle.cm_base.specs.Words.{is_int}
use Rattle.cm_base.proofs.Bools.{and_true, both}
use Rattle.cm_board.proofs.Munging.{said_fits}
use Rattle.cm_board.specs.Board.{Masks, are_full, fits_range, is_fifo, is_munge, is_pair}
use Rattle.cm_board.specs.BoardTable.{board_forms, board_table, form, from_to, time}
use Rattle.cm_board.specs.Items.{ItemText}
use Rattle.cm_board.specs.Kept.{are_kept, is_good, is_kept, is_within, keeps}
use Rattle.cm_board.specs.Rules.{keeps_rule, rises}
use Rattle.cm_board.specs.Times.{are_divisors, are_rising}
use Rattle.cm_board.specs.Said.{channel_place, counters_in, fifo_said, forbid_said, munge_said, name_at, number_at, range_said, signed_at}
use Rattle.cm_board.specs.Slots.{of_row}
use Rattle.cm_board.specs.Table.{FormText, WordText, Fixed, Number, Signed, Source, Name, Channel, Divisors, form_at}
use Rattle.cm_board.specs.declared.board.Divisors.{Divisors as DivisorsOf}
use Rattle.cm_board.specs.declared.board.Range.{Range}
use Rattle.cm_board.specs.declared.lines.TheConstants as lines
use Rattle.cm_board.specs.declared.table.Head.{Head}
use Rattle.cm_board.specs.declared.table.Limits.{Limits}
use Rattle.cm_board.specs.declared.table.Rule.TheVariants as rules_of
use Rattle.cm_board.specs.declared.table.Value.{Value}
use Rattle.cm_board.specs.declared.table.Value.TheVariants as values_of
use Rattle.cm_board_text.proofs.MostIn.{between, is_between}
use Rattle.cm_board_text.proofs.Shapes.{Case, EachOf, Says, chan_lands, keeps_at, kept_at, own_lands, row_keeps, said_at, word_at}

pub second : (a b : Bool) → (a && b) ≡ true → b ≡ true
second true b e = e
second false b e = cc

pub or_right : (a b : Bool) → (not a || b) ≡ true → a ≡ true → b ≡ true
or_right true b h e = h
or_right false b h e = cc

-- what the rules say of values that their words keep
pub rising : (head : Head) (l m : Limits) (kinds : List WordText) (vs : List Value) → are_kept head (Number l ∷ Number m ∷ kinds) vs ≡ true →
    keeps_rule rules_of.Rising vs ≡ true → nat_le (number_at 0 vs) (number_at 1 vs) ≡ true
rising head l m kinds [] h r = cc
rising head l m kinds (values_of.Signed z ∷ vs) h r = cc
rising head l m kinds (values_of.Name n ∷ vs) h r = cc
rising head l m kinds (values_of.Divisors d ∷ vs) h r = cc
rising head l m kinds (values_of.Number a ∷ []) h r = let e = second (is_within head.version l a) false h in cc
rising head l m kinds (values_of.Number a ∷ values_of.Number b ∷ vs) h r = r
rising head l m kinds (values_of.Number a ∷ values_of.Signed z ∷ vs) h r = let e = second (is_within head.version l a) false h in cc
rising head l m kinds (values_of.Number a ∷ values_of.Name n ∷ vs) h r = let e = second (is_within head.version l a) false h in cc
rising head l m kinds (values_of.Number a ∷ values_of.Divisors d ∷ vs) h r = let e = second (is_within head.version l a) false h in cc

pub below_own : (head : Head) (kinds : List WordText) (vs : List Value) → are_kept head (Signed ∷ Signed ∷ kinds) vs ≡ true →
    keeps_rule rules_of.Below vs ≡ true → int_lt (signed_at 0 vs) (signed_at 1 vs) ≡ true
below_own head kinds [] h r = cc
below_own head kinds (values_of.Number n ∷ vs) h r = cc
below_own head kinds (values_of.Name n ∷ vs) h r = cc
below_own head kinds (values_of.Divisors d ∷ vs) h r = cc
below_own head kinds (values_of.Signed a ∷ []) h r = let e = second (is_int a) false h in cc
below_own head kinds (values_of.Signed a ∷ values_of.Signed b ∷ vs) h r = r
below_own head kinds (values_of.Signed a ∷ values_of.Number n ∷ vs) h r = let e = second (is_int a) false h in cc
below_own head kinds (values_of.Signed a ∷ values_of.Name n ∷ vs) h r = let e = second (is_int a) false h in cc
below_own head kinds (values_of.Signed a ∷ values_of.Divisors d ∷ vs) h r = let e = second (is_int a) false h in cc

pub below_chan : (head : Head) (key : List ℕ) (kinds : List WordText) (vs : List Value) →
    are_kept head (Channel ∷ Fixed key ∷ Signed ∷ Signed ∷ kinds) vs ≡ true → keeps_rule rules_of.Below vs ≡ true →
    int_lt (signed_at 1 vs) (signed_at 2 vs) ≡ true
below_chan head key kinds [] h r = cc
below_chan head key kinds (values_of.Signed z ∷ vs) h r = cc
below_chan head key kinds (values_of.Name n ∷ vs) h r = cc
below_chan head key kinds (values_of.Divisors d ∷ vs) h r = cc
below_chan head key kinds (values_of.Number c ∷ []) h r = let e = second (nat_lt c head.channels) false h in cc
below_chan head key kinds (values_of.Number c ∷ values_of.Number n ∷ vs) h r = let e = second (nat_lt c head.channels) false h in cc
below_chan head key kinds (values_of.Number c ∷ values_of.Name n ∷ vs) h r = let e = second (nat_lt c head.channels) false h in cc
below_chan head key kinds (values_of.Number c ∷ values_of.Divisors d ∷ vs) h r = let e = second (nat_lt c head.channels) false h in cc
below_chan head key kinds (values_of.Number c ∷ values_of.Signed a ∷ vs) h r = by vs (second (nat_lt c head.channels) _ h) r
  where
    by : (vs : List Value) → (is_int a && are_kept head (Signed ∷ kinds) vs) ≡ true →
        keeps_rule rules_of.Below (values_of.Number c ∷ values_of.Signed a ∷ vs) ≡ true → int_lt a (signed_at 0 vs) ≡ true
    by [] h r = let e = second (is_int a) false h in cc
    by (values_of.Signed b ∷ vs) h r = r
    by (values_of.Number n ∷ vs) h r = let e = second (is_int a) false h in cc
    by (values_of.Name n ∷ vs) h r = let e = second (is_int a) false h in cc
    by (values_of.Divisors d ∷ vs) h r = let e = second (is_int a) false h in cc

pub even : (head : Head) (l : Limits) (kinds : List WordText) (vs : List Value) → are_kept head (Number l ∷ kinds) vs ≡ true →
    keeps_rule rules_of.Even vs ≡ true → (number_at 0 vs % 2 == 0) ≡ true
even head l kinds [] h r = cc
even head l kinds (values_of.Number a ∷ vs) h r = r
even head l kinds (values_of.Signed z ∷ vs) h r = cc
even head l kinds (values_of.Name n ∷ vs) h r = cc
even head l kinds (values_of.Divisors d ∷ vs) h r = cc

pub apart : (head : Head) (names others : List (List ℕ)) (kinds : List WordText) (vs : List Value) →
    are_kept head (Name names ∷ Source ∷ Name others ∷ kinds) vs ≡ true → keeps_rule rules_of.Apart vs ≡ true → not (name_at 0 vs == name_at 2 vs) ≡ true
apart head names others kinds [] h r = cc
apart head names others kinds (values_of.Number n ∷ vs) h r = cc
apart head names others kinds (values_of.Signed z ∷ vs) h r = cc
apart head names others kinds (values_of.Divisors d ∷ vs) h r = cc
apart head names others kinds (values_of.Name a ∷ []) h r = let e = second (nat_lt a _) false h in cc
apart head names others kinds (values_of.Name a ∷ v ∷ vs) h r = by vs (second (is_kept head Source v) _ (second (nat_lt a _) _ h)) r
  where
    by : (vs : List Value) → are_kept head (Name others ∷ kinds) vs ≡ true → keeps_rule rules_of.Apart (values_of.Name a ∷ v ∷ vs) ≡ true →
        not (a == name_at 0 vs) ≡ true
    by [] h r = cc
    by (values_of.Name b ∷ vs) h r = r
    by (values_of.Number n ∷ vs) h r = cc
    by (values_of.Signed z ∷ vs) h r = cc
    by (values_of.Divisors d ∷ vs) h r = cc

-- good lines
abbrev pub AreGood : Head → List ItemText → Type 0
AreGood head items = list_all (is_good board_table head) items ≡ true

abbrev pub limits : ℕ → ℕ → ℕ → Limits
limits least most wide = record { least = least; most = most; wide = wide }

-- a range that a line may say
abbrev pub is_range : Range → Bool
is_range r = fits_range r && int_lt r.min r.max

-- a line of these values
abbrev pub item_of : ℕ → List Value → ItemText
item_of at vs = record { row = 0; form = at; values = vs }

-- no form of a row but the one at a place, where the forms are counted from `n`
abbrev pub is_only : ℕ → ℕ → ℕ → List FormText → Bool
is_only row at n [] = true
is_only row at n (form ∷ forms) = (not (form.row == row) || n == at) && is_only row at (n + 1) forms

-- what holds of the only form of a row
each_only : (P : ℕ → FormText → Type 0) (row at n : ℕ) (forms : List FormText) → is_only row at n forms ≡ true →
    ((k : ℕ) → n + k ≡ at → P at (form_at k forms)) → EachOf P row n forms
each_only P row at n [] h each = tt
each_only P row at n (form ∷ forms) h each =
    let b = both (not (form.row == row) || n == at) (is_only row at (n + 1) forms) h in
    by (form.row == row) b.0 (each_only P row at (n + 1) forms b.1 (λ k e. each (suc k) (omega (arith, e))))
  where
    here : n ≡ at → P n form
    here e = subst (λ (m : ℕ). P m form) (sym e) (each 0 (omega (arith, e)))

    by : (b : Bool) → (not b || n == at) ≡ true → EachOf P row (n + 1) forms → Case b (P n form × EachOf P row (n + 1) forms) (EachOf P row (n + 1) forms)
    by true e later = (here (eqb-true n at e), later)
    by false e later = later

-- the lines of a row of one form keep what that form keeps
only_keeps : (head : Head) (row at : ℕ) (q : List Value → Bool) (items : List ItemText) → AreGood head items → row < lines.ROW_COUNT →
    is_only row at 0 board_forms ≡ true → ((vs : List Value) → keeps head (form_at at board_forms) vs ≡ true → q vs ≡ true) →
    list_all (λ item. q item.values) (of_row row items) ≡ true
only_keeps head row at q items h below only says =
    row_keeps head row row (λ n vs. q vs) (own_lands row below) (each_only (Says head (λ n vs. q vs)) row at 0 board_forms only (λ k e. here k (omega (arith, e)))) items h
  where
    here : (k : ℕ) → at ≡ k → Says head (λ n vs. q vs) at (form_at k board_forms)
    here k e = subst (λ (m : ℕ). Says head (λ n vs. q vs) at (form_at m board_forms)) e (λ vs stands k. says vs k)

-- the number of such a line is within its limits
pub number_fits : (head : Head) (row at least most high : ℕ) (items : List ItemText) → AreGood head items → row < lines.ROW_COUNT →
    is_only row at 0 board_forms ≡ true → word_at 0 (form_at at board_forms).words ≡ Number (limits least most high) → nat_le most high ≡ true →
    list_all (λ item. is_between least high (number_at 0 item.values)) (of_row row items) ≡ true
number_fits head row at least most high items h below only word more =
    only_keeps head row at (λ vs. is_between least high (number_at 0 vs)) items h below only
    (λ vs k. between head.version (limits least most high) (number_at 0 vs) more
    (sym (ap (λ (w : WordText). keeps_at head w 0 vs) word) ∙ said_at head (form_at at board_forms) 0 vs k))

-- two times in their order
abbrev pub are_times : ℕ → ℕ → Bool
are_times least most = is_between 1 4294967295 least && is_between 1 4294967295 most && nat_le least most

times_said : (head : Head) (vs : List Value) → are_kept head (time ∷ time ∷ []) vs ≡ true → keeps_rule rules_of.Rising vs ≡ true →
    are_times (number_at 0 vs) (number_at 1 vs) ≡ true
times_said head vs k r =
    let l : Limits = limits 1 4000000000 4294967295 in
    and_true _ _
    (and_true _ _ (between head.version l (number_at 0 vs) refl (kept_at head 0 (time ∷ time ∷ []) vs k)) (between head.version l (number_at 1 vs) refl (kept_at head 1 (time ∷ time ∷ []) vs k)))
    (rising head l l [] vs k r)

-- those of the lines of a row
pub times_fit : (head : Head) (row at : ℕ) (key : List ℕ) (items : List ItemText) → AreGood head items → row < lines.ROW_COUNT →
    is_only row at 0 board_forms ≡ true → form_at at board_forms ≡ form row (Fixed key ∷ time ∷ time ∷ []) rules_of.Rising →
    list_all (λ item. are_times (number_at 0 item.values) (number_at 1 item.values)) (of_row row items) ≡ true
times_fit head row at key items h below only said = only_keeps head row at (λ vs. are_times (number_at 0 vs) (number_at 1 vs)) items h below only fits
  where
    fits : (vs : List Value) → keeps head (form_at at board_forms) vs ≡ true → are_times (number_at 0 vs) (number_at 1 vs) ≡ true
    fits vs k = let b = both _ (keeps_rule rules_of.Rising vs) (sym (ap (λ (f : FormText). keeps head f vs) said) ∙ k) in times_said head vs b.0 b.1

-- each line of a row of munges says a good one
pub munge_kept : (none k : ℕ) (items : List ItemText) → list_all (λ item. is_munge (munge_said none k item)) items ≡ true
munge_kept none k [] = refl
munge_kept none k (item ∷ items) = and_true _ _ (said_fits (item.form - none) (number_at k item.values)) (munge_kept none k items)

unit_fits : (n : ℕ) → nat_le (min 2 n) 2 ≡ true
unit_fits n = le-leb (min 2 n) 2 (omega arith)

pub range_kept : (head : Head) (items : List ItemText) → AreGood head items → list_all (λ item. is_range (range_said 0 item)) (of_row lines.RANGE items) ≡ true
range_kept head items h =
    row_keeps head lines.RANGE lines.RANGE (λ at vs. is_range (range_said 0 (item_of at vs))) (own_lands lines.RANGE (omega arith)) (
      λ vs stands k.
          let b = both _ (keeps_rule rules_of.Below vs) k in
          let f : FormText = form_at lines.RANGE_FORM board_forms in
          and_true _ _ (and_true _ _ (and_true _ _ (said_at head f 0 vs k) (said_at head f 1 vs k)) (unit_fits (number_at 2 vs)))
          (below_own head (from_to 0 2 ∷ []) vs b.0 b.1),
      tt,
    ) items h

-- the names of the triggers
abbrev triggers : List (List ℕ)
triggers = codes "start" ∷ codes "scan_begin" ∷ codes "convert" ∷ codes "scan_end" ∷ codes "stop" ∷ []

-- a trigger is one of five
trigger : (n : ℕ) → nat_lt n 5 ≡ true → min 4 n ≡ n
trigger n h = let below = ltb-true n 5 h in omega (arith, below)

pub forbid_kept : (head : Head) (items : List ItemText) → AreGood head items → list_all (λ item. is_pair (forbid_said item)) (of_row lines.FORBID items) ≡ true
forbid_kept head items h =
    row_keeps head lines.FORBID lines.FORBID (λ at vs. is_pair (forbid_said (item_of at vs))) (own_lands lines.FORBID (omega arith)) (
      λ vs stands k.
          let b = both _ (keeps_rule rules_of.Apart vs) k in
          let f : FormText = form_at lines.FORBID_FORM board_forms in
          let one = trigger (name_at 0 vs) (said_at head f 0 vs k) in
          let other = trigger (name_at 2 vs) (said_at head f 2 vs k) in
          and_true _ _ (and_true _ _ (and_true _ _ (and_true _ _
          (ap (λ (n : ℕ). nat_lt n 5) one ∙ said_at head f 0 vs k) (ap (λ (n : ℕ). nat_lt n 5) other ∙ said_at head f 2 vs k))
          (ap₂ (λ (a b : ℕ). not (a == b)) one other ∙ apart head triggers triggers (Source ∷ []) vs b.0 b.1))
          (said_at head f 1 vs k)) (said_at head f 3 vs k),
      tt,
    ) items h

pub fifo_kept : (head : Head) (items : List ItemText) → AreGood head items → list_all (λ item. is_fifo (fifo_said item)) (of_row lines.FIFO items) ≡ true
fifo_kept head items h =
    row_keeps head lines.FIFO lines.FIFO (λ at vs. is_fifo (fifo_said (item_of at vs))) (own_lands lines.FIFO (omega arith)) (
      λ vs stands k.
          let b = both _ (keeps_rule rules_of.Even vs) k in
          let f : FormText = form_at lines.FIFO_FORM board_forms in
          let d = both (nat_le 2 (number_at 0 vs)) (nat_le (number_at 0 vs) 4096) (between head.version (limits 2 4096 4096) (number_at 0 vs) refl (said_at head f 0 vs k)) in
          let l = both (nat_le 0 (number_at 1 vs)) (nat_le (number_at 1 vs) 1000000000)
          (between head.version (limits 0 1000000000 1000000000) (number_at 1 vs) refl (said_at head f 1 vs k)) in
          and_true _ _ (and_true _ _ (and_true _ _ d.0 d.1) (even head (limits 2 4096 4096) (from_to 0 1000000000 ∷ []) vs b.0 b.1)) l.1,
      tt,
    ) items h

-- at most two counters, whose divisors are within their limits and rise
abbrev pub are_counters : List DivisorsOf → Bool
are_counters counters = list_all are_divisors counters && list_all are_rising counters && nat_le (length counters) 2

one_counter : (head : Head) (vs : List Value) → are_kept head (Divisors ∷ []) vs ≡ true → list_all rises vs ≡ true →
    (d : DivisorsOf) × (vs ≡ values_of.Divisors d ∷ []) × (are_divisors d ≡ true) × (are_rising d ≡ true)
one_counter head [] h r = cc
one_counter head (values_of.Number n ∷ vs) h r = cc
one_counter head (values_of.Signed z ∷ vs) h r = cc
one_counter head (values_of.Name n ∷ vs) h r = cc
one_counter head (values_of.Divisors d ∷ []) h r = (d, refl, (both (are_divisors d) true h).0, (both (are_rising d) true r).0)
one_counter head (values_of.Divisors d ∷ v ∷ vs) h r = let e = second (are_divisors d) false h in cc

one_said : (head : Head) (vs : List Value) → are_kept head (Divisors ∷ []) vs ≡ true → list_all rises vs ≡ true → are_counters (counters_in vs) ≡ true
one_said head vs h r =
    let c = one_counter head vs h r in
    ap (λ (vs : List Value). are_counters (counters_in vs)) c.1 ∙ and_true _ true (and_true _ _ (and_true _ true c.2 refl) (and_true _ true c.3 refl)) refl

two_said : (head : Head) (vs : List Value) → are_kept head (Divisors ∷ Divisors ∷ []) vs ≡ true → list_all rises vs ≡ true →
    are_counters (counters_in vs) ≡ true
two_said head [] h r = cc
two_said head (values_of.Number n ∷ vs) h r = cc
two_said head (values_of.Signed z ∷ vs) h r = cc
two_said head (values_of.Name n ∷ vs) h r = cc
two_said head (values_of.Divisors d ∷ vs) h r =
    let a = both (are_divisors d) (are_kept head (Divisors ∷ []) vs) h in
    let b = both (are_rising d) (list_all rises vs) r in
    let c = one_counter head vs a.1 b.1 in
    ap (λ (vs : List Value). are_counters (d ∷ counters_in vs)) c.1
    ∙ and_true _ true (and_true _ _ (and_true _ _ a.0 (and_true _ true c.2 refl)) (and_true _ _ b.0 (and_true _ true c.3 refl))) refl

pub clock_kept : (head : Head) (items : List ItemText) → AreGood head items →
    list_all (λ item. are_counters (counters_in item.values)) (of_row lines.CLOCK items) ≡ true
clock_kept head items h =
    row_keeps head lines.CLOCK lines.CLOCK (λ at vs. are_counters (counters_in vs)) (own_lands lines.CLOCK (omega arith)) (
      λ vs stands k. let b = both _ (keeps_rule rules_of.Ordered vs) k in one_said head vs b.0 b.1,
      (λ vs stands k. let b = both _ (keeps_rule rules_of.Ordered vs) k in two_said head vs b.0 b.1, tt),
    ) items h

-- the sources of a line that names them
abbrev pub sources_of : List Value → Masks
sources_of vs = record { start = number_at 0 vs; scan_begin = number_at 1 vs; convert = number_at 2 vs; scan_end = number_at 3 vs; stop = number_at 4 vs }

pub sources_kept : (head : Head) (items : List ItemText) → AreGood head items →
    list_all (λ item. are_full head.version (sources_of item.values)) (of_row lines.SOURCES items) ≡ true
sources_kept head items h =
    row_keeps head lines.SOURCES lines.SOURCES (λ at vs. are_full head.version (sources_of vs)) (own_lands lines.SOURCES (omega arith)) (
      λ vs stands k.
          let f : FormText = form_at lines.SOURCES_FORM board_forms in
          and_true _ _ (and_true _ _ (and_true _ _ (and_true _ _ (said_at head f 0 vs k) (said_at head f 1 vs k)) (said_at head f 2 vs k))
          (said_at head f 3 vs k)) (said_at head f 4 vs k),
      tt,
    ) items h

-- what lines say of one channel
pub chan_bits_kept : (head : Head) (chan : ℕ) (items : List ItemText) → AreGood head items →
    list_all (λ item. is_between 1 24 (number_at 1 item.values)) (of_row (channel_place chan lines.CHAN_BITS) items) ≡ true
chan_bits_kept head chan items h =
    row_keeps head (channel_place chan lines.CHAN_BITS) lines.CHAN_BITS (λ at vs. is_between 1 24 (number_at 1 vs))
    (chan_lands chan lines.CHAN_BITS (omega arith))
    (λ vs stands k. between head.version (limits 1 24 24) (number_at 1 vs) refl (said_at head (form_at lines.CHAN_BITS_FORM board_forms) 1 vs k), tt) items h

pub chan_range_kept : (head : Head) (chan : ℕ) (items : List ItemText) → AreGood head items →
    list_all (λ item. is_range (range_said 1 item)) (of_row (channel_place chan lines.CHAN_RANGE) items) ≡ true
chan_range_kept head chan items h =
    row_keeps head (channel_place chan lines.CHAN_RANGE) lines.CHAN_RANGE (λ at vs. is_range (range_said 1 (item_of at vs)))
    (chan_lands chan lines.CHAN_RANGE (omega arith)) (
      λ vs stands k.
          let b = both _ (keeps_rule rules_of.Below vs) k in
          let f : FormText = form_at lines.CHAN_RANGE_FORM board_forms in
          and_true _ _ (and_true _ _ (and_true _ _ (said_at head f 1 vs k) (said_at head f 2 vs k)) (unit_fits (number_at 3 vs)))
          (below_chan head (codes "range") (from_to 0 2 ∷ []) vs b.0 b.1),
      tt,
    ) items h
