-- What the lines of a row say, by the forms of the row.
use Rattle.std.proofs.Common.{◌≡◌, ℕ, zero, suc, ◌+◌, ◌*◌, ◌<◌, Bool, true, false, cond, List, [], ◌∷◌, length, refl, ◌∙◌, subst, nat_lt, ◌==◌, arith}
use Rattle.std.specs.List.{list_all}
use Rattle.std.proofs.lemmas.Bool.{eq-eqb, eqb-true, ltb-true}
use Rattle.cm_base.specs.Words.{is_int}
use Rattle.cm_base.proofs.Bools.{and_true, both}
use Rattle.cm_board.specs.BoardTable.{board_forms, board_rows, board_table}
use Rattle.cm_board.specs.Items.{ItemText}
use Rattle.cm_board.specs.Kept.{are_kept, is_among, is_good, is_kept, is_source, is_within, keeps, set_in}
use Rattle.cm_board.specs.Rules.{keeps_rule}
use Rattle.cm_board.specs.Said.{channel_place, name_at, number_at, signed_at}
use Rattle.cm_board.specs.Slots.{of_row}
use Rattle.cm_board.specs.Table.{FormText, WordText, Fixed, Number, Signed, Sources, Source, Name, Channel, Divisors, channel_of, form_at, may_stand, place_of, row_at}
use Rattle.cm_board.specs.declared.lines.TheConstants as lines
use Rattle.cm_board.specs.declared.table.Head.{Head}
use Rattle.cm_board.specs.declared.table.Value.{Value}
use Rattle.cm_board.specs.declared.table.Value.TheVariants as values_of

-- the word of a form at a place among those that say something
abbrev pub word_at : ℕ → List WordText → WordText
word_at k [] = Fixed []
word_at k (Fixed key ∷ kinds) = word_at k kinds
word_at zero (kind ∷ kinds) = kind
word_at (suc k) (kind ∷ kinds) = word_at k kinds

-- what a line says at a place, where this word stands there
abbrev pub keeps_at : Head → WordText → ℕ → List Value → Bool
keeps_at head (Fixed key) k vs = true
keeps_at head (Number l) k vs = is_within head.version l (number_at k vs)
keeps_at head Signed k vs = is_int (signed_at k vs)
keeps_at head (Sources sets) k vs = is_among (set_in head.version sets) (number_at k vs)
keeps_at head Source k vs = is_source (number_at k vs)
keeps_at head (Name names) k vs = nat_lt (name_at k vs) (length names)
keeps_at head Channel k vs = nat_lt (number_at k vs) head.channels
keeps_at head Divisors k vs = true

first_kept : (head : Head) (kind : WordText) (v : Value) (vs : List Value) → is_kept head kind v ≡ true → keeps_at head kind 0 (v ∷ vs) ≡ true
first_kept head (Fixed key) v vs h = refl
first_kept head (Number l) (values_of.Number n) vs h = h
first_kept head (Number l) (values_of.Signed z) vs h = cc
first_kept head (Number l) (values_of.Name n) vs h = cc
first_kept head (Number l) (values_of.Divisors d) vs h = cc
first_kept head Signed (values_of.Signed z) vs h = h
first_kept head Signed (values_of.Number n) vs h = cc
first_kept head Signed (values_of.Name n) vs h = cc
first_kept head Signed (values_of.Divisors d) vs h = cc
first_kept head (Sources sets) (values_of.Number n) vs h = h
first_kept head (Sources sets) (values_of.Signed z) vs h = cc
first_kept head (Sources sets) (values_of.Name n) vs h = cc
first_kept head (Sources sets) (values_of.Divisors d) vs h = cc
first_kept head Source (values_of.Number n) vs h = h
first_kept head Source (values_of.Signed z) vs h = cc
first_kept head Source (values_of.Name n) vs h = cc
first_kept head Source (values_of.Divisors d) vs h = cc
first_kept head (Name names) (values_of.Name n) vs h = h
first_kept head (Name names) (values_of.Number n) vs h = cc
first_kept head (Name names) (values_of.Signed z) vs h = cc
first_kept head (Name names) (values_of.Divisors d) vs h = cc
first_kept head Channel (values_of.Number n) vs h = h
first_kept head Channel (values_of.Signed z) vs h = cc
first_kept head Channel (values_of.Name n) vs h = cc
first_kept head Channel (values_of.Divisors d) vs h = cc
first_kept head Divisors v vs h = refl

next_kept : (head : Head) (kind : WordText) (k : ℕ) (v : Value) (vs : List Value) → keeps_at head kind k vs ≡ true → keeps_at head kind (suc k) (v ∷ vs) ≡ true
next_kept head (Fixed key) k v vs h = refl
next_kept head (Number l) k v vs h = h
next_kept head Signed k v vs h = h
next_kept head (Sources sets) k v vs h = h
next_kept head Source k v vs h = h
next_kept head (Name names) k v vs h = h
next_kept head Channel k v vs h = h
next_kept head Divisors k v vs h = refl

pub kept_at : (head : Head) (k : ℕ) (kinds : List WordText) (vs : List Value) → are_kept head kinds vs ≡ true → keeps_at head (word_at k kinds) k vs ≡ true
kept_at head k [] vs h = refl
kept_at head k (Fixed key ∷ kinds) vs h = kept_at head k kinds vs h
kept_at head zero (kind ∷ kinds) [] h = cc
kept_at head zero (kind ∷ kinds) (v ∷ vs) h = first_kept head kind v vs (both (is_kept head kind v) (are_kept head kinds vs) h).0
kept_at head (suc k) (kind ∷ kinds) [] h = cc
kept_at head (suc k) (kind ∷ kinds) (v ∷ vs) h =
    next_kept head (word_at k kinds) k v vs (kept_at head k kinds vs (both (is_kept head kind v) (are_kept head kinds vs) h).1)

-- what the values of a form keep at a place
pub said_at : (head : Head) (form : FormText) (k : ℕ) (vs : List Value) → keeps head form vs ≡ true → keeps_at head (word_at k form.words) k vs ≡ true
said_at head form k vs h = kept_at head k form.words vs (both (are_kept head form.words vs) (keeps_rule form.rule vs) h).0

-- one of two types
abbrev pub Case : Bool → Type 0 → Type 0 → Type 0
Case true A B = A
Case false A B = B

-- what holds of each form of a row and its place, where the forms are counted from `at`
abbrev pub EachOf : (ℕ → FormText → Type 0) → ℕ → ℕ → List FormText → Type 0
EachOf P row at [] = Unit {0}
EachOf P row at (form ∷ forms) = Case (form.row == row) (P at form × EachOf P row (at + 1) forms) (EachOf P row (at + 1) forms)

first_case : (A B : Type 0) (b : Bool) → b ≡ true → Case b A B → A
first_case A B true e h = h
first_case A B false e h = cc

rest_case : (A B : Type 0) (b : Bool) → Case b (A × B) B → B
rest_case A B true h = h.1
rest_case A B false h = h

each_at : (P : ℕ → FormText → Type 0) (row at k : ℕ) (forms : List FormText) → EachOf P row at forms → k < length forms →
    ((form_at k forms).row == row) ≡ true → P (at + k) (form_at k forms)
each_at P row at k [] h below e = absurd (omega arith)
each_at P row at zero (form ∷ forms) h below e =
    let later : Type 0 = EachOf P row (at + 1) forms in
    subst (λ (m : ℕ). P m form) (let same : at ≡ at + 0 = omega arith in same) (first_case (P at form × later) later (form.row == row) e h).0
each_at P row at (suc k) (form ∷ forms) h below e =
    subst (λ (m : ℕ). P m (form_at k forms)) (let same : at + 1 + k ≡ at + suc k = omega arith in same)
    (each_at P row (at + 1) k forms (rest_case (P at form) (EachOf P row (at + 1) forms) (form.row == row) h) (omega (arith, below)) e)

-- what a good line of the table is
pub record IsLine (head : Head) (item : ItemText) : Type 0 where
  pub below : item.form < length board_forms
  pub place : place_of board_rows (form_at item.form board_forms) item.values ≡ item.row
  pub stands : may_stand head (row_at (form_at item.form board_forms).row board_rows) ≡ true
  pub keeps : keeps head (form_at item.form board_forms) item.values ≡ true

pub good_line : (head : Head) (item : ItemText) → is_good board_table head item ≡ true → IsLine head item
good_line head item h =
    let form : FormText = form_at item.form board_forms in
    let a = both _ (keeps head form item.values) h in
    let b = both _ (may_stand head (row_at form.row board_rows)) a.0 in
    let c = both (nat_lt item.form (length board_forms)) (place_of board_rows form item.values == item.row) b.0 in
    record { below = ltb-true item.form (length board_forms) c.0; place = eqb-true _ _ c.1; stands = b.1; keeps = a.1 }

-- what the lines of a form say that may stand in the block
abbrev pub Says : Head → (ℕ → List Value → Bool) → ℕ → FormText → Type 0
Says head q at form = (values : List Value) → may_stand head (row_at form.row board_rows) ≡ true → keeps head form values ≡ true → q at values ≡ true

-- a place that only lines of this row have
abbrev pub Lands : ℕ → ℕ → Type 0
Lands place row =
    (k : ℕ) (values : List Value) → k < length board_forms →
    place_of board_rows (form_at k board_forms) values ≡ place → ((form_at k board_forms).row == row) ≡ true

-- the place of a row of the subdevice as a whole
own_form : (form : FormText) (values : List Value) (n : ℕ) → n < lines.ROW_COUNT → place_of board_rows form values ≡ n → form.row ≡ n
own_form form values n below e = by (row_at form.row board_rows).of_channel e
  where
    by : (b : Bool) → cond b ((channel_of values + 1) * lines.ROW_COUNT + form.row) form.row ≡ n → form.row ≡ n
    by true e = absurd (omega (arith, e, below))
    by false e = e

pub own_lands : (n : ℕ) → n < lines.ROW_COUNT → Lands n n
own_lands n below = λ k values within e. eq-eqb _ _ (own_form (form_at k board_forms) values n below e)

-- each form is of a row of the table
row_below : (k : ℕ) (forms : List FormText) → list_all (λ form. nat_lt form.row lines.ROW_COUNT) forms ≡ true → k < length forms → (form_at k forms).row < lines.ROW_COUNT
row_below k [] h below = absurd (omega arith)
row_below zero (form ∷ forms) h below = ltb-true form.row lines.ROW_COUNT (both (nat_lt form.row lines.ROW_COUNT) (list_all (λ form. nat_lt form.row lines.ROW_COUNT) forms) h).0
row_below (suc k) (form ∷ forms) h below = row_below k forms (both (nat_lt form.row lines.ROW_COUNT) (list_all (λ form. nat_lt form.row lines.ROW_COUNT) forms) h).1 (omega arith)

-- the place of a row of a channel
chan_form : (form : FormText) (values : List Value) (chan row : ℕ) → row < lines.ROW_COUNT → form.row < lines.ROW_COUNT →
    place_of board_rows form values ≡ (chan + 1) * lines.ROW_COUNT + row → form.row ≡ row
chan_form form values chan row below within e = by (row_at form.row board_rows).of_channel e
  where
    by : (b : Bool) → cond b ((channel_of values + 1) * lines.ROW_COUNT + form.row) form.row ≡ (chan + 1) * lines.ROW_COUNT + row → form.row ≡ row
    by true e = omega (arith, e, below, within)
    by false e = absurd (omega (arith, e, below, within))

pub chan_lands : (chan row : ℕ) → row < lines.ROW_COUNT → Lands (channel_place chan row) row
chan_lands chan row below = λ k values within e. eq-eqb _ _ (chan_form (form_at k board_forms) values chan row below (row_below k board_forms refl within) e)

-- what each line of a place keeps
pub row_keeps : (head : Head) (place wanted : ℕ) (q : ℕ → List Value → Bool) → Lands place wanted → EachOf (Says head q) wanted 0 board_forms →
    (items : List ItemText) → list_all (is_good board_table head) items ≡ true → list_all (λ item. q item.form item.values) (of_row place items) ≡ true
row_keeps head place wanted q lands each [] h = refl
row_keeps head place wanted q lands each (item ∷ items) h =
    let b = both (is_good board_table head item) (list_all (is_good board_table head) items) h in
    by (item.row == place) refl (good_line head item b.0) (row_keeps head place wanted q lands each items b.1)
  where
    here : (item.row == place) ≡ true → IsLine head item → q item.form item.values ≡ true
    here e line =
        let form : FormText = form_at item.form board_forms in
        let of_it = lands item.form item.values line.below (line.place ∙ eqb-true item.row place e) in
        let same : 0 + item.form ≡ item.form = omega arith in
        let says : Says head q item.form form = subst (λ (m : ℕ). Says head q m form) same (each_at (Says head q) wanted 0 item.form board_forms each line.below of_it) in
        says item.values line.stands line.keeps

    by : (t : Bool) → (item.row == place) ≡ t → IsLine head item → list_all (λ item. q item.form item.values) (of_row place items) ≡ true →
        list_all (λ item. q item.form item.values) (cond t (item ∷ of_row place items) (of_row place items)) ≡ true
    by true e line later = and_true _ _ (here e line) later
    by false e line later = later

-- a line stands where its row may
pub row_stands : (head : Head) (place row : ℕ) → Lands place row → (items : List ItemText) → list_all (is_good board_table head) items ≡ true →
    list_all (λ item. may_stand head (row_at row board_rows)) (of_row place items) ≡ true
row_stands head place row lands [] h = refl
row_stands head place row lands (item ∷ items) h =
    let b = both (is_good board_table head item) (list_all (is_good board_table head) items) h in
    by (item.row == place) refl (good_line head item b.0) (row_stands head place row lands items b.1)
  where
    here : (item.row == place) ≡ true → IsLine head item → may_stand head (row_at row board_rows) ≡ true
    here e line =
        let of_it = lands item.form item.values line.below (line.place ∙ eqb-true item.row place e) in
        subst (λ (n : ℕ). may_stand head (row_at n board_rows) ≡ true) (eqb-true _ _ of_it) line.stands

    by : (t : Bool) → (item.row == place) ≡ t → IsLine head item →
        list_all (λ item. may_stand head (row_at row board_rows)) (of_row place items) ≡ true →
        list_all (λ item. may_stand head (row_at row board_rows)) (cond t (item ∷ of_row place items) (of_row place items)) ≡ true
    by true e line later = and_true _ _ (here e line) later
    by false e line later = later
