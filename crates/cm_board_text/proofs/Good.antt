-- What is read of a block is whole.
use Rattle.std.proofs.Common.{◌≡◌, ℕ, suc, ◌+◌, ◌<◌, ◌≤◌, Bool, true, false, cond, ◌&&◌, List, [], ◌∷◌, ◌++◌, length, Option, Some, None, option_to_list, Result, Ok, Err, refl, sym, ap, ◌∙◌, subst, nat_lt, ◌==◌, arith, append_assoc, append-nil, length-append, bit_and, ◌-◌}
use Rattle.std.specs.Result.{IfOk}
use Rattle.std.specs.List.{list_all, list_any}
use Rattle.std.specs.Str.{bytes_eq}
use Rattle.std.proofs.lemmas.Bool.{eqb-true, eq-eqb, lt-ltb, ltb-true}
use Rattle.std.proofs.lemmas.List.{length-map}
use Rattle.std.proofs.lemmas.List.Elements.{filter-append}
use Rattle.std.proofs.lemmas.List.Folds.{list_all-append}
use Rattle.cm_base.specs.Lines.{LineText}
use Rattle.cm_base.specs.Numbers.{number_of, signed_of}
use Rattle.cm_base.specs.LineView.{line_view}
use Rattle.cm_base.specs.Reading.{◌>>=◌, at_line, read_each, seen}
use Rattle.cm_base.specs.Words.{is_int, limited, number_below, number_in, or_fault, signed_number, source_in, source_of, sources_in}
use Rattle.cm_base.specs.declared.faults.Fault.{Fault}
use Rattle.cm_base.specs.declared.faults.Fault.TheVariants as faults
use Rattle.cm_base.specs.declared.lines.Line.{Line}
use Rattle.cm_base.proofs.Bools.{and_true, both}
use Rattle.cm_board.specs.Items.{ItemText}
use Rattle.cm_board.specs.Kept.{IsWhole, are_kept, is_among, is_good, is_kept, is_source, is_within, keeps, set_in, slots}
use Rattle.cm_board.specs.Rules.{keeps_rule}
use Rattle.cm_board.specs.Times.{are_divisors}
use Rattle.cm_board.specs.Versions.{most_in}
use Rattle.cm_board_text.specs.DivisorsText.{divisors_word}
use Rattle.cm_board_text.specs.FoundView.{found_text}
use Rattle.cm_board_text.specs.Reading.{Found, admitted, begins_form, completed, form_of, form_of_words, found_from, is_begun, is_form, item_after, items_said, most_of, place_from, read_word, values_after}
use Rattle.cm_board_text.specs.IsTable.{all_apart, are_rows, is_listed, is_table}
use Rattle.cm_board_text.specs.Kept.{AreItems}
use Rattle.cm_board.specs.Table.{FormText, TableText, WordText, Fixed, Number, Signed, Sources, Source, Name, Channel, Divisors, form_at, laid, may_stand, place_of, row_at, table_text, word_text}
use Rattle.cm_board.specs.Slots.{lacks, of_row, takes, whole}
use Rattle.cm_board.specs.declared.table.Form.{Form}
use Rattle.cm_board.specs.declared.table.Head.{Head}
use Rattle.cm_board.specs.declared.table.Limits.{Limits}
use Rattle.cm_board.specs.declared.table.Row.{Row}
use Rattle.cm_board.specs.declared.table.Table.{Table}
use Rattle.cm_board.specs.declared.table.Value.{Value}
use Rattle.cm_board_text.proofs.DivisorsSaid.{divisors_ok}
use Rattle.cm_board_text.proofs.Filled.{is_whole}
use Rattle.cm_board_text.proofs.Laid.{IsPlaced, listed_at, placed}
use Rattle.cm_board_text.proofs.OfRow.{few_all, own}
use Rattle.cm_board_text.proofs.WordsBack.{is_fixed}

-- what holds of a value that is read from another
then_ok : {E A B : Type 0} (Q : A → Type 0) (P : B → Type 0) (read : Result A E) (f : A → Result B E) → IfOk read Q → ((x : A) → Q x → IfOk (f x) P) →
    IfOk (read >>= f) P
then_ok Q P (Ok x) f h k = k x h
then_ok Q P (Err e) f h k = tt

-- a form that is found is one of the table that may stand in the block, with as many words
record IsForm (rows : List Row) (head : Head) (ws : List (List ℕ)) (n : ℕ) (forms : List FormText) (f : Found) : Type 0 where
  pub k : ℕ
  pub at : f.at ≡ n + k
  pub below : k < length forms
  pub form : form_at k forms ≡ f.form
  pub stands : may_stand head (row_at f.form.row rows) ≡ true
  pub many : length ws ≡ length f.form.words

some_is : (a b : Found) → ◌≡◌ {A = Option Found} (Some a) (Some b) → a ≡ b
some_is a b e = cc

found_is : (rows : List Row) (head : Head) (ws : List (List ℕ)) (n : ℕ) (forms : List FormText) (f : Found) → found_from rows head ws n forms ≡ Some f →
    IsForm rows head ws n forms f
found_is rows head ws n [] f e = cc
found_is rows head ws n (form ∷ forms) f e =
    by (is_form form.words ws) (may_stand head (row_at form.row rows)) refl refl e (found_is rows head ws (n + 1) forms f)
  where
    later : IsForm rows head ws (n + 1) forms f → IsForm rows head ws n (form ∷ forms) f
    later i = record { k = suc i.k; at = i.at ∙ omega arith; below = omega (arith, i.below); form = i.form; stands = i.stands; many = i.many }

    by : (a b : Bool) → is_form form.words ws ≡ a → may_stand head (row_at form.row rows) ≡ b →
        cond (a && b) (Some (record { at = n; form = form })) (found_from rows head ws (n + 1) forms) ≡ Some f →
        (found_from rows head ws (n + 1) forms ≡ Some f → IsForm rows head ws (n + 1) forms f) → IsForm rows head ws n (form ∷ forms) f
    by true true i s e more =
        let same : record { at = n; form = form } ≡ f = some_is (record { at = n; form = form }) f e in
        let many = eqb-true (length ws) (length form.words) (both (length ws == length form.words) (begins_form form.words ws) i).0 in
        record {
          k = 0;
          at = sym (ap (λ (g : Found). g.at) same) ∙ omega arith;
          below = omega arith;
          form = ap (λ (g : Found). g.form) same;
          stands = ap (λ (g : Found). may_stand head (row_at g.form.row rows)) (sym same) ∙ s;
          many = many ∙ ap (λ (g : Found). length g.form.words) same;
        }
    by true false i s e more = later (more e)
    by false b i s e more = later (more e)

-- the form of a line, with as many words as it has
record IsLine (t : TableText) (head : Head) (words : List (List ℕ)) (f : Found) : Type 0 where
  pub below : f.at < length t.forms
  pub form : form_at f.at t.forms ≡ f.form
  pub stands : may_stand head (row_at f.form.row t.rows) ≡ true
  pub many : length words ≡ length f.form.words

words_ok : (t : TableText) (head : Head) (ws : List (List ℕ)) → IfOk (form_of_words t head ws) (IsLine t head ws)
words_ok t head ws = by (found_from t.rows head ws 0 t.forms) refl
  where
    by : (o : Option Found) → found_from t.rows head ws 0 t.forms ≡ o →
        IfOk (or_fault (cond (list_any (is_begun t.rows head ws) t.forms) faults.BadLine faults.Unknown) o) (IsLine t head ws)
    by None e = tt
    by (Some f) e =
        let i = found_is t.rows head ws 0 t.forms f e in
        let same : i.k ≡ f.at = omega (arith, i.at) in
        record {
          below = omega (arith, i.below, same);
          form = ap (λ (m : ℕ). form_at m t.forms) (sym same) ∙ i.form;
          stands = i.stands;
          many = i.many;
        }

line_ok : (t : TableText) (head : Head) (line : LineText) → IfOk (form_of t head line) (IsLine t head line.words)
line_ok t head line = by line.bad
  where
    by : (b : Bool) → IfOk (cond b (Err faults.BadLine) (form_of_words t head line.words)) (IsLine t head line.words)
    by true = tt
    by false = words_ok t head line.words

ok_is : {E A : Type 0} (x y : A) → ◌≡◌ {A = Result A E} (Ok x) (Ok y) → x ≡ y
ok_is x y e = cc

-- the same of a line and its form in the code
pub as_many : (t : Table) (head : Head) (line : Line) (number : ℕ) (read : Result (ℕ × Form) Fault) (f : ℕ × Form) →
    seen found_text read ≡ form_of (table_text t) head (line_view line) → at_line number read ≡ Ok f → length line.words.items ≡ length f.1.words.now
as_many t head line number (Err fault) f e h = cc
as_many t head line number (Ok g) f e h =
    let i : IsLine (table_text t) head (line_view line).words (found_text g) =
    subst (λ r. IfOk r (IsLine (table_text t) head (line_view line).words)) (sym e) (line_ok (table_text t) head (line_view line)) in
    sym (length-map line.words.items (λ word. word.now)) ∙ i.many ∙ length-map g.1.words.now word_text
    ∙ ap (λ (g : ℕ × Form). length g.1.words.now) (ok_is g f h)

-- what a word may say
SaidBy : Head → WordText → Option Value → Type 0
SaidBy head kind None = is_fixed kind ≡ true
SaidBy head kind (Some v) = is_kept head kind v ≡ true

any : {E A : Type 0} (read : Result A E) → IfOk read (λ x. Unit {0})
any (Ok x) = tt
any (Err e) = tt

-- a value that is read within a test, then said
tested : {A : Type 0} (test : A → Bool) (x : A) → IfOk (limited (test x) x) (λ y. test y ≡ true)
tested test x = by (test x) refl
  where
    by : (b : Bool) → test x ≡ b → IfOk (limited b x) (λ y. test y ≡ true)
    by true e = e
    by false e = tt

number_ok : (version : ℕ) (l : Limits) (w : List ℕ) → IfOk (number_in l.least (most_in version l.most l.wide) w) (λ n. is_within version l n ≡ true)
number_ok version l w =
    then_ok (λ n. Unit {0}) (λ n. is_within version l n ≡ true) (or_fault faults.BadNumber (number_of w)) _ (any _) (λ n u. tested (is_within version l) n)

signed_ok : (w : List ℕ) → IfOk (signed_number w) (λ z. is_int z ≡ true)
signed_ok w = then_ok (λ z. Unit {0}) (λ z. is_int z ≡ true) (or_fault faults.BadNumber (signed_of w)) _ (any _) (λ z u. tested is_int z)

sources_ok : (set : ℕ) (w : List ℕ) → IfOk (sources_in set w) (λ n. is_among set n ≡ true)
sources_ok set w = then_ok (λ n. Unit {0}) (λ n. is_among set n ≡ true) (source_of w) _ (any _) (λ n u. tested (is_among set) n)

source_ok : (w : List ℕ) → IfOk (source_in 511 w) (λ n. is_source n ≡ true)
source_ok w =
    then_ok (λ n. is_among 511 n ≡ true) (λ n. is_source n ≡ true) (sources_in 511 w) _ (sources_ok 511 w) (λ n among. one n among (bit_and n (n - 1) == 0) refl)
  where
    one : (n : ℕ) → is_among 511 n ≡ true → (b : Bool) → (bit_and n (n - 1) == 0) ≡ b → IfOk (limited b n) (λ n. is_source n ≡ true)
    one n among true e = and_true _ _ among e
    one n among false e = tt

channel_ok : (limit : ℕ) (w : List ℕ) → IfOk (number_below limit w) (λ n. nat_lt n limit ≡ true)
channel_ok limit w =
    then_ok (λ n. Unit {0}) (λ n. nat_lt n limit ≡ true) (or_fault faults.BadNumber (number_of w)) _ (any _) (λ n u. tested (λ m. nat_lt m limit) n)

place_ok : (n : ℕ) (w : List ℕ) (names : List (List ℕ)) → IfOk (or_fault faults.Unknown (place_from n w names)) (λ m. m < n + length names)
place_ok n w [] = tt
place_ok n w (name ∷ names) = by (bytes_eq w name) (place_from (n + 1) w names) (place_ok (n + 1) w names)
  where
    weaker : (o : Option ℕ) → IfOk (or_fault faults.Unknown o) (λ m. m < n + 1 + length names) →
        IfOk (or_fault faults.Unknown o) (λ m. m < n + length (name ∷ names))
    weaker None h = tt
    weaker (Some m) h = omega (arith, h)

    by : (b : Bool) (o : Option ℕ) → IfOk (or_fault faults.Unknown o) (λ m. m < n + 1 + length names) →
        IfOk (or_fault faults.Unknown (cond b (Some n) o)) (λ m. m < n + length (name ∷ names))
    by true o h = omega arith
    by false o h = weaker o h

word_ok : (head : Head) (kind : WordText) (w : List ℕ) → IfOk (read_word head kind w) (SaidBy head kind)
unfolding SaidBy
word_ok head (Fixed key) w = refl
word_ok head (Number l) w =
    then_ok (λ n. is_within head.version l n ≡ true) (SaidBy head (Number l)) (number_in l.least (most_in head.version l.most l.wide) w) _ (number_ok head.version l w) (λ n h. h)
word_ok head Signed w = then_ok (λ z. is_int z ≡ true) (SaidBy head Signed) (signed_number w) _ (signed_ok w) (λ z h. h)
word_ok head (Sources sets) w =
    then_ok (λ n. is_among (set_in head.version sets) n ≡ true) (SaidBy head (Sources sets)) (sources_in (set_in head.version sets) w) _ (sources_ok (set_in head.version sets) w) (λ n h. h)
word_ok head Source w = then_ok (λ n. is_source n ≡ true) (SaidBy head Source) (source_in 511 w) _ (source_ok w) (λ n h. h)
word_ok head (Name names) w =
    then_ok (λ m. m < 0 + length names) (SaidBy head (Name names)) (or_fault faults.Unknown (place_from 0 w names)) _ (place_ok 0 w names) (λ m h. lt-ltb m (length names) (omega (arith, h)))
word_ok head Channel w =
    then_ok (λ n. nat_lt n head.channels ≡ true) (SaidBy head Channel) (number_below head.channels w) _ (channel_ok head.channels w) (λ n h. h)
word_ok head Divisors w = then_ok (λ d. are_divisors d ≡ true) (SaidBy head Divisors) (divisors_word w) _ (divisors_ok w) (λ d h. h)

-- values that are read are ones that their words may say
record AreRead (head : Head) (before : List Value) (kinds : List WordText) (values : List Value) : Type 0 where
  pub more : List Value
  pub parts : values ≡ before ++ more
  pub kept : are_kept head kinds more ≡ true

never_fixed : (head : Head) (kind : WordText) (kinds : List WordText) (v : Value) (more : List Value) → is_kept head kind v ≡ true →
    are_kept head kinds more ≡ true → are_kept head (kind ∷ kinds) (v ∷ more) ≡ true
never_fixed head (Fixed key) kinds v more h k = cc
never_fixed head kind kinds v more h k = and_true _ _ h k

fixed_kept : (head : Head) (kind : WordText) (kinds : List WordText) (more : List Value) → is_fixed kind ≡ true → are_kept head kinds more ≡ true →
    are_kept head (kind ∷ kinds) more ≡ true
fixed_kept head (Fixed key) kinds more h k = k
fixed_kept head (Number l) kinds more h k = cc
fixed_kept head Signed kinds more h k = cc
fixed_kept head (Sources sets) kinds more h k = cc
fixed_kept head Source kinds more h k = cc
fixed_kept head (Name names) kinds more h k = cc
fixed_kept head Channel kinds more h k = cc
fixed_kept head Divisors kinds more h k = cc

read_more : (head : Head) (kind : WordText) (kinds : List WordText) (before : List Value) (o : Option Value) (read : Result (List Value) Fault) →
    SaidBy head kind o → IfOk read (AreRead head (before ++ option_to_list o) kinds) → IfOk read (AreRead head before (kind ∷ kinds))
unfolding SaidBy
read_more head kind kinds before o (Err fault) s r = tt
read_more head kind kinds before None (Ok values) s r =
    record { more = r.more; parts = r.parts ∙ ap (λ (xs : List Value). xs ++ r.more) (append-nil before); kept = fixed_kept head kind kinds r.more s r.kept }
read_more head kind kinds before (Some v) (Ok values) s r =
    record { more = v ∷ r.more; parts = r.parts ∙ append_assoc before (v ∷ []) r.more; kept = never_fixed head kind kinds v r.more s r.kept }

values_ok : (head : Head) (before : List Value) (kinds : List WordText) (ws : List (List ℕ)) → length ws ≡ length kinds →
    IfOk (values_after head before kinds ws) (AreRead head before kinds)
values_ok head before [] [] e = record { more = []; parts = sym (append-nil before); kept = refl }
values_ok head before [] (w ∷ ws) e = absurd (omega (arith, e))
values_ok head before (kind ∷ kinds) [] e = absurd (omega (arith, e))
values_ok head before (kind ∷ kinds) (w ∷ ws) e =
    then_ok (SaidBy head kind) (AreRead head before (kind ∷ kinds)) (read_word head kind w) _ (word_ok head kind w)
    (λ o s. read_more head kind kinds before o (values_after head (before ++ option_to_list o) kinds ws) s (values_ok head (before ++ option_to_list o) kinds ws (omega (arith, e))))

-- a line that is read may stand in its block, and is not one too many
record IsItem (t : TableText) (head : Head) (before : List ItemText) (item : ItemText) : Type 0 where
  pub good : is_good t head item ≡ true
  pub below : item.row < length (laid head.channels t.rows)
  pub room : length (of_row item.row before) < most_of head.version (row_at item.row (laid head.channels t.rows))

admit_ok : (t : TableText) (head : Head) (before : List ItemText) (ws : List (List ℕ)) (f : Found) (values : List Value) → is_table t ≡ true →
    IsLine t head ws f → are_kept head f.form.words values ≡ true →
    IfOk (admitted head t.rows before f values) (IsItem t head before)
admit_ok t head before ws f values check i w =
    by (nat_lt (length (of_row (place_of t.rows f.form values) before)) (most_of head.version (row_at f.form.row t.rows))) (keeps_rule f.form.rule values) refl refl
  where
    forms : list_all (is_listed t) t.forms ≡ true
    forms =
        (both (list_all (is_listed t) t.forms) (all_apart t.forms) (both (list_all (is_listed t) t.forms && all_apart t.forms) (are_rows t 0 t.rows) check).0).0

    at : IsPlaced t head f.form values
    at = placed t head f.form values (ap (is_listed t) (sym i.form) ∙ listed_at t f.at t.forms forms i.below) w

    known : place_of t.rows (form_at f.at t.forms) values ≡ place_of t.rows f.form values
    known = ap (λ (g : FormText). place_of t.rows g values) i.form

    by : (a b : Bool) → nat_lt (length (of_row (place_of t.rows f.form values) before)) (most_of head.version (row_at f.form.row t.rows)) ≡ a →
        keeps_rule f.form.rule values ≡ b →
        IfOk (cond a (cond b (Ok (record { row = place_of t.rows f.form values; form = f.at; values = values })) (Err faults.Bad)) (Err (cond (most_of head.version (row_at f.form.row t.rows) == 1) faults.Double faults.Limit))) (IsItem t head before)
    by true true r k =
        let room : length (of_row (place_of t.rows f.form values) before) < most_of head.version (row_at f.form.row t.rows) = ltb-true _ _ r in
        record {
          good = and_true _ _
              (and_true _ _ (and_true _ _ (lt-ltb f.at (length t.forms) i.below) (eq-eqb (place_of t.rows (form_at f.at t.forms) values) (place_of t.rows f.form values) known))
              (ap (λ (g : FormText). may_stand head (row_at g.row t.rows)) i.form ∙ i.stands))
              (ap (λ (g : FormText). keeps head g values) i.form ∙ and_true _ _ w k);
          below = at.below;
          room = subst (λ (r : Row). length (of_row (place_of t.rows f.form values) before) < most_of head.version r) (sym at.row) room;
        }
    by true false r k = tt
    by false b r k = tt

item_ok : (t : TableText) (head : Head) (before : List ItemText) (line : LineText) → is_table t ≡ true →
    IfOk (item_after t head before line) (IsItem t head before)
item_ok t head before line check =
    then_ok (IsLine t head line.words) (IsItem t head before) (form_of t head line) _ (line_ok t head line)
    (λ f i. then_ok (AreRead head [] f.form.words) (IsItem t head before) (values_after head [] f.form.words line.words) _ (values_ok head [] f.form.words line.words i.many)
    (λ values r. admit_ok t head before line.words f values check i (ap (are_kept head f.form.words) r.parts ∙ r.kept)))

-- lines that are read may stand in their block, and none is one too many
record AreRight (t : TableText) (head : Head) (items : List ItemText) : Type 0 where
  pub good : list_all (is_good t head) items ≡ true
  pub few : (k : ℕ) → k < length (laid head.channels t.rows) → length (of_row k items) ≤ most_of head.version (row_at k (laid head.channels t.rows))

item_more : (t : TableText) (head : Head) (before : List ItemText) (item : ItemText) → AreRight t head before → IsItem t head before item →
    AreRight t head (before ++ item ∷ [])
item_more t head before item a i = record {
  good = list_all-append (is_good t head) before (item ∷ []) ∙ and_true _ _ a.good (and_true _ true i.good refl);
  few = λ k below. by k (item.row == k) refl (a.few k below);
}
  where
    parts : (k : ℕ) → length (of_row k (before ++ item ∷ [])) ≡ length (of_row k before) + length (of_row k (item ∷ []))
    parts k = ap length (filter-append (own k) before (item ∷ [])) ∙ length-append (of_row k before) (of_row k (item ∷ []))

    by : (k : ℕ) (b : Bool) → (item.row == k) ≡ b → length (of_row k before) ≤ most_of head.version (row_at k (laid head.channels t.rows)) →
        length (of_row k (before ++ item ∷ [])) ≤ most_of head.version (row_at k (laid head.channels t.rows))
    by k true e h =
        let same : item.row ≡ k = eqb-true item.row k e in
        let room : length (of_row k before) < most_of head.version (row_at k (laid head.channels t.rows)) = subst (λ (m : ℕ). length (of_row m before) < most_of head.version (row_at m (laid head.channels t.rows))) same i.room in
        let one : length (of_row k (item ∷ [])) ≡ 1 = ap (λ b. length (cond b (item ∷ []) [])) e in
        omega (arith, parts k, one, room)
    by k false e h =
        let one : length (of_row k (item ∷ [])) ≡ 0 = ap (λ b. length (cond b (item ∷ []) [])) e in
        omega (arith, parts k, one, h)

at_line_keeps : {X : Type 0} (P : X → Type 0) (number : ℕ) (read : Result X Fault) → IfOk read P → IfOk (at_line number read) P
at_line_keeps P number (Ok x) h = h
at_line_keeps P number (Err fault) h = tt

all_right : (t : TableText) (head : Head) (before : List ItemText) (lines : List LineText) → is_table t ≡ true → AreRight t head before →
    IfOk (read_each (item_after t head) before lines) (AreRight t head)
all_right t head before [] check a = a
all_right t head before (line ∷ lines) check a =
    then_ok (IsItem t head before) (AreRight t head) (at_line line.number (item_after t head before line)) _
    (at_line_keeps (IsItem t head before) line.number (item_after t head before line) (item_ok t head before line check))
    (λ item i. all_right t head (before ++ item ∷ []) lines check (item_more t head before item a i))

none_yet : (t : TableText) (head : Head) → AreRight t head []
none_yet t head = record { good = refl; few = λ k below. omega arith }

right_items : (t : TableText) (head : Head) (items : List ItemText) → AreRight t head items → AreItems t head items
right_items t head items a = record { good = a.good; few = few_all head.version 0 (laid head.channels t.rows) items few }
  where
    few : (k : ℕ) → k < length (laid head.channels t.rows) → length (of_row (0 + k) items) ≤ most_of head.version (row_at k (laid head.channels t.rows))
    few k below =
        let h = a.few k below in
        let same : length (of_row (0 + k) items) ≡ length (of_row k items) = ap (λ (m : ℕ). length (of_row m items)) (omega arith) in
        omega (arith, h, same)

ok_map : {E A : Type 0} (P Q : A → Type 0) (read : Result A E) → ((x : A) → P x → Q x) → IfOk read P → IfOk read Q
ok_map P Q (Ok x) f h = f x h
ok_map P Q (Err e) f h = tt

-- lines that are read may stand in their block, and none of them too often
pub items_ok : (t : TableText) (head : Head) (lines : List LineText) → is_table t ≡ true → IfOk (items_said t head lines) (AreItems t head)
items_ok t head lines check =
    ok_map (AreRight t head) (AreItems t head) (items_said t head lines) (right_items t head) (all_right t head [] lines check (none_yet t head))

-- what they say at their end is a whole block
pub completed_ok : (t : TableText) (head : Head) (items : List ItemText) → is_table t ≡ true → AreItems t head items →
    IfOk (completed t head items) (IsWhole t head)
completed_ok t head items check a = by (lacks head (takes (slots t head items)) (slots t head items)) refl
  where
    by : (b : Bool) → lacks head (takes (slots t head items)) (slots t head items) ≡ b →
        IfOk (cond b (Err faults.Missing) (Ok (whole head (takes (slots t head items)) (slots t head items)))) (IsWhole t head)
    by true e = tt
    by false e = is_whole t head items check a.good a.few e
