-- The printed lines of a whole block are read as what they say.
use Rattle.std.proofs.Common.{◌≡◌, ℕ, zero, suc, ◌+◌, ◌<◌, ◌≤◌, Bool, true, false, cond, not, ◌&&◌, ◌||◌, ◌^◌, codes, List, [], ◌∷◌, ◌++◌, map, length, Some, Ok, Err, refl, sym, ap, ap₂, ◌∙◌, subst, nat_lt, ◌==◌, arith, append_assoc, append-nil, length-append}
use Rattle.std.specs.List.{list_all, list_any}
use Rattle.std.specs.Str.{bytes_eq}
use Rattle.std.proofs.lemmas.List.Elements.{filter-append}
use Rattle.std.proofs.lemmas.Bool.{eq-eqb, eqb-true, lt-ltb, ltb-true}
use Rattle.cm_base.specs.Lines.{LineText, is_comment, is_word}
use Rattle.cm_base.specs.Reading.{◌>>=◌, at_line, read_each}
use Rattle.cm_base.specs.Words.{or_fault}
use Rattle.cm_base.specs.WrittenLines.{is_line, numbered}
use Rattle.cm_base.specs.declared.faults.Fault.{Fault}
use Rattle.cm_base.specs.declared.faults.Fault.TheVariants as faults
use Rattle.cm_base.proofs.Bools.{and_true, both}
use Rattle.cm_board.specs.Items.{ItemText}
use Rattle.cm_board.specs.Kept.{IsWhole, are_kept, is_good, is_known, keeps, slots}
use Rattle.cm_board.specs.Rules.{keeps_rule}
use Rattle.cm_board_text.specs.BoardPart.{ends_block}
use Rattle.cm_board_text.specs.IsTable.{all_apart, are_apart, are_rows, is_headed, is_listed, is_of_channel, is_proper, is_table}
use Rattle.cm_board_text.specs.Printed.{item_words, words_text}
use Rattle.cm_board_text.specs.Reading.{Found, admitted, completed, form_of_words, found_from, is_begun, is_form, item_after, most_of, values_after}
use Rattle.cm_board.specs.Table.{FormText, TableText, WordText, Fixed, Number, Signed, Sources, Source, Name, Channel, Divisors, form_at, laid, may_stand, place_of, row_at}
use Rattle.cm_board.specs.Slots.{of_row, takes, whole}
use Rattle.cm_board.specs.declared.table.Head.{Head}
use Rattle.cm_board.specs.declared.table.Row.{Row}
use Rattle.cm_board.specs.declared.table.Value.{Value}
use Rattle.cm_board_text.proofs.Laid.{IsPlaced, listed_at, placed}
use Rattle.cm_board_text.proofs.OfRow.{few_at}
use Rattle.cm_board_text.proofs.WordsBack.{apart_back, form_kept, kept_back}

apart_at : (form : FormText) (n : ℕ) (forms : List FormText) → list_all (λ later. are_apart form.words later.words) forms ≡ true → n < length forms →
    are_apart form.words (form_at n forms).words ≡ true
apart_at form n [] h below = absurd (omega arith)
apart_at form zero (later ∷ forms) h below = (both (are_apart form.words later.words) (list_all (λ later. are_apart form.words later.words) forms) h).0
apart_at form (suc n) (later ∷ forms) h below =
    apart_at form n forms (both (are_apart form.words later.words) (list_all (λ later. are_apart form.words later.words) forms) h).1 (omega arith)

-- what a good line is
record IsGood (t : TableText) (head : Head) (item : ItemText) : Type 0 where
  pub below : item.form < length t.forms
  pub place : place_of t.rows (form_at item.form t.forms) item.values ≡ item.row
  pub stands : may_stand head (row_at (form_at item.form t.forms).row t.rows) ≡ true
  pub kept : are_kept head (form_at item.form t.forms).words item.values ≡ true
  pub rule : keeps_rule (form_at item.form t.forms).rule item.values ≡ true

good : (t : TableText) (head : Head) (item : ItemText) → is_good t head item ≡ true → IsGood t head item
good t head item h =
    let form : FormText = form_at item.form t.forms in
    let a = both (is_known t item && may_stand head (row_at form.row t.rows)) (keeps head form item.values) h in
    let b = both (is_known t item) (may_stand head (row_at form.row t.rows)) a.0 in
    let c = both (are_kept head form.words item.values) (keeps_rule form.rule item.values) a.1 in
    let d = both (nat_lt item.form (length t.forms)) (place_of t.rows form item.values == item.row) b.0 in
    record {
      below = ltb-true item.form (length t.forms) d.0;
      place = eqb-true (place_of t.rows form item.values) item.row d.1;
      stands = b.1;
      kept = c.0;
      rule = c.1;
    }

-- a table's forms are listed, and each is apart from those after it
record IsTable (t : TableText) : Type 0 where
  pub forms : list_all (is_listed t) t.forms ≡ true
  pub apart : all_apart t.forms ≡ true

table : (t : TableText) → is_table t ≡ true → IsTable t
table t h =
    let a = both (list_all (is_listed t) t.forms && all_apart t.forms) (are_rows t 0 t.rows) h in
    let b = both (list_all (is_listed t) t.forms) (all_apart t.forms) a.0 in
    record { forms = b.0; apart = b.1 }

-- what the forms of a table are
record IsListed (t : TableText) (form : FormText) : Type 0 where
  pub headed : is_headed form.words ≡ true
  pub proper : list_all is_proper form.words ≡ true

listed : (t : TableText) (n : ℕ) → IsTable t → n < length t.forms → IsListed t (form_at n t.forms)
listed t n h below =
    let form : FormText = form_at n t.forms in
    let a = both (nat_lt form.row (length t.rows) && is_headed form.words && list_all is_proper form.words) (not (row_at form.row t.rows).of_channel || is_of_channel form.words)
    (listed_at t n t.forms h.forms below) in
    let b = both (nat_lt form.row (length t.rows) && is_headed form.words) (list_all is_proper form.words) a.0 in
    record { headed = (both (nat_lt form.row (length t.rows)) (is_headed form.words) b.0).1; proper = b.1 }

-- a good line's row is that of its form
good_place : (t : TableText) (head : Head) (item : ItemText) → IsTable t → IsGood t head item → IsPlaced t head (form_at item.form t.forms) item.values
good_place t head item tab g = placed t head (form_at item.form t.forms) item.values (listed_at t item.form t.forms tab.forms g.below) g.kept

-- a line of a form has no earlier one
found_at : (rows : List Row) (head : Head) (n k : ℕ) (forms : List FormText) (vs : List Value) → all_apart forms ≡ true → k < length forms →
    are_kept head (form_at k forms).words vs ≡ true → is_form (form_at k forms).words (words_text (form_at k forms).words vs) ≡ true →
    may_stand head (row_at (form_at k forms).row rows) ≡ true →
    found_from rows head (words_text (form_at k forms).words vs) n forms ≡ Some (record { at = n + k; form = form_at k forms })
found_at rows head n k [] vs a below kept here stands = absurd (omega arith)
found_at rows head n zero (form ∷ forms) vs a below kept here stands =
    let ws : List (List ℕ) = words_text form.words vs in
    ap₂ (λ (x y : Bool). cond (x && y) (Some (record { at = n; form = form })) (found_from rows head ws (n + 1) forms)) here stands
    ∙ ap (λ (m : ℕ). Some (record { at = m; form = form })) (omega arith)
found_at rows head n (suc k) (form ∷ forms) vs a below kept here stands =
    let last : FormText = form_at k forms in
    let ws : List (List ℕ) = words_text last.words vs in
    let b = both (list_all (λ later. are_apart form.words later.words) forms) (all_apart forms) a in
    ap (λ x. cond (x && may_stand head (row_at form.row rows)) (Some (record { at = n; form = form })) (found_from rows head ws (n + 1) forms)) (apart_back head form.words last.words vs (apart_at form k forms b.0 (omega arith)) kept)
    ∙ found_at rows head (n + 1) k forms vs b.1 (omega arith) kept here stands
    ∙ ap (λ (m : ℕ). Some (record { at = m; form = last })) (omega arith)

-- a printed line has its form
form_back : (t : TableText) (head : Head) (item : ItemText) → IsTable t → head.channels < 2 ^ 32 → IsGood t head item →
    form_of_words t head (item_words t item) ≡ Ok (record { at = item.form; form = form_at item.form t.forms })
form_back t head item tab small g =
    let form : FormText = form_at item.form t.forms in
    let back = kept_back head form.words item.values small (listed t item.form tab g.below).proper g.kept in
    let fault : Fault = cond (list_any (is_begun t.rows head (item_words t item)) t.forms) faults.BadLine faults.Unknown in
    ap (or_fault fault)
    (found_at t.rows head 0 item.form t.forms item.values tab.apart g.below g.kept (form_kept head form.words item.values back g.kept) g.stands
    ∙ ap (λ (m : ℕ). Some (record { at = m; form = form })) (omega arith))

-- a printed line after others
line_back : (t : TableText) (head : Head) (before : List ItemText) (number : ℕ) (item : ItemText) → IsTable t → head.channels < 2 ^ 32 → IsGood t head item →
    nat_lt (length (of_row item.row before)) (most_of head.version (row_at item.row (laid head.channels t.rows))) ≡ true →
    item_after t head before (record { number = number; words = item_words t item; bad = false }) ≡ Ok item
line_back t head before number item tab small g room =
    let form : FormText = form_at item.form t.forms in
    let ws : List (List ℕ) = item_words t item in
    let f : Found = record { at = item.form; form = form } in
    let place : ℕ = place_of t.rows form item.values in
    let back = kept_back head form.words item.values small (listed t item.form tab g.below).proper g.kept in
    let here : nat_lt (length (of_row place before)) (most_of head.version (row_at form.row t.rows)) ≡ true =
    ap (λ (r : Row). nat_lt (length (of_row place before)) (most_of head.version r)) (sym (good_place t head item tab g).row)
    ∙ ap (λ (n : ℕ). nat_lt (length (of_row n before)) (most_of head.version (row_at n (laid head.channels t.rows)))) g.place ∙ room in
    ap (λ r. r >>= λ (f : Found). values_after head [] f.form.words ws >>= λ values. admitted head t.rows before f values) (form_back t head item tab small g)
    ∙ ap (λ r. r >>= λ values. admitted head t.rows before f values) (back.read [])
    ∙ ap (λ b. cond b (cond (keeps_rule form.rule item.values) (Ok (record { row = place; form = item.form; values = item.values })) (Err faults.Bad)) (Err (cond (most_of head.version (row_at form.row t.rows) == 1) faults.Double faults.Limit))) here
    ∙ ap (λ b. cond b (Ok (record { row = place; form = item.form; values = item.values })) (Err faults.Bad)) g.rule
    ∙ ap (λ (n : ℕ). Ok (record { row = n; form = item.form; values = item.values })) g.place

-- the line itself is one of its row
room : (version : ℕ) (rows : List Row) (before after : List ItemText) (item : ItemText) →
    length (of_row item.row (before ++ item ∷ after)) ≤ most_of version (row_at item.row rows) →
    nat_lt (length (of_row item.row before)) (most_of version (row_at item.row rows)) ≡ true
room version rows before after item h =
    let n : ℕ = item.row in
    let parts = ap length (filter-append (λ (i : ItemText). i.row == n) before (item ∷ after)) ∙ length-append (of_row n before) (of_row n (item ∷ after)) in
    let here : length (of_row n (item ∷ after)) ≡ suc (length (of_row n after)) = ap (λ b. length (cond b (item ∷ of_row n after) (of_row n after))) (eq-eqb n n refl) in
    lt-ltb _ _ (omega (arith, h, parts, here))

-- no row has too many of these lines
Few : ℕ → List Row → List ItemText → Type 0
Few version rows items = (n : ℕ) → n < length rows → length (of_row n items) ≤ most_of version (row_at n rows)

-- a good line is below the end of the rows that are laid out
row_below : (t : TableText) (head : Head) (item : ItemText) → IsTable t → IsGood t head item → item.row < length (laid head.channels t.rows)
row_below t head item tab g = subst (λ (n : ℕ). n < length (laid head.channels t.rows)) g.place (good_place t head item tab g).below

-- printed lines after others
all_back : (t : TableText) (head : Head) (before after : List ItemText) (number : ℕ) → IsTable t → head.channels < 2 ^ 32 →
    list_all (is_good t head) after ≡ true → Few head.version (laid head.channels t.rows) (before ++ after) →
    read_each (item_after t head) before (numbered number (map (item_words t) after)) ≡ Ok (before ++ after)
unfolding Few
all_back t head before [] number tab small h few = ap Ok (sym (append-nil before))
all_back t head before (item ∷ after) number tab small h few =
    let b = both (is_good t head item) (list_all (is_good t head) after) h in
    let g = good t head item b.0 in
    let same : (before ++ item ∷ []) ++ after ≡ before ++ item ∷ after = append_assoc before (item ∷ []) after in
    let P : List ItemText → Type 0 = λ items. (n : ℕ) → n < length (laid head.channels t.rows) → length (of_row n items) ≤ most_of head.version (row_at n (laid head.channels t.rows)) in
    ap (λ x. at_line number x >>= λ y. read_each (item_after t head) (before ++ y ∷ []) (numbered (number + 1) (map (item_words t) after)))
    (line_back t head before number item tab small g (room head.version (laid head.channels t.rows) before after item (few item.row (row_below t head item tab g))))
    ∙ all_back t head (before ++ item ∷ []) after (number + 1) tab small b.1 (subst P (sym same) few)
    ∙ ap Ok same

few_in : (t : TableText) (head : Head) (items : List ItemText) → IsWhole t head items → Few head.version (laid head.channels t.rows) ([] ++ items)
unfolding Few
few_in t head items w = λ n below.
    let here = few_at head.version 0 n (laid head.channels t.rows) items w.few below in
    let same : length (of_row (0 + n) items) ≡ length (of_row n items) = ap (λ (m : ℕ). length (of_row m items)) (omega arith) in
    omega (arith, here, same)

-- the printed lines of a whole block are read as what they say
pub items_back : (t : TableText) (head : Head) (number : ℕ) (items : List ItemText) → is_table t ≡ true → IsWhole t head items → head.channels < 2 ^ 32 →
    read_each (item_after t head) [] (numbered number (map (item_words t) items)) ≡ Ok items
items_back t head number items h w small = all_back t head [] items number (table t h) small w.good (few_in t head items w)

-- what they say at their end
pub completed_back : (t : TableText) (head : Head) (items : List ItemText) → IsWhole t head items → completed t head items ≡ Ok items
completed_back t head items w =
    ap (λ b. cond b (Err faults.Missing) (Ok (whole head (takes (slots t head items)) (slots t head items)))) w.full ∙ ap Ok w.same

-- each line is one of words
line_words : (kinds : List WordText) (vs : List Value) → is_headed kinds ≡ true → list_all is_word (words_text kinds vs) ≡ true →
    is_line (words_text kinds vs) ≡ true
line_words [] vs h w = cc
line_words (Fixed key ∷ kinds) vs h w =
    let a = both (not (is_comment (key ∷ [])) && not (bytes_eq key (codes "subdevice"))) (not (bytes_eq key (codes "signals"))) h in
    and_true _ _ (both (not (is_comment (key ∷ []))) (not (bytes_eq key (codes "subdevice"))) a.0).0 w
line_words (Number l ∷ kinds) vs h w = cc
line_words (Signed ∷ kinds) vs h w = cc
line_words (Sources sets ∷ kinds) vs h w = cc
line_words (Source ∷ kinds) vs h w = cc
line_words (Name names ∷ kinds) vs h w = cc
line_words (Channel ∷ kinds) vs h w = cc
line_words (Divisors ∷ kinds) vs h w = cc

all_good : (t : TableText) (head : Head) (items : List ItemText) → IsTable t → head.channels < 2 ^ 32 → list_all (is_good t head) items ≡ true →
    list_all is_line (map (item_words t) items) ≡ true
all_good t head [] tab small h = refl
all_good t head (item ∷ items) tab small h =
    let b = both (is_good t head item) (list_all (is_good t head) items) h in
    let g = good t head item b.0 in
    let form : FormText = form_at item.form t.forms in
    let l = listed t item.form tab g.below in
    let back = kept_back head form.words item.values small l.proper g.kept in
    and_true _ _ (line_words form.words item.values l.headed back.words) (all_good t head items tab small b.1)

pub lines_good : (t : TableText) (head : Head) (items : List ItemText) → is_table t ≡ true → IsWhole t head items → head.channels < 2 ^ 32 →
    list_all is_line (map (item_words t) items) ≡ true
lines_good t head items h w small = all_good t head items (table t h) small w.good

-- no line of a block ends it
line_inside : (kinds : List WordText) (vs : List Value) (number : ℕ) → is_headed kinds ≡ true →
    not (ends_block (record { number = number; words = words_text kinds vs; bad = false })) ≡ true
line_inside [] vs number h = cc
line_inside (Fixed key ∷ kinds) vs number h =
    let a = both (not (is_comment (key ∷ [])) && not (bytes_eq key (codes "subdevice"))) (not (bytes_eq key (codes "signals"))) h in
    let b = both (not (is_comment (key ∷ []))) (not (bytes_eq key (codes "subdevice"))) a.0 in
    neither_is (bytes_eq key (codes "subdevice")) (bytes_eq key (codes "signals")) b.1 a.1
  where
    neither_is : (a b : Bool) → not a ≡ true → not b ≡ true → not (a || b) ≡ true
    neither_is true b h k = h
    neither_is false b h k = k
line_inside (Number l ∷ kinds) vs number h = cc
line_inside (Signed ∷ kinds) vs number h = cc
line_inside (Sources sets ∷ kinds) vs number h = cc
line_inside (Source ∷ kinds) vs number h = cc
line_inside (Name names ∷ kinds) vs number h = cc
line_inside (Channel ∷ kinds) vs number h = cc
line_inside (Divisors ∷ kinds) vs number h = cc

all_inside : (t : TableText) (head : Head) (items : List ItemText) (number : ℕ) → IsTable t → list_all (is_good t head) items ≡ true →
    list_all (λ (line : LineText). not (ends_block line)) (numbered number (map (item_words t) items)) ≡ true
all_inside t head [] number tab h = refl
all_inside t head (item ∷ items) number tab h =
    let b = both (is_good t head item) (list_all (is_good t head) items) h in
    let g = good t head item b.0 in
    let form : FormText = form_at item.form t.forms in
    and_true _ _ (line_inside form.words item.values number (listed t item.form tab g.below).headed) (all_inside t head items (number + 1) tab b.1)

pub lines_inside : (t : TableText) (head : Head) (items : List ItemText) → is_table t ≡ true → IsWhole t head items → (number : ℕ) →
    list_all (λ (line : LineText). not (ends_block line)) (numbered number (map (item_words t) items)) ≡ true
lines_inside t head items h w number = all_inside t head items number (table t h) w.good
