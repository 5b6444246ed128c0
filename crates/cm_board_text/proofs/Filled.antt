-- The lines of a block with those that hold without standing there.
use Rattle.std.proofs.Common.{◌≡◌, ℕ, suc, ◌+◌, ◌<◌, ◌≤◌, Bool, true, false, cond, not, ◌&&◌, ◌||◌, List, [], ◌∷◌, ◌++◌, map, length, refl, sym, ap, ap₂, ◌∙◌, subst, arith, ◌==◌, nat_le, append_assoc, append-nil}
use Rattle.std.specs.List.{list_all, list_any}
use Rattle.std.proofs.lemmas.Bool.{le-leb}
use Rattle.std.proofs.lemmas.Bool.Decides.{nat_tests}
use Rattle.std.proofs.lemmas.List.Elements.{filter-append}
use Rattle.std.proofs.lemmas.List.Folds.{list_all-append}
use Rattle.cm_base.proofs.Bools.{and_true, both, neither}
use Rattle.cm_board.specs.Items.{ItemText}
use Rattle.cm_board.specs.Kept.{IsWhole, is_few, is_good, slots}
use Rattle.cm_board_text.specs.IsTable.{is_table}
use Rattle.cm_board_text.specs.Reading.{most_of}
use Rattle.cm_board.specs.Table.{TableText, is_command, laid, may_stand, needs, row_at}
use Rattle.cm_board.specs.declared.table.Row.{Row}
use Rattle.cm_board.specs.Slots.{Slot, default_of, filled, has_default, is_empty, is_used, lacks, lacks_line, of_row, slots_from, takes, whole}
use Rattle.cm_board.specs.declared.table.Absent.{Absent}
use Rattle.cm_board.specs.declared.table.Absent.TheVariants as absents
use Rattle.cm_board.specs.declared.table.Head.{Head}
use Rattle.cm_board_text.proofs.Laid.{Suits, laid_suits}
use Rattle.cm_board_text.proofs.OfRow.{all_own, all_row, own, own_other, own_same}

-- a row with its lines, and those that hold without standing there
abbrev pub fill : Head → Bool → Slot → Slot
fill head t s = record { at = s.at; row = s.row; items = filled head t s }

itself : (n : ℕ) → (n == n) ≡ true
itself n = grind (arith, nat_tests)

-- the lines that hold are of their row
own_default : (n : ℕ) (a : Absent) → list_all (own n) (default_of n a) ≡ true
own_default n (absents.Stands form) = and_true _ true (itself n) refl
own_default n (absents.Says form k) = and_true _ true (itself n) refl
own_default n other = refl

own_filled : (head : Head) (t : Bool) (n : ℕ) (row : Row) (items : List ItemText) →
    list_all (own n) (filled head t (record { at = n; row = row; items = of_row n items })) ≡ true
own_filled head t n row items = by (is_empty (of_row n items)) (has_default head t row)
  where
    by : (a b : Bool) → list_all (own n) (cond a (cond b (default_of n row.absent) []) (of_row n items)) ≡ true
    by true true = own_default n row.absent
    by true false = refl
    by false b = all_own n items

above : (m n : ℕ) → m < n → (m == n) ≡ false
above m n h = grind (arith, nat_tests)

below : (m n : ℕ) → n < m → (m == n) ≡ false
below m n h = grind (arith, nat_tests)

-- the rows after one have no line of it
none_later : (head : Head) (t : Bool) (m n : ℕ) (rows : List Row) (items : List ItemText) → m < n → of_row m (whole head t (slots_from n rows items)) ≡ []
none_later head t m n [] items h = refl
none_later head t m n (row ∷ rows) items h =
    let s : Slot = record { at = n; row = row; items = of_row n items } in
    filter-append (own m) (filled head t s) (whole head t (slots_from (n + 1) rows items))
    ∙ ap₂ (λ (x y : List ItemText). x ++ y) (own_other m n (filled head t s) (own_filled head t n row items) (above m n h)) (none_later head t m (n + 1) rows items (omega arith))

-- the lines that hold are sorted by their rows
sorted : (head : Head) (t : Bool) (n : ℕ) (rows : List Row) (items before : List ItemText) → ((m : ℕ) → n ≤ m → of_row m before ≡ []) →
    slots_from n rows (before ++ whole head t (slots_from n rows items)) ≡ map (fill head t) (slots_from n rows items)
sorted head t n [] items before none = refl
sorted head t n (row ∷ rows) items before none =
    let here : List ItemText = filled head t (record { at = n; row = row; items = of_row n items }) in
    let later : List ItemText = whole head t (slots_from (n + 1) rows items) in
    let own_here = own_filled head t n row items in
    let first : of_row n (before ++ (here ++ later)) ≡ here =
    filter-append (own n) before (here ++ later) ∙ ap (λ (xs : List ItemText). xs ++ of_row n (here ++ later)) (none n (omega arith))
    ∙ filter-append (own n) here later
    ∙ ap₂ (λ (x y : List ItemText). x ++ y) (own_same n here own_here) (none_later head t n (n + 1) rows items (omega arith)) ∙ append-nil here in
    let others : (m : ℕ) → n + 1 ≤ m → of_row m (before ++ here) ≡ [] =
    λ m h. filter-append (own m) before here
    ∙ ap₂ (λ (x y : List ItemText). x ++ y) (none m (omega arith)) (own_other m n here own_here (below m n (omega arith))) in
    ap₂ (λ (xs : List ItemText) (ss : List Slot). record { at = n; row = row; items = xs } ∷ ss) first
    (ap (slots_from (n + 1) rows) (sym (append_assoc before here later)) ∙ sorted head t (n + 1) rows items (before ++ here) others)

pub sorted_back : (head : Head) (t : Bool) (rows : List Row) (items : List ItemText) →
    slots_from 0 rows (whole head t (slots_from 0 rows items)) ≡ map (fill head t) (slots_from 0 rows items)
sorted_back head t rows items = sorted head t 0 rows items [] (λ m h. refl)

-- the same rows are used with what holds

used_more : (head : Head) (s : Slot) → is_used s ≡ true → is_used (fill head true s) ≡ true
used_more head s h =
    let b = both (is_command s.row) (not (is_empty s.items)) h in
    and_true _ _ b.0 (by (is_empty s.items) refl b.1)
  where
    by : (e : Bool) → is_empty s.items ≡ e → not e ≡ true →
        not (is_empty (cond e (cond (has_default head true s.row) (default_of s.at s.row.absent) []) s.items)) ≡ true
    by true e h = cc
    by false e h = ap not e

used_same : (head : Head) (s : Slot) → is_used s ≡ false → is_used (fill head false s) ≡ false
used_same head s h = by (is_command s.row) (is_empty s.items) refl h
  where
    stands : (m : Bool) → (m && false) ≡ false
    stands true = refl
    stands false = refl

    by : (c e : Bool) → is_empty s.items ≡ e → (c && not e) ≡ false →
        (c && not (is_empty (cond e (cond (may_stand head s.row && not c) (default_of s.at s.row.absent) []) s.items))) ≡ false
    by false e is h = refl
    by true true is h = ap (λ b. not (is_empty (cond b (default_of s.at s.row.absent) []))) (stands (may_stand head s.row))
    by true false is h = cc

some_used : (head : Head) (ss : List Slot) → list_any is_used ss ≡ true → list_any is_used (map (fill head true) ss) ≡ true
some_used head [] h = h
some_used head (s ∷ ss) h = by (is_used s) (is_used (fill head true s)) (used_more head s) h (some_used head ss)
  where
    by : (a b : Bool) → (a ≡ true → b ≡ true) → (a || list_any is_used ss) ≡ true →
        (list_any is_used ss ≡ true → list_any is_used (map (fill head true) ss) ≡ true) → (b || list_any is_used (map (fill head true) ss)) ≡ true
    by a true k h more = refl
    by true false k h more = let e = k refl in cc
    by false false k h more = more h

none_used : (head : Head) (ss : List Slot) → list_any is_used ss ≡ false → list_any is_used (map (fill head false) ss) ≡ false
none_used head [] h = refl
none_used head (s ∷ ss) h =
    let n = neither (is_used s) (list_any is_used ss) h in
    ap₂ (λ (a b : Bool). a || b) (used_same head s n.0) (none_used head ss n.1)

pub takes_filled : (head : Head) (t : Bool) (ss : List Slot) → takes ss ≡ t → takes (map (fill head t) ss) ≡ t
takes_filled head true ss h = some_used head ss h
takes_filled head false ss h = none_used head ss h

-- no needed line is missing

lacks_same : (head : Head) (t : Bool) (s : Slot) → lacks_line head t s ≡ false → lacks_line head t (fill head t s) ≡ false
lacks_same head t s h = by (needs head t s.row) (is_empty s.items) refl h
  where
    by : (n e : Bool) → is_empty s.items ≡ e → (n && e) ≡ false →
        (n && is_empty (cond e (cond (has_default head t s.row) (default_of s.at s.row.absent) []) s.items)) ≡ false
    by false e is h = refl
    by true true is h = cc
    by true false is h = is

pub lacks_filled : (head : Head) (t : Bool) (ss : List Slot) → lacks head t ss ≡ false → lacks head t (map (fill head t) ss) ≡ false
lacks_filled head t [] h = refl
lacks_filled head t (s ∷ ss) h =
    let n = neither (lacks_line head t s) (lacks head t ss) h in
    ap₂ (λ (a b : Bool). a || b) (lacks_same head t s n.0) (lacks_filled head t ss n.1)

-- what holds is filled no more

filled_again : (head : Head) (t : Bool) (s : Slot) → filled head t (fill head t s) ≡ filled head t s
filled_again head t s = by (is_empty s.items) refl
  where
    again : (e : Bool) (xs : List ItemText) → cond e xs xs ≡ xs
    again true xs = refl
    again false xs = refl

    by : (e : Bool) → is_empty s.items ≡ e →
        cond (is_empty (cond e (cond (has_default head t s.row) (default_of s.at s.row.absent) []) s.items)) (cond (has_default head t s.row) (default_of s.at s.row.absent) []) (cond e (cond (has_default head t s.row) (default_of s.at s.row.absent) []) s.items)
        ≡ cond e (cond (has_default head t s.row) (default_of s.at s.row.absent) []) s.items
    by true is =
        again (is_empty (cond (has_default head t s.row) (default_of s.at s.row.absent) [])) (cond (has_default head t s.row) (default_of s.at s.row.absent) [])
    by false is = ap (λ b. cond b (cond (has_default head t s.row) (default_of s.at s.row.absent) []) s.items) is

pub whole_again : (head : Head) (t : Bool) (ss : List Slot) → whole head t (map (fill head t) ss) ≡ whole head t ss
whole_again head t [] = refl
whole_again head t (s ∷ ss) = ap₂ (λ (x y : List ItemText). x ++ y) (filled_again head t s) (whole_again head t ss)

-- no row has too many lines

few_same : (head : Head) (t : Bool) (s : Slot) → length (default_of s.at s.row.absent) ≤ most_of head.version s.row → is_few head.version s ≡ true →
    is_few head.version (fill head t s) ≡ true
few_same head t s some h = by (is_empty s.items) (has_default head t s.row)
  where
    by : (e d : Bool) → nat_le (length (cond e (cond d (default_of s.at s.row.absent) []) s.items)) (most_of head.version s.row) ≡ true
    by true true = le-leb _ _ some
    by true false = le-leb _ _ (omega arith)
    by false d = h

-- what holds without a line of each of these rows suits them, where they are counted from `n`
AllSuit : TableText → ℕ → List Row → Type 0
AllSuit table n rows = (k : ℕ) → k < length rows → Suits table (n + k) (row_at k rows)

first_suits : (table : TableText) (n : ℕ) (row : Row) (rows : List Row) → AllSuit table n (row ∷ rows) → Suits table n row
unfolding AllSuit
first_suits table n row rows s = subst (λ (m : ℕ). Suits table m row) (omega arith) (s 0 (omega arith))

later_suit : (table : TableText) (n : ℕ) (row : Row) (rows : List Row) → AllSuit table n (row ∷ rows) → AllSuit table (n + 1) rows
unfolding AllSuit
later_suit table n row rows s = λ k below. subst (λ (m : ℕ). Suits table m (row_at k rows)) (omega arith) (s (suc k) (omega arith))

few_filled : (head : Head) (t : Bool) (table : TableText) (n : ℕ) (rows : List Row) (items : List ItemText) → AllSuit table n rows →
    list_all (is_few head.version) (slots_from n rows items) ≡ true →
    list_all (is_few head.version) (map (fill head t) (slots_from n rows items)) ≡ true
few_filled head t table n [] items s h = refl
few_filled head t table n (row ∷ rows) items s h =
    let slot : Slot = record { at = n; row = row; items = of_row n items } in
    let b = both (is_few head.version slot) (list_all (is_few head.version) (slots_from (n + 1) rows items)) h in
    and_true _ _ (few_same head t slot ((first_suits table n row rows s).few head.version) b.0) (few_filled head t table (n + 1) rows items (later_suit table n row rows s) b.1)

-- each line may stand in its block

filled_good : (table : TableText) (head : Head) (t : Bool) (n : ℕ) (row : Row) (items : List ItemText) → Suits table n row →
    list_all (is_good table head) items ≡ true →
    list_all (is_good table head) (filled head t (record { at = n; row = row; items = of_row n items })) ≡ true
filled_good table head t n row items s h = by (is_empty (of_row n items)) (has_default head t row) refl
  where
    by : (a d : Bool) → has_default head t row ≡ d → list_all (is_good table head) (cond a (cond d (default_of n row.absent) []) (of_row n items)) ≡ true
    by true true d = s.good head (both (may_stand head row) (t || not (is_command row)) d).0
    by true false d = refl
    by false d is = all_row (is_good table head) n items h

whole_good : (table : TableText) (head : Head) (t : Bool) (n : ℕ) (rows : List Row) (items : List ItemText) → AllSuit table n rows →
    list_all (is_good table head) items ≡ true →
    list_all (is_good table head) (whole head t (slots_from n rows items)) ≡ true
whole_good table head t n [] items s h = refl
whole_good table head t n (row ∷ rows) items s h =
    let slot : Slot = record { at = n; row = row; items = of_row n items } in
    list_all-append (is_good table head) (filled head t slot) (whole head t (slots_from (n + 1) rows items))
    ∙ and_true _ _ (filled_good table head t n row items (first_suits table n row rows s) h) (whole_good table head t (n + 1) rows items (later_suit table n row rows s) h)

all_suit : (table : TableText) (channels : ℕ) → is_table table ≡ true → AllSuit table 0 (laid channels table.rows)
unfolding AllSuit
all_suit table channels check =
    λ k below. subst (λ (m : ℕ). Suits table m (row_at k (laid channels table.rows))) (omega arith) (laid_suits table channels k check)

-- what a block says at its end is whole
pub is_whole : (table : TableText) (head : Head) (items : List ItemText) → is_table table ≡ true → list_all (is_good table head) items ≡ true →
    list_all (is_few head.version) (slots table head items) ≡ true → lacks head (takes (slots table head items)) (slots table head items) ≡ false →
    IsWhole table head (whole head (takes (slots table head items)) (slots table head items))
is_whole table head items check good few full =
    let rows : List Row = laid head.channels table.rows in
    let ss : List Slot = slots_from 0 rows items in
    let t : Bool = takes ss in
    let back = sorted_back head t rows items in
    let same : takes (slots_from 0 rows (whole head t ss)) ≡ t = ap takes back ∙ takes_filled head t ss refl in
    let suit = all_suit table head.channels check in
    record {
      good = whole_good table head t 0 rows items suit good;
      few = ap (list_all (is_few head.version)) back ∙ few_filled head t table 0 rows items suit few;
      full = ap₂ (λ (b : Bool) (xs : List Slot). lacks head b xs) same back ∙ lacks_filled head t ss full;
      same = ap₂ (λ (b : Bool) (xs : List Slot). whole head b xs) same back ∙ whole_again head t ss;
    }
