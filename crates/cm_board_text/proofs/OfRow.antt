-- The rows of a table, and the lines of each.
use Rattle.std.proofs.Common.{◌≡◌, ℕ, zero, suc, ◌+◌, ◌<◌, ◌≤◌, Bool, true, false, cond, List, [], ◌∷◌, ◌++◌, append_assoc, append-nil, drop, get_or, length, map, refl, sym, ap, ◌∙◌, arith, ◌==◌, nat_le}
use Rattle.std.specs.List.{list_all}
use Rattle.std.proofs.lemmas.Bool.{leb-true, le-leb}
use Rattle.std.proofs.lemmas.Bool.Decides.{nat_tests}
use Rattle.cm_base.proofs.Bools.{and_true, both}
use Rattle.cm_board.specs.Items.{ItemText}
use Rattle.cm_board.specs.Kept.{is_few}
use Rattle.cm_board.specs.Table.{row_at}
use Rattle.cm_board.specs.declared.table.Row.{Row}
use Rattle.cm_board.specs.Slots.{filled, of_row, slots_from, whole}
use Rattle.cm_board.specs.declared.table.Head.{Head}
use Rattle.cm_board_text.specs.Reading.{most_of}
use Rattle.cm_board_text.proofs.BoardPieces.{first_left}

-- no row has too many lines
pub few_at : (version n k : ℕ) (rows : List Row) (items : List ItemText) → list_all (is_few version) (slots_from n rows items) ≡ true → k < length rows →
    length (of_row (n + k) items) ≤ most_of version (row_at k rows)
few_at version n k [] items h below = absurd (omega arith)
few_at version n zero (row ∷ rows) items h below =
    let here = leb-true (length (of_row n items)) (most_of version row) (both (nat_le (length (of_row n items)) (most_of version row)) (list_all (is_few version) (slots_from (n + 1) rows items)) h).0 in
    let same : length (of_row (n + 0) items) ≡ length (of_row n items) = ap (λ (m : ℕ). length (of_row m items)) (omega arith) in
    omega (arith, here, same)
few_at version n (suc k) (row ∷ rows) items h below =
    let later = few_at version (n + 1) k rows items (both (nat_le (length (of_row n items)) (most_of version row)) (list_all (is_few version) (slots_from (n + 1) rows items)) h).1 (omega arith) in
    let same : length (of_row (n + suc k) items) ≡ length (of_row (n + 1 + k) items) = ap (λ (m : ℕ). length (of_row m items)) (omega arith) in
    omega (arith, later, same)

pub few_all : (version n : ℕ) (rows : List Row) (items : List ItemText) →
    ((k : ℕ) → k < length rows → length (of_row (n + k) items) ≤ most_of version (row_at k rows)) →
    list_all (is_few version) (slots_from n rows items) ≡ true
few_all version n [] items h = refl
few_all version n (row ∷ rows) items h =
    and_true _ _ (le-leb (length (of_row n items)) (most_of version row) (first (h 0 (omega arith))))
    (few_all version (n + 1) rows items (λ k below. next k (h (suc k) (omega arith))))
  where
    first : length (of_row (n + 0) items) ≤ most_of version row → length (of_row n items) ≤ most_of version row
    first h =
        let same : length (of_row (n + 0) items) ≡ length (of_row n items) = ap (λ (m : ℕ). length (of_row m items)) (omega arith) in omega (arith, h, same)

    next : (k : ℕ) → length (of_row (n + suc k) items) ≤ most_of version (row_at k rows) → length (of_row (n + 1 + k) items) ≤ most_of version (row_at k rows)
    next k h =
        let same : length (of_row (n + suc k) items) ≡ length (of_row (n + 1 + k) items) = ap (λ (m : ℕ). length (of_row m items)) (omega arith) in omega (arith, h, same)

-- lines that all are of one row
abbrev pub own : ℕ → ItemText → Bool
own n item = item.row == n

pub own_same : (n : ℕ) (items : List ItemText) → list_all (own n) items ≡ true → of_row n items ≡ items
own_same n [] h = refl
own_same n (item ∷ items) h =
    let b = both (own n item) (list_all (own n) items) h in
    ap (λ t. cond t (item ∷ of_row n items) (of_row n items)) b.0 ∙ ap (λ (xs : List ItemText). item ∷ xs) (own_same n items b.1)

not_own : (a m n : ℕ) → (a == n) ≡ true → (m == n) ≡ false → (a == m) ≡ false
not_own a m n h k = by (a == m) refl
  where
    by : (t : Bool) → (a == m) ≡ t → t ≡ false
    by true e = absurd (grind (arith, nat_tests, e, h, k))
    by false e = refl

pub own_other : (m n : ℕ) (items : List ItemText) → list_all (own n) items ≡ true → (m == n) ≡ false → of_row m items ≡ []
own_other m n [] h k = refl
own_other m n (item ∷ items) h k =
    let b = both (own n item) (list_all (own n) items) h in
    ap (λ t. cond t (item ∷ of_row m items) (of_row m items)) (not_own item.row m n b.0 k) ∙ own_other m n items b.1 k

pub all_own : (n : ℕ) (items : List ItemText) → list_all (own n) (of_row n items) ≡ true
all_own n [] = refl
all_own n (item ∷ items) = by (own n item) refl (all_own n items)
  where
    by : (b : Bool) → own n item ≡ b → list_all (own n) (of_row n items) ≡ true → list_all (own n) (cond b (item ∷ of_row n items) (of_row n items)) ≡ true
    by true e later = and_true _ _ e later
    by false e later = later

-- what holds of all lines holds of those of one row
pub all_row : (p : ItemText → Bool) (n : ℕ) (items : List ItemText) → list_all p items ≡ true → list_all p (of_row n items) ≡ true
all_row p n [] h = refl
all_row p n (item ∷ items) h = let b = both (p item) (list_all p items) h in by (own n item) b.0 (all_row p n items b.1)
  where
    by : (t : Bool) → p item ≡ true → list_all p (of_row n items) ≡ true → list_all p (cond t (item ∷ of_row n items) (of_row n items)) ≡ true
    by true e later = and_true _ _ e later
    by false e later = later

-- what the lines of a row say goes on with the first of those that are left
pub said_next : {Y : Type 0} (f : ItemText → Y) (row : ℕ) (done new : List Y) (items : List ItemText) (i : ℕ) (item d : ItemText) → i < length items →
    item ≡ get_or items i d → new ≡ done ++ map f (of_row row (item ∷ [])) →
    done ++ map f (of_row row (drop i items)) ≡ new ++ map f (of_row row (drop (i + 1) items))
said_next {Y = Y} f row done new items i item d within is e =
    ap (λ (left : List ItemText). done ++ map f (of_row row left)) (first_left items i item d within is) ∙ by (own row item) e
  where
    after : List ItemText
    after = of_row row (drop (i + 1) items)

    by : (b : Bool) → new ≡ done ++ map f (cond b (item ∷ []) []) → done ++ map f (cond b (item ∷ after) after) ≡ new ++ map f after
    by true e = sym (append_assoc done (f item ∷ []) (map f after)) ∙ ap (λ (said : List Y). said ++ map f after) (sym e)
    by false e = ap (λ (said : List Y). said ++ map f after) (sym (append-nil done) ∙ sym e)

-- the lines of a block in the order of its rows go on with those of the first row that is left
pub whole_next : (head : Head) (takes : Bool) (items done new : List ItemText) (rows : List Row) (i n : ℕ) (row d : Row) → i < length rows →
    row ≡ get_or rows i d → new ≡ done ++ filled head takes (record { at = n; row = row; items = of_row n items }) →
    done ++ whole head takes (slots_from n (drop i rows) items) ≡ new ++ whole head takes (slots_from (n + 1) (drop (i + 1) rows) items)
whole_next head takes items done new rows i n row d within is e =
    ap (λ (left : List Row). done ++ whole head takes (slots_from n left items)) (first_left rows i row d within is)
    ∙ sym (append_assoc done (filled head takes (record { at = n; row = row; items = of_row n items })) (whole head takes (slots_from (n + 1) (drop (i + 1) rows) items)))
    ∙ ap (λ (all : List ItemText). all ++ whole head takes (slots_from (n + 1) (drop (i + 1) rows) items)) (sym e)
