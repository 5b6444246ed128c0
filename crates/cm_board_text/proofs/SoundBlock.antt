-- What a whole block has by its kind and by its commands.
use Rattle.std.proofs.Common.{◌≡◌, ℕ, zero, suc, ◌+◌, ◌<◌, Bool, true, false, cond, not, ◌&&◌, ◌||◌, List, [], ◌∷◌, map, length, refl, sym, ap, ◌∙◌, subst, nat_le, ◌==◌, arith}
use Rattle.std.specs.Option.{is_some}
use Rattle.std.specs.List.{list_all, list_any}
use Rattle.std.proofs.lemmas.Bool.{and_left, le-leb}
use Rattle.std.proofs.lemmas.Bool.Decides.{nat_tests}
use Rattle.cm_base.proofs.Bools.{and_true, both, neither, not_false, not_true}
use Rattle.cm_board.specs.Board.{Masks, are_empty, are_full, fits_commands, is_bare, is_idle, is_unused, may_command, may_fifo, takes_commands}
use Rattle.cm_board.specs.BoardTable.{board_forms, board_rows, board_table, wide}
use Rattle.cm_board.specs.Items.{ItemText}
use Rattle.cm_board.specs.Kept.{IsWhole, is_good, slots}
use Rattle.cm_board.specs.Rules.{admits}
use Rattle.cm_board.specs.Said.{fifo_said, first_of, first_or, number_at, range_said, sub_of}
use Rattle.cm_board.specs.Slots.{Slot, is_empty, is_used, lacks_line, of_row, slots_from, takes}
use Rattle.cm_board.specs.Table.{form_at, is_command, laid, may_stand, row_at}
use Rattle.cm_board.specs.declared.board.Kind.{Kind}
use Rattle.cm_board.specs.declared.board.Kind.TheVariants as kinds
use Rattle.cm_board.specs.declared.lines.TheConstants as lines
use Rattle.cm_board.specs.declared.table.Head.{Head}
use Rattle.cm_board.specs.declared.table.Place.{Place}
use Rattle.cm_board.specs.declared.table.Place.TheVariants as places
use Rattle.cm_board.specs.declared.table.Row.{Row}
use Rattle.cm_board_text.proofs.Shapes.{good_line, own_lands, row_stands}
use Rattle.cm_board_text.proofs.SoundChan.{no_sets}
use Rattle.cm_board_text.proofs.SoundRows.{AreGood, second, sources_kept, sources_of}

-- what no slot of a block is
none_at : (p : Slot → Bool) (n k : ℕ) (rows : List Row) (items : List ItemText) → list_any p (slots_from n rows items) ≡ false → k < length rows →
    p (record { at = n + k; row = row_at k rows; items = of_row (n + k) items }) ≡ false
none_at p n k [] items h below = absurd (omega arith)
none_at p n zero (row ∷ rows) items h below =
    ap (λ (m : ℕ). p (record { at = m; row = row; items = of_row m items })) (let same : n + 0 ≡ n = omega arith in same)
    ∙ (neither (p (record { at = n; row = row; items = of_row n items })) (list_any p (slots_from (n + 1) rows items)) h).0
none_at p n (suc k) (row ∷ rows) items h below =
    ap (λ (m : ℕ). p (record { at = m; row = row_at k rows; items = of_row m items })) (let same : n + suc k ≡ n + 1 + k = omega arith in same)
    ∙ none_at p (n + 1) k rows items
    (neither (p (record { at = n; row = row; items = of_row n items })) (list_any p (slots_from (n + 1) rows items)) h).1 (omega arith)

-- the rows that are laid out for a block
abbrev pub rows_of : Head → List Row
rows_of head = laid head.channels board_rows

abbrev pub takes_of : Head → List ItemText → Bool
takes_of head items = takes (slots board_table head items)

-- a block in use has a range
some_range : (unused some : Bool) (xs : List ItemText) → some ≡ true → (some && not unused && true && is_empty xs) ≡ false →
    (unused || nat_le 1 (length (map (range_said 0) xs))) ≡ true
some_range true some xs e h = refl
some_range false true [] e h = cc
some_range false false xs e h = cc
some_range false some (x ∷ xs) e h = le-leb 1 _ (omega arith)

pub some_ranges : (head : Head) (items : List ItemText) → IsWhole board_table head items → nat_le 1 head.version ≡ true →
    (is_unused head.kind || nat_le 1 (length (map (range_said 0) (of_row lines.RANGE items)))) ≡ true
some_ranges head items w v =
    some_range (is_unused head.kind) (nat_le 1 head.version) (of_row lines.RANGE items) v
    (none_at (lacks_line head (takes_of head items)) 0 lines.RANGE (rows_of head) items w.full (omega arith))

-- a FIFO stands at inputs alone
fifo_by : (inputs : Bool) (head : Head) (xs : List ItemText) → list_all (λ (item : ItemText). nat_le 2 head.version && inputs) xs ≡ true →
    (not (is_some (first_of (map fifo_said xs))) || inputs) ≡ true
fifo_by inputs head [] h = refl
fifo_by inputs head (x ∷ xs) h = second (nat_le 2 head.version) inputs (both (nat_le 2 head.version && inputs) _ h).0

pub fifo_fits : (head : Head) (items : List ItemText) → AreGood head items →
    (not (is_some (first_of (map fifo_said (of_row lines.FIFO items)))) || may_fifo head.kind) ≡ true
fifo_fits head items h =
    fifo_by (may_fifo head.kind) head (of_row lines.FIFO items) (row_stands head lines.FIFO lines.FIFO (own_lands lines.FIFO (omega arith)) items h)

-- an unused subdevice has no line
unused_admits : (p : Place) (kind : Kind) → kind ≡ kinds.Unused → admits p kind ≡ false
unused_admits places.Any kind e = ap (admits places.Any) e
unused_admits places.Commands kind e = ap (admits places.Commands) e
unused_admits places.Inputs kind e = ap (admits places.Inputs) e

no_stand : (head : Head) (row : Row) → head.kind ≡ kinds.Unused → may_stand head row ≡ true → ⊥
no_stand head row e h = let no = unused_admits row.place head.kind e in let yes = second (nat_le row.since head.version) (admits row.place head.kind) h in cc

pub none_unused : (head : Head) (items : List ItemText) → head.kind ≡ kinds.Unused → AreGood head items → items ≡ []
none_unused head [] e h = refl
none_unused head (item ∷ items) e h =
    let line = good_line head item (both (is_good board_table head item) (list_all (is_good board_table head) items) h).0 in
    absurd (no_stand head (row_at (form_at item.form board_forms).row board_rows) e line.stands)

bare_none : (head : Head) → is_bare (sub_of head []) ≡ true
bare_none head = rw (no_sets head.channels) refl

pub bare : (head : Head) (kind : Kind) (items : List ItemText) → head.kind ≡ kind → AreGood head items →
    (not (is_unused kind) || is_bare (sub_of head items)) ≡ true
bare head kinds.Unused items e h = subst (λ (xs : List ItemText). is_bare (sub_of head xs) ≡ true) (sym (none_unused head items e h)) (bare_none head)
bare head other items e h = refl

-- a row of commands has no line in a block that takes none
nil_of : (xs : List ItemText) → is_empty xs ≡ true → xs ≡ []
nil_of [] h = refl
nil_of (x ∷ xs) h = absurd (grind (arith, nat_tests))

all_false : (b : Bool) (xs : List ItemText) → b ≡ false → list_all (λ (x : ItemText). b) xs ≡ true → xs ≡ []
all_false b [] e h = refl
all_false b (x ∷ xs) e h = let yes = (both b (list_all (λ (x : ItemText). b) xs) h).0 in cc

-- whether the block takes commands where no line names its sources
taken : (some commands takes : Bool) (xs : List ItemText) → some ≡ true → commands ≡ true → xs ≡ [] →
    (some && commands && takes && is_empty xs) ≡ false → takes ≡ false
taken some commands false xs e f n h = refl
taken some commands true xs e f n h = absurd (taken_not some commands xs e f n h)
  where
    taken_not : (some commands : Bool) (xs : List ItemText) → some ≡ true → commands ≡ true → xs ≡ [] → (some && commands && true && is_empty xs) ≡ false → ⊥
    taken_not true true [] e f n h = cc
    taken_not true true (x ∷ xs) e f n h = cc
    taken_not true false xs e f n h = cc
    taken_not false commands xs e f n h = cc

used_not : (a b : Bool) → a ≡ true → (a && b) ≡ false → b ≡ false
used_not true b e h = h
used_not false b e h = cc

none_if_not : (b : Bool) → (b ≡ true → ⊥) → b ≡ false
none_if_not true h = absurd (h refl)
none_if_not false h = refl

pub none_of : (head : Head) (items : List ItemText) (n : ℕ) → n < lines.ROW_COUNT → is_command (row_at n (rows_of head)) ≡ true →
    (may_stand head (row_at n board_rows) ≡ true → may_command head.kind ≡ true) →
    IsWhole board_table head items → nat_le 1 head.version ≡ true → of_row lines.SOURCES items ≡ [] → of_row n items ≡ []
none_of head items n below command only w v none = by (may_command head.kind) refl
  where
    by : (b : Bool) → may_command head.kind ≡ b → of_row n items ≡ []
    by true e =
        let takes_not : takes_of head items ≡ false =
        taken (nat_le 1 head.version) (may_command head.kind) (takes_of head items) (of_row lines.SOURCES items) v e none
        (none_at (lacks_line head (takes_of head items)) 0 lines.SOURCES (rows_of head) items w.full (omega arith)) in
        let unused = none_at is_used 0 n (rows_of head) items takes_not (omega arith) in
        let same : 0 + n ≡ n = omega arith in
        let here : (is_command (row_at n (rows_of head)) && not (is_empty (of_row n items))) ≡ false =
        ap (λ (m : ℕ). is_command (row_at n (rows_of head)) && not (is_empty (of_row m items))) (sym same) ∙ unused in
        nil_of (of_row n items) (not_false _ (used_not (is_command (row_at n (rows_of head))) _ command here))
    by false e =
        all_false (may_stand head (row_at n board_rows)) (of_row n items)
        (none_if_not (may_stand head (row_at n board_rows)) (λ stands. let yes = only stands in cc))
        (row_stands head n n (own_lands n below) items w.good)

-- what may stand only at kinds that take commands
inputs_command : (kind : Kind) → may_fifo kind ≡ true → may_command kind ≡ true
inputs_command kinds.Ai h = refl
inputs_command kinds.Ao h = refl
inputs_command kinds.Di h = refl
inputs_command kinds.Do h = refl
inputs_command kinds.Dio h = cc
inputs_command kinds.Unused h = cc

-- the numbers of a block without lines of commands
idle : (head : Head) (items : List ItemText) → IsWhole board_table head items → nat_le 1 head.version ≡ true → of_row lines.SOURCES items ≡ [] →
    is_idle (sub_of head items) ≡ true
idle head items w v none =
    let at_commands : (since : ℕ) → (nat_le since head.version && may_command head.kind) ≡ true → may_command head.kind ≡ true =
    λ since h. second (nat_le since head.version) (may_command head.kind) h in
    let at_wide : (n : ℕ) → n < lines.ROW_COUNT → is_command (row_at n (rows_of head)) ≡ true → row_at n board_rows ≡ wide → of_row n items ≡ [] =
    λ n below command is. none_of head items n below command (λ h. at_commands 3 (sym (ap (may_stand head) is) ∙ h)) w v none in
    let at_inputs : (nat_le 2 head.version && may_fifo head.kind) ≡ true → may_command head.kind ≡ true =
    λ h. inputs_command head.kind (second (nat_le 2 head.version) (may_fifo head.kind) h) in
    let tick : of_row lines.TICK items ≡ [] = none_of head items lines.TICK (omega arith) refl (at_commands 1) w v none in
    let scan : of_row lines.SCAN items ≡ [] = none_of head items lines.SCAN (omega arith) refl (at_commands 1) w v none in
    let convert : of_row lines.CONVERT items ≡ [] = none_of head items lines.CONVERT (omega arith) refl (at_commands 1) w v none in
    let list : of_row lines.LIST items ≡ [] = none_of head items lines.LIST (omega arith) refl (at_commands 1) w v none in
    let scans : of_row lines.SCANS items ≡ [] = none_of head items lines.SCANS (omega arith) refl (at_commands 1) w v none in
    let external : of_row lines.LINES items ≡ [] = none_of head items lines.LINES (omega arith) refl (at_commands 1) w v none in
    let buffer : of_row lines.BUFFER items ≡ [] = none_of head items lines.BUFFER (omega arith) refl (at_commands 1) w v none in
    let same_range : of_row lines.SAME_RANGE items ≡ [] = none_of head items lines.SAME_RANGE (omega arith) refl (at_commands 1) w v none in
    let forbid : of_row lines.FORBID items ≡ [] = none_of head items lines.FORBID (omega arith) refl (at_commands 1) w v none in
    let invert : of_row lines.INVERT items ≡ [] = none_of head items lines.INVERT (omega arith) refl (at_commands 2) w v none in
    let fifo : of_row lines.FIFO items ≡ [] = none_of head items lines.FIFO (omega arith) refl at_inputs w v none in
    let clock : of_row lines.CLOCK items ≡ [] = at_wide lines.CLOCK (omega arith) refl refl in
    let rounds : of_row lines.ROUNDS items ≡ [] = at_wide lines.ROUNDS (omega arith) refl refl in
    let half_down : of_row lines.HALF_DOWN items ≡ [] = at_wide lines.HALF_DOWN (omega arith) refl refl in
    let per_entry : of_row lines.PER_ENTRY items ≡ [] = at_wide lines.PER_ENTRY (omega arith) refl refl in
    let holds : of_row lines.HOLDS items ≡ [] = at_wide lines.HOLDS (omega arith) refl refl in
    let order : of_row lines.ORDER items ≡ [] = at_wide lines.ORDER (omega arith) refl refl in
    let same_reference : of_row lines.SAME_REFERENCE items ≡ [] = at_wide lines.SAME_REFERENCE (omega arith) refl refl in
    let same_polarity : of_row lines.SAME_POLARITY items ≡ [] = at_wide lines.SAME_POLARITY (omega arith) refl refl in
    rw (none, tick, scan, convert, list, scans, external, buffer, same_range, forbid, invert, fifo, clock, rounds, half_down, per_entry, holds, order, same_reference, same_polarity) refl

-- the sources that lines name
abbrev masks_of_lines : List ItemText → Masks
masks_of_lines xs = record {
  start = first_or 0 (map (λ (item : ItemText). number_at 0 item.values) xs);
  scan_begin = first_or 0 (map (λ (item : ItemText). number_at 1 item.values) xs);
  convert = first_or 0 (map (λ (item : ItemText). number_at 2 item.values) xs);
  scan_end = first_or 0 (map (λ (item : ItemText). number_at 3 item.values) xs);
  stop = first_or 0 (map (λ (item : ItemText). number_at 4 item.values) xs);
}

-- a trigger that has sources is enough
some_source : (version : ℕ) (m : Masks) → are_full version m ≡ true → not (are_empty m) ≡ true
some_source version m h =
    let start : not (m.start == 0) ≡ true = (both _ _ (both _ _ (both _ _ (both _ _ (both _ _ h).0).0).0).0).0 in
    ap not (and_left _ _ (and_left _ _ (and_left _ _ (and_left _ (m.scan_begin == 0) (not_true (m.start == 0) start)))))

-- by the lines that name sources
commands_by : (head : Head) (items xs : List ItemText) → of_row lines.SOURCES items ≡ xs → IsWhole board_table head items →
    nat_le 1 head.version ≡ true → fits_commands (sub_of head items) ≡ true
commands_by head items [] e w v =
    let none : takes_commands (sub_of head items) ≡ false = ap (λ (xs : List ItemText). not (are_empty (masks_of_lines xs))) e in
    without (takes_commands (sub_of head items)) none (idle head items w v e)
  where
    without : (takes : Bool) → takes ≡ false → is_idle (sub_of head items) ≡ true →
        cond takes (are_full head.version (sub_of head items).masks && may_command head.kind) (is_idle (sub_of head items)) ≡ true
    without true f k = cc
    without false f k = k
commands_by head items (x ∷ xs) e w v =
    let masks : (sub_of head items).masks ≡ sources_of x.values = ap masks_of_lines e in
    let each : list_all (λ (item : ItemText). are_full head.version (sources_of item.values)) (x ∷ xs) ≡ true =
    ap (list_all (λ (item : ItemText). are_full head.version (sources_of item.values))) (sym e) ∙ sources_kept head items w.good in
    let full : are_full head.version (sub_of head items).masks ≡ true = ap (are_full head.version) masks ∙ (both (are_full head.version (sources_of x.values)) _ each).0 in
    let stand : list_all (λ (item : ItemText). nat_le 1 head.version && may_command head.kind) (x ∷ xs) ≡ true =
    ap (list_all (λ (item : ItemText). nat_le 1 head.version && may_command head.kind)) (sym e)
    ∙ row_stands head lines.SOURCES lines.SOURCES (own_lands lines.SOURCES (omega arith)) items w.good in
    let commands : may_command head.kind ≡ true =
    second (nat_le 1 head.version) (may_command head.kind) (both (nat_le 1 head.version && may_command head.kind) _ stand).0 in
    takes (takes_commands (sub_of head items)) (some_source head.version (sub_of head items).masks full) (and_true _ _ full commands)
  where
    takes : (some : Bool) → some ≡ true → (are_full head.version (sub_of head items).masks && may_command head.kind) ≡ true →
        cond some (are_full head.version (sub_of head items).masks && may_command head.kind) (is_idle (sub_of head items)) ≡ true
    takes true f k = k
    takes false f k = cc

pub commands_fit : (head : Head) (items : List ItemText) → IsWhole board_table head items → nat_le 1 head.version ≡ true →
    fits_commands (sub_of head items) ≡ true
commands_fit head items w v = commands_by head items (of_row lines.SOURCES items) refl w v
