-- A whole block whose lines keep the rules is a subdevice.
use Rattle.std.proofs.Common.{◌≡◌, ℕ, ◌-◌, ◌*◌, ◌^◌, ◌%◌, ◌<◌, ◌≤◌, Bool, true, false, not, ◌&&◌, ◌||◌, List, [], ◌∷◌, length, map, refl, ◌∙◌, codes, min, nat_le, ◌==◌, arith}
use Rattle.std.specs.List.{list_all}
use Rattle.std.proofs.lemmas.List.{length-map}
use Rattle.std.proofs.lemmas.Bool.Decides.{nat_tests}
use Rattle.std.proofs.lemmas.Bool.{eq-eqb, eqb-true, le-leb, leb-true}
use Rattle.std.proofs.lemmas.List.Folds.{list_all-map}
use Rattle.cm_base.proofs.Bools.{and_true, both}
use Rattle.cm_base.specs.Source.{allows, ext, timer}
use Rattle.cm_board.proofs.ChannelNumbers.{greatest}
use Rattle.cm_board.specs.Board.{AreOnTick, AreTimers, AreTimes, FitsTimed, HasLine, HoldsEntries, HoldsList, IsFrom1To, IsSoundSub, SubText, down, fits_kind, fits_lines, has_channels, has_text, is_bits_ok, is_fifo, is_munge, is_pair, is_wide, most_in, up}
use Rattle.cm_board.specs.BoardTable.{board_forms, board_table}
use Rattle.cm_board.specs.Items.{ItemText}
use Rattle.cm_board.specs.Kept.{IsWhole}
use Rattle.cm_board.specs.Said.{counters_in, fifo_said, first_or, forbid_said, munge_said, number_at, number_of, range_said, sub_of, timers_said}
use Rattle.cm_board.specs.Slots.{of_row}
use Rattle.cm_board.specs.Table.{Number, form_at}
use Rattle.cm_board.specs.Times.{TimersText, are_divisors, are_rising}
use Rattle.cm_board.specs.declared.board.Kind.{Kind}
use Rattle.cm_board.specs.declared.board.Kind.TheVariants as kinds
use Rattle.cm_board.specs.declared.munge.Munge.TheVariants as munges
use Rattle.cm_board.specs.declared.lines.TheConstants as lines
use Rattle.cm_board.specs.declared.table.Head.{Head}
use Rattle.cm_board_text.specs.Block.{are_on_tick, are_times_ok, fits_timed, has_line, is_board_ok, is_entries_ok, is_lines_ok, is_list_ok}
use Rattle.cm_board_text.proofs.SoundBlock.{bare, commands_fit, fifo_fits, rows_of, some_ranges}
use Rattle.cm_board_text.proofs.MostIn.{is_between, most_wide}
use Rattle.cm_board_text.proofs.OfRow.{few_at}
use Rattle.cm_board_text.proofs.Shapes.{word_at}
use Rattle.cm_board_text.proofs.SoundChan.{all_ranges, all_so, code_of_bits, first_passes, second_true, sets_rise, sets_sound, units}
use Rattle.cm_board_text.proofs.SoundRows.{AreGood, are_counters, are_times, clock_kept, fifo_kept, forbid_kept, is_only, is_range, limits, munge_kept, number_fits, or_right, range_kept, times_fit}

-- what holds of what a row may say and of its default
first_keeps : {X Y : Type 0} (q : Y → Bool) (f : X → Y) (d : Y) (xs : List X) → q d ≡ true → list_all (λ x. q (f x)) xs ≡ true →
    q (first_or d (map f xs)) ≡ true
first_keeps q f d [] h k = h
first_keeps q f d (x ∷ xs) h k = (both (q (f x)) (list_all (λ x. q (f x)) xs) k).0

-- the same of two numbers of a row
two_keep : {X : Type 0} (q : ℕ → ℕ → Bool) (f g : X → ℕ) (d e : ℕ) (xs : List X) → q d e ≡ true → list_all (λ x. q (f x) (g x)) xs ≡ true →
    q (first_or d (map f xs)) (first_or e (map g xs)) ≡ true
two_keep q f g d e [] h k = h
two_keep q f g d e (x ∷ xs) h k = (both (q (f x) (g x)) (list_all (λ x. q (f x) (g x)) xs) k).0

-- the number of a row of one form, or its default, is within the limits of that form
number_keeps : (head : Head) (items : List ItemText) → AreGood head items → (place at least most high default : ℕ) → place < lines.ROW_COUNT →
    is_only place at 0 board_forms ≡ true → word_at 0 (form_at at board_forms).words ≡ Number (limits least most high) → nat_le most high ≡ true →
    is_between least high default ≡ true → is_between least high (number_of place 0 default items) ≡ true
number_keeps head items h place at least most high default below only word more fits =
    first_keeps (is_between least high) (λ (item : ItemText). number_at 0 item.values) default (of_row place items) fits
    (number_fits head place at least most high items h below only word more)

-- the two times of a row, or their defaults, are in order
times_keep : (place : ℕ) (items : List ItemText) → list_all (λ item. are_times (number_at 0 item.values) (number_at 1 item.values)) (of_row place items) ≡ true →
    are_times (number_of place 0 1 items) (number_of place 1 1 items) ≡ true
times_keep place items h = two_keep are_times (λ (item : ItemText). number_at 0 item.values) (λ (item : ItemText). number_at 1 item.values) 1 1 (of_row place items) refl h

within : (least most n : ℕ) → is_between least most n ≡ true → (least ≤ n) × (n ≤ most)
within least most n h = let b = both (nat_le least n) (nat_le n most) h in (leb-true least n b.0, leb-true n most b.1)

from_1 : (most n : ℕ) → is_between 1 most n ≡ true → IsFrom1To most n
from_1 most n h = let w = within 1 most n h in record { low = w.0; high = w.1 }

few : (version : ℕ) (kind : Kind) (n : ℕ) → has_channels version kind n ≡ true → n ≤ 256
few version kinds.Unused n h = grind (arith, nat_tests)
few version other n h =
    most_wide version n 64 256 (omega arith) (leb-true n (most_in version 64 256) (both (nat_le 1 n) (nat_le n (most_in version 64 256)) h).1)

times : (s : SubText) (least most : ℕ) → are_times least most ≡ true → nat_le (up s.timers least) most ≡ true →
    (s.version ≤ 2 → AreOnTick s.timers.tick least most) → AreTimes s least most
times s least most h possible ticks =
    let b = both _ (nat_le least most) h in
    let t = both (is_between 1 4294967295 least) (is_between 1 4294967295 most) b.0 in
    let high = (within 1 4294967295 most t.1).1 in
    record {
      some = (within 1 4294967295 least t.0).0;
      order = leb-true least most b.1;
      high = omega (arith, high);
      possible = leb-true (up s.timers least) most possible;
      ticks = ticks;
    }

-- both times of a scan and of a conversion, but not in the wider texts
on_tick : (s : SubText) → (is_wide s.version || are_on_tick s) ≡ true → s.version ≤ 2 →
    AreOnTick s.timers.tick s.scan_min s.scan_max × AreOnTick s.timers.tick s.conv_min s.conv_max
on_tick s h old =
    let t1 = both _ (s.conv_max % s.timers.tick == 0) (second_true (is_wide s.version) (are_on_tick s) (not_wide s.version old) h) in
    let t2 = both _ (s.conv_min % s.timers.tick == 0) t1.0 in
    let t3 = both (s.scan_min % s.timers.tick == 0) (s.scan_max % s.timers.tick == 0) t2.0 in (
      record { least_ticks = eqb-true (s.scan_min % s.timers.tick) 0 t3.0; most_ticks = eqb-true (s.scan_max % s.timers.tick) 0 t3.1 },
      record { least_ticks = eqb-true (s.conv_min % s.timers.tick) 0 t2.1; most_ticks = eqb-true (s.conv_max % s.timers.tick) 0 t1.1 },
    )
  where
    not_wide : (version : ℕ) → version ≤ 2 → is_wide version ≡ false
    not_wide version h = grind (arith, nat_tests)

line_for : (lines mask : ℕ) → has_line lines mask ≡ true → HasLine lines mask
line_for lines mask h = λ allowed. leb-true 1 lines (or_right (allows mask ext) (nat_le 1 lines) h allowed)

-- what the longest scan holds
timed_for : (s : SubText) (time : ℕ) → fits_timed s time ≡ true → FitsTimed s time
timed_for s time h =
    λ timed. leb-true time (down s.timers s.scan_max) (or_right (allows s.masks.scan_begin timer) (nat_le time (down s.timers s.scan_max)) h timed)

holds_list : (s : SubText) → is_list_ok s ≡ true → HoldsList s
holds_list s h =
    let time : ℕ = up s.timers s.conv_min * s.list_max in
    let b = both (nat_le (s.conv_min * s.list_max) s.scan_max) (not (allows s.masks.convert timer) || fits_timed s time) h in
    record {
      any = leb-true (s.conv_min * s.list_max) s.scan_max b.0;
      timed = λ timed. timed_for s time (or_right (allows s.masks.convert timer) (fits_timed s time) b.1 timed);
    }

holds_entries : (s : SubText) → s.least_scan.per_entry < 2 ^ 32 → is_entries_ok s ≡ true → HoldsEntries s
holds_entries s small h =
    let time : ℕ = s.least_scan.per_entry * s.list_max in
    let b = both (nat_le time s.scan_max) (fits_timed s time) h in
    record { small = small; any = leb-true time s.scan_max b.0; timed = timed_for s time b.1 }

-- the timers that a block describes
pub timers_sound : (head : Head) (items : List ItemText) → AreGood head items → AreTimers (timers_said items)
timers_sound head items h =
    let t : TimersText = timers_said items in
    let tick =
    within 1 1000000000 t.tick (number_keeps head items h lines.TICK lines.TICK_FORM 1 1000000000 1000000000 1 (omega arith) refl refl refl refl) in
    let clock = first_keeps are_counters (λ (item : ItemText). counters_in item.values) [] (of_row lines.CLOCK items) refl (clock_kept head items h) in
    let c = both (list_all are_divisors t.clock && list_all are_rising t.clock) (nat_le (length t.clock) 2) clock in
    let d = both (list_all are_divisors t.clock) (list_all are_rising t.clock) c.0 in
    record { some = tick.0; short = tick.1; few = leb-true (length t.clock) 2 c.1; said = d.0; rising = d.1 }

-- what the lines of a block say fits
kind_fits : (head : Head) (items : List ItemText) → IsWhole board_table head items → nat_le 1 head.version ≡ true →
    has_channels head.version head.kind head.channels ≡ true → fits_kind (sub_of head items) ≡ true
kind_fits head items w v channels =
    and_true _ _ (and_true _ _ (and_true _ _ channels (some_ranges head items w v)) (fifo_fits head items w.good)) (bare head head.kind items refl w.good)

ranges_fit : (head : Head) (items : List ItemText) → AreGood head items → list_all is_range (sub_of head items).ranges ≡ true
ranges_fit head items h = list_all-map is_range (range_said 0) (of_row lines.RANGE items) ∙ range_kept head items h

bits_within : (head : Head) (items : List ItemText) → AreGood head items → is_between 1 24 (number_of lines.BITS 0 1 items) ≡ true
bits_within head items h = number_keeps head items h lines.BITS lines.BITS_FORM 1 24 24 1 (omega arith) refl refl refl refl

lines_fit : (head : Head) (items : List ItemText) → AreGood head items → fits_lines (sub_of head items) ≡ true
lines_fit head items h =
    let munge : is_munge (sub_of head items).munge ≡ true =
    first_keeps is_munge (munge_said lines.MUNGE_NONE 0) munges.Plain (of_row lines.MUNGE items) refl (munge_kept lines.MUNGE_NONE 0 (of_row lines.MUNGE items)) in
    let pairs : list_all is_pair (sub_of head items).forbidden ≡ true =
    list_all-map is_pair forbid_said (of_row lines.FORBID items) ∙ forbid_kept head items h in
    and_true _ _ (and_true _ _ (and_true _ _ (and_true _ _ (code_of_bits (number_of lines.BITS 0 1 items) (bits_within head items h)) munge)
    (units (sub_of head items).ranges (ranges_fit head items h))) pairs) (first_passes is_fifo fifo_said (of_row lines.FIFO items) (fifo_kept head items h))

-- the greatest code is one of 1 to 24 bits
largest_code : (bits : ℕ) → is_between 1 24 bits ≡ true → IsFrom1To (2 ^ 24 - 1) (2 ^ min 24 bits - 1)
largest_code bits h = let w = within 1 24 bits h in greatest (min 24 bits) (omega (arith, w.0)) (omega arith)

-- the time for each entry, where a line says it, is a number of 32 bits
entry_small : (head : Head) (items : List ItemText) → AreGood head items → (sub_of head items).least_scan.per_entry < 2 ^ 32
entry_small head items h =
    let said : List ItemText = of_row lines.PER_ENTRY items in
    let each = all_so (λ (item : ItemText). is_between 1 4294967295 (number_at 0 item.values)) (λ item. nat_le (number_at 0 item.values) 4294967295)
    (λ item k. (both (nat_le 1 (number_at 0 item.values)) (nat_le (number_at 0 item.values) 4294967295) k).1) said
    (number_fits head lines.PER_ENTRY lines.PER_ENTRY_FORM 1 4294967295 4294967295 items h (omega arith) refl refl refl) in
    let high = leb-true (number_of lines.PER_ENTRY 0 0 items) 4294967295
    (first_keeps (λ n. nat_le n 4294967295) (λ (item : ItemText). number_at 0 item.values) 0 said refl each) in
    omega (arith, high)

-- what a whole block says keeps the rules of a subdevice
pub sound : (head : Head) (items : List ItemText) → IsWhole board_table head items → 1 ≤ head.version → has_channels head.version head.kind head.channels ≡ true →
    is_board_ok (sub_of head items) ≡ true → IsSoundSub (sub_of head items)
unfolding has_text
sound head items w version channels ok =
    let s : SubText = sub_of head items in
    let v : nat_le 1 head.version ≡ true = le-leb 1 head.version version in
    let good : AreGood head items = w.good in
    let r0 = both _ (is_entries_ok s) ok in
    let r1 = both _ (is_lines_ok s) r0.0 in
    let r2 = both _ (is_list_ok s) r1.0 in
    let r3 = both (is_bits_ok s) (are_times_ok s) r2.0 in
    let t1 = both _ (nat_le (up s.timers s.conv_min) s.conv_max) r3.1 in
    let t2 = both (is_wide s.version || are_on_tick s) (nat_le (up s.timers s.scan_min) s.scan_max) t1.0 in
    let few_ranges = most_wide head.version (length (of_row lines.RANGE items)) 16 32 (omega arith) (few_at head.version 0 lines.RANGE (rows_of head) items w.few (omega arith)) in
    let few_pairs = most_wide head.version (length (of_row lines.FORBID items)) 16 16 (omega arith) (few_at head.version 0 lines.FORBID (rows_of head) items w.few (omega arith)) in
    let e1 = both _ (has_line s.lines s.masks.stop) r1.1 in
    let e2 = both _ (has_line s.lines s.masks.scan_end) e1.0 in
    let e3 = both _ (has_line s.lines s.masks.convert) e2.0 in
    let e4 = both (has_line s.lines s.masks.start) (has_line s.lines s.masks.scan_begin) e3.0 in
    record {
      text = and_true _ _ (and_true _ _ (kind_fits head items w v channels) (commands_fit head items w v)) (lines_fit head items good);
      bits = r3.0;
      largest = largest_code (number_of lines.BITS 0 1 items) (bits_within head items good);
      few_channels = few head.version head.kind head.channels channels;
      few_ranges = omega (arith, length-map (of_row lines.RANGE items) (range_said 0), few_ranges);
      ranges = all_ranges s.ranges (ranges_fit head items good);
      timers = timers_sound head items good;
      scan = times s s.scan_min s.scan_max
          (times_keep lines.SCAN items (times_fit head lines.SCAN lines.SCAN_FORM (codes "scan") items good (omega arith) refl refl)) t2.1
          (λ old. (on_tick s t2.0 old).0);
      convert = times s s.conv_min s.conv_max
          (times_keep lines.CONVERT items (times_fit head lines.CONVERT lines.CONVERT_FORM (codes "convert") items good (omega arith) refl refl)) t1.1
          (λ old. (on_tick s t2.0 old).1);
      list = from_1 1024 s.list_max (number_keeps head items good lines.LIST lines.LIST_FORM 1 256 1024 1 (omega arith) refl refl refl refl);
      list_fits = holds_list s r2.1;
      entries_fit = holds_entries s (entry_small head items good) r0.1;
      scans = from_1 4294967295 s.scans_max (number_keeps head items good lines.SCANS lines.SCANS_FORM 1 4000000000 4294967295 1 (omega arith) refl refl refl refl);
      few_lines = (within 0 64 s.lines (number_keeps head items good lines.LINES lines.LINES_FORM 0 16 64 0 (omega arith) refl refl refl refl)).1;
      start_line = line_for s.lines s.masks.start e4.0;
      scan_begin_line = line_for s.lines s.masks.scan_begin e4.1;
      convert_line = line_for s.lines s.masks.convert e3.1;
      scan_end_line = line_for s.lines s.masks.scan_end e2.1;
      stop_line = line_for s.lines s.masks.stop e1.1;
      buffer = from_1 1048576 s.buffer (number_keeps head items good lines.BUFFER lines.BUFFER_FORM 1 65536 1048576 1 (omega arith) refl refl refl refl);
      few_pairs = omega (arith, length-map (of_row lines.FORBID items) forbid_said, few_pairs);
      chans = sets_sound head items good w.few;
      rise = sets_rise head.channels items;
    }

-- what holds where something else does
where_so : (a b : Bool) → (a ≡ true → b ≡ true) → (not a || b) ≡ true
where_so true b h = h refl
where_so false b h = refl

line_kept : (lines mask : ℕ) → HasLine lines mask → has_line lines mask ≡ true
line_kept lines mask h = where_so (allows mask ext) (nat_le 1 lines) (λ allowed. le-leb 1 lines (h allowed))

-- its times are on the tick but in the wider texts, and between them is one that the board can make
times_back : (s : SubText) → IsSoundSub s → are_times_ok s ≡ true
times_back s h =
    and_true _ _ (and_true _ _ (by (is_wide s.version) refl) (le-leb (up s.timers s.scan_min) s.scan_max h.scan.possible))
    (le-leb (up s.timers s.conv_min) s.conv_max h.convert.possible)
  where
    old : (version : ℕ) → is_wide version ≡ false → version ≤ 2
    old version e = grind (arith, nat_tests)

    by : (wide : Bool) → is_wide s.version ≡ wide → (wide || are_on_tick s) ≡ true
    by true e = refl
    by false e =
        let scan = h.scan.ticks (old s.version e) in
        let convert = h.convert.ticks (old s.version e) in
        and_true _ _ (and_true _ _ (and_true _ _ (eq-eqb (s.scan_min % s.timers.tick) 0 scan.least_ticks) (eq-eqb (s.scan_max % s.timers.tick) 0 scan.most_ticks))
        (eq-eqb (s.conv_min % s.timers.tick) 0 convert.least_ticks)) (eq-eqb (s.conv_max % s.timers.tick) 0 convert.most_ticks)

-- its longest scan holds the longest list
timed_back : (s : SubText) (time : ℕ) → FitsTimed s time → fits_timed s time ≡ true
timed_back s time h =
    where_so (allows s.masks.scan_begin timer) (nat_le time (down s.timers s.scan_max)) (λ timed. le-leb time (down s.timers s.scan_max) (h timed))

list_back : (s : SubText) → HoldsList s → is_list_ok s ≡ true
list_back s h =
    let time : ℕ = up s.timers s.conv_min * s.list_max in
    and_true _ _ (le-leb (s.conv_min * s.list_max) s.scan_max h.any)
    (where_so (allows s.masks.convert timer) (fits_timed s time) (λ timed. timed_back s time (h.timed timed)))

entries_back : (s : SubText) → HoldsEntries s → is_entries_ok s ≡ true
entries_back s h =
    let time : ℕ = s.least_scan.per_entry * s.list_max in
    and_true _ _ (le-leb time s.scan_max h.any) (timed_back s time h.timed)

-- each trigger that may be external has a line
lines_back : (s : SubText) → IsSoundSub s → is_lines_ok s ≡ true
lines_back s h =
    and_true _ _ (and_true _ _ (and_true _ _ (and_true _ _ (line_kept s.lines s.masks.start h.start_line) (line_kept s.lines s.masks.scan_begin h.scan_begin_line))
    (line_kept s.lines s.masks.convert h.convert_line)) (line_kept s.lines s.masks.scan_end h.scan_end_line)) (line_kept s.lines s.masks.stop h.stop_line)

-- a sound subdevice keeps the rules over the lines of a block
pub rules_back : (sub : SubText) → IsSoundSub sub → is_board_ok sub ≡ true
rules_back s h =
    and_true _ _ (and_true _ _ (and_true _ _ (and_true _ _ h.bits (times_back s h)) (list_back s h.list_fits)) (lines_back s h)) (entries_back s h.entries_fit)
