-- What lines say of single channels is sound.
use Rattle.std.proofs.Common.{◌≡◌, ℕ, zero, suc, ◌+◌, ◌-◌, ◌*◌, ◌^◌, ◌<◌, ◌≤◌, Bool, true, false, cond, ◌&&◌, ◌||◌, List, [], ◌∷◌, ◌++◌, map, filter, length, refl, sym, ap, ◌∙◌, subst, min, nat_le, ◌==◌, arith, inl, inr, ◌⊎◌, get_or, ℤ, flat_map}
use Rattle.std.proofs.lemmas.Int.{by_lt_z, ints}
use Rattle.std.specs.Prelude.{int_lt, ◌<ℤ◌, option_to_list}
use Rattle.std.specs.List.{All, list_all, range_with_len}
use Rattle.std.proofs.lemmas.Bool.Decides.{nat_tests}
use Rattle.std.proofs.lemmas.List.Folds.{list_all-append, list_all-map}
use Rattle.std.proofs.lemmas.List.Sums.{AllPass-from_list_all}
use Rattle.std.proofs.lemmas.List.{length-map}
use Rattle.std.proofs.lemmas.Bool.{cases_lt, le-leb, leb-true}
use Rattle.cm_base.proofs.Bools.{and_true, both}
use Rattle.cm_board.specs.Board.{ChanText, IsRange, IsSoundChan, chans_rise, fits_range, is_maxdata, is_munge, says_any}
use Rattle.cm_board.specs.BoardTable.{board_rows, board_table}
use Rattle.cm_board.specs.Items.{ItemText}
use Rattle.cm_board.specs.Kept.{is_few, slots}
use Rattle.cm_board.specs.Said.{channel_place, first_of, greatest, munge_said, number_at, range_said, set_said, sets_said}
use Rattle.cm_board.specs.Slots.{Slot, of_row, slots_from}
use Rattle.cm_board.specs.Table.{channel_row, own_row}
use Rattle.cm_board.specs.declared.board.Range.{Range}
use Rattle.cm_board.specs.declared.lines.TheConstants as lines
use Rattle.cm_board.specs.declared.table.Head.{Head}
use Rattle.cm_board.specs.declared.table.Row.{Row}
use Rattle.cm_board_text.proofs.MostIn.{is_between, most_wide}
use Rattle.cm_board_text.proofs.OfRow.{few_at}
use Rattle.cm_board_text.proofs.SoundRows.{AreGood, chan_bits_kept, chan_range_kept, is_range, munge_kept}

pub second_true : (a b : Bool) → a ≡ false → (a || b) ≡ true → b ≡ true
second_true true b e h = cc
second_true false b e h = h

-- the greatest codes of 1 to 24 bits
codes_below : ℕ → Bool
codes_below zero = true
codes_below (suc k) = (k == 0 || is_maxdata (2 ^ k - 1)) && codes_below k

every_code : codes_below 25 ≡ true
unfolding codes_below
every_code = refl

code_at : (count k : ℕ) → k < count → 1 ≤ k → codes_below count ≡ true → is_maxdata (2 ^ k - 1) ≡ true
unfolding codes_below
code_at zero k h j e = absurd (omega arith)
code_at (suc count) k h j e = at (cases_lt k count) (both (count == 0 || is_maxdata (2 ^ count - 1)) (codes_below count) e) (code_at count k)
  where
    at : (k < count) ⊎ (count ≤ k) → ((count == 0 || is_maxdata (2 ^ count - 1)) ≡ true) × (codes_below count ≡ true) →
        (k < count → 1 ≤ k → codes_below count ≡ true → is_maxdata (2 ^ k - 1) ≡ true) → is_maxdata (2 ^ k - 1) ≡ true
    at (inl less) e later = later less j e.1
    at (inr more) e later = let same : count ≡ k = omega arith in
        subst (λ (n : ℕ). is_maxdata (2 ^ n - 1) ≡ true) same (second_true (count == 0) (is_maxdata (2 ^ count - 1)) (grind (arith, nat_tests)) e.0)

pub code_of_bits : (bits : ℕ) → is_between 1 24 bits ≡ true → is_maxdata (greatest bits) ≡ true
code_of_bits bits h =
    let b = both (nat_le 1 bits) (nat_le bits 24) h in
    let low = leb-true 1 bits b.0 in
    let high = leb-true bits 24 b.1 in
    code_at 25 (min 24 bits) (omega (arith, high)) (omega (arith, low, high)) every_code

-- a test that follows from another
pub all_so : {X : Type 0} (p q : X → Bool) → ((x : X) → p x ≡ true → q x ≡ true) → (xs : List X) → list_all p xs ≡ true → list_all q xs ≡ true
all_so p q so [] h = refl
all_so p q so (x ∷ xs) h = let b = both (p x) (list_all p xs) h in and_true _ _ (so x b.0) (all_so p q so xs b.1)

-- the first of some
pub first_passes : {X Y : Type 0} (q : Y → Bool) (f : X → Y) (xs : List X) → list_all (λ x. q (f x)) xs ≡ true →
    list_all q (option_to_list (first_of (map f xs))) ≡ true
first_passes q f [] h = refl
first_passes q f (x ∷ xs) h = and_true _ true (both (q (f x)) (list_all (λ x. q (f x)) xs) h).0 refl

-- ranges that lines say
pub units : (ranges : List Range) → list_all is_range ranges ≡ true → list_all fits_range ranges ≡ true
units ranges h = all_so is_range fits_range (λ r k. (both (fits_range r) (int_lt r.min r.max) k).0) ranges h

int_less : (a b : ℤ) → int_lt a b ≡ true → a <ℤ b
int_less a b h = by_lt_z a b (λ k. k) (λ k. absurd (omega (arith, ints, h)))

pub all_ranges : (ranges : List Range) → list_all is_range ranges ≡ true → All IsRange ranges
all_ranges ranges h = λ k d below. ordered (get_or ranges k d) (AllPass-from_list_all is_range ranges h k d below)
  where
    ordered : (r : Range) → is_range r ≡ true → IsRange r
    ordered r h = int_less r.min r.max (both (fits_range r) (int_lt r.min r.max) h).1

slots_append : (n : ℕ) (xs ys : List Row) (items : List ItemText) → slots_from n (xs ++ ys) items ≡ slots_from n xs items ++ slots_from (n + length xs) ys items
slots_append n [] ys items = ap (λ (m : ℕ). slots_from m ys items) (omega arith)
slots_append n (x ∷ xs) ys items =
    ap (λ (ss : List Slot). record { at = n; row = x; items = of_row n items } ∷ ss)
    (slots_append (n + 1) xs ys items ∙ ap (λ (m : ℕ). slots_from (n + 1) xs items ++ slots_from m ys items) (omega arith))

split_few : (version n : ℕ) (xs ys : List Row) (items : List ItemText) → list_all (is_few version) (slots_from n (xs ++ ys) items) ≡ true →
    (list_all (is_few version) (slots_from n xs items) ≡ true) × (list_all (is_few version) (slots_from (n + length xs) ys items) ≡ true)
split_few version n xs ys items h =
    both _ _
    (sym (list_all-append (is_few version) (slots_from n xs items) (slots_from (n + length xs) ys items))
    ∙ ap (list_all (is_few version)) (sym (slots_append n xs ys items)) ∙ h)

-- the rows of a channel
abbrev of_channel : List Row
of_channel = map channel_row board_rows

-- each channel has few ranges
few_from : (version m n a : ℕ) (items : List ItemText) →
    list_all (is_few version) (slots_from n (flat_map (λ (chan : ℕ). of_channel) (range_with_len a m)) items) ≡ true → (d : ℕ) → d < m →
    length (of_row (n + d * lines.ROW_COUNT + lines.CHAN_RANGE) items) ≤ 32
few_from version zero n a items h d below = absurd (omega arith)
few_from version (suc m) n a items h zero below =
    let b = split_few version n of_channel (flat_map (λ (chan : ℕ). of_channel) (range_with_len (a + 1) m)) items h in
    let few : length (of_row (n + lines.CHAN_RANGE) items) ≤ 32 =
    most_wide version (length (of_row (n + lines.CHAN_RANGE) items)) 16 32 (omega arith) (few_at version n lines.CHAN_RANGE of_channel items b.0 (omega arith)) in
    let same : length (of_row (n + 0 * lines.ROW_COUNT + lines.CHAN_RANGE) items) ≡ length (of_row (n + lines.CHAN_RANGE) items) = ap (λ (k : ℕ). length (of_row k items)) (omega arith) in
    omega (arith, few, same)
few_from version (suc m) n a items h (suc d) below =
    let b = split_few version n of_channel (flat_map (λ (chan : ℕ). of_channel) (range_with_len (a + 1) m)) items h in
    let few : length (of_row (n + lines.ROW_COUNT + d * lines.ROW_COUNT + lines.CHAN_RANGE) items) ≤ 32 = few_from version m (n + lines.ROW_COUNT) (a + 1) items b.1 d (omega arith) in
    let same : length (of_row (n + suc d * lines.ROW_COUNT + lines.CHAN_RANGE) items) ≡ length (of_row (n + lines.ROW_COUNT + d * lines.ROW_COUNT + lines.CHAN_RANGE) items) = ap (λ (k : ℕ). length (of_row k items)) (omega arith) in
    omega (arith, few, same)

few_chan : (head : Head) (items : List ItemText) → list_all (is_few head.version) (slots board_table head items) ≡ true → (chan : ℕ) → chan < head.channels →
    length (of_row (channel_place chan lines.CHAN_RANGE) items) ≤ 32
few_chan head items h chan below =
    let b = split_few head.version 0 (map own_row board_rows) (flat_map (λ (chan : ℕ). of_channel) (range_with_len 0 head.channels)) items h in
    let few : length (of_row (lines.ROW_COUNT + chan * lines.ROW_COUNT + lines.CHAN_RANGE) items) ≤ 32 = few_from head.version head.channels lines.ROW_COUNT 0 items b.1 chan below in
    let same : length (of_row (channel_place chan lines.CHAN_RANGE) items) ≡ length (of_row (lines.ROW_COUNT + chan * lines.ROW_COUNT + lines.CHAN_RANGE) items) =
    ap (λ (k : ℕ). length (of_row k items)) (omega arith) in
    omega (arith, few, same)

-- what is kept of a channel of which lines say something
set_sound : (head : Head) (items : List ItemText) (chan : ℕ) → AreGood head items → list_all (is_few head.version) (slots board_table head items) ≡ true →
    chan < head.channels → says_any (set_said items chan) ≡ true → IsSoundChan head.channels (set_said items chan)
set_sound head items chan h few below some =
    let bits : List ItemText = of_row (channel_place chan lines.CHAN_BITS) items in
    let munge : List ItemText = of_row (channel_place chan lines.CHAN_MUNGE) items in
    let of_it : List ItemText = of_row (channel_place chan lines.CHAN_RANGE) items in
    let ranges : list_all is_range (map (range_said 1) of_it) ≡ true = list_all-map is_range (range_said 1) of_it ∙ chan_range_kept head chan items h in
    record {
      within = below;
      some = some;
      maxdata = first_passes is_maxdata (λ (item : ItemText). greatest (number_at 1 item.values)) bits
          (all_so (λ (item : ItemText). is_between 1 24 (number_at 1 item.values)) (λ item. is_maxdata (greatest (number_at 1 item.values)))
          (λ item k. code_of_bits (number_at 1 item.values) k) bits (chan_bits_kept head chan items h));
      munge = first_passes is_munge (munge_said lines.CHAN_MUNGE_NONE 1) munge (munge_kept lines.CHAN_MUNGE_NONE 1 munge);
      units = units (map (range_said 1) of_it) ranges;
      ranges = all_ranges (map (range_said 1) of_it) ranges;
      few_ranges = omega (arith, length-map of_it (range_said 1), few_chan head items few chan below);
    }

all_cons : {X : Type 0} (P : X → Type 0) (x : X) (xs : List X) → P x → All P xs → All P (x ∷ xs)
all_cons P x xs h later = λ k. by k
  where
    by : (k : ℕ) (d : _) → k < length (x ∷ xs) → P (get_or (x ∷ xs) k d)
    by zero d below = h
    by (suc k) d below = later k d (omega arith)

sets_from : (channels : ℕ) (items : List ItemText) (n a : ℕ) →
    ((chan : ℕ) → chan < channels → says_any (set_said items chan) ≡ true → IsSoundChan channels (set_said items chan)) → a + n ≤ channels →
    All (IsSoundChan channels) (filter says_any (map (set_said items) (range_with_len a n)))
sets_from channels items zero a each within = λ k d below. absurd (omega arith)
sets_from channels items (suc n) a each within = by (says_any (set_said items a)) refl (sets_from channels items n (a + 1) each (omega arith))
  where
    rest : List ChanText
    rest = filter says_any (map (set_said items) (range_with_len (a + 1) n))

    by : (b : Bool) → says_any (set_said items a) ≡ b → All (IsSoundChan channels) rest → All (IsSoundChan channels) (cond b (set_said items a ∷ rest) rest)
    by true e later = all_cons (IsSoundChan channels) (set_said items a) rest (each a (omega arith) e) later
    by false e later = later

-- what is said of each of the channels
pub sets_sound : (head : Head) (items : List ItemText) → AreGood head items → list_all (is_few head.version) (slots board_table head items) ≡ true →
    All (IsSoundChan head.channels) (sets_said head.channels items)
sets_sound head items h few = sets_from head.channels items head.channels 0 (λ chan below some. set_sound head items chan h few below some) (omega arith)

rise_sooner : (a : ℕ) (sets : List ChanText) → chans_rise (a + 1) sets ≡ true → chans_rise a sets ≡ true
rise_sooner a [] h = refl
rise_sooner a (c ∷ more) h =
    let b = both (nat_le (a + 1) c.chan) (chans_rise (c.chan + 1) more) h in
    and_true _ _ (grind (arith, nat_tests, b.0)) b.1

rise_from : (items : List ItemText) (n a : ℕ) → chans_rise a (filter says_any (map (set_said items) (range_with_len a n))) ≡ true
rise_from items zero a = refl
rise_from items (suc n) a = by (says_any (set_said items a)) (rise_from items n (a + 1))
  where
    rest : List ChanText
    rest = filter says_any (map (set_said items) (range_with_len (a + 1) n))

    by : (b : Bool) → chans_rise (a + 1) rest ≡ true → chans_rise a (cond b (set_said items a ∷ rest) rest) ≡ true
    by true later = and_true _ _ (le-leb a a (omega arith)) later
    by false later = rise_sooner a rest later

-- it rises by channel
pub sets_rise : (channels : ℕ) (items : List ItemText) → chans_rise 0 (sets_said channels items) ≡ true
sets_rise channels items = rise_from items channels 0

-- no line says nothing of any channel
none_from : (n a : ℕ) → filter says_any (map (set_said []) (range_with_len a n)) ≡ []
none_from zero a = refl
none_from (suc n) a = none_from n (a + 1)

pub no_sets : (channels : ℕ) → sets_said channels [] ≡ []
no_sets channels = none_from channels 0
