-- The samples of an input's command are written as numbers of 32 bits.
use Rattle.std.proofs.Common.{◌≡◌, ℕ, zero, suc, ◌+◌, ◌*◌, ◌/◌, ◌%◌, ◌<◌, ◌≤◌, ◌^◌, ◌-◌, Bool, true, false, not, cond, ◌&&◌, List, [], ◌∷◌, length, take, drop, nat_le, ◌==◌, ℤ, Some, pos, negsuc, sym, ap, ◌∙◌, arith, mod-lt, mul-le-mul_right, subst}
use Rattle.std.specs.Prelude.{◌+ℤ◌, ◌<ℤ◌, bit_xor, int_lt, slice_index}
use Rattle.std.specs.List.{All, list_all}
use Rattle.std.specs.Option.{option_to_list}
use Rattle.std.proofs.Math.Nat.{div-le_of_le-mul}
use Rattle.std.proofs.lemmas.Bool.{cond-false, cond-true}
use Rattle.std.proofs.lemmas.Int.{ints}
use Rattle.std.proofs.lemmas.List.Elements.{All-get_or}
use Rattle.std.proofs.lemmas.List.Sums.{AllPass-from_list_all}
use Rattle.std.proofs.lemmas.Nat.{xor_lt}
use Rattle.cm_base.specs.Words.{is_int}
use Rattle.cm_base.proofs.Bools.{and_true, both, not_true}
use Rattle.cm_board.specs.Board.{ChanText, IsChannel, IsRange, IsSoundChan, IsSoundSub, SubText, fits_commands, fits_kind, fits_lines, fits_range, has_text, is_fifo, is_maxdata, is_munge, is_output, is_pair, maxdata_of, munge_of, range_of, ranges_by, ranges_of, set_for, some_or}
use Rattle.cm_board.specs.Munge.{munged, unmunged}
use Rattle.cm_board.specs.declared.board.Range.{Range}
use Rattle.cm_board.specs.declared.munge.Munge.{Munge}
use Rattle.cm_board.specs.declared.munge.Munge.TheVariants.{Plain, Offset, Swap16, Left}
use Rattle.cm_board.proofs.ChannelNumbers.{channel}
use Rattle.cm_cmd.specs.Entry.{chan, range}
use Rattle.cm_sample.specs.Rule.{map_from}
use Rattle.cm_sample.specs.Sample.{distance, micro_of}
use Rattle.cm_test.specs.Passed.{IsEntry}
use Rattle.cm_test.specs.Questions.{tested}
use Rattle.cm_test.proofs.Passed.{passed}
use Rattle.cm_expand.specs.Fit.{IsCodeAt}
use Rattle.cm_expand.specs.Items.{code_at, conv_at, input_at, raw_at}
use Rattle.cm_expand.specs.Plan.{PlanText}
use Rattle.cm_expand.specs.Rule.{entry_at, is_raw, munged_at}
use Rattle.cm_expand.specs.Taking.{raw_words}
use Rattle.cm_expand.proofs.Codes.{code_is}
use Rattle.cm_expand.proofs.Fits as entries
use Rattle.cm_text.specs.Format.{Format, format_of}
use Rattle.cm_replay.specs.Readback.{AreShown, IsShown, level_at}

-- the word that stands for a code has 32 bits
word_small : (kind : Munge) (most code : ℕ) → most ≤ 2 ^ 24 - 1 → code ≤ most → unmunged kind most code < 2 ^ 32
word_small Plain most code few within = omega arith
word_small Offset most code few within =
    xor_lt 32 (bit_xor code most) (most / 2) (xor_lt 32 code most (omega arith) (omega arith)) (omega arith)
word_small Swap16 most code few within = omega arith
word_small (Left s) most code few within = mod-lt (code * 2 ^ s) (omega arith)

-- the two tests of a number of 32 bits
int_tests : (z : ℤ) → is_int z ≡ true → (int_lt z (negsuc 2147483647) ≡ false) × (int_lt (pos 2147483647) z ≡ false)
int_tests z h =
    let tests = both (not (int_lt z (negsuc 2147483647))) (not (int_lt (pos 2147483647) z)) h in
    (not_true _ tests.0, not_true _ tests.1)

-- a number of 32 bits that is raised by at most its distance to another one has 32 bits
raised_fits : (low high : ℤ) (x : ℕ) → low <ℤ high → is_int low ≡ true → is_int high ≡ true → x ≤ distance low high →
    is_int (low +ℤ pos x) ≡ true
raised_fits low high x order l h within =
    let least = (int_tests low l).0 in
    let most = (int_tests high h).1 in
    let above : int_lt (low +ℤ pos x) (negsuc 2147483647) ≡ false = grind (arith, ints) in
    let below : int_lt (pos 2147483647) (low +ℤ pos x) ≡ false = grind (arith, ints) in
    and_true _ _ (ap not above) (ap not below)

-- a part of a width
part : (code most width : ℕ) → code ≤ most → code * width / most ≤ width
part code most width low = div-le_of_le-mul most (mul-le-mul_right width low)

-- the level of a code of a range whose ends have 32 bits
level_fits : (r : Range) (most code : ℕ) → IsRange r → fits_range r ≡ true → code ≤ most → is_int (micro_of r most code) ≡ true
level_fits r most code proper fits within =
    let width = distance r.min r.max in
    let ends = both (is_int r.min) (is_int r.max) (both (is_int r.min && is_int r.max) (nat_le r.unit 2) fits).0 in
    raised_fits r.min r.max (code * width / most) proper ends.0 ends.1 (part code most width within)

-- the ranges that a block says
said_fit : (sub : SubText) → IsSoundSub sub → list_all fits_range sub.ranges ≡ true
unfolding has_text
said_fit sub sound =
    let lines = (both (fits_kind sub && fits_commands sub) (fits_lines sub) sound.text).1 in
    let pairs = (both _ (list_all is_fifo (option_to_list sub.fifo)) lines).0 in
    let ranges = (both _ (list_all is_pair sub.forbidden) pairs).0 in
    (both (is_maxdata sub.maxdata && is_munge sub.munge) (list_all fits_range sub.ranges) ranges).1

-- and those of a channel
chosen_fit : (channels number : ℕ) (chans : List ChanText) (whole : List Range) →
    All (IsSoundChan channels) chans → list_all fits_range whole ≡ true →
    list_all fits_range (ranges_by (set_for chans number) whole) ≡ true
chosen_fit channels number [] whole sound fits = fits
chosen_fit channels number (c ∷ more) whole sound fits =
    by (c.chan == number) (chosen_fit channels number more whole (λ k d below. sound (suc k) d (omega arith)) fits)
  where
    own : (ranges : List Range) → list_all fits_range ranges ≡ true → list_all fits_range (some_or ranges whole) ≡ true
    own [] h = fits
    own (r ∷ ranges) h = h

    by : (here : Bool) → list_all fits_range (ranges_by (set_for more number) whole) ≡ true →
        list_all fits_range (ranges_by (cond here (Some c) (set_for more number)) whole) ≡ true
    by true later = own c.ranges (sound 0 c (omega arith)).units
    by false later = later

ranges_fit : (sub : SubText) (number : ℕ) → IsSoundSub sub → list_all fits_range (ranges_of sub number) ≡ true
unfolding ranges_of
ranges_fit sub number sound = chosen_fit sub.channels number sub.chans sub.ranges sound.chans (said_fit sub sound)

-- the command of a plan passes the test of its subdevice
abbrev pub IsAccepted : PlanText → Type 0
IsAccepted p = (tested p.sub p.cmd).0 ≡ 0

-- the list entry of each place
entry_of : (p : PlanText) (place : ℕ) → IsSoundSub p.sub → IsAccepted p → IsEntry p.sub (entry_at p.cmd.list place)
entry_of p place sound accepted =
    let passes = passed p.sub p.cmd sound accepted in
    let within : place % length p.cmd.list < length p.cmd.list = mod-lt place (omega (arith, passes.list.low)) in
    entries.entry_at p.sub p.cmd passes (place % length p.cmd.list) within

-- the range of a number that a channel doesn't have
abbrev no_range : Range
no_range = record { min = pos 0; max = pos 0; unit = 0 }

-- the sample of a place, whenever its conversion comes
shown_at : (p : PlanText) (place time : ℕ) → IsSoundSub p.sub → IsAccepted p → is_output p.sub.kind ≡ false →
    IsShown (format_of p) place (munged_at p.sub p.cmd place (raw_at p (place % length p.cmd.list) time))
shown_at p place time sound accepted input = (
  λ raw. subst (λ w. w < 2 ^ 32) (sym (as_it_is raw)) small,
  λ plain. subst (λ w. is_int (level_at (format_of p) place w) ≡ true) (sym (as_code plain)) level,
)
  where
    entry : ℕ
    entry = entry_at p.cmd.list place

    munge : Munge
    munge = munge_of p.sub (chan entry)

    most : ℕ
    most = maxdata_of p.sub (chan entry)

    ranges : List Range
    ranges = ranges_of p.sub (chan entry)

    its : IsEntry p.sub entry
    its = entry_of p place sound accepted

    of_channel : IsChannel most munge ranges
    of_channel = channel p.sub (chan entry) sound its.has_chan

    code : IsCodeAt p entry time
    code = code_is p entry time sound its.has_chan its.has_range

    word : ℕ
    word = raw_at p (place % length p.cmd.list) time

    word_is : word ≡ input_at p entry time
    word_is = cond-false (is_output p.sub.kind) 0 (input_at p entry time) input

    as_it_is : is_raw p.cmd.flags ≡ true → munged_at p.sub p.cmd place word ≡ input_at p entry time
    as_it_is raw = cond-true (is_raw p.cmd.flags) _ _ raw ∙ word_is

    as_code : is_raw p.cmd.flags ≡ false → munged_at p.sub p.cmd place word ≡ code_at p entry time
    as_code plain =
        cond-false (is_raw p.cmd.flags) _ _ plain ∙ cond-false (is_output p.sub.kind) _ _ input ∙ ap (munged munge most) word_is ∙ code.back

    small : input_at p entry time < 2 ^ 32
    small = word_small munge most (code_at p entry time) of_channel.largest.high code.within

    proper : IsRange (range_of p.sub (chan entry) (range entry))
    proper = All-get_or IsRange ranges (range entry) no_range its.has_range of_channel.proper

    ends : fits_range (range_of p.sub (chan entry) (range entry)) ≡ true
    ends = AllPass-from_list_all fits_range ranges (ranges_fit p.sub (chan entry) sound) (range entry) no_range its.has_range

    level : is_int (level_at (format_of p) place (code_at p entry time)) ≡ true
    level = level_fits (range_of p.sub (chan entry) (range entry)) most (code_at p entry time) proper ends code.within

-- all samples from a place on
pub shown_from : (p : PlanText) (place : ℕ) (times : List ℕ) → IsSoundSub p.sub → IsAccepted p → is_output p.sub.kind ≡ false →
    AreShown (format_of p) place (map_from (munged_at p.sub p.cmd) place (raw_words (map_from (conv_at p) place times)))
shown_from p place [] sound accepted input = tt
shown_from p place (time ∷ times) sound accepted input =
    (shown_at p place time sound accepted input, shown_from p (suc place) times sound accepted input)

-- those from a later place on
pub shown_drop : (f : Format) (place later n : ℕ) (words : List ℕ) → place + n ≡ later → AreShown f place words →
    AreShown f later (drop n words)
shown_drop f place later zero words is shown =
    let here : place ≡ later = omega (arith, is) in
    subst (λ k. AreShown f k words) here shown
shown_drop f place later (suc n) [] is shown = tt
shown_drop f place later (suc n) (word ∷ words) is shown =
    let there : suc place + n ≡ later = omega (arith, is) in
    shown_drop f (suc place) later n words there shown.1

-- and the first ones
pub shown_take : (f : Format) (place n : ℕ) (words : List ℕ) → AreShown f place words → AreShown f place (take n words)
shown_take f place zero words shown = tt
shown_take f place (suc n) [] shown = tt
shown_take f place (suc n) (word ∷ words) shown = (shown.0, shown_take f (suc place) n words shown.1)

-- each of them
pub shown_there : (f : Format) (place there i : ℕ) (words : List ℕ) → place + i ≡ there → i < length words → AreShown f place words →
    IsShown f there (slice_index words i)
shown_there f place there i [] is within shown = absurd (omega arith)
shown_there f place there zero (word ∷ words) is within shown =
    let here : place ≡ there = omega (arith, is) in
    subst (λ k. IsShown f k word) here shown.0
shown_there f place there (suc i) (word ∷ words) is within shown =
    let on : suc place + i ≡ there = omega (arith, is) in
    shown_there f (suc place) there i words on (omega arith) shown.1
