-- A command that passes the whole test is one that the subdevice takes.
use Rattle.std.proofs.Common.{◌≡◌, ℕ, ◌*◌, ◌<◌, ◌≤◌, ◌^◌, max, Bool, true, false, ◌&&◌, ◌||◌, get_or, length, refl, sym, ap, ap₂, subst, ◌∙◌, arith, inl, inr, ◌⊎◌}
use Rattle.std.specs.Prelude.{◌==◌, not, nat_le, nat_lt, bit_and, if◌then◌else◌}
use Rattle.std.specs.List.{list_all, range_with_len}
use Rattle.std.proofs.lemmas.Bool.{cond-true, eqb-true, eq-eqb, leb-true, ltb-true}
use Rattle.std.proofs.lemmas.Bool.Decides.{nat_tests}
use Rattle.std.proofs.lemmas.List.Sums.{AllPass-from_list_all}
use Rattle.std.proofs.lemmas.Nat.{and_assoc, and_le_r}
use Rattle.cm_board.specs.Board.{SubText, TimersText, Masks, IsSoundSub, IsFrom1To, has_text, fits_kind, fits_commands, fits_lines, takes_commands, are_empty, are_full, is_among, is_idle, may_command, range_count}
use Rattle.cm_board.specs.BoardTable.{convert_sets, scan_begin_sets, scan_end_sets, start_sets, stop_sets}
use Rattle.cm_board.specs.Kept.{set_in}
use Rattle.cm_board.specs.declared.table.Sets.{Sets}
use Rattle.cm_base.specs.Source as source
use Rattle.cm_cmd.specs.Command.{CmdText}
use Rattle.cm_cmd.specs.Entry.{chan, range}
use Rattle.cm_cmd.specs.declared.command.Trig.{Trig}
use Rattle.cm_test.specs.declared.limits.ArgLimits.{ArgLimits}
use Rattle.cm_test.specs.Law.{AreInside}
use Rattle.cm_test.specs.Passed.{IsOneOf, IsEntry, PassedIsTaken}
use Rattle.cm_test.specs.Questions.{same_triggers, has_sources, is_narrow, is_compatible, is_within, is_rounded, is_one_bit, are_single, is_endless}
use Rattle.cm_test.specs.Steps.{narrowed, narrowed_to, repaired, rounded, timed, scan_length, scan_time, held_time, scan_begin_limits, convert_limits, stop_limits, limited}
use Rattle.cm_test.specs.ValidList.{is_valid_entry, is_valid_list, has_valid_length, keeps_rules}
use Rattle.cm_base.proofs.SourcesBack.{each_below}
use Rattle.cm_test.proofs.Adjusted.{first_no}
use Rattle.cm_test.proofs.Inside.{passed_inside}
use Rattle.cm_test.proofs.Kept.{raised_holds, raised_time}
use Rattle.cm_test.proofs.Moved.{whole}
use Rattle.cm_base.proofs.Bools.{and_true, both, not_true}
use Rattle.cm_test.proofs.Same.{are_same}

-- the five questions, each with yes
record AllYes (a b c d e : Bool) : Type 0 where
  pub first : a ≡ true
  pub second : b ≡ true
  pub third : c ≡ true
  pub fourth : d ≡ true
  pub fifth : e ≡ true

all_yes : {A : Type 0} (a b c d e : Bool) (x y z w : A) → (first_no a b c d e x y z w).0 ≡ 0 → AllYes a b c d e
all_yes false b c d e x y z w h = cc
all_yes true false c d e x y z w h = cc
all_yes true true false d e x y z w h = cc
all_yes true true true false e x y z w h = cc
all_yes true true true true false x y z w h = cc
all_yes true true true true true x y z w h = record { first = refl; second = refl; third = refl; fourth = refl; fifth = refl }

some_source : (src : ℕ) → not (src == 0) ≡ true → 1 ≤ src
some_source src h = grind (arith, nat_tests)

one_of : (mask : ℕ) (t : Trig) → narrowed_to mask t ≡ t → not (t.src == 0) ≡ true → is_one_bit t.src ≡ true → IsOneOf mask t.src
one_of mask t e some single = record {
  some = some_source t.src some;
  allowed = eq-eqb (bit_and t.src mask) t.src (ap (λ (u : Trig). u.src) e);
  single = single;
}

-- what is in a set is in a wider one
wider : (a b c : ℕ) → bit_and a b ≡ a → bit_and b c ≡ b → bit_and a c ≡ a
wider a b c e f = ap (λ s. bit_and s c) (sym e) ∙ and_assoc c a b ∙ ap (bit_and a) f ∙ e

-- no source, several, one that is not of the set, or one that passes
abbrev is_reported : ℕ → (ℕ → Bool) → ℕ → Bool
is_reported set p src = not (not (src == 0) && is_one_bit src && bit_and src set == src) || p src

not_first : (a b : Bool) → a ≡ true → (not a || b) ≡ true → b ≡ true
not_first true b p q = q
not_first false b p q = cc

-- a single source of a mask of these sources is one of them
reported : (set mask src : ℕ) (p : ℕ → Bool) → set < 512 → list_all (is_reported set p) (range_with_len 0 512) ≡ true → is_among set mask ≡ true → IsOneOf mask src → p src ≡ true
reported set mask src p small table among o =
    let kept : bit_and src mask ≡ src = eqb-true (bit_and src mask) src o.allowed in
    let inner : bit_and mask set ≡ mask = eqb-true (bit_and mask set) mask (both (not (mask == 0)) (bit_and mask set == mask) among).1 in
    let inside : bit_and src set ≡ src = wider src mask set kept inner in
    let few : src ≤ set = (let le = and_le_r src set in omega (arith, le, inside)) in
    let some : not (src == 0) ≡ true = (let s = o.some in grind (arith, nat_tests)) in
    not_first _ (p src) (and_true _ _ (and_true _ _ some o.single) (eq-eqb (bit_and src set) src inside)) (each_below (is_reported set p) 512 table src (omega arith))

abbrev any_of_three : ℕ → ℕ → ℕ → ℕ → Bool
any_of_three a b c src = src == a || src == b || src == c

abbrev any_of_four : ℕ → ℕ → ℕ → ℕ → ℕ → Bool
any_of_four a b c d src = src == a || any_of_three b c d src

abbrev any_of_two : ℕ → ℕ → ℕ → Bool
any_of_two a b src = src == a || src == b

abbrev is_that : ℕ → ℕ → Bool
is_that a src = src == a

starts : list_all (is_reported 194 (any_of_three 2 64 128)) (range_with_len 0 512) ≡ true
starts = refl

scan_begins : list_all (is_reported 84 (any_of_three 4 16 64)) (range_with_len 0 512) ≡ true
scan_begins = refl

converts : list_all (is_reported 86 (any_of_four 2 4 16 64)) (range_with_len 0 512) ≡ true
converts = refl

scan_ends : list_all (is_reported 32 (is_that 32)) (range_with_len 0 512) ≡ true
scan_ends = refl

stops : list_all (is_reported 97 (any_of_three 1 32 64)) (range_with_len 0 512) ≡ true
stops = refl

either : (a b : Bool) → (a || b) ≡ true → (a ≡ true) ⊎ (b ≡ true)
either true b h = inl refl
either false b h = inr h

two_ways : (a b src : ℕ) → any_of_two a b src ≡ true → (src ≡ a) ⊎ (src ≡ b)
two_ways a b src h = elim (either (src == a) (src == b) h) [
  | inl e ↦ inl (eqb-true src a e)
  | inr e ↦ inr (eqb-true src b e)
]

three_ways : (a b c src : ℕ) → any_of_three a b c src ≡ true → (src ≡ a) ⊎ ((src ≡ b) ⊎ (src ≡ c))
three_ways a b c src h = elim (either (src == a || src == b) (src == c) h) [
  | inl e ↦ elim (two_ways a b src e) [ inl f ↦ inl f | inr f ↦ inr (inl f) ]
  | inr e ↦ inr (inr (eqb-true src c e))
]

four_ways : (a b c d src : ℕ) → any_of_four a b c d src ≡ true → (src ≡ a) ⊎ ((src ≡ b) ⊎ ((src ≡ c) ⊎ (src ≡ d)))
four_ways a b c d src h = elim (either (src == a) (any_of_three b c d src) h) [
  | inl e ↦ inl (eqb-true src a e)
  | inr e ↦ inr (three_ways b c d src e)
]

-- the masks of a subdevice that takes commands
full_masks : (takes : Bool) (full idle : Bool) → takes ≡ true → (if takes then full else idle) ≡ true → full ≡ true
full_masks true full idle t h = h
full_masks false full idle t h = cc

-- a mask of sources of a set is one of a wider set
among_wider : (set wide mask : ℕ) → bit_and set wide ≡ set → is_among set mask ≡ true → is_among wide mask ≡ true
among_wider set wide mask e h =
    let p = both (not (mask == 0)) (bit_and mask set == mask) h in
    and_true _ _ p.0 (eq-eqb (bit_and mask wide) mask (wider mask set wide (eqb-true (bit_and mask set) mask p.1) e))

-- the set of each version is in the one of the wider texts
among_wide : (third second : Bool) (sets : Sets) (mask : ℕ) → bit_and sets.first sets.wide ≡ sets.first → bit_and sets.second sets.wide ≡ sets.second →
    is_among (if third then sets.wide else if second then sets.second else sets.first) mask ≡ true → is_among sets.wide mask ≡ true
among_wide true second sets mask e f h = h
among_wide false true sets mask e f h = among_wider sets.second sets.wide mask f h
among_wide false false sets mask e f h = among_wider sets.first sets.wide mask e h

-- each mask is one of the sources that its trigger may have in the wider texts
record AreFull (m : Masks) : Type 0 where
  pub start : is_among 194 m.start ≡ true
  pub scan_begin : is_among 84 m.scan_begin ≡ true
  pub convert : is_among 86 m.convert ≡ true
  pub scan_end : is_among 32 m.scan_end ≡ true
  pub stop : is_among 97 m.stop ≡ true

masks_full : (version : ℕ) (m : Masks) → are_full version m ≡ true → AreFull m
masks_full version m h =
    let third = nat_le 3 version in
    let second = nat_le 2 version in
    let e4 = both _ (is_among (set_in version stop_sets) m.stop) h in
    let e3 = both _ (is_among (set_in version scan_end_sets) m.scan_end) e4.0 in
    let e2 = both _ (is_among (set_in version convert_sets) m.convert) e3.0 in
    let e1 = both (is_among (set_in version start_sets) m.start) (is_among (set_in version scan_begin_sets) m.scan_begin) e2.0 in
    record {
      start = among_wide third second start_sets m.start refl refl e1.0;
      scan_begin = among_wide third second scan_begin_sets m.scan_begin refl refl e1.1;
      convert = among_wide third second convert_sets m.convert refl refl e2.1;
      scan_end = among_wide third second scan_end_sets m.scan_end refl refl e3.1;
      stop = among_wide third second stop_sets m.stop refl refl e4.1;
    }

commands_fit : (sub : SubText) → has_text sub ≡ true → fits_commands sub ≡ true
unfolding has_text
commands_fit sub h = (both (fits_kind sub) (fits_commands sub) (both (fits_kind sub && fits_commands sub) (fits_lines sub) h).0).1

sound_masks : (sub : SubText) → IsSoundSub sub → takes_commands sub ≡ true → AreFull sub.masks
sound_masks sub ok takes = masks_full sub.version sub.masks (both (are_full sub.version sub.masks) (may_command sub.kind) (full_masks (takes_commands sub) (are_full sub.version sub.masks && may_command sub.kind) (is_idle sub) takes (commands_fit sub ok.text))).0

-- a subdevice whose start may have a source takes commands
takes_some : (mask src : ℕ) → IsOneOf mask src → not (mask == 0) ≡ true
takes_some mask src o =
    let kept : bit_and src mask ≡ src = eqb-true (bit_and src mask) src o.allowed in
    let s = o.some in
    let le = and_le_r src mask in
    let more : 1 ≤ mask = omega (arith, le, kept) in
    grind (arith, nat_tests)

takes_by_start : (m : Masks) → not (m.start == 0) ≡ true → not (are_empty m) ≡ true
takes_by_start m some = ap (λ (b : Bool). not (b && m.scan_begin == 0 && m.convert == 0 && m.scan_end == 0 && m.stop == 0)) (not_true (m.start == 0) some)

-- what a time in its limits is at least
timed_low : (least a : ℕ) → 1 ≤ least → least ≤ a → 1 ≤ a
timed_low least a h k = omega arith

above_all : (a b held low part x : ℕ) → low ≤ part → low ≡ max (max a b) held → part ≡ x → (a ≤ x) × (b ≤ x)
above_all a b held low part x h e f = (omega arith, omega arith)

period_low : (sub : SubText) (cmd : CmdText) → AreInside sub cmd → cmd.scan_begin.src ≡ source.timer →
    (sub.scan_min ≤ cmd.scan_begin.arg) × (sub.least_scan.per_entry * scan_length sub cmd ≤ cmd.scan_begin.arg)
period_low sub cmd i is =
    above_all sub.scan_min (sub.least_scan.per_entry * scan_length sub cmd) (held_time sub cmd) (scan_begin_limits sub cmd).low (limited sub cmd.scan_begin) cmd.scan_begin.arg i.scan_begin.low
    (ap (λ (l : ArgLimits). l.low) (cond-true (cmd.scan_begin.src == source.timer) _ _ (eq-eqb cmd.scan_begin.src source.timer is))) (whole sub cmd.scan_begin source.timer refl is)

period : (sub : SubText) (cmd : CmdText) → IsSoundSub sub → AreInside sub cmd → cmd.scan_begin.src ≡ source.timer → 1 ≤ cmd.scan_begin.arg
period sub cmd ok i is = timed_low sub.scan_min cmd.scan_begin.arg ok.scan.some (period_low sub cmd i is).0

gap : (sub : SubText) (cmd : CmdText) → IsSoundSub sub → AreInside sub cmd → cmd.convert.src ≡ source.timer → 1 ≤ cmd.convert.arg
gap sub cmd ok i is = let l : (convert_limits sub cmd).low ≤ limited sub cmd.convert = i.convert.low in timed_low sub.conv_min cmd.convert.arg ok.convert.some (rw is at l)

-- a list that a subdevice takes is as long as a scan
whole_length : (sub : SubText) (cmd : CmdText) → 1 ≤ length cmd.list → length cmd.list ≤ sub.list_max → scan_length sub cmd ≡ length cmd.list
whole_length sub cmd some few = omega arith

-- a timed scan has the time that the board needs for its entries
entries_fit : (sub : SubText) (cmd : CmdText) → AreInside sub cmd → 1 ≤ length cmd.list → length cmd.list ≤ sub.list_max →
    cmd.scan_begin.src ≡ source.timer → sub.least_scan.per_entry * length cmd.list ≤ cmd.scan_begin.arg
entries_fit sub cmd i some few is = subst (λ n. sub.least_scan.per_entry * n ≤ cmd.scan_begin.arg) (whole_length sub cmd some few) (period_low sub cmd i is).1

scans : (sub : SubText) (cmd : CmdText) → AreInside sub cmd → cmd.stop.src ≡ source.count → IsFrom1To sub.scans_max cmd.stop.arg
scans sub cmd i is =
    let l : (stop_limits sub cmd).low ≤ limited sub cmd.stop = i.stop.low in
    let h : limited sub cmd.stop ≤ (stop_limits sub cmd).high = i.stop.high in
    record { low = rw is at l; high = rw is at h }

needed_is : (b : Bool) (x : ℕ) → b ≡ true → (if b then x else 0) ≡ x
needed_is true x e = refl
needed_is false x e = cc

held_above : (timers : TimersText) (need a x y : ℕ) → raised_time timers need a ≡ y → need ≡ x → x ≤ y
held_above timers need a x y e f = let holds = raised_holds timers need a in omega arith

-- a timed scan has the time for its timed conversions
fits : (sub : SubText) (cmd : CmdText) → is_rounded sub cmd ≡ true → 1 ≤ length cmd.list → length cmd.list ≤ sub.list_max →
    cmd.scan_begin.src ≡ source.timer → cmd.convert.src ≡ source.timer → cmd.convert.arg * length cmd.list ≤ cmd.scan_begin.arg
fits sub cmd h some few b c =
    let s = are_same (rounded sub cmd) cmd h in
    let same : (timed sub cmd).convert.arg ≡ cmd.convert.arg = ap (λ (t : Trig). t.arg) s.convert in
    let both_timed : (cmd.scan_begin.src == source.timer && cmd.convert.src == source.timer) ≡ true = and_true _ _ (eq-eqb cmd.scan_begin.src source.timer b) (eq-eqb cmd.convert.src source.timer c) in
    let n = whole_length sub cmd some few in
    let time : scan_time sub (timed sub cmd) ≡ cmd.convert.arg * length cmd.list =
    needed_is (cmd.scan_begin.src == source.timer && cmd.convert.src == source.timer) ((timed sub cmd).convert.arg * scan_length sub cmd) both_timed ∙ ap₂ (λ (x y : ℕ). x * y) same n in
    let raised : (rounded sub cmd).scan_begin.arg ≡ cmd.scan_begin.arg = ap (λ (t : Trig). t.arg) s.scan_begin in
    held_above sub.timers (scan_time sub (timed sub cmd)) (timed sub cmd).scan_begin.arg (cmd.convert.arg * length cmd.list) cmd.scan_begin.arg raised time

an_entry : (sub : SubText) (entry : ℕ) → is_valid_entry sub entry ≡ true → IsEntry sub entry
an_entry sub entry h =
    let r = both (nat_lt entry (2 ^ 26) && nat_lt (chan entry) sub.channels) (nat_lt (range entry) (range_count sub (chan entry))) h in
    let c = both (nat_lt entry (2 ^ 26)) (nat_lt (chan entry) sub.channels) r.0 in
    record { fits = ltb-true entry (2 ^ 26) c.0; has_chan = ltb-true (chan entry) sub.channels c.1; has_range = ltb-true (range entry) (range_count sub (chan entry)) r.1 }

pub passed : PassedIsTaken
passed sub cmd ok zero =
    let yes = all_yes (is_narrow sub cmd) (is_compatible sub cmd) (is_within sub cmd) (is_rounded sub cmd) (is_valid_list sub cmd.list) cmd (narrowed sub cmd) (repaired sub cmd) (rounded sub cmd) zero in
    let n = both (same_triggers (narrowed sub cmd) cmd) (has_sources cmd) yes.first in
    let m = are_same (narrowed sub cmd) cmd n.0 in
    let s4 = both _ (not (cmd.stop.src == 0)) n.1 in
    let s3 = both _ (not (cmd.scan_end.src == 0)) s4.0 in
    let s2 = both _ (not (cmd.convert.src == 0)) s3.0 in
    let s1 = both (not (cmd.start.src == 0)) (not (cmd.scan_begin.src == 0)) s2.0 in
    let c = both (are_single cmd && not (is_endless cmd)) _ yes.second in
    let d = both (are_single cmd) (not (is_endless cmd)) c.0 in
    let b4 = both _ (is_one_bit cmd.stop.src) d.0 in
    let b3 = both _ (is_one_bit cmd.scan_end.src) b4.0 in
    let b2 = both _ (is_one_bit cmd.convert.src) b3.0 in
    let b1 = both (is_one_bit cmd.start.src) (is_one_bit cmd.scan_begin.src) b2.0 in
    let o1 = one_of sub.masks.start cmd.start m.start s1.0 b1.0 in
    let o2 = one_of sub.masks.scan_begin cmd.scan_begin m.scan_begin s1.1 b1.1 in
    let o3 = one_of sub.masks.convert cmd.convert m.convert s2.1 b2.1 in
    let o4 = one_of sub.masks.scan_end cmd.scan_end m.scan_end s3.1 b3.1 in
    let o5 = one_of sub.masks.stop cmd.stop m.stop s4.1 b4.1 in
    let takes : takes_commands sub ≡ true = takes_by_start sub.masks (takes_some sub.masks.start cmd.start.src o1) in
    let full = sound_masks sub ok takes in
    let i = passed_inside sub cmd ok (record { narrow = yes.first; compatible = yes.second; within = yes.third }) in
    let v2 = both (has_valid_length sub cmd.list && list_all (is_valid_entry sub) cmd.list) (keeps_rules sub cmd.list) yes.fifth in
    let v1 = both (has_valid_length sub cmd.list) (list_all (is_valid_entry sub) cmd.list) v2.0 in
    let v0 = both (nat_le 1 (length cmd.list)) (nat_le (length cmd.list) sub.list_max) v1.0 in
    let some = leb-true 1 (length cmd.list) v0.0 in
    let few = leb-true (length cmd.list) sub.list_max v0.1 in
    record {
      takes = takes;
      start_of = o1;
      scan_begin_of = o2;
      convert_of = o3;
      scan_end_of = o4;
      stop_of = o5;
      start = three_ways source.now source.ext source.int cmd.start.src (reported 194 sub.masks.start cmd.start.src (any_of_three 2 64 128) (omega arith) starts full.start o1);
      scan_begin = three_ways source.follow source.timer source.ext cmd.scan_begin.src (reported 84 sub.masks.scan_begin cmd.scan_begin.src (any_of_three 4 16 64) (omega arith) scan_begins full.scan_begin o2);
      convert = four_ways source.now source.follow source.timer source.ext cmd.convert.src (reported 86 sub.masks.convert cmd.convert.src (any_of_four 2 4 16 64) (omega arith) converts full.convert o3);
      scan_end = eqb-true cmd.scan_end.src source.count (reported 32 sub.masks.scan_end cmd.scan_end.src (is_that 32) (omega arith) scan_ends full.scan_end o4);
      stop = three_ways source.none source.count source.ext cmd.stop.src (reported 97 sub.masks.stop cmd.stop.src (any_of_three 1 32 64) (omega arith) stops full.stop o5);
      ends = d.1;
      inside = i;
      period = period sub cmd ok i;
      gap = gap sub cmd ok i;
      fits = fits sub cmd yes.fourth some few;
      entries_fit = entries_fit sub cmd i some few;
      scans = scans sub cmd i;
      list = record { low = some; high = few };
      entries = λ k e lt. an_entry sub (get_or cmd.list k e) (AllPass-from_list_all (is_valid_entry sub) cmd.list v1.1 k e lt);
      rules = v2.1;
    }
