-- A command that the test has adjusted passes the steps up to that one.
use Rattle.std.proofs.Common.{◌≡◌, ℕ, ◌*◌, ◌<◌, ◌≤◌, Bool, true, false, ◌&&◌, refl, sym, ap, ◌∙◌, arith, inl, inr, ◌⊎◌}
use Rattle.std.specs.Prelude.{◌==◌, not, bit_and, if◌then◌else◌}
use Rattle.std.proofs.lemmas.Bool.{cond-false, cond-true, eq-eqb, eqb-true}
use Rattle.cm_board.specs.Board.{SubText, IsSoundSub}
use Rattle.cm_base.specs.Source as source
use Rattle.cm_base.specs.Source.{allows}
use Rattle.cm_cmd.specs.Command.{CmdText}
use Rattle.cm_cmd.specs.declared.command.Trig.{Trig}
use Rattle.std.specs.Prelude.{◌^◌}
use Rattle.cm_test.specs.declared.limits.ArgLimits.{ArgLimits}
use Rattle.cm_test.specs.ValidList.{is_valid_list}
use Rattle.cm_test.specs.Steps.{narrowed, narrowed_to, repaired, rounded, timed, way, up, scan_time, moved_into, scan_length, exactly, line_limits, start_limits, scan_begin_limits, convert_limits, stop_limits, least_period, held_time, moved, with_arg}
use Rattle.cm_test.specs.Questions.{same_triggers, has_sources, is_narrow, is_compatible, is_within, is_rounded, tested}
use Rattle.cm_test.specs.Law.{PassesThree, PassesFour, IsSettled, KeepEdges, RepairedKeepsEdges, RepairedPasses, RoundedPasses, RoundedSettles}
use Rattle.cm_base.proofs.Bools.{both, and_true}
use Rattle.cm_test.proofs.Moved.{FromZero, keeps_edge, moved_twice, moved_whole}
use Rattle.cm_test.proofs.Same.{are_same, triggers_same}
use Rattle.cm_test.proofs.Kept.{AreFit, are_fit, begin, begin_twice, begin_within, conversion, conversions, convert_within, held_fits, least_fits, needed, needed_fits, possible_least, time_of, time_twice}

-- the same command with other arguments
abbrev pub with_args : CmdText → ℕ → ℕ → ℕ → ℕ → ℕ → CmdText
with_args cmd a b c d e = record cmd {
  start = with_arg a cmd.start;
  scan_begin = with_arg b cmd.scan_begin;
  convert = with_arg c cmd.convert;
  scan_end = with_arg d cmd.scan_end;
  stop = with_arg e cmd.stop;
}

-- the first two steps look at no argument
narrow_stays : (sub : SubText) (cmd : CmdText) (a b c d e : ℕ) → is_narrow sub cmd ≡ true → is_narrow sub (with_args cmd a b c d e) ≡ true
narrow_stays sub cmd a b c d e h =
    let p = both (same_triggers (narrowed sub cmd) cmd) (has_sources cmd) h in
    let s = are_same (narrowed sub cmd) cmd p.0 in
    and_true _ _ (triggers_same (narrowed sub (with_args cmd a b c d e)) (with_args cmd a b c d e) (record {
      start = ap (with_arg a) s.start;
      scan_begin = ap (with_arg b) s.scan_begin;
      convert = ap (with_arg c) s.convert;
      scan_end = ap (with_arg d) s.scan_end;
      stop = ap (with_arg e) s.stop;
    })) p.1

compatible_stays : (sub : SubText) (cmd : CmdText) (a b c d e : ℕ) → is_compatible sub cmd ≡ true → is_compatible sub (with_args cmd a b c d e) ≡ true
compatible_stays sub cmd a b c d e h = h

-- the limits of an external argument begin at 0
line_low : (sub : SubText) (external : Bool) → (if external then line_limits sub else exactly 0).low ≡ 0
line_low sub true = refl
line_low sub false = refl

-- the limits of an external argument are those of a line, where other arguments have their own
other_low : (sub : SubText) (src other : ℕ) (l : ArgLimits) → (source.ext == other) ≡ false → (src == source.ext) ≡ true → (if src == other then l else (if src == source.ext then line_limits sub else exactly 0)).low ≡ 0
other_low sub src other l apart is =
    let e = eqb-true src source.ext is in
    rw (e, apart) refl

-- the limits of each external argument begin at 0
record FromZeros (sub : SubText) (cmd : CmdText) : Type 0 where
  pub start : FromZero (start_limits sub cmd) cmd.start
  pub scan_begin : FromZero (scan_begin_limits sub cmd) cmd.scan_begin
  pub convert : FromZero (convert_limits sub cmd) cmd.convert
  pub stop : FromZero (stop_limits sub cmd) cmd.stop

from_zeros : (sub : SubText) (cmd : CmdText) → FromZeros sub cmd
from_zeros sub cmd = record {
  start = λ is. line_low sub (cmd.start.src == source.ext);
  scan_begin = other_low sub cmd.scan_begin.src source.timer _ refl;
  convert = other_low sub cmd.convert.src source.timer _ refl;
  stop = other_low sub cmd.stop.src source.count _ refl;
}

-- the length of a scan is one that a list may have
pub scan_length_fits : (sub : SubText) (cmd : CmdText) → IsSoundSub sub → (1 ≤ scan_length sub cmd) × (scan_length sub cmd ≤ sub.list_max)
scan_length_fits sub cmd ok = let l = ok.list.low in (omega arith, omega arith)

-- the limits of a scan-begin argument, whose period holds so much
abbrev pub begin_limits : SubText → CmdText → ℕ → ArgLimits
begin_limits sub cmd held =
    if cmd.scan_begin.src == source.timer then begin sub (scan_length sub cmd) held
    else (if cmd.scan_begin.src == source.ext then line_limits sub else exactly 0)

-- the time that a period holds, for conversions of this time
abbrev held_by : SubText → CmdText → ℕ → ℕ
held_by sub cmd c = if sub.least_scan.holds && cmd.convert.src == source.timer then c * scan_length sub cmd else 0

-- a repaired command needs no repair
within_repaired : (sub : SubText) (cmd : CmdText) → is_within sub (repaired sub cmd) ≡ true
within_repaired sub cmd =
    let low = from_zeros sub cmd in
    let convert = moved_twice sub (convert_limits sub cmd) cmd.convert low.convert in
    triggers_same (repaired sub (repaired sub cmd)) (repaired sub cmd) (record {
      start = moved_twice sub (start_limits sub cmd) cmd.start low.start;
      scan_begin =
          ap (λ (t : Trig). moved sub (begin_limits sub cmd (held_by sub cmd t.arg)) (moved sub (scan_begin_limits sub cmd) cmd.scan_begin)) convert
          ∙ moved_twice sub (scan_begin_limits sub cmd) cmd.scan_begin low.scan_begin;
      convert = convert;
      scan_end = refl;
      stop = moved_twice sub (stop_limits sub cmd) cmd.stop low.stop;
    })

-- a repaired command asks for the same edges
edges_repaired : (sub : SubText) (cmd : CmdText) → KeepEdges sub cmd (repaired sub cmd)
edges_repaired sub cmd =
    let low = from_zeros sub cmd in
    record {
      start = keeps_edge sub (start_limits sub cmd) cmd.start low.start;
      scan_begin = keeps_edge sub (scan_begin_limits sub cmd) cmd.scan_begin low.scan_begin;
      convert = keeps_edge sub (convert_limits sub cmd) cmd.convert low.convert;
      stop = keeps_edge sub (stop_limits sub cmd) cmd.stop low.stop;
    }

passes_repaired : (sub : SubText) (cmd : CmdText) → is_narrow sub cmd ≡ true → is_compatible sub cmd ≡ true → PassesThree sub (repaired sub cmd)
passes_repaired sub cmd n c =
    let r = repaired sub cmd in
    record {
      narrow = narrow_stays sub cmd r.start.arg r.scan_begin.arg r.convert.arg r.scan_end.arg r.stop.arg n;
      compatible = compatible_stays sub cmd r.start.arg r.scan_begin.arg r.convert.arg r.scan_end.arg r.stop.arg c;
      within = within_repaired sub cmd;
    }

-- a source that a trigger keeps is one that the mask allows
pub keeps_allowed : (mask src : ℕ) (t : Trig) → narrowed_to mask t ≡ t → t.src ≡ src → allows mask src ≡ true
keeps_allowed mask src t e is =
    let kept : bit_and t.src mask ≡ t.src = ap (λ (u : Trig). u.src) e in
    eq-eqb (bit_and src mask) src (ap (λ s. bit_and s mask) (sym is) ∙ kept ∙ is)

-- the times of a command that passes the first step
abbrev pub FitsTimes : SubText → CmdText → Type 0
FitsTimes sub cmd = AreFit sub (scan_length sub cmd) (cmd.scan_begin.src == source.timer) (cmd.convert.src == source.timer)

pub fits_times : (sub : SubText) (cmd : CmdText) → IsSoundSub sub → is_narrow sub cmd ≡ true → FitsTimes sub cmd
fits_times sub cmd ok narrow =
    let m = are_same (narrowed sub cmd) cmd (both (same_triggers (narrowed sub cmd) cmd) (has_sources cmd) narrow).0 in
    let n = scan_length_fits sub cmd ok in
    are_fit sub (scan_length sub cmd) (cmd.scan_begin.src == source.timer) (cmd.convert.src == source.timer) ok n.0 n.1
    (λ is. keeps_allowed sub.masks.scan_begin source.timer cmd.scan_begin m.scan_begin (eqb-true cmd.scan_begin.src source.timer is))
    (λ is. keeps_allowed sub.masks.convert source.timer cmd.convert m.convert (eqb-true cmd.convert.src source.timer is))

-- a period in its limits
abbrev moved_begin : SubText → CmdText → ℕ → ℕ → ℕ
moved_begin sub cmd held a = (moved sub (begin_limits sub cmd held) (with_arg a cmd.scan_begin)).arg

timed_begin : (sub : SubText) (cmd : CmdText) → (cmd.scan_begin.src == source.timer) ≡ true → (held a : ℕ) → moved_begin sub cmd held a ≡ moved_into (begin sub (scan_length sub cmd) held) a
timed_begin sub cmd timer held a =
    moved_whole sub (begin_limits sub cmd held) (with_arg a cmd.scan_begin) source.timer refl (eqb-true cmd.scan_begin.src source.timer timer) ∙ ap (λ l. moved_into l a) (cond-true _ _ _ timer)

-- where scans are not timed, none is held
other_begin : (sub : SubText) (cmd : CmdText) (held now : ℕ) → (cmd.scan_begin.src == source.timer) ≡ false → (a : ℕ) → moved_begin sub cmd now a ≡ moved_begin sub cmd held a
other_begin sub cmd held now other a = ap (λ l. (moved sub l (with_arg a cmd.scan_begin)).arg) (cond-false _ _ _ other ∙ sym (cond-false _ _ _ other))

-- a conversion time in its limits
abbrev moved_convert : SubText → CmdText → ℕ → ℕ
moved_convert sub cmd a = (moved sub (convert_limits sub cmd) (with_arg a cmd.convert)).arg

pub timed_convert : (sub : SubText) (cmd : CmdText) → (cmd.convert.src == source.timer) ≡ true → (a : ℕ) → moved_convert sub cmd a ≡ moved_into (conversion sub (scan_length sub cmd) (cmd.scan_begin.src == source.timer)) a
timed_convert sub cmd timer a =
    moved_whole sub (convert_limits sub cmd) (with_arg a cmd.convert) source.timer refl (eqb-true cmd.convert.src source.timer timer) ∙ ap (λ l. moved_into l a) (cond-true _ _ _ timer)

-- a conversion time of a command in its limits
convert_in : (sub : SubText) (cmd : CmdText) → is_within sub cmd ≡ true → (cmd.convert.src == source.timer) ≡ true →
    moved_into (conversion sub (scan_length sub cmd) (cmd.scan_begin.src == source.timer)) cmd.convert.arg ≡ cmd.convert.arg
convert_in sub cmd h timer = sym (timed_convert sub cmd timer cmd.convert.arg) ∙ ap (λ (t : Trig). t.arg) (are_same (repaired sub cmd) cmd h).convert

-- what is held is no more than what is needed
held_needed : (holds conv : Bool) (c n : ℕ) → (if holds && conv then c * n else 0) ≤ needed conv c n
held_needed true conv c n = omega arith
held_needed false conv c n = omega arith

-- a rounded command is within its limits
within_rounded : (sub : SubText) (cmd : CmdText) → IsSoundSub sub → is_narrow sub cmd ≡ true → is_within sub cmd ≡ true → is_within sub (rounded sub cmd) ≡ true
within_rounded sub cmd ok narrow h =
    let s = are_same (repaired sub cmd) cmd h in
    let n = scan_length sub cmd in
    let fit = fits_times sub cmd ok narrow in
    let half = sub.rounding.half_down in
    let by = way sub cmd.flags in
    let scan : Bool = cmd.scan_begin.src == source.timer in
    let conv : Bool = cmd.convert.src == source.timer in
    let c = time_of half by sub.timers (conversions sub) conv cmd.convert.arg in
    let convert = convert_within sub n half by cmd.convert.arg scan conv (moved_convert sub cmd) ok fit (timed_convert sub cmd) (ap (λ (t : Trig). t.arg) s.convert) in
    let held : ℕ = held_time sub cmd in
    let now : ℕ = held_time sub (rounded sub cmd) in
    let most : now ≤ needed conv c n = rw convert (held_needed sub.least_scan.holds conv c n) in
    triggers_same (repaired sub (rounded sub cmd)) (rounded sub cmd) (record {
      start = s.start;
      scan_begin = ap (λ a. with_arg a cmd.scan_begin) (begin_within sub n half by cmd.scan_begin.arg cmd.convert.arg held now scan conv (moved_begin sub cmd) ok fit (timed_begin sub cmd) (other_begin sub cmd held now) (ap (λ (t : Trig). t.arg) s.scan_begin) (convert_in sub cmd h) most);
      convert = ap (λ a. with_arg a cmd.convert) convert;
      scan_end = s.scan_end;
      stop = s.stop;
    })

-- a rounded command needs no rounding
rounded_rounded : (sub : SubText) (cmd : CmdText) → IsSoundSub sub → is_narrow sub cmd ≡ true → is_within sub cmd ≡ true → is_rounded sub (rounded sub cmd) ≡ true
rounded_rounded sub cmd ok narrow h =
    let n = scan_length sub cmd in
    let fit = fits_times sub cmd ok narrow in
    let half = sub.rounding.half_down in
    let by = way sub cmd.flags in
    let scan : Bool = cmd.scan_begin.src == source.timer in
    let conv : Bool = cmd.convert.src == source.timer in
    triggers_same (rounded sub (rounded sub cmd)) (rounded sub cmd) (record {
      start = refl;
      scan_begin = ap (λ a. with_arg a cmd.scan_begin) (begin_twice sub n half by cmd.scan_begin.arg cmd.convert.arg scan conv ok fit (convert_in sub cmd h));
      convert = ap (λ a. with_arg a cmd.convert) (time_twice sub n half by cmd.convert.arg scan conv fit);
      scan_end = refl;
      stop = refl;
    })

passes_rounded : (sub : SubText) (cmd : CmdText) → IsSoundSub sub → is_narrow sub cmd ≡ true → is_compatible sub cmd ≡ true → is_within sub cmd ≡ true → PassesFour sub (rounded sub cmd)
passes_rounded sub cmd ok n c w =
    let r = rounded sub cmd in
    record {
      three = record {
        narrow = narrow_stays sub cmd r.start.arg r.scan_begin.arg r.convert.arg r.scan_end.arg r.stop.arg n;
        compatible = compatible_stays sub cmd r.start.arg r.scan_begin.arg r.convert.arg r.scan_end.arg r.stop.arg c;
        within = within_rounded sub cmd ok n w;
      };
      rounded = rounded_rounded sub cmd ok n w;
    }

-- the answer of five questions, each with its own command
abbrev pub first_no : {A : Type 0} → Bool → Bool → Bool → Bool → Bool → A → A → A → A → ℕ × A
first_no a b c d e x y z w =
    if not a then (1, y) else (if not b then (2, x) else (if not c then (3, z) else (if not d then (4, w) else (if not e then (5, x) else (0, x)))))

-- which question gave the answer 3, and 4
at_three : {A : Type 0} (a b c d e : Bool) (x y z w : A) → (first_no a b c d e x y z w).0 ≡ 3 → (a ≡ true) × (b ≡ true) × ((first_no a b c d e x y z w).1 ≡ z)
at_three false b c d e x y z w h = cc
at_three true false c d e x y z w h = cc
at_three true true false d e x y z w h = (refl, refl, refl)
at_three true true true false e x y z w h = cc
at_three true true true true false x y z w h = cc
at_three true true true true true x y z w h = cc

at_four : {A : Type 0} (a b c d e : Bool) (x y z w : A) → (first_no a b c d e x y z w).0 ≡ 4 → (a ≡ true) × (b ≡ true) × (c ≡ true) × ((first_no a b c d e x y z w).1 ≡ w)
at_four false b c d e x y z w h = cc
at_four true false c d e x y z w h = cc
at_four true true false d e x y z w h = cc
at_four true true true false e x y z w h = (refl, refl, refl, refl)
at_four true true true true false x y z w h = cc
at_four true true true true true x y z w h = cc

-- four times yes
after_four : {A : Type 0} (a b c d e : Bool) (x y z w : A) → a ≡ true → b ≡ true → c ≡ true → d ≡ true →
    (((first_no a b c d e x y z w).0 ≡ 0) ⊎ ((first_no a b c d e x y z w).0 ≡ 5)) × ((first_no a b c d e x y z w).1 ≡ x)
after_four true true true true true x y z w p q r s = (inl refl, refl)
after_four true true true true false x y z w p q r s = (inr refl, refl)
after_four true true true false e x y z w p q r s = cc
after_four true true false d e x y z w p q r s = cc
after_four true false c d e x y z w p q r s = cc
after_four false b c d e x y z w p q r s = cc

pub repaired_passes : RepairedPasses
repaired_passes sub cmd ok h =
    let t = at_three (is_narrow sub cmd) (is_compatible sub cmd) (is_within sub cmd) (is_rounded sub cmd) (is_valid_list sub cmd.list) cmd (narrowed sub cmd) (repaired sub cmd) (rounded sub cmd) h in
    rw t.2 (passes_repaired sub cmd t.0 t.1)

pub repaired_keeps_edges : RepairedKeepsEdges
repaired_keeps_edges sub cmd h =
    let t = at_three (is_narrow sub cmd) (is_compatible sub cmd) (is_within sub cmd) (is_rounded sub cmd) (is_valid_list sub cmd.list) cmd (narrowed sub cmd) (repaired sub cmd) (rounded sub cmd) h in
    rw t.2 (edges_repaired sub cmd)

pub rounded_passes : RoundedPasses
rounded_passes sub cmd ok h =
    let t = at_four (is_narrow sub cmd) (is_compatible sub cmd) (is_within sub cmd) (is_rounded sub cmd) (is_valid_list sub cmd.list) cmd (narrowed sub cmd) (repaired sub cmd) (rounded sub cmd) h in
    rw t.3 (passes_rounded sub cmd ok t.0 t.1 t.2)

settles : (sub : SubText) (cmd : CmdText) → PassesFour sub cmd → IsSettled sub cmd
settles sub cmd p =
    let t = after_four (is_narrow sub cmd) (is_compatible sub cmd) (is_within sub cmd) (is_rounded sub cmd) (is_valid_list sub cmd.list) cmd (narrowed sub cmd) (repaired sub cmd) (rounded sub cmd) p.three.narrow p.three.compatible p.three.within p.rounded in
    record { step = t.0; unchanged = t.1 }

pub rounded_settles : RoundedSettles
rounded_settles sub cmd ok h = settles sub (tested sub cmd).1 (rounded_passes sub cmd ok h)

-- a time that is held is at most the longest of a scan
held_within : (holds conv : Bool) (c n most : ℕ) → (conv ≡ true → c * n ≤ most) → (if holds && conv then c * n else 0) ≤ most
held_within true true c n most h = h refl
held_within true false c n most h = omega arith
held_within false conv c n most h = omega arith

-- timed conversions in their limits fit into the longest timed scan
pub moved_fits : (sub : SubText) (cmd : CmdText) → IsSoundSub sub → (cmd.scan_begin.src == source.timer) ≡ true → (cmd.convert.src == source.timer) ≡ true →
    (moved sub (convert_limits sub cmd) cmd.convert).arg * scan_length sub cmd ≤ sub.scan_max
moved_fits sub cmd ok scan conv =
    let n = scan_length sub cmd in
    let timed = timed_convert sub cmd conv cmd.convert.arg ∙ ap (λ b. moved_into (conversion sub n b) cmd.convert.arg) scan in
    rw timed (held_fits sub n cmd.convert.arg ok (scan_length_fits sub cmd ok).1)

pub held_time_fits : (sub : SubText) (cmd : CmdText) → IsSoundSub sub → (cmd.scan_begin.src == source.timer) ≡ true → held_time sub cmd ≤ sub.scan_max
held_time_fits sub cmd ok scan =
    held_within sub.least_scan.holds (cmd.convert.src == source.timer) (moved sub (convert_limits sub cmd) cmd.convert).arg (scan_length sub cmd) sub.scan_max (moved_fits sub cmd ok scan)

pub least_period_fits : (sub : SubText) (cmd : CmdText) → IsSoundSub sub → least_period sub cmd ≤ sub.scan_max
least_period_fits sub cmd ok = least_fits sub (scan_length sub cmd) ok (scan_length_fits sub cmd ok).1

-- where scans are timed, some period can be made
pub periods_fit : (sub : SubText) (cmd : CmdText) → IsSoundSub sub → is_narrow sub cmd ≡ true → (cmd.scan_begin.src == source.timer) ≡ true → up sub.timers (least_period sub cmd) ≤ sub.scan_max
periods_fit sub cmd ok narrow scan = possible_least sub.timers (least_period sub cmd) sub.scan_max ((fits_times sub cmd ok narrow).periods scan)

-- a scan that is raised for its conversions still fits
pub scan_fits : (sub : SubText) (cmd : CmdText) → IsSoundSub sub → is_narrow sub cmd ≡ true → is_within sub cmd ≡ true → up sub.timers (scan_time sub (timed sub cmd)) < 2 ^ 32
scan_fits sub cmd ok narrow h =
    needed_fits sub (scan_length sub cmd) sub.rounding.half_down (way sub cmd.flags) cmd.convert.arg (cmd.scan_begin.src == source.timer) (cmd.convert.src == source.timer) ok (fits_times sub cmd ok narrow) (convert_in sub cmd h)

at_zero : {A : Type 0} (a b c d e : Bool) (x y z w : A) → (first_no a b c d e x y z w).0 ≡ 0 → (first_no a b c d e x y z w).1 ≡ x
at_zero false b c d e x y z w h = cc
at_zero true false c d e x y z w h = refl
at_zero true true false d e x y z w h = cc
at_zero true true true false e x y z w h = cc
at_zero true true true true false x y z w h = refl
at_zero true true true true true x y z w h = refl

-- a command that passes the test is left as it was
pub passed_stays : (sub : SubText) (cmd : CmdText) → (tested sub cmd).0 ≡ 0 → (tested sub cmd).1 ≡ cmd
passed_stays sub cmd = at_zero (is_narrow sub cmd) (is_compatible sub cmd) (is_within sub cmd) (is_rounded sub cmd) (is_valid_list sub cmd.list) cmd (narrowed sub cmd) (repaired sub cmd) (rounded sub cmd)
