-- A command that passes the first three steps is within limits that are not empty.
use Rattle.std.proofs.Common.{◌≡◌, ℕ, ◌-◌, ◌<◌, ◌≤◌, Bool, true, false, refl, sym, ap, arith, subst}
use Rattle.std.specs.Prelude.{◌==◌, if◌then◌else◌}
use Rattle.std.proofs.lemmas.Bool.{cond-true, eq-eqb}
use Rattle.cm_board.specs.Board.{SubText, IsSoundSub, HasLine, external_line}
use Rattle.cm_base.specs.Source as source
use Rattle.cm_cmd.specs.Command.{CmdText}
use Rattle.cm_cmd.specs.declared.command.Trig.{Trig}
use Rattle.cm_test.specs.declared.limits.ArgLimits.{ArgLimits}
use Rattle.cm_test.specs.Law.{IsInside, NamesLine, PassedIsInside}
use Rattle.cm_test.specs.Questions.{same_triggers, has_sources, is_narrow}
use Rattle.cm_test.specs.Steps.{narrowed, narrowed_to, repaired, limited, moved, exactly, line_limits, start_limits, scan_begin_limits, convert_limits, stop_limits, scan_length, held_time}
use Rattle.cm_base.proofs.Bools.{both}
use Rattle.cm_test.proofs.Same.{are_same}
use Rattle.cm_test.proofs.Kept.{AreFit, begin, conv_order, conversion, in_limits}
use Rattle.cm_test.proofs.Adjusted.{fits_times, held_time_fits, keeps_allowed, least_period_fits}
use Rattle.cm_test.proofs.Moved.{limited_stays}

-- limits that are not empty
abbrev HasOrder : ArgLimits → Type 0
HasOrder l = l.low ≤ l.high

line_order : (sub : SubText) (line : Bool) → HasOrder (if line then line_limits sub else exactly 0)
line_order sub true = omega arith
line_order sub false = omega arith

other_order : (sub : SubText) (other line : Bool) (l : ArgLimits) → (other ≡ true → HasOrder l) → HasOrder (if other then l else (if line then line_limits sub else exactly 0))
other_order sub true line l h = h refl
other_order sub false line l h = line_order sub line

inside : (sub : SubText) (l : ArgLimits) (t : Trig) → HasOrder l → moved sub l t ≡ t → IsInside sub l t
inside sub l t h e = let i = in_limits l (limited sub t) h (limited_stays sub l t e) in record { low = i.0; high = i.1 }

-- a line that the mask allows is there
has_line : (sub : SubText) (mask : ℕ) (t : Trig) → HasLine sub.lines mask → narrowed_to mask t ≡ t → t.src ≡ source.ext → 1 ≤ sub.lines
has_line sub mask t h e is = h (keeps_allowed mask source.ext t e is)

below_lines : (lines a : ℕ) → 1 ≤ lines → a ≤ lines - 1 → a < lines
below_lines lines a h k = omega arith

-- an external trigger within the limits of a line names one
names : (sub : SubText) (mask : ℕ) (l : ArgLimits) (t : Trig) → HasLine sub.lines mask → narrowed_to mask t ≡ t → (t.src ≡ source.ext → l ≡ line_limits sub) → IsInside sub l t → NamesLine sub t
names sub mask l t line e lines i is =
    let high : limited sub t ≤ l.high = i.high in
    let number : limited sub t ≡ external_line sub t.arg = cond-true (t.src == source.ext) _ _ (eq-eqb t.src source.ext is) in
    let most = ap (λ (l : ArgLimits). l.high) (lines is) in
    below_lines sub.lines (external_line sub t.arg) (has_line sub mask t line e is) (omega (arith, high, number, most))

-- the limits of a period are not empty, nor are those of a conversion time
begin_order : (sub : SubText) (cmd : CmdText) → IsSoundSub sub → (cmd.scan_begin.src == source.timer) ≡ true → HasOrder (begin sub (scan_length sub cmd) (held_time sub cmd))
begin_order sub cmd ok timed = let least = least_period_fits sub cmd ok in let held = held_time_fits sub cmd ok timed in omega arith

convert_order : (sub : SubText) (cmd : CmdText) → IsSoundSub sub → is_narrow sub cmd ≡ true → (cmd.convert.src == source.timer) ≡ true →
    HasOrder (conversion sub (scan_length sub cmd) (cmd.scan_begin.src == source.timer))
convert_order sub cmd ok narrow timed =
    conv_order sub (scan_length sub cmd) (cmd.scan_begin.src == source.timer) ok (subst (AreFit sub (scan_length sub cmd) (cmd.scan_begin.src == source.timer)) timed (fits_times sub cmd ok narrow))

pub passed_inside : PassedIsInside
passed_inside sub cmd ok p =
    let m = are_same (narrowed sub cmd) cmd (both (same_triggers (narrowed sub cmd) cmd) (has_sources cmd) p.narrow).0 in
    let w = are_same (repaired sub cmd) cmd p.within in
    let n = scan_length sub cmd in
    let timed : Bool = cmd.scan_begin.src == source.timer in
    let start = inside sub (start_limits sub cmd) cmd.start (line_order sub (cmd.start.src == source.ext)) w.start in
    let scan_begin = inside sub (scan_begin_limits sub cmd) cmd.scan_begin (other_order sub timed (cmd.scan_begin.src == source.ext) (begin sub n (held_time sub cmd)) (begin_order sub cmd ok)) w.scan_begin in
    let convert = inside sub (convert_limits sub cmd) cmd.convert (other_order sub (cmd.convert.src == source.timer) (cmd.convert.src == source.ext) (conversion sub n timed) (convert_order sub cmd ok p.narrow)) w.convert in
    let stop = inside sub (stop_limits sub cmd) cmd.stop (other_order sub (cmd.stop.src == source.count) (cmd.stop.src == source.ext) (record { low = 1; high = sub.scans_max }) (λ _. ok.scans.low)) w.stop in
    record {
      start = start;
      scan_begin = scan_begin;
      convert = convert;
      scan_end = ap (λ (t : Trig). t.arg) (sym w.scan_end);
      stop = stop;
      start_line = names sub sub.masks.start (start_limits sub cmd) cmd.start ok.start_line m.start (λ is. rw is refl) start;
      scan_begin_line = names sub sub.masks.scan_begin (scan_begin_limits sub cmd) cmd.scan_begin ok.scan_begin_line m.scan_begin (λ is. rw is refl) scan_begin;
      convert_line = names sub sub.masks.convert (convert_limits sub cmd) cmd.convert ok.convert_line m.convert (λ is. rw is refl) convert;
      stop_line = names sub sub.masks.stop (stop_limits sub cmd) cmd.stop ok.stop_line m.stop (λ is. rw is refl) stop;
    }
