-- The subdevices of a soak are sound, and accept its commands.
use Rattle.std.proofs.Common.{◌≡◌, ℕ, ◌+◌, ◌-◌, ◌≤◌, Bool, true, [], refl, sym, ap, arith, rules, true≢false}
use Rattle.std.specs.Prelude.{max, min, not, ◌&&◌, if◌then◌else◌}
use Rattle.std.proofs.lemmas.Bool.{eq-eqb}
use Rattle.std.proofs.lemmas.List.Elements.{All-nil, All-push}
use Rattle.cm_board.specs.Board.{IsRange, IsSoundChan, IsSaidSub, IsSoundSub, SubText, IsBlock, each_nanosecond, has_text, is_bits_ok, maxdata_of, munge_of, ranges_of}
use Rattle.cm_board.specs.Times.{down, up}
use Rattle.cm_board.proofs.Made.{down_plain, up_plain}
use Rattle.cm_cmd.specs.Command.{CmdText}
use Rattle.cm_test.specs.Questions.{is_compatible, is_narrow, is_rounded, is_within, tested}
use Rattle.cm_test.specs.Steps.{narrowed, repaired, rounded}
use Rattle.cm_test.specs.ValidList.{is_valid_list}
use Rattle.cm_run.specs.SoakJob.{soak_cmd, soak_range, soak_sub}

-- a timer that can make each time makes the shortest scan and the longest
least_scan : up each_nanosecond 1 ≡ 1
least_scan = up_plain 1 1 (omega arith) (omega arith)

most_scan : down each_nanosecond 1000000 ≡ 1000000
most_scan = down_plain 1 1000000 (omega arith)

-- and the scans of its commands
down_scan : down each_nanosecond 1000 ≡ 1000
down_scan = down_plain 1 1000 (omega arith)

up_scan : up each_nanosecond 1000 ≡ 1000
up_scan = up_plain 1 1000 (omega arith) (omega arith)

sub_sound : IsSoundSub soak_sub
unfolding has_text is_bits_ok maxdata_of munge_of
sub_sound = record {
  text = refl;
  bits = refl;
  largest = record { low = omega arith; high = omega arith };
  few_channels = omega arith;
  few_ranges = omega arith;
  ranges = All-push IsRange [] soak_range (All-nil IsRange) (search rules);
  timers = record { some = omega arith; short = omega arith; few = omega arith; said = refl; rising = refl };
  scan = record { some = omega arith; order = omega arith; high = omega arith; possible = omega (arith, least_scan); ticks = λ old. record { least_ticks = refl; most_ticks = refl } };
  convert = record { some = omega arith; order = omega arith; high = omega arith; possible = omega (arith, least_scan); ticks = λ old. record { least_ticks = refl; most_ticks = refl } };
  list = record { low = omega arith; high = omega arith };
  list_fits = record { any = omega arith; timed = λ c s. omega (arith, least_scan, most_scan) };
  entries_fit = record { small = omega arith; any = omega arith; timed = λ s. omega arith };
  scans = record { low = omega arith; high = omega arith };
  few_lines = omega arith;
  start_line = λ allowed. absurd (true≢false (sym allowed));
  scan_begin_line = λ allowed. absurd (true≢false (sym allowed));
  convert_line = λ allowed. absurd (true≢false (sym allowed));
  scan_end_line = λ allowed. absurd (true≢false (sym allowed));
  stop_line = λ allowed. absurd (true≢false (sym allowed));
  buffer = record { low = omega arith; high = omega arith };
  few_pairs = omega arith;
  chans = All-nil (IsSoundChan 1);
  rise = refl;
}

pub sub_said : IsSaidSub soak_sub
unfolding IsBlock
sub_said = record {
  sound = sub_sound;
  block = record { whole = record { good = refl; few = refl; full = refl; same = refl }; says = refl };
}

-- a command that passes each step of the test
all_steps : (sub : SubText) (cmd : CmdText) → is_narrow sub cmd ≡ true → is_compatible sub cmd ≡ true → is_within sub cmd ≡ true → is_rounded sub cmd ≡ true → is_valid_list sub cmd.list ≡ true → (tested sub cmd).0 ≡ 0
all_steps sub cmd narrow compatible within round list =
    by_steps (is_narrow sub cmd) (is_compatible sub cmd) (is_within sub cmd) (is_rounded sub cmd) (is_valid_list sub cmd.list) narrow compatible within round list
  where
    by_steps : (a b c d e : Bool) → a ≡ true → b ≡ true → c ≡ true → d ≡ true → e ≡ true →
        (if◌then◌else◌ {A = ℕ × CmdText} (not a) (1, narrowed sub cmd) (if not b then (2, cmd) else (if not c then (3, repaired sub cmd) else (if not d then (4, rounded sub cmd) else (if not e then (5, cmd) else (0, cmd)))))).0 ≡ 0
    by_steps a b c d e p q r s t = cc

narrow_enough : (i count : ℕ) → is_narrow soak_sub (soak_cmd i count) ≡ true
narrow_enough i count = ap (λ (b : Bool). b && true) (eq-eqb count count refl)

within_limits : (i count : ℕ) → 1 ≤ count → count ≤ 1000000 → is_within soak_sub (soak_cmd i count) ≡ true
within_limits i count some few = eq-eqb (max 1 (min 1000000 count) + (count - count)) count (omega arith)

on_ticks : (i count : ℕ) → is_rounded soak_sub (soak_cmd i count) ≡ true
on_ticks i count = rw (down_scan, up_scan, least_scan, most_scan) (eq-eqb count count refl)

has_list : (i count : ℕ) → is_valid_list soak_sub (soak_cmd i count).list ≡ true
unfolding ranges_of
has_list i count = refl

pub passes : (i count : ℕ) → 1 ≤ count → count ≤ 1000000 → (tested soak_sub (soak_cmd i count)).0 ≡ 0
passes i count some few = all_steps soak_sub (soak_cmd i count) (narrow_enough i count) refl (within_limits i count some few) (on_ticks i count) (has_list i count)
