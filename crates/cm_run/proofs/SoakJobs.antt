-- The job of a soak can be run.
use Rattle.std.proofs.Common.{◌≡◌, ℕ, zero, suc, ◌+◌, ◌/◌, ◌%◌, ◌<◌, ◌≤◌, Bool, true, false, List, [], ◌∷◌, ◌++◌, length, length-append, refl, sym, ap, ◌∙◌, subst, arith, rules, mod-lt, true≢false}
use Rattle.std.proofs.lemmas.Bool.{eq-eqb, eqb-true}
use Rattle.std.proofs.lemmas.Bool.Decides.{nat_tests}
use Rattle.std.specs.Prelude.{nat_lt, ◌==◌, if◌then◌else◌}
use Rattle.std.specs.List.{All, list_any}
use Rattle.std.proofs.lemmas.List.Elements.{All-append, All-nil, All-push}
use Rattle.cm_board.specs.Board.{SubText, is_output}
use Rattle.cm_signal.specs.Fitting.{FitBoard, HasChannel, HasSub}
use Rattle.cm_signal.specs.Signals.{IsSoundSignals, SignalsText, is_at}
use Rattle.cm_signal.specs.Adding.{silent}
use Rattle.cm_signal.specs.declared.wave.WaveAt.{WaveAt}
use Rattle.cm_signal.proofs.Grown.{more_waves, silent_sound}
use Rattle.cm_test.specs.Accepting.{sub_at}
use Rattle.cm_expand.proofs.Whole.{counted_most}
use Rattle.cm_expand.specs.Totals.{length_of, length_of_all}
use Rattle.cm_job.specs.Calls.{plan_of}
use Rattle.cm_job.specs.Job.{IsRunJob}
use Rattle.cm_job.specs.RunLines.{CanRun}
use Rattle.cm_job.specs.declared.line.RunLine.{RunLine}
use Rattle.cm_test.specs.Questions.{tested}
use Rattle.cm_run.specs.SoakJob.{line_for, share, soak_board, soak_cmd, soak_job, soak_line, soak_lines, soak_signals, soak_sub, soak_wave}
use Rattle.cm_run.specs.Soak.{soak_parts}
use Rattle.cm_run.specs.SoakSums.{IsSoakLine, no_part, parts_of, part_of}
use Rattle.cm_run.proofs.SoakAccepted.{passes}

-- a wave more at a channel that has none
with_wave : (s : SignalsText) (i : ℕ) → IsSoundSignals s → list_any (is_at i 0) s.waves ≡ false → IsSoundSignals (record s { waves = s.waves ++ soak_wave i ∷ [] })
with_wave s i sound other = more_waves s (soak_wave i) sound (record { period = (omega arith, omega arith); room = search (rules, nat_tests, sound.few_recorded); own = other; fine = refl })

signals_sound : IsSoundSignals soak_signals
signals_sound = with_wave _ 3 (with_wave _ 2 (with_wave _ 1 (with_wave (silent 1000000000) 0 (silent_sound 1000000000 (omega arith)) refl) refl) refl) refl

fits_board : FitBoard soak_board.subs soak_signals
fits_board =
    let P : WaveAt → Type 0 = HasChannel soak_board.subs in
    let a : All P (soak_wave 0 ∷ []) = All-push P [] (soak_wave 0) (All-nil P) (omega arith) in
    let b : All P (soak_wave 0 ∷ soak_wave 1 ∷ []) = All-push P (soak_wave 0 ∷ []) (soak_wave 1) a (omega arith) in
    let c : All P (soak_wave 0 ∷ soak_wave 1 ∷ soak_wave 2 ∷ []) = All-push P (soak_wave 0 ∷ soak_wave 1 ∷ []) (soak_wave 2) b (omega arith) in record {
      waves = All-push P (soak_wave 0 ∷ soak_wave 1 ∷ soak_wave 2 ∷ []) (soak_wave 3) c (omega arith);
      ints = All-nil (HasSub soak_board.subs);
    }

-- a line has no more conversions than its count
line_short : (i count : ℕ) → length_of (plan_of soak_board soak_signals (soak_line i count)) ≤ count
line_short i count = let most = counted_most (plan_of soak_board soak_signals (soak_line i count)) in omega arith

can_run : (i count : ℕ) → i < 4 → sub_at soak_board i ≡ soak_sub → 1 ≤ count → count ≤ 1000000 → CanRun soak_board soak_signals (soak_line i count)
can_run i count below is some few = record {
  call = record {
    within = below;
    passes = ap (λ (s : SubText). (tested s (soak_cmd i count)).0) is ∙ passes i count some few;
    time = omega arith;
  };
  limits = (ap (λ (s : SubText). is_output s.kind) is, tt);
  few = let short = line_short i count in omega arith;
}

-- lines that can be run and soaked, so many at most, with so many conversions at most
record AreFit (most total : ℕ) (lines : List RunLine) : Type 0 where
  each : All (CanRun soak_board soak_signals) lines
  soak : All IsSoakLine lines
  few : length lines ≤ most
  short : length_of_all (plan_of soak_board soak_signals) lines ≤ total

line_fits : (i count : ℕ) → i < 4 → sub_at soak_board i ≡ soak_sub → count ≤ 1000000 → AreFit 1 count (line_for i count)
line_fits i count below is few = by_count (count == 0) (λ other. grind (arith, nat_tests))
  where
    by_count : (b : Bool) → (b ≡ false → 1 ≤ count) → AreFit 1 count (if b then [] else soak_line i count ∷ [])
    by_count true some = record { each = All-nil (CanRun soak_board soak_signals); soak = All-nil IsSoakLine; few = omega arith; short = omega arith }
    by_count false some = record {
      each = All-push (CanRun soak_board soak_signals) [] (soak_line i count) (All-nil (CanRun soak_board soak_signals)) (can_run i count below is (some refl) few);
      soak = All-push IsSoakLine [] (soak_line i count) (All-nil IsSoakLine) (refl, refl);
      few = omega arith;
      short = let short = line_short i count in omega arith;
    }

length_all : (xs ys : List RunLine) → length_of_all (plan_of soak_board soak_signals) (xs ++ ys) ≡ length_of_all (plan_of soak_board soak_signals) xs + length_of_all (plan_of soak_board soak_signals) ys
length_all [] ys = omega arith
length_all (x ∷ xs) ys = let rest = length_all xs ys in omega arith

both_fit : (a b m t : ℕ) (xs ys : List RunLine) → AreFit a m xs → AreFit b t ys → AreFit (a + b) (m + t) (xs ++ ys)
both_fit a b m t xs ys x y = record {
  each = All-append (CanRun soak_board soak_signals) xs ys x.each y.each;
  soak = All-append IsSoakLine xs ys x.soak y.soak;
  few = let all = length-append xs ys in let p = x.few in let q = y.few in omega arith;
  short = let all = length_all xs ys in let p = x.short in let q = y.short in omega arith;
}

-- how many of the first four have one more
ones : (r : ℕ) → r < 4 → (if nat_lt 0 r then 1 else 0) + (if nat_lt 1 r then 1 else 0) + (if nat_lt 2 r then 1 else 0) + (if nat_lt 3 r then 1 else 0) ≡ r
ones zero below = refl
ones (suc zero) below = refl
ones (suc (suc zero)) below = refl
ones (suc (suc (suc zero))) below = refl
ones (suc (suc (suc (suc r)))) below = let never : ⊥ = omega arith in absurd never

shares : (n : ℕ) → share n 0 + share n 1 + share n 2 + share n 3 ≡ n
shares n = let rest = ones (n % 4) (mod-lt n (let some : 0 < 4 = omega arith in some)) in omega arith

small_share : (n i : ℕ) → n ≤ 4000000 → i < 4 → share n i ≤ 1000000
small_share n i few below = by_case (nat_lt i (n % 4)) (λ more. grind (arith, nat_tests))
  where
    by_case : (b : Bool) → (b ≡ true → i < n % 4) → n / 4 + (if b then 1 else 0) ≤ 1000000
    by_case true more = let some = more refl in omega arith
    by_case false more = omega arith

lines_fit : (n : ℕ) → n ≤ 4000000 → AreFit 4 n (soak_lines n)
lines_fit n few =
    let part : (i : ℕ) → i < 4 → sub_at soak_board i ≡ soak_sub → AreFit 1 (share n i) (line_for i (share n i)) = λ i below is. line_fits i (share n i) below is (small_share n i few below) in
    let a = both_fit 1 1 (share n 0) (share n 1) _ _ (part 0 (omega arith) refl) (part 1 (omega arith) refl) in
    let b = both_fit 2 1 (share n 0 + share n 1) (share n 2) _ _ a (part 2 (omega arith) refl) in
    subst (λ (t : ℕ). AreFit 4 t (soak_lines n)) (shares n) (both_fit 3 1 (share n 0 + share n 1 + share n 2) (share n 3) _ _ b (part 3 (omega arith) refl))

pub is_job : (n : ℕ) → n ≤ 4000000 → IsRunJob (soak_job n)
is_job n few =
    let fit = lines_fit n few in record {
      signals = signals_sound;
      fits = fits_board;
      lines = record {
        each = fit.each;
        few = let p = fit.few in omega arith;
        total = let p = fit.short in omega arith;
      };
    }

-- and each of its lines is paced and takes all
pub job_soaks : (n : ℕ) → n ≤ 4000000 → All IsSoakLine (soak_lines n)
job_soaks n few = (lines_fit n few).soak

-- the parts of the lines, where each that is missing is missing with all after it
parts_by : (a b c d : Bool) (k l m n : ℕ) → (a ≡ true → b ≡ true) → (b ≡ true → c ≡ true) → (c ≡ true → d ≡ true)
    → parts_of soak_board soak_signals ((if a then [] else soak_line 0 k ∷ []) ++ (if b then [] else soak_line 1 l ∷ []) ++ (if c then [] else soak_line 2 m ∷ []) ++ (if d then [] else soak_line 3 n ∷ []))
    ≡ (if a then no_part else part_of (plan_of soak_board soak_signals (soak_line 0 k))) ∷ (if b then no_part else part_of (plan_of soak_board soak_signals (soak_line 1 l)))
    ∷ (if c then no_part else part_of (plan_of soak_board soak_signals (soak_line 2 m))) ∷ (if d then no_part else part_of (plan_of soak_board soak_signals (soak_line 3 n))) ∷ []
parts_by false false false false k l m n p q r = refl
parts_by false false false true k l m n p q r = refl
parts_by false false true true k l m n p q r = refl
parts_by false true true true k l m n p q r = refl
parts_by true true true true k l m n p q r = refl
parts_by false false true false k l m n p q r = absurd (true≢false (sym (r refl)))
parts_by false true false d k l m n p q r = absurd (true≢false (sym (q refl)))
parts_by false true true false k l m n p q r = absurd (true≢false (sym (r refl)))
parts_by true false c d k l m n p q r = absurd (true≢false (sym (p refl)))
parts_by true true false d k l m n p q r = absurd (true≢false (sym (q refl)))
parts_by true true true false k l m n p q r = absurd (true≢false (sym (r refl)))

-- where a subdevice has no conversions the next one has none
next_none : (n i j : ℕ) → i ≤ j → (share n i == 0) ≡ true → (share n j == 0) ≡ true
next_none n i j order none = eq-eqb (share n j) 0 (by_case (nat_lt j (n % 4)) (nat_lt i (n % 4)) (λ more. grind (arith, nat_tests)) (eqb-true (share n i) 0 none))
  where
    by_case : (b c : Bool) → (b ≡ true → c ≡ true) → n / 4 + (if c then 1 else 0) ≡ 0 → n / 4 + (if b then 1 else 0) ≡ 0
    by_case true true more zeros = zeros
    by_case true false more zeros = absurd (true≢false (sym (more refl)))
    by_case false true more zeros = omega arith
    by_case false false more zeros = zeros

pub soak_parts_are : (n : ℕ) → parts_of soak_board soak_signals (soak_lines n) ≡ soak_parts n
soak_parts_are n =
    parts_by (share n 0 == 0) (share n 1 == 0) (share n 2 == 0) (share n 3 == 0) (share n 0) (share n 1) (share n 2) (share n 3)
    (next_none n 0 1 (omega arith)) (next_none n 1 2 (omega arith)) (next_none n 2 3 (omega arith))
