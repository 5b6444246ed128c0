-- Rounding gives the times that it names.
use Rattle.std.proofs.Common.{◌≡◌, ℕ, Bool, true, false, ◌-◌, ◌<◌, ◌≤◌, ◌^◌, inl, inr, ◌⊎◌, refl, sym, subst, arith}
use Rattle.std.specs.Prelude.{if◌then◌else◌, nat_le, nat_lt}
use Rattle.std.proofs.lemmas.Bool.{cases_lt}
use Rattle.std.proofs.lemmas.Bool.Decides.{nat_tests}
use Rattle.cm_board.specs.Board.{TimersText, can_make, down, up}
use Rattle.cm_board.specs.declared.board.Way.TheVariants as ways
use Rattle.cm_board.proofs.Made.{down_is, up_is}
use Rattle.cm_test.specs.Law.{IsNearest, IsTime, RoundedIsTime, RoundingIsAsNamed, apart}
use Rattle.cm_test.specs.Steps.{rounded_by}
use Rattle.cm_test.proofs.Made.{down_below, down_most, rounded_is, up_above, up_least}

down_time : (timers : TimersText) (a : ℕ) → IsTime timers (down timers a)
down_time timers a = elim (down_is timers a).none_or_one as (λ _. IsTime timers (down timers a)) [
  | inl z ↦ inr (inl z)
  | inr z ↦ inl z
]

up_time : (timers : TimersText) (a : ℕ) → a < 2 ^ 32 → IsTime timers (up timers a)
up_time timers a fits = elim (up_is timers a (omega arith)).none_or_one as (λ _. IsTime timers (up timers a)) [
  | inl z ↦ inr (inr z)
  | inr z ↦ inl z
]

pub is_time : RoundedIsTime
is_time low by timers a fits = elim (rounded_is low by timers a) as (λ _. IsTime timers (rounded_by low by timers a)) [
  | inl e ↦ subst (IsTime timers) (sym e) (down_time timers a)
  | inr e ↦ subst (IsTime timers) (sym e) (up_time timers a fits)
]

-- each time that can be made isn't between the two around another
beside : (timers : TimersText) (a other : ℕ) → can_make timers other ≡ true → other < 2 ^ 32 → (other ≤ down timers a) ⊎ (up timers a ≤ other)
beside timers a other can fits = elim (cases_lt a other) as (λ _. (other ≤ down timers a) ⊎ (up timers a ≤ other)) [
  | inl l ↦ inr (up_least timers a other can fits (omega arith))
  | inr l ↦ inl (down_most timers a other can l)
]

-- the nearer of the two is nearer than all others
near_down : (timers : TimersText) (a other : ℕ) → a - down timers a ≤ up timers a - a → can_make timers other ≡ true → other < 2 ^ 32 → apart (down timers a) a ≤ apart other a
near_down timers a other h can fits =
    let below = down_below timers a in
    elim (beside timers a other can fits) as (λ _. apart (down timers a) a ≤ apart other a) [
      | inl l ↦ omega arith
      | inr l ↦ omega arith
    ]

near_up : (timers : TimersText) (a other : ℕ) → up timers a - a ≤ a - down timers a → can_make timers other ≡ true → other < 2 ^ 32 → apart (up timers a) a ≤ apart other a
near_up timers a other h can fits =
    let above = up_above timers a in
    elim (beside timers a other can fits) as (λ _. apart (up timers a) a ≤ apart other a) [
      | inl l ↦ omega arith
      | inr l ↦ omega arith
    ]

nearer : (low chosen : Bool) (timers : TimersText) (a : ℕ) → a < 2 ^ 32 → (if low then nat_le (a - down timers a) (up timers a - a) else nat_lt (a - down timers a) (up timers a - a)) ≡ chosen →
    IsNearest low timers a (if chosen then down timers a else up timers a)
nearer true true timers a fits e =
    let le : a - down timers a ≤ up timers a - a = grind (arith, nat_tests, e) in
    record {
      is_time = down_time timers a;
      near = λ other can few. near_down timers a other le can few;
      half = λ other can few same. let below = down_below timers a in elim (beside timers a other can few) as (λ _. down timers a ≤ other) [
        | inl l ↦ omega arith
        | inr l ↦ omega arith
      ];
    }
nearer true false timers a fits e =
    let lt : up timers a - a < a - down timers a = grind (arith, nat_tests, e) in
    record {
      is_time = up_time timers a fits;
      near = λ other can few. near_up timers a other (omega arith) can few;
      half = λ other can few same. let above = up_above timers a in elim (beside timers a other can few) as (λ _. up timers a ≤ other) [
        | inl l ↦ let below = down_below timers a in omega arith
        | inr l ↦ l
      ];
    }
nearer false true timers a fits e =
    let lt : a - down timers a < up timers a - a = grind (arith, nat_tests, e) in
    record {
      is_time = down_time timers a;
      near = λ other can few. near_down timers a other (omega arith) can few;
      half = λ other can few same. let below = down_below timers a in elim (beside timers a other can few) as (λ _. other ≤ down timers a) [
        | inl l ↦ l
        | inr l ↦ omega arith
      ];
    }
nearer false false timers a fits e =
    let le : up timers a - a ≤ a - down timers a = grind (arith, nat_tests, e) in
    record {
      is_time = up_time timers a fits;
      near = λ other can few. near_up timers a other le can few;
      half = λ other can few same. let above = up_above timers a in elim (beside timers a other can few) as (λ _. other ≤ up timers a) [
        | inl l ↦ let below = down_below timers a in omega arith
        | inr l ↦ omega arith
      ];
    }

pub named : RoundingIsAsNamed
named true ways.Nearest timers a fits = nearer true (nat_le (a - down timers a) (up timers a - a)) timers a fits refl
named false ways.Nearest timers a fits = nearer false (nat_lt (a - down timers a) (up timers a - a)) timers a fits refl
named low ways.Down timers a fits = down_is timers a
named low ways.Up timers a fits = up_is timers a (omega arith)
