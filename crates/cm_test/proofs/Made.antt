-- Times that can be made, and those that are rounded to them.
use Rattle.std.proofs.Common.{◌≡◌, ℕ, ◌-◌, ◌<◌, ◌≤◌, ◌^◌, Bool, true, false, refl, arith, inl, inr, ◌⊎◌}
use Rattle.std.specs.Prelude.{if◌then◌else◌, max, min, nat_le, nat_lt}
use Rattle.std.proofs.lemmas.Bool.{cases_lt}
use Rattle.cm_board.specs.Board.{TimersText, can_make, down}
use Rattle.cm_board.specs.Times.{multiple_above, product_above, up}
use Rattle.cm_board.specs.declared.board.Way.{Way}
use Rattle.cm_board.specs.declared.board.Way.TheVariants as ways
use Rattle.cm_board.proofs.Made.{down_is, up_is}
use Rattle.cm_test.specs.Steps.{rounded_by}

-- the times around a time
pub down_below : (timers : TimersText) (a : ℕ) → down timers a ≤ a
down_below timers a = (down_is timers a).not_above

pub down_most : (timers : TimersText) (a b : ℕ) → can_make timers b ≡ true → b ≤ a → b ≤ down timers a
down_most timers a b can le = (down_is timers a).greatest b can le

pub down_made : (timers : TimersText) (a : ℕ) → 1 ≤ down timers a → can_make timers (down timers a) ≡ true
down_made timers a some = elim (down_is timers a).none_or_one as (λ _. can_make timers (down timers a) ≡ true) [
  | inl z ↦ absurd (omega arith)
  | inr z ↦ z
]

-- a time of more bits is left as it is
up_past : (timers : TimersText) (a : ℕ) → 2 ^ 32 ≤ a → up timers a ≡ a
unfolding up
up_past timers a h = past (multiple_above (product_above timers.clock) a timers.tick)
  where
    past : (n : ℕ) → max a (min (2 ^ 32) n) ≡ a
    past n = omega arith

pub up_above : (timers : TimersText) (a : ℕ) → a ≤ up timers a
up_above timers a = elim (cases_lt a (2 ^ 32)) as (λ _. a ≤ up timers a) [
  | inl l ↦ (up_is timers a (omega arith)).not_below
  | inr l ↦ let e = up_past timers a l in omega arith
]

pub up_least : (timers : TimersText) (a b : ℕ) → can_make timers b ≡ true → b < 2 ^ 32 → a ≤ b → up timers a ≤ b
up_least timers a b can fits le = (up_is timers a (omega arith)).least b can le fits

pub up_made : (timers : TimersText) (a : ℕ) → up timers a < 2 ^ 32 → can_make timers (up timers a) ≡ true
up_made timers a fits =
    let above = up_above timers a in
    elim (up_is timers a (omega arith)).none_or_one as (λ _. can_make timers (up timers a) ≡ true) [
      | inl z ↦ absurd (omega arith)
      | inr z ↦ z
    ]

-- rounding gives one of these
one_of_two : (b : Bool) (x y : ℕ) → ((if b then x else y) ≡ x) ⊎ ((if b then x else y) ≡ y)
one_of_two true x y = inl refl
one_of_two false x y = inr refl

pub rounded_is : (low : Bool) (by : Way) (timers : TimersText) (a : ℕ) → (rounded_by low by timers a ≡ down timers a) ⊎ (rounded_by low by timers a ≡ up timers a)
rounded_is true ways.Nearest timers a = one_of_two (nat_le (a - down timers a) (up timers a - a)) (down timers a) (up timers a)
rounded_is false ways.Nearest timers a = one_of_two (nat_lt (a - down timers a) (up timers a - a)) (down timers a) (up timers a)
rounded_is low ways.Down timers a = inl refl
rounded_is low ways.Up timers a = inr refl

-- a time between two that can be made stays between them
pub rounded_low : (low : Bool) (by : Way) (timers : TimersText) (a least : ℕ) → can_make timers least ≡ true → least ≤ a → least ≤ rounded_by low by timers a
rounded_low low by timers a least can le = elim (rounded_is low by timers a) as (λ _. least ≤ rounded_by low by timers a) [
  | inl e ↦ let most = down_most timers a least can le in omega arith
  | inr e ↦ let above = up_above timers a in omega arith
]

pub rounded_high : (low : Bool) (by : Way) (timers : TimersText) (a most : ℕ) → can_make timers most ≡ true → most < 2 ^ 32 → a ≤ most → rounded_by low by timers a ≤ most
rounded_high low by timers a most can fits le = elim (rounded_is low by timers a) as (λ _. rounded_by low by timers a ≤ most) [
  | inl e ↦ let below = down_below timers a in omega arith
  | inr e ↦ let least = up_least timers a most can fits le in omega arith
]

-- a time that can be made stays
pub rounded_stays : (low : Bool) (by : Way) (timers : TimersText) (a : ℕ) → can_make timers a ≡ true → a < 2 ^ 32 → rounded_by low by timers a ≡ a
rounded_stays low by timers a can fits =
    let least = rounded_low low by timers a a can (omega arith) in
    let most = rounded_high low by timers a a can fits (omega arith) in
    omega arith
