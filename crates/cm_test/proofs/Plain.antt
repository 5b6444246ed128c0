-- Rounding on a board without counters is a quotient.
use Rattle.std.proofs.Common.{◌≡◌, ℕ, ◌+◌, ◌-◌, ◌*◌, ◌/◌, ◌%◌, ◌^◌, ◌<◌, ◌≤◌, Bool, true, false, inl, inr, refl, ap, sym, ◌∙◌, arith}
use Rattle.std.specs.Prelude.{◌==◌, ◌&&◌, if◌then◌else◌, nat_lt}
use Rattle.std.proofs.lemmas.Bool.{cases_lt, eq-eqb, lt-ltb}
use Rattle.std.proofs.lemmas.Bool.Decides.{nat_tests}
use Rattle.std.proofs.lemmas.Nat.{div-add-mod', div-mul-add}
use Rattle.cm_base.proofs.Bools.{and_true}
use Rattle.cm_board.specs.Board.{can_make, down, up}
use Rattle.cm_board.specs.Law.{multiples_of}
use Rattle.cm_board.specs.declared.board.Way.{Way}
use Rattle.cm_board.specs.declared.board.Way.TheVariants as ways
use Rattle.cm_board.proofs.Made.{down_to_tick, up_is, up_to_tick}
use Rattle.cm_test.specs.Law.{RoundedToTick, to_tick}
use Rattle.cm_test.specs.Steps.{nearest, rounded_by}
use Rattle.cm_test.proofs.Kept.{rounded_between}

-- a multiple of the tick can be made
on_tick : (tick n : ℕ) → 1 ≤ tick → n % tick ≡ 0 → can_make (multiples_of tick) n ≡ true
on_tick tick n some e = and_true (nat_lt 0 tick && n % tick == 0) true (and_true (nat_lt 0 tick) (n % tick == 0) (lt-ltb 0 tick some) (eq-eqb (n % tick) 0 e)) refl

-- below a time that can be made, the one above is one, too
up_is_plain : (tick most a : ℕ) → 1 ≤ tick → most % tick ≡ 0 → a ≤ most → most < 2 ^ 32 → up (multiples_of tick) a ≡ (a + (tick - 1)) / tick * tick
up_is_plain tick most a some e le fits =
    let plain = up_to_tick tick a some (omega arith) in
    let within = (up_is (multiples_of tick) a (omega arith)).least most (on_tick tick most some e) le fits in
    omega arith

-- the nearer one is that with half a tick more
nearer : (tick q r d u : ℕ) → r < tick → d ≡ q * tick → u ≡ (q * tick + r + (tick - 1)) / tick * tick →
    (if nat_lt (q * tick + r - d) (u - (q * tick + r)) then d else u) ≡ (q * tick + r + tick / 2) / tick * tick
nearer tick q r d u below down_is up_is = elim (cases_lt 0 r) as (λ _. (if nat_lt (q * tick + r - d) (u - (q * tick + r)) then d else u) ≡ (q * tick + r + tick / 2) / tick * tick) [
  | inl l ↦
      let next : (q * tick + r + (tick - 1)) / tick ≡ q + 1 =
      ap (λ n. n / tick) (let e : q * tick + r + (tick - 1) ≡ (q + 1) * tick + (r - 1) = omega arith in e) ∙ div-mul-add (q + 1) tick (r - 1) (omega arith) in
      let high : u ≡ (q + 1) * tick = up_is ∙ ap (λ n. n * tick) next in
      by (nat_lt (q * tick + r - d) (u - (q * tick + r))) refl high
  | inr l ↦
      let same : (q * tick + r + (tick - 1)) / tick ≡ q =
      ap (λ n. n / tick) (let e : q * tick + r + (tick - 1) ≡ q * tick + (tick - 1) = omega arith in e) ∙ div-mul-add q tick (tick - 1) (omega arith) in
      let high : u ≡ q * tick = up_is ∙ ap (λ n. n * tick) same in
      let half : (q * tick + r + tick / 2) / tick ≡ q =
      ap (λ n. n / tick) (let e : q * tick + r + tick / 2 ≡ q * tick + tick / 2 = omega arith in e) ∙ div-mul-add q tick (tick / 2) (omega arith) in
      either (nat_lt (q * tick + r - d) (u - (q * tick + r))) d u (q * tick) down_is high ∙ sym (ap (λ n. n * tick) half)
]
  where
    either : (b : Bool) (x y z : ℕ) → x ≡ z → y ≡ z → (if b then x else y) ≡ z
    either true x y z e f = e
    either false x y z e f = f

    by : (b : Bool) → nat_lt (q * tick + r - d) (u - (q * tick + r)) ≡ b → u ≡ (q + 1) * tick → (if b then d else u) ≡ (q * tick + r + tick / 2) / tick * tick
    by true e high =
        let lt : q * tick + r - d < u - (q * tick + r) = grind (arith, nat_tests, e) in
        let half : (q * tick + r + tick / 2) / tick ≡ q =
        ap (λ n. n / tick) (let f : q * tick + r + tick / 2 ≡ q * tick + (r + tick / 2) = omega arith in f) ∙ div-mul-add q tick (r + tick / 2) (omega arith) in
        down_is ∙ sym (ap (λ n. n * tick) half)
    by false e high =
        let le : u - (q * tick + r) ≤ q * tick + r - d = grind (arith, nat_tests, e) in
        let half : (q * tick + r + tick / 2) / tick ≡ q + 1 =
        ap (λ n. n / tick) (let f : q * tick + r + tick / 2 ≡ (q + 1) * tick + (r + tick / 2 - tick) = omega arith in f) ∙ div-mul-add (q + 1) tick (r + tick / 2 - tick) (omega arith) in
        high ∙ sym (ap (λ n. n * tick) half)

nearest_plain : (tick most a : ℕ) → 1 ≤ tick → most % tick ≡ 0 → a ≤ most → most < 2 ^ 32 → nearest (multiples_of tick) a ≡ (a + tick / 2) / tick * tick
nearest_plain tick most a some e le fits =
    let split : a / tick * tick + a % tick ≡ a = div-add-mod' a tick in
    let high = up_is_plain tick most a some e le fits in
    let low = down_to_tick tick a some in
    let below : a % tick < tick = omega arith in
    at (a / tick) (a % tick) split below low high
  where
    at : (q r : ℕ) → q * tick + r ≡ a → r < tick → down (multiples_of tick) a ≡ q * tick → up (multiples_of tick) a ≡ (a + (tick - 1)) / tick * tick →
        nearest (multiples_of tick) a ≡ (a + tick / 2) / tick * tick
    at q r split below low high =
        ap (λ n. if nat_lt (n - down (multiples_of tick) a) (up (multiples_of tick) a - n) then down (multiples_of tick) a else up (multiples_of tick) a) (sym split)
        ∙ nearer tick q r (down (multiples_of tick) a) (up (multiples_of tick) a) below low (high ∙ ap (λ n. (n + (tick - 1)) / tick * tick) (sym split))
        ∙ ap (λ n. (n + tick / 2) / tick * tick) split

-- without counters each way rounds by a quotient
plain_rounded : (by : Way) (tick most a : ℕ) → 1 ≤ tick → most % tick ≡ 0 → a ≤ most → most < 2 ^ 32 → rounded_by false by (multiples_of tick) a ≡ to_tick by tick a
plain_rounded ways.Nearest tick most a some e le fits = nearest_plain tick most a some e le fits
plain_rounded ways.Down tick most a some e le fits = down_to_tick tick a some
plain_rounded ways.Up tick most a some e le fits = up_is_plain tick most a some e le fits

pub rounded_to_tick : RoundedToTick
rounded_to_tick by tick least most a some on low high fits =
    rounded_between false by (multiples_of tick) least most a fits (on_tick tick least some on.least_ticks) (on_tick tick most some on.most_ticks) low high
    ∙ plain_rounded by tick most a some on.most_ticks high fits
