-- The times that timers can make.
use Rattle.std.proofs.Common.{◌≡◌, ℕ, ◌+◌, ◌-◌, ◌*◌, ◌/◌, ◌%◌, ◌^◌, ◌≤◌, [], inl, inr, sym, ap, subst, ◌∙◌, min, arith}
use Rattle.std.specs.Int.{div_ceil}
use Rattle.std.proofs.lemmas.Bool.{cases_lt}
use Rattle.std.proofs.lemmas.Nat.{div-add-mod', div-mul-add}
use Rattle.cm_board.specs.Law.{DownToTick, UpToTick}
use Rattle.cm_board.specs.Times.{IsGreatest, IsLeast, TimersText, can_make, down, greatest_to, is_product, least_to, up}
use Rattle.cm_board.proofs.Nearest.{down_is_search, up_is_search}
use Rattle.cm_board.proofs.Searches.{ceil_below, greatest, greatest_always, greatest_multiple, least_always, least_is, least_multiple}

-- down gives the greatest time that can be made not above another, and up the least not below it
pub down_is : (timers : TimersText) (time : ℕ) → IsGreatest (can_make timers) time (down timers time)
down_is timers time = subst (IsGreatest (can_make timers) time) (sym (down_is_search timers time)) (greatest (can_make timers) time)

pub up_is : (timers : TimersText) (time : ℕ) → time ≤ 2 ^ 32 → IsLeast (can_make timers) (2 ^ 32) time (up timers time)
up_is timers time h = subst (IsLeast (can_make timers) (2 ^ 32) time) (sym (up_is_search timers time h)) (least_is (can_make timers) (2 ^ 32) time h)

-- they are the tick times the product that is nearest
pub down_product : (timers : TimersText) (time : ℕ) → 1 ≤ timers.tick → greatest_to (is_product timers.clock) (time / timers.tick) * timers.tick ≡ down timers time
down_product timers time some = greatest_multiple (is_product timers.clock) timers.tick time some ∙ sym (down_is_search timers time)

pub up_product : (timers : TimersText) (time : ℕ) → 1 ≤ timers.tick → time ≤ 2 ^ 32 →
    min (least_to (is_product timers.clock) (div_ceil time timers.tick) * timers.tick) (2 ^ 32) ≡ up timers time
up_product timers time some h = least_multiple (is_product timers.clock) timers.tick (2 ^ 32) time some h ∙ sym (up_is_search timers time h)

-- with no counter the nearest multiples of the tick
pub down_plain : (tick time : ℕ) → 1 ≤ tick → down (record { tick = tick; clock = [] }) time ≡ time / tick * tick
down_plain tick time some = sym (down_product (record { tick = tick; clock = [] }) time some) ∙ ap (λ n. n * tick) (sym (greatest_always (time / tick)))

pub up_plain : (tick time : ℕ) → 1 ≤ tick → time ≤ 2 ^ 32 → up (record { tick = tick; clock = [] }) time ≡ min (div_ceil time tick * tick) (2 ^ 32)
up_plain tick time some h =
    sym (up_product (record { tick = tick; clock = [] }) time some h)
    ∙ ap (λ n. min (n * tick) (2 ^ 32)) (sym (least_always (2 ^ 32) (div_ceil time tick) (let le = ceil_below time tick some in omega arith)))

-- a quotient that is rounded up is one of a greater number
ceil_plain : (n k : ℕ) → 1 ≤ k → div_ceil n k ≡ (n + (k - 1)) / k
ceil_plain n k some =
    let s = div-add-mod' n k in
    elim (cases_lt 0 (n % k)) as (λ _. div_ceil n k ≡ (n + (k - 1)) / k) [
      | inl l ↦
          let e : n + (k - 1) ≡ (n / k + 1) * k + (n % k - 1) = omega arith in
          let one : min 1 (n % k) ≡ 1 = omega arith in
          let next : (n + (k - 1)) / k ≡ n / k + 1 = ap (λ m. m / k) e ∙ div-mul-add (n / k + 1) k (n % k - 1) (omega arith) in
          omega arith
      | inr l ↦
          let e : n + (k - 1) ≡ n / k * k + (k - 1) = omega arith in
          let none : min 1 (n % k) ≡ 0 = omega arith in
          let same : (n + (k - 1)) / k ≡ n / k = ap (λ m. m / k) e ∙ div-mul-add (n / k) k (k - 1) (omega arith) in
          omega arith
    ]

pub down_to_tick : DownToTick
down_to_tick = down_plain

pub up_to_tick : UpToTick
up_to_tick tick time some h = up_plain tick time some h ∙ ap (λ n. min (n * tick) (2 ^ 32)) (ceil_plain time tick some)
