-- The times that the timers of a board can make.
use Rattle.std.specs.Prelude.{ℕ, zero, suc, ◌+◌, ◌-◌, ◌*◌, ◌/◌, ◌%◌, ◌^◌, min, max, nat_le, nat_lt, ◌≡◌, ◌<◌, ◌≤◌, ◌⊎◌}
use Rattle.std.specs.Prelude.{Bool, true, ◌&&◌, ◌==◌, if◌then◌else◌, IsTrue, List, [], ◌∷◌, length, filter, map}
use Rattle.std.specs.Int.{div_ceil}
use Rattle.std.specs.List.{list_all, list_any, range_with_len}
use Rattle.cm_board.specs.declared.board.Divisors.{Divisors}
use Rattle.cm_board.specs.declared.board.Divisors.TheVariants as divisors_of

-- what all times are multiples of, and the divisors of the counters that make them
pub record TimersText : Type 0 where
  pub tick : ℕ
  pub clock : List Divisors

-- the numbers that a counter can divide by
abbrev pub numbers : Divisors → List ℕ
numbers (divisors_of.Span first last) = range_with_len first (last + 1 - first)
numbers (divisors_of.Listed list) = list

-- each is above the one before
abbrev pub rise : List ℕ → Bool
rise [] = true
rise (n ∷ []) = true
rise (n ∷ m ∷ more) = nat_lt n m && rise (m ∷ more)

-- divisors that rise
abbrev pub are_rising : Divisors → Bool
are_rising (divisors_of.Span first last) = nat_le first last
are_rising (divisors_of.Listed list) = rise list

-- a divisor of at most 24 bits and one more
abbrev pub is_divisor : ℕ → Bool
is_divisor n = nat_le 1 n && nat_le n 16777216

-- divisors that a word may say, of which a list has at most 32
abbrev pub are_divisors : Divisors → Bool
are_divisors (divisors_of.Span first last) = is_divisor first && is_divisor last
are_divisors (divisors_of.Listed list) = list_all is_divisor list && nat_le 1 (length list) && nat_le (length list) 32

-- a number times one that has a property; nothing is a multiple of 0
abbrev pub is_multiple : ℕ → (ℕ → Bool) → ℕ → Bool
is_multiple a has n = nat_lt 0 a && n % a == 0 && has (n / a)

-- that of some number of a list
abbrev pub are_multiples : List ℕ → (ℕ → Bool) → ℕ → Bool
are_multiples list has n = list_any (λ a. is_multiple a has n) list

-- one of these numbers
abbrev pub is_one : List ℕ → ℕ → Bool
is_one list n = list_any (λ a. a == n) list

-- a number that is a product of a divisor of each counter, and any number where there is none
abbrev pub is_product : List Divisors → ℕ → Bool
is_product [] n = true
is_product (d ∷ []) n = is_one (numbers d) n
is_product (d ∷ more) n = are_multiples (numbers d) (is_product more) n

-- whether timers can make a time: the tick times such a product
abbrev pub can_make : TimersText → ℕ → Bool
can_make timers time = is_multiple timers.tick (is_product timers.clock) time

-- the greatest number not above another that has a property, and 0 where there is none
abbrev pub greatest_to : (ℕ → Bool) → ℕ → ℕ
greatest_to has zero = 0
greatest_to has (suc n) = if has (suc n) then suc n else greatest_to has n

-- the least from a number on that has a property, where that many are asked, and the one after them where there is none
abbrev pub least_from : (ℕ → Bool) → ℕ → ℕ → ℕ
least_from has zero n = n
least_from has (suc more) n = if has n then n else least_from has more (n + 1)

-- that of the numbers of 32 bits, and 2^32 where there is none
abbrev pub least_to : (ℕ → Bool) → ℕ → ℕ
least_to has n = least_from has (2 ^ 32 - n) n

-- the greatest of some numbers, or 0 if there is none
abbrev pub maximum : List ℕ → ℕ
maximum [] = 0
maximum (n ∷ more) = max n (maximum more)

-- the least of some numbers, or 2^32 if there is none
abbrev pub minimum : List ℕ → ℕ
minimum [] = 2 ^ 32
minimum (n ∷ more) = min n (minimum more)

-- the greatest divisor of a counter that isn't above a bound, or 0 if there is none
abbrev pub divisor_below : Divisors → ℕ → ℕ
divisor_below (divisors_of.Span first last) bound = if nat_le first (min last bound) then min last bound else 0
divisor_below (divisors_of.Listed list) bound = maximum (filter (λ n. nat_le n bound) list)

-- the least divisor that isn't below a bound, or 2^32 if there is none
abbrev pub divisor_above : Divisors → ℕ → ℕ
divisor_above (divisors_of.Span first last) bound = if nat_le (max first bound) last then max first bound else 2 ^ 32
divisor_above (divisors_of.Listed list) bound = minimum (filter (λ n. nat_le bound n) list)

-- the greatest multiple of `a` that isn't above a bound; `below` finds the greatest factor not above the quotient
abbrev pub multiple_below : (ℕ → ℕ) → ℕ → ℕ → ℕ
multiple_below below bound a = below (bound / a) * a

-- the least multiple that isn't below a bound, or 2^32 for `a` 0; `above` finds the least factor not below the quotient
abbrev pub multiple_above : (ℕ → ℕ) → ℕ → ℕ → ℕ
multiple_above above bound a = if a == 0 then 2 ^ 32 else above (div_ceil bound a) * a

-- the greatest product of a divisor of each counter that isn't above a bound; without counters, the bound
abbrev pub product_below : List Divisors → ℕ → ℕ
product_below [] bound = bound
product_below (d ∷ []) bound = divisor_below d bound
product_below (d ∷ more) bound = maximum (map (multiple_below (product_below more) bound) (numbers d))

-- the least such product that isn't below a bound; without counters, the bound
abbrev pub product_above : List Divisors → ℕ → ℕ
product_above [] bound = bound
product_above (d ∷ []) bound = divisor_above d bound
product_above (d ∷ more) bound = minimum (map (multiple_above (product_above more) bound) (numbers d))

-- the greatest time not above another that timers can make, or 0 if there is none
unfoldable pub down : TimersText → ℕ → ℕ
down timers time = multiple_below (product_below timers.clock) time timers.tick

-- the least time not below another that they can make, or 2^32 if no time of 32 bits is one
unfoldable pub up : TimersText → ℕ → ℕ
up timers time = max time (min (2 ^ 32) (multiple_above (product_above timers.clock) time timers.tick))

-- the greatest number not above a bound that has a property, or 0 if there is none
pub record IsGreatest (has : ℕ → Bool) (bound n : ℕ) : Type 0 where
  pub not_above : n ≤ bound
  pub none_or_one : (n ≡ 0) ⊎ (has n ≡ true)
  pub greatest : (m : ℕ) → has m ≡ true → m ≤ bound → m ≤ n

-- the least number from one on, below a top, that has a property, or the top if there is none
pub record IsLeast (has : ℕ → Bool) (top from n : ℕ) : Type 0 where
  pub not_below : from ≤ n
  pub not_past : n ≤ top
  pub none_or_one : (n ≡ top) ⊎ (has n ≡ true)
  pub least : (m : ℕ) → has m ≡ true → from ≤ m → m < top → n ≤ m

-- a tick of at most a second, and at most two counters, each with divisors that rise
pub record AreTimers (timers : TimersText) : Type 0 where
  pub some : 1 ≤ timers.tick
  pub short : timers.tick ≤ 1000000000
  pub few : length timers.clock ≤ 2
  pub said : IsTrue (list_all are_divisors timers.clock)
  pub rising : IsTrue (list_all are_rising timers.clock)
