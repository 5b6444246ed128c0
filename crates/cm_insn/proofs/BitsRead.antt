-- The bits of a word that is the sum of some of them.
use Rattle.std.proofs.Common.{◌≡◌, ℕ, zero, suc, ◌+◌, ◌*◌, ◌/◌, ◌%◌, ◌-◌, ◌^◌, ◌<◌, ◌≤◌, ◌∙◌, Bool, true, false, ◌⊎◌, inl, inr, map, ap, sym, arith, add-one, if◌then◌else◌}
use Rattle.std.specs.List.{range_with_len, sum}
use Rattle.std.proofs.Math.Nat.{add-mul-div_left, div-eq_of_lt, pow-suc}
use Rattle.std.proofs.lemmas.Nat.{pow-add}
use Rattle.cm_insn.specs.Bits.{bit}
use Rattle.cm_insn.proofs.Words.{below_more, word_more}

-- a bit of its place, where it is set
abbrev worth : Bool → ℕ → ℕ
worth set c = if set then 2 ^ c else 0

abbrev digit : Bool → ℕ
digit set = if set then 1 else 0

-- the word whose bits below `n` are these
abbrev word : (ℕ → Bool) → ℕ → ℕ
word p n = sum (map (λ c. worth (p c) c) (range_with_len 0 n))

some : (c : ℕ) → 0 < 2 ^ c
some zero = omega arith
some (suc c) = let below = some c in rw pow-suc (omega arith)

word_next : (p : ℕ → Bool) (n : ℕ) → word p (suc n) ≡ word p n + worth (p n) n
word_next p n = ap (word p) (sym (add-one n)) ∙ word_more (λ c. worth (p c) c) n

worth_most : (set : Bool) (c : ℕ) → worth set c ≤ 2 ^ c
worth_most true c = omega arith
worth_most false c = omega arith

pub word_below : (p : ℕ → Bool) (n : ℕ) → word p n < 2 ^ n
word_below p zero = omega arith
word_below p (suc n) =
    let more : word p n + worth (p n) n < 2 ^ (n + 1) = below_more (word p n) (worth (p n) n) n (word_below p n) (worth_most (p n) n) in
    rw (word_next p n, ← add-one n) more

-- a higher bit doesn't change this one
higher : (t n c : ℕ) → c < n → bit (t + 2 ^ n) c ≡ bit t c
higher t n c below =
    let k : ℕ = n - suc c in
    let sum_is : n ≡ c + (k + 1) = omega arith in
    let power : 2 ^ n ≡ 2 ^ c * (2 ^ k * 2) = ap (λ m. 2 ^ m) sum_is ∙ pow-add 2 c (k + 1) ∙ ap (λ m. 2 ^ c * m) (pow-add 2 k 1) in
    let quotient : (t + 2 ^ n) / 2 ^ c ≡ t / 2 ^ c + 2 ^ k * 2 = ap (λ m. (t + m) / 2 ^ c) power ∙ add-mul-div_left t (2 ^ k * 2) (some c) in
    ap (λ m. m % 2) quotient ∙ (omega arith)

-- the highest bit of a word
top : (t n : ℕ) → t < 2 ^ n → bit (t + 2 ^ n) n ≡ 1
top t n below =
    let one : (t + 2 ^ n * 1) / 2 ^ n ≡ t / 2 ^ n + 1 = add-mul-div_left t 1 (some n) in
    let none : t / 2 ^ n ≡ 0 = div-eq_of_lt below in
    let same : t + 2 ^ n ≡ t + 2 ^ n * 1 = omega arith in
    ap (λ m. m / 2 ^ n % 2) same ∙ ap (λ m. m % 2) (one ∙ ap (λ m. m + 1) none)

no_top : (t n : ℕ) → t < 2 ^ n → bit (t + 0) n ≡ 0
no_top t n below =
    let none : t / 2 ^ n ≡ 0 = div-eq_of_lt below in
    let same : t + 0 ≡ t = omega arith in
    ap (λ m. m / 2 ^ n % 2) same ∙ ap (λ m. m % 2) none

here : (set : Bool) (t n : ℕ) → t < 2 ^ n → bit (t + worth set n) n ≡ digit set
here true t n below = top t n below
here false t n below = no_top t n below

lower : (set : Bool) (t n c : ℕ) → c < n → bit (t + worth set n) c ≡ bit t c
lower true t n c below = higher t n c below
lower false t n c below = let same : t + 0 ≡ t = omega arith in ap (λ m. bit m c) same

below_or_at : (c n : ℕ) → c < suc n → (c < n) ⊎ (c ≡ n)
below_or_at c n below = grind arith

by_place : (p : ℕ → Bool) (n c : ℕ) → (c < n → bit (word p n) c ≡ digit (p c)) → (c < n) ⊎ (c ≡ n) → bit (word p (suc n)) c ≡ digit (p c)
by_place p n c earlier (inl less) = ap (λ m. bit m c) (word_next p n) ∙ lower (p n) (word p n) n c less ∙ earlier less
by_place p n c earlier (inr at) = rw at (ap (λ m. bit m n) (word_next p n) ∙ here (p n) (word p n) n (word_below p n))

-- each bit is that of its place
pub bit_word : (p : ℕ → Bool) (n c : ℕ) → c < n → bit (word p n) c ≡ digit (p c)
bit_word p zero c below = absurd (omega arith)
bit_word p (suc n) c below = by_place p n c (λ (less : c < n). bit_word p n c less) (below_or_at c n below)
