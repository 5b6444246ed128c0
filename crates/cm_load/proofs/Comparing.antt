-- How many samples are wrong, piece by piece.
use Rattle.std.proofs.Common.{◌≡◌, ℕ, zero, suc, ◌+◌, ◌-◌, ◌%◌, ◌^◌, min, refl, ap, ◌∙◌, arith}
use Rattle.std.specs.Prelude.{nat_eq, if◌then◌else◌}
use Rattle.cm_ring_core.specs.declared.view.RingConstants.{RingConstants}
use Rattle.cm_ring_core.specs.Lawful.{munged_at}
use Rattle.cm_load.specs.Coming.{wrong_of}
use Rattle.cm_load.specs.Words.{differing, place_code}

-- whether two values differ, as a number
abbrev apart : ℕ → ℕ → ℕ
apart a b = if nat_eq a b then 0 else 1

-- the values that differ among the first ones and among those after them
differing_more : (f g f' g' : ℕ → ℕ) (n k : ℕ) → ((i : ℕ) → f' i ≡ f (n + i)) → ((i : ℕ) → g' i ≡ g (n + i)) → differing f g (n + k) ≡ differing f g n + differing f' g' k
differing_more f g f' g' n zero same_f same_g = grind arith
differing_more f g f' g' n (suc k) same_f same_g =
    let next : n + suc k ≡ suc (n + k) = omega arith in
    let step : differing f g (n + suc k) ≡ differing f g (n + k) + apart (f (n + k)) (g (n + k)) = ap (differing f g) next in
    let same : apart (f' k) (g' k) ≡ apart (f (n + k)) (g (n + k)) = ap (λ a. apart a (g' k)) (same_f k) ∙ ap (apart (f (n + k))) (same_g k) in
    let last : differing f' g' (suc k) ≡ differing f' g' k + apart (f' k) (g' k) = refl in
    let before = differing_more f g f' g' n k same_f same_g in
    omega (arith, step, same, last, before)

-- the count of wrong samples goes on with a piece
pub more_wrong : (now ring : RingConstants) (first maxdata n looked next k count wrong more : ℕ) → now ≡ ring → looked ≡ n → next ≡ looked + k → count ≡ n % 2 ^ 32 → wrong ≡ min (wrong_of ring.rule ring.samples first maxdata n) (2 ^ 32 - 1) → more ≡ min (wrong + differing (λ i. munged_at now (looked + i)) (λ i. place_code maxdata (((first + count) % 2 ^ 32 + i) % 2 ^ 32)) k) (2 ^ 32 - 1) → more ≡ min (wrong_of ring.rule ring.samples first maxdata next) (2 ^ 32 - 1)
more_wrong now ring first maxdata n looked next k count wrong more same still on at before after =
    let whole : wrong_of ring.rule ring.samples first maxdata (n + k) ≡ wrong_of ring.rule ring.samples first maxdata n + differing (λ i. munged_at now (looked + i)) (λ i. place_code maxdata (((first + count) % 2 ^ 32 + i) % 2 ^ 32)) k =
    differing_more _ _ _ _ n k (λ i. ap (λ r. munged_at r (looked + i)) same ∙ ap (munged_at ring) (omega arith)) (λ i. ap (place_code maxdata) (omega arith)) in
    let all : wrong_of ring.rule ring.samples first maxdata next ≡ wrong_of ring.rule ring.samples first maxdata (n + k) = ap (wrong_of ring.rule ring.samples first maxdata) (omega arith) in
    omega arith
