-- One scan more of a list.
use Rattle.std.proofs.Common.{◌≡◌, ℕ, zero, suc, ◌+◌, ◌-◌, ◌*◌, ◌/◌, ◌%◌, ◌<◌, ◌≤◌, List, [], ◌∷◌, ◌++◌, length, map, take, drop, refl, sym, ap, ◌∙◌, subst, arith, mul-le-mul_right}
use Rattle.std.specs.List.{range_with_len}
use Rattle.std.proofs.lemmas.List.{length-take, length-take-le, take-take, take_all, drop-take}
use Rattle.std.proofs.lemmas.List.FromFn.{map-range_with_len_more}
use Rattle.std.proofs.lemmas.Nat.{div-mul-add, div-add-mod'}
use Rattle.cm_stream.specs.Scans.{ScanText, scan_text, scan_at, scan_count, scans}

-- two functions that agree on a range
map_same : {X : Type 0} (f g : ℕ → X) (a n : ℕ) → ((i : ℕ) → a ≤ i → i < a + n → f i ≡ g i) → map f (range_with_len a n) ≡ map g (range_with_len a n)
map_same f g a zero same = refl
map_same f g a (suc n) same =
    let head = same a (omega arith) (omega arith) in
    let tail = map_same f g (a + 1) n (λ i low high. same i (omega arith) (omega arith)) in cc

-- the words of a part that ends before a cut
before_cut : {X : Type 0} (ys : List X) (from count cut : ℕ) → from + count ≤ cut → take count (drop from (take cut ys)) ≡ take count (drop from ys)
before_cut ys from count cut h =
    let e : cut ≡ from + (cut - from) = omega arith in
    ap (λ (x : ℕ). take count (drop from (take x ys))) e ∙ (ap (take count) (drop-take from (cut - from) ys) ∙ take-take count (cut - from) (drop from ys) (omega arith))

-- so many whole scans, and one of `want` words
count_more : (k n want : ℕ) → 1 ≤ want → want ≤ n → (k * n + want + n - 1) / n ≡ k + 1
count_more k n want some few =
    let e : k * n + want + n - 1 ≡ (k + 1) * n + (want - 1) = omega arith in
    ap (λ (x : ℕ). x / n) e ∙ div-mul-add (k + 1) n (want - 1) (omega arith)

count_whole : (k n : ℕ) → 1 ≤ n → (k * n + n - 1) / n ≡ k
count_whole k n some =
    let e : k * n + n - 1 ≡ k * n + (n - 1) = omega arith in
    ap (λ (x : ℕ). x / n) e ∙ div-mul-add k n (n - 1) (omega arith)

-- the scans before a place that is k whole ones, and one more
scans_after : (ys : List ℕ) (k n want : ℕ) → 1 ≤ n → 1 ≤ want → want ≤ n → k * n + want ≤ length ys
    → scans (take (k * n + want) ys) n ≡ scans (take (k * n) ys) n ++ scan_text (k * n) (take want (drop (k * n) ys)) ∷ []
unfolding scans
scans_after ys k n want some one few within =
    let cut : List ℕ = take (k * n + want) ys in let before : List ℕ = take (k * n) ys in
    let len : length cut ≡ k * n + want = length-take-le (k * n + want) ys within in
    let len' : length before ≡ k * n = length-take-le (k * n) ys (omega arith) in
    let f : ℕ → ScanText = scan_at cut n in let g : ℕ → ScanText = scan_at before n in
    let all : scan_count cut n ≡ k + 1 = ap (λ (x : ℕ). (x + n - 1) / n) len ∙ count_more k n want one few in
    let whole : scan_count before n ≡ k = ap (λ (x : ℕ). (x + n - 1) / n) len' ∙ count_whole k n some in
    let each : (i : ℕ) → 0 ≤ i → i < 0 + k → f i ≡ g i = λ i low high. ap (scan_text (i * n)) (
    let room : i * n + n ≤ k * n = rows_fit i k n (omega arith) in
    before_cut ys (i * n) n (k * n + want) (omega arith) ∙ sym (before_cut ys (i * n) n (k * n) room)) in
    let rest : drop (k * n) cut ≡ take want (drop (k * n) ys) = drop-take (k * n) want ys in
    let short : length (take want (drop (k * n) ys)) ≤ n = taken_few want n (drop (k * n) ys) few in
    let last : f k ≡ scan_text (k * n) (take want (drop (k * n) ys)) = ap (scan_text (k * n)) (ap (take n) rest ∙ take_all n (take want (drop (k * n) ys)) short) in
    ap (λ (x : ℕ). map f (range_with_len 0 x)) all
    ∙ (map-range_with_len_more f 0 k k (omega arith)
    ∙ (ap (λ (x : List ScanText). x ++ f k ∷ []) (map_same f g 0 k each ∙ ap (λ (x : ℕ). map g (range_with_len 0 x)) (sym whole))
    ∙ ap (λ (x : ScanText). map g (range_with_len 0 (scan_count before n)) ++ x ∷ []) last))
  where
    rows_fit : (i k n : ℕ) → i + 1 ≤ k → i * n + n ≤ k * n
    rows_fit i k n h = let e : i * n + n ≡ (i + 1) * n = omega arith in let le : (i + 1) * n ≤ k * n = mul-le-mul_right n h in omega arith

    taken_few : (want n : ℕ) (l : List ℕ) → want ≤ n → length (take want l) ≤ n
    taken_few want n l h = omega (arith, length-take want l)

-- a scan of `want` words more, after whole ones
pub scans_more : (ys : List ℕ) (n released want : ℕ) → 1 ≤ n → 1 ≤ want → want ≤ n → released % n ≡ 0 → released + want ≤ length ys
    → scans (take (released + want) ys) n ≡ scans (take released ys) n ++ scan_text released (take want (drop released ys)) ∷ []
scans_more ys n released want some one few whole within =
    let split = div-add-mod' released n in
    let e : released / n * n ≡ released = omega arith in
    let P : ℕ → Type 0 = λ x. scans (take (x + want) ys) n ≡ scans (take x ys) n ++ scan_text x (take want (drop x ys)) ∷ [] in
    subst P e (scans_after ys (released / n) n want some one few (omega arith))

-- no words, no scans
count_none : (n : ℕ) → (0 + n - 1) / n ≡ 0
count_none zero = refl
count_none (suc n) =
    let z : 0 + suc n - 1 ≡ 0 * suc n + n = omega arith in
    ap (λ (x : ℕ). x / suc n) z ∙ div-mul-add 0 (suc n) n (omega arith)

pub scans_none : (ys : List ℕ) (n released : ℕ) → released ≡ 0 → scans (take released ys) n ≡ []
unfolding scans
scans_none ys n released e =
    let f : ℕ → List ScanText = λ r. map (scan_at (take r ys) n) (range_with_len 0 (scan_count (take r ys) n)) in
    ap f e ∙ ap (λ (x : ℕ). map (scan_at [] n) (range_with_len 0 x)) (count_none n)
