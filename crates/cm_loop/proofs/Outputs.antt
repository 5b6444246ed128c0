-- The outputs of each loop.
use Rattle.std.proofs.Common.{◌≡◌, ℕ, zero, suc, ◌+◌, ◌-◌, ◌*◌, ◌/◌, ◌%◌, ◌<◌, ◌≤◌, Bool, cond, List, [], ◌∷◌, length, take, get_or, All, refl, sym, ap, ◌∙◌, subst, inl, inr, Option, Some, arith, mul-le-mul_right}
use Rattle.std.specs.Prelude.{slice_get, slice_index, nat_lt, sum}
use Rattle.std.proofs.lemmas.Bool.{cases_lt, lt-ltb, le-ltb}
use Rattle.std.proofs.lemmas.Nat.{div_below}
use Rattle.std.proofs.lemmas.List.{get_or-take}
use Rattle.std.proofs.lemmas.List.FromFn.{get_or-map-range_with_len, length-map-range_with_len}
use Rattle.std.proofs.lemmas.List.Elements.{All-nil, All-cons}
use Rattle.std.proofs.lemmas.List.Sums.{sum_by-le}
use Rattle.std.proofs.Math.Nat.{add-mod_right}
use Rattle.cm_sample.proofs.Mapped.{length-map_from}
use Rattle.cm_sample.specs.Rule.{map_from, munged_word}
use Rattle.cm_loop.specs.declared.rule.LoopItem.{LoopItem}
use Rattle.cm_loop.specs.Filter.{FilterText, AreWithin, every_nth_back, mean, scaled, scaled_if, filtered, all_filtered}
use Rattle.cm_loop.specs.Law.{IsAsLong, IsOnScale}

pub length_all_filtered : (rule : FilterText) (x : List ℕ) → length (all_filtered rule x) ≡ length x
length_all_filtered rule x = length-map-range_with_len (filtered rule x) 0 (length x)

pub is_as_long : IsAsLong
is_as_long raw munge rule = length_all_filtered rule (map_from (munged_word munge) 0 raw) ∙ length-map_from (munged_word munge) 0 raw

-- the output of a place
pub output_there : (rule : FilterText) (x : List ℕ) (k : ℕ) → k < length x → get_or (all_filtered rule x) k 0 ≡ filtered rule x k
output_there rule x k h = get_or-map-range_with_len (filtered rule x) 0 (length x) k k 0 h (omega arith)

-- a look back sees nothing after its place
back_first : (x : List ℕ) (n most k cut : ℕ) → k < cut → every_nth_back (take cut x) n most k ≡ every_nth_back x n most k
back_first x n zero k cut h = refl
back_first x n (suc most) k cut h =
    let rest = back_first x n most (k - n) cut (omega arith) in
    ap (λ (v : ℕ). v ∷ cond (nat_lt k n) [] (every_nth_back (take cut x) n most (k - n))) (get_or-take cut x k 0 h)
    ∙ ap (λ (l : List ℕ). get_or x k 0 ∷ cond (nat_lt k n) [] l) rest

-- so the first samples give the output
pub filtered_first : (rule : FilterText) (x : List ℕ) (k cut : ℕ) → k < cut → filtered rule (take cut x) k ≡ filtered rule x k
filtered_first rule x k cut h = ap (λ (l : List ℕ). scaled_if (slice_get rule.items (k % length rule.items)) (mean l)) (back_first x (length rule.items) rule.window k cut h)

-- the samples of an entry are within its item
back_within : (rule : FilterText) (x : List ℕ) (item : LoopItem) → AreWithin rule x → (most k : ℕ) → k < length x → slice_get rule.items (k % length rule.items) ≡ Some item → All (λ w. w ≤ item.in_max) (every_nth_back x (length rule.items) most k)
back_within rule x item within zero k low at = All-nil (λ w. w ≤ item.in_max)
back_within rule x item within (suc most) k low at =
    let n : ℕ = length rule.items in let P : ℕ → Type 0 = λ w. w ≤ item.in_max in
    let Q : Bool → Type 0 = λ b. All P (cond b [] (every_nth_back x n most (k - n))) in
    All-cons P (slice_index x k) (cond (nat_lt k n) [] (every_nth_back x n most (k - n))) (within k item low at) (elim (cases_lt k n) [
      | inl first ↦ subst Q (sym (lt-ltb k n first)) (All-nil P)
      | inr next ↦
          let e : k ≡ k - n + n = omega arith in
          let back : k % n ≡ (k - n) % n = ap (λ (j : ℕ). j % n) e ∙ add-mod_right (k - n) n in
          subst Q (sym (le-ltb k n next)) (back_within rule x item within most (k - n) (omega arith) (ap (slice_get rule.items) (sym back) ∙ at))
    ])

some_back : (x : List ℕ) (n most k : ℕ) → 1 ≤ most → 0 < length (every_nth_back x n most k)
some_back x n zero k h = absurd (omega arith)
some_back x n (suc most) k h = omega arith

-- a mean of samples is within
mean_below : (words : List ℕ) (limit : ℕ) → 0 < length words → All (λ w. w ≤ limit) words → mean words ≤ limit
mean_below words limit some all =
    let le = sum_by-le (λ (x : ℕ). x) limit words all in
    let below : sum words < (limit + 1) * length words = omega arith in
    let q : sum words / length words < limit + 1 = div_below (sum words) (length words) (limit + 1) some below in omega arith

-- and on the output's scale
scaled_below : (item : LoopItem) (code : ℕ) → 1 ≤ item.in_max → code ≤ item.in_max → scaled item code ≤ item.out_max
scaled_below item code some low =
    let up : code * item.out_max ≤ item.in_max * item.out_max = mul-le-mul_right item.out_max low in
    let below : code * item.out_max < (item.out_max + 1) * item.in_max = omega arith in
    let q : code * item.out_max / item.in_max < item.out_max + 1 = div_below (code * item.out_max) item.in_max (item.out_max + 1) some below in omega arith

pub is_on_scale : IsOnScale
is_on_scale rule x k item ok within low at =
    let is = ok.items (k % length rule.items) item at in
    let words : List ℕ = every_nth_back x (length rule.items) rule.window k in
    let code = mean_below words item.in_max (some_back x (length rule.items) rule.window k ok.window.0) (back_within rule x item within rule.window k low at) in
    subst (λ (o : Option LoopItem). scaled_if o (mean words) ≤ item.out_max) (sym at) (scaled_below item (mean words) is.0 code)
