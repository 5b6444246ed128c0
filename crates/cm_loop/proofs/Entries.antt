-- A sample more in an entry.
use Rattle.std.proofs.Common.{◌≡◌, ℕ, ◌+◌, ◌-◌, ◌*◌, ◌/◌, ◌<◌, ◌≤◌, Bool, cond, List, [], ◌∷◌, ◌++◌, length, drop, sum, refl, sym, ap, ◌∙◌, subst, inl, inr, Option, None, unwrap_or, arith, length-append, mul-le-mul_right}
use Rattle.std.specs.Prelude.{nat_lt, slice_get}
use Rattle.circular_buffer.specs.Buffer.{Buffer, buffer, keep_last}
use Rattle.std.proofs.lemmas.Bool.{cases_lt, lt-ltb, le-ltb}
use Rattle.std.proofs.lemmas.Nat.{div_below}
use Rattle.std.proofs.lemmas.List.{length-drop}
use Rattle.std.proofs.lemmas.List.Elements.{All-drop, All-push}
use Rattle.std.proofs.lemmas.List.Sums.{sum_by-append, sum_by-cons, sum_by-le}
use Rattle.cm_loop.specs.Entry.{AreSummed}
use Rattle.cm_loop.specs.declared.rule.LoopItem.{LoopItem}

-- the sum of so few samples fits
pub total_few : (words : List ℕ) (window : ℕ) (item : LoopItem) (total : ℕ) → AreSummed words window item total → total ≤ 16 * 4294967296
total_few words window item total h =
    let max = h.item_is.1 in let t = h.total_is in let f = h.few in let w = h.window_is in
    let le = sum_by-le (λ (x : ℕ). x) item.in_max words h.limited in
    let up : length words * item.in_max ≤ 16 * item.in_max = mul-le-mul_right item.in_max (omega arith) in omega arith

-- the mean of samples isn't above the greatest code
pub mean_within : (words : List ℕ) (window : ℕ) (item : LoopItem) (total : ℕ) → AreSummed words window item total → 0 < length words → total / length words ≤ item.in_max
mean_within words window item total h some =
    let t = h.total_is in
    let le = sum_by-le (λ (x : ℕ). x) item.in_max words h.limited in
    let below : total < (item.in_max + 1) * length words = omega arith in
    let q : total / length words < item.in_max + 1 = div_below total (length words) (item.in_max + 1) some below in omega arith

-- the sample that goes, where the window is full
abbrev oldest : List ℕ → ℕ → ℕ → Option ℕ
oldest words window w = cond (nat_lt (length words) window) None (slice_get (words ++ w ∷ []) 0)

sum-push : (xs : List ℕ) (w : ℕ) → sum (xs ++ w ∷ []) ≡ sum xs + w
sum-push xs w = omega (arith, sum_by-append (λ (x : ℕ). x) xs (w ∷ []), sum_by-cons (λ (x : ℕ). x) w [])

-- with the sum of what goes taken away, the samples are summed
kept_by : (words : List ℕ) (window : ℕ) (item : LoopItem) (total w out : ℕ) → AreSummed words window item total → w ≤ item.in_max → sum (keep_last window (words ++ w ∷ [])) + out ≡ sum words + w
    → AreSummed (keep_last window (words ++ w ∷ [])) window item (total + w - out)
kept_by words window item total w out h fits same =
    let t = h.total_is in let r = h.window_is in let len = length-drop (length (words ++ w ∷ []) - window) (words ++ w ∷ []) in record {
      total_is = omega arith;
      few = omega arith;
      window_is = h.window_is;
      item_is = h.item_is;
      limited = All-drop (λ x. x ≤ item.in_max) (length (words ++ w ∷ []) - window) (words ++ w ∷ []) (All-push (λ x. x ≤ item.in_max) words w h.limited fits);
    }

-- where the window is full, the first sample goes
kept_full : (words : List ℕ) (window : ℕ) (item : LoopItem) (total w : ℕ) → AreSummed words window item total → w ≤ item.in_max → window ≤ length words → (out : Option ℕ) → out ≡ slice_get (words ++ w ∷ []) 0
    → AreSummed (keep_last window (words ++ w ∷ [])) window item (total + w - unwrap_or out 0)
kept_full [] window item total w h fits full out is = let r = h.window_is in absurd (omega arith)
kept_full (y ∷ ys) window item total w h fits full out is =
    let few = h.few in
    let cut : length (y ∷ (ys ++ w ∷ [])) - window ≡ 1 = omega (arith, length-append ys (w ∷ [])) in
    let rest : keep_last window (y ∷ (ys ++ w ∷ [])) ≡ ys ++ w ∷ [] = ap (λ (k : ℕ). drop k (y ∷ (ys ++ w ∷ []))) cut in
    let all : sum (keep_last window (y ∷ (ys ++ w ∷ []))) + y ≡ sum (y ∷ ys) + w = ap (λ (l : List ℕ). sum l + y) rest ∙ (let a = sum-push ys w in let b = sum_by-cons (λ (x : ℕ). x) y ys in omega arith) in
    subst (λ (o : Option ℕ). AreSummed (keep_last window (y ∷ (ys ++ w ∷ []))) window item (total + w - unwrap_or o 0)) (sym is) (kept_by (y ∷ ys) window item total w y h fits all)

-- in both cases
kept_either : (words : List ℕ) (window : ℕ) (item : LoopItem) (total w : ℕ) → AreSummed words window item total → w ≤ item.in_max → AreSummed (keep_last window (words ++ w ∷ [])) window item (total + w - unwrap_or (oldest words window w) 0)
kept_either words window item total w h fits = elim (cases_lt (length words) window) [
  | inl there ↦
      let cut : length (words ++ w ∷ []) - window ≡ 0 = omega (arith, length-append words (w ∷ [])) in
      let all : keep_last window (words ++ w ∷ []) ≡ words ++ w ∷ [] = ap (λ (k : ℕ). drop k (words ++ w ∷ [])) cut in
      subst (λ (b : Bool). AreSummed (keep_last window (words ++ w ∷ [])) window item (total + w - unwrap_or (cond b None (slice_get (words ++ w ∷ []) 0)) 0)) (sym (lt-ltb (length words) window there))
      (kept_by words window item total w 0 h fits (let a = ap (sum) all in let b = sum-push words w in omega arith))
  | inr full ↦
      subst (λ (b : Bool). AreSummed (keep_last window (words ++ w ∷ [])) window item (total + w - unwrap_or (cond b None (slice_get (words ++ w ∷ []) 0)) 0)) (sym (le-ltb (length words) window full))
      (kept_full words window item total w h fits full (slice_get (words ++ w ∷ []) 0) refl)
]

-- as the code has it
pub kept : (words : List ℕ) (window : ℕ) (item : LoopItem) (total w : ℕ) → AreSummed words window item total → w ≤ item.in_max → (b : Buffer ℕ) → b ≡ buffer (keep_last window (words ++ w ∷ [])) window
    → (o : Option ℕ) → o ≡ oldest words window w → (t : ℕ) → t ≡ total + w - unwrap_or o 0 → AreSummed b.items b.capacity item t
kept words window item total w h fits b e o is t total_is =
    subst (λ (x : Buffer ℕ). AreSummed x.items x.capacity item t) (sym e)
    (subst (λ (x : ℕ). AreSummed (keep_last window (words ++ w ∷ [])) window item x) (sym (total_is ∙ ap (λ (x : Option ℕ). total + w - unwrap_or x 0) is)) (kept_either words window item total w h fits))
