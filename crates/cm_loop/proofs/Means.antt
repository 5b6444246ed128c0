-- The words of an entry, and the mean of the last of them.
use Rattle.std.proofs.Common.{◌≡◌, ◌≢◌, ℕ, zero, suc, ◌+◌, ◌-◌, ◌%◌, ◌<◌, ◌≤◌, Bool, true, false, cond, List, [], ◌∷◌, ◌++◌, length, take, drop, get_or, sum, refl, sym, ap, ◌∙◌, subst, inl, inr, arith, length-append}
use Rattle.std.specs.Prelude.{nat_eq}
use Rattle.circular_buffer.specs.Buffer.{keep_last}
use Rattle.atomic_table.proofs.Lists.{one_turn}
use Rattle.std.proofs.Math.Nat.{add-mod_right}
use Rattle.std.proofs.lemmas.Bool.{cases_lt, ne_eqb, eq-eqb, lt-ltb, le-ltb}
use Rattle.std.proofs.lemmas.List.{append-nil, length-drop, drop-append-le, drop-drop, length-take, take_more, drop_all}
use Rattle.std.proofs.lemmas.List.Sums.{sum_by-append, sum_by-cons}
use Rattle.cm_loop.specs.Filter.{every_nth_back}
use Rattle.cm_loop.specs.State.{words_of_entry}

-- one word more
either_way : (b : Bool) (y : ℕ) (xs ys : List ℕ) → cond b (y ∷ (xs ++ ys)) (xs ++ ys) ≡ cond b (y ∷ xs) xs ++ ys
either_way true y xs ys = refl
either_way false y xs ys = refl

pub words-push : (n i place : ℕ) (x : List ℕ) (w : ℕ) → words_of_entry n i place (x ++ w ∷ []) ≡ words_of_entry n i place x ++ cond (nat_eq ((place + length x) % n) i) (w ∷ []) []
words-push n i place [] w = let e : place ≡ place + 0 = omega arith in ap (λ (p : ℕ). cond (nat_eq (p % n) i) (w ∷ []) []) e
words-push n i place (y ∷ x) w =
    let rest = words-push n i (place + 1) x w in
    let e : place + 1 + length x ≡ place + suc (length x) = omega arith in
    let more = rest ∙ ap (λ (p : ℕ). words_of_entry n i (place + 1) x ++ cond (nat_eq (p % n) i) (w ∷ []) []) e in
    ap (λ (l : List ℕ). cond (nat_eq (place % n) i) (y ∷ l) l) more ∙ either_way (nat_eq (place % n) i) y _ _

-- the last words, one more
pub keep-push : (window : ℕ) (xs : List ℕ) (w : ℕ) → keep_last (suc window) (xs ++ w ∷ []) ≡ keep_last window xs ++ w ∷ []
keep-push window xs w =
    let len : length (xs ++ w ∷ []) - suc window ≡ length xs - window = omega (arith, length-append xs (w ∷ [])) in
    ap (λ (k : ℕ). drop k (xs ++ w ∷ [])) len ∙ drop-append-le (length xs - window) xs (w ∷ []) (omega arith)

-- the last of the last
keep-keep : (few more : ℕ) (xs : List ℕ) → few ≤ more → keep_last few (keep_last more xs) ≡ keep_last few xs
keep-keep few more xs h =
    let len = length-drop (length xs - more) xs in
    let e : length xs - more + (length (drop (length xs - more) xs) - few) ≡ length xs - few = omega arith in
    drop-drop _ (length xs - more) xs ∙ ap (λ (k : ℕ). drop k xs) e

-- a window that is moved on
pub keep-on : (window : ℕ) (xs : List ℕ) (w : ℕ) → 1 ≤ window → keep_last window (keep_last window xs ++ w ∷ []) ≡ keep_last window (xs ++ w ∷ [])
keep-on zero xs w h = absurd (omega arith)
keep-on (suc window) xs w h = keep-push window (keep_last (suc window) xs) w ∙ (ap (λ (l : List ℕ). l ++ w ∷ []) (keep-keep window (suc window) xs (omega arith)) ∙ sym (keep-push window xs w))

module _ (n : ℕ) (some : 1 ≤ n) where
  -- places that are no places of the entry
  skipped : (i p d : ℕ) (y : List ℕ) → p + d ≤ length y → ((j : ℕ) → j < d → (p + j) % n ≢ i) → words_of_entry n i 0 (take (p + d) y) ≡ words_of_entry n i 0 (take p y)
  skipped i p zero y h ne = let e : p + 0 ≡ p = omega arith in ap (λ (k : ℕ). words_of_entry n i 0 (take k y)) e
  skipped i p (suc d) y h ne =
      let e : p + suc d ≡ p + d + 1 = omega arith in
      let len : length (take (p + d) y) ≡ p + d = omega (arith, length-take (p + d) y) in
      let not : nat_eq ((0 + length (take (p + d) y)) % n) i ≡ false = ne_eqb _ _ (λ z. ne d (omega arith) (ap (λ (k : ℕ). k % n) (let f : p + d ≡ 0 + length (take (p + d) y) = omega arith in f) ∙ z)) in
      ap (λ (k : ℕ). words_of_entry n i 0 (take k y)) e
      ∙ (ap (words_of_entry n i 0) (take_more y (p + d) 0 (omega arith))
      ∙ (words-push n i 0 (take (p + d) y) (get_or y (p + d) 0)
      ∙ (ap (λ (b : Bool). words_of_entry n i 0 (take (p + d) y) ++ cond b (get_or y (p + d) 0 ∷ []) []) not ∙ (append-nil _ ∙ skipped i p d y (omega arith) (λ j below. ne j (omega arith))))))

  -- the words of a place's entry up to that place
  abbrev pub upto : List ℕ → ℕ → List ℕ
  upto y k = words_of_entry n (k % n) 0 (take (k + 1) y)

  pushed : (y : List ℕ) (k : ℕ) → k < length y → upto y k ≡ words_of_entry n (k % n) 0 (take k y) ++ get_or y k 0 ∷ []
  pushed y k h =
      let len : length (take k y) ≡ k = omega (arith, length-take k y) in
      let yes : nat_eq ((0 + length (take k y)) % n) (k % n) ≡ true = eq-eqb _ _ (ap (λ (p : ℕ). p % n) (let f : 0 + length (take k y) ≡ k = omega arith in f)) in
      ap (words_of_entry n (k % n) 0) (take_more y k 0 h) ∙ (words-push n (k % n) 0 (take k y) (get_or y k 0) ∙ ap (λ (b : Bool). words_of_entry n (k % n) 0 (take k y) ++ cond b (get_or y k 0 ∷ []) []) yes)

  -- the first word of an entry
  upto_first : (y : List ℕ) (k : ℕ) → k < length y → k < n → upto y k ≡ get_or y k 0 ∷ []
  upto_first y k h first =
      let z : 0 + k ≡ k = omega arith in
      let none : words_of_entry n (k % n) 0 (take k y) ≡ [] = ap (λ (p : ℕ). words_of_entry n (k % n) 0 (take p y)) (sym z) ∙ skipped (k % n) 0 k y (omega arith) (λ j below e. let q : 0 + j ≡ k = one_turn (0 + j) k n (omega arith) (omega arith) e in omega arith) in
      pushed y k h ∙ ap (λ (l : List ℕ). l ++ get_or y k 0 ∷ []) none

  -- and one after another
  upto_next : (y : List ℕ) (k : ℕ) → k < length y → n ≤ k → upto y k ≡ upto y (k - n) ++ get_or y k 0 ∷ []
  upto_next y k h next =
      let p : k - n + 1 + (n - 1) ≡ k = omega arith in
      let back : (k - n) % n ≡ k % n = let e : k ≡ k - n + n = omega arith in sym (ap (λ (x : ℕ). x % n) e ∙ add-mod_right (k - n) n) in
      let skip : words_of_entry n (k % n) 0 (take k y) ≡ words_of_entry n (k % n) 0 (take (k - n + 1) y) = ap (λ (x : ℕ). words_of_entry n (k % n) 0 (take x y)) (sym p) ∙ skipped (k % n) (k - n + 1) (n - 1) y (omega arith)
      (λ j below e. let q : k - n + 1 + j ≡ k = one_turn (k - n + 1 + j) k n (omega arith) (omega arith) e in omega arith) in
      pushed y k h ∙ ap (λ (l : List ℕ). l ++ get_or y k 0 ∷ []) (skip ∙ ap (λ (i : ℕ). words_of_entry n i 0 (take (k - n + 1) y)) (sym back))

  -- the samples back from a place are the last words of its entry, in the other order
  pub record SameMean (xs ys : List ℕ) : Type 0 where
    pub total : sum xs ≡ sum ys
    pub count : length xs ≡ length ys

  more : (v : ℕ) (xs ys : List ℕ) → SameMean xs ys → SameMean (v ∷ xs) (ys ++ v ∷ [])
  more v xs ys h = let t = h.total in let c = h.count in record {
    total = omega (arith, sum_by-cons (λ (x : ℕ). x) v xs, sum_by-append (λ (x : ℕ). x) ys (v ∷ []), sum_by-cons (λ (x : ℕ). x) v []);
    count = omega (arith, length-append ys (v ∷ []));
  }

  pub same_mean : (left : ℕ) (y : List ℕ) (k : ℕ) → k < length y → SameMean (every_nth_back y n left k) (keep_last left (upto y k))
  same_mean zero y k h =
      let none : keep_last zero (upto y k) ≡ [] = drop_all (length (upto y k) - 0) (upto y k) (omega arith) in
      subst (λ (l : List ℕ). SameMean [] l) (sym none) (record { total = refl; count = refl })
  same_mean (suc left) y k h = elim (cases_lt k n) [
    | inl first ↦
        let test = lt-ltb k n first in
        let mine : keep_last (suc left) (upto y k) ≡ [] ++ get_or y k 0 ∷ [] = ap (keep_last (suc left)) (upto_first y k h first) ∙ (keep-push left [] (get_or y k 0) ∙ ap (λ (l : List ℕ). l ++ get_or y k 0 ∷ []) (drop_all (0 - left) [] (omega arith))) in
        let P : Bool → Type 0 = λ b. SameMean (get_or y k 0 ∷ cond b [] (every_nth_back y n left (k - n))) (keep_last (suc left) (upto y k)) in
        subst P (sym test) (subst (λ (l : List ℕ). SameMean (get_or y k 0 ∷ []) l) (sym mine) (more (get_or y k 0) [] [] (record { total = refl; count = refl })))
    | inr next ↦
        let test = le-ltb k n next in
        let rest = same_mean left y (k - n) (omega arith) in
        let mine : keep_last (suc left) (upto y k) ≡ keep_last left (upto y (k - n)) ++ get_or y k 0 ∷ [] = ap (keep_last (suc left)) (upto_next y k h next) ∙ keep-push left (upto y (k - n)) (get_or y k 0) in
        let P : Bool → Type 0 = λ b. SameMean (get_or y k 0 ∷ cond b [] (every_nth_back y n left (k - n))) (keep_last (suc left) (upto y k)) in
        subst P (sym test) (subst (λ (l : List ℕ). SameMean (get_or y k 0 ∷ every_nth_back y n left (k - n)) l) (sym mine) (more (get_or y k 0) _ _ rest))
  ]
