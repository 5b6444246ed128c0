-- Words stored in the cells of a ring, place after place.
use Rattle.std.proofs.Common.{◌≡◌, ℕ, suc, ◌+◌, ◌-◌, ◌%◌, ◌<◌, ◌≤◌, List, [], ◌∷◌, ◌++◌, length, get_or, take, drop, set, refl, sym, ap, ap₂, ◌∙◌, inl, inr, arith, append_assoc, append-nil, length-set, length-append, mod-eq_of_lt, min, length-drop, get_or-drop, get_or-take}
use native.Mathlib.Nat.{mod-add-mod}
use Rattle.std.proofs.lemmas.List.{drop-set-lt, take_more_set, take-append-drop, length-take-le, get_or-append_right, get_or_append_left, get_or_default, same_lists}
use Rattle.std.proofs.lemmas.Bool.{cases_lt}
use Rattle.cm_ring_core.specs.Held.{held_at, stored_from}
use Rattle.cm_ring_core.proofs.Cells.{held_at-set, length-held_at, take-held_at, wraps_once, get_or-held_at}
use Rattle.cm_sample.proofs.Mapped.{length-map_from, map_from-append}
use Rattle.cm_ring_core.proofs.Rings.{same_ring, written_last}
use Rattle.cm_ring_core.specs.Local.{Ring}
use Rattle.cm_ring_core.specs.Pushed.{pushed}
use Rattle.cm_sample.specs.Rule.{map_from, munged_word}

pub length-stored_from : (cells : List ℕ) (size place : ℕ) (words : List ℕ) → length (stored_from cells size place words) ≡ length cells
length-stored_from cells size place [] = refl
length-stored_from cells size place (x ∷ words) = length-stored_from (set cells (place % size) x) size (suc place) words ∙ length-set cells (place % size) x

-- some words, and then the others
pub stored_from-append : (cells : List ℕ) (size place : ℕ) (some more : List ℕ) →
    stored_from cells size place (some ++ more) ≡ stored_from (stored_from cells size place some) size (place + length some) more
stored_from-append cells size place [] more = ap (λ p. stored_from cells size p more) (omega arith)
stored_from-append cells size place (x ∷ some) more =
    stored_from-append (set cells (place % size) x) size (suc place) some more
    ∙ ap (λ p. stored_from (stored_from (set cells (place % size) x) size (suc place) some) size p more) (omega arith)

-- words stored one part after the other, each made by its place
pub stored_parts : (f : ℕ → ℕ → ℕ) (cells : List ℕ) (size place : ℕ) (some more : List ℕ) →
    stored_from (stored_from cells size place (map_from f place some)) size (place + length some) (map_from f (place + length some) more)
    ≡ stored_from cells size place (map_from f place (some ++ more))
stored_parts f cells size place some more =
    ap (λ n. stored_from (stored_from cells size place (map_from f place some)) size (place + n) (map_from f (place + length some) more)) (sym (length-map_from f place some))
    ∙ sym (stored_from-append cells size place (map_from f place some) (map_from f (place + length some) more))
    ∙ ap (stored_from cells size place) (sym (map_from-append f place some more))

-- words stored in cells one after the other
pub stored_run : (cells : List ℕ) (size place cell : ℕ) (words : List ℕ) → cell + length words ≤ length cells → ((i : ℕ) → i < length words → (place + i) % size ≡ cell + i) →
    stored_from cells size place words ≡ take cell cells ++ (words ++ drop (cell + length words) cells)
stored_run cells size place cell [] fits at =
    let here : cell ≡ cell + 0 = omega arith in
    sym (take-append-drop cell cells) ∙ ap (λ n. take cell cells ++ drop n cells) here
stored_run cells size place cell (x ∷ words) fits at =
    let first : place % size ≡ cell = let p : place + 0 ≡ place = omega arith in let q : cell + 0 ≡ cell = omega arith in ap (λ n. n % size) (sym p) ∙ at 0 (omega arith) ∙ q in
    let changed = set cells cell x in
    let same = length-set cells cell x in
    let last : cell + 1 + length words ≡ cell + suc (length words) = omega arith in
    ap (λ k. stored_from (set cells k x) size (suc place) words) first
    ∙ stored_run changed size (suc place) (cell + 1) words (omega arith) (λ i below. later i (at (suc i) (omega arith)))
    ∙ ap₂ (λ (some rest : List ℕ). some ++ (words ++ rest)) (take_more_set cells cell x (omega arith)) (drop-set-lt (cell + 1 + length words) cells cell x (omega arith) ∙ ap (λ n. drop n cells) last)
    ∙ append_assoc (take cell cells) (x ∷ []) (words ++ drop (cell + suc (length words)) cells)
  where
    later : (i : ℕ) → (place + suc i) % size ≡ cell + suc i → (suc place + i) % size ≡ cell + 1 + i
    later i there =
        let p : suc place + i ≡ place + suc i = omega arith in
        let q : cell + suc i ≡ cell + 1 + i = omega arith in
        ap (λ n. n % size) p ∙ there ∙ q

-- the words up to one and those from it on
pub stored_both : (f : ℕ → ℕ → ℕ) (cells : List ℕ) (size place : ℕ) (words : List ℕ) (k : ℕ) → k ≤ length words →
    stored_from (stored_from cells size place (map_from f place (take k words))) size (place + k) (map_from f (place + k) (drop k words)) ≡ stored_from cells size place (map_from f place words)
stored_both f cells size place words k within =
    ap (λ n. stored_from (stored_from cells size place (map_from f place (take k words))) size (place + n) (map_from f (place + n) (drop k words))) (sym (length-take-le k words within))
    ∙ stored_parts f cells size place (take k words) (drop k words)
    ∙ ap (λ xs. stored_from cells size place (map_from f place xs)) (take-append-drop k words)

-- the cells up to the end, and those around it
pub before_end : (size place cell i : ℕ) → cell ≡ place % size → cell + i < size → (place + i) % size ≡ cell + i
before_end size place cell i at within = sym (mod-add-mod place size i) ∙ ap (λ c. (c + i) % size) (sym at) ∙ mod-eq_of_lt within

pub around_end : (size place cell k i : ℕ) → cell ≡ place % size → cell + k ≡ size → i < size → (place + k + i) % size ≡ i
around_end size place cell k i at to_end below =
    let here : place + k + i ≡ place + (k + i) = omega arith in
    ap (λ n. n % size) here ∙ sym (mod-add-mod place size (k + i)) ∙ ap (λ c. (c + (k + i)) % size) (sym at) ∙ wrapped (cell + (k + i)) (omega arith)
  where
    wrapped : (j : ℕ) → j ≡ size + i → j % size ≡ i
    wrapped j e = elim (wraps_once size j (omega arith)) [
      | inl low ↦ absurd (let l = low.0 in omega arith)
      | inr high ↦ high.1 ∙ omega arith
    ]

-- a list one longer whose last item is stored
held_at-next : (cells : List ℕ) (size lo count word : ℕ) → length cells ≡ size → count + 1 ≤ size →
    held_at (set cells ((lo + count) % size) word) size lo (count + 1) ≡ held_at cells size lo count ++ word ∷ []
held_at-next cells size lo count word its_size fits =
    let some = length-held_at cells size lo count in
    let more = length-held_at cells size lo (count + 1) in
    held_at-set cells size lo (count + 1) count word fits (omega arith) its_size
    ∙ written_last (held_at cells size lo count) (held_at cells size lo (count + 1)) count word
    (ap (λ n. take n (held_at cells size lo (count + 1))) some ∙ take-held_at cells size lo count (count + 1) (omega arith)) (omega arith) (sym some)

-- the words stored after the held ones are held too
pub held_at-stored_from : (cells : List ℕ) (size lo count : ℕ) (words : List ℕ) → length cells ≡ size → count + length words ≤ size →
    held_at (stored_from cells size (lo + count) words) size lo (count + length words) ≡ held_at cells size lo count ++ words
held_at-stored_from cells size lo count [] its_size fits = ap (held_at cells size lo) (omega arith) ∙ sym (append-nil (held_at cells size lo count))
held_at-stored_from cells size lo count (x ∷ words) its_size fits =
    let cells' = set cells ((lo + count) % size) x in
    let next : suc (lo + count) ≡ lo + (count + 1) = omega arith in
    let longer : count + suc (length words) ≡ count + 1 + length words = omega arith in
    ap₂ (λ p n. held_at (stored_from cells' size p words) size lo n) next longer
    ∙ held_at-stored_from cells' size lo (count + 1) words (length-set cells ((lo + count) % size) x ∙ its_size) (omega arith)
    ∙ ap (λ xs. xs ++ words) (held_at-next cells size lo count x its_size (omega arith))
    ∙ append_assoc (held_at cells size lo count) (x ∷ []) words

-- words pushed one part after the other
pub pushed_parts : (ring : Ring) (some more : List ℕ) → pushed (pushed ring some) more ≡ pushed ring (some ++ more)
pushed_parts ring some more =
    let f = munged_word ring.rule in
    let place : ring.w + length some + length more ≡ ring.w + length (some ++ more) = omega (arith, length-append some more) in
    same_ring _ _ refl refl refl refl place place place
    (stored_parts f ring.cells ring.size ring.w some more)
    (append_assoc ring.held (map_from f ring.w some) (map_from f (ring.w + length some) more) ∙ ap (λ xs. ring.held ++ xs) (sym (map_from-append f ring.w some more)))

-- what the cells hold of places, as the cells up to the end and those around it
pub held_at-around : (cells : List ℕ) (size lo first count run : ℕ) → length cells ≡ size → first ≡ lo % size → first < size → count ≤ size → run ≡ min count (size - first) →
    take run (drop first cells) ++ take (count - run) cells ≡ held_at cells size lo count
held_at-around cells size lo first count run its_size at within fits its_run =
    same_lists _ _ (all ∙ sym (length-held_at cells size lo count)) (λ i d h. each i d (omega (arith, all)) ∙ sym (get_or-held_at cells size lo count i d (omega (arith, all))))
  where
    prefix : length (take run (drop first cells)) ≡ run
    prefix = length-take-le run (drop first cells) (omega (arith, length-drop first cells))

    back : length (take (count - run) cells) ≡ count - run
    back = length-take-le (count - run) cells (omega arith)

    all : length (take run (drop first cells) ++ take (count - run) cells) ≡ count
    all = omega (arith, length-append (take run (drop first cells)) (take (count - run) cells), prefix, back)

    each : (i d : ℕ) → i < count → get_or (take run (drop first cells) ++ take (count - run) cells) i d ≡ get_or cells ((lo + i) % size) 0
    each i d below = elim (cases_lt i run) [
      | inl low ↦
          get_or_append_left (take run (drop first cells)) (take (count - run) cells) d i (omega (arith, prefix))
          ∙ get_or-take run (drop first cells) i d low
          ∙ get_or-drop first cells i d
          ∙ get_or_default cells (first + i) d 0 (omega arith)
          ∙ ap (λ c. get_or cells c 0) (sym (before_end size lo first i at (omega arith)))
      | inr high ↦
          let here : lo + run + (i - run) ≡ lo + i = omega arith in
          get_or-append_right (take run (drop first cells)) (take (count - run) cells) run i d prefix high
          ∙ get_or-take (count - run) cells (i - run) d (omega arith)
          ∙ get_or_default cells (i - run) d 0 (omega arith)
          ∙ ap (λ c. get_or cells c 0) (sym (around_end size lo first run (i - run) at (omega arith) (omega arith)) ∙ ap (λ n. n % size) here)
    ]
