-- The words of a plan, piece by piece.
use Rattle.std.proofs.Common.{◌≡◌, ℕ, zero, suc, ◌+◌, ◌-◌, ◌<◌, ◌≤◌, min, ◌⊎◌, inl, inr, get_or, length, take, drop, List, [], ◌∷◌, refl, sym, ap, ap₂, subst, ◌∙◌, arith}
use Rattle.std.proofs.Math.Nat.{eq-or-lt_of_le}
use Rattle.std.specs.Prelude.{nat_le}
use Rattle.std.proofs.lemmas.Bool.{cond-true, le-leb}
use Rattle.std.proofs.lemmas.List.{get_or-drop, get_or-map, get_or-take, length-drop, length-map, length-take-le}
use Rattle.cm_sample.specs.Rule.{map_from}
use Rattle.cm_expand.specs.Board.{BoardState}
use Rattle.cm_expand.specs.Fit.{IsExpansion}
use Rattle.cm_expand.specs.Items.{conv_at, items_of}
use Rattle.cm_expand.specs.Laws.{AreUpTo}
use Rattle.cm_expand.specs.Plan.{PlanText, times_of}
use Rattle.cm_expand.specs.PlanView.{words_of}
use Rattle.cm_expand.specs.Taking.{come_first, raw_words}
use Rattle.cm_expand.specs.declared.conv.Conv.{Conv}
use Rattle.cm_client.specs.Source.{SourceText}
use Rattle.cm_client.specs.SourceView.{IsSource, source_text}
use Rattle.cm_client.specs.declared.words.WordSource.TheInside.{Inside}

-- all of an expansion comes by its horizon
come_all : (p : PlanText) (high k : ℕ) (ts : List ℕ) → AreUpTo high ts → come_first high (map_from (conv_at p) k ts) ≡ length (map_from (conv_at p) k ts)
come_all p high k [] up = refl
come_all p high k (t ∷ ts) up =
    let rest : come_first high (map_from (conv_at p) (suc k) ts) ≡ length (map_from (conv_at p) (suc k) ts) = come_all p high (suc k) ts up.1 in
    let more : 1 + come_first high (map_from (conv_at p) (suc k) ts) ≡ suc (length (map_from (conv_at p) (suc k) ts)) = omega (arith, rest) in
    cond-true (nat_le t high) (1 + come_first high (map_from (conv_at p) (suc k) ts)) 0 (le-leb _ _ up.0) ∙ more

left_all : (p : PlanText) (high k place : ℕ) (ts : List ℕ) → AreUpTo high ts → come_first high (drop place (map_from (conv_at p) k ts)) ≡ length (drop place (map_from (conv_at p) k ts))
left_all p high k zero ts up = come_all p high k ts up
left_all p high k (suc place) [] up = refl
left_all p high k (suc place) (t ∷ ts) up = left_all p high (suc k) place ts up.1

pub all_come : (p : PlanText) (place : ℕ) → IsExpansion p → come_first p.signals.horizon (drop place (items_of p)) ≡ length (drop place (items_of p))
all_come p place is = left_all p p.signals.horizon 0 place (times_of p) is.horizon

-- a word of a piece is that of the conversion at its place
word_at : (piece : List ℕ) (items : List Conv) (count given before : ℕ) → given < count → before + count ≤ length items → take count piece ≡ raw_words (take count (drop before items)) →
    get_or (raw_words items) (before + given) 0 ≡ get_or piece given 0
word_at piece items count given before more within kept =
    let d : Conv = record { time = 0; place = 0; list_index = 0; raw = 0 } in
    let left : length (drop before items) ≡ length items - before = length-drop before items in
    let size : length (take count (drop before items)) ≡ count = length-take-le count (drop before items) (omega (arith, left, within)) in
    get_or-map (λ (c : Conv). c.raw) items (before + given) d 0 (omega (arith, more, within))
    ∙ ap (λ (c : Conv). c.raw) (sym (get_or-drop before items given d) ∙ sym (get_or-take count (drop before items) given d more))
    ∙ sym (get_or-map (λ (c : Conv). c.raw) (take count (drop before items)) given d 0 (omega (arith, size, more)))
    ∙ ap (λ (xs : List ℕ). get_or xs given 0) (sym kept)
    ∙ get_or-take count piece given 0 more

next_at : (s : Inside) → IsSource s → s.given < s.count → ((source_text s).place < length (source_text s).all) × (get_or (source_text s).all (source_text s).place 0 ≡ get_or s.piece s.given 0)
unfolding words_of
next_at s is more =
    let within : s.board.place ≤ length (items_of s.board.plan) = is.within more in
    let count : length (raw_words (items_of s.board.plan)) ≡ length (items_of s.board.plan) = length-map _ _ in
    let before : (s.board.place - s.count) + s.count ≤ length (items_of s.board.plan) = omega (arith, is.before, within) in
    (omega (arith, is.before, within, more, count), word_at s.piece (items_of s.board.plan) s.count s.given (s.board.place - s.count) more before is.kept)

-- the next word is the first that wasn't given on
pub next_there : (s : Inside) (t : SourceText) → source_text s ≡ t → IsSource s → s.given < s.count → (t.place < length t.all) × (get_or t.all t.place 0 ≡ get_or s.piece s.given 0)
next_there s t e is more = subst (λ (t : SourceText). (t.place < length t.all) × (get_or t.all t.place 0 ≡ get_or s.piece s.given 0)) e (next_at s is more)

none_at : (s : Inside) → IsSource s → s.count ≤ s.given → length (source_text s).all ≤ (source_text s).place
unfolding words_of
none_at s is all =
    let same : s.given ≡ s.count = omega (arith, all, is.given) in
    let count : length (raw_words (items_of s.board.plan)) ≡ length (items_of s.board.plan) = length-map _ _ in
    let none = is.some same in
    omega (arith, none, count, same, is.before)

-- all were given where the board has no more
pub none_there : (s : Inside) (t : SourceText) → source_text s ≡ t → IsSource s → s.count ≤ s.given → length t.all ≤ t.place
none_there s t e is all = subst (λ (t : SourceText). length t.all ≤ t.place) e (none_at s is all)

left_if : (s : Inside) (t : SourceText) → source_text s ≡ t → IsSource s → t.place < length t.all → (s.given ≡ s.count) ⊎ (s.given < s.count) → s.given < s.count
left_if s t e is more (inr lt) = lt
left_if s t e is more (inl same) = let none = none_there s t e is (omega (arith, same)) in omega (arith, none, more)

-- where there is a word, there is one that wasn't given on
pub some_left : (s : Inside) (t : SourceText) → source_text s ≡ t → IsSource s → t.place < length t.all → s.given < s.count
some_left s t e is more = left_if s t e is more (eq-or-lt_of_le is.given)

-- a piece that a board has just given
pub filled : (s : Inside) (old : BoardState) → s.board ≡ record old { place = old.place + s.count } → s.given ≡ 0 → s.horizon ≡ old.plan.signals.horizon → s.count ≤ 64 →
    take s.count s.piece ≡ raw_words (take s.count (drop old.place (items_of old.plan))) →
    (0 < s.count → old.place + s.count ≤ length (items_of old.plan)) →
    (s.count ≡ 0 → length (items_of old.plan) ≤ old.place) → IsSource s
filled s old e none high few kept within some =
    let plan = ap (λ (b : BoardState). b.plan) e in
    let place = ap (λ (b : BoardState). b.place) e in
    let back : old.place ≡ s.board.place - s.count = omega (arith, place) in
    let all = ap (λ (p : PlanText). length (items_of p)) plan in
    record {
      few = few;
      given = omega (arith, none);
      before = omega (arith, place);
      within = λ more. (let last = within (omega (arith, more)) in omega (arith, last, place, all));
      horizon = high ∙ ap (λ (p : PlanText). p.signals.horizon) (sym plan);
      kept = kept ∙ ap₂ (λ (i : ℕ) (p : PlanText). raw_words (take s.count (drop i (items_of p)))) back (sym plan);
      some = λ same. (let last = some (omega (arith, same, none)) in omega (arith, last, place, all));
    }

-- as many as there is room for were taken, or all that are left
pub taken_left : (p : PlanText) (place horizon room count : ℕ) → IsExpansion p → horizon ≡ p.signals.horizon → count ≡ min room (come_first horizon (drop place (items_of p))) → count ≡ min room (length (items_of p) - place)
taken_left p place horizon room count is high taken =
    taken ∙ ap (λ (n : ℕ). min room n) (ap (λ (h : ℕ). come_first h (drop place (items_of p))) high ∙ all_come p place is ∙ length-drop place (items_of p))
