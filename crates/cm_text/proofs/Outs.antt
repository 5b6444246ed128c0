-- The outputs that are left.
use Rattle.std.proofs.Common.{◌≡◌, ℕ, min, ◌+◌, ◌<◌, ◌≤◌, List, [], ◌∷◌, ◌++◌, length, get_or, drop, refl, sym, ap, ◌∙◌, append_assoc, append-nil, Option, Some, None, inl, inr}
use Rattle.std.specs.Prelude.{slice_get}
use Rattle.std.proofs.lemmas.Option.{slice_get_cases, slice_get_within, get_or_from_slice_get, none-some}
use Rattle.std.proofs.lemmas.List.{drop_more, drop_all, drop_min}
use Rattle.cm_expand.specs.Board.{BoardState}
use Rattle.cm_expand.specs.Taking.{left_of}
use Rattle.cm_expand.specs.Items.{items_of}
use Rattle.cm_expand.specs.Plan.{PlanText}
use Rattle.cm_expand.specs.declared.conv.Conv.{Conv}
use Rattle.cm_text.specs.Outputs.{output_text, output_texts}
use Rattle.cm_text.specs.Blocks.{outputs_of}

-- the line of a word that is put out at a conversion
abbrev pub output_line : ℕ → Conv → ℕ → List ℕ
output_line sub conv word = output_text (record { sub = sub; time = conv.time; index = conv.list_index; word = word })

abbrev pub outs_of : ℕ → List Conv → List ℕ → List ℕ
outs_of sub convs words = output_texts (outputs_of sub convs words)

past_end : (items : List Conv) (i : ℕ) → slice_get items i ≡ None → length items ≤ i
past_end items i none = elim (slice_get_cases items i).1 [
  | inl h ↦ absurd (none-some h.0 (sym none ∙ h.2))
  | inr h ↦ h.0
]

outs_none : (sub : ℕ) (items : List Conv) → outs_of sub items [] ≡ []
outs_none sub [] = refl
outs_none sub (c ∷ cs) = refl

outs_more : (sub : ℕ) (items : List Conv) (words out : List ℕ) (k i : ℕ) (c : Conv) (d : ℕ) → k < length items → i < length words → get_or items k c ≡ c
    → out ++ outs_of sub (drop k items) (drop i words) ≡ (out ++ output_line sub c (get_or words i d)) ++ outs_of sub (drop (k + 1) items) (drop (i + 1) words)
outs_more sub items words out k i c d within room here =
    ap (λ (l : List Conv). out ++ outs_of sub l (drop i words)) (drop_more items k c within ∙ ap (λ (x : Conv). x ∷ drop (k + 1) items) here)
    ∙ ap (λ (l : List ℕ). out ++ outs_of sub (c ∷ drop (k + 1) items) l) (drop_more words i d room)
    ∙ sym (append_assoc out (output_line sub c (get_or words i d)) (outs_of sub (drop (k + 1) items) (drop (i + 1) words)))

-- after the last conversion
pub ends_items : (sub : ℕ) (b : BoardState) (words out all : List ℕ) (i : ℕ) (o : Option Conv) → o ≡ slice_get (items_of b.plan) b.place → o ≡ None
    → out ++ outs_of sub (left_of b) (drop i words) ≡ all → out ≡ all
ends_items sub b words out all i o next none rest =
    let past : length (items_of b.plan) ≤ b.place = past_end (items_of b.plan) b.place (sym next ∙ none) in
    sym (append-nil out) ∙ ap (λ (l : List Conv). out ++ outs_of sub l (drop i words)) (sym (drop_all b.place (items_of b.plan) past)) ∙ rest

-- after the last word
pub ends_words : (sub : ℕ) (items : List Conv) (words out all : List ℕ) (i : ℕ) → length words ≤ i → out ++ outs_of sub items (drop i words) ≡ all → out ≡ all
ends_words sub items words out all i past rest =
    sym (append-nil out) ∙ ap (λ (l : List ℕ). out ++ l) (sym (ap (λ (l : List ℕ). outs_of sub items l) (drop_all i words past) ∙ outs_none sub items)) ∙ rest

-- a conversion with a word
pub goes_on : (sub : ℕ) (b new : BoardState) (words out all : List ℕ) (i d : ℕ) (o : Option Conv) (c : Conv) → o ≡ slice_get (items_of b.plan) b.place → o ≡ Some c → new ≡ record b { place = b.place + 1 } → i < length words
    → out ++ outs_of sub (left_of b) (drop i words) ≡ all → (out ++ output_line sub c (get_or words i d)) ++ outs_of sub (left_of new) (drop (i + 1) words) ≡ all
goes_on sub b new words out all i d o c next some after room rest =
    let items : List Conv = items_of b.plan in
    let here : slice_get items b.place ≡ Some c = sym next ∙ some in
    ap (λ (x : BoardState). (out ++ output_line sub c (get_or words i d)) ++ outs_of sub (left_of x) (drop (i + 1) words)) after
    ∙ (sym (outs_more sub items words out b.place i c d (slice_get_within items b.place c here) room (get_or_from_slice_get items b.place c c here)) ∙ rest)

-- no words, no lines
pub outs_empty : (sub : ℕ) (items : List Conv) (words : List ℕ) → words ≡ [] → [] ≡ outs_of sub items words
outs_empty sub items words none = sym (ap (outs_of sub items) none ∙ outs_none sub items)

-- the words of the first conversions, and those after them
pub outs_append : (sub : ℕ) (items : List Conv) (first rest : List ℕ) → outs_of sub items (first ++ rest) ≡ outs_of sub items first ++ outs_of sub (drop (length first) items) rest
outs_append sub items [] rest = ap (λ (l : List ℕ). l ++ outs_of sub items rest) (sym (outs_none sub items))
outs_append sub [] (w ∷ first) rest = refl
outs_append sub (c ∷ items) (w ∷ first) rest =
    ap (λ (l : List ℕ). output_line sub c w ++ l) (outs_append sub items first rest) ∙ sym (append_assoc (output_line sub c w) (outs_of sub items first) (outs_of sub (drop (length first) items) rest))

-- what a board has left that has passed so many conversions
pub left_after : (b : BoardState) (p : PlanText) (count : ℕ) → b.plan ≡ p → b.place ≡ min count (length (items_of p)) → left_of b ≡ drop count (items_of p)
left_after b p count plan place =
    ap (λ (q : PlanText). drop b.place (items_of q)) plan ∙ (ap (λ (k : ℕ). drop k (items_of p)) place ∙ drop_min count (items_of p))
