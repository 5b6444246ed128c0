-- The first line of some bytes, and what follows it.
use Rattle.std.proofs.Common.{◌≡◌, ℕ, suc, ◌+◌, ◌-◌, ◌<◌, ◌≤◌, ◌⊎◌, inl, inr, Bool, true, false, ◌||◌, List, [], ◌∷◌, ◌++◌, length, take, drop, refl, ap, sym, ◌∙◌, subst, arith, add-one, append-nil, length-append, length-drop, length-take, drop-drop, nat_lt, slice_range}
use Rattle.std.specs.List.{before_first, after_first, list_any, position_or_len}
use Rattle.std.proofs.lemmas.Bool.Decides.{nat_tests}
use Rattle.std.proofs.lemmas.List.{drop-take, drop_all, take_all}
use Rattle.std.proofs.lemmas.List.Elements.{All-head, All-nil, All-tail, All-cons}
use Rattle.cm_base.specs.Lines.{is_line_feed, lines_of, raw_lines}
use Rattle.cm_base.proofs.RawLines.{few_count, raw_lines-cons}
use Rattle.cm_dialogue.specs.Ahead.{BeginsLong, IsLine}
use Rattle.cm_dialogue.proofs.Heads.{first_here, first_later}

-- a byte that is no line feed belongs to the first line
before_later : (c : ℕ) (bytes : List ℕ) → is_line_feed c ≡ false → before_first is_line_feed (c ∷ bytes) ≡ c ∷ before_first is_line_feed bytes
before_later c bytes h = ap (λ (n : ℕ). take n (c ∷ bytes)) (first_later is_line_feed c bytes h)

after_later : (c : ℕ) (bytes : List ℕ) → is_line_feed c ≡ false → after_first is_line_feed (c ∷ bytes) ≡ after_first is_line_feed bytes
after_later c bytes h =
    ap (λ (n : ℕ). drop (n + 1) (c ∷ bytes)) (first_later is_line_feed c bytes h)
    ∙ ap (λ (n : ℕ). drop n (c ∷ bytes)) (add-one (suc (position_or_len is_line_feed bytes)))
    ∙ ap (λ (n : ℕ). drop n bytes) (sym (add-one (position_or_len is_line_feed bytes)))

-- and so do all bytes before it
pub before-more : (line bytes : List ℕ) → IsLine line → before_first is_line_feed (line ++ bytes) ≡ line ++ before_first is_line_feed bytes
before-more [] bytes one = refl
before-more (c ∷ line) bytes one =
    before_later c (line ++ bytes) (All-head (λ c. is_line_feed c ≡ false) c line one)
    ∙ ap (λ (rest : List ℕ). c ∷ rest) (before-more line bytes (All-tail (λ c. is_line_feed c ≡ false) c line one))

pub after-more : (line bytes : List ℕ) → IsLine line → after_first is_line_feed (line ++ bytes) ≡ after_first is_line_feed bytes
after-more [] bytes one = refl
after-more (c ∷ line) bytes one =
    after_later c (line ++ bytes) (All-head (λ c. is_line_feed c ≡ false) c line one) ∙ after-more line bytes (All-tail (λ c. is_line_feed c ≡ false) c line one)

-- the first line has no line feed
pub first-single : (bytes : List ℕ) → IsLine (before_first is_line_feed bytes)
first-single [] = All-nil (λ c. is_line_feed c ≡ false)
first-single (c ∷ bytes) = by (first-single bytes) (is_line_feed c) refl
  where
    by : IsLine (before_first is_line_feed bytes) → (b : Bool) → is_line_feed c ≡ b → IsLine (before_first is_line_feed (c ∷ bytes))
    by later true e = subst IsLine (sym (ap (λ (n : ℕ). take n (c ∷ bytes)) (first_here is_line_feed c bytes e))) (All-nil (λ c. is_line_feed c ≡ false))
    by later false e = subst IsLine (sym (before_later c bytes e)) (All-cons (λ c. is_line_feed c ≡ false) c (before_first is_line_feed bytes) e later)

-- bytes without a line feed are a line
pub none-single : (bytes : List ℕ) → list_any is_line_feed bytes ≡ false → IsLine bytes
none-single [] e = All-nil (λ c. is_line_feed c ≡ false)
none-single (c ∷ bytes) e = by (λ none. none-single bytes none) (is_line_feed c) refl
  where
    rest : (b : Bool) → is_line_feed c ≡ b → (b || list_any is_line_feed bytes) ≡ false
    rest b f = ap (λ (b : Bool). b || list_any is_line_feed bytes) (sym f) ∙ e

    by : (list_any is_line_feed bytes ≡ false → IsLine bytes) → (b : Bool) → is_line_feed c ≡ b → IsLine (c ∷ bytes)
    by later true f = absurd (let never : true ≡ false = rest true f in cc)
    by later false f = All-cons (λ c. is_line_feed c ≡ false) c bytes f (later (rest false f))

-- which nothing follows
pub nothing-after : (line : List ℕ) → IsLine line → after_first is_line_feed line ≡ []
nothing-after line one = ap (after_first is_line_feed) (sym (append-nil line)) ∙ after-more line [] one

-- the lines of a line
pub no-lines : raw_lines [] ≡ []
no-lines = refl

pub one-line : (c : ℕ) (line : List ℕ) → IsLine (c ∷ line) → raw_lines (c ∷ line) ≡ (c ∷ line) ∷ []
one-line c line one =
    raw_lines-cons (c ∷ line) (omega arith)
    ∙ ap (λ (first : List ℕ). first ∷ raw_lines (after_first is_line_feed (c ∷ line))) (ap (before_first is_line_feed) (sym (append-nil (c ∷ line))) ∙ before-more (c ∷ line) [] one ∙ append-nil (c ∷ line))
    ∙ ap (λ (rest : List ℕ). (c ∷ line) ∷ raw_lines rest) (nothing-after (c ∷ line) one)

-- at most one of them counts
pub one-counts : (line : List ℕ) → IsLine line → length (lines_of line) ≤ 1
one-counts [] one = omega (arith, few_count 1 (raw_lines []), ap length no-lines)
one-counts (c ∷ line) one = omega (arith, few_count 1 (raw_lines (c ∷ line)), ap length (one-line c line one))

-- bytes that have a line feed have the same first line, whatever follows them
pub before-has : (bytes rest : List ℕ) → list_any is_line_feed bytes ≡ true → before_first is_line_feed (bytes ++ rest) ≡ before_first is_line_feed bytes
before-has [] rest e = cc
before-has (c ∷ bytes) rest e = by (λ has. before-has bytes rest has) (is_line_feed c) refl
  where
    by : (list_any is_line_feed bytes ≡ true → before_first is_line_feed (bytes ++ rest) ≡ before_first is_line_feed bytes) → (b : Bool) → is_line_feed c ≡ b → before_first is_line_feed ((c ∷ bytes) ++ rest) ≡ before_first is_line_feed (c ∷ bytes)
    by later true f = ap (λ (n : ℕ). take n (c ∷ (bytes ++ rest))) (first_here is_line_feed c (bytes ++ rest) f) ∙ sym (ap (λ (n : ℕ). take n (c ∷ bytes)) (first_here is_line_feed c bytes f))
    by later false f =
        before_later c (bytes ++ rest) f
        ∙ ap (λ (line : List ℕ). c ∷ line) (later (sym (ap (λ (b : Bool). b || list_any is_line_feed bytes) f) ∙ e))
        ∙ sym (before_later c bytes f)

-- and what follows them comes after the others
pub after-has : (bytes rest : List ℕ) → list_any is_line_feed bytes ≡ true → after_first is_line_feed (bytes ++ rest) ≡ after_first is_line_feed bytes ++ rest
after-has [] rest e = cc
after-has (c ∷ bytes) rest e = by (λ has. after-has bytes rest has) (is_line_feed c) refl
  where
    by : (list_any is_line_feed bytes ≡ true → after_first is_line_feed (bytes ++ rest) ≡ after_first is_line_feed bytes ++ rest) → (b : Bool) → is_line_feed c ≡ b → after_first is_line_feed ((c ∷ bytes) ++ rest) ≡ after_first is_line_feed (c ∷ bytes) ++ rest
    by later true f =
        ap (λ (n : ℕ). drop (n + 1) (c ∷ (bytes ++ rest))) (first_here is_line_feed c (bytes ++ rest) f)
        ∙ sym (ap (λ (n : ℕ). drop (n + 1) (c ∷ bytes) ++ rest) (first_here is_line_feed c bytes f))
    by later false f =
        after_later c (bytes ++ rest) f
        ∙ later (sym (ap (λ (b : Bool). b || list_any is_line_feed bytes) f) ∙ e)
        ∙ ap (λ (after : List ℕ). after ++ rest) (sym (after_later c bytes f))

-- the first line doesn't get shorter by what follows
pub before-longer : (bytes rest : List ℕ) → length (before_first is_line_feed bytes) ≤ length (before_first is_line_feed (bytes ++ rest))
before-longer bytes rest = by (list_any is_line_feed bytes) refl
  where
    by : (b : Bool) → list_any is_line_feed bytes ≡ b → length (before_first is_line_feed bytes) ≤ length (before_first is_line_feed (bytes ++ rest))
    by true e = omega (arith, ap length (before-has bytes rest e))
    by false e = omega (arith, ap length (before-more bytes rest (none-single bytes e)), length-append bytes (before_first is_line_feed rest), length-take (position_or_len is_line_feed bytes) bytes)

-- bytes without a line feed are all before it
pub before-none : (bytes : List ℕ) → IsLine bytes → before_first is_line_feed bytes ≡ bytes
before-none bytes one = ap (before_first is_line_feed) (sym (append-nil bytes)) ∙ before-more bytes [] one ∙ append-nil bytes

-- the first line of bytes with a line feed is shorter than they are
ends_before : (bytes : List ℕ) → list_any is_line_feed bytes ≡ true → length (before_first is_line_feed bytes) < length bytes
ends_before [] e = absurd (let never : false ≡ true = e in cc)
ends_before (c ∷ bytes) e = by (λ has. ends_before bytes has) (is_line_feed c) refl
  where
    by : (list_any is_line_feed bytes ≡ true → length (before_first is_line_feed bytes) < length bytes) → (b : Bool) → is_line_feed c ≡ b → length (before_first is_line_feed (c ∷ bytes)) < length (c ∷ bytes)
    by later true f = omega (arith, ap (λ (n : ℕ). length (take n (c ∷ bytes))) (first_here is_line_feed c bytes f))
    by later false f = omega (arith, later (sym (ap (λ (b : Bool). b || list_any is_line_feed bytes) f) ∙ e), ap length (before_later c bytes f))

-- there is a line feed where bytes follow the first line
pub has-feed : (bytes : List ℕ) → list_any is_line_feed bytes ≡ nat_lt (length (before_first is_line_feed bytes)) (length bytes)
has-feed bytes = by (list_any is_line_feed bytes) refl
  where
    by : (b : Bool) → list_any is_line_feed bytes ≡ b → list_any is_line_feed bytes ≡ nat_lt (length (before_first is_line_feed bytes)) (length bytes)
    by true e = let less = ends_before bytes e in e ∙ grind (arith, nat_tests, less)
    by false e = let same = ap length (before-none bytes (none-single bytes e)) in e ∙ grind (arith, nat_tests, same)

-- what is left of a piece after its first line and the line feed
pub rest-ended : (piece : List ℕ) (from to : ℕ) → to ≤ length piece → length (before_first is_line_feed (slice_range piece from to)) < length (slice_range piece from to) →
    slice_range piece (from + (length (before_first is_line_feed (slice_range piece from to)) + 1)) to ≡ after_first is_line_feed (slice_range piece from to)
rest-ended piece from to within less =
    let bytes : List ℕ = slice_range piece from to in
    let n : ℕ = position_or_len is_line_feed bytes in
    let count : length (before_first is_line_feed bytes) ≡ n = omega (arith, less, length-take n bytes) in
    let size = length-take (to - from) (drop from piece) in
    let m : ℕ = to - (from + (n + 1)) in
    let parts : (n + 1) + m ≡ to - from = omega (arith, less, count, size) in
    ap (λ (k : ℕ). slice_range piece (from + (k + 1)) to) count
    ∙ ap (take m) (sym (drop-drop (n + 1) from piece))
    ∙ sym (drop-take (n + 1) m (drop from piece))
    ∙ ap (λ (k : ℕ). drop (n + 1) (take k (drop from piece))) parts

nothing : (piece : List ℕ) (from to : ℕ) → to ≤ from → slice_range piece from to ≡ []
nothing piece from to h = let none : to - from ≡ 0 = omega (arith, h) in ap (λ (n : ℕ). take n (drop from piece)) none

-- nothing is left of it where the first line is all
pub rest-none : (piece : List ℕ) (from to : ℕ) → from ≤ to → to ≤ length piece → length (slice_range piece from to) ≤ length (before_first is_line_feed (slice_range piece from to)) →
    slice_range piece (from + length (before_first is_line_feed (slice_range piece from to))) to ≡ after_first is_line_feed (slice_range piece from to)
rest-none piece from to order within all =
    let bytes : List ℕ = slice_range piece from to in
    let n : ℕ = position_or_len is_line_feed bytes in
    let part = length-take n bytes in
    let size = length-take (to - from) (drop from piece) in
    let left = length-drop from piece in
    nothing piece (from + length (before_first is_line_feed bytes)) to (omega (arith, all, part, size, left, order, within))
    ∙ sym (drop_all (n + 1) bytes (omega (arith, all, part)))

-- how many bytes a first line takes: the line feed too where there is one
abbrev pub Taken : List ℕ → List ℕ → ℕ → Type 0
Taken part rest skip = ((length part < length rest) × (skip ≡ length part + 1)) ⊎ ((length rest ≤ length part) × (skip ≡ length part))

-- what is left of a piece then
pub rest-taken : (piece : List ℕ) (from to skip : ℕ) → from ≤ to → to ≤ length piece → Taken (before_first is_line_feed (slice_range piece from to)) (slice_range piece from to) skip →
    slice_range piece (from + skip) to ≡ after_first is_line_feed (slice_range piece from to)
rest-taken piece from to skip order within (inl t) = ap (λ (k : ℕ). slice_range piece (from + k) to) t.1 ∙ rest-ended piece from to within t.0
rest-taken piece from to skip order within (inr t) = ap (λ (k : ℕ). slice_range piece (from + k) to) t.1 ∙ rest-none piece from to order within t.0

-- the bytes from a place on
from_place : (text : List ℕ) (at : ℕ) → slice_range text at (length text) ≡ drop at text
from_place text at = take_all (length text - at) (drop at text) (omega (arith, length-drop at text))

-- the lines from there on are the first one and those that it leaves
pub lines-taken : (text : List ℕ) (at skip : ℕ) → 0 < length (slice_range text at (length text)) → Taken (before_first is_line_feed (slice_range text at (length text))) (slice_range text at (length text)) skip →
    raw_lines (drop at text) ≡ before_first is_line_feed (slice_range text at (length text)) ∷ raw_lines (drop (at + skip) text)
lines-taken text at skip some t =
    let rest : List ℕ = slice_range text at (length text) in
    let within : at ≤ length text = omega (arith, some, length-take (length text - at) (drop at text), length-drop at text) in
    ap raw_lines (sym (from_place text at))
    ∙ raw_lines-cons rest some
    ∙ ap (λ (after : List ℕ). before_first is_line_feed rest ∷ raw_lines after) (sym (rest-taken text at (length text) skip within (omega arith) t) ∙ from_place text (at + skip))

pub lines-begin : (text : List ℕ) (at : ℕ) → 0 < length (slice_range text at (length text)) → 1048576 < length (before_first is_line_feed (slice_range text at (length text))) → BeginsLong (raw_lines (drop at text))
lines-begin text at some long =
    subst BeginsLong (sym (ap raw_lines (sym (from_place text at)) ∙ raw_lines-cons (slice_range text at (length text)) some)) long
