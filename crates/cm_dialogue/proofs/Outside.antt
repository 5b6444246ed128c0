-- Lines of a reader, which come piece by piece.
use Rattle.std.proofs.Common.{◌≡◌, ℕ, ◌+◌, ◌<◌, ◌≤◌, ◌==◌, Bool, true, false, not, List, [], ◌∷◌, ◌++◌, length, Option, Some, None, Result, Ok, Err, refl, ap, ap₂, sym, ◌∙◌, subst, arith, append_assoc, append-nil, length-append, length-take, nat_lt, slice_range}
use Rattle.std.specs.List.{before_first, after_first, list_any, position_or_len}
use Rattle.std.specs.Option.{option_map}
use Rattle.std.specs.Result.{IsErrAnd}
use Rattle.cm_base.specs.declared.transfer.ReadError.{ReadError}
use Rattle.cm_base.specs.declared.transfer.ReadError.TheVariants.{TooLong}
use Rattle.std.specs.Io.KnownBytes.{Consumes, IsAtEnd, prepend_known}
use Rattle.cm_base.specs.Lines.{is_line_feed, raw_lines}
use Rattle.cm_base.proofs.RawLines.{raw_lines-cons}
use Rattle.cm_dialogue.specs.Ahead.{AreAhead, BeginsLong, Came, HearsNext, IsLine}
use Rattle.cm_dialogue.specs.Standard.{Ends, Moved, Refilled, unheard, unheard_lines}
use Rattle.std.proofs.lemmas.Bool.Decides.{nat_tests}
use Rattle.std.proofs.lemmas.List.Elements.{All-append}
use Rattle.cm_dialogue.proofs.FirstLine.{after-has, after-more, before-has, before-longer, before-more, before-none, first-single, has-feed, none-single, nothing-after, one-line, rest-taken, Taken}

-- these bytes of a line were heard, and there is no line feed in them
pub record IsHearing (old now : Ends) (line : List ℕ) : Type 0 where
  pub bytes : Consumes (unheard old) (unheard now) line
  pub single : IsLine line

-- bytes that were moved have no line feed
pub moved-single : (old now new : Ends) (line more : List ℕ) (ended : Bool) → Moved ended now new line more → IsHearing old now line → IsLine more
moved-single old now new line more ended m h =
    subst IsLine (sym m.line_is) (All-append (λ c. is_line_feed c ≡ false) line (before_first is_line_feed now.waiting) h.single (first-single now.waiting))

-- nothing waits where there was no line feed
pub moved-all : (now new : Ends) (line more : List ℕ) (ended : Bool) → ended ≡ false → Moved ended now new line more → new.waiting ≡ []
moved-all now new line more ended e m = m.waits ∙ nothing-after now.waiting (none-single now.waiting (sym m.ends ∙ e))

grow : (known left next : Option (List ℕ)) (line waiting come more : List ℕ) → Consumes known (prepend_known waiting left) line → Consumes left next come → more ≡ line ++ waiting → Consumes known (prepend_known come next) more
grow None left next line waiting come more a b e = tt
grow (Some bytes) None next line waiting come more a b e = absurd a
grow (Some bytes) (Some rest) None line waiting come more a b e = absurd b
grow (Some bytes) (Some rest) (Some after) line waiting come more a b e =
    a
    ∙ ap (λ (r : List ℕ). line ++ (waiting ++ r)) b
    ∙ sym (append_assoc line waiting (come ++ after))
    ∙ ap (λ (first : List ℕ). first ++ (come ++ after)) (sym e)

-- all that waited was moved, and more came
pub hearing-more : (old now moved new : Ends) (line more : List ℕ) (ended some : Bool) → ended ≡ false → Moved ended now moved line more → Refilled some moved new → IsHearing old now line → IsHearing old new more
hearing-more old now moved new line more ended some e m r h = record {
  bytes = grow (unheard old) now.left new.left line now.waiting new.waiting more h.bytes
      (subst (λ (left : Option (List ℕ)). Consumes left new.left new.waiting) m.left r.came)
      (m.line_is ∙ ap (λ (part : List ℕ). line ++ part) (before-none now.waiting (none-single now.waiting (sym m.ends ∙ e))));
  single = moved-single old now moved line more ended m h;
}

some_bytes : (bytes : List ℕ) → list_any is_line_feed bytes ≡ true → 0 < length bytes
some_bytes [] e = absurd (let never : false ≡ true = e in cc)
some_bytes (c ∷ bytes) e = omega arith

-- the first line of what was there
first_of : (line waiting rest : List ℕ) → IsLine line → list_any is_line_feed waiting ≡ true →
    raw_lines (line ++ (waiting ++ rest)) ≡ (line ++ before_first is_line_feed waiting) ∷ raw_lines (after_first is_line_feed waiting ++ rest)
first_of line waiting rest one has =
    raw_lines-cons (line ++ (waiting ++ rest)) (omega (arith, some_bytes waiting has, length-append line (waiting ++ rest), length-append waiting rest))
    ∙ ap₂ (λ (first after : List ℕ). first ∷ raw_lines after)
    (before-more line (waiting ++ rest) one ∙ ap (λ (part : List ℕ). line ++ part) (before-has waiting rest has))
    (after-more line (waiting ++ rest) one ∙ after-has waiting rest has)

ended_by : (known left next : Option (List ℕ)) (line waiting more after : List ℕ) → Consumes known (prepend_known waiting left) line → IsLine line → list_any is_line_feed waiting ≡ true → more ≡ line ++ before_first is_line_feed waiting →
    after ≡ after_first is_line_feed waiting → next ≡ left → Came (option_map raw_lines known) (option_map raw_lines (prepend_known after next)) (more ∷ [])
ended_by None left next line waiting more after a one has m w same = tt
ended_by (Some bytes) None next line waiting more after a one has m w same = absurd a
ended_by (Some bytes) (Some rest) next line waiting more after a one has m w same =
    subst (λ (known : Option (List ℕ)). Came (Some (raw_lines bytes)) (option_map raw_lines (prepend_known after known)) (more ∷ [])) (sym same)
    (ap raw_lines a ∙ first_of line waiting rest one has ∙ ap₂ (λ (first last : List ℕ). first ∷ raw_lines (last ++ rest)) (sym m) (sym w))

-- the line ended
pub hearing-ends : (old now new : Ends) (line more : List ℕ) (ended : Bool) → ended ≡ true → Moved ended now new line more → IsHearing old now line → HearsNext (Ok true) (unheard_lines old) (unheard_lines new) more
hearing-ends old now new line more ended e m h =
    ended_by (unheard old) now.left new.left line now.waiting more new.waiting h.bytes h.single (sym m.ends ∙ e) m.line_is m.waits m.left

some_byte : (c : ℕ) (bytes : List ℕ) → not (length (c ∷ bytes) == 0) ≡ true
some_byte c bytes = grind (arith, nat_tests)

-- nothing is left where nothing waits and the reader is at its end
none_ahead : (left : Option (List ℕ)) (waiting : List ℕ) → waiting ≡ [] → IsAtEnd left → AreAhead [] (option_map raw_lines (prepend_known waiting left))
none_ahead None waiting w e = tt
none_ahead (Some rest) waiting w e = ap₂ (λ (x y : List ℕ). raw_lines (x ++ y)) w e

-- the input ended
last_by : (known left : Option (List ℕ)) (line waiting : List ℕ) → Consumes known (prepend_known waiting left) line → IsLine line → waiting ≡ [] → IsAtEnd left →
    HearsNext (Ok (not (length line == 0))) (option_map raw_lines known) (option_map raw_lines (prepend_known waiting left)) line
last_by None left [] waiting a one w e = (tt, none_ahead left waiting w e)
last_by None left (c ∷ line) waiting a one w e = subst (λ (b : Bool). HearsNext (Ok b) None (option_map raw_lines (prepend_known waiting left)) (c ∷ line)) (sym (some_byte c line)) tt
last_by (Some bytes) None line waiting a one w e = absurd a
last_by (Some bytes) (Some rest) [] waiting a one w e =
    (ap raw_lines (a ∙ ap₂ (λ (x y : List ℕ). x ++ y) w e), none_ahead (Some rest) waiting w e)
last_by (Some bytes) (Some rest) (c ∷ line) waiting a one w e =
    subst (λ (b : Bool). HearsNext (Ok b) (Some (raw_lines bytes)) (Some (raw_lines (waiting ++ rest))) (c ∷ line)) (sym (some_byte c line))
    (ap raw_lines (a ∙ ap₂ (λ (x y : List ℕ). (c ∷ line) ++ (x ++ y)) w e ∙ append-nil (c ∷ line))
    ∙ one-line c line one
    ∙ ap₂ (λ (x y : List ℕ). (c ∷ line) ∷ raw_lines (x ++ y)) (sym w) (sym e))

none_waits : (bytes : List ℕ) → false ≡ not (length bytes == 0) → bytes ≡ []
none_waits [] e = refl
none_waits (c ∷ bytes) e = absurd (let never : false ≡ true = e ∙ some_byte c bytes in cc)

pub hearing-last : (old now moved new : Ends) (line more : List ℕ) (ended some : Bool) → ended ≡ false → some ≡ false → Moved ended now moved line more → Refilled some moved new → IsHearing old now line →
    HearsNext (Ok (not (length more == 0))) (unheard_lines old) (unheard_lines new) more
hearing-last old now moved new line more ended some e f m r h =
    let way = hearing-more old now moved new line more ended some e m r h in
    last_by (unheard old) new.left more new.waiting way.bytes way.single (none_waits new.waiting (sym f ∙ r.more)) (r.ends f)

-- the line is too long
long_by : (known left : Option (List ℕ)) (line waiting : List ℕ) → Consumes known (prepend_known waiting left) line → IsLine line → 1048576 < length (line ++ before_first is_line_feed waiting) →
    (lines : List (List ℕ)) × AreAhead lines (option_map raw_lines known) × BeginsLong lines
long_by None left line waiting a one long = ((line ++ before_first is_line_feed waiting) ∷ [], tt, long)
long_by (Some bytes) None line waiting a one long = absurd a
long_by (Some bytes) (Some rest) line waiting a one long =
    let all : List ℕ = line ++ (waiting ++ rest) in
    let first : List ℕ = before_first is_line_feed all in (
      first ∷ raw_lines (after_first is_line_feed all),
      ap raw_lines a ∙ raw_lines-cons all (omega (arith, long, length-append line (before_first is_line_feed waiting), length-append line (waiting ++ rest), length-append waiting rest, length-take (position_or_len is_line_feed waiting) waiting)),
      omega (arith, long, ap length (before-more line (waiting ++ rest) one), length-append line (before_first is_line_feed waiting), length-append line (before_first is_line_feed (waiting ++ rest)), before-longer waiting rest),
    )

pub hearing-long : (old now : Ends) (line : List ℕ) → 1048576 < length (line ++ before_first is_line_feed now.waiting) → IsHearing old now line → (lines : List (List ℕ)) × AreAhead lines (unheard_lines old) × BeginsLong lines
hearing-long old now line long h = long_by (unheard old) now.left line now.waiting h.bytes h.single long

-- a line that wasn't heard
pub hears-stop : (ahead left : Option (List (List ℕ))) (line : List ℕ) (r : Result Bool ReadError) (stop : ReadError) → IsErrAnd r (λ e. e ≡ stop) → (stop ≡ TooLong → (lines : List (List ℕ)) × AreAhead lines ahead × BeginsLong lines) → HearsNext r ahead left line
hears-stop ahead left line (Ok heard) stop is long = absurd is
hears-stop ahead left line (Err other) stop is long = λ same. long (sym is ∙ same)

-- the first line of what waits was moved
pub moved-by : (old same new : Ends) (before line part rest piece : List ℕ) (from to skip : ℕ) → same ≡ old → from ≤ to → to ≤ length piece → rest ≡ slice_range piece from to → part ≡ before_first is_line_feed rest → line ≡ before ++ part →
    same.waiting ≡ slice_range piece from to → new.waiting ≡ slice_range piece (from + skip) to → new.left ≡ same.left → Taken part rest skip → Moved (nat_lt (length part) (length rest)) old new before line
moved-by old same new before line part rest piece from to skip is order within r p l w n left t =
    let waits : List ℕ = slice_range piece from to in
    let o : old.waiting ≡ waits = ap (λ (c : Ends). c.waiting) (sym is) ∙ w in
    let first : part ≡ before_first is_line_feed waits = p ∙ ap (before_first is_line_feed) r in
    let taken : Taken (before_first is_line_feed waits) waits skip = subst (λ (bytes : List ℕ). Taken bytes waits skip) first (subst (λ (bytes : List ℕ). Taken part bytes skip) r t) in
    record {
      line_is = l ∙ ap (λ (bytes : List ℕ). before ++ bytes) (first ∙ ap (before_first is_line_feed) (sym o));
      waits = n ∙ rest-taken piece from to skip order within taken ∙ ap (after_first is_line_feed) (sym o);
      ends = ap (λ (bytes : List ℕ). nat_lt (length part) (length bytes)) (r ∙ sym o) ∙ ap (λ (bytes : List ℕ). nat_lt (length bytes) (length old.waiting)) (first ∙ ap (before_first is_line_feed) (sym o)) ∙ sym (has-feed old.waiting);
      left = left ∙ ap (λ (c : Ends). c.left) is;
    }
