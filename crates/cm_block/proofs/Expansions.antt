-- Expansions that are written conversion by conversion.
use Rattle.std.proofs.Common.{◌≡◌, ℕ, zero, suc, ◌+◌, ◌<◌, ◌≤◌, min, Bool, List, [], ◌∷◌, ◌++◌, length, get_or, take, drop, Option, None, refl, sym, ap, ap₂, ◌∙◌, subst, arith, append_assoc, append-nil, length-drop}
use Rattle.std.specs.Prelude.{slice_get}
use Rattle.std.specs.List.{flat_map}
use Rattle.std.proofs.KnownBytes.{Appends-nil}
use Rattle.std.proofs.lemmas.Grind.{flat_map-append}
use Rattle.std.proofs.lemmas.List.{drop_all, drop-drop, take-append-drop}
use Rattle.cm_base.specs.Transfer.{IsUnderWay, Moves}
use Rattle.cm_base.proofs.UnderWay.{under_way-more, under_way-moved}
use Rattle.cm_board.specs.Board.{BoardText}
use Rattle.cm_signal.specs.Signals.{SignalsText}
use Rattle.cm_expand.specs.Board.{BoardState}
use Rattle.cm_expand.specs.Items.{items_of}
use Rattle.cm_expand.specs.Plan.{PlanText, is_complete}
use Rattle.cm_expand.specs.Taking.{left_of}
use Rattle.cm_expand.specs.declared.conv.Conv.{Conv}
use Rattle.cm_job.specs.ExpandLines.{plan_of}
use Rattle.cm_job.specs.declared.expand_lines.ExpandLine.{ExpandLine}
use Rattle.cm_block.specs.ExpandSession.{conversion_line, end_line, expands_text, expansion_text}
use Rattle.cm_base.proofs.Elements.{left-next}

-- the text of what a board has left
abbrev pub left_text : BoardState → List ℕ
left_text b = flat_map conversion_line (left_of b) ++ end_line (is_complete b.plan)

-- a board some places further
abbrev pub stepped : BoardState → ℕ → BoardState
stepped b count = record b { place = b.place + count }

pub fresh-left : (b : BoardState) (p : PlanText) → b ≡ record { plan = p; place = 0 } → left_text b ≡ expansion_text p
fresh-left b p e = ap left_text e

-- the lines of the conversions that were taken, and then what is left after them
pub taken-left : (old new : BoardState) (count : ℕ) (taken : List Conv) → taken ≡ take count (left_of old) → new ≡ stepped old count →
    left_text old ≡ flat_map conversion_line taken ++ left_text new
taken-left old new count taken is after =
    let end = end_line (is_complete old.plan) in
    ap (λ (cs : List Conv). flat_map conversion_line cs ++ end) (sym (take-append-drop count (left_of old)))
    ∙ ap (λ (text : List ℕ). text ++ end) (flat_map-append conversion_line (take count (left_of old)) (drop count (left_of old)))
    ∙ append_assoc (flat_map conversion_line (take count (left_of old))) (flat_map conversion_line (drop count (left_of old))) end
    ∙ ap₂ (λ (cs ds : List Conv). flat_map conversion_line cs ++ (flat_map conversion_line ds ++ end)) (sym is) (drop-drop count old.place (items_of old.plan))
    ∙ ap (λ (b : BoardState). flat_map conversion_line taken ++ left_text b) (sym after)

-- all were given where fewer were taken than asked
pub all-given : (old new : BoardState) (count most : ℕ) → count ≡ min most (length (left_of old)) → count < most → new ≡ stepped old count → length (items_of new.plan) ≤ new.place
all-given old new count most counted few after =
    omega (arith, length-drop old.place (items_of old.plan), ap (λ (b : BoardState). length (items_of b.plan)) after, ap (λ (b : BoardState). b.place) after)

pub none-after : {X : Type 0} (xs : List X) (i : ℕ) → length xs ≤ i → slice_get xs i ≡ None
none-after [] i after = refl
none-after (x ∷ xs) zero after = absurd (omega (arith, after))
none-after (x ∷ xs) (suc i) after = none-after xs i (omega (arith, after))

-- a text that begins with what has gathered
pub under_way-begun : (a : Option (List ℕ)) (text rest : List ℕ) → IsUnderWay a a text rest (text ++ rest)
under_way-begun a text rest = ([], Appends-nil a, refl)

-- the lines of the conversions that were taken are gathered
pub taken-gathered : (a b : Option (List ℕ)) (old new : BoardState) (count : ℕ) (taken : List Conv) (text whole : List ℕ) → taken ≡ take count (left_of old) → new ≡ stepped old count →
    IsUnderWay a b text (left_text old) whole → IsUnderWay a b (text ++ flat_map conversion_line taken) (left_text new) whole
taken-gathered a b old new count taken text whole is after way =
    under_way-more a b text (text ++ flat_map conversion_line taken) (flat_map conversion_line taken) (left_text new) whole refl
    (subst (λ (rest : List ℕ). IsUnderWay a b text rest whole) (taken-left old new count taken is after) way)

-- and a prefix of what is gathered then is written
pub taken-moved : (a b c : Option (List ℕ)) (old new : BoardState) (count : ℕ) (taken : List Conv) (text gathered whole : List ℕ) → taken ≡ take count (left_of old) → new ≡ stepped old count →
    Moves b c (text ++ flat_map conversion_line taken) gathered → IsUnderWay a b text (left_text old) whole → IsUnderWay a c gathered (left_text new) whole
taken-moved a b c old new count taken text gathered whole is after moved way =
    under_way-moved a b c (text ++ flat_map conversion_line taken) gathered (left_text new) whole moved (taken-gathered a b old new count taken text whole is after way)

-- the end is gathered after the last conversion
pub end-gathered : (a b : Option (List ℕ)) (board : BoardState) (complete : Bool) (text more whole : List ℕ) → length (items_of board.plan) ≤ board.place →
    complete ≡ is_complete board.plan → more ≡ text ++ end_line complete → IsUnderWay a b text (left_text board) whole → Moves a b whole more
end-gathered a b board complete text more whole after full reported way =
    let end = end_line (is_complete board.plan) in
    let last : left_text board ≡ end ++ [] = ap (λ (cs : List Conv). flat_map conversion_line cs ++ end) (drop_all board.place (items_of board.plan) after) ∙ sym (append-nil end) in
    let done : IsUnderWay a b more [] whole =
    under_way-more a b text more end [] whole (reported ∙ ap (λ (x : Bool). text ++ end_line x) full) (subst (λ (rest : List ℕ). IsUnderWay a b text rest whole) last way) in
    (done.0, done.1, sym done.2 ∙ ap (λ (t : List ℕ). done.0 ++ t) (append-nil more))

-- the expansion of a line more is gathered
pub expansion-gathered : (board : BoardText) (signals : SignalsText) (a b : Option (List ℕ)) (lines : List ExpandLine) (i : ℕ) (line : ExpandLine) (p : PlanText) (text whole : List ℕ) →
    i < length lines → line ≡ get_or lines i line → p ≡ plan_of board signals line →
    IsUnderWay a b text (expands_text board signals (drop i lines)) whole → IsUnderWay a b (text ++ expansion_text p) (expands_text board signals (drop (i + 1) lines)) whole
expansion-gathered board signals a b lines i line p text whole within is same way =
    under_way-more a b text (text ++ expansion_text p) (expansion_text (plan_of board signals line)) (expands_text board signals (drop (i + 1) lines)) whole
    (ap (λ (q : PlanText). text ++ expansion_text q) same)
    (subst (λ (ls : List ExpandLine). IsUnderWay a b text (expands_text board signals ls) whole) (left-next lines i line within is) way)
