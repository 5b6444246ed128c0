-- What a line of a block says, read step by step.
use Rattle.std.proofs.Common.{◌≡◌, ℕ, ◌+◌, ◌<◌, Bor, List, [], ◌∷◌, ◌++◌, length, map, drop, get_or, Option, option_to_list, Result, Ok, Err, sym, ap, ap₂, ◌∙◌, subst}
use Rattle.std.proofs.lemmas.List.{drop_more}
use Rattle.cm_base.specs.Lines.{LineText}
use Rattle.cm_base.specs.ReadStop.{Stops}
use Rattle.cm_base.specs.LineView.{line_view}
use Rattle.cm_base.specs.Reading.{◌>>=◌, at_line, read_each, seen}
use Rattle.cm_base.specs.declared.faults.Fault.{Fault}
use Rattle.cm_base.specs.declared.faults.ReadStop.{ReadStop}
use Rattle.cm_base.specs.declared.faults.Refused.{Refused}
use Rattle.cm_base.specs.declared.lines.Line.{Line}
use Rattle.cm_base.specs.declared.faults.ReadStop.TheVariants as stops
use Rattle.cm_base.proofs.Values.{at_line_ok}
use Rattle.cm_board.specs.Items.{ItemText}
use Rattle.cm_board.specs.Table.{TableText, word_text}
use Rattle.cm_board.specs.declared.table.Form.{Form}
use Rattle.cm_board.specs.declared.table.Head.{Head}
use Rattle.cm_board.specs.declared.table.Value.{Value}
use Rattle.cm_board.specs.declared.table.Word.{Word}
use Rattle.cm_board_text.specs.FoundView.{found_text}
use Rattle.cm_board_text.specs.Reading.{Found, admitted, form_of, item_after, more_said, read_word, values_after, word_after}
use Rattle.cm_board_text.proofs.BoardPieces.{first_left}

refused_is : {X : Type 0} (a b : Refused) → ◌≡◌ {A = Result X Refused} (Err a) (Err b) → a ≡ b
refused_is a b e = cc

-- what stops a reading stops what goes on after it
pub stops_first : {X Y : Type 0} (line : ℕ) (stop : ReadStop) (read : Result X Fault) (next : X → Result Y Fault) → Stops stop (at_line line read) →
    Stops stop (at_line line (read >>= next))
stops_first line stops.NoMemory read next h = tt
stops_first line (stops.Refused r) (Ok x) next h = cc
stops_first line (stops.Refused r) (Err fault) next h = ap Err (refused_is (record { line = line; cause = fault }) r h)

-- what stops a reading and what is made of it stops the reading
first_stops : {X Y : Type 0} (line : ℕ) (stop : ReadStop) (read : Result X Fault) (made : X → Y) → Stops stop (at_line line (read >>= λ x. Ok (made x))) →
    Stops stop (at_line line read)
first_stops line stops.NoMemory read made h = tt
first_stops line (stops.Refused r) (Ok x) made h = cc
first_stops line (stops.Refused r) (Err fault) made h = ap Err (refused_is (record { line = line; cause = fault }) r h)

-- a word more says something, and those that are left after it
pub word_more : (line : ℕ) (head : Head) (before new : List Value) (kinds : List Word) (words : List (Bor (List ℕ))) (i n : ℕ) (k : Word) (w : Bor (List ℕ)) →
    n < length kinds → i < length words → at_line line (word_after head before (word_text (get_or kinds n k)) (get_or words i w).now) ≡ Ok new →
    values_after head before (map word_text (drop n kinds)) (map (λ word. word.now) (drop i words))
    ≡ values_after head new (map word_text (drop (n + 1) kinds)) (map (λ word. word.now) (drop (i + 1) words))
word_more line head before new kinds words i n k w below within said =
    ap₂ (λ (ks : List Word) (ws : List (Bor (List ℕ))). values_after head before (map word_text ks) (map (λ word. word.now) ws)) (drop_more kinds n k below) (drop_more words i w within)
    ∙ by (read_word head (word_text (get_or kinds n k)) (get_or words i w).now) (at_line_ok line _ new said)
  where
    by : (read : Result (Option Value) Fault) → (read >>= λ v. Ok (before ++ option_to_list v)) ≡ Ok new →
        (read >>= λ v. values_after head (before ++ option_to_list v) (map word_text (drop (n + 1) kinds)) (map (λ word. word.now) (drop (i + 1) words)))
        ≡ values_after head new (map word_text (drop (n + 1) kinds)) (map (λ word. word.now) (drop (i + 1) words))
    by (Ok v) e =
        let same : before ++ option_to_list v ≡ new = cc in
        ap (λ (said : List Value). values_after head said (map word_text (drop (n + 1) kinds)) (map (λ word. word.now) (drop (i + 1) words))) same
    by (Err fault) e = cc

-- a word isn't read, nor then the words from it on
pub values_stop : (line : ℕ) (stop : ReadStop) (head : Head) (before : List Value) (kinds : List Word) (words : List (Bor (List ℕ))) (i n : ℕ) (k : Word)
    (w : Bor (List ℕ)) (all : Result (List Value) Fault) → n ≡ i → n < length kinds → i < length words →
    all ≡ values_after head before (map word_text (drop n kinds)) (map (λ word. word.now) (drop i words)) →
    Stops stop (at_line line (word_after head before (word_text (get_or kinds n k)) (get_or words i w).now)) → Stops stop (at_line line all)
values_stop line stop head before kinds words i n k w all same below within e h =
    let here = ap₂ (λ (ks : List Word) (ws : List (Bor (List ℕ))). values_after head before (map word_text ks) (map (λ word. word.now) ws)) (drop_more kinds n k below) (drop_more words i w within) in
    subst (λ r. Stops stop (at_line line r)) (sym (e ∙ here))
    (stops_first line stop (read_word head (word_text (get_or kinds n k)) (get_or words i w).now)
    (λ v. values_after head (before ++ option_to_list v) (map word_text (drop (n + 1) kinds)) (map (λ word. word.now) (drop (i + 1) words)))
    (first_stops line stop (read_word head (word_text (get_or kinds n k)) (get_or words i w).now) (λ v. before ++ option_to_list v) h))

-- a line of which the form and the values are read is what is admitted of it
pub item_read : (t : TableText) (head : Head) (before : List ItemText) (line : LineText) (number : ℕ) (found : Result (ℕ × Form) Fault) (at : ℕ) (form : Form)
    (words : List (List ℕ)) (values said : List Value) (read : Result ℕ Fault) → seen found_text found ≡ form_of t head line →
    at_line number found ≡ Ok (at, form) → words ≡ line.words → at_line number (values_after head [] (map word_text form.words.now) words) ≡ Ok values →
    said ≡ values → seen (λ row. record { row = row; form = at; values = said }) read ≡ admitted head t.rows before (found_text (at, form)) said →
    item_after t head before line ≡ seen (λ row. record { row = row; form = at; values = values }) read
item_read t head before line number found at form words values said read e f w v s r =
    let known : form_of t head line ≡ Ok (found_text (at, form)) = sym e ∙ ap (seen found_text) (at_line_ok number found (at, form) f) in
    let there = ap (values_after head [] (map word_text form.words.now)) (sym w) ∙ at_line_ok number (values_after head [] (map word_text form.words.now) words) values v in
    ap (λ r. r >>= λ (f : Found). values_after head [] f.form.words line.words >>= λ values. admitted head t.rows before f values) known
    ∙ ap (λ r. r >>= λ values. admitted head t.rows before (found_text (at, form)) values) there
    ∙ sym (subst (λ (vs : List Value). seen (λ row. record { row = row; form = at; values = vs }) read ≡ admitted head t.rows before (found_text (at, form)) vs) s r)

-- and it stops where that does
pub seen_stops : {X Y : Type 0} (view : X → Y) (line : ℕ) (stop : ReadStop) (read : Result X Fault) → Stops stop (at_line line read) →
    Stops stop (at_line line (seen view read))
seen_stops view line stops.NoMemory read h = tt
seen_stops view line (stops.Refused r) (Ok x) h = cc
seen_stops view line (stops.Refused r) (Err fault) h = ap Err (refused_is (record { line = line; cause = fault }) r h)

-- a line more is said, and those that are left after it
line_more : {X : Type 0} (read : Result X Refused) (before new : List X) (next : List X → Result (List X) Refused) →
    (read >>= λ x. Ok (before ++ x ∷ [])) ≡ Ok new → (read >>= λ x. next (before ++ x ∷ [])) ≡ next new
line_more (Ok x) before new next e = let same : before ++ x ∷ [] ≡ new = cc in ap next same
line_more (Err r) before new next e = cc

pub line_added : (t : TableText) (head : Head) (before new : List ItemText) (lines : List Line) (i : ℕ) (line d : Line) → i < length lines → line ≡ get_or lines i d →
    more_said t head before (line_view line) ≡ Ok new →
    read_each (item_after t head) before (map line_view (drop i lines)) ≡ read_each (item_after t head) new (map line_view (drop (i + 1) lines))
line_added t head before new lines i line d within is said =
    ap (λ (ls : List Line). read_each (item_after t head) before (map line_view ls)) (first_left lines i line d within is)
    ∙ line_more (at_line (line_view line).number (item_after t head before (line_view line))) before new
    (λ items. read_each (item_after t head) items (map line_view (drop (i + 1) lines))) said

-- a line isn't read, nor then the lines from it on
pub line_fails : (t : TableText) (head : Head) (before : List ItemText) (lines : List Line) (i : ℕ) (line d : Line) (stop : ReadStop) (all : Result (List ItemText) Refused) →
    i < length lines → line ≡ get_or lines i d → all ≡ read_each (item_after t head) before (map line_view (drop i lines)) →
    Stops stop (more_said t head before (line_view line)) → Stops stop all
line_fails t head before lines i line d stops.NoMemory all within is e h = tt
line_fails t head before lines i line d (stops.Refused r) all within is e h =
    e ∙ ap (λ (ls : List Line). read_each (item_after t head) before (map line_view ls)) (first_left lines i line d within is)
    ∙ by (at_line (line_view line).number (item_after t head before (line_view line))) h
  where
    by : (read : Result ItemText Refused) → (read >>= λ x. Ok (before ++ x ∷ [])) ≡ Err r →
        (read >>= λ x. read_each (item_after t head) (before ++ x ∷ []) (map line_view (drop (i + 1) lines))) ≡ Err r
    by (Ok x) e = cc
    by (Err q) e = e
