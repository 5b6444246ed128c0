-- What the lines of a block say, by a table.
use Rattle.std.specs.Prelude.{ℕ, ◌+◌, Bool, true, ◌&&◌, ◌==◌, nat_lt, Option, Some, None, option_to_list, Result, Ok}
use Rattle.std.specs.Prelude.{Err, if◌then◌else◌, List, [], ◌∷◌, ◌++◌, length}
use Rattle.std.specs.List.{list_any}
use Rattle.std.specs.Str.{bytes_eq}
use Rattle.cm_base.specs.Lines.{LineText}
use Rattle.cm_base.specs.Reading.{◌>>=◌, at_line, read_each}
use Rattle.cm_base.specs.Words.{number_below, number_in, or_fault, signed_number, source_in, sources_in}
use Rattle.cm_base.specs.declared.faults.Fault.{Fault}
use Rattle.cm_base.specs.declared.faults.Fault.TheVariants.{Bad, BadLine, Double, Limit, Missing, Unknown}
use Rattle.cm_base.specs.declared.faults.Refused.{Refused}
use Rattle.cm_board.specs.Items.{ItemText}
use Rattle.cm_board.specs.Kept.{set_in, slots}
use Rattle.cm_board.specs.Rules.{keeps_rule}
use Rattle.cm_board.specs.Slots.{Slot, lacks, of_row, takes, whole}
use Rattle.cm_board.specs.Table.{FormText, TableText, WordText, Fixed, Number, Signed, Sources, Source, Name, Channel}
use Rattle.cm_board.specs.Table.{Divisors, may_stand, place_of, row_at}
use Rattle.cm_board.specs.Versions.{most_in}
use Rattle.cm_board.specs.declared.table.Head.{Head}
use Rattle.cm_board.specs.declared.table.Row.{Row}
use Rattle.cm_board.specs.declared.table.Value.{Value}
use Rattle.cm_board.specs.declared.table.Value.TheVariants as values_of
use Rattle.cm_board_text.specs.DivisorsText.{divisors_word}

-- a word that stands where a form fixes it
abbrev pub fixed_is : WordText → List ℕ → Bool
fixed_is (Fixed key) w = bytes_eq w key
fixed_is other w = true

-- a line with those words that a form fixes, as far as both go
abbrev pub begins_form : List WordText → List (List ℕ) → Bool
begins_form [] ws = true
begins_form (kind ∷ kinds) [] = true
begins_form (kind ∷ kinds) (w ∷ ws) = fixed_is kind w && begins_form kinds ws

-- a line of a form: as many words, and all that the form fixes
abbrev pub is_form : List WordText → List (List ℕ) → Bool
is_form kinds ws = length ws == length kinds && begins_form kinds ws

-- a form and its place in the table
pub record Found : Type 0 where
  pub at : ℕ
  pub form : FormText

-- the first form of these words that may stand in the block, where the forms are counted from `n`
abbrev pub found_from : List Row → Head → List (List ℕ) → ℕ → List FormText → Option Found
found_from rows head ws n [] = None
found_from rows head ws n (form ∷ forms) =
    if is_form form.words ws && may_stand head (row_at form.row rows)
    then Some (record { at = n; form = form })
    else found_from rows head ws (n + 1) forms

-- whether the words begin a form that may stand in the block
abbrev pub is_begun : List Row → Head → List (List ℕ) → FormText → Bool
is_begun rows head ws form = begins_form form.words ws && may_stand head (row_at form.row rows)

-- the form of these words; where they only begin one, words are missing or too many
abbrev pub form_of_words : TableText → Head → List (List ℕ) → Result Found Fault
form_of_words t head ws =
    or_fault (if list_any (is_begun t.rows head ws) t.forms then BadLine else Unknown)
    (found_from t.rows head ws 0 t.forms)

-- the form of a line
abbrev pub form_of : TableText → Head → LineText → Result Found Fault
form_of t head line = if line.bad then Err BadLine else form_of_words t head line.words

-- the place of a name among others, counted from `n`
abbrev pub place_from : ℕ → List ℕ → List (List ℕ) → Option ℕ
place_from n word [] = None
place_from n word (name ∷ names) = if bytes_eq word name then Some n else place_from (n + 1) word names

-- a number that is said
abbrev pub number_said : Result ℕ Fault → Result (Option Value) Fault
number_said read = read >>= λ n. Ok (Some (values_of.Number n))

-- what a word says that is no divisors
abbrev pub plain_word : Head → WordText → List ℕ → Result (Option Value) Fault
plain_word head (Number l) w = number_said (number_in l.least (most_in head.version l.most l.wide) w)
plain_word head Signed w = signed_number w >>= λ z. Ok (Some (values_of.Signed z))
plain_word head (Sources sets) w = number_said (sources_in (set_in head.version sets) w)
plain_word head Source w = number_said (source_in 511 w)
plain_word head (Name names) w = or_fault Unknown (place_from 0 w names) >>= λ n. Ok (Some (values_of.Name n))
plain_word head Channel w = number_said (number_below head.channels w)
plain_word head other w = Ok None

-- what a word says
abbrev pub read_word : Head → WordText → List ℕ → Result (Option Value) Fault
read_word head Divisors w = divisors_word w >>= λ d. Ok (Some (values_of.Divisors d))
read_word head kind w = plain_word head kind w

-- what is said once a word says something after the words before it
abbrev pub word_after : Head → List Value → WordText → List ℕ → Result (List Value) Fault
word_after head before kind w = read_word head kind w >>= λ v. Ok (before ++ option_to_list v)

-- what words say after others
abbrev pub values_after : Head → List Value → List WordText → List (List ℕ) → Result (List Value) Fault
values_after head before [] ws = Ok before
values_after head before (kind ∷ kinds) [] = Ok before
values_after head before (kind ∷ kinds) (w ∷ ws) =
    read_word head kind w >>= λ v. values_after head (before ++ option_to_list v) kinds ws

-- how many lines of a row there may be in texts of a version
abbrev pub most_of : ℕ → Row → ℕ
most_of version row = most_in version row.most row.wide

-- a line more in a block: not too many of its row, and its values keep the form's rule
abbrev pub admitted : Head → List Row → List ItemText → Found → List Value → Result ItemText Fault
admitted head rows before f values =
    if nat_lt (length (of_row (place_of rows f.form values) before)) (most_of head.version (row_at f.form.row rows))
    then (if keeps_rule f.form.rule values
    then Ok (record { row = place_of rows f.form values; form = f.at; values = values })
    else Err Bad)
    else Err (if most_of head.version (row_at f.form.row rows) == 1 then Double else Limit)

-- what a line says after the lines before it
abbrev pub item_after : TableText → Head → List ItemText → LineText → Result ItemText Fault
item_after t head before line =
    form_of t head line >>= λ f.
    values_after head [] f.form.words line.words >>= λ values.
    admitted head t.rows before f values

-- what is said once a line says something after the lines before it
abbrev pub more_said : TableText → Head → List ItemText → LineText → Result (List ItemText) Refused
more_said t head before line = at_line line.number (item_after t head before line) >>= λ item. Ok (before ++ item ∷ [])

-- what the lines of a block say
abbrev pub items_said : TableText → Head → List LineText → Result (List ItemText) Refused
items_said t head lines = read_each (item_after t head) [] lines

-- what the lines of a block say at its end: those that hold without standing there are among them
abbrev pub completed : TableText → Head → List ItemText → Result (List ItemText) Fault
completed t head items =
    let rows : List Slot = slots t head items in
    if lacks head (takes rows) rows then Err Missing else Ok (whole head (takes rows) rows)
