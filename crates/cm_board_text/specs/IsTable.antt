-- What a table keeps.
use Rattle.std.specs.Prelude.{ℕ, ◌+◌, Bool, true, false, not, ◌&&◌, ◌||◌, ◌==◌, nat_le, nat_lt, Option, Some, None}
use Rattle.std.specs.Prelude.{codes, if◌then◌else◌, List, [], ◌∷◌, length}
use Rattle.std.specs.List.{list_all}
use Rattle.std.specs.Str.{bytes_eq}
use Rattle.cm_base.specs.Lines.{is_comment, is_word}
use Rattle.cm_board.specs.Kept.{keeps}
use Rattle.cm_board.specs.Table.{FormText, TableText, WordText, Fixed, Number, Sources, Name, Channel, form_at, row_at}
use Rattle.cm_board.specs.declared.board.Kind.TheVariants as kinds
use Rattle.cm_board.specs.declared.table.Absent.{Absent}
use Rattle.cm_board.specs.declared.table.Absent.TheVariants as absents
use Rattle.cm_board.specs.declared.table.Head.{Head}
use Rattle.cm_board.specs.declared.table.Row.{Row}
use Rattle.cm_board.specs.declared.table.Value.{Value}
use Rattle.cm_board.specs.declared.table.Value.TheVariants as values_of
use Rattle.cm_board_text.specs.Reading.{place_from}

-- a name found at this place
abbrev pub is_place : ℕ → Option ℕ → Bool
is_place n None = false
is_place n (Some m) = m == n

-- names that are words, each found at its place
abbrev pub are_names : List (List ℕ) → ℕ → List (List ℕ) → Bool
are_names all n [] = true
are_names all n (name ∷ names) = is_place n (place_from 0 name all) && is_word name && are_names all (n + 1) names

-- a word of a form: a fixed one may stand in a line, and limits have 32 bits and aren't less in the wider texts
abbrev pub is_proper : WordText → Bool
is_proper (Fixed key) = is_word key && bytes_eq key key
is_proper (Number l) = nat_le l.most l.wide && nat_lt l.wide 4294967296
is_proper (Sources sets) = nat_lt sets.first 512 && nat_lt sets.second 512 && nat_lt sets.wide 512
is_proper (Name names) = are_names names 0 names
is_proper other = true

-- a word that begins no block, no `signals` part and no comment
abbrev pub is_key : List ℕ → Bool
is_key key =
    not (is_comment (key ∷ [])) && not (bytes_eq key (codes "subdevice")) && not (bytes_eq key (codes "signals"))

-- a form begins with such a word
abbrev pub is_headed : List WordText → Bool
is_headed (Fixed key ∷ kinds) = is_key key
is_headed kinds = false

-- the first value of a form is a channel
abbrev pub is_of_channel : List WordText → Bool
is_of_channel (Fixed key ∷ kinds) = is_of_channel kinds
is_of_channel (Channel ∷ kinds) = true
is_of_channel kinds = false

-- two fixed words that differ
abbrev pub differ : WordText → WordText → Bool
differ (Fixed a) (Fixed b) = not (bytes_eq b a)
differ one other = false

-- words that differ at some place
abbrev pub differ_somewhere : List WordText → List WordText → Bool
differ_somewhere (a ∷ as_) (b ∷ bs) = differ a b || differ_somewhere as_ bs
differ_somewhere as_ bs = false

-- two forms that no line has both
abbrev pub are_apart : List WordText → List WordText → Bool
are_apart one other = not (length one == length other) || differ_somewhere one other

-- a form of a row of the table, which names a channel where the row is about one
abbrev pub is_listed : TableText → FormText → Bool
is_listed t form =
    nat_lt form.row (length t.rows) && is_headed form.words && list_all is_proper form.words
    && (not (row_at form.row t.rows).of_channel || is_of_channel form.words)

-- each form is apart from those after it
abbrev pub all_apart : List FormText → Bool
all_apart [] = true
all_apart (form ∷ forms) = list_all (λ later. are_apart form.words later.words) forms && all_apart forms

-- a word that says the same in each block
abbrev pub is_constant : WordText → Bool
is_constant (Sources sets) = false
is_constant Channel = false
is_constant other = true

-- some block
abbrev pub some_head : Head
some_head = record { version = 1; kind = kinds.Unused; channels = 0 }

-- a line that holds without standing there is one of its row, in each block
abbrev pub has_form : TableText → ℕ → ℕ → List Value → Bool
has_form t n form values =
    nat_lt form (length t.forms) && (form_at form t.forms).row == n && list_all is_constant (form_at form t.forms).words
    && keeps some_head (form_at form t.forms) values

-- what holds without a line could stand as a line of the row: a fixed one, or one with that number
abbrev pub keeps_default : TableText → ℕ → Absent → Bool
keeps_default t n (absents.Stands form) = has_form t n form []
keeps_default t n (absents.Says form k) = has_form t n form (values_of.Number k ∷ [])
keeps_default t n other = true

-- nothing holds without a line
abbrev pub is_nothing : Absent → Bool
is_nothing absents.Nothing = true
is_nothing other = false

-- rows of a table, counted from `n`: there may be a line of each, and as many in the wider texts;
-- what holds without one is a line, and about channels nothing does
abbrev pub are_rows : TableText → ℕ → List Row → Bool
are_rows t n [] = true
are_rows t n (row ∷ rows) =
    (if row.of_channel then is_nothing row.absent else keeps_default t n row.absent)
    && nat_le 1 row.most
    && nat_le row.most row.wide
    && are_rows t (n + 1) rows

-- a table
abbrev pub is_table : TableText → Bool
is_table t = list_all (is_listed t) t.forms && all_apart t.forms && are_rows t 0 t.rows
