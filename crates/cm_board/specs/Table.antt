-- A table of lines: its rows, and the forms in which they are written.
use Rattle.std.specs.Prelude.{ℕ, zero, suc, ◌+◌, ◌*◌, Bool, true, false, ◌&&◌, nat_le, List, [], ◌∷◌, ◌++◌, length, map}
use Rattle.std.specs.Prelude.{flat_map, if◌then◌else◌}
use Rattle.std.specs.List.{range_with_len}
use Rattle.cm_board.specs.Rules.{admits}
use Rattle.cm_board.specs.declared.table.Absent.{Absent}
use Rattle.cm_board.specs.declared.table.Absent.TheVariants as absents
use Rattle.cm_board.specs.declared.table.Form.{Form}
use Rattle.cm_board.specs.declared.table.Head.{Head}
use Rattle.cm_board.specs.declared.table.Limits.{Limits}
use Rattle.cm_board.specs.declared.table.Place.{Place}
use Rattle.cm_board.specs.declared.table.Place.TheVariants as places
use Rattle.cm_board.specs.declared.table.Row.{Row}
use Rattle.cm_board.specs.declared.table.Rule.{Rule}
use Rattle.cm_board.specs.declared.table.Rule.TheVariants as rules_of
use Rattle.cm_board.specs.declared.table.Sets.{Sets}
use Rattle.cm_board.specs.declared.table.Table.{Table}
use Rattle.cm_board.specs.declared.table.Value.{Value}
use Rattle.cm_board.specs.declared.table.Value.TheVariants as values_of
use Rattle.cm_board.specs.declared.table.Word.{Word}
use Rattle.cm_board.specs.declared.table.Word.TheVariants as words_of

-- what a word has to be: this very word, a number within limits, a signed number,
-- sources of a set by the version, one source, one of some names, a channel, or divisors
pub data WordText : Type 0 where
  Fixed : List ℕ → WordText
  Number : Limits → WordText
  Signed : WordText
  Sources : Sets → WordText
  Source : WordText
  Name : List (List ℕ) → WordText
  Channel : WordText
  Divisors : WordText

-- what a word has to be, as contracts see it
abbrev pub word_text : Word → WordText
word_text (words_of.Fixed key) = Fixed key.now
word_text (words_of.Number limits) = Number limits
word_text words_of.Signed = Signed
word_text (words_of.Sources sets) = Sources sets
word_text words_of.Source = Source
word_text (words_of.Name names) = Name (map (λ name. name.now) names.now)
word_text words_of.Channel = Channel
word_text words_of.Divisors = Divisors

-- a way to write a line: the place of its row, its words, and what the values keep together
pub record FormText : Type 0 where
  pub row : ℕ
  pub words : List WordText
  pub rule : Rule

-- a form as contracts see it
abbrev pub form_text : Form → FormText
form_text f = record { row = f.row; words = map word_text f.words.now; rule = f.rule }

-- a table: the rows in the order in which lines are printed, and the forms
pub record TableText : Type 0 where
  pub rows : List Row
  pub forms : List FormText

-- a table as contracts see it
abbrev pub table_text : Table → TableText
table_text t = record { rows = t.rows.now; forms = map form_text t.forms.now }

-- a row that no line has
abbrev pub no_row : Row
no_row = record { most = 0; wide = 0; since = 0; place = places.Any; absent = absents.Nothing; of_channel = false }

-- the row at a place
abbrev pub row_at : ℕ → List Row → Row
row_at n [] = no_row
row_at zero (row ∷ rows) = row
row_at (suc n) (row ∷ rows) = row_at n rows

-- a form that no line has
abbrev pub no_form : FormText
no_form = record { row = 0; words = []; rule = rules_of.Free }

-- the form at a place
abbrev pub form_at : ℕ → List FormText → FormText
form_at n [] = no_form
form_at zero (form ∷ forms) = form
form_at (suc n) (form ∷ forms) = form_at n forms

-- a row as it is laid out for the subdevice as a whole: one of channels takes no place there
abbrev pub own_row : Row → Row
own_row row = if row.of_channel then no_row else row

-- a row as it is laid out for one channel: only one of channels has a place there
abbrev pub channel_row : Row → Row
channel_row row = if row.of_channel then row else no_row

-- the rows laid out for a block in the order in which lines are printed:
-- once for the subdevice, then once for each channel
abbrev pub laid : ℕ → List Row → List Row
laid channels rows = map own_row rows ++ flat_map (λ chan. map channel_row rows) (range_with_len 0 channels)

-- the channel of a line about one
abbrev pub channel_of : List Value → ℕ
channel_of (values_of.Number chan ∷ values) = chan
channel_of values = 0

-- the place of a line's row among those that are laid out
abbrev pub place_of : List Row → FormText → List Value → ℕ
place_of rows form values =
    if (row_at form.row rows).of_channel then (channel_of values + 1) * length rows + form.row else form.row

-- whether a line may stand in a block
abbrev pub may_stand : Head → Row → Bool
may_stand head row = nat_le row.since head.version && admits row.place head.kind

-- a place only in blocks with commands
abbrev pub command_place : Place → Bool
command_place places.Any = false
command_place other = true

-- a line of commands
abbrev pub is_command : Row → Bool
is_command row = command_place row.place

-- whether a block needs a line, by what holds without it
abbrev pub is_needed : Absent → Bool → Bool
is_needed absents.Missing takes = true
is_needed absents.MissingWithCommands takes = takes
is_needed other takes = false

-- a row of which a block needs a line
abbrev pub needs : Head → Bool → Row → Bool
needs head takes row = may_stand head row && is_needed row.absent takes
