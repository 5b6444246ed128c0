-- What the lines of a whole block keep.
use Rattle.std.specs.Prelude.{ℕ, ◌-◌, ◌≡◌, Bool, true, false, not, ◌&&◌, ◌==◌, nat_le, nat_lt, bit_and, IsTrue, IsFalse}
use Rattle.std.specs.Prelude.{if◌then◌else◌, List, [], ◌∷◌, length}
use Rattle.std.specs.List.{list_all}
use Rattle.cm_base.specs.Words.{is_int}
use Rattle.cm_board.specs.Items.{ItemText}
use Rattle.cm_board.specs.Rules.{keeps_rule}
use Rattle.cm_board.specs.Slots.{Slot, lacks, slots_from, takes, whole}
use Rattle.cm_board.specs.Table.{FormText, TableText, WordText, Fixed, Number, Signed, Sources, Source, Name, Channel}
use Rattle.cm_board.specs.Table.{Divisors}
use Rattle.cm_board.specs.Times.{are_divisors}
use Rattle.cm_board.specs.Versions.{is_wide, most_in}
use Rattle.cm_board.specs.Table.{form_at, laid, may_stand, place_of, row_at}
use Rattle.cm_board.specs.declared.table.Head.{Head}
use Rattle.cm_board.specs.declared.table.Limits.{Limits}
use Rattle.cm_board.specs.declared.table.Sets.{Sets}
use Rattle.cm_board.specs.declared.table.Value.{Value}
use Rattle.cm_board.specs.declared.table.Value.TheVariants as values_of

-- some sources of a set, and none but these
abbrev pub is_among : ℕ → ℕ → Bool
is_among set mask = not (mask == 0) && bit_and mask set == mask

-- one source
abbrev pub is_source : ℕ → Bool
is_source src = is_among 511 src && bit_and src (src - 1) == 0

-- a number within the limits of a version
abbrev pub is_within : ℕ → Limits → ℕ → Bool
is_within version l n = nat_le l.least n && nat_le n (most_in version l.most l.wide)

-- the sources that a word may have on a board of a version
abbrev pub set_in : ℕ → Sets → ℕ
set_in version sets = if is_wide version then sets.wide else if nat_le 2 version then sets.second else sets.first

-- a value that a word may say
abbrev pub is_kept : Head → WordText → Value → Bool
is_kept head (Number l) (values_of.Number n) = is_within head.version l n
is_kept head Signed (values_of.Signed z) = is_int z
is_kept head (Sources sets) (values_of.Number n) = is_among (set_in head.version sets) n
is_kept head Source (values_of.Number n) = is_source n
is_kept head (Name names) (values_of.Name n) = nat_lt n (length names)
is_kept head Channel (values_of.Number n) = nat_lt n head.channels
is_kept head Divisors (values_of.Divisors d) = are_divisors d
is_kept head kind v = false

-- values that words may say, one for each that is not fixed
abbrev pub are_kept : Head → List WordText → List Value → Bool
are_kept head [] [] = true
are_kept head [] (v ∷ vs) = false
are_kept head (Fixed key ∷ kinds) vs = are_kept head kinds vs
are_kept head (kind ∷ kinds) [] = false
are_kept head (kind ∷ kinds) (v ∷ vs) = is_kept head kind v && are_kept head kinds vs

-- a form's values
abbrev pub keeps : Head → FormText → List Value → Bool
keeps head form values = are_kept head form.words values && keeps_rule form.rule values

-- a line of a form of the table, at the place of its row
abbrev pub is_known : TableText → ItemText → Bool
is_known t item =
    nat_lt item.form (length t.forms) && place_of t.rows (form_at item.form t.forms) item.values == item.row

-- a line that may stand in a block
abbrev pub is_good : TableText → Head → ItemText → Bool
is_good t head item =
    is_known t item
    && may_stand head (row_at (form_at item.form t.forms).row t.rows)
    && keeps head (form_at item.form t.forms) item.values

-- no more lines of a row than there may be in texts of a version
abbrev pub is_few : ℕ → Slot → Bool
is_few version s = nat_le (length s.items) (most_in version s.row.most s.row.wide)

-- the slots of a block
abbrev pub slots : TableText → Head → List ItemText → List Slot
slots t head items = slots_from 0 (laid head.channels t.rows) items

-- the lines of a whole block: each may stand there, none too often, no needed one is missing,
-- and those that hold without standing there are among them, in the order in which they are printed
pub record IsWhole (t : TableText) (head : Head) (items : List ItemText) : Type 0 where
  pub good : IsTrue (list_all (is_good t head) items)
  pub few : IsTrue (list_all (is_few head.version) (slots t head items))
  pub full : IsFalse (lacks head (takes (slots t head items)) (slots t head items))
  pub same : whole head (takes (slots t head items)) (slots t head items) ≡ items
