-- The lines of a block together: those that are missing, and those that hold without standing there.
use Rattle.std.specs.Prelude.{ℕ, ◌+◌, Bool, not, ◌&&◌, ◌||◌, ◌==◌, List, [], ◌∷◌, length, flat_map, if◌then◌else◌}
use Rattle.std.specs.List.{filter, list_any}
use Rattle.cm_board.specs.Items.{ItemText}
use Rattle.cm_board.specs.Table.{is_command, may_stand, needs}
use Rattle.cm_board.specs.declared.table.Absent.{Absent}
use Rattle.cm_board.specs.declared.table.Absent.TheVariants as absents
use Rattle.cm_board.specs.declared.table.Head.{Head}
use Rattle.cm_board.specs.declared.table.Row.{Row}
use Rattle.cm_board.specs.declared.table.Value.TheVariants as values_of

-- the lines of one row
abbrev pub of_row : ℕ → List ItemText → List ItemText
of_row n items = filter (λ item. item.row == n) items

-- a row with its place and its lines
pub record Slot : Type 0 where
  pub at : ℕ
  pub row : Row
  pub items : List ItemText

-- each row with its lines, where the rows are counted from `n`
abbrev pub slots_from : ℕ → List Row → List ItemText → List Slot
slots_from n [] items = []
slots_from n (row ∷ rows) items = record { at = n; row = row; items = of_row n items } ∷ slots_from (n + 1) rows items

-- no line
abbrev pub is_empty : List ItemText → Bool
is_empty items = length items == 0

-- a row of commands that has a line
abbrev pub is_used : Slot → Bool
is_used s = is_command s.row && not (is_empty s.items)

-- whether a block has a line of commands
abbrev pub takes : List Slot → Bool
takes slots = list_any is_used slots

-- a needed line is missing
abbrev pub lacks_line : Head → Bool → Slot → Bool
lacks_line head takes s = needs head takes s.row && is_empty s.items

-- some needed line of a block is missing
abbrev pub lacks : Head → Bool → List Slot → Bool
lacks head takes slots = list_any (lacks_line head takes) slots

-- the line that holds where none stands
abbrev pub default_of : ℕ → Absent → List ItemText
default_of at (absents.Stands form) = record { row = at; form = form; values = [] } ∷ []
default_of at (absents.Says form n) = record { row = at; form = form; values = values_of.Number n ∷ [] } ∷ []
default_of at other = []

-- a block in which the default of a row holds
abbrev pub has_default : Head → Bool → Row → Bool
has_default head takes row = may_stand head row && (takes || not (is_command row))

-- the lines of a row, or the one that holds without them
abbrev pub filled : Head → Bool → Slot → List ItemText
filled head takes s =
    if is_empty s.items then (if has_default head takes s.row then default_of s.at s.row.absent else []) else s.items

-- the lines of a block in the order of its rows, with those that hold without standing there
abbrev pub whole : Head → Bool → List Slot → List ItemText
whole head takes slots = flat_map (filled head takes) slots
