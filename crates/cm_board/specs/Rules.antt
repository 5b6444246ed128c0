-- The blocks in which lines may stand, and the rules over the values of a line.
use Rattle.std.specs.Prelude.{Bool, true, not, ◌==◌, ◌%◌, nat_le, int_lt, List, ◌∷◌}
use Rattle.std.specs.List.{list_all}
use Rattle.cm_board.specs.Kinds.{is_unused, may_command, may_fifo}
use Rattle.cm_board.specs.Times.{are_rising}
use Rattle.cm_board.specs.declared.board.Kind.{Kind}
use Rattle.cm_board.specs.declared.table.Place.{Place}
use Rattle.cm_board.specs.declared.table.Place.TheVariants as places
use Rattle.cm_board.specs.declared.table.Rule.{Rule}
use Rattle.cm_board.specs.declared.table.Rule.TheVariants as rules_of
use Rattle.cm_board.specs.declared.table.Value.{Value}
use Rattle.cm_board.specs.declared.table.Value.TheVariants as values_of

-- whether a line of this place may stand in a block of this kind
abbrev pub admits : Place → Kind → Bool
admits places.Any kind = not (is_unused kind)
admits places.Commands kind = may_command kind
admits places.Inputs kind = may_fifo kind

-- divisors that rise, or another value
abbrev pub rises : Value → Bool
rises (values_of.Divisors d) = are_rising d
rises value = true

-- what the values of a line keep together
abbrev pub keeps_rule : Rule → List Value → Bool
keeps_rule rules_of.Rising (values_of.Number a ∷ values_of.Number b ∷ more) = nat_le a b
keeps_rule rules_of.Below (values_of.Signed a ∷ values_of.Signed b ∷ more) = int_lt a b
keeps_rule rules_of.Below (values_of.Number chan ∷ values_of.Signed a ∷ values_of.Signed b ∷ more) = int_lt a b
keeps_rule rules_of.Even (values_of.Number a ∷ more) = a % 2 == 0
keeps_rule rules_of.Apart (values_of.Name a ∷ x ∷ values_of.Name b ∷ more) = not (a == b)
keeps_rule rules_of.Ordered values = list_all rises values
keeps_rule rule values = true
