-- What a line says.
use Rattle.std.specs.Prelude.{ℕ, List}
use Rattle.cm_board.specs.declared.table.Value.{Value}

-- the place of a line's row, that of its form, and the line's values
pub record ItemText : Type 0 where
  pub row : ℕ
  pub form : ℕ
  pub values : List Value
