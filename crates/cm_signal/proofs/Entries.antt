-- How many entries the list of a command has at most.
use Rattle.std.proofs.Common.{ℕ, ◌≤◌, true, false, arith}
use Rattle.std.specs.Prelude.{if◌then◌else◌}
use Rattle.cm_board.specs.Versions.{is_wide, most_entries}

pub few_entries : (version : ℕ) → most_entries version ≤ 1024
few_entries version = elim (is_wide version) as (λ b. (if b then 1024 else 256) ≤ 1024) [
  | true ↦ omega arith
  | false ↦ omega arith
]
