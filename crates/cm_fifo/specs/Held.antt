-- The conversions that a FIFO holds.
use Rattle.std.specs.Prelude.{◌≡◌, ℕ, ◌+◌, ◌-◌, ◌/◌, ◌≤◌, ◌⊎◌, List, [], ◌∷◌, ◌++◌, length, drop, slice_get, Option}
use Rattle.std.specs.Prelude.{Some, None}
use Rattle.circular_buffer.specs.Buffer.{Buffer, buffer}
use Rattle.cm_board.specs.declared.board.Fifo.{Fifo}
use Rattle.cm_expand.specs.Board.{BoardState}
use Rattle.cm_expand.specs.Items.{items_of}
use Rattle.cm_expand.specs.Plan.{stop_edge_of}
use Rattle.cm_expand.specs.Taking.{come, left_of}
use Rattle.cm_expand.specs.declared.conv.Conv.{Conv}
use Rattle.cm_fifo.specs.Handed.{drain_time, last_of}

-- the conversions that aren't handed over yet: those that the FIFO holds, and those that the board is still to give
abbrev pub ahead : BoardState → List Conv → List Conv
ahead board cells = cells ++ left_of board

-- the conversions that are held are the last ones that the board gave
pub record IsHeld (board : BoardState) (cells : List Conv) : Type 0 where
  pub ahead_is : cells ++ left_of board ≡ drop (board.place - length cells) (items_of board.plan)
  pub few : length cells ≤ board.place
  pub within : board.place ≤ length (items_of board.plan)

-- one conversion more
pub record TookOne (conv : Conv) (old new : BoardState) (cells : Buffer Conv) (cells' : Buffer Conv) : Type 0 where
  pub there : slice_get (items_of old.plan) old.place ≡ Some conv
  pub board_is : new ≡ record old { place = old.place + 1 }
  pub cells_are : cells' ≡ buffer (cells.items ++ conv ∷ []) cells.capacity

-- no conversion more, where all were given
pub record TookNone (old new : BoardState) (cells : Buffer Conv) (cells' : Buffer Conv) : Type 0 where
  pub none : slice_get (items_of old.plan) old.place ≡ None
  pub board_is : new ≡ old
  pub cells_are : cells' ≡ cells

-- a FIFO holds two conversions at least
pub record IsSize (f : Fifo) : Type 0 where
  pub low : 2 ≤ f.depth
  pub high : f.depth ≤ 4096

-- a FIFO over a board holds conversions, as many as it has room for at most;
-- the horizon and the stop edge are those of the plan
pub record IsFilled (f : Fifo) (horizon : ℕ) (edge : Option ℕ) (board : BoardState) (cells : Buffer Conv) : Type 0 where
  pub held : IsHeld board cells.items
  pub size : IsSize f
  pub room : cells.capacity ≡ f.depth
  pub few : length cells.items ≤ f.depth
  pub horizon_is : horizon ≡ board.plan.signals.horizon
  pub edge_is : edge ≡ stop_edge_of board.plan

-- half the FIFO is full, or all conversions were given
abbrev pub IsAsked : Fifo → BoardState → List Conv → Type 0
IsAsked f board cells = (f.depth / 2 ≤ length cells) ⊎ (slice_get (items_of board.plan) board.place ≡ None)

-- when the next drain comes
abbrev pub drain_of : Fifo → BoardState → List Conv → ℕ
drain_of f board cells = drain_time f (last_of board.plan) board.plan.signals.horizon (ahead board cells)

-- all that is held comes by the next drain
abbrev pub IsEarly : Fifo → BoardState → List Conv → Type 0
IsEarly f board cells = come (drain_of f board cells) cells ≡ length cells
