-- How contracts see a board with a FIFO.
use Rattle.std.specs.Prelude.{◌-◌, length}
use Rattle.cm_fifo.specs.State.{FifoState, IsFifo, ready_of}
use Rattle.cm_fifo.specs.declared.board.FifoBoard.TheInside.{Inside}

-- a board with a FIFO as contracts see it
abbrev pub fifo_state : Inside → FifoState
fifo_state b = record {
  plan = b.board.plan;
  fifo = b.fifo;
  drains = b.drains;
  taken = b.board.place - length b.cells.items;
  ready = ready_of b.is_ready b.cells.items;
  over = b.is_over;
}

-- what it keeps
abbrev pub IsSoundState : Inside → Type 0
IsSoundState b = IsFifo b.fifo b.horizon b.edge b.board b.cells b.drains b.is_ready
