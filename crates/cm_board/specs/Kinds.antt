-- What the kind of a subdevice says of it.
use Rattle.std.specs.Prelude.{Bool, true, false}
use Rattle.cm_board.specs.declared.board.Kind.{Kind}
use Rattle.cm_board.specs.declared.board.Kind.TheVariants as kinds

-- whether a subdevice is there in name alone
abbrev pub is_unused : Kind → Bool
is_unused kinds.Unused = true
is_unused kind = false

-- the kinds whose channels are one bit
abbrev pub is_digital : Kind → Bool
is_digital kinds.Di = true
is_digital kinds.Do = true
is_digital kinds.Dio = true
is_digital kind = false

-- the kind whose channels can be made inputs or outputs
abbrev pub is_dio : Kind → Bool
is_dio kinds.Dio = true
is_dio kind = false

-- the kinds whose samples go out
abbrev pub is_output : Kind → Bool
is_output kinds.Ao = true
is_output kinds.Do = true
is_output kind = false

-- the kinds whose channels have levels from outside
abbrev pub has_levels : Kind → Bool
has_levels kinds.Ai = true
has_levels kinds.Di = true
has_levels kinds.Dio = true
has_levels kind = false

-- the kinds that may take commands
abbrev pub may_command : Kind → Bool
may_command kinds.Unused = false
may_command kinds.Dio = false
may_command kind = true

-- the kinds whose samples may come through a hardware FIFO
abbrev pub may_fifo : Kind → Bool
may_fifo kinds.Ai = true
may_fifo kinds.Di = true
may_fifo kind = false
