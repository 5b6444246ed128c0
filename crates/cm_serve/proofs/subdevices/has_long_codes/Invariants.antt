use Rattle.std.proofs.Common.{◌≡◌, false, map}
use Rattle.std.specs.Prelude.{nat_lt}
use Rattle.std.specs.List.{list_any, range_with_len}
use Rattle.cm_board.specs.Board.{maxdata_of}
use Rattle.cm_serve.proofs.subdevices.has_long_codes.Given as goal

-- none so far
abbrev pub invariant-loop-chan : goal.invariant-loop-chan
invariant-loop-chan l = list_any (nat_lt 65535) (map (maxdata_of l.sub) (range_with_len 0 l.chan)) ≡ false
