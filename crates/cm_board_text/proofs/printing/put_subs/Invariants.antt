use Rattle.std.proofs.Common.{◌≡◌, ◌++◌, drop, take, flat_map}
use Rattle.std.specs.List.{All}
use Rattle.cm_board.specs.Board.{IsSaidSub}
use Rattle.cm_board_text.specs.Printed.{block_text}
use Rattle.cm_board_text.proofs.printing.put_subs.Given as goal

-- the blocks so far, each of a sound subdevice, and those that are left
abbrev pub invariant-loop-sub : goal.invariant-loop-sub
invariant-loop-sub l = record {
  text : l.initial.out.items ++ flat_map block_text l.subs ≡ l.out.items ++ flat_map block_text (drop l.sub-index l.subs);
  sound : All IsSaidSub (take l.sub-index l.subs);
}
