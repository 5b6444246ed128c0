use Rattle.std.proofs.Common.{◌≡◌, map, take}
use Rattle.std.specs.List.{All}
use Rattle.cm_board.specs.Board.{IsSoundSub}
use Rattle.cm_replay.specs.State.{idle_device}
use Rattle.cm_replay.proofs.replay.seats_of.Given as goal

-- the places so far, each of a sound subdevice
abbrev pub invariant-loop-sub : goal.invariant-loop-sub
invariant-loop-sub l = record {
  so_far : l.seats.items ≡ map idle_device (take l.sub-index l.sub-items);
  sound : All IsSoundSub (take l.sub-index l.sub-items);
}
