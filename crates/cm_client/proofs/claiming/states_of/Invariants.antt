use Rattle.std.proofs.Common.{◌≡◌, length, map, take}
use Rattle.cm_board.specs.Board.{SubText}
use Rattle.cm_sub.specs.Owning.{channel_count}
use Rattle.cm_client.proofs.claiming.states_of.Given as goal

-- a state for each subdevice so far, of as many channels
abbrev pub invariant-loop-i : goal.invariant-loop-i
invariant-loop-i l = record {
  count : length l.states.items ≡ l.i;
  channels : map channel_count l.states.items ≡ map (λ (s : SubText). s.channels) (take l.i l.subs);
}
