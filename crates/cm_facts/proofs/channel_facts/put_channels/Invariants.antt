use Rattle.std.proofs.Common.{◌≡◌, ◌++◌, flat_map, take}
use Rattle.cm_facts.specs.ChannelFacts.{channel_facts}
use Rattle.cm_facts.proofs.channel_facts.put_channels.Given as goal

-- the channels so far
abbrev pub invariant-loop-chan : goal.invariant-loop-chan
invariant-loop-chan l = l.text.items ≡ l.initial.text.items ++ flat_map (channel_facts l.index l.sub) (take l.chan-index l.chans)
