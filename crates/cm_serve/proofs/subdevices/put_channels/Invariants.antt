use Rattle.std.proofs.Common.{◌≡◌, ◌++◌, map}
use Rattle.std.specs.List.{concat, range_with_len}
use Rattle.cm_serve.specs.Subdevices.{channel_text}
use Rattle.cm_serve.proofs.subdevices.put_channels.Given as goal

-- the channels so far
abbrev pub invariant-loop-chan : goal.invariant-loop-chan
invariant-loop-chan l = l.text.items ≡ l.initial.text.items ++ concat (map (channel_text l.sub) (range_with_len 0 l.chan))
