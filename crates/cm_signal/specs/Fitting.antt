-- Signals that speak only of what the board has.
use Rattle.std.specs.Prelude.{◌<◌, List, length, slice_get}
use Rattle.std.specs.List.{All}
use Rattle.cm_board.specs.Board.{SubText}
use Rattle.cm_signal.specs.Channel.{level_channels}
use Rattle.cm_signal.specs.Signals.{SignalsText}
use Rattle.cm_signal.specs.declared.signal_line.SignalLine.{SignalLine}
use Rattle.cm_signal.specs.declared.signal_line.SignalLine.TheVariants as said
use Rattle.cm_signal.specs.declared.signals.IntAt.{IntAt}
use Rattle.cm_signal.specs.declared.wave.WaveAt.{WaveAt}

-- the wave is that of a channel with levels
abbrev pub HasChannel : List SubText → WaveAt → Type 0
HasChannel subs w = w.chan < level_channels (slice_get subs w.sub)

-- the trigger is one of a subdevice of the board
abbrev pub HasSub : List SubText → IntAt → Type 0
HasSub subs int = int.sub < length subs

-- a line names a channel with levels, or a subdevice, that the board has
abbrev pub Fits : List SubText → SignalLine → Type 0
Fits subs (said.Wave w) = HasChannel subs w
Fits subs (said.Edges slope line times) = Unit {0}
Fits subs (said.Int int) = HasSub subs int

-- each wave is that of a channel with levels, and each trigger one of a subdevice
pub record FitBoard (subs : List SubText) (s : SignalsText) : Type 0 where
  pub waves : All (HasChannel subs) s.waves
  pub ints : All (HasSub subs) s.ints
