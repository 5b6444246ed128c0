-- A subdevice with its signals, and the values of its channels.
use Rattle.std.specs.Prelude.{ℕ, Bool, true, false, ◌&&◌, nat_lt, get_or, List, if◌then◌else◌}
use Rattle.cm_board.specs.Board.{SubText, maxdata_of, range_count, range_of}
use Rattle.cm_board.specs.declared.board.Kind.{Kind}
use Rattle.cm_board.specs.declared.board.Kind.TheVariants as kinds
use Rattle.cm_cmd.specs.Entry.{chan, range}
use Rattle.cm_sample.specs.Sample.{code_of}
use Rattle.cm_signal.specs.Signals.{SignalsText, level}
use Rattle.cm_sub.specs.State.{StateText}

-- a subdevice at a place of its board, with its signals, at a time
pub record SiteText : Type 0 where
  pub sub : SubText
  pub index : ℕ
  pub signals : SignalsText
  pub time : ℕ

-- an entry names a channel that the subdevice has, and one of its ranges
abbrev pub has_entry : SubText → ℕ → Bool
has_entry sub entry = nat_lt (chan entry) sub.channels && nat_lt (range entry) (range_count sub (chan entry))

-- whether a channel of a kind is an output; those of a dio subdevice are as they were configured
abbrev pub is_out_by : Kind → Bool → Bool
is_out_by kinds.Ao configured = true
is_out_by kinds.Do configured = true
is_out_by kinds.Dio configured = configured
is_out_by kind configured = false

-- a channel is an output: by its kind, or as it was configured
abbrev pub is_out : SubText → List Bool → ℕ → Bool
is_out sub outs c = is_out_by sub.kind (get_or outs c false)

-- the code of the level at a channel, in one of its ranges
abbrev pub input_at : SiteText → ℕ → ℕ → ℕ
input_at s c r = code_of (range_of s.sub c r) (maxdata_of s.sub c) (level s.signals s.index c s.time)

-- the value of a channel: what an output keeps, or the code of an input's level in a range
abbrev pub value_at : SiteText → StateText → ℕ → ℕ → ℕ
value_at s state c r = if is_out s.sub state.outs c then get_or state.values c 0 else input_at s c r
