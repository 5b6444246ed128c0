-- What a subdevice keeps between two instructions.
use Rattle.std.specs.Prelude.{◌≡◌, ℕ, Bool, false, List, length, replicate}

-- the kept value of each channel, and whether the channel is an output
pub record StateText : Type 0 where
  pub values : List ℕ
  pub outs : List Bool

-- each channel has both
abbrev pub IsState : StateText → Type 0
IsState state = length state.values ≡ length state.outs

-- zeros, and inputs
abbrev pub first_state : ℕ → StateText
first_state channels = record { values = replicate channels 0; outs = replicate channels false }
