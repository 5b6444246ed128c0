-- What an instruction doesn't name stays.
use Rattle.std.specs.Prelude.{◌≡◌, ℕ, Bool, false, ◌==◌, List, get_or, slice_index}
use Rattle.cm_cmd.specs.Entry.{chan}
use Rattle.cm_sub.specs.State.{StateText}
use Rattle.cm_insn.specs.Bits.{takes_bit}
use Rattle.cm_insn.specs.Insn.{insn, state_after}
use Rattle.cm_insn.specs.Site.{SiteText}
use Rattle.cm_insn.specs.declared.insn.InsnCode.{InsnCode}
use Rattle.cm_insn.specs.declared.insn.InsnCode.TheVariants as codes

-- whether an instruction can change what a channel keeps: the entry's channel, or an output that takes its bit
abbrev pub names : SiteText → StateText → InsnCode → ℕ → List ℕ → ℕ → Bool
names s state codes.Write entry given c = c == chan entry
names s state codes.Config entry given c = c == chan entry
names s state codes.Bits entry given c = takes_bit s.sub state.outs (slice_index given 0) c
names s state code entry given c = false

-- a channel keeps its value and its direction
pub record IsSame (old new : StateText) (c : ℕ) : Type 0 where
  pub value : get_or new.values c 0 ≡ get_or old.values c 0
  pub out : get_or new.outs c false ≡ get_or old.outs c false

-- a channel that an instruction doesn't name is as before
abbrev pub OthersStay : Type 0
OthersStay =
    (s : SiteText) (state : StateText) (code : InsnCode) (entry : ℕ) (given : List ℕ) (c : ℕ)
    → names s state code entry given c ≡ false → IsSame state (state_after (insn s state code entry given) state) c
