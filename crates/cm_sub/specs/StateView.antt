-- How contracts see what a subdevice keeps.
use Rattle.cm_sub.specs.State.{StateText}
use Rattle.cm_sub.specs.declared.state.SubState.TheInside.{Inside}

-- the lists of its values and directions
abbrev pub state_text : Inside → StateText
state_text s = record { values = s.values.items; outs = s.outs.items }
