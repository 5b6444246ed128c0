use Rattle.std.proofs.Common.{◌≡◌, [], length}
use Rattle.std.specs.List.{slice_split}
use Rattle.cm_base.specs.Words.{values}
use Rattle.cm_base.specs.Stops.{is_byte}
use Rattle.cm_cmd.specs.ListText.{entry_of}
use Rattle.cm_cmd.proofs.reading.read_entries.Given as goal

-- the entries so far, and what the rest says after them
abbrev pub invariant-loop-at : goal.invariant-loop-at
invariant-loop-at l = values l.fn.most entry_of [] (slice_split (is_byte 44) l.fn.text) ≡ values l.fn.most entry_of l.list.items (slice_split (is_byte 44) l.rest)

abbrev pub decreases-loop-at : goal.decreases-loop-at
decreases-loop-at l = length l.rest
