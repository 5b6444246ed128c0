use Rattle.std.proofs.Common.{◌≡◌, ◌++◌, map, take, drop}
use Rattle.cm_text.specs.Outputs.{output_texts}
use Rattle.cm_replay.specs.Session.{brought_device, due_from}
use Rattle.cm_replay.proofs.passing.bring_all.Given as goal

-- those before `i` are brought to the time, and the others stand
abbrev pub invariant-loop-i : goal.invariant-loop-i
invariant-loop-i l = record {
  so_far : l.seats.items ≡ map (brought_device l.time) (take l.i l.initial.seats.items) ++ drop l.i l.initial.seats.items;
  reported : l.text.items ++ output_texts (due_from l.i l.time (drop l.i l.initial.seats.items)) ≡ l.initial.text.items ++ output_texts (due_from 0 l.time l.initial.seats.items);
}
