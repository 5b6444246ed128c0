use Rattle.std.proofs.Common.{◌≡◌, ◌++◌, take, drop}
use Rattle.cm_replay.specs.Session.{left_devices}
use Rattle.cm_replay.proofs.closing.end_commands.Given as goal

-- the commands before `i` are ended where their files don't have their subdevices
abbrev pub invariant-loop-i : goal.invariant-loop-i
invariant-loop-i l = record {
  so_far : l.seats.items ≡ left_devices (take l.i l.files.claims) (take l.i l.initial.seats.items) ++ drop l.i l.initial.seats.items;
}
