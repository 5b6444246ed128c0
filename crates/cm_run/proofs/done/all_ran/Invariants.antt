use Rattle.std.proofs.Common.{◌≡◌}
use Rattle.std.specs.List.{flat_map}
use Rattle.cm_run.specs.Ran.{as_list}
use Rattle.cm_run.proofs.done.all_ran.Given as goal

-- the blocks and the readers of the lines so far
abbrev pub invariant-loop-done : goal.invariant-loop-done
invariant-loop-done l = record {
  text : l.ran.text ≡ flat_map (λ d. d.block.items) l.yielded;
  readers : l.ran.readers.items ≡ flat_map (λ d. as_list d.reader) l.yielded;
}
