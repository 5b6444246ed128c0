use Rattle.std.proofs.Common.{◌≡◌, drop, take}
use Rattle.cm_job.specs.RunPart.{are_codes}
use Rattle.cm_job.proofs.accepting.codes_of.Given as goal

-- the values so far, and what the numbers that are left have to be
abbrev pub invariant-loop-number : goal.invariant-loop-number
invariant-loop-number l = record {
  so_far : l.values.items ≡ take l.number-index l.numbers;
  left : are_codes l.sub l.list 0 l.numbers ≡ are_codes l.sub l.list l.number-index (drop l.number-index l.numbers);
}
