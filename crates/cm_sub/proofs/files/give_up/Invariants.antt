use Rattle.std.specs.Prelude.{◌≡◌, ◌++◌, map, take, drop}
use Rattle.cm_sub.specs.Claims.{claim_without}
use Rattle.cm_sub.proofs.files.give_up.Given as goal

-- the file is out of the claims before `i`, and the others are as they were
abbrev pub invariant-loop-i : goal.invariant-loop-i
invariant-loop-i l = record {
  so_far : l.claims ≡ map (claim_without l.f) (take l.i l.initial.claims) ++ drop l.i l.initial.claims;
}
