use Rattle.std.proofs.Common.{ℕ, ◌+◌, ◌-◌, ◌%◌, ap, ◌∙◌, sym}
use Rattle.cm_ring_core.proofs.Keeps.{told_place}
use Rattle.cm_ring.proofs.place.place_from.Goals as goal

pub returns : goal.returns
returns c ring k base is low high = ap (λ (b : ℕ). c.args.old + (c.args.word % 4294967296 + (4294967296 - (b + c.args.old) % 4294967296)) % 4294967296) (sym base) ∙ told_place ring c.args.old c.args.word k is low high
