use Rattle.std.proofs.Common.{ℕ, ◌+◌, ◌%◌, ap, ◌∙◌, sym}
use Rattle.cm_ring_core.proofs.Keeps.{word_of_place}
use Rattle.cm_ring.proofs.place.word_of.Goals as goal

pub returns : goal.returns
returns c ring base = ap (λ (b : ℕ). (b + c.args.place) % 4294967296) (sym base) ∙ word_of_place ring c.args.place
