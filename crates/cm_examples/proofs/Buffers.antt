-- Made by tools/make_examples: the examples of `tests/buffers.rows`, computed
use Rattle.std.proofs.Common.{refl}
use Rattle.cm_examples.specs.Buffers as said
use Rattle.cm_examples.proofs.Computes.{computes}

pub row_117_4 : said.Row_117_4
unfolding computes
row_117_4 = refl
