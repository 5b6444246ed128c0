-- Made by tools/make_examples: the examples of `tests/commands.rows`, computed
use Rattle.std.proofs.Common.{refl}
use Rattle.cm_examples.specs.Commands as said
use Rattle.cm_examples.proofs.Computes.{computes}

pub row_26_2 : said.Row_26_2
unfolding computes
row_26_2 = refl

pub row_26_3 : said.Row_26_3
unfolding computes
row_26_3 = refl

pub row_26_4 : said.Row_26_4
unfolding computes
row_26_4 = refl

pub row_26_5 : said.Row_26_5
unfolding computes
row_26_5 = refl

pub row_26_6 : said.Row_26_6
unfolding computes
row_26_6 = refl

pub row_26_7 : said.Row_26_7
unfolding computes
row_26_7 = refl

pub row_26_8 : said.Row_26_8
unfolding computes
row_26_8 = refl

pub row_26_9 : said.Row_26_9
unfolding computes
row_26_9 = refl

pub row_26_10 : said.Row_26_10
unfolding computes
row_26_10 = refl

pub row_26_11 : said.Row_26_11
unfolding computes
row_26_11 = refl

pub row_26_12 : said.Row_26_12
unfolding computes
row_26_12 = refl

pub row_26_13 : said.Row_26_13
unfolding computes
row_26_13 = refl

pub row_26_14 : said.Row_26_14
unfolding computes
row_26_14 = refl

pub row_26_15 : said.Row_26_15
unfolding computes
row_26_15 = refl

pub row_26_16 : said.Row_26_16
unfolding computes
row_26_16 = refl

pub row_26_17 : said.Row_26_17
unfolding computes
row_26_17 = refl

pub row_26_18 : said.Row_26_18
unfolding computes
row_26_18 = refl

pub row_26_19 : said.Row_26_19
unfolding computes
row_26_19 = refl

pub row_26_20 : said.Row_26_20
unfolding computes
row_26_20 = refl

pub row_71_2 : said.Row_71_2
unfolding computes
row_71_2 = refl

pub row_71_3 : said.Row_71_3
unfolding computes
row_71_3 = refl

pub row_71_4 : said.Row_71_4
unfolding computes
row_71_4 = refl
