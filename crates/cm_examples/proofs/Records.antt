-- Made by tools/make_examples: the examples of `tests/records.rows`, computed
use Rattle.std.proofs.Common.{refl}
use Rattle.cm_examples.specs.Records as said
use Rattle.cm_examples.proofs.Computes.{computes}

pub row_28 : said.Row_28
unfolding computes
row_28 = refl

pub row_53 : said.Row_53
unfolding computes
row_53 = refl

pub row_75_2 : said.Row_75_2
unfolding computes
row_75_2 = refl

pub row_75_3 : said.Row_75_3
unfolding computes
row_75_3 = refl

pub row_75_4 : said.Row_75_4
unfolding computes
row_75_4 = refl

pub row_75_5 : said.Row_75_5
unfolding computes
row_75_5 = refl

pub row_75_6 : said.Row_75_6
unfolding computes
row_75_6 = refl

pub row_75_7 : said.Row_75_7
unfolding computes
row_75_7 = refl

pub row_75_8 : said.Row_75_8
unfolding computes
row_75_8 = refl

pub row_75_9 : said.Row_75_9
unfolding computes
row_75_9 = refl

pub row_75_10 : said.Row_75_10
unfolding computes
row_75_10 = refl

pub row_75_11 : said.Row_75_11
unfolding computes
row_75_11 = refl

pub row_75_12 : said.Row_75_12
unfolding computes
row_75_12 = refl

pub row_75_13 : said.Row_75_13
unfolding computes
row_75_13 = refl

pub row_75_14 : said.Row_75_14
unfolding computes
row_75_14 = refl

pub row_75_15 : said.Row_75_15
unfolding computes
row_75_15 = refl

pub row_75_16 : said.Row_75_16
unfolding computes
row_75_16 = refl

pub row_75_17 : said.Row_75_17
unfolding computes
row_75_17 = refl

pub row_75_18 : said.Row_75_18
unfolding computes
row_75_18 = refl

pub row_95_2 : said.Row_95_2
unfolding computes
row_95_2 = refl

pub row_95_14 : said.Row_95_14
unfolding computes
row_95_14 = refl

pub row_95_15 : said.Row_95_15
unfolding computes
row_95_15 = refl

pub row_112_1 : said.Row_112_1
unfolding computes
row_112_1 = refl

pub row_112_2 : said.Row_112_2
unfolding computes
row_112_2 = refl

pub row_112_4 : said.Row_112_4
unfolding computes
row_112_4 = refl
