-- Made by tools/make_examples: the examples of `tests/lists.rows`, computed
use Rattle.std.proofs.Common.{refl}
use Rattle.cm_examples.specs.Lists as said
use Rattle.cm_examples.proofs.Computes.{computes}

pub row_27_2 : said.Row_27_2
unfolding computes
row_27_2 = refl

pub row_31_2 : said.Row_31_2
unfolding computes
row_31_2 = refl

pub row_31_3 : said.Row_31_3
unfolding computes
row_31_3 = refl

pub row_31_4 : said.Row_31_4
unfolding computes
row_31_4 = refl

pub row_31_5 : said.Row_31_5
unfolding computes
row_31_5 = refl

pub row_31_6 : said.Row_31_6
unfolding computes
row_31_6 = refl

pub row_39_2 : said.Row_39_2
unfolding computes
row_39_2 = refl

pub row_39_3 : said.Row_39_3
unfolding computes
row_39_3 = refl

pub row_39_4 : said.Row_39_4
unfolding computes
row_39_4 = refl

pub row_39_5 : said.Row_39_5
unfolding computes
row_39_5 = refl

pub row_46_2 : said.Row_46_2
unfolding computes
row_46_2 = refl

pub row_46_3 : said.Row_46_3
unfolding computes
row_46_3 = refl

pub row_46_4 : said.Row_46_4
unfolding computes
row_46_4 = refl

pub row_46_5 : said.Row_46_5
unfolding computes
row_46_5 = refl

pub row_46_6 : said.Row_46_6
unfolding computes
row_46_6 = refl

pub row_54_2 : said.Row_54_2
unfolding computes
row_54_2 = refl

pub row_54_3 : said.Row_54_3
unfolding computes
row_54_3 = refl

pub row_54_4 : said.Row_54_4
unfolding computes
row_54_4 = refl

pub row_54_5 : said.Row_54_5
unfolding computes
row_54_5 = refl

pub row_61_2 : said.Row_61_2
unfolding computes
row_61_2 = refl

pub row_61_3 : said.Row_61_3
unfolding computes
row_61_3 = refl

pub row_61_4 : said.Row_61_4
unfolding computes
row_61_4 = refl

pub row_61_5 : said.Row_61_5
unfolding computes
row_61_5 = refl

pub row_68_2 : said.Row_68_2
unfolding computes
row_68_2 = refl

pub row_68_3 : said.Row_68_3
unfolding computes
row_68_3 = refl

pub row_68_4 : said.Row_68_4
unfolding computes
row_68_4 = refl

pub row_68_5 : said.Row_68_5
unfolding computes
row_68_5 = refl

pub row_68_6 : said.Row_68_6
unfolding computes
row_68_6 = refl

pub row_68_7 : said.Row_68_7
unfolding computes
row_68_7 = refl

pub row_68_8 : said.Row_68_8
unfolding computes
row_68_8 = refl

pub row_68_9 : said.Row_68_9
unfolding computes
row_68_9 = refl

pub row_68_10 : said.Row_68_10
unfolding computes
row_68_10 = refl

pub row_68_11 : said.Row_68_11
unfolding computes
row_68_11 = refl

pub row_68_12 : said.Row_68_12
unfolding computes
row_68_12 = refl

pub row_68_13 : said.Row_68_13
unfolding computes
row_68_13 = refl

pub row_68_14 : said.Row_68_14
unfolding computes
row_68_14 = refl

pub row_68_15 : said.Row_68_15
unfolding computes
row_68_15 = refl

pub row_68_16 : said.Row_68_16
unfolding computes
row_68_16 = refl

pub row_68_17 : said.Row_68_17
unfolding computes
row_68_17 = refl

pub row_87_2 : said.Row_87_2
unfolding computes
row_87_2 = refl

pub row_87_3 : said.Row_87_3
unfolding computes
row_87_3 = refl

pub row_92_2 : said.Row_92_2
unfolding computes
row_92_2 = refl

pub row_92_3 : said.Row_92_3
unfolding computes
row_92_3 = refl

pub row_97_2 : said.Row_97_2
unfolding computes
row_97_2 = refl

pub row_97_3 : said.Row_97_3
unfolding computes
row_97_3 = refl

pub row_97_4 : said.Row_97_4
unfolding computes
row_97_4 = refl

pub row_97_5 : said.Row_97_5
unfolding computes
row_97_5 = refl

pub row_97_6 : said.Row_97_6
unfolding computes
row_97_6 = refl
