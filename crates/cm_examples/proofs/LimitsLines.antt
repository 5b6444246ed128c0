-- Made by tools/make_examples: the examples of `tests/limits_lines.rows`, computed
use Rattle.std.proofs.Common.{refl}
use Rattle.cm_examples.specs.LimitsLines as said
use Rattle.cm_examples.proofs.Computes.{computes}

pub row_44_1 : said.Row_44_1
unfolding computes
row_44_1 = refl

pub row_44_2 : said.Row_44_2
unfolding computes
row_44_2 = refl

pub row_44_3 : said.Row_44_3
unfolding computes
row_44_3 = refl

pub row_44_4 : said.Row_44_4
unfolding computes
row_44_4 = refl

pub row_44_5 : said.Row_44_5
unfolding computes
row_44_5 = refl

pub row_44_6 : said.Row_44_6
unfolding computes
row_44_6 = refl

pub row_52_1 : said.Row_52_1
unfolding computes
row_52_1 = refl

pub row_52_2 : said.Row_52_2
unfolding computes
row_52_2 = refl

pub row_52_3 : said.Row_52_3
unfolding computes
row_52_3 = refl

pub row_52_4 : said.Row_52_4
unfolding computes
row_52_4 = refl

pub row_58_1 : said.Row_58_1
unfolding computes
row_58_1 = refl

pub row_58_2 : said.Row_58_2
unfolding computes
row_58_2 = refl

pub row_58_3 : said.Row_58_3
unfolding computes
row_58_3 = refl

pub row_58_4 : said.Row_58_4
unfolding computes
row_58_4 = refl

pub row_58_5 : said.Row_58_5
unfolding computes
row_58_5 = refl

pub row_58_6 : said.Row_58_6
unfolding computes
row_58_6 = refl

pub row_58_7 : said.Row_58_7
unfolding computes
row_58_7 = refl

pub row_58_8 : said.Row_58_8
unfolding computes
row_58_8 = refl

pub row_58_9 : said.Row_58_9
unfolding computes
row_58_9 = refl

pub row_69_1 : said.Row_69_1
unfolding computes
row_69_1 = refl

pub row_69_2 : said.Row_69_2
unfolding computes
row_69_2 = refl

pub row_69_3 : said.Row_69_3
unfolding computes
row_69_3 = refl

pub row_74_1 : said.Row_74_1
unfolding computes
row_74_1 = refl

pub row_74_2 : said.Row_74_2
unfolding computes
row_74_2 = refl

pub row_74_3 : said.Row_74_3
unfolding computes
row_74_3 = refl

pub row_74_7 : said.Row_74_7
unfolding computes
row_74_7 = refl

pub row_84_1 : said.Row_84_1
unfolding computes
row_84_1 = refl

pub row_89_1 : said.Row_89_1
unfolding computes
row_89_1 = refl

pub row_89_2 : said.Row_89_2
unfolding computes
row_89_2 = refl

pub row_95_1 : said.Row_95_1
unfolding computes
row_95_1 = refl

pub row_95_4 : said.Row_95_4
unfolding computes
row_95_4 = refl

pub row_95_5 : said.Row_95_5
unfolding computes
row_95_5 = refl

pub row_102_1 : said.Row_102_1
unfolding computes
row_102_1 = refl

pub row_106_1 : said.Row_106_1
unfolding computes
row_106_1 = refl

pub row_106_2 : said.Row_106_2
unfolding computes
row_106_2 = refl

pub row_106_4 : said.Row_106_4
unfolding computes
row_106_4 = refl
