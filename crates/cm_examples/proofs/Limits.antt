-- Made by tools/make_examples: the examples of `tests/limits.rows`, computed
use Rattle.std.proofs.Common.{refl}
use Rattle.cm_examples.specs.Limits as said
use Rattle.cm_examples.proofs.Computes.{computes}

pub row_48_1 : said.Row_48_1
unfolding computes
row_48_1 = refl

pub row_48_2 : said.Row_48_2
unfolding computes
row_48_2 = refl

pub row_48_3 : said.Row_48_3
unfolding computes
row_48_3 = refl

pub row_48_4 : said.Row_48_4
unfolding computes
row_48_4 = refl

pub row_48_5 : said.Row_48_5
unfolding computes
row_48_5 = refl

pub row_48_6 : said.Row_48_6
unfolding computes
row_48_6 = refl

pub row_56_2 : said.Row_56_2
unfolding computes
row_56_2 = refl

pub row_56_3 : said.Row_56_3
unfolding computes
row_56_3 = refl

pub row_56_4 : said.Row_56_4
unfolding computes
row_56_4 = refl

pub row_56_5 : said.Row_56_5
unfolding computes
row_56_5 = refl

pub row_56_6 : said.Row_56_6
unfolding computes
row_56_6 = refl

pub row_56_7 : said.Row_56_7
unfolding computes
row_56_7 = refl

pub row_56_8 : said.Row_56_8
unfolding computes
row_56_8 = refl

pub row_56_9 : said.Row_56_9
unfolding computes
row_56_9 = refl

pub row_56_10 : said.Row_56_10
unfolding computes
row_56_10 = refl

pub row_77_2 : said.Row_77_2
unfolding computes
row_77_2 = refl

pub row_77_3 : said.Row_77_3
unfolding computes
row_77_3 = refl

pub row_77_4 : said.Row_77_4
unfolding computes
row_77_4 = refl

pub row_77_5 : said.Row_77_5
unfolding computes
row_77_5 = refl

pub row_77_6 : said.Row_77_6
unfolding computes
row_77_6 = refl

pub row_77_7 : said.Row_77_7
unfolding computes
row_77_7 = refl

pub row_77_8 : said.Row_77_8
unfolding computes
row_77_8 = refl

pub row_77_9 : said.Row_77_9
unfolding computes
row_77_9 = refl

pub row_77_10 : said.Row_77_10
unfolding computes
row_77_10 = refl

pub row_77_11 : said.Row_77_11
unfolding computes
row_77_11 = refl

pub row_77_12 : said.Row_77_12
unfolding computes
row_77_12 = refl

pub row_77_13 : said.Row_77_13
unfolding computes
row_77_13 = refl

pub row_77_14 : said.Row_77_14
unfolding computes
row_77_14 = refl

pub row_77_15 : said.Row_77_15
unfolding computes
row_77_15 = refl

pub row_77_16 : said.Row_77_16
unfolding computes
row_77_16 = refl

pub row_77_17 : said.Row_77_17
unfolding computes
row_77_17 = refl

pub row_96_2 : said.Row_96_2
unfolding computes
row_96_2 = refl

pub row_96_3 : said.Row_96_3
unfolding computes
row_96_3 = refl

pub row_101_2 : said.Row_101_2
unfolding computes
row_101_2 = refl

pub row_101_3 : said.Row_101_3
unfolding computes
row_101_3 = refl

pub row_110_2 : said.Row_110_2
unfolding computes
row_110_2 = refl

pub row_110_3 : said.Row_110_3
unfolding computes
row_110_3 = refl

pub row_110_4 : said.Row_110_4
unfolding computes
row_110_4 = refl

pub row_110_5 : said.Row_110_5
unfolding computes
row_110_5 = refl

pub row_110_6 : said.Row_110_6
unfolding computes
row_110_6 = refl

pub row_110_7 : said.Row_110_7
unfolding computes
row_110_7 = refl

pub row_110_8 : said.Row_110_8
unfolding computes
row_110_8 = refl

pub row_110_9 : said.Row_110_9
unfolding computes
row_110_9 = refl

pub row_110_10 : said.Row_110_10
unfolding computes
row_110_10 = refl

pub row_110_11 : said.Row_110_11
unfolding computes
row_110_11 = refl

pub row_110_12 : said.Row_110_12
unfolding computes
row_110_12 = refl

pub row_110_13 : said.Row_110_13
unfolding computes
row_110_13 = refl

pub row_110_14 : said.Row_110_14
unfolding computes
row_110_14 = refl

pub row_110_15 : said.Row_110_15
unfolding computes
row_110_15 = refl

pub row_110_16 : said.Row_110_16
unfolding computes
row_110_16 = refl

pub row_110_17 : said.Row_110_17
unfolding computes
row_110_17 = refl

pub row_110_18 : said.Row_110_18
unfolding computes
row_110_18 = refl

pub row_110_19 : said.Row_110_19
unfolding computes
row_110_19 = refl

pub row_110_20 : said.Row_110_20
unfolding computes
row_110_20 = refl

pub row_110_21 : said.Row_110_21
unfolding computes
row_110_21 = refl

pub row_110_22 : said.Row_110_22
unfolding computes
row_110_22 = refl

pub row_110_23 : said.Row_110_23
unfolding computes
row_110_23 = refl

pub row_110_25 : said.Row_110_25
unfolding computes
row_110_25 = refl

pub row_110_26 : said.Row_110_26
unfolding computes
row_110_26 = refl

pub row_159_2 : said.Row_159_2
unfolding computes
row_159_2 = refl

pub row_159_3 : said.Row_159_3
unfolding computes
row_159_3 = refl

pub row_164_2 : said.Row_164_2
unfolding computes
row_164_2 = refl

pub row_164_3 : said.Row_164_3
unfolding computes
row_164_3 = refl

pub row_164_4 : said.Row_164_4
unfolding computes
row_164_4 = refl

pub row_164_5 : said.Row_164_5
unfolding computes
row_164_5 = refl

pub row_164_6 : said.Row_164_6
unfolding computes
row_164_6 = refl

pub row_185_2 : said.Row_185_2
unfolding computes
row_185_2 = refl

pub row_185_3 : said.Row_185_3
unfolding computes
row_185_3 = refl

pub row_185_4 : said.Row_185_4
unfolding computes
row_185_4 = refl

pub row_185_5 : said.Row_185_5
unfolding computes
row_185_5 = refl

pub row_185_6 : said.Row_185_6
unfolding computes
row_185_6 = refl

pub row_185_7 : said.Row_185_7
unfolding computes
row_185_7 = refl

pub row_185_8 : said.Row_185_8
unfolding computes
row_185_8 = refl

pub row_185_9 : said.Row_185_9
unfolding computes
row_185_9 = refl

pub row_185_10 : said.Row_185_10
unfolding computes
row_185_10 = refl

pub row_237_1 : said.Row_237_1
unfolding computes
row_237_1 = refl

pub row_237_2 : said.Row_237_2
unfolding computes
row_237_2 = refl

pub row_237_3 : said.Row_237_3
unfolding computes
row_237_3 = refl

pub row_237_4 : said.Row_237_4
unfolding computes
row_237_4 = refl

pub row_237_5 : said.Row_237_5
unfolding computes
row_237_5 = refl

pub row_237_6 : said.Row_237_6
unfolding computes
row_237_6 = refl

pub row_237_7 : said.Row_237_7
unfolding computes
row_237_7 = refl

pub row_237_8 : said.Row_237_8
unfolding computes
row_237_8 = refl

pub row_237_9 : said.Row_237_9
unfolding computes
row_237_9 = refl

pub row_237_10 : said.Row_237_10
unfolding computes
row_237_10 = refl

pub row_237_11 : said.Row_237_11
unfolding computes
row_237_11 = refl

pub row_237_12 : said.Row_237_12
unfolding computes
row_237_12 = refl

pub row_237_13 : said.Row_237_13
unfolding computes
row_237_13 = refl

pub row_237_14 : said.Row_237_14
unfolding computes
row_237_14 = refl

pub row_237_15 : said.Row_237_15
unfolding computes
row_237_15 = refl

pub row_237_16 : said.Row_237_16
unfolding computes
row_237_16 = refl

pub row_237_17 : said.Row_237_17
unfolding computes
row_237_17 = refl

pub row_237_18 : said.Row_237_18
unfolding computes
row_237_18 = refl

pub row_237_19 : said.Row_237_19
unfolding computes
row_237_19 = refl

pub row_237_20 : said.Row_237_20
unfolding computes
row_237_20 = refl

pub row_237_21 : said.Row_237_21
unfolding computes
row_237_21 = refl

pub row_260_2 : said.Row_260_2
unfolding computes
row_260_2 = refl

pub row_260_3 : said.Row_260_3
unfolding computes
row_260_3 = refl

pub row_260_4 : said.Row_260_4
unfolding computes
row_260_4 = refl

pub row_260_5 : said.Row_260_5
unfolding computes
row_260_5 = refl

pub row_260_6 : said.Row_260_6
unfolding computes
row_260_6 = refl

pub row_260_7 : said.Row_260_7
unfolding computes
row_260_7 = refl

pub row_260_8 : said.Row_260_8
unfolding computes
row_260_8 = refl

pub row_260_9 : said.Row_260_9
unfolding computes
row_260_9 = refl

pub row_260_10 : said.Row_260_10
unfolding computes
row_260_10 = refl

pub row_260_11 : said.Row_260_11
unfolding computes
row_260_11 = refl

pub row_260_12 : said.Row_260_12
unfolding computes
row_260_12 = refl

pub row_260_13 : said.Row_260_13
unfolding computes
row_260_13 = refl

pub row_260_14 : said.Row_260_14
unfolding computes
row_260_14 = refl

pub row_260_15 : said.Row_260_15
unfolding computes
row_260_15 = refl

pub row_260_16 : said.Row_260_16
unfolding computes
row_260_16 = refl

pub row_260_17 : said.Row_260_17
unfolding computes
row_260_17 = refl

pub row_260_18 : said.Row_260_18
unfolding computes
row_260_18 = refl

pub row_260_19 : said.Row_260_19
unfolding computes
row_260_19 = refl

pub row_260_20 : said.Row_260_20
unfolding computes
row_260_20 = refl

pub row_260_21 : said.Row_260_21
unfolding computes
row_260_21 = refl

pub row_260_22 : said.Row_260_22
unfolding computes
row_260_22 = refl

pub row_260_23 : said.Row_260_23
unfolding computes
row_260_23 = refl

pub row_260_24 : said.Row_260_24
unfolding computes
row_260_24 = refl

pub row_260_25 : said.Row_260_25
unfolding computes
row_260_25 = refl

pub row_260_26 : said.Row_260_26
unfolding computes
row_260_26 = refl

pub row_260_27 : said.Row_260_27
unfolding computes
row_260_27 = refl

pub row_260_28 : said.Row_260_28
unfolding computes
row_260_28 = refl

pub row_260_29 : said.Row_260_29
unfolding computes
row_260_29 = refl
