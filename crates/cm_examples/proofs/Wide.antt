-- Made by tools/make_examples: the examples of `tests/wide.rows`, computed
use Rattle.std.proofs.Common.{refl}
use Rattle.cm_examples.specs.Wide as said
use Rattle.cm_examples.proofs.Computes.{computes}

pub row_28_1 : said.Row_28_1
unfolding computes
row_28_1 = refl

pub row_28_2 : said.Row_28_2
unfolding computes
row_28_2 = refl

pub row_28_3 : said.Row_28_3
unfolding computes
row_28_3 = refl

pub row_28_4 : said.Row_28_4
unfolding computes
row_28_4 = refl

pub row_28_5 : said.Row_28_5
unfolding computes
row_28_5 = refl

pub row_28_6 : said.Row_28_6
unfolding computes
row_28_6 = refl

pub row_28_7 : said.Row_28_7
unfolding computes
row_28_7 = refl

pub row_28_8 : said.Row_28_8
unfolding computes
row_28_8 = refl

pub row_28_9 : said.Row_28_9
unfolding computes
row_28_9 = refl

pub row_28_10 : said.Row_28_10
unfolding computes
row_28_10 = refl

pub row_40_1 : said.Row_40_1
unfolding computes
row_40_1 = refl

pub row_40_2 : said.Row_40_2
unfolding computes
row_40_2 = refl

pub row_40_3 : said.Row_40_3
unfolding computes
row_40_3 = refl

pub row_40_4 : said.Row_40_4
unfolding computes
row_40_4 = refl

pub row_40_5 : said.Row_40_5
unfolding computes
row_40_5 = refl

pub row_40_6 : said.Row_40_6
unfolding computes
row_40_6 = refl

pub row_40_7 : said.Row_40_7
unfolding computes
row_40_7 = refl

pub row_40_8 : said.Row_40_8
unfolding computes
row_40_8 = refl

pub row_40_9 : said.Row_40_9
unfolding computes
row_40_9 = refl

pub row_40_10 : said.Row_40_10
unfolding computes
row_40_10 = refl

pub row_40_11 : said.Row_40_11
unfolding computes
row_40_11 = refl

pub row_40_12 : said.Row_40_12
unfolding computes
row_40_12 = refl

pub row_40_13 : said.Row_40_13
unfolding computes
row_40_13 = refl

pub row_40_14 : said.Row_40_14
unfolding computes
row_40_14 = refl

pub row_40_15 : said.Row_40_15
unfolding computes
row_40_15 = refl

pub row_40_16 : said.Row_40_16
unfolding computes
row_40_16 = refl

pub row_40_17 : said.Row_40_17
unfolding computes
row_40_17 = refl

pub row_40_18 : said.Row_40_18
unfolding computes
row_40_18 = refl

pub row_40_19 : said.Row_40_19
unfolding computes
row_40_19 = refl

pub row_40_20 : said.Row_40_20
unfolding computes
row_40_20 = refl

pub row_40_21 : said.Row_40_21
unfolding computes
row_40_21 = refl

pub row_40_22 : said.Row_40_22
unfolding computes
row_40_22 = refl

pub row_40_23 : said.Row_40_23
unfolding computes
row_40_23 = refl

pub row_40_24 : said.Row_40_24
unfolding computes
row_40_24 = refl

pub row_40_25 : said.Row_40_25
unfolding computes
row_40_25 = refl

pub row_40_26 : said.Row_40_26
unfolding computes
row_40_26 = refl

pub row_40_27 : said.Row_40_27
unfolding computes
row_40_27 = refl

pub row_40_28 : said.Row_40_28
unfolding computes
row_40_28 = refl

pub row_40_29 : said.Row_40_29
unfolding computes
row_40_29 = refl

pub row_40_30 : said.Row_40_30
unfolding computes
row_40_30 = refl

pub row_40_31 : said.Row_40_31
unfolding computes
row_40_31 = refl

pub row_40_32 : said.Row_40_32
unfolding computes
row_40_32 = refl

pub row_40_33 : said.Row_40_33
unfolding computes
row_40_33 = refl

pub row_40_34 : said.Row_40_34
unfolding computes
row_40_34 = refl

pub row_40_35 : said.Row_40_35
unfolding computes
row_40_35 = refl

pub row_40_36 : said.Row_40_36
unfolding computes
row_40_36 = refl

pub row_40_37 : said.Row_40_37
unfolding computes
row_40_37 = refl

pub row_40_38 : said.Row_40_38
unfolding computes
row_40_38 = refl

pub row_40_39 : said.Row_40_39
unfolding computes
row_40_39 = refl

pub row_40_40 : said.Row_40_40
unfolding computes
row_40_40 = refl

pub row_40_41 : said.Row_40_41
unfolding computes
row_40_41 = refl

pub row_40_42 : said.Row_40_42
unfolding computes
row_40_42 = refl

pub row_40_43 : said.Row_40_43
unfolding computes
row_40_43 = refl

pub row_40_44 : said.Row_40_44
unfolding computes
row_40_44 = refl

pub row_40_45 : said.Row_40_45
unfolding computes
row_40_45 = refl

pub row_40_46 : said.Row_40_46
unfolding computes
row_40_46 = refl

pub row_40_47 : said.Row_40_47
unfolding computes
row_40_47 = refl

pub row_40_48 : said.Row_40_48
unfolding computes
row_40_48 = refl

pub row_40_49 : said.Row_40_49
unfolding computes
row_40_49 = refl

pub row_40_50 : said.Row_40_50
unfolding computes
row_40_50 = refl

pub row_40_51 : said.Row_40_51
unfolding computes
row_40_51 = refl

pub row_40_52 : said.Row_40_52
unfolding computes
row_40_52 = refl

pub row_94_1 : said.Row_94_1
unfolding computes
row_94_1 = refl

pub row_94_2 : said.Row_94_2
unfolding computes
row_94_2 = refl

pub row_94_3 : said.Row_94_3
unfolding computes
row_94_3 = refl

pub row_94_4 : said.Row_94_4
unfolding computes
row_94_4 = refl

pub row_94_5 : said.Row_94_5
unfolding computes
row_94_5 = refl

pub row_94_6 : said.Row_94_6
unfolding computes
row_94_6 = refl

pub row_94_7 : said.Row_94_7
unfolding computes
row_94_7 = refl

pub row_94_8 : said.Row_94_8
unfolding computes
row_94_8 = refl

pub row_94_9 : said.Row_94_9
unfolding computes
row_94_9 = refl

pub row_94_10 : said.Row_94_10
unfolding computes
row_94_10 = refl

pub row_94_11 : said.Row_94_11
unfolding computes
row_94_11 = refl

pub row_94_12 : said.Row_94_12
unfolding computes
row_94_12 = refl

pub row_109_1 : said.Row_109_1
unfolding computes
row_109_1 = refl

pub row_109_2 : said.Row_109_2
unfolding computes
row_109_2 = refl

pub row_109_3 : said.Row_109_3
unfolding computes
row_109_3 = refl

pub row_109_4 : said.Row_109_4
unfolding computes
row_109_4 = refl

pub row_109_5 : said.Row_109_5
unfolding computes
row_109_5 = refl

pub row_109_6 : said.Row_109_6
unfolding computes
row_109_6 = refl

pub row_109_7 : said.Row_109_7
unfolding computes
row_109_7 = refl

pub row_109_8 : said.Row_109_8
unfolding computes
row_109_8 = refl

pub row_109_9 : said.Row_109_9
unfolding computes
row_109_9 = refl

pub row_109_10 : said.Row_109_10
unfolding computes
row_109_10 = refl

pub row_109_11 : said.Row_109_11
unfolding computes
row_109_11 = refl

pub row_122 : said.Row_122
unfolding computes
row_122 = refl

pub row_150 : said.Row_150
unfolding computes
row_150 = refl

pub row_170 : said.Row_170
unfolding computes
row_170 = refl

pub row_179 : said.Row_179
unfolding computes
row_179 = refl

pub row_194 : said.Row_194
unfolding computes
row_194 = refl

pub row_216 : said.Row_216
unfolding computes
row_216 = refl

pub row_238 : said.Row_238
unfolding computes
row_238 = refl

pub row_260 : said.Row_260
unfolding computes
row_260 = refl

pub row_282 : said.Row_282
unfolding computes
row_282 = refl

pub row_297 : said.Row_297
unfolding computes
row_297 = refl

pub row_337 : said.Row_337
unfolding computes
row_337 = refl

pub row_358 : said.Row_358
unfolding computes
row_358 = refl

pub row_393 : said.Row_393
unfolding computes
row_393 = refl

pub row_413 : said.Row_413
unfolding computes
row_413 = refl

pub row_444_1 : said.Row_444_1
unfolding computes
row_444_1 = refl
