-- Made by tools/make_examples: the examples of `tests/clock.rows`, computed
use Rattle.std.proofs.Common.{refl}
use Rattle.cm_examples.specs.Clock as said
use Rattle.cm_examples.proofs.Computes.{computes}

pub row_24_2 : said.Row_24_2
unfolding computes
row_24_2 = refl

pub row_24_3 : said.Row_24_3
unfolding computes
row_24_3 = refl

pub row_24_4 : said.Row_24_4
unfolding computes
row_24_4 = refl

pub row_24_5 : said.Row_24_5
unfolding computes
row_24_5 = refl

pub row_24_6 : said.Row_24_6
unfolding computes
row_24_6 = refl

pub row_24_7 : said.Row_24_7
unfolding computes
row_24_7 = refl

pub row_24_8 : said.Row_24_8
unfolding computes
row_24_8 = refl

pub row_24_9 : said.Row_24_9
unfolding computes
row_24_9 = refl

pub row_24_10 : said.Row_24_10
unfolding computes
row_24_10 = refl

pub row_24_11 : said.Row_24_11
unfolding computes
row_24_11 = refl

pub row_24_12 : said.Row_24_12
unfolding computes
row_24_12 = refl

pub row_24_13 : said.Row_24_13
unfolding computes
row_24_13 = refl

pub row_24_14 : said.Row_24_14
unfolding computes
row_24_14 = refl

pub row_24_15 : said.Row_24_15
unfolding computes
row_24_15 = refl

pub row_24_16 : said.Row_24_16
unfolding computes
row_24_16 = refl

pub row_24_17 : said.Row_24_17
unfolding computes
row_24_17 = refl

pub row_24_18 : said.Row_24_18
unfolding computes
row_24_18 = refl

pub row_24_19 : said.Row_24_19
unfolding computes
row_24_19 = refl

pub row_24_20 : said.Row_24_20
unfolding computes
row_24_20 = refl

pub row_24_21 : said.Row_24_21
unfolding computes
row_24_21 = refl

pub row_24_22 : said.Row_24_22
unfolding computes
row_24_22 = refl

pub row_24_23 : said.Row_24_23
unfolding computes
row_24_23 = refl

pub row_24_24 : said.Row_24_24
unfolding computes
row_24_24 = refl

pub row_24_25 : said.Row_24_25
unfolding computes
row_24_25 = refl

pub row_24_26 : said.Row_24_26
unfolding computes
row_24_26 = refl

pub row_24_27 : said.Row_24_27
unfolding computes
row_24_27 = refl

pub row_24_28 : said.Row_24_28
unfolding computes
row_24_28 = refl

pub row_24_29 : said.Row_24_29
unfolding computes
row_24_29 = refl

pub row_24_30 : said.Row_24_30
unfolding computes
row_24_30 = refl

pub row_24_31 : said.Row_24_31
unfolding computes
row_24_31 = refl

pub row_24_32 : said.Row_24_32
unfolding computes
row_24_32 = refl

pub row_24_33 : said.Row_24_33
unfolding computes
row_24_33 = refl

pub row_24_34 : said.Row_24_34
unfolding computes
row_24_34 = refl

pub row_24_35 : said.Row_24_35
unfolding computes
row_24_35 = refl

pub row_24_36 : said.Row_24_36
unfolding computes
row_24_36 = refl

pub row_24_37 : said.Row_24_37
unfolding computes
row_24_37 = refl

pub row_24_38 : said.Row_24_38
unfolding computes
row_24_38 = refl

pub row_24_39 : said.Row_24_39
unfolding computes
row_24_39 = refl

pub row_24_40 : said.Row_24_40
unfolding computes
row_24_40 = refl

pub row_24_41 : said.Row_24_41
unfolding computes
row_24_41 = refl

pub row_24_42 : said.Row_24_42
unfolding computes
row_24_42 = refl

pub row_24_43 : said.Row_24_43
unfolding computes
row_24_43 = refl

pub row_24_44 : said.Row_24_44
unfolding computes
row_24_44 = refl

pub row_24_45 : said.Row_24_45
unfolding computes
row_24_45 = refl

pub row_24_46 : said.Row_24_46
unfolding computes
row_24_46 = refl

pub row_24_47 : said.Row_24_47
unfolding computes
row_24_47 = refl

pub row_24_48 : said.Row_24_48
unfolding computes
row_24_48 = refl

pub row_24_49 : said.Row_24_49
unfolding computes
row_24_49 = refl

pub row_24_50 : said.Row_24_50
unfolding computes
row_24_50 = refl

pub row_24_51 : said.Row_24_51
unfolding computes
row_24_51 = refl

pub row_24_52 : said.Row_24_52
unfolding computes
row_24_52 = refl

pub row_24_53 : said.Row_24_53
unfolding computes
row_24_53 = refl

pub row_24_54 : said.Row_24_54
unfolding computes
row_24_54 = refl

pub row_24_55 : said.Row_24_55
unfolding computes
row_24_55 = refl

pub row_24_56 : said.Row_24_56
unfolding computes
row_24_56 = refl

pub row_24_57 : said.Row_24_57
unfolding computes
row_24_57 = refl

pub row_24_58 : said.Row_24_58
unfolding computes
row_24_58 = refl

pub row_24_59 : said.Row_24_59
unfolding computes
row_24_59 = refl

pub row_24_60 : said.Row_24_60
unfolding computes
row_24_60 = refl

pub row_24_61 : said.Row_24_61
unfolding computes
row_24_61 = refl

pub row_24_62 : said.Row_24_62
unfolding computes
row_24_62 = refl

pub row_24_63 : said.Row_24_63
unfolding computes
row_24_63 = refl

pub row_24_64 : said.Row_24_64
unfolding computes
row_24_64 = refl

pub row_24_65 : said.Row_24_65
unfolding computes
row_24_65 = refl

pub row_24_66 : said.Row_24_66
unfolding computes
row_24_66 = refl

pub row_24_67 : said.Row_24_67
unfolding computes
row_24_67 = refl

pub row_24_68 : said.Row_24_68
unfolding computes
row_24_68 = refl

pub row_24_69 : said.Row_24_69
unfolding computes
row_24_69 = refl

pub row_24_70 : said.Row_24_70
unfolding computes
row_24_70 = refl

pub row_24_71 : said.Row_24_71
unfolding computes
row_24_71 = refl

pub row_97_1 : said.Row_97_1
unfolding computes
row_97_1 = refl

pub row_97_2 : said.Row_97_2
unfolding computes
row_97_2 = refl

pub row_97_3 : said.Row_97_3
unfolding computes
row_97_3 = refl

pub row_97_4 : said.Row_97_4
unfolding computes
row_97_4 = refl

pub row_97_5 : said.Row_97_5
unfolding computes
row_97_5 = refl

pub row_97_6 : said.Row_97_6
unfolding computes
row_97_6 = refl

pub row_97_7 : said.Row_97_7
unfolding computes
row_97_7 = refl

pub row_119_2 : said.Row_119_2
unfolding computes
row_119_2 = refl

pub row_119_3 : said.Row_119_3
unfolding computes
row_119_3 = refl

pub row_119_4 : said.Row_119_4
unfolding computes
row_119_4 = refl

pub row_119_5 : said.Row_119_5
unfolding computes
row_119_5 = refl

pub row_119_6 : said.Row_119_6
unfolding computes
row_119_6 = refl

pub row_119_7 : said.Row_119_7
unfolding computes
row_119_7 = refl

pub row_119_8 : said.Row_119_8
unfolding computes
row_119_8 = refl

pub row_119_9 : said.Row_119_9
unfolding computes
row_119_9 = refl

pub row_119_10 : said.Row_119_10
unfolding computes
row_119_10 = refl

pub row_119_11 : said.Row_119_11
unfolding computes
row_119_11 = refl

pub row_119_12 : said.Row_119_12
unfolding computes
row_119_12 = refl

pub row_119_13 : said.Row_119_13
unfolding computes
row_119_13 = refl

pub row_119_14 : said.Row_119_14
unfolding computes
row_119_14 = refl

pub row_119_15 : said.Row_119_15
unfolding computes
row_119_15 = refl

pub row_119_16 : said.Row_119_16
unfolding computes
row_119_16 = refl

pub row_119_17 : said.Row_119_17
unfolding computes
row_119_17 = refl

pub row_119_18 : said.Row_119_18
unfolding computes
row_119_18 = refl

pub row_119_19 : said.Row_119_19
unfolding computes
row_119_19 = refl

pub row_119_20 : said.Row_119_20
unfolding computes
row_119_20 = refl

pub row_119_21 : said.Row_119_21
unfolding computes
row_119_21 = refl

pub row_119_22 : said.Row_119_22
unfolding computes
row_119_22 = refl

pub row_119_24 : said.Row_119_24
unfolding computes
row_119_24 = refl

pub row_119_25 : said.Row_119_25
unfolding computes
row_119_25 = refl

pub row_119_26 : said.Row_119_26
unfolding computes
row_119_26 = refl

pub row_119_27 : said.Row_119_27
unfolding computes
row_119_27 = refl

pub row_119_28 : said.Row_119_28
unfolding computes
row_119_28 = refl

pub row_119_29 : said.Row_119_29
unfolding computes
row_119_29 = refl

pub row_119_30 : said.Row_119_30
unfolding computes
row_119_30 = refl

pub row_119_31 : said.Row_119_31
unfolding computes
row_119_31 = refl

pub row_119_32 : said.Row_119_32
unfolding computes
row_119_32 = refl

pub row_119_33 : said.Row_119_33
unfolding computes
row_119_33 = refl

pub row_119_34 : said.Row_119_34
unfolding computes
row_119_34 = refl

pub row_119_35 : said.Row_119_35
unfolding computes
row_119_35 = refl
