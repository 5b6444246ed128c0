-- Made by tools/make_examples: the examples of `tests/refused.rows`, computed
use Rattle.std.proofs.Common.{refl}
use Rattle.cm_examples.specs.Refused as said
use Rattle.cm_examples.proofs.Computes.{computes}

pub row_3_1 : said.Row_3_1
unfolding computes
row_3_1 = refl

pub row_3_2 : said.Row_3_2
unfolding computes
row_3_2 = refl

pub row_3_3 : said.Row_3_3
unfolding computes
row_3_3 = refl

pub row_3_4 : said.Row_3_4
unfolding computes
row_3_4 = refl

pub row_3_5 : said.Row_3_5
unfolding computes
row_3_5 = refl

pub row_3_6 : said.Row_3_6
unfolding computes
row_3_6 = refl

pub row_3_7 : said.Row_3_7
unfolding computes
row_3_7 = refl

pub row_3_8 : said.Row_3_8
unfolding computes
row_3_8 = refl

pub row_3_9 : said.Row_3_9
unfolding computes
row_3_9 = refl

pub row_3_10 : said.Row_3_10
unfolding computes
row_3_10 = refl

pub row_67_2 : said.Row_67_2
unfolding computes
row_67_2 = refl

pub row_67_3 : said.Row_67_3
unfolding computes
row_67_3 = refl

pub row_67_4 : said.Row_67_4
unfolding computes
row_67_4 = refl

pub row_67_5 : said.Row_67_5
unfolding computes
row_67_5 = refl

pub row_67_6 : said.Row_67_6
unfolding computes
row_67_6 = refl

pub row_75_2 : said.Row_75_2
unfolding computes
row_75_2 = refl

pub row_75_3 : said.Row_75_3
unfolding computes
row_75_3 = refl

pub row_75_4 : said.Row_75_4
unfolding computes
row_75_4 = refl

pub row_75_5 : said.Row_75_5
unfolding computes
row_75_5 = refl

pub row_75_6 : said.Row_75_6
unfolding computes
row_75_6 = refl

pub row_75_7 : said.Row_75_7
unfolding computes
row_75_7 = refl

pub row_75_8 : said.Row_75_8
unfolding computes
row_75_8 = refl

pub row_75_9 : said.Row_75_9
unfolding computes
row_75_9 = refl

pub row_75_10 : said.Row_75_10
unfolding computes
row_75_10 = refl

pub row_75_11 : said.Row_75_11
unfolding computes
row_75_11 = refl

pub row_75_12 : said.Row_75_12
unfolding computes
row_75_12 = refl

pub row_75_13 : said.Row_75_13
unfolding computes
row_75_13 = refl

pub row_75_14 : said.Row_75_14
unfolding computes
row_75_14 = refl

pub row_75_15 : said.Row_75_15
unfolding computes
row_75_15 = refl

pub row_75_16 : said.Row_75_16
unfolding computes
row_75_16 = refl

pub row_75_17 : said.Row_75_17
unfolding computes
row_75_17 = refl

pub row_75_18 : said.Row_75_18
unfolding computes
row_75_18 = refl

pub row_75_19 : said.Row_75_19
unfolding computes
row_75_19 = refl

pub row_75_20 : said.Row_75_20
unfolding computes
row_75_20 = refl

pub row_75_21 : said.Row_75_21
unfolding computes
row_75_21 = refl

pub row_75_22 : said.Row_75_22
unfolding computes
row_75_22 = refl

pub row_75_23 : said.Row_75_23
unfolding computes
row_75_23 = refl

pub row_75_24 : said.Row_75_24
unfolding computes
row_75_24 = refl

pub row_75_25 : said.Row_75_25
unfolding computes
row_75_25 = refl

pub row_75_26 : said.Row_75_26
unfolding computes
row_75_26 = refl

pub row_75_27 : said.Row_75_27
unfolding computes
row_75_27 = refl

pub row_75_28 : said.Row_75_28
unfolding computes
row_75_28 = refl

pub row_75_29 : said.Row_75_29
unfolding computes
row_75_29 = refl

pub row_75_30 : said.Row_75_30
unfolding computes
row_75_30 = refl

pub row_75_31 : said.Row_75_31
unfolding computes
row_75_31 = refl

pub row_75_32 : said.Row_75_32
unfolding computes
row_75_32 = refl

pub row_75_33 : said.Row_75_33
unfolding computes
row_75_33 = refl

pub row_75_34 : said.Row_75_34
unfolding computes
row_75_34 = refl

pub row_75_35 : said.Row_75_35
unfolding computes
row_75_35 = refl

pub row_75_36 : said.Row_75_36
unfolding computes
row_75_36 = refl

pub row_113_2 : said.Row_113_2
unfolding computes
row_113_2 = refl

pub row_117_2 : said.Row_117_2
unfolding computes
row_117_2 = refl

pub row_117_3 : said.Row_117_3
unfolding computes
row_117_3 = refl

pub row_131_2 : said.Row_131_2
unfolding computes
row_131_2 = refl

pub row_131_3 : said.Row_131_3
unfolding computes
row_131_3 = refl

pub row_131_4 : said.Row_131_4
unfolding computes
row_131_4 = refl

pub row_131_5 : said.Row_131_5
unfolding computes
row_131_5 = refl

pub row_131_6 : said.Row_131_6
unfolding computes
row_131_6 = refl

pub row_131_7 : said.Row_131_7
unfolding computes
row_131_7 = refl

pub row_147_2 : said.Row_147_2
unfolding computes
row_147_2 = refl

pub row_147_3 : said.Row_147_3
unfolding computes
row_147_3 = refl

pub row_147_4 : said.Row_147_4
unfolding computes
row_147_4 = refl

pub row_147_6 : said.Row_147_6
unfolding computes
row_147_6 = refl

pub row_161_2 : said.Row_161_2
unfolding computes
row_161_2 = refl

pub row_161_3 : said.Row_161_3
unfolding computes
row_161_3 = refl

pub row_161_4 : said.Row_161_4
unfolding computes
row_161_4 = refl

pub row_161_5 : said.Row_161_5
unfolding computes
row_161_5 = refl

pub row_161_6 : said.Row_161_6
unfolding computes
row_161_6 = refl

pub row_161_7 : said.Row_161_7
unfolding computes
row_161_7 = refl

pub row_179_2 : said.Row_179_2
unfolding computes
row_179_2 = refl

pub row_179_3 : said.Row_179_3
unfolding computes
row_179_3 = refl

pub row_179_4 : said.Row_179_4
unfolding computes
row_179_4 = refl

pub row_179_5 : said.Row_179_5
unfolding computes
row_179_5 = refl

pub row_179_6 : said.Row_179_6
unfolding computes
row_179_6 = refl

pub row_179_7 : said.Row_179_7
unfolding computes
row_179_7 = refl

pub row_179_8 : said.Row_179_8
unfolding computes
row_179_8 = refl

pub row_179_9 : said.Row_179_9
unfolding computes
row_179_9 = refl

pub row_179_10 : said.Row_179_10
unfolding computes
row_179_10 = refl

pub row_179_11 : said.Row_179_11
unfolding computes
row_179_11 = refl

pub row_179_12 : said.Row_179_12
unfolding computes
row_179_12 = refl

pub row_179_13 : said.Row_179_13
unfolding computes
row_179_13 = refl

pub row_179_14 : said.Row_179_14
unfolding computes
row_179_14 = refl

pub row_179_15 : said.Row_179_15
unfolding computes
row_179_15 = refl

pub row_179_16 : said.Row_179_16
unfolding computes
row_179_16 = refl

pub row_179_17 : said.Row_179_17
unfolding computes
row_179_17 = refl

pub row_179_18 : said.Row_179_18
unfolding computes
row_179_18 = refl

pub row_179_19 : said.Row_179_19
unfolding computes
row_179_19 = refl

pub row_179_20 : said.Row_179_20
unfolding computes
row_179_20 = refl

pub row_179_21 : said.Row_179_21
unfolding computes
row_179_21 = refl

pub row_212_2 : said.Row_212_2
unfolding computes
row_212_2 = refl

pub row_212_3 : said.Row_212_3
unfolding computes
row_212_3 = refl

pub row_212_4 : said.Row_212_4
unfolding computes
row_212_4 = refl

pub row_212_5 : said.Row_212_5
unfolding computes
row_212_5 = refl

pub row_212_6 : said.Row_212_6
unfolding computes
row_212_6 = refl

pub row_212_7 : said.Row_212_7
unfolding computes
row_212_7 = refl

pub row_212_8 : said.Row_212_8
unfolding computes
row_212_8 = refl

pub row_212_9 : said.Row_212_9
unfolding computes
row_212_9 = refl

pub row_212_10 : said.Row_212_10
unfolding computes
row_212_10 = refl

pub row_212_11 : said.Row_212_11
unfolding computes
row_212_11 = refl

pub row_212_12 : said.Row_212_12
unfolding computes
row_212_12 = refl

pub row_212_13 : said.Row_212_13
unfolding computes
row_212_13 = refl

pub row_212_14 : said.Row_212_14
unfolding computes
row_212_14 = refl

pub row_212_15 : said.Row_212_15
unfolding computes
row_212_15 = refl

pub row_212_16 : said.Row_212_16
unfolding computes
row_212_16 = refl

pub row_212_17 : said.Row_212_17
unfolding computes
row_212_17 = refl

pub row_212_18 : said.Row_212_18
unfolding computes
row_212_18 = refl

pub row_212_19 : said.Row_212_19
unfolding computes
row_212_19 = refl

pub row_212_20 : said.Row_212_20
unfolding computes
row_212_20 = refl

pub row_212_21 : said.Row_212_21
unfolding computes
row_212_21 = refl

pub row_212_22 : said.Row_212_22
unfolding computes
row_212_22 = refl

pub row_212_23 : said.Row_212_23
unfolding computes
row_212_23 = refl

pub row_212_24 : said.Row_212_24
unfolding computes
row_212_24 = refl

pub row_212_25 : said.Row_212_25
unfolding computes
row_212_25 = refl

pub row_212_26 : said.Row_212_26
unfolding computes
row_212_26 = refl

pub row_212_27 : said.Row_212_27
unfolding computes
row_212_27 = refl

pub row_212_28 : said.Row_212_28
unfolding computes
row_212_28 = refl

pub row_212_29 : said.Row_212_29
unfolding computes
row_212_29 = refl

pub row_212_30 : said.Row_212_30
unfolding computes
row_212_30 = refl

pub row_212_31 : said.Row_212_31
unfolding computes
row_212_31 = refl

pub row_212_32 : said.Row_212_32
unfolding computes
row_212_32 = refl

pub row_212_33 : said.Row_212_33
unfolding computes
row_212_33 = refl

pub row_212_34 : said.Row_212_34
unfolding computes
row_212_34 = refl

pub row_212_35 : said.Row_212_35
unfolding computes
row_212_35 = refl

pub row_212_36 : said.Row_212_36
unfolding computes
row_212_36 = refl

pub row_212_37 : said.Row_212_37
unfolding computes
row_212_37 = refl

pub row_212_38 : said.Row_212_38
unfolding computes
row_212_38 = refl

pub row_212_39 : said.Row_212_39
unfolding computes
row_212_39 = refl

pub row_212_40 : said.Row_212_40
unfolding computes
row_212_40 = refl

pub row_212_41 : said.Row_212_41
unfolding computes
row_212_41 = refl

pub row_212_42 : said.Row_212_42
unfolding computes
row_212_42 = refl

pub row_212_43 : said.Row_212_43
unfolding computes
row_212_43 = refl

pub row_212_44 : said.Row_212_44
unfolding computes
row_212_44 = refl

pub row_212_45 : said.Row_212_45
unfolding computes
row_212_45 = refl

pub row_212_46 : said.Row_212_46
unfolding computes
row_212_46 = refl

pub row_212_47 : said.Row_212_47
unfolding computes
row_212_47 = refl

pub row_212_48 : said.Row_212_48
unfolding computes
row_212_48 = refl

pub row_212_49 : said.Row_212_49
unfolding computes
row_212_49 = refl

pub row_212_50 : said.Row_212_50
unfolding computes
row_212_50 = refl

pub row_212_51 : said.Row_212_51
unfolding computes
row_212_51 = refl

pub row_212_52 : said.Row_212_52
unfolding computes
row_212_52 = refl

pub row_212_53 : said.Row_212_53
unfolding computes
row_212_53 = refl

pub row_212_54 : said.Row_212_54
unfolding computes
row_212_54 = refl

pub row_212_55 : said.Row_212_55
unfolding computes
row_212_55 = refl

pub row_212_56 : said.Row_212_56
unfolding computes
row_212_56 = refl

pub row_212_57 : said.Row_212_57
unfolding computes
row_212_57 = refl

pub row_212_58 : said.Row_212_58
unfolding computes
row_212_58 = refl

pub row_212_59 : said.Row_212_59
unfolding computes
row_212_59 = refl

pub row_212_60 : said.Row_212_60
unfolding computes
row_212_60 = refl

pub row_212_61 : said.Row_212_61
unfolding computes
row_212_61 = refl

pub row_212_62 : said.Row_212_62
unfolding computes
row_212_62 = refl

pub row_212_63 : said.Row_212_63
unfolding computes
row_212_63 = refl

pub row_212_64 : said.Row_212_64
unfolding computes
row_212_64 = refl

pub row_212_65 : said.Row_212_65
unfolding computes
row_212_65 = refl

pub row_212_66 : said.Row_212_66
unfolding computes
row_212_66 = refl

pub row_212_67 : said.Row_212_67
unfolding computes
row_212_67 = refl

pub row_212_68 : said.Row_212_68
unfolding computes
row_212_68 = refl

pub row_212_69 : said.Row_212_69
unfolding computes
row_212_69 = refl

pub row_212_70 : said.Row_212_70
unfolding computes
row_212_70 = refl

pub row_212_71 : said.Row_212_71
unfolding computes
row_212_71 = refl

pub row_212_72 : said.Row_212_72
unfolding computes
row_212_72 = refl

pub row_212_73 : said.Row_212_73
unfolding computes
row_212_73 = refl

pub row_212_74 : said.Row_212_74
unfolding computes
row_212_74 = refl

pub row_212_75 : said.Row_212_75
unfolding computes
row_212_75 = refl

pub row_212_76 : said.Row_212_76
unfolding computes
row_212_76 = refl

pub row_212_77 : said.Row_212_77
unfolding computes
row_212_77 = refl

pub row_212_78 : said.Row_212_78
unfolding computes
row_212_78 = refl

pub row_212_79 : said.Row_212_79
unfolding computes
row_212_79 = refl

pub row_212_80 : said.Row_212_80
unfolding computes
row_212_80 = refl

pub row_212_81 : said.Row_212_81
unfolding computes
row_212_81 = refl

pub row_212_82 : said.Row_212_82
unfolding computes
row_212_82 = refl

pub row_212_83 : said.Row_212_83
unfolding computes
row_212_83 = refl

pub row_212_84 : said.Row_212_84
unfolding computes
row_212_84 = refl

pub row_212_85 : said.Row_212_85
unfolding computes
row_212_85 = refl

pub row_212_86 : said.Row_212_86
unfolding computes
row_212_86 = refl

pub row_212_87 : said.Row_212_87
unfolding computes
row_212_87 = refl

pub row_212_88 : said.Row_212_88
unfolding computes
row_212_88 = refl

pub row_212_89 : said.Row_212_89
unfolding computes
row_212_89 = refl

pub row_212_90 : said.Row_212_90
unfolding computes
row_212_90 = refl

pub row_212_91 : said.Row_212_91
unfolding computes
row_212_91 = refl

pub row_306_2 : said.Row_306_2
unfolding computes
row_306_2 = refl

pub row_306_3 : said.Row_306_3
unfolding computes
row_306_3 = refl

pub row_306_4 : said.Row_306_4
unfolding computes
row_306_4 = refl

pub row_306_5 : said.Row_306_5
unfolding computes
row_306_5 = refl

pub row_306_6 : said.Row_306_6
unfolding computes
row_306_6 = refl

pub row_306_7 : said.Row_306_7
unfolding computes
row_306_7 = refl

pub row_306_8 : said.Row_306_8
unfolding computes
row_306_8 = refl

pub row_306_9 : said.Row_306_9
unfolding computes
row_306_9 = refl

pub row_306_10 : said.Row_306_10
unfolding computes
row_306_10 = refl

pub row_318_2 : said.Row_318_2
unfolding computes
row_318_2 = refl

pub row_318_3 : said.Row_318_3
unfolding computes
row_318_3 = refl

pub row_318_4 : said.Row_318_4
unfolding computes
row_318_4 = refl

pub row_318_5 : said.Row_318_5
unfolding computes
row_318_5 = refl

pub row_318_6 : said.Row_318_6
unfolding computes
row_318_6 = refl

pub row_318_7 : said.Row_318_7
unfolding computes
row_318_7 = refl

pub row_318_8 : said.Row_318_8
unfolding computes
row_318_8 = refl

pub row_318_9 : said.Row_318_9
unfolding computes
row_318_9 = refl

pub row_318_10 : said.Row_318_10
unfolding computes
row_318_10 = refl

pub row_318_11 : said.Row_318_11
unfolding computes
row_318_11 = refl

pub row_318_12 : said.Row_318_12
unfolding computes
row_318_12 = refl

pub row_318_13 : said.Row_318_13
unfolding computes
row_318_13 = refl

pub row_318_14 : said.Row_318_14
unfolding computes
row_318_14 = refl

pub row_387_2 : said.Row_387_2
unfolding computes
row_387_2 = refl

pub row_387_3 : said.Row_387_3
unfolding computes
row_387_3 = refl

pub row_387_4 : said.Row_387_4
unfolding computes
row_387_4 = refl

pub row_387_8 : said.Row_387_8
unfolding computes
row_387_8 = refl

pub row_387_9 : said.Row_387_9
unfolding computes
row_387_9 = refl

pub row_387_10 : said.Row_387_10
unfolding computes
row_387_10 = refl

pub row_387_11 : said.Row_387_11
unfolding computes
row_387_11 = refl

pub row_387_12 : said.Row_387_12
unfolding computes
row_387_12 = refl

pub row_387_13 : said.Row_387_13
unfolding computes
row_387_13 = refl

pub row_387_14 : said.Row_387_14
unfolding computes
row_387_14 = refl

pub row_387_15 : said.Row_387_15
unfolding computes
row_387_15 = refl

pub row_387_16 : said.Row_387_16
unfolding computes
row_387_16 = refl

pub row_387_17 : said.Row_387_17
unfolding computes
row_387_17 = refl

pub row_387_18 : said.Row_387_18
unfolding computes
row_387_18 = refl

pub row_408_2 : said.Row_408_2
unfolding computes
row_408_2 = refl

pub row_408_3 : said.Row_408_3
unfolding computes
row_408_3 = refl

pub row_408_4 : said.Row_408_4
unfolding computes
row_408_4 = refl

pub row_408_5 : said.Row_408_5
unfolding computes
row_408_5 = refl

pub row_408_6 : said.Row_408_6
unfolding computes
row_408_6 = refl

pub row_408_7 : said.Row_408_7
unfolding computes
row_408_7 = refl

pub row_408_8 : said.Row_408_8
unfolding computes
row_408_8 = refl

pub row_408_11 : said.Row_408_11
unfolding computes
row_408_11 = refl

pub row_408_12 : said.Row_408_12
unfolding computes
row_408_12 = refl

pub row_408_13 : said.Row_408_13
unfolding computes
row_408_13 = refl

pub row_408_14 : said.Row_408_14
unfolding computes
row_408_14 = refl

pub row_408_15 : said.Row_408_15
unfolding computes
row_408_15 = refl

pub row_426_2 : said.Row_426_2
unfolding computes
row_426_2 = refl

pub row_426_3 : said.Row_426_3
unfolding computes
row_426_3 = refl

pub row_426_4 : said.Row_426_4
unfolding computes
row_426_4 = refl

pub row_426_5 : said.Row_426_5
unfolding computes
row_426_5 = refl

pub row_426_6 : said.Row_426_6
unfolding computes
row_426_6 = refl

pub row_426_7 : said.Row_426_7
unfolding computes
row_426_7 = refl

pub row_426_8 : said.Row_426_8
unfolding computes
row_426_8 = refl

pub row_426_9 : said.Row_426_9
unfolding computes
row_426_9 = refl

pub row_426_10 : said.Row_426_10
unfolding computes
row_426_10 = refl

pub row_426_11 : said.Row_426_11
unfolding computes
row_426_11 = refl

pub row_426_12 : said.Row_426_12
unfolding computes
row_426_12 = refl

pub row_426_13 : said.Row_426_13
unfolding computes
row_426_13 = refl

pub row_426_14 : said.Row_426_14
unfolding computes
row_426_14 = refl

pub row_426_15 : said.Row_426_15
unfolding computes
row_426_15 = refl

pub row_426_16 : said.Row_426_16
unfolding computes
row_426_16 = refl

pub row_426_17 : said.Row_426_17
unfolding computes
row_426_17 = refl

pub row_426_18 : said.Row_426_18
unfolding computes
row_426_18 = refl

pub row_426_19 : said.Row_426_19
unfolding computes
row_426_19 = refl

pub row_426_20 : said.Row_426_20
unfolding computes
row_426_20 = refl

pub row_426_21 : said.Row_426_21
unfolding computes
row_426_21 = refl

pub row_426_22 : said.Row_426_22
unfolding computes
row_426_22 = refl

pub row_426_26 : said.Row_426_26
unfolding computes
row_426_26 = refl

pub row_426_27 : said.Row_426_27
unfolding computes
row_426_27 = refl

pub row_426_28 : said.Row_426_28
unfolding computes
row_426_28 = refl

pub row_426_29 : said.Row_426_29
unfolding computes
row_426_29 = refl

pub row_426_30 : said.Row_426_30
unfolding computes
row_426_30 = refl

pub row_426_31 : said.Row_426_31
unfolding computes
row_426_31 = refl

pub row_509_2 : said.Row_509_2
unfolding computes
row_509_2 = refl

pub row_513_2 : said.Row_513_2
unfolding computes
row_513_2 = refl

pub row_517_2 : said.Row_517_2
unfolding computes
row_517_2 = refl

pub row_517_3 : said.Row_517_3
unfolding computes
row_517_3 = refl

pub row_522_2 : said.Row_522_2
unfolding computes
row_522_2 = refl

pub row_522_3 : said.Row_522_3
unfolding computes
row_522_3 = refl

pub row_522_4 : said.Row_522_4
unfolding computes
row_522_4 = refl
