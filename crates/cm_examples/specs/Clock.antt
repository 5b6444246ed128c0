-- Made by tools/make_examples: the examples of `tests/clock.rows`
use Rattle.std.specs.Prelude.{codes, ℕ, List, ◌++◌}
use Rattle.cm_cli.specs.declared.command.Command.TheVariants as commands
use Rattle.cm_examples.specs.Answering.{Accepts, Refuses}

-- the text `head`
abbrev pub text_head : List ℕ
text_head =
    codes "zendrouz 1\n"
    ++ codes "board x\n"
    ++ codes "subdevice ai 4\n"
    ++ codes "bits 12\n"
    ++ codes "range -5000000 5000000 0\n"
    ++ codes "sources now|ext follow|timer|ext now|timer count none|count\n"
    ++ codes "tick 100\n"
    ++ codes "scan 1000 4294967295\n"
    ++ codes "convert 300 4294967295\n"
    ++ codes "list 2\n"
    ++ codes "lines 2\n"
    ++ codes "buffer 16\n"

-- the text `end`
abbrev pub text_end : List ℕ
text_end =
    codes "signals 0\n"
    ++ codes "session\n"

-- the text `short`
abbrev pub text_short : List ℕ
text_short =
    codes "zendrouz 1\n"
    ++ codes "board x\n"
    ++ codes "subdevice ai 4\n"
    ++ codes "bits 12\n"
    ++ codes "range -5000000 5000000 0\n"
    ++ codes "sources now|ext follow|timer|ext now|timer count none|count\n"
    ++ codes "list 2\n"
    ++ codes "lines 2\n"
    ++ codes "buffer 16\n"

-- what counters divide by: clock 1..5\n{end}
abbrev pub Row_24_2 : Type 0
Row_24_2 =
    Refuses commands.Test
    (text_head ++ codes "clock 1..5\n" ++ text_end ++ codes "\n")
    (codes "refused 14 Bad\n")

-- what counters divide by: clock 1..16777216\n{end}
abbrev pub Row_24_3 : Type 0
Row_24_3 = Accepts commands.Test (text_head ++ codes "clock 1..16777216\n" ++ text_end ++ codes "\n")

-- what counters divide by: clock 5..5\n{end}
abbrev pub Row_24_4 : Type 0
Row_24_4 =
    Refuses commands.Test
    (text_head ++ codes "clock 5..5\n" ++ text_end ++ codes "\n")
    (codes "refused 14 Bad\n")

-- what counters divide by: clock 10\n{end}
abbrev pub Row_24_5 : Type 0
Row_24_5 =
    Refuses commands.Test
    (text_head ++ codes "clock 10\n" ++ text_end ++ codes "\n")
    (codes "refused 14 Bad\n")

-- what counters divide by: clock 1,8,64\n{end}
abbrev pub Row_24_6 : Type 0
Row_24_6 = Accepts commands.Test (text_head ++ codes "clock 1,8,64\n" ++ text_end ++ codes "\n")

-- what counters divide by: clock 2..1000,1,8\n{end}
abbrev pub Row_24_7 : Type 0
Row_24_7 =
    Refuses commands.Test
    (text_head ++ codes "clock 2..1000,1,8\n" ++ text_end ++ codes "\n")
    (codes "refused 13 BadNumber\n")

-- what counters divide by: clock 1..65535 1,8,64,256,1024\n{end}
abbrev pub Row_24_8 : Type 0
Row_24_8 =
    Accepts commands.Test
    (text_head ++ codes "clock 1..65535 1,8,64,256,1024\n" ++ text_end ++ codes "\n")

-- what counters divide by: clock 1,8,64,256,1024 2..65536\n{end}
abbrev pub Row_24_9 : Type 0
Row_24_9 =
    Accepts commands.Test
    (text_head ++ codes "clock 1,8,64,256,1024 2..65536\n" ++ text_end ++ codes "\n")

-- what counters divide by: clock 10..20 30..40\n{end}
abbrev pub Row_24_10 : Type 0
Row_24_10 = Accepts commands.Test (text_head ++ codes "clock 10..20 30..40\n" ++ text_end ++ codes "\n")

-- what counters divide by: clock 3,5 7,11\n{end}
abbrev pub Row_24_11 : Type 0
Row_24_11 = Accepts commands.Test (text_head ++ codes "clock 3,5 7,11\n" ++ text_end ++ codes "\n")

-- what counters divide by: clock 1,2,3,4,5,6,7,8,9,10,11,12,13,14,15,16,17,18,19,20,21,
abbrev pub Row_24_12 : Type 0
Row_24_12 =
    Accepts commands.Test
    (text_head
    ++ codes "clock 1,2,3,4,5,6,7,8,9,10,11,12,13,14,15,16,17,18,19,20,21,22,23,24,25,26,27,28,29,"
    ++ codes "30,31,32\n"
    ++ text_end
    ++ codes "\n")

-- what counters divide by: clock 1,2,3,4,5,6,7,8,9,10,11,12,13,14,15,16,17,18,19,20,21,
abbrev pub Row_24_13 : Type 0
Row_24_13 =
    Refuses commands.Test
    (text_head
    ++ codes "clock 1,2,3,4,5,6,7,8,9,10,11,12,13,14,15,16,17,18,19,20,21,22,23,24,25,26,27,28,29,"
    ++ codes "30,31,32,33\n"
    ++ codes "\n")
    (codes "refused 13 Limit\n")

-- what counters divide by: clock 1..9 1,2,3,4,5,6,7,8,9,10,11,12,13,14,15,16,17,18,19,2
abbrev pub Row_24_14 : Type 0
Row_24_14 =
    Refuses commands.Test
    (text_head
    ++ codes "clock 1..9 1,2,3,4,5,6,7,8,9,10,11,12,13,14,15,16,17,18,19,20,21,22,23,24,25,26,27,2"
    ++ codes "8,29,30,31,32,33\n"
    ++ codes "\n")
    (codes "refused 13 Limit\n")

-- what counters divide by: clock 9,8,7,6,5,4,3,2,1,9,8,7,6,5,4,3,2,1,9,8,7,6,5,4,3,2,1,
abbrev pub Row_24_15 : Type 0
Row_24_15 =
    Refuses commands.Test
    (text_head
    ++ codes "clock 9,8,7,6,5,4,3,2,1,9,8,7,6,5,4,3,2,1,9,8,7,6,5,4,3,2,1,9,8,7,6,5,4\n"
    ++ codes "\n")
    (codes "refused 13 Limit\n")

-- what counters divide by: clock 1,2,3,4,5,6,7,8,9,10,11,12,13,14,15,16,17,18,19,20,21,
abbrev pub Row_24_16 : Type 0
Row_24_16 =
    Refuses commands.Test
    (text_head
    ++ codes "clock 1,2,3,4,5,6,7,8,9,10,11,12,13,14,15,16,17,18,19,20,21,22,23,24,25,26,27,28,29,"
    ++ codes "30,31,32,x\n"
    ++ codes "\n")
    (codes "refused 13 Limit\n")

-- what counters divide by: clock x,1,2,3,4,5,6,7,8,9,10,11,12,13,14,15,16,17,18,19,20,2
abbrev pub Row_24_17 : Type 0
Row_24_17 =
    Refuses commands.Test
    (text_head
    ++ codes "clock x,1,2,3,4,5,6,7,8,9,10,11,12,13,14,15,16,17,18,19,20,21,22,23,24,25,26,27,28,2"
    ++ codes "9,30,31,32,33\n"
    ++ codes "\n")
    (codes "refused 13 BadNumber\n")

-- what counters divide by: clock\n
abbrev pub Row_24_18 : Type 0
Row_24_18 = Refuses commands.Test (text_head ++ codes "clock\n" ++ codes "\n") (codes "refused 13 BadLine\n")

-- what counters divide by: clock 1..2 3..4 5..6\n
abbrev pub Row_24_19 : Type 0
Row_24_19 =
    Refuses commands.Test
    (text_head ++ codes "clock 1..2 3..4 5..6\n" ++ codes "\n")
    (codes "refused 13 BadLine\n")

-- what counters divide by: clock 0\n
abbrev pub Row_24_20 : Type 0
Row_24_20 = Refuses commands.Test (text_head ++ codes "clock 0\n" ++ codes "\n") (codes "refused 13 Limit\n")

-- what counters divide by: clock 0..5\n
abbrev pub Row_24_21 : Type 0
Row_24_21 =
    Refuses commands.Test
    (text_head ++ codes "clock 0..5\n" ++ codes "\n")
    (codes "refused 13 Limit\n")

-- what counters divide by: clock 1..0\n
abbrev pub Row_24_22 : Type 0
Row_24_22 =
    Refuses commands.Test
    (text_head ++ codes "clock 1..0\n" ++ codes "\n")
    (codes "refused 13 Limit\n")

-- what counters divide by: clock 0,1\n
abbrev pub Row_24_23 : Type 0
Row_24_23 =
    Refuses commands.Test
    (text_head ++ codes "clock 0,1\n" ++ codes "\n")
    (codes "refused 13 Limit\n")

-- what counters divide by: clock 16777216\n{end}
abbrev pub Row_24_24 : Type 0
Row_24_24 =
    Refuses commands.Test
    (text_head ++ codes "clock 16777216\n" ++ text_end ++ codes "\n")
    (codes "refused 14 Bad\n")

-- what counters divide by: clock 16777217\n
abbrev pub Row_24_25 : Type 0
Row_24_25 =
    Refuses commands.Test
    (text_head ++ codes "clock 16777217\n" ++ codes "\n")
    (codes "refused 13 Limit\n")

-- what counters divide by: clock 1..16777217\n
abbrev pub Row_24_26 : Type 0
Row_24_26 =
    Refuses commands.Test
    (text_head ++ codes "clock 1..16777217\n" ++ codes "\n")
    (codes "refused 13 Limit\n")

-- what counters divide by: clock 16777217..1\n
abbrev pub Row_24_27 : Type 0
Row_24_27 =
    Refuses commands.Test
    (text_head ++ codes "clock 16777217..1\n" ++ codes "\n")
    (codes "refused 13 Limit\n")

-- what counters divide by: clock 1,16777217\n
abbrev pub Row_24_28 : Type 0
Row_24_28 =
    Refuses commands.Test
    (text_head ++ codes "clock 1,16777217\n" ++ codes "\n")
    (codes "refused 13 Limit\n")

-- what counters divide by: clock 4294967296\n
abbrev pub Row_24_29 : Type 0
Row_24_29 =
    Refuses commands.Test
    (text_head ++ codes "clock 4294967296\n" ++ codes "\n")
    (codes "refused 13 Limit\n")

-- what counters divide by: clock 1000000000000000000\n
abbrev pub Row_24_30 : Type 0
Row_24_30 =
    Refuses commands.Test
    (text_head ++ codes "clock 1000000000000000000\n" ++ codes "\n")
    (codes "refused 13 BadNumber\n")

-- what counters divide by: clock 10000000000000000000\n
abbrev pub Row_24_31 : Type 0
Row_24_31 =
    Refuses commands.Test
    (text_head ++ codes "clock 10000000000000000000\n" ++ codes "\n")
    (codes "refused 13 BadNumber\n")

-- what counters divide by: clock x\n
abbrev pub Row_24_32 : Type 0
Row_24_32 =
    Refuses commands.Test
    (text_head ++ codes "clock x\n" ++ codes "\n")
    (codes "refused 13 BadNumber\n")

-- what counters divide by: clock -1\n
abbrev pub Row_24_33 : Type 0
Row_24_33 =
    Refuses commands.Test
    (text_head ++ codes "clock -1\n" ++ codes "\n")
    (codes "refused 13 BadNumber\n")

-- what counters divide by: clock +1\n
abbrev pub Row_24_34 : Type 0
Row_24_34 =
    Refuses commands.Test
    (text_head ++ codes "clock +1\n" ++ codes "\n")
    (codes "refused 13 BadNumber\n")

-- what counters divide by: clock 01\n
abbrev pub Row_24_35 : Type 0
Row_24_35 =
    Refuses commands.Test
    (text_head ++ codes "clock 01\n" ++ codes "\n")
    (codes "refused 13 BadNumber\n")

-- what counters divide by: clock 1..02\n
abbrev pub Row_24_36 : Type 0
Row_24_36 =
    Refuses commands.Test
    (text_head ++ codes "clock 1..02\n" ++ codes "\n")
    (codes "refused 13 BadNumber\n")

-- what counters divide by: clock 1.5\n
abbrev pub Row_24_37 : Type 0
Row_24_37 =
    Refuses commands.Test
    (text_head ++ codes "clock 1.5\n" ++ codes "\n")
    (codes "refused 13 BadNumber\n")

-- what counters divide by: clock ..\n
abbrev pub Row_24_38 : Type 0
Row_24_38 =
    Refuses commands.Test
    (text_head ++ codes "clock ..\n" ++ codes "\n")
    (codes "refused 13 BadNumber\n")

-- what counters divide by: clock 1..\n
abbrev pub Row_24_39 : Type 0
Row_24_39 =
    Refuses commands.Test
    (text_head ++ codes "clock 1..\n" ++ codes "\n")
    (codes "refused 13 BadNumber\n")

-- what counters divide by: clock ..5\n
abbrev pub Row_24_40 : Type 0
Row_24_40 =
    Refuses commands.Test
    (text_head ++ codes "clock ..5\n" ++ codes "\n")
    (codes "refused 13 BadNumber\n")

-- what counters divide by: clock ...\n
abbrev pub Row_24_41 : Type 0
Row_24_41 =
    Refuses commands.Test
    (text_head ++ codes "clock ...\n" ++ codes "\n")
    (codes "refused 13 BadNumber\n")

-- what counters divide by: clock 1...5\n
abbrev pub Row_24_42 : Type 0
Row_24_42 =
    Refuses commands.Test
    (text_head ++ codes "clock 1...5\n" ++ codes "\n")
    (codes "refused 13 BadNumber\n")

-- what counters divide by: clock 1....5\n
abbrev pub Row_24_43 : Type 0
Row_24_43 =
    Refuses commands.Test
    (text_head ++ codes "clock 1....5\n" ++ codes "\n")
    (codes "refused 13 BadLine\n")

-- what counters divide by: clock 1..2..3\n
abbrev pub Row_24_44 : Type 0
Row_24_44 =
    Refuses commands.Test
    (text_head ++ codes "clock 1..2..3\n" ++ codes "\n")
    (codes "refused 13 BadLine\n")

-- what counters divide by: clock a..b..c\n
abbrev pub Row_24_45 : Type 0
Row_24_45 =
    Refuses commands.Test
    (text_head ++ codes "clock a..b..c\n" ++ codes "\n")
    (codes "refused 13 BadLine\n")

-- what counters divide by: clock 1..a..b\n
abbrev pub Row_24_46 : Type 0
Row_24_46 =
    Refuses commands.Test
    (text_head ++ codes "clock 1..a..b\n" ++ codes "\n")
    (codes "refused 13 BadLine\n")

-- what counters divide by: clock x..0\n
abbrev pub Row_24_47 : Type 0
Row_24_47 =
    Refuses commands.Test
    (text_head ++ codes "clock x..0\n" ++ codes "\n")
    (codes "refused 13 BadNumber\n")

-- what counters divide by: clock 0..x\n
abbrev pub Row_24_48 : Type 0
Row_24_48 =
    Refuses commands.Test
    (text_head ++ codes "clock 0..x\n" ++ codes "\n")
    (codes "refused 13 Limit\n")

-- what counters divide by: clock a,0\n
abbrev pub Row_24_49 : Type 0
Row_24_49 =
    Refuses commands.Test
    (text_head ++ codes "clock a,0\n" ++ codes "\n")
    (codes "refused 13 BadNumber\n")

-- what counters divide by: clock 0,a\n
abbrev pub Row_24_50 : Type 0
Row_24_50 =
    Refuses commands.Test
    (text_head ++ codes "clock 0,a\n" ++ codes "\n")
    (codes "refused 13 Limit\n")

-- what counters divide by: clock ,\n
abbrev pub Row_24_51 : Type 0
Row_24_51 =
    Refuses commands.Test
    (text_head ++ codes "clock ,\n" ++ codes "\n")
    (codes "refused 13 BadNumber\n")

-- what counters divide by: clock ,1\n
abbrev pub Row_24_52 : Type 0
Row_24_52 =
    Refuses commands.Test
    (text_head ++ codes "clock ,1\n" ++ codes "\n")
    (codes "refused 13 BadNumber\n")

-- what counters divide by: clock 1,\n
abbrev pub Row_24_53 : Type 0
Row_24_53 =
    Refuses commands.Test
    (text_head ++ codes "clock 1,\n" ++ codes "\n")
    (codes "refused 13 BadNumber\n")

-- what counters divide by: clock 1,,2\n
abbrev pub Row_24_54 : Type 0
Row_24_54 =
    Refuses commands.Test
    (text_head ++ codes "clock 1,,2\n" ++ codes "\n")
    (codes "refused 13 BadNumber\n")

-- what counters divide by: clock 1,2..3\n
abbrev pub Row_24_55 : Type 0
Row_24_55 =
    Refuses commands.Test
    (text_head ++ codes "clock 1,2..3\n" ++ codes "\n")
    (codes "refused 13 BadNumber\n")

-- what counters divide by: clock 1..2,3\n
abbrev pub Row_24_56 : Type 0
Row_24_56 =
    Refuses commands.Test
    (text_head ++ codes "clock 1..2,3\n" ++ codes "\n")
    (codes "refused 13 BadNumber\n")

-- what counters divide by: clock 1;2\n
abbrev pub Row_24_57 : Type 0
Row_24_57 =
    Refuses commands.Test
    (text_head ++ codes "clock 1;2\n" ++ codes "\n")
    (codes "refused 13 BadNumber\n")

-- what counters divide by: clock 6..5\n
abbrev pub Row_24_58 : Type 0
Row_24_58 = Refuses commands.Test (text_head ++ codes "clock 6..5\n" ++ codes "\n") (codes "refused 13 Bad\n")

-- what counters divide by: clock 2,1\n
abbrev pub Row_24_59 : Type 0
Row_24_59 = Refuses commands.Test (text_head ++ codes "clock 2,1\n" ++ codes "\n") (codes "refused 13 Bad\n")

-- what counters divide by: clock 1,1\n
abbrev pub Row_24_60 : Type 0
Row_24_60 = Refuses commands.Test (text_head ++ codes "clock 1,1\n" ++ codes "\n") (codes "refused 13 Bad\n")

-- what counters divide by: clock 1,2,2\n
abbrev pub Row_24_61 : Type 0
Row_24_61 =
    Refuses commands.Test
    (text_head ++ codes "clock 1,2,2\n" ++ codes "\n")
    (codes "refused 13 Bad\n")

-- what counters divide by: clock 1..5 2,1\n
abbrev pub Row_24_62 : Type 0
Row_24_62 =
    Refuses commands.Test
    (text_head ++ codes "clock 1..5 2,1\n" ++ codes "\n")
    (codes "refused 13 Bad\n")

-- what counters divide by: clock 2,1 1..5\n
abbrev pub Row_24_63 : Type 0
Row_24_63 =
    Refuses commands.Test
    (text_head ++ codes "clock 2,1 1..5\n" ++ codes "\n")
    (codes "refused 13 Bad\n")

-- what counters divide by: clock 2,1 0\n
abbrev pub Row_24_64 : Type 0
Row_24_64 =
    Refuses commands.Test
    (text_head ++ codes "clock 2,1 0\n" ++ codes "\n")
    (codes "refused 13 Limit\n")

-- what counters divide by: clock 2,1 x\n
abbrev pub Row_24_65 : Type 0
Row_24_65 =
    Refuses commands.Test
    (text_head ++ codes "clock 2,1 x\n" ++ codes "\n")
    (codes "refused 13 BadNumber\n")

-- what counters divide by: clock 5..4 1..2..3\n
abbrev pub Row_24_66 : Type 0
Row_24_66 =
    Refuses commands.Test
    (text_head ++ codes "clock 5..4 1..2..3\n" ++ codes "\n")
    (codes "refused 13 BadLine\n")

-- what counters divide by: clock 2,1 1 1\n
abbrev pub Row_24_67 : Type 0
Row_24_67 =
    Refuses commands.Test
    (text_head ++ codes "clock 2,1 1 1\n" ++ codes "\n")
    (codes "refused 13 BadLine\n")

-- what counters divide by: clock 1..9\nclock 1..9\n
abbrev pub Row_24_68 : Type 0
Row_24_68 =
    Refuses commands.Test
    (text_head ++ codes "clock 1..9\n" ++ codes "clock 1..9\n" ++ codes "\n")
    (codes "refused 14 Double\n")

-- what counters divide by: clock 1..9\nclock 2,1\n
abbrev pub Row_24_69 : Type 0
Row_24_69 =
    Refuses commands.Test
    (text_head ++ codes "clock 1..9\n" ++ codes "clock 2,1\n" ++ codes "\n")
    (codes "refused 14 Double\n")

-- what counters divide by: clock 1..9\nclock 0\n
abbrev pub Row_24_70 : Type 0
Row_24_70 =
    Refuses commands.Test
    (text_head ++ codes "clock 1..9\n" ++ codes "clock 0\n" ++ codes "\n")
    (codes "refused 14 Limit\n")

-- what counters divide by: clock 2,1\nclock 1..9\n
abbrev pub Row_24_71 : Type 0
Row_24_71 =
    Refuses commands.Test
    (text_head ++ codes "clock 2,1\n" ++ codes "clock 1..9\n" ++ codes "\n")
    (codes "refused 13 Bad\n")

-- where a clock may stand: comedi 2\nboard x\nsubdevice ai 4\nclock 1..9\n
abbrev pub Row_97_1 : Type 0
Row_97_1 =
    Refuses commands.Test
    (codes "comedi 2\n"
    ++ codes "board x\n"
    ++ codes "subdevice ai 4\n"
    ++ codes "clock 1..9\n"
    ++ codes "\n")
    (codes "refused 4 Unknown\n")

-- where a clock may stand: comedi 1\nboard x\nsubdevice ai 4\nclock\n
abbrev pub Row_97_2 : Type 0
Row_97_2 =
    Refuses commands.Test
    (codes "comedi 1\n"
    ++ codes "board x\n"
    ++ codes "subdevice ai 4\n"
    ++ codes "clock\n"
    ++ codes "\n")
    (codes "refused 4 Unknown\n")

-- where a clock may stand: zendrouz 1\nboard x\nsubdevice unused 0\nclock 1..9\n
abbrev pub Row_97_3 : Type 0
Row_97_3 =
    Refuses commands.Test
    (codes "zendrouz 1\n"
    ++ codes "board x\n"
    ++ codes "subdevice unused 0\n"
    ++ codes "clock 1..9\n"
    ++ codes "\n")
    (codes "refused 4 Unknown\n")

-- where a clock may stand: zendrouz 1\nboard x\nsubdevice dio 4\nbits 1\nrange 0 1 0\nc
abbrev pub Row_97_4 : Type 0
Row_97_4 =
    Refuses commands.Test
    (codes "zendrouz 1\n"
    ++ codes "board x\n"
    ++ codes "subdevice dio 4\n"
    ++ codes "bits 1\n"
    ++ codes "range 0 1 0\n"
    ++ codes "clock 1..9\n"
    ++ codes "\n")
    (codes "refused 6 Unknown\n")

-- where a clock may stand: zendrouz 1\nboard x\nsubdevice ai 4\nbits 1\nrange 0 1 0\ncl
abbrev pub Row_97_5 : Type 0
Row_97_5 =
    Refuses commands.Test
    (codes "zendrouz 1\n"
    ++ codes "board x\n"
    ++ codes "subdevice ai 4\n"
    ++ codes "bits 1\n"
    ++ codes "range 0 1 0\n"
    ++ codes "clock 1..9\n"
    ++ text_end
    ++ codes "\n")
    (codes "refused 7 Missing\n")

-- where a clock may stand: zendrouz 1\nboard x\nsubdevice ai 4\nbits 1\nrange 0 1 0\ncl
abbrev pub Row_97_6 : Type 0
Row_97_6 =
    Refuses commands.Test
    (codes "zendrouz 1\n"
    ++ codes "board x\n"
    ++ codes "subdevice ai 4\n"
    ++ codes "bits 1\n"
    ++ codes "range 0 1 0\n"
    ++ codes "clock 0\n"
    ++ codes "\n")
    (codes "refused 6 Limit\n")

-- where a clock may stand: zendrouz 1\nboard x\nsubdevice ao 4\nbits 1\nrange 0 1 0\ncl
abbrev pub Row_97_7 : Type 0
Row_97_7 =
    Accepts commands.Test
    (codes "zendrouz 1\n"
    ++ codes "board x\n"
    ++ codes "subdevice ao 4\n"
    ++ codes "bits 1\n"
    ++ codes "range 0 1 0\n"
    ++ codes "clock 1..9\n"
    ++ codes "sources now timer now count count\n"
    ++ codes "tick 1\n"
    ++ codes "scan 9 9\n"
    ++ codes "convert 1 1\n"
    ++ codes "list 1\n"
    ++ codes "buffer 1\n"
    ++ text_end
    ++ codes "\n")

-- a time that the clock makes is between the limits: tick 100\nclock 10\nscan 1000 1000\nconvert 1 1000\n{end}
abbrev pub Row_119_2 : Type 0
Row_119_2 =
    Refuses commands.Test
    (text_short
    ++ codes "tick 100\n"
    ++ codes "clock 10\n"
    ++ codes "scan 1000 1000\n"
    ++ codes "convert 1 1000\n"
    ++ text_end
    ++ codes "\n")
    (codes "refused 14 Bad\n")

-- a time that the clock makes is between the limits: tick 100\nclock 10\nscan 1000 2000\nconvert 1 1000\n{end}
abbrev pub Row_119_3 : Type 0
Row_119_3 =
    Refuses commands.Test
    (text_short
    ++ codes "tick 100\n"
    ++ codes "clock 10\n"
    ++ codes "scan 1000 2000\n"
    ++ codes "convert 1 1000\n"
    ++ text_end
    ++ codes "\n")
    (codes "refused 14 Bad\n")

-- a time that the clock makes is between the limits: tick 100\nclock 10,20\nscan 1000 1999\nconvert 1 1000\n{end
abbrev pub Row_119_4 : Type 0
Row_119_4 =
    Refuses commands.Test
    (text_short
    ++ codes "tick 100\n"
    ++ codes "clock 10,20\n"
    ++ codes "scan 1000 1999\n"
    ++ codes "convert 1 1000\n"
    ++ text_end
    ++ codes "\n")
    (codes "refused 14 Bad\n")

-- a time that the clock makes is between the limits: tick 100\nclock 10,20\nscan 1000 2000\nconvert 1 1000\n{end
abbrev pub Row_119_5 : Type 0
Row_119_5 =
    Accepts commands.Test
    (text_short
    ++ codes "tick 100\n"
    ++ codes "clock 10,20\n"
    ++ codes "scan 1000 2000\n"
    ++ codes "convert 1 1000\n"
    ++ text_end
    ++ codes "\n")

-- a time that the clock makes is between the limits: tick 100\nclock 10,20\nscan 1001 1999\nconvert 1 500\n{end}
abbrev pub Row_119_6 : Type 0
Row_119_6 =
    Refuses commands.Test
    (text_short
    ++ codes "tick 100\n"
    ++ codes "clock 10,20\n"
    ++ codes "scan 1001 1999\n"
    ++ codes "convert 1 500\n"
    ++ text_end
    ++ codes "\n")
    (codes "refused 14 Bad\n")

-- a time that the clock makes is between the limits: tick 100\nclock 10,20\nscan 1000 2000\nconvert 1 999\n{end}
abbrev pub Row_119_7 : Type 0
Row_119_7 =
    Refuses commands.Test
    (text_short
    ++ codes "tick 100\n"
    ++ codes "clock 10,20\n"
    ++ codes "scan 1000 2000\n"
    ++ codes "convert 1 999\n"
    ++ text_end
    ++ codes "\n")
    (codes "refused 14 Bad\n")

-- a time that the clock makes is between the limits: tick 100\nclock 10,20\nscan 1000 2000\nconvert 1001 1999\n{
abbrev pub Row_119_8 : Type 0
Row_119_8 =
    Refuses commands.Test
    (text_short
    ++ codes "tick 100\n"
    ++ codes "clock 10,20\n"
    ++ codes "scan 1000 2000\n"
    ++ codes "convert 1001 1999\n"
    ++ text_end
    ++ codes "\n")
    (codes "refused 14 Bad\n")

-- a time that the clock makes is between the limits: tick 100\nclock 10..19\nscan 2000 3000\nconvert 1 1000\n{en
abbrev pub Row_119_9 : Type 0
Row_119_9 =
    Refuses commands.Test
    (text_short
    ++ codes "tick 100\n"
    ++ codes "clock 10..19\n"
    ++ codes "scan 2000 3000\n"
    ++ codes "convert 1 1000\n"
    ++ text_end
    ++ codes "\n")
    (codes "refused 14 Bad\n")

-- a time that the clock makes is between the limits: tick 100\nclock 10..19\nscan 1950 3000\nconvert 1 1000\n{en
abbrev pub Row_119_10 : Type 0
Row_119_10 =
    Refuses commands.Test
    (text_short
    ++ codes "tick 100\n"
    ++ codes "clock 10..19\n"
    ++ codes "scan 1950 3000\n"
    ++ codes "convert 1 1000\n"
    ++ text_end
    ++ codes "\n")
    (codes "refused 14 Bad\n")

-- a time that the clock makes is between the limits: tick 100\nclock 10..19\nscan 1850 3000\nconvert 1 1000\n{en
abbrev pub Row_119_11 : Type 0
Row_119_11 =
    Refuses commands.Test
    (text_short
    ++ codes "tick 100\n"
    ++ codes "clock 10..19\n"
    ++ codes "scan 1850 3000\n"
    ++ codes "convert 1 1000\n"
    ++ text_end
    ++ codes "\n")
    (codes "refused 14 Bad\n")

-- a time that the clock makes is between the limits: tick 100\nclock 10..20\nscan 1950 3000\nconvert 1 1000\n{en
abbrev pub Row_119_12 : Type 0
Row_119_12 =
    Accepts commands.Test
    (text_short
    ++ codes "tick 100\n"
    ++ codes "clock 10..20\n"
    ++ codes "scan 1950 3000\n"
    ++ codes "convert 1 1000\n"
    ++ text_end
    ++ codes "\n")

-- a time that the clock makes is between the limits: tick 7\nclock 3,5 7,11\nscan 1 385\nconvert 1 147\n{end}
abbrev pub Row_119_13 : Type 0
Row_119_13 =
    Accepts commands.Test
    (text_short
    ++ codes "tick 7\n"
    ++ codes "clock 3,5 7,11\n"
    ++ codes "scan 1 385\n"
    ++ codes "convert 1 147\n"
    ++ text_end
    ++ codes "\n")

-- a time that the clock makes is between the limits: tick 7\nclock 3,5 7,11\nscan 1 384\nconvert 1 147\n{end}
abbrev pub Row_119_14 : Type 0
Row_119_14 =
    Refuses commands.Test
    (text_short
    ++ codes "tick 7\n"
    ++ codes "clock 3,5 7,11\n"
    ++ codes "scan 1 384\n"
    ++ codes "convert 1 147\n"
    ++ text_end
    ++ codes "\n")
    (codes "refused 14 Bad\n")

-- a time that the clock makes is between the limits: tick 7\nclock 3,5 7,11\nscan 385 385\nconvert 1 231\n{end}
abbrev pub Row_119_15 : Type 0
Row_119_15 =
    Accepts commands.Test
    (text_short
    ++ codes "tick 7\n"
    ++ codes "clock 3,5 7,11\n"
    ++ codes "scan 385 385\n"
    ++ codes "convert 1 231\n"
    ++ text_end
    ++ codes "\n")

-- a time that the clock makes is between the limits: tick 7\nclock 3,5 7,11\nscan 1 147\nconvert 1 1\n{end}
abbrev pub Row_119_16 : Type 0
Row_119_16 =
    Refuses commands.Test
    (text_short
    ++ codes "tick 7\n"
    ++ codes "clock 3,5 7,11\n"
    ++ codes "scan 1 147\n"
    ++ codes "convert 1 1\n"
    ++ text_end
    ++ codes "\n")
    (codes "refused 14 Bad\n")

-- a time that the clock makes is between the limits: tick 7\nclock 3,5 7,11\nscan 1 294\nconvert 1 147\n{end}
abbrev pub Row_119_17 : Type 0
Row_119_17 =
    Refuses commands.Test
    (text_short
    ++ codes "tick 7\n"
    ++ codes "clock 3,5 7,11\n"
    ++ codes "scan 1 294\n"
    ++ codes "convert 1 147\n"
    ++ text_end
    ++ codes "\n")
    (codes "refused 14 Bad\n")

-- a time that the clock makes is between the limits: tick 7\nclock 3,5 7,11\nscan 1 293\nconvert 1 147\n{end}
abbrev pub Row_119_18 : Type 0
Row_119_18 =
    Refuses commands.Test
    (text_short
    ++ codes "tick 7\n"
    ++ codes "clock 3,5 7,11\n"
    ++ codes "scan 1 293\n"
    ++ codes "convert 1 147\n"
    ++ text_end
    ++ codes "\n")
    (codes "refused 14 Bad\n")

-- a time that the clock makes is between the limits: tick 7\nclock 3,5 7,11\nscan 1 1000\nconvert 148 231\n{end}
abbrev pub Row_119_19 : Type 0
Row_119_19 =
    Refuses commands.Test
    (text_short
    ++ codes "tick 7\n"
    ++ codes "clock 3,5 7,11\n"
    ++ codes "scan 1 1000\n"
    ++ codes "convert 148 231\n"
    ++ text_end
    ++ codes "\n")
    (codes "refused 14 Bad\n")

-- a time that the clock makes is between the limits: tick 7\nclock 3,5 7,11\nscan 386 1000\nconvert 1 147\n{end}
abbrev pub Row_119_20 : Type 0
Row_119_20 =
    Refuses commands.Test
    (text_short
    ++ codes "tick 7\n"
    ++ codes "clock 3,5 7,11\n"
    ++ codes "scan 386 1000\n"
    ++ codes "convert 1 147\n"
    ++ text_end
    ++ codes "\n")
    (codes "refused 14 Bad\n")

-- a time that the clock makes is between the limits: tick 1\nclock 65536 65536\nscan 1 4294967295\nconvert 1 429
abbrev pub Row_119_21 : Type 0
Row_119_21 =
    Refuses commands.Test
    (text_short
    ++ codes "tick 1\n"
    ++ codes "clock 65536 65536\n"
    ++ codes "scan 1 4294967295\n"
    ++ codes "convert 1 4294967295\n"
    ++ text_end
    ++ codes "\n")
    (codes "refused 14 Bad\n")

-- a time that the clock makes is between the limits: tick 1000000000\nclock 16777216 16777216\nscan 1 4294967295
abbrev pub Row_119_22 : Type 0
Row_119_22 =
    Refuses commands.Test
    (text_short
    ++ codes "tick 1000000000\n"
    ++ codes "clock 16777216 16777216\n"
    ++ codes "scan 1 4294967295\n"
    ++ codes "convert 1 4294967295\n"
    ++ text_end
    ++ codes "\n")
    (codes "refused 14 Bad\n")

-- a time that the clock makes is between the limits: tick 1000000000\nclock 5\nscan 1 4294967295\nconvert 1 1\n{
abbrev pub Row_119_24 : Type 0
Row_119_24 =
    Refuses commands.Test
    (text_short
    ++ codes "tick 1000000000\n"
    ++ codes "clock 5\n"
    ++ codes "scan 1 4294967295\n"
    ++ codes "convert 1 1\n"
    ++ text_end
    ++ codes "\n")
    (codes "refused 14 Bad\n")

-- a time that the clock makes is between the limits: tick 1000000000\nclock 2,4\nscan 1 4294967295\nconvert 1 42
abbrev pub Row_119_25 : Type 0
Row_119_25 =
    Accepts commands.Test
    (text_short
    ++ codes "tick 1000000000\n"
    ++ codes "clock 2,4\n"
    ++ codes "scan 1 4294967295\n"
    ++ codes "convert 1 4294967295\n"
    ++ text_end
    ++ codes "\n")

-- a time that the clock makes is between the limits: tick 1000000000\nclock 1..4\nscan 1 4294967295\nconvert 1 2
abbrev pub Row_119_26 : Type 0
Row_119_26 =
    Accepts commands.Test
    (text_short
    ++ codes "tick 1000000000\n"
    ++ codes "clock 1..4\n"
    ++ codes "scan 1 4294967295\n"
    ++ codes "convert 1 2147483647\n"
    ++ text_end
    ++ codes "\n")

-- a time that the clock makes is between the limits: tick 3\nclock 16777216 1..85\nscan 4278190080 4294967295\nc
abbrev pub Row_119_27 : Type 0
Row_119_27 =
    Accepts commands.Test
    (text_short
    ++ codes "tick 3\n"
    ++ codes "clock 16777216 1..85\n"
    ++ codes "scan 4278190080 4294967295\n"
    ++ codes "convert 1 60000000\n"
    ++ text_end
    ++ codes "\n")

-- a time that the clock makes is between the limits: tick 3\nclock 16777216 1..85\nscan 4278190081 4294967295\nc
abbrev pub Row_119_28 : Type 0
Row_119_28 =
    Refuses commands.Test
    (text_short
    ++ codes "tick 3\n"
    ++ codes "clock 16777216 1..85\n"
    ++ codes "scan 4278190081 4294967295\n"
    ++ codes "convert 1 60000000\n"
    ++ text_end
    ++ codes "\n")
    (codes "refused 14 Bad\n")

-- a time that the clock makes is between the limits: tick 1\nclock 1..65535 1..65535\nscan 4294836225 4294836225
abbrev pub Row_119_29 : Type 0
Row_119_29 =
    Accepts commands.Test
    (text_short
    ++ codes "tick 1\n"
    ++ codes "clock 1..65535 1..65535\n"
    ++ codes "scan 4294836225 4294836225\n"
    ++ codes "convert 1 1\n"
    ++ text_end
    ++ codes "\n")

-- a time that the clock makes is between the limits: tick 1\nclock 1..65535 1..65535\nscan 4294836226 4294967295
abbrev pub Row_119_30 : Type 0
Row_119_30 =
    Refuses commands.Test
    (text_short
    ++ codes "tick 1\n"
    ++ codes "clock 1..65535 1..65535\n"
    ++ codes "scan 4294836226 4294967295\n"
    ++ codes "convert 1 1\n"
    ++ text_end
    ++ codes "\n")
    (codes "refused 14 Bad\n")

-- a time that the clock makes is between the limits: tick 1\nclock 1..65535 1..65535\nscan 4294770690 4294836224
abbrev pub Row_119_31 : Type 0
Row_119_31 =
    Accepts commands.Test
    (text_short
    ++ codes "tick 1\n"
    ++ codes "clock 1..65535 1..65535\n"
    ++ codes "scan 4294770690 4294836224\n"
    ++ codes "convert 1 1\n"
    ++ text_end
    ++ codes "\n")

-- a time that the clock makes is between the limits: tick 1\nclock 1..65535 1..65535\nscan 4294770691 4294836224
abbrev pub Row_119_32 : Type 0
Row_119_32 =
    Refuses commands.Test
    (text_short
    ++ codes "tick 1\n"
    ++ codes "clock 1..65535 1..65535\n"
    ++ codes "scan 4294770691 4294836224\n"
    ++ codes "convert 1 1\n"
    ++ text_end
    ++ codes "\n")
    (codes "refused 14 Bad\n")

-- a time that the clock makes is between the limits: tick 100\nclock 10\nscan 1000 4000\nconvert 1 1000\nperchan
abbrev pub Row_119_33 : Type 0
Row_119_33 =
    Refuses commands.Test
    (text_short
    ++ codes "tick 100\n"
    ++ codes "clock 10\n"
    ++ codes "scan 1000 4000\n"
    ++ codes "convert 1 1000\n"
    ++ codes "perchan 500\n"
    ++ text_end
    ++ codes "\n")
    (codes "refused 15 Bad\n")

-- a time that the clock makes is between the limits: tick 100\nclock 10,20,40\nscan 1000 5000\nconvert 1 1000\np
abbrev pub Row_119_34 : Type 0
Row_119_34 =
    Accepts commands.Test
    (text_short
    ++ codes "tick 100\n"
    ++ codes "clock 10,20,40\n"
    ++ codes "scan 1000 5000\n"
    ++ codes "convert 1 1000\n"
    ++ codes "perchan 2000\n"
    ++ text_end
    ++ codes "\n")

-- a time that the clock makes is between the limits: tick 100\nclock 10,20,40\nscan 1000 5000\nconvert 1 1000\np
abbrev pub Row_119_35 : Type 0
Row_119_35 =
    Refuses commands.Test
    (text_short
    ++ codes "tick 100\n"
    ++ codes "clock 10,20,40\n"
    ++ codes "scan 1000 5000\n"
    ++ codes "convert 1 1000\n"
    ++ codes "perchan 2001\n"
    ++ text_end
    ++ codes "\n")
    (codes "refused 15 Bad\n")

-- all of them
pub record AreClock : Type 0 where
  pub row_24_2 : Row_24_2
  pub row_24_3 : Row_24_3
  pub row_24_4 : Row_24_4
  pub row_24_5 : Row_24_5
  pub row_24_6 : Row_24_6
  pub row_24_7 : Row_24_7
  pub row_24_8 : Row_24_8
  pub row_24_9 : Row_24_9
  pub row_24_10 : Row_24_10
  pub row_24_11 : Row_24_11
  pub row_24_12 : Row_24_12
  pub row_24_13 : Row_24_13
  pub row_24_14 : Row_24_14
  pub row_24_15 : Row_24_15
  pub row_24_16 : Row_24_16
  pub row_24_17 : Row_24_17
  pub row_24_18 : Row_24_18
  pub row_24_19 : Row_24_19
  pub row_24_20 : Row_24_20
  pub row_24_21 : Row_24_21
  pub row_24_22 : Row_24_22
  pub row_24_23 : Row_24_23
  pub row_24_24 : Row_24_24
  pub row_24_25 : Row_24_25
  pub row_24_26 : Row_24_26
  pub row_24_27 : Row_24_27
  pub row_24_28 : Row_24_28
  pub row_24_29 : Row_24_29
  pub row_24_30 : Row_24_30
  pub row_24_31 : Row_24_31
  pub row_24_32 : Row_24_32
  pub row_24_33 : Row_24_33
  pub row_24_34 : Row_24_34
  pub row_24_35 : Row_24_35
  pub row_24_36 : Row_24_36
  pub row_24_37 : Row_24_37
  pub row_24_38 : Row_24_38
  pub row_24_39 : Row_24_39
  pub row_24_40 : Row_24_40
  pub row_24_41 : Row_24_41
  pub row_24_42 : Row_24_42
  pub row_24_43 : Row_24_43
  pub row_24_44 : Row_24_44
  pub row_24_45 : Row_24_45
  pub row_24_46 : Row_24_46
  pub row_24_47 : Row_24_47
  pub row_24_48 : Row_24_48
  pub row_24_49 : Row_24_49
  pub row_24_50 : Row_24_50
  pub row_24_51 : Row_24_51
  pub row_24_52 : Row_24_52
  pub row_24_53 : Row_24_53
  pub row_24_54 : Row_24_54
  pub row_24_55 : Row_24_55
  pub row_24_56 : Row_24_56
  pub row_24_57 : Row_24_57
  pub row_24_58 : Row_24_58
  pub row_24_59 : Row_24_59
  pub row_24_60 : Row_24_60
  pub row_24_61 : Row_24_61
  pub row_24_62 : Row_24_62
  pub row_24_63 : Row_24_63
  pub row_24_64 : Row_24_64
  pub row_24_65 : Row_24_65
  pub row_24_66 : Row_24_66
  pub row_24_67 : Row_24_67
  pub row_24_68 : Row_24_68
  pub row_24_69 : Row_24_69
  pub row_24_70 : Row_24_70
  pub row_24_71 : Row_24_71
  pub row_97_1 : Row_97_1
  pub row_97_2 : Row_97_2
  pub row_97_3 : Row_97_3
  pub row_97_4 : Row_97_4
  pub row_97_5 : Row_97_5
  pub row_97_6 : Row_97_6
  pub row_97_7 : Row_97_7
  pub row_119_2 : Row_119_2
  pub row_119_3 : Row_119_3
  pub row_119_4 : Row_119_4
  pub row_119_5 : Row_119_5
  pub row_119_6 : Row_119_6
  pub row_119_7 : Row_119_7
  pub row_119_8 : Row_119_8
  pub row_119_9 : Row_119_9
  pub row_119_10 : Row_119_10
  pub row_119_11 : Row_119_11
  pub row_119_12 : Row_119_12
  pub row_119_13 : Row_119_13
  pub row_119_14 : Row_119_14
  pub row_119_15 : Row_119_15
  pub row_119_16 : Row_119_16
  pub row_119_17 : Row_119_17
  pub row_119_18 : Row_119_18
  pub row_119_19 : Row_119_19
  pub row_119_20 : Row_119_20
  pub row_119_21 : Row_119_21
  pub row_119_22 : Row_119_22
  pub row_119_24 : Row_119_24
  pub row_119_25 : Row_119_25
  pub row_119_26 : Row_119_26
  pub row_119_27 : Row_119_27
  pub row_119_28 : Row_119_28
  pub row_119_29 : Row_119_29
  pub row_119_30 : Row_119_30
  pub row_119_31 : Row_119_31
  pub row_119_32 : Row_119_32
  pub row_119_33 : Row_119_33
  pub row_119_34 : Row_119_34
  pub row_119_35 : Row_119_35
