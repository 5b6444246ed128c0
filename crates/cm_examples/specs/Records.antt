-- Made by tools/make_examples: the examples of `tests/records.rows`
use Rattle.std.specs.Prelude.{codes, ℕ, List, ◌++◌}
use Rattle.cm_cli.specs.declared.command.Command.TheVariants as commands
use Rattle.cm_examples.specs.Answering.{Accepts, Answers, Refuses}

-- the text `board`
abbrev pub text_board : List ℕ
text_board =
    codes "board x\n"
    ++ codes "subdevice ai 16\n"
    ++ codes "bits 8\n"
    ++ codes "range 0 255 0\n"
    ++ codes "sources now timer now count none|count\n"
    ++ codes "tick 1\n"
    ++ codes "scan 1 1000000\n"
    ++ codes "convert 1 1\n"
    ++ codes "list 16\n"
    ++ codes "buffer 16\n"
    ++ codes "subdevice ao 1\n"
    ++ codes "bits 8\n"
    ++ codes "range 0 255 0\n"
    ++ codes "subdevice dio 8\n"
    ++ codes "bits 1\n"
    ++ codes "range 0 1 2\n"
    ++ codes "signals 100000\n"

-- a record ends at its last level, and a table begins again
abbrev pub Row_28 : Type 0
Row_28 =
    Answers commands.Expand
    (codes "zendrouz 1\n"
    ++ text_board
    ++ codes "wave 0 0 record 1000 7 5 9\n"
    ++ codes "wave 0 1 table 1000 7 5 9\n"
    ++ codes "wave 2 3 record 1000000000000 1\n"
    ++ codes "session\n"
    ++ codes "expand 0 0 0 now:0 timer:500 now:0 count:2 count:8 0/0/ground,1/0/ground\n")
    (codes "0 0 7\n"
    ++ codes "0 1 7\n"
    ++ codes "500 0 7\n"
    ++ codes "500 1 7\n"
    ++ codes "1000 0 5\n"
    ++ codes "1000 1 5\n"
    ++ codes "1500 0 5\n"
    ++ codes "1500 1 5\n"
    ++ codes "2000 0 9\n"
    ++ codes "2000 1 9\n"
    ++ codes "2500 0 9\n"
    ++ codes "2500 1 9\n"
    ++ codes "3000 0 9\n"
    ++ codes "3000 1 7\n"
    ++ codes "3500 0 9\n"
    ++ codes "3500 1 7\n"
    ++ codes "done\n")

-- samples of a record, and a line that stays as it was recorded last
abbrev pub Row_53 : Type 0
Row_53 =
    Answers commands.Replay
    (codes "zendrouz 1\n"
    ++ text_board
    ++ codes "wave 0 0 record 1000 7 5 9\n"
    ++ codes "wave 2 1 record 1000 0 1\n"
    ++ codes "session\n"
    ++ codes "0 open 1\n"
    ++ codes "999 insn 1 2 bits 0 0\n"
    ++ codes "1000 insn 1 2 bits 0 0\n"
    ++ codes "1000 cmd 1 0 0 now:0 timer:1000 now:0 count:1 count:4 0/0/ground\n"
    ++ codes "9000 read 1 0 10\n"
    ++ codes "99000 insn 1 2 bits 0 0\n")
    (codes "ok\n"
    ++ codes "ok 2 0 0\n"
    ++ codes "ok 2 0 2\n"
    ++ codes "ok\n"
    ++ codes "ok 4\n"
    ++ codes "0 5\n"
    ++ codes "0 9\n"
    ++ codes "0 9\n"
    ++ codes "0 9\n"
    ++ codes "ok 2 0 2\n")

-- the words of a record: wave 0 0 record 1000 7\nsession
abbrev pub Row_75_2 : Type 0
Row_75_2 =
    Accepts commands.Test
    (codes "zendrouz 1\n"
    ++ text_board
    ++ codes "wave 0 0 record 1000 7\n"
    ++ codes "session\n")

-- the words of a record: wave 0 0 record 1 7 -2147483648 2147483647\nsession
abbrev pub Row_75_3 : Type 0
Row_75_3 =
    Accepts commands.Test
    (codes "zendrouz 1\n"
    ++ text_board
    ++ codes "wave 0 0 record 1 7 -2147483648 2147483647\n"
    ++ codes "session\n")

-- the words of a record: wave 0 15 record 1000000000000 7\nsession
abbrev pub Row_75_4 : Type 0
Row_75_4 =
    Accepts commands.Test
    (codes "zendrouz 1\n"
    ++ text_board
    ++ codes "wave 0 15 record 1000000000000 7\n"
    ++ codes "session\n")

-- the words of a record: wave 0 0 record 1000\nsession
abbrev pub Row_75_5 : Type 0
Row_75_5 =
    Refuses commands.Test
    (codes "zendrouz 1\n" ++ text_board ++ codes "wave 0 0 record 1000\n" ++ codes "session\n")
    (codes "refused 19 BadLine\n")

-- the words of a record: wave 0 0 record\nsession
abbrev pub Row_75_6 : Type 0
Row_75_6 =
    Refuses commands.Test
    (codes "zendrouz 1\n" ++ text_board ++ codes "wave 0 0 record\n" ++ codes "session\n")
    (codes "refused 19 BadLine\n")

-- the words of a record: wave 0 0\nsession
abbrev pub Row_75_7 : Type 0
Row_75_7 =
    Refuses commands.Test
    (codes "zendrouz 1\n" ++ text_board ++ codes "wave 0 0\n" ++ codes "session\n")
    (codes "refused 19 BadLine\n")

-- the words of a record: wave 0 0 records 1000 7\nsession
abbrev pub Row_75_8 : Type 0
Row_75_8 =
    Refuses commands.Test
    (codes "zendrouz 1\n"
    ++ text_board
    ++ codes "wave 0 0 records 1000 7\n"
    ++ codes "session\n")
    (codes "refused 19 Unknown\n")

-- the words of a record: wave 0 16 record x y\nsession
abbrev pub Row_75_9 : Type 0
Row_75_9 =
    Refuses commands.Test
    (codes "zendrouz 1\n" ++ text_board ++ codes "wave 0 16 record x y\n" ++ codes "session\n")
    (codes "refused 19 Limit\n")

-- the words of a record: wave 1 0 record x y\nsession
abbrev pub Row_75_10 : Type 0
Row_75_10 =
    Refuses commands.Test
    (codes "zendrouz 1\n" ++ text_board ++ codes "wave 1 0 record x y\n" ++ codes "session\n")
    (codes "refused 19 Limit\n")

-- the words of a record: wave 3 0 record x y\nsession
abbrev pub Row_75_11 : Type 0
Row_75_11 =
    Refuses commands.Test
    (codes "zendrouz 1\n" ++ text_board ++ codes "wave 3 0 record x y\n" ++ codes "session\n")
    (codes "refused 19 Limit\n")

-- the words of a record: wave 0 x record 0 y\nsession
abbrev pub Row_75_12 : Type 0
Row_75_12 =
    Refuses commands.Test
    (codes "zendrouz 1\n" ++ text_board ++ codes "wave 0 x record 0 y\n" ++ codes "session\n")
    (codes "refused 19 BadNumber\n")

-- the words of a record: wave 0 0 record 0 y\nsession
abbrev pub Row_75_13 : Type 0
Row_75_13 =
    Refuses commands.Test
    (codes "zendrouz 1\n" ++ text_board ++ codes "wave 0 0 record 0 y\n" ++ codes "session\n")
    (codes "refused 19 Limit\n")

-- the words of a record: wave 0 0 record x 2147483648\nsession
abbrev pub Row_75_14 : Type 0
Row_75_14 =
    Refuses commands.Test
    (codes "zendrouz 1\n"
    ++ text_board
    ++ codes "wave 0 0 record x 2147483648\n"
    ++ codes "session\n")
    (codes "refused 19 BadNumber\n")

-- the words of a record: wave 0 0 record 1000000000001 7\nsession
abbrev pub Row_75_15 : Type 0
Row_75_15 =
    Refuses commands.Test
    (codes "zendrouz 1\n"
    ++ text_board
    ++ codes "wave 0 0 record 1000000000001 7\n"
    ++ codes "session\n")
    (codes "refused 19 Limit\n")

-- the words of a record: wave 0 0 record 1000 7 2147483648 x\nsession
abbrev pub Row_75_16 : Type 0
Row_75_16 =
    Refuses commands.Test
    (codes "zendrouz 1\n"
    ++ text_board
    ++ codes "wave 0 0 record 1000 7 2147483648 x\n"
    ++ codes "session\n")
    (codes "refused 19 Limit\n")

-- the words of a record: wave 0 0 record 1000 7 x 2147483648\nsession
abbrev pub Row_75_17 : Type 0
Row_75_17 =
    Refuses commands.Test
    (codes "zendrouz 1\n"
    ++ text_board
    ++ codes "wave 0 0 record 1000 7 x 2147483648\n"
    ++ codes "session\n")
    (codes "refused 19 BadNumber\n")

-- the words of a record: wave 0 0 record 1000 7 -2147483649\nsession
abbrev pub Row_75_18 : Type 0
Row_75_18 =
    Refuses commands.Test
    (codes "zendrouz 1\n"
    ++ text_board
    ++ codes "wave 0 0 record 1000 7 -2147483649\n"
    ++ codes "session\n")
    (codes "refused 19 Limit\n")

-- how many values all records have: wave 0 0 record 1000{ 7*65}\nsession
abbrev pub Row_95_2 : Type 0
Row_95_2 =
    Accepts commands.Test
    (codes "zendrouz 1\n"
    ++ text_board
    ++ codes "wave 0 0 record 1000 7 7 7 7 7 7 7 7 7 7 7 7 7 7 7 7 7 7 7 7 7 7 7 7 7 7 7 7 7 7 7 7"
    ++ codes " 7 7 7 7 7 7 7 7 7 7 7 7 7 7 7 7 7 7 7 7 7 7 7 7 7 7 7 7 7 7 7 7 7\n"
    ++ codes "session\n")

-- how many values all records have: wave 0 0 record 1000 7\nwave 0 0 record 1000 7\nsession
abbrev pub Row_95_14 : Type 0
Row_95_14 =
    Refuses commands.Test
    (codes "zendrouz 1\n"
    ++ text_board
    ++ codes "wave 0 0 record 1000 7\n"
    ++ codes "wave 0 0 record 1000 7\n"
    ++ codes "session\n")
    (codes "refused 20 Double\n")

-- how many values all records have: wave 0 0 table 1000 7\nwave 0 0 record 1000 7\nsession
abbrev pub Row_95_15 : Type 0
Row_95_15 =
    Refuses commands.Test
    (codes "zendrouz 1\n"
    ++ text_board
    ++ codes "wave 0 0 table 1000 7\n"
    ++ codes "wave 0 0 record 1000 7\n"
    ++ codes "session\n")
    (codes "refused 20 Double\n")

-- boards of earlier versions have no records: comedi 1\n{board}wave 0 0 record 1000 7\nsession
abbrev pub Row_112_1 : Type 0
Row_112_1 =
    Refuses commands.Test
    (codes "comedi 1\n" ++ text_board ++ codes "wave 0 0 record 1000 7\n" ++ codes "session\n")
    (codes "refused 19 Unknown\n")

-- boards of earlier versions have no records: comedi 2\n{board}wave 0 0 record 1000 7\nsession
abbrev pub Row_112_2 : Type 0
Row_112_2 =
    Refuses commands.Test
    (codes "comedi 2\n" ++ text_board ++ codes "wave 0 0 record 1000 7\n" ++ codes "session\n")
    (codes "refused 19 Unknown\n")

-- boards of earlier versions have no records: comedi 2\n{board}wave 0 0\nsession
abbrev pub Row_112_4 : Type 0
Row_112_4 =
    Refuses commands.Test
    (codes "comedi 2\n" ++ text_board ++ codes "wave 0 0\n" ++ codes "session\n")
    (codes "refused 19 BadLine\n")

-- all of them
pub record AreRecords : Type 0 where
  pub row_28 : Row_28
  pub row_53 : Row_53
  pub row_75_2 : Row_75_2
  pub row_75_3 : Row_75_3
  pub row_75_4 : Row_75_4
  pub row_75_5 : Row_75_5
  pub row_75_6 : Row_75_6
  pub row_75_7 : Row_75_7
  pub row_75_8 : Row_75_8
  pub row_75_9 : Row_75_9
  pub row_75_10 : Row_75_10
  pub row_75_11 : Row_75_11
  pub row_75_12 : Row_75_12
  pub row_75_13 : Row_75_13
  pub row_75_14 : Row_75_14
  pub row_75_15 : Row_75_15
  pub row_75_16 : Row_75_16
  pub row_75_17 : Row_75_17
  pub row_75_18 : Row_75_18
  pub row_95_2 : Row_95_2
  pub row_95_14 : Row_95_14
  pub row_95_15 : Row_95_15
  pub row_112_1 : Row_112_1
  pub row_112_2 : Row_112_2
  pub row_112_4 : Row_112_4
