-- Made by tools/make_examples: the examples of `tests/commands.rows`
use Rattle.std.specs.Prelude.{codes, ℕ, List, ◌++◌}
use Rattle.cm_cli.specs.declared.command.Command.TheVariants as commands
use Rattle.cm_examples.specs.Answering.{Answers}

-- the text `tested`
abbrev pub text_tested : List ℕ
text_tested =
    codes "comedi 2\n"
    ++ codes "board demo\n"
    ++ codes "subdevice ai 4\n"
    ++ codes "bits 16\n"
    ++ codes "munge offset\n"
    ++ codes "range -10000000 10000000 0\n"
    ++ codes "range -5000001 5000000 0\n"
    ++ codes "sources now|ext|int follow|timer|ext now|timer|ext count none|count|ext\n"
    ++ codes "tick 100\n"
    ++ codes "scan 1000 160000\n"
    ++ codes "convert 200 1000000\n"
    ++ codes "list 16\n"
    ++ codes "scans 1000000\n"
    ++ codes "lines 2\n"
    ++ codes "buffer 4\n"
    ++ codes "forbid scan_begin ext convert ext\n"
    ++ codes "signals 0\n"
    ++ codes "session\n"

-- the text `inverted`
abbrev pub text_inverted : List ℕ
text_inverted =
    codes "comedi 2\n"
    ++ codes "board demo\n"
    ++ codes "subdevice ai 4\n"
    ++ codes "bits 16\n"
    ++ codes "munge offset\n"
    ++ codes "range -10000000 10000000 0\n"
    ++ codes "range -5000001 5000000 0\n"
    ++ codes "sources now|ext|int follow|timer|ext now|timer|ext count none|count|ext\n"
    ++ codes "tick 100\n"
    ++ codes "scan 1000 160000\n"
    ++ codes "convert 200 1000000\n"
    ++ codes "list 16\n"
    ++ codes "scans 1000000\n"
    ++ codes "lines 1\n"
    ++ codes "buffer 4\n"
    ++ codes "forbid scan_begin ext convert ext\n"
    ++ codes "invert\n"
    ++ codes "signals 0\n"
    ++ codes "session\n"

-- the step at which a command is repaired or refused, and what is left of it: test 0 0 now|follow:0 timer:1000 n
abbrev pub Row_26_2 : Type 0
Row_26_2 =
    Answers commands.Test
    (text_tested
    ++ codes "test 0 0 now|follow:0 timer:1000 now:0 count:1 count:3 0/0/ground\n")
    (codes "step 1 0 0 now:0 timer:1000 now:0 count:1 count:3 0/0/ground\n")

-- the step at which a command is repaired or refused, and what is left of it: test 0 0 now|int:0 timer:1000 now:
abbrev pub Row_26_3 : Type 0
Row_26_3 =
    Answers commands.Test
    (text_tested ++ codes "test 0 0 now|int:0 timer:1000 now:0 count:1 count:3 0/0/ground\n")
    (codes "step 2 0 0 now|int:0 timer:1000 now:0 count:1 count:3 0/0/ground\n")

-- the step at which a command is repaired or refused, and what is left of it: test 0 0 now:0 ext:0 ext:0 count:1
abbrev pub Row_26_4 : Type 0
Row_26_4 =
    Answers commands.Test
    (text_tested ++ codes "test 0 0 now:0 ext:0 ext:0 count:1 count:1 0/0/ground\n")
    (codes "step 2 0 0 now:0 ext:0 ext:0 count:1 count:1 0/0/ground\n")

-- the step at which a command is repaired or refused, and what is left of it: test 0 0 now:0 follow:0 timer:250
abbrev pub Row_26_5 : Type 0
Row_26_5 =
    Answers commands.Test
    (text_tested ++ codes "test 0 0 now:0 follow:0 timer:250 count:1 count:3 0/0/ground\n")
    (codes "step 4 0 0 now:0 follow:0 timer:300 count:1 count:3 0/0/ground\n")

-- the step at which a command is repaired or refused, and what is left of it: test 0 65536 now:0 follow:0 timer:
abbrev pub Row_26_6 : Type 0
Row_26_6 =
    Answers commands.Test
    (text_tested ++ codes "test 0 65536 now:0 follow:0 timer:250 count:1 count:3 0/0/ground\n")
    (codes "step 4 0 65536 now:0 follow:0 timer:200 count:1 count:3 0/0/ground\n")

-- the step at which a command is repaired or refused, and what is left of it: test 0 131072 now:0 follow:0 timer
abbrev pub Row_26_7 : Type 0
Row_26_7 =
    Answers commands.Test
    (text_tested
    ++ codes "test 0 131072 now:0 follow:0 timer:250 count:1 count:3 0/0/ground\n")
    (codes "step 4 0 131072 now:0 follow:0 timer:300 count:1 count:3 0/0/ground\n")

-- the step at which a command is repaired or refused, and what is left of it: test 0 196608 now:0 follow:0 timer
abbrev pub Row_26_8 : Type 0
Row_26_8 =
    Answers commands.Test
    (text_tested
    ++ codes "test 0 196608 now:0 follow:0 timer:250 count:1 count:3 0/0/ground\n")
    (codes "step 4 0 196608 now:0 follow:0 timer:300 count:1 count:3 0/0/ground\n")

-- the step at which a command is repaired or refused, and what is left of it: test 0 0 now:0 follow:0 timer:300
abbrev pub Row_26_9 : Type 0
Row_26_9 =
    Answers commands.Test
    (text_tested ++ codes "test 0 0 now:0 follow:0 timer:300 count:1 count:3 0/0/ground\n")
    (codes "step 0 0 0 now:0 follow:0 timer:300 count:1 count:3 0/0/ground\n")

-- the step at which a command is repaired or refused, and what is left of it: test 0 0 now:0 timer:1000 now:0 co
abbrev pub Row_26_10 : Type 0
Row_26_10 =
    Answers commands.Test
    (text_tested ++ codes "test 0 0 now:0 timer:1000 now:0 count:0 count:3 -\n")
    (codes "step 5 0 0 now:0 timer:1000 now:0 count:0 count:3 -\n")

-- the step at which a command is repaired or refused, and what is left of it: test 0 0 now:0 timer:1000 now:0 co
abbrev pub Row_26_11 : Type 0
Row_26_11 =
    Answers commands.Test
    (text_tested ++ codes "test 0 0 now:0 timer:1000 now:0 count:1 count:3 4/0/ground\n")
    (codes "step 5 0 0 now:0 timer:1000 now:0 count:1 count:3 4/0/ground\n")

-- the step at which a command is repaired or refused, and what is left of it: test 0 0 ext:9 timer:1 timer:9 cou
abbrev pub Row_26_12 : Type 0
Row_26_12 =
    Answers commands.Test
    (text_tested ++ codes "test 0 0 ext:9 timer:1 timer:9 count:5 count:0 0/0/ground\n")
    (codes "step 3 0 0 ext:1 timer:1000 timer:200 count:1 count:1 0/0/ground\n")

-- the step at which a command is repaired or refused, and what is left of it: test 0 0 ext:2147483648 timer:1000
abbrev pub Row_26_13 : Type 0
Row_26_13 =
    Answers commands.Test
    (text_tested
    ++ codes "test 0 0 ext:2147483648 timer:1000 now:0 count:1 ext:5 0/0/ground\n")
    (codes "step 3 0 0 ext:1 timer:1000 now:0 count:1 ext:1 0/0/ground\n")

-- the step at which a command is repaired or refused, and what is left of it: test 0 0 ext:1 timer:1000 now:0 co
abbrev pub Row_26_14 : Type 0
Row_26_14 =
    Answers commands.Test
    (text_tested ++ codes "test 0 0 ext:1 timer:1000 now:0 count:1 ext:0 0/0/ground\n")
    (codes "step 0 0 0 ext:1 timer:1000 now:0 count:1 ext:0 0/0/ground\n")

-- the step at which a command is repaired or refused, and what is left of it: test 0 0 now:0 timer:1000 timer:10
abbrev pub Row_26_15 : Type 0
Row_26_15 =
    Answers commands.Test
    (text_tested
    ++ codes "test 0 0 now:0 timer:1000 timer:10001 count:16 count:1 0/0/ground,0/0/ground,0/0/gro"
    ++ codes "und,0/0/ground,0/0/ground,0/0/ground,0/0/ground,0/0/ground,0/0/ground,0/0/ground,0/0"
    ++ codes "/ground,0/0/ground,0/0/ground,0/0/ground,0/0/ground,0/0/ground\n")
    (codes "step 3 0 0 now:0 timer:1000 timer:10000 count:16 count:1 0/0/ground,0/0/ground,0/0/g"
    ++ codes "round,0/0/ground,0/0/ground,0/0/ground,0/0/ground,0/0/ground,0/0/ground,0/0/ground,0"
    ++ codes "/0/ground,0/0/ground,0/0/ground,0/0/ground,0/0/ground,0/0/ground\n")

-- the step at which a command is repaired or refused, and what is left of it: test 0 0 now:0 timer:1000 timer:10
abbrev pub Row_26_16 : Type 0
Row_26_16 =
    Answers commands.Test
    (text_tested
    ++ codes "test 0 0 now:0 timer:1000 timer:10000 count:16 count:1 0/0/ground,0/0/ground,0/0/gro"
    ++ codes "und,0/0/ground,0/0/ground,0/0/ground,0/0/ground,0/0/ground,0/0/ground,0/0/ground,0/0"
    ++ codes "/ground,0/0/ground,0/0/ground,0/0/ground,0/0/ground,0/0/ground\n")
    (codes "step 4 0 0 now:0 timer:160000 timer:10000 count:16 count:1 0/0/ground,0/0/ground,0/0"
    ++ codes "/ground,0/0/ground,0/0/ground,0/0/ground,0/0/ground,0/0/ground,0/0/ground,0/0/ground"
    ++ codes ",0/0/ground,0/0/ground,0/0/ground,0/0/ground,0/0/ground,0/0/ground\n")

-- the step at which a command is repaired or refused, and what is left of it: test 0 0 now:0 timer:160000 timer:
abbrev pub Row_26_17 : Type 0
Row_26_17 =
    Answers commands.Test
    (text_tested
    ++ codes "test 0 0 now:0 timer:160000 timer:10000 count:16 count:1 0/0/ground,0/0/ground,0/0/g"
    ++ codes "round,0/0/ground,0/0/ground,0/0/ground,0/0/ground,0/0/ground,0/0/ground,0/0/ground,0"
    ++ codes "/0/ground,0/0/ground,0/0/ground,0/0/ground,0/0/ground,0/0/ground\n")
    (codes "step 0 0 0 now:0 timer:160000 timer:10000 count:16 count:1 0/0/ground,0/0/ground,0/0"
    ++ codes "/ground,0/0/ground,0/0/ground,0/0/ground,0/0/ground,0/0/ground,0/0/ground,0/0/ground"
    ++ codes ",0/0/ground,0/0/ground,0/0/ground,0/0/ground,0/0/ground,0/0/ground\n")

-- the step at which a command is repaired or refused, and what is left of it: test 0 4294967295 now|ext|int:0 in
abbrev pub Row_26_18 : Type 0
Row_26_18 =
    Answers commands.Test
    (text_tested
    ++ codes "test 0 4294967295 now|ext|int:0 invalid:7 time|other:4294967295 count:0 none:0 -\n")
    (codes "step 1 0 4294967295 now|ext|int:0 invalid:7 invalid:4294967295 count:0 none:0 -\n")

-- the step at which a command is repaired or refused, and what is left of it: test 0 1 time|int|other:0 follow|t
abbrev pub Row_26_19 : Type 0
Row_26_19 =
    Answers commands.Test
    (text_tested
    ++ codes "test 0 1 time|int|other:0 follow|timer|ext:1000 now|timer|ext:0 none|count:2 none|co"
    ++ codes "unt:0 0/0/ground\n")
    (codes "step 1 0 1 int:0 follow|timer|ext:1000 now|timer|ext:0 count:2 none|count:0 0/0/grou"
    ++ codes "nd\n")

-- the step at which a command is repaired or refused, and what is left of it: test 0 196608 now:0 timer:1000 now
abbrev pub Row_26_20 : Type 0
Row_26_20 =
    Answers commands.Test
    (text_tested
    ++ codes "test 0 196608 now:0 timer:1000 now:0 count:3 none:0 65535/255/other,1/2/common,3/4/d"
    ++ codes "iff\n")
    (codes "step 5 0 196608 now:0 timer:1000 now:0 count:3 none:0 65535/255/other,1/2/common,3/4"
    ++ codes "/diff\n")

-- the line of an external argument is moved, and its bit 31 stays: test 0 0 ext:2147483651 timer:1000 now:0 coun
abbrev pub Row_71_2 : Type 0
Row_71_2 =
    Answers commands.Test
    (text_inverted
    ++ codes "test 0 0 ext:2147483651 timer:1000 now:0 count:1 ext:5 0/0/ground\n")
    (codes "step 3 0 0 ext:2147483648 timer:1000 now:0 count:1 ext:0 0/0/ground\n")

-- the line of an external argument is moved, and its bit 31 stays: test 0 0 ext:2147483648 timer:1000 now:0 coun
abbrev pub Row_71_3 : Type 0
Row_71_3 =
    Answers commands.Test
    (text_inverted
    ++ codes "test 0 0 ext:2147483648 timer:1000 now:0 count:1 ext:0 0/0/ground\n")
    (codes "step 0 0 0 ext:2147483648 timer:1000 now:0 count:1 ext:0 0/0/ground\n")

-- the line of an external argument is moved, and its bit 31 stays: test 0 0 now:2147483648 ext:2147483648 now:0
abbrev pub Row_71_4 : Type 0
Row_71_4 =
    Answers commands.Test
    (text_inverted
    ++ codes "test 0 0 now:2147483648 ext:2147483648 now:0 count:1 count:2147483648 0/0/ground\n")
    (codes "step 3 0 0 now:0 ext:2147483648 now:0 count:1 count:1000000 0/0/ground\n")

-- all of them
pub record AreCommands : Type 0 where
  pub row_26_2 : Row_26_2
  pub row_26_3 : Row_26_3
  pub row_26_4 : Row_26_4
  pub row_26_5 : Row_26_5
  pub row_26_6 : Row_26_6
  pub row_26_7 : Row_26_7
  pub row_26_8 : Row_26_8
  pub row_26_9 : Row_26_9
  pub row_26_10 : Row_26_10
  pub row_26_11 : Row_26_11
  pub row_26_12 : Row_26_12
  pub row_26_13 : Row_26_13
  pub row_26_14 : Row_26_14
  pub row_26_15 : Row_26_15
  pub row_26_16 : Row_26_16
  pub row_26_17 : Row_26_17
  pub row_26_18 : Row_26_18
  pub row_26_19 : Row_26_19
  pub row_26_20 : Row_26_20
  pub row_71_2 : Row_71_2
  pub row_71_3 : Row_71_3
  pub row_71_4 : Row_71_4
