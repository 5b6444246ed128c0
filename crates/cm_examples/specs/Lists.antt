-- Made by tools/make_examples: the examples of `tests/lists.rows`
use Rattle.std.specs.Prelude.{codes, ℕ, List, ◌++◌}
use Rattle.cm_cli.specs.declared.command.Command.TheVariants as commands
use Rattle.cm_examples.specs.Answering.{Answers}

-- the text `four`
abbrev pub text_four : List ℕ
text_four =
    codes "zendrouz 1\n"
    ++ codes "board demo\n"
    ++ codes "subdevice ai 4\n"
    ++ codes "bits 16\n"
    ++ codes "range -10000000 10000000 0\n"
    ++ codes "range -5000000 5000000 0\n"
    ++ codes "range 0 10000000 0\n"
    ++ codes "range 0 5000000 0\n"
    ++ codes "sources now timer now count count\n"
    ++ codes "tick 100\n"
    ++ codes "scan 1000 160000\n"
    ++ codes "convert 200 10000\n"
    ++ codes "list 16\n"
    ++ codes "buffer 16\n"
    ++ codes "chan 3 range 0 20000000 1\n"

-- the text `asked`
abbrev pub text_asked : List ℕ
text_asked =
    codes "signals 0\n"
    ++ codes "session\n"

-- a list keeps no order where none is asked for: {asked}test 0 0 now:0 timer:1000 now:0 count:3 count:1 2/0/g
abbrev pub Row_27_2 : Type 0
Row_27_2 =
    Answers commands.Test
    (text_four
    ++ text_asked
    ++ codes "test 0 0 now:0 timer:1000 now:0 count:3 count:1 2/0/ground,2/1/ground,0/0/diff\n")
    (codes "step 0 0 0 now:0 timer:1000 now:0 count:3 count:1 2/0/ground,2/1/ground,0/0/diff\n")

-- each channel is the one after the channel before, and 0 comes after the last: channels consecutive\n{asked}tes
abbrev pub Row_31_2 : Type 0
Row_31_2 =
    Answers commands.Test
    (text_four
    ++ codes "channels consecutive\n"
    ++ text_asked
    ++ codes "test 0 0 now:0 timer:1000 now:0 count:1 count:1 3/0/ground\n")
    (codes "step 0 0 0 now:0 timer:1000 now:0 count:1 count:1 3/0/ground\n")

-- each channel is the one after the channel before, and 0 comes after the last: channels consecutive\n{asked}tes
abbrev pub Row_31_3 : Type 0
Row_31_3 =
    Answers commands.Test
    (text_four
    ++ codes "channels consecutive\n"
    ++ text_asked
    ++ codes "test 0 0 now:0 timer:1000 now:0 count:4 count:1 2/0/ground,3/0/ground,0/0/ground,1/0"
    ++ codes "/ground\n")
    (codes "step 0 0 0 now:0 timer:1000 now:0 count:4 count:1 2/0/ground,3/0/ground,0/0/ground,1"
    ++ codes "/0/ground\n")

-- each channel is the one after the channel before, and 0 comes after the last: channels consecutive\n{asked}tes
abbrev pub Row_31_4 : Type 0
Row_31_4 =
    Answers commands.Test
    (text_four
    ++ codes "channels consecutive\n"
    ++ text_asked
    ++ codes "test 0 0 now:0 timer:1000 now:0 count:3 count:1 2/0/ground,3/0/ground,1/0/ground\n")
    (codes "step 5 0 0 now:0 timer:1000 now:0 count:3 count:1 2/0/ground,3/0/ground,1/0/ground\n")

-- each channel is the one after the channel before, and 0 comes after the last: channels consecutive\n{asked}tes
abbrev pub Row_31_5 : Type 0
Row_31_5 =
    Answers commands.Test
    (text_four
    ++ codes "channels consecutive\n"
    ++ text_asked
    ++ codes "test 0 0 now:0 timer:1000 now:0 count:2 count:1 0/0/ground,0/0/ground\n")
    (codes "step 5 0 0 now:0 timer:1000 now:0 count:2 count:1 0/0/ground,0/0/ground\n")

-- each channel is the one after the channel before, and 0 comes after the last: channels consecutive\n{asked}tes
abbrev pub Row_31_6 : Type 0
Row_31_6 =
    Answers commands.Test
    (text_four
    ++ codes "channels consecutive\n"
    ++ text_asked
    ++ codes "test 0 0 now:0 timer:1000 now:0 count:2 count:1 1/0/ground,0/0/ground\n")
    (codes "step 5 0 0 now:0 timer:1000 now:0 count:2 count:1 1/0/ground,0/0/ground\n")

-- each channel is the one after the channel before, without that turn: channels straight\n{asked}test 0 0 now:0
abbrev pub Row_39_2 : Type 0
Row_39_2 =
    Answers commands.Test
    (text_four
    ++ codes "channels straight\n"
    ++ text_asked
    ++ codes "test 0 0 now:0 timer:1000 now:0 count:1 count:1 3/0/ground\n")
    (codes "step 0 0 0 now:0 timer:1000 now:0 count:1 count:1 3/0/ground\n")

-- each channel is the one after the channel before, without that turn: channels straight\n{asked}test 0 0 now:0
abbrev pub Row_39_3 : Type 0
Row_39_3 =
    Answers commands.Test
    (text_four
    ++ codes "channels straight\n"
    ++ text_asked
    ++ codes "test 0 0 now:0 timer:1000 now:0 count:3 count:1 1/0/ground,2/0/ground,3/0/ground\n")
    (codes "step 0 0 0 now:0 timer:1000 now:0 count:3 count:1 1/0/ground,2/0/ground,3/0/ground\n")

-- each channel is the one after the channel before, without that turn: channels straight\n{asked}test 0 0 now:0
abbrev pub Row_39_4 : Type 0
Row_39_4 =
    Answers commands.Test
    (text_four
    ++ codes "channels straight\n"
    ++ text_asked
    ++ codes "test 0 0 now:0 timer:1000 now:0 count:3 count:1 2/0/ground,3/0/ground,0/0/ground\n")
    (codes "step 5 0 0 now:0 timer:1000 now:0 count:3 count:1 2/0/ground,3/0/ground,0/0/ground\n")

-- each channel is the one after the channel before, without that turn: channels straight\n{asked}test 0 0 now:0
abbrev pub Row_39_5 : Type 0
Row_39_5 =
    Answers commands.Test
    (text_four
    ++ codes "channels straight\n"
    ++ text_asked
    ++ codes "test 0 0 now:0 timer:1000 now:0 count:2 count:1 1/0/ground,3/0/ground\n")
    (codes "step 5 0 0 now:0 timer:1000 now:0 count:2 count:1 1/0/ground,3/0/ground\n")

-- the channels are 0, 1 and so on: channels first\n{asked}test 0 0 now:0 timer:1000 now:0 count
abbrev pub Row_46_2 : Type 0
Row_46_2 =
    Answers commands.Test
    (text_four
    ++ codes "channels first\n"
    ++ text_asked
    ++ codes "test 0 0 now:0 timer:1000 now:0 count:1 count:1 0/0/ground\n")
    (codes "step 0 0 0 now:0 timer:1000 now:0 count:1 count:1 0/0/ground\n")

-- the channels are 0, 1 and so on: channels first\n{asked}test 0 0 now:0 timer:1000 now:0 count
abbrev pub Row_46_3 : Type 0
Row_46_3 =
    Answers commands.Test
    (text_four
    ++ codes "channels first\n"
    ++ text_asked
    ++ codes "test 0 0 now:0 timer:1000 now:0 count:3 count:1 0/0/ground,1/0/ground,2/0/ground\n")
    (codes "step 0 0 0 now:0 timer:1000 now:0 count:3 count:1 0/0/ground,1/0/ground,2/0/ground\n")

-- the channels are 0, 1 and so on: channels first\n{asked}test 0 0 now:0 timer:1000 now:0 count
abbrev pub Row_46_4 : Type 0
Row_46_4 =
    Answers commands.Test
    (text_four
    ++ codes "channels first\n"
    ++ text_asked
    ++ codes "test 0 0 now:0 timer:1000 now:0 count:2 count:1 1/0/ground,2/0/ground\n")
    (codes "step 5 0 0 now:0 timer:1000 now:0 count:2 count:1 1/0/ground,2/0/ground\n")

-- the channels are 0, 1 and so on: channels first\n{asked}test 0 0 now:0 timer:1000 now:0 count
abbrev pub Row_46_5 : Type 0
Row_46_5 =
    Answers commands.Test
    (text_four
    ++ codes "channels first\n"
    ++ text_asked
    ++ codes "test 0 0 now:0 timer:1000 now:0 count:2 count:1 0/0/ground,2/0/ground\n")
    (codes "step 5 0 0 now:0 timer:1000 now:0 count:2 count:1 0/0/ground,2/0/ground\n")

-- the channels are 0, 1 and so on: channels first\n{asked}test 0 0 now:0 timer:1000 now:0 count
abbrev pub Row_46_6 : Type 0
Row_46_6 =
    Answers commands.Test
    (text_four
    ++ codes "channels first\n"
    ++ text_asked
    ++ codes "test 0 0 now:0 timer:1000 now:0 count:3 count:1 0/0/ground,1/0/ground,0/0/ground\n")
    (codes "step 5 0 0 now:0 timer:1000 now:0 count:3 count:1 0/0/ground,1/0/ground,0/0/ground\n")

-- each channel is above the one before: channels rising\n{asked}test 0 0 now:0 timer:1000 now:0 coun
abbrev pub Row_54_2 : Type 0
Row_54_2 =
    Answers commands.Test
    (text_four
    ++ codes "channels rising\n"
    ++ text_asked
    ++ codes "test 0 0 now:0 timer:1000 now:0 count:1 count:1 1/0/ground\n")
    (codes "step 0 0 0 now:0 timer:1000 now:0 count:1 count:1 1/0/ground\n")

-- each channel is above the one before: channels rising\n{asked}test 0 0 now:0 timer:1000 now:0 coun
abbrev pub Row_54_3 : Type 0
Row_54_3 =
    Answers commands.Test
    (text_four
    ++ codes "channels rising\n"
    ++ text_asked
    ++ codes "test 0 0 now:0 timer:1000 now:0 count:3 count:1 0/0/ground,2/0/ground,3/0/ground\n")
    (codes "step 0 0 0 now:0 timer:1000 now:0 count:3 count:1 0/0/ground,2/0/ground,3/0/ground\n")

-- each channel is above the one before: channels rising\n{asked}test 0 0 now:0 timer:1000 now:0 coun
abbrev pub Row_54_4 : Type 0
Row_54_4 =
    Answers commands.Test
    (text_four
    ++ codes "channels rising\n"
    ++ text_asked
    ++ codes "test 0 0 now:0 timer:1000 now:0 count:2 count:1 0/0/ground,0/0/ground\n")
    (codes "step 5 0 0 now:0 timer:1000 now:0 count:2 count:1 0/0/ground,0/0/ground\n")

-- each channel is above the one before: channels rising\n{asked}test 0 0 now:0 timer:1000 now:0 coun
abbrev pub Row_54_5 : Type 0
Row_54_5 =
    Answers commands.Test
    (text_four
    ++ codes "channels rising\n"
    ++ text_asked
    ++ codes "test 0 0 now:0 timer:1000 now:0 count:3 count:1 0/0/ground,2/0/ground,1/0/ground\n")
    (codes "step 5 0 0 now:0 timer:1000 now:0 count:3 count:1 0/0/ground,2/0/ground,1/0/ground\n")

-- no channel stands twice, whatever its ranges: channels distinct\n{asked}test 0 0 now:0 timer:1000 now:0 co
abbrev pub Row_61_2 : Type 0
Row_61_2 =
    Answers commands.Test
    (text_four
    ++ codes "channels distinct\n"
    ++ text_asked
    ++ codes "test 0 0 now:0 timer:1000 now:0 count:1 count:1 3/0/ground\n")
    (codes "step 0 0 0 now:0 timer:1000 now:0 count:1 count:1 3/0/ground\n")

-- no channel stands twice, whatever its ranges: channels distinct\n{asked}test 0 0 now:0 timer:1000 now:0 co
abbrev pub Row_61_3 : Type 0
Row_61_3 =
    Answers commands.Test
    (text_four
    ++ codes "channels distinct\n"
    ++ text_asked
    ++ codes "test 0 0 now:0 timer:1000 now:0 count:3 count:1 2/0/ground,0/0/ground,1/0/ground\n")
    (codes "step 0 0 0 now:0 timer:1000 now:0 count:3 count:1 2/0/ground,0/0/ground,1/0/ground\n")

-- no channel stands twice, whatever its ranges: channels distinct\n{asked}test 0 0 now:0 timer:1000 now:0 co
abbrev pub Row_61_4 : Type 0
Row_61_4 =
    Answers commands.Test
    (text_four
    ++ codes "channels distinct\n"
    ++ text_asked
    ++ codes "test 0 0 now:0 timer:1000 now:0 count:3 count:1 2/0/ground,0/0/ground,2/0/ground\n")
    (codes "step 5 0 0 now:0 timer:1000 now:0 count:3 count:1 2/0/ground,0/0/ground,2/0/ground\n")

-- no channel stands twice, whatever its ranges: channels distinct\n{asked}test 0 0 now:0 timer:1000 now:0 co
abbrev pub Row_61_5 : Type 0
Row_61_5 =
    Answers commands.Test
    (text_four
    ++ codes "channels distinct\n"
    ++ text_asked
    ++ codes "test 0 0 now:0 timer:1000 now:0 count:2 count:1 0/0/ground,0/1/ground\n")
    (codes "step 5 0 0 now:0 timer:1000 now:0 count:2 count:1 0/0/ground,0/1/ground\n")

-- some first entries are in the order and repeated, the last time maybe in part; ranges and references are repea
abbrev pub Row_68_2 : Type 0
Row_68_2 =
    Answers commands.Test
    (text_four
    ++ codes "channels consecutive repeat\n"
    ++ text_asked
    ++ codes "test 0 0 now:0 timer:1000 now:0 count:4 count:1 2/0/ground,3/0/ground,0/0/ground,1/0"
    ++ codes "/ground\n")
    (codes "step 0 0 0 now:0 timer:1000 now:0 count:4 count:1 2/0/ground,3/0/ground,0/0/ground,1"
    ++ codes "/0/ground\n")

-- some first entries are in the order and repeated, the last time maybe in part; ranges and references are repea
abbrev pub Row_68_3 : Type 0
Row_68_3 =
    Answers commands.Test
    (text_four
    ++ codes "channels consecutive repeat\n"
    ++ text_asked
    ++ codes "test 0 0 now:0 timer:1000 now:0 count:5 count:1 2/0/ground,3/0/ground,2/0/ground,3/0"
    ++ codes "/ground,2/0/ground\n")
    (codes "step 0 0 0 now:0 timer:1000 now:0 count:5 count:1 2/0/ground,3/0/ground,2/0/ground,3"
    ++ codes "/0/ground,2/0/ground\n")

-- some first entries are in the order and repeated, the last time maybe in part; ranges and references are repea
abbrev pub Row_68_4 : Type 0
Row_68_4 =
    Answers commands.Test
    (text_four
    ++ codes "channels consecutive repeat\n"
    ++ text_asked
    ++ codes "test 0 0 now:0 timer:1000 now:0 count:6 count:1 3/0/ground,0/0/ground,1/0/ground,3/0"
    ++ codes "/ground,0/0/ground,1/0/ground\n")
    (codes "step 0 0 0 now:0 timer:1000 now:0 count:6 count:1 3/0/ground,0/0/ground,1/0/ground,3"
    ++ codes "/0/ground,0/0/ground,1/0/ground\n")

-- some first entries are in the order and repeated, the last time maybe in part; ranges and references are repea
abbrev pub Row_68_5 : Type 0
Row_68_5 =
    Answers commands.Test
    (text_four
    ++ codes "channels consecutive repeat\n"
    ++ text_asked
    ++ codes "test 0 0 now:0 timer:1000 now:0 count:3 count:1 2/0/ground,2/0/ground,2/0/ground\n")
    (codes "step 0 0 0 now:0 timer:1000 now:0 count:3 count:1 2/0/ground,2/0/ground,2/0/ground\n")

-- some first entries are in the order and repeated, the last time maybe in part; ranges and references are repea
abbrev pub Row_68_6 : Type 0
Row_68_6 =
    Answers commands.Test
    (text_four
    ++ codes "channels consecutive repeat\n"
    ++ text_asked
    ++ codes "test 0 0 now:0 timer:1000 now:0 count:6 count:1 2/0/ground,3/0/ground,1/0/ground,2/0"
    ++ codes "/ground,3/0/ground,1/0/ground\n")
    (codes "step 5 0 0 now:0 timer:1000 now:0 count:6 count:1 2/0/ground,3/0/ground,1/0/ground,2"
    ++ codes "/0/ground,3/0/ground,1/0/ground\n")

-- some first entries are in the order and repeated, the last time maybe in part; ranges and references are repea
abbrev pub Row_68_7 : Type 0
Row_68_7 =
    Answers commands.Test
    (text_four
    ++ codes "channels consecutive repeat\n"
    ++ text_asked
    ++ codes "test 0 0 now:0 timer:1000 now:0 count:4 count:1 2/0/ground,3/0/ground,2/0/ground,1/0"
    ++ codes "/ground\n")
    (codes "step 5 0 0 now:0 timer:1000 now:0 count:4 count:1 2/0/ground,3/0/ground,2/0/ground,1"
    ++ codes "/0/ground\n")

-- some first entries are in the order and repeated, the last time maybe in part; ranges and references are repea
abbrev pub Row_68_8 : Type 0
Row_68_8 =
    Answers commands.Test
    (text_four
    ++ codes "channels consecutive repeat\n"
    ++ text_asked
    ++ codes "test 0 0 now:0 timer:1000 now:0 count:3 count:1 2/0/ground,3/0/ground,2/1/ground\n")
    (codes "step 5 0 0 now:0 timer:1000 now:0 count:3 count:1 2/0/ground,3/0/ground,2/1/ground\n")

-- some first entries are in the order and repeated, the last time maybe in part; ranges and references are repea
abbrev pub Row_68_9 : Type 0
Row_68_9 =
    Answers commands.Test
    (text_four
    ++ codes "channels consecutive repeat\n"
    ++ text_asked
    ++ codes "test 0 0 now:0 timer:1000 now:0 count:3 count:1 2/0/ground,3/0/ground,2/0/diff\n")
    (codes "step 5 0 0 now:0 timer:1000 now:0 count:3 count:1 2/0/ground,3/0/ground,2/0/diff\n")

-- some first entries are in the order and repeated, the last time maybe in part; ranges and references are repea
abbrev pub Row_68_10 : Type 0
Row_68_10 =
    Answers commands.Test
    (text_four
    ++ codes "channels straight repeat\n"
    ++ text_asked
    ++ codes "test 0 0 now:0 timer:1000 now:0 count:4 count:1 1/0/ground,2/0/ground,1/0/ground,2/0"
    ++ codes "/ground\n")
    (codes "step 0 0 0 now:0 timer:1000 now:0 count:4 count:1 1/0/ground,2/0/ground,1/0/ground,2"
    ++ codes "/0/ground\n")

-- some first entries are in the order and repeated, the last time maybe in part; ranges and references are repea
abbrev pub Row_68_11 : Type 0
Row_68_11 =
    Answers commands.Test
    (text_four
    ++ codes "channels straight repeat\n"
    ++ text_asked
    ++ codes "test 0 0 now:0 timer:1000 now:0 count:6 count:1 2/0/ground,3/0/ground,0/0/ground,2/0"
    ++ codes "/ground,3/0/ground,0/0/ground\n")
    (codes "step 5 0 0 now:0 timer:1000 now:0 count:6 count:1 2/0/ground,3/0/ground,0/0/ground,2"
    ++ codes "/0/ground,3/0/ground,0/0/ground\n")

-- some first entries are in the order and repeated, the last time maybe in part; ranges and references are repea
abbrev pub Row_68_12 : Type 0
Row_68_12 =
    Answers commands.Test
    (text_four
    ++ codes "channels first repeat\n"
    ++ text_asked
    ++ codes "test 0 0 now:0 timer:1000 now:0 count:5 count:1 0/0/ground,1/0/ground,0/0/ground,1/0"
    ++ codes "/ground,0/0/ground\n")
    (codes "step 0 0 0 now:0 timer:1000 now:0 count:5 count:1 0/0/ground,1/0/ground,0/0/ground,1"
    ++ codes "/0/ground,0/0/ground\n")

-- some first entries are in the order and repeated, the last time maybe in part; ranges and references are repea
abbrev pub Row_68_13 : Type 0
Row_68_13 =
    Answers commands.Test
    (text_four
    ++ codes "channels first repeat\n"
    ++ text_asked
    ++ codes "test 0 0 now:0 timer:1000 now:0 count:4 count:1 1/0/ground,2/0/ground,1/0/ground,2/0"
    ++ codes "/ground\n")
    (codes "step 5 0 0 now:0 timer:1000 now:0 count:4 count:1 1/0/ground,2/0/ground,1/0/ground,2"
    ++ codes "/0/ground\n")

-- some first entries are in the order and repeated, the last time maybe in part; ranges and references are repea
abbrev pub Row_68_14 : Type 0
Row_68_14 =
    Answers commands.Test
    (text_four
    ++ codes "channels rising repeat\n"
    ++ text_asked
    ++ codes "test 0 0 now:0 timer:1000 now:0 count:5 count:1 0/0/ground,2/0/ground,0/0/ground,2/0"
    ++ codes "/ground,0/0/ground\n")
    (codes "step 0 0 0 now:0 timer:1000 now:0 count:5 count:1 0/0/ground,2/0/ground,0/0/ground,2"
    ++ codes "/0/ground,0/0/ground\n")

-- some first entries are in the order and repeated, the last time maybe in part; ranges and references are repea
abbrev pub Row_68_15 : Type 0
Row_68_15 =
    Answers commands.Test
    (text_four
    ++ codes "channels rising repeat\n"
    ++ text_asked
    ++ codes "test 0 0 now:0 timer:1000 now:0 count:4 count:1 2/0/ground,1/0/ground,2/0/ground,1/0"
    ++ codes "/ground\n")
    (codes "step 5 0 0 now:0 timer:1000 now:0 count:4 count:1 2/0/ground,1/0/ground,2/0/ground,1"
    ++ codes "/0/ground\n")

-- some first entries are in the order and repeated, the last time maybe in part; ranges and references are repea
abbrev pub Row_68_16 : Type 0
Row_68_16 =
    Answers commands.Test
    (text_four
    ++ codes "channels distinct repeat\n"
    ++ text_asked
    ++ codes "test 0 0 now:0 timer:1000 now:0 count:5 count:1 2/0/ground,0/0/ground,2/0/ground,0/0"
    ++ codes "/ground,2/0/ground\n")
    (codes "step 0 0 0 now:0 timer:1000 now:0 count:5 count:1 2/0/ground,0/0/ground,2/0/ground,0"
    ++ codes "/0/ground,2/0/ground\n")

-- some first entries are in the order and repeated, the last time maybe in part; ranges and references are repea
abbrev pub Row_68_17 : Type 0
Row_68_17 =
    Answers commands.Test
    (text_four
    ++ codes "channels distinct repeat\n"
    ++ text_asked
    ++ codes "test 0 0 now:0 timer:1000 now:0 count:6 count:1 2/0/ground,2/0/ground,0/0/ground,2/0"
    ++ codes "/ground,2/0/ground,0/0/ground\n")
    (codes "step 5 0 0 now:0 timer:1000 now:0 count:6 count:1 2/0/ground,2/0/ground,0/0/ground,2"
    ++ codes "/0/ground,2/0/ground,0/0/ground\n")

-- all entries have ranges of one number: samerange\n{asked}test 0 0 now:0 timer:1000 now:0 count:2 co
abbrev pub Row_87_2 : Type 0
Row_87_2 =
    Answers commands.Test
    (text_four
    ++ codes "samerange\n"
    ++ text_asked
    ++ codes "test 0 0 now:0 timer:1000 now:0 count:2 count:1 0/1/ground,1/1/ground\n")
    (codes "step 0 0 0 now:0 timer:1000 now:0 count:2 count:1 0/1/ground,1/1/ground\n")

-- all entries have ranges of one number: samerange\n{asked}test 0 0 now:0 timer:1000 now:0 count:2 co
abbrev pub Row_87_3 : Type 0
Row_87_3 =
    Answers commands.Test
    (text_four
    ++ codes "samerange\n"
    ++ text_asked
    ++ codes "test 0 0 now:0 timer:1000 now:0 count:2 count:1 0/1/ground,1/2/ground\n")
    (codes "step 5 0 0 now:0 timer:1000 now:0 count:2 count:1 0/1/ground,1/2/ground\n")

-- all entries have one reference, whatever their ranges: samearef\n{asked}test 0 0 now:0 timer:1000 now:0 count:
abbrev pub Row_92_2 : Type 0
Row_92_2 =
    Answers commands.Test
    (text_four
    ++ codes "samearef\n"
    ++ text_asked
    ++ codes "test 0 0 now:0 timer:1000 now:0 count:2 count:1 0/0/diff,1/2/diff\n")
    (codes "step 0 0 0 now:0 timer:1000 now:0 count:2 count:1 0/0/diff,1/2/diff\n")

-- all entries have one reference, whatever their ranges: samearef\n{asked}test 0 0 now:0 timer:1000 now:0 count:
abbrev pub Row_92_3 : Type 0
Row_92_3 =
    Answers commands.Test
    (text_four
    ++ codes "samearef\n"
    ++ text_asked
    ++ codes "test 0 0 now:0 timer:1000 now:0 count:2 count:1 0/0/ground,1/0/common\n")
    (codes "step 5 0 0 now:0 timer:1000 now:0 count:2 count:1 0/0/ground,1/0/common\n")

-- all ranges begin below 0 or none does, and a channel with ranges of its own counts by these: samepolarity\n{as
abbrev pub Row_97_2 : Type 0
Row_97_2 =
    Answers commands.Test
    (text_four
    ++ codes "samepolarity\n"
    ++ text_asked
    ++ codes "test 0 0 now:0 timer:1000 now:0 count:2 count:1 0/0/ground,1/1/ground\n")
    (codes "step 0 0 0 now:0 timer:1000 now:0 count:2 count:1 0/0/ground,1/1/ground\n")

-- all ranges begin below 0 or none does, and a channel with ranges of its own counts by these: samepolarity\n{as
abbrev pub Row_97_3 : Type 0
Row_97_3 =
    Answers commands.Test
    (text_four
    ++ codes "samepolarity\n"
    ++ text_asked
    ++ codes "test 0 0 now:0 timer:1000 now:0 count:2 count:1 0/2/ground,1/3/ground\n")
    (codes "step 0 0 0 now:0 timer:1000 now:0 count:2 count:1 0/2/ground,1/3/ground\n")

-- all ranges begin below 0 or none does, and a channel with ranges of its own counts by these: samepolarity\n{as
abbrev pub Row_97_4 : Type 0
Row_97_4 =
    Answers commands.Test
    (text_four
    ++ codes "samepolarity\n"
    ++ text_asked
    ++ codes "test 0 0 now:0 timer:1000 now:0 count:2 count:1 0/2/ground,3/0/ground\n")
    (codes "step 0 0 0 now:0 timer:1000 now:0 count:2 count:1 0/2/ground,3/0/ground\n")

-- all ranges begin below 0 or none does, and a channel with ranges of its own counts by these: samepolarity\n{as
abbrev pub Row_97_5 : Type 0
Row_97_5 =
    Answers commands.Test
    (text_four
    ++ codes "samepolarity\n"
    ++ text_asked
    ++ codes "test 0 0 now:0 timer:1000 now:0 count:2 count:1 0/0/ground,1/2/ground\n")
    (codes "step 5 0 0 now:0 timer:1000 now:0 count:2 count:1 0/0/ground,1/2/ground\n")

-- all ranges begin below 0 or none does, and a channel with ranges of its own counts by these: samepolarity\n{as
abbrev pub Row_97_6 : Type 0
Row_97_6 =
    Answers commands.Test
    (text_four
    ++ codes "samepolarity\n"
    ++ text_asked
    ++ codes "test 0 0 now:0 timer:1000 now:0 count:2 count:1 0/0/ground,3/0/ground\n")
    (codes "step 5 0 0 now:0 timer:1000 now:0 count:2 count:1 0/0/ground,3/0/ground\n")

-- all of them
pub record AreLists : Type 0 where
  pub row_27_2 : Row_27_2
  pub row_31_2 : Row_31_2
  pub row_31_3 : Row_31_3
  pub row_31_4 : Row_31_4
  pub row_31_5 : Row_31_5
  pub row_31_6 : Row_31_6
  pub row_39_2 : Row_39_2
  pub row_39_3 : Row_39_3
  pub row_39_4 : Row_39_4
  pub row_39_5 : Row_39_5
  pub row_46_2 : Row_46_2
  pub row_46_3 : Row_46_3
  pub row_46_4 : Row_46_4
  pub row_46_5 : Row_46_5
  pub row_46_6 : Row_46_6
  pub row_54_2 : Row_54_2
  pub row_54_3 : Row_54_3
  pub row_54_4 : Row_54_4
  pub row_54_5 : Row_54_5
  pub row_61_2 : Row_61_2
  pub row_61_3 : Row_61_3
  pub row_61_4 : Row_61_4
  pub row_61_5 : Row_61_5
  pub row_68_2 : Row_68_2
  pub row_68_3 : Row_68_3
  pub row_68_4 : Row_68_4
  pub row_68_5 : Row_68_5
  pub row_68_6 : Row_68_6
  pub row_68_7 : Row_68_7
  pub row_68_8 : Row_68_8
  pub row_68_9 : Row_68_9
  pub row_68_10 : Row_68_10
  pub row_68_11 : Row_68_11
  pub row_68_12 : Row_68_12
  pub row_68_13 : Row_68_13
  pub row_68_14 : Row_68_14
  pub row_68_15 : Row_68_15
  pub row_68_16 : Row_68_16
  pub row_68_17 : Row_68_17
  pub row_87_2 : Row_87_2
  pub row_87_3 : Row_87_3
  pub row_92_2 : Row_92_2
  pub row_92_3 : Row_92_3
  pub row_97_2 : Row_97_2
  pub row_97_3 : Row_97_3
  pub row_97_4 : Row_97_4
  pub row_97_5 : Row_97_5
  pub row_97_6 : Row_97_6
