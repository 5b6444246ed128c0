-- Made by tools/make_examples: the examples of `tests/threads.rows`
use Rattle.std.specs.Prelude.{codes, ℕ, List, ◌++◌, []}
use Rattle.cm_cli.specs.declared.command.Command.TheVariants as commands
use Rattle.cm_examples.specs.Answering.{Answers, Refuses}

-- the text `demo`
abbrev pub text_demo : List ℕ
text_demo =
    codes "comedi 1\n"
    ++ codes "board demo\n"
    ++ codes "subdevice ai 4\n"
    ++ codes "bits 16\n"
    ++ codes "munge offset\n"
    ++ codes "range -10000000 10000000 0\n"
    ++ codes "range -5000001 5000000 0\n"
    ++ codes "sources now|ext|int follow|timer|ext now|timer|ext count none|count\n"
    ++ codes "tick 100\n"
    ++ codes "scan 1000 160000\n"
    ++ codes "convert 200 1000000\n"
    ++ codes "list 16\n"
    ++ codes "scans 1000000\n"
    ++ codes "lines 2\n"
    ++ codes "buffer 4\n"
    ++ codes "subdevice ao 2\n"
    ++ codes "bits 12\n"
    ++ codes "munge offset\n"
    ++ codes "range -10000000 10000000 0\n"
    ++ codes "sources now|int timer now count none|count\n"
    ++ codes "tick 100\n"
    ++ codes "scan 1000 1000000\n"
    ++ codes "convert 1000 1000\n"
    ++ codes "list 2\n"
    ++ codes "scans 1000000\n"
    ++ codes "lines 0\n"
    ++ codes "buffer 8\n"
    ++ codes "subdevice dio 8\n"
    ++ codes "bits 1\n"
    ++ codes "munge none\n"
    ++ codes "range 0 1 2\n"
    ++ codes "subdevice unused 0\n"

-- the text `table`
abbrev pub text_table : List ℕ
text_table =
    codes "signals 10000\n"
    ++ codes "wave 0 0 table 1000 0 1000000 2000000 3000000 4000000 5000000\n"
    ++ codes "session\n"

-- the text `plain`
abbrev pub text_plain : List ℕ
text_plain =
    codes "signals 10000\n"
    ++ codes "session\n"

-- the text `square`
abbrev pub text_square : List ℕ
text_square =
    codes "signals 10000\n"
    ++ codes "wave 0 0 square -10000000 10000000 2000\n"
    ++ codes "session\n"

-- the text `two`
abbrev pub text_two : List ℕ
text_two =
    codes "comedi 2\n"
    ++ codes "board two\n"
    ++ codes "subdevice ai 2\n"
    ++ codes "bits 16\n"
    ++ codes "range -10000000 10000000 0\n"
    ++ codes "sources now timer now count count\n"
    ++ codes "tick 1\n"
    ++ codes "scan 1 1000000\n"
    ++ codes "convert 1 1\n"
    ++ codes "list 4\n"
    ++ codes "scans 10\n"
    ++ codes "lines 0\n"
    ++ codes "buffer 4\n"
    ++ codes "chan 1 bits 8\n"
    ++ codes "chan 1 range 0 10000000 0\n"
    ++ codes "subdevice ao 2\n"
    ++ codes "bits 12\n"
    ++ codes "range -10000000 10000000 0\n"
    ++ codes "sources now timer now count count\n"
    ++ codes "tick 1\n"
    ++ codes "scan 1 1000000\n"
    ++ codes "convert 1 1\n"
    ++ codes "list 4\n"
    ++ codes "scans 10\n"
    ++ codes "lines 0\n"
    ++ codes "buffer 4\n"
    ++ codes "chan 1 bits 10\n"
    ++ codes "chan 1 range 0 10000000 0\n"
    ++ codes "signals 100000\n"
    ++ codes "wave 0 0 square -10000000 10000000 2000\n"
    ++ codes "wave 0 1 saw 0 10000000 8000\n"
    ++ codes "session\n"

-- two lines of one subdevice
abbrev pub Row_56 : Type 0
Row_56 =
    Answers commands.Run
    (text_demo
    ++ text_table
    ++ codes "go paced copy 0 all 0 0 now:0 timer:1000 now:0 count:1 count:3 0/0/ground\n"
    ++ codes "go paced map 2000 all 0 0 now:0 timer:1000 now:0 count:1 count:2 0/0/ground\n")
    (codes "0 -153\n"
    ++ codes "0 999923\n"
    ++ codes "0 2000000\n"
    ++ codes "done\n"
    ++ codes "0 2000000\n"
    ++ codes "0 2999771\n"
    ++ codes "done\n")

-- a free line whose buffer has room for all
abbrev pub Row_68 : Type 0
Row_68 =
    Answers commands.Run
    (text_demo
    ++ text_table
    ++ codes "go free map 0 all 0 0 now:0 timer:1000 now:0 count:1 count:4 0/0/ground\n")
    (codes "0 -153\n"
    ++ codes "0 999923\n"
    ++ codes "0 2000000\n"
    ++ codes "0 2999771\n"
    ++ codes "done\n")

-- a line that takes two samples
abbrev pub Row_77 : Type 0
Row_77 =
    Answers commands.Run
    (text_demo
    ++ text_table
    ++ codes "go paced map 0 2 0 0 now:0 timer:1000 now:0 count:1 count:5 0/0/ground\n")
    (codes "0 -153\n" ++ codes "0 999923\n" ++ codes "taken 2\n")

-- an output that runs out of words
abbrev pub Row_84 : Type 0
Row_84 =
    Answers commands.Run
    (text_demo
    ++ text_plain
    ++ codes "drive 0 0,2048,4095 1 0 now:0 timer:1000 now:0 count:1 count:4 0/0/ground\n")
    (codes "out 1 0 0 2048\n"
    ++ codes "out 1 1000 0 0\n"
    ++ codes "out 1 2000 0 2047\n"
    ++ codes "underrun 3\n")

-- a line of an output in place of an input
abbrev pub Row_92 : Type 0
Row_92 =
    Refuses commands.Run
    (text_demo
    ++ text_plain
    ++ codes "go paced copy 0 all 1 0 now:0 timer:1000 now:0 count:1 count:1 0/0/ground\n")
    (codes "refused 35 Bad\n")

-- no line
abbrev pub Row_97 : Type 0
Row_97 = Answers commands.Run (text_demo ++ text_plain) []

-- two lines of one subdevice
abbrev pub Row_100 : Type 0
Row_100 =
    Answers commands.Watch
    (text_demo
    ++ text_table
    ++ codes "go paced copy 0 all 0 0 now:0 timer:1000 now:0 count:1 count:3 0/0/ground\n"
    ++ codes "go paced map 2000 all 0 0 now:0 timer:1000 now:0 count:1 count:2 0/0/ground\n")
    (codes "0 -153\n"
    ++ codes "0 999923\n"
    ++ codes "0 2000000\n"
    ++ codes "done\n"
    ++ codes "0 2000000\n"
    ++ codes "0 2999771\n"
    ++ codes "done\n")

-- scans of two channels
abbrev pub Row_112 : Type 0
Row_112 =
    Answers commands.Watch
    (text_demo
    ++ text_table
    ++ codes "go paced copy 0 all 0 0 now:0 timer:1000 now:0 count:2 count:2 0/0/ground,1/0/ground\n")
    (codes "0 -153\n"
    ++ codes "1 -153\n"
    ++ codes "0 999923\n"
    ++ codes "1 -153\n"
    ++ codes "done\n")

-- no line
abbrev pub Row_121 : Type 0
Row_121 = Answers commands.Watch (text_demo ++ text_table) []

-- a free line
abbrev pub Row_124 : Type 0
Row_124 =
    Refuses commands.Watch
    (text_demo
    ++ text_table
    ++ codes "go free copy 0 all 0 0 now:0 timer:1000 now:0 count:2 count:2 0/0/ground,1/0/ground\n")
    (codes "refused 36 Bad\n")

-- a line that takes two samples
abbrev pub Row_129 : Type 0
Row_129 =
    Refuses commands.Watch
    (text_demo
    ++ text_table
    ++ codes "go paced map 0 2 0 0 now:0 timer:1000 now:0 count:1 count:5 0/0/ground\n")
    (codes "refused 36 Bad\n")

-- an output
abbrev pub Row_134 : Type 0
Row_134 =
    Refuses commands.Watch
    (text_demo
    ++ text_table
    ++ codes "go paced copy 0 all 0 0 now:0 timer:1000 now:0 count:1 count:3 0/0/ground\n"
    ++ codes "# The output isn't watched.\n"
    ++ codes "drive 0 0 1 0 now:0 timer:1000 now:0 count:1 count:1 0/0/ground\n")
    (codes "refused 38 Bad\n")

-- a scan that four cells don't hold
abbrev pub Row_141 : Type 0
Row_141 =
    Refuses commands.Watch
    (text_demo
    ++ text_table
    ++ codes "go paced copy 0 all 0 0 now:0 timer:1000 now:0 count:5 count:1 0/0/ground,0/0/ground"
    ++ codes ",0/0/ground,0/0/ground,0/0/ground\n")
    (codes "refused 36 Bad\n")

-- each sample for itself
abbrev pub Row_146 : Type 0
Row_146 =
    Answers commands.Loop
    (text_demo
    ++ text_square
    ++ codes "loop 0 500 1 0 0 now:0 timer:1000 now:0 count:1 count:3 0/0/ground 1 0 now:0 timer:1"
    ++ codes "000 now:0 count:1 count:3 0/0/ground\n")
    (codes "out 1 500 0 2048\n"
    ++ codes "out 1 1500 0 2047\n"
    ++ codes "out 1 2500 0 2048\n"
    ++ codes "done\n")

-- means of two
abbrev pub Row_154 : Type 0
Row_154 =
    Answers commands.Loop
    (text_demo
    ++ text_square
    ++ codes "loop 0 500 2 0 0 now:0 timer:1000 now:0 count:1 count:3 0/0/ground 1 0 now:0 timer:1"
    ++ codes "000 now:0 count:1 count:3 0/0/ground\n")
    (codes "out 1 500 0 2048\n"
    ++ codes "out 1 1500 0 4095\n"
    ++ codes "out 1 2500 0 4095\n"
    ++ codes "done\n")

-- more outputs than samples
abbrev pub Row_162 : Type 0
Row_162 =
    Answers commands.Loop
    (text_demo
    ++ text_square
    ++ codes "loop 0 500 1 0 0 now:0 timer:1000 now:0 count:1 count:3 0/0/ground 1 0 now:0 timer:1"
    ++ codes "000 now:0 count:1 count:4 0/0/ground\n")
    (codes "out 1 500 0 2048\n"
    ++ codes "out 1 1500 0 2047\n"
    ++ codes "out 1 2500 0 2048\n"
    ++ codes "underrun 3\n")

-- each entry has its own mean, in the codes of its output
abbrev pub Row_206 : Type 0
Row_206 =
    Answers commands.Loop
    (text_two
    ++ codes "loop 0 500 2 0 0 now:0 timer:1000 now:0 count:2 count:4 0/0/ground,1/0/ground 1 0 no"
    ++ codes "w:0 timer:1000 now:0 count:2 count:4 0/0/ground,1/0/ground\n")
    (codes "out 1 500 0 0\n"
    ++ codes "out 1 500 1 0\n"
    ++ codes "out 1 1500 0 2047\n"
    ++ codes "out 1 1500 1 60\n"
    ++ codes "out 1 2500 0 2047\n"
    ++ codes "out 1 2500 1 188\n"
    ++ codes "out 1 3500 0 2047\n"
    ++ codes "out 1 3500 1 316\n"
    ++ codes "done\n")

-- fewer outputs than samples
abbrev pub Row_219 : Type 0
Row_219 =
    Answers commands.Loop
    (text_demo
    ++ text_square
    ++ codes "loop 0 500 1 0 0 now:0 timer:1000 now:0 count:1 count:3 0/0/ground 1 0 now:0 timer:1"
    ++ codes "000 now:0 count:1 count:2 0/0/ground\n")
    (codes "out 1 500 0 2048\n" ++ codes "out 1 1500 0 2047\n" ++ codes "done\n")

-- the first output comes with the first sample
abbrev pub Row_226 : Type 0
Row_226 =
    Refuses commands.Loop
    (text_demo
    ++ text_square
    ++ codes "loop 0 0 1 0 0 now:0 timer:1000 now:0 count:1 count:3 0/0/ground 1 0 now:0 timer:100"
    ++ codes "0 now:0 count:1 count:3 0/0/ground\n")
    (codes "refused 36 Bad\n")

-- no line
abbrev pub Row_231 : Type 0
Row_231 = Refuses commands.Loop (text_demo ++ text_square) (codes "refused 36 Missing\n")

-- a line of a run
abbrev pub Row_235 : Type 0
Row_235 =
    Refuses commands.Loop
    (text_demo
    ++ text_square
    ++ codes "go paced copy 0 all 0 0 now:0 timer:1000 now:0 count:1 count:3 0/0/ground\n")
    (codes "refused 36 Missing\n")

-- a second line
abbrev pub Row_240 : Type 0
Row_240 =
    Refuses commands.Loop
    (text_demo
    ++ text_square
    ++ codes "loop 0 500 1 0 0 now:0 timer:1000 now:0 count:1 count:3 0/0/ground 1 0 now:0 timer:1"
    ++ codes "000 now:0 count:1 count:3 0/0/ground\n"
    ++ codes "# One loop is a job.\n"
    ++ codes "loop 0 500 1 0 0 now:0 timer:1000 now:0 count:1 count:3 0/0/ground 1 0 now:0 timer:1"
    ++ codes "000 now:0 count:1 count:3 0/0/ground\n")
    (codes "refused 38 Limit\n")

-- eight samples
abbrev pub Row_247 : Type 0
Row_247 =
    Answers (commands.Soak 8)
    []
    (codes "soak 0 2 15 done\n"
    ++ codes "soak 1 2 15 done\n"
    ++ codes "soak 2 2 15 done\n"
    ++ codes "soak 3 2 15 done\n"
    ++ codes "total 8\n")

-- three samples, none of the last subdevice
abbrev pub Row_254 : Type 0
Row_254 =
    Answers (commands.Soak 3)
    []
    (codes "soak 0 1 0 done\n"
    ++ codes "soak 1 1 0 done\n"
    ++ codes "soak 2 1 0 done\n"
    ++ codes "soak 3 0 0 done\n"
    ++ codes "total 3\n")

-- all of them
pub record AreThreads : Type 0 where
  pub row_56 : Row_56
  pub row_68 : Row_68
  pub row_77 : Row_77
  pub row_84 : Row_84
  pub row_92 : Row_92
  pub row_97 : Row_97
  pub row_100 : Row_100
  pub row_112 : Row_112
  pub row_121 : Row_121
  pub row_124 : Row_124
  pub row_129 : Row_129
  pub row_134 : Row_134
  pub row_141 : Row_141
  pub row_146 : Row_146
  pub row_154 : Row_154
  pub row_162 : Row_162
  pub row_206 : Row_206
  pub row_219 : Row_219
  pub row_226 : Row_226
  pub row_231 : Row_231
  pub row_235 : Row_235
  pub row_240 : Row_240
  pub row_247 : Row_247
  pub row_254 : Row_254
