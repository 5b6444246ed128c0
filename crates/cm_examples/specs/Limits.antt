-- Made by tools/make_examples: the examples of `tests/limits.rows`
use Rattle.std.specs.Prelude.{codes, ℕ, List, ◌++◌}
use Rattle.cm_cli.specs.declared.command.Command.TheVariants as commands
use Rattle.cm_examples.specs.Answering.{Accepts, Answers, Refuses}

-- the text `three`
abbrev pub text_three : List ℕ
text_three =
    codes "comedi 1\n"
    ++ codes "board x\n"
    ++ codes "subdevice ai 4\n"
    ++ codes "bits 8\n"

-- the text `one`
abbrev pub text_one : List ℕ
text_one =
    codes "comedi 2\n"
    ++ codes "board x\n"
    ++ codes "subdevice ai 4\n"
    ++ codes "bits 16\n"
    ++ codes "range 0 65535 0\n"
    ++ codes "sources now|ext|int timer|ext now count none|count\n"
    ++ codes "tick 1\n"
    ++ codes "scan 1 1000000\n"
    ++ codes "convert 1 1\n"
    ++ codes "list 256\n"
    ++ codes "scans 4000000\n"
    ++ codes "lines 16\n"
    ++ codes "buffer 65536\n"

-- the text `out`
abbrev pub text_out : List ℕ
text_out =
    codes "subdevice ao 1\n"
    ++ codes "bits 12\n"
    ++ codes "range 0 4095 0\n"
    ++ codes "sources now timer now count count\n"
    ++ codes "tick 1\n"
    ++ codes "scan 1 1000000\n"
    ++ codes "convert 1 1\n"
    ++ codes "list 1\n"
    ++ codes "scans 4000000\n"
    ++ codes "buffer 8\n"

-- the text `end`
abbrev pub text_end : List ℕ
text_end =
    codes "signals 0\n"
    ++ codes "session\n"

-- the text `ranged`
abbrev pub text_ranged : List ℕ
text_ranged =
    codes "comedi 1\n"
    ++ codes "board x\n"
    ++ codes "subdevice ai 4\n"
    ++ codes "bits 8\n"
    ++ codes "range 0 1 0\n"
    ++ codes "sources now timer now count none|count\n"

-- the text `session`
abbrev pub text_session : List ℕ
text_session =
    codes "signals 999999\n"
    ++ codes "session\n"

-- the text `numbers`
abbrev pub text_numbers : List ℕ
text_numbers =
    codes "signals 1000000000000\n"
    ++ codes "session\n"
    ++ codes "0 open 1\n"

-- the text `wider`
abbrev pub text_wider : List ℕ
text_wider =
    codes "zendrouz 1\n"
    ++ codes "board x\n"

-- the text `wider-input`
abbrev pub text_wider-input : List ℕ
text_wider-input =
    codes "zendrouz 1\n"
    ++ codes "board x\n"
    ++ codes "subdevice ai 4\n"
    ++ codes "bits 8\n"
    ++ codes "range 0 1 0\n"
    ++ codes "sources now timer now|timer count none|count\n"

-- names and channels: comedi 1\nboard {a*32}\nsubdevice unused 0\n{end}
abbrev pub Row_48_1 : Type 0
Row_48_1 =
    Accepts commands.Test
    (codes "comedi 1\n"
    ++ codes "board aaaaaaaaaaaaaaaaaaaaaaaaaaaaaaaa\n"
    ++ codes "subdevice unused 0\n"
    ++ text_end
    ++ codes "\n")

-- names and channels: comedi 1\nboard {a*33}\nsubdevice unused 0\n{end}
abbrev pub Row_48_2 : Type 0
Row_48_2 =
    Refuses commands.Test
    (codes "comedi 1\n"
    ++ codes "board aaaaaaaaaaaaaaaaaaaaaaaaaaaaaaaaa\n"
    ++ codes "subdevice unused 0\n"
    ++ text_end
    ++ codes "\n")
    (codes "refused 2 Limit\n")

-- names and channels: comedi 1\nboard x\nsubdevice ai 64\nbits 8\nrange 0 1 0\n{en
abbrev pub Row_48_3 : Type 0
Row_48_3 =
    Accepts commands.Test
    (codes "comedi 1\n"
    ++ codes "board x\n"
    ++ codes "subdevice ai 64\n"
    ++ codes "bits 8\n"
    ++ codes "range 0 1 0\n"
    ++ text_end
    ++ codes "\n")

-- names and channels: comedi 1\nboard x\nsubdevice ai 65\nbits 8\nrange 0 1 0\n{en
abbrev pub Row_48_4 : Type 0
Row_48_4 =
    Refuses commands.Test
    (codes "comedi 1\n"
    ++ codes "board x\n"
    ++ codes "subdevice ai 65\n"
    ++ codes "bits 8\n"
    ++ codes "range 0 1 0\n"
    ++ text_end
    ++ codes "\n")
    (codes "refused 3 Limit\n")

-- names and channels: comedi 1\nboard x\n{subdevice unused 0\n*16}{end}
abbrev pub Row_48_5 : Type 0
Row_48_5 =
    Accepts commands.Test
    (codes "comedi 1\n"
    ++ codes "board x\n"
    ++ codes "subdevice unused 0\n"
    ++ codes "subdevice unused 0\n"
    ++ codes "subdevice unused 0\n"
    ++ codes "subdevice unused 0\n"
    ++ codes "subdevice unused 0\n"
    ++ codes "subdevice unused 0\n"
    ++ codes "subdevice unused 0\n"
    ++ codes "subdevice unused 0\n"
    ++ codes "subdevice unused 0\n"
    ++ codes "subdevice unused 0\n"
    ++ codes "subdevice unused 0\n"
    ++ codes "subdevice unused 0\n"
    ++ codes "subdevice unused 0\n"
    ++ codes "subdevice unused 0\n"
    ++ codes "subdevice unused 0\n"
    ++ codes "subdevice unused 0\n"
    ++ text_end
    ++ codes "\n")

-- names and channels: comedi 1\nboard x\n{subdevice unused 0\n*17}{end}
abbrev pub Row_48_6 : Type 0
Row_48_6 =
    Refuses commands.Test
    (codes "comedi 1\n"
    ++ codes "board x\n"
    ++ codes "subdevice unused 0\n"
    ++ codes "subdevice unused 0\n"
    ++ codes "subdevice unused 0\n"
    ++ codes "subdevice unused 0\n"
    ++ codes "subdevice unused 0\n"
    ++ codes "subdevice unused 0\n"
    ++ codes "subdevice unused 0\n"
    ++ codes "subdevice unused 0\n"
    ++ codes "subdevice unused 0\n"
    ++ codes "subdevice unused 0\n"
    ++ codes "subdevice unused 0\n"
    ++ codes "subdevice unused 0\n"
    ++ codes "subdevice unused 0\n"
    ++ codes "subdevice unused 0\n"
    ++ codes "subdevice unused 0\n"
    ++ codes "subdevice unused 0\n"
    ++ codes "subdevice unused 0\n"
    ++ text_end
    ++ codes "\n")
    (codes "refused 19 Limit\n")

-- bits, munges and ranges: range 0 1 0\nmunge left 0\n{end}
abbrev pub Row_56_2 : Type 0
Row_56_2 =
    Refuses commands.Test
    (text_three ++ codes "range 0 1 0\n" ++ codes "munge left 0\n" ++ text_end ++ codes "\n")
    (codes "refused 6 Limit\n")

-- bits, munges and ranges: range 0 1 0\nmunge left 1\n{end}
abbrev pub Row_56_3 : Type 0
Row_56_3 =
    Accepts commands.Test
    (text_three ++ codes "range 0 1 0\n" ++ codes "munge left 1\n" ++ text_end ++ codes "\n")

-- bits, munges and ranges: range 0 1 0\nmunge left 8\n{end}
abbrev pub Row_56_4 : Type 0
Row_56_4 =
    Accepts commands.Test
    (text_three ++ codes "range 0 1 0\n" ++ codes "munge left 8\n" ++ text_end ++ codes "\n")

-- bits, munges and ranges: range 0 1 0\nmunge left 9\n{end}
abbrev pub Row_56_5 : Type 0
Row_56_5 =
    Refuses commands.Test
    (text_three ++ codes "range 0 1 0\n" ++ codes "munge left 9\n" ++ text_end ++ codes "\n")
    (codes "refused 6 Limit\n")

-- bits, munges and ranges: range -2147483648 2147483647 0\n{end}
abbrev pub Row_56_6 : Type 0
Row_56_6 =
    Accepts commands.Test
    (text_three ++ codes "range -2147483648 2147483647 0\n" ++ text_end ++ codes "\n")

-- bits, munges and ranges: range -2147483649 0 0\n{end}
abbrev pub Row_56_7 : Type 0
Row_56_7 =
    Refuses commands.Test
    (text_three ++ codes "range -2147483649 0 0\n" ++ text_end ++ codes "\n")
    (codes "refused 5 Limit\n")

-- bits, munges and ranges: range 0 2147483648 0\n{end}
abbrev pub Row_56_8 : Type 0
Row_56_8 =
    Refuses commands.Test
    (text_three ++ codes "range 0 2147483648 0\n" ++ text_end ++ codes "\n")
    (codes "refused 5 Limit\n")

-- bits, munges and ranges: {range 0 1 0\n*16}{end}
abbrev pub Row_56_9 : Type 0
Row_56_9 =
    Accepts commands.Test
    (text_three
    ++ codes "range 0 1 0\n"
    ++ codes "range 0 1 0\n"
    ++ codes "range 0 1 0\n"
    ++ codes "range 0 1 0\n"
    ++ codes "range 0 1 0\n"
    ++ codes "range 0 1 0\n"
    ++ codes "range 0 1 0\n"
    ++ codes "range 0 1 0\n"
    ++ codes "range 0 1 0\n"
    ++ codes "range 0 1 0\n"
    ++ codes "range 0 1 0\n"
    ++ codes "range 0 1 0\n"
    ++ codes "range 0 1 0\n"
    ++ codes "range 0 1 0\n"
    ++ codes "range 0 1 0\n"
    ++ codes "range 0 1 0\n"
    ++ text_end
    ++ codes "\n")

-- bits, munges and ranges: {range 0 1 0\n*17}{end}
abbrev pub Row_56_10 : Type 0
Row_56_10 =
    Refuses commands.Test
    (text_three
    ++ codes "range 0 1 0\n"
    ++ codes "range 0 1 0\n"
    ++ codes "range 0 1 0\n"
    ++ codes "range 0 1 0\n"
    ++ codes "range 0 1 0\n"
    ++ codes "range 0 1 0\n"
    ++ codes "range 0 1 0\n"
    ++ codes "range 0 1 0\n"
    ++ codes "range 0 1 0\n"
    ++ codes "range 0 1 0\n"
    ++ codes "range 0 1 0\n"
    ++ codes "range 0 1 0\n"
    ++ codes "range 0 1 0\n"
    ++ codes "range 0 1 0\n"
    ++ codes "range 0 1 0\n"
    ++ codes "range 0 1 0\n"
    ++ codes "range 0 1 0\n"
    ++ text_end
    ++ codes "\n")
    (codes "refused 21 Limit\n")

-- times, lists and buffers: tick 1000000000
abbrev pub Row_77_2 : Type 0
Row_77_2 = Refuses commands.Test (text_ranged ++ codes "tick 1000000000\n") (codes "refused 8 Missing\n")

-- times, lists and buffers: tick 1000000001
abbrev pub Row_77_3 : Type 0
Row_77_3 = Refuses commands.Test (text_ranged ++ codes "tick 1000000001\n") (codes "refused 7 Limit\n")

-- times, lists and buffers: tick 0
abbrev pub Row_77_4 : Type 0
Row_77_4 = Refuses commands.Test (text_ranged ++ codes "tick 0\n") (codes "refused 7 Limit\n")

-- times, lists and buffers: tick 1\nscan 1 4000000000
abbrev pub Row_77_5 : Type 0
Row_77_5 =
    Refuses commands.Test
    (text_ranged ++ codes "tick 1\n" ++ codes "scan 1 4000000000\n")
    (codes "refused 9 Missing\n")

-- times, lists and buffers: tick 1\nscan 1 4000000001
abbrev pub Row_77_6 : Type 0
Row_77_6 =
    Refuses commands.Test
    (text_ranged ++ codes "tick 1\n" ++ codes "scan 1 4000000001\n")
    (codes "refused 8 Limit\n")

-- times, lists and buffers: tick 1\nscan 0 1
abbrev pub Row_77_7 : Type 0
Row_77_7 =
    Refuses commands.Test
    (text_ranged ++ codes "tick 1\n" ++ codes "scan 0 1\n")
    (codes "refused 8 Limit\n")

-- times, lists and buffers: tick 1\nscan 1 1\nconvert 1 4000000000
abbrev pub Row_77_8 : Type 0
Row_77_8 =
    Refuses commands.Test
    (text_ranged ++ codes "tick 1\n" ++ codes "scan 1 1\n" ++ codes "convert 1 4000000000\n")
    (codes "refused 10 Missing\n")

-- times, lists and buffers: tick 1\nscan 1 1\nconvert 1 4000000001
abbrev pub Row_77_9 : Type 0
Row_77_9 =
    Refuses commands.Test
    (text_ranged ++ codes "tick 1\n" ++ codes "scan 1 1\n" ++ codes "convert 1 4000000001\n")
    (codes "refused 9 Limit\n")

-- times, lists and buffers: tick 1\nscan 1 1\nconvert 1 1\nlist 1\nbuffer 65536\n{end}
abbrev pub Row_77_10 : Type 0
Row_77_10 =
    Accepts commands.Test
    (text_ranged
    ++ codes "tick 1\n"
    ++ codes "scan 1 1\n"
    ++ codes "convert 1 1\n"
    ++ codes "list 1\n"
    ++ codes "buffer 65536\n"
    ++ text_end
    ++ codes "\n")

-- times, lists and buffers: tick 1\nscan 1 1\nconvert 1 1\nlist 1\nscans 4000000000\nbuf
abbrev pub Row_77_11 : Type 0
Row_77_11 =
    Accepts commands.Test
    (text_ranged
    ++ codes "tick 1\n"
    ++ codes "scan 1 1\n"
    ++ codes "convert 1 1\n"
    ++ codes "list 1\n"
    ++ codes "scans 4000000000\n"
    ++ codes "buffer 1\n"
    ++ text_end
    ++ codes "\n")

-- times, lists and buffers: tick 1\nscan 1 1\nconvert 1 1\nlist 257
abbrev pub Row_77_12 : Type 0
Row_77_12 =
    Refuses commands.Test
    (text_ranged
    ++ codes "tick 1\n"
    ++ codes "scan 1 1\n"
    ++ codes "convert 1 1\n"
    ++ codes "list 257\n")
    (codes "refused 10 Limit\n")

-- times, lists and buffers: tick 1\nscan 1 1\nconvert 1 1\nlist 1\nscans 4000000001
abbrev pub Row_77_13 : Type 0
Row_77_13 =
    Refuses commands.Test
    (text_ranged
    ++ codes "tick 1\n"
    ++ codes "scan 1 1\n"
    ++ codes "convert 1 1\n"
    ++ codes "list 1\n"
    ++ codes "scans 4000000001\n")
    (codes "refused 11 Limit\n")

-- times, lists and buffers: tick 1\nscan 1 1\nconvert 1 1\nlist 1\nlines 16\nbuffer 1\n{
abbrev pub Row_77_14 : Type 0
Row_77_14 =
    Accepts commands.Test
    (text_ranged
    ++ codes "tick 1\n"
    ++ codes "scan 1 1\n"
    ++ codes "convert 1 1\n"
    ++ codes "list 1\n"
    ++ codes "lines 16\n"
    ++ codes "buffer 1\n"
    ++ text_end
    ++ codes "\n")

-- times, lists and buffers: tick 1\nscan 1 1\nconvert 1 1\nlist 1\nlines 17
abbrev pub Row_77_15 : Type 0
Row_77_15 =
    Refuses commands.Test
    (text_ranged
    ++ codes "tick 1\n"
    ++ codes "scan 1 1\n"
    ++ codes "convert 1 1\n"
    ++ codes "list 1\n"
    ++ codes "lines 17\n")
    (codes "refused 11 Limit\n")

-- times, lists and buffers: tick 1\nscan 1 1\nconvert 1 1\nlist 1\nbuffer 65537
abbrev pub Row_77_16 : Type 0
Row_77_16 =
    Refuses commands.Test
    (text_ranged
    ++ codes "tick 1\n"
    ++ codes "scan 1 1\n"
    ++ codes "convert 1 1\n"
    ++ codes "list 1\n"
    ++ codes "buffer 65537\n")
    (codes "refused 11 Limit\n")

-- times, lists and buffers: tick 1\nscan 1 1\nconvert 1 1\nlist 1\nbuffer 0
abbrev pub Row_77_17 : Type 0
Row_77_17 =
    Refuses commands.Test
    (text_ranged
    ++ codes "tick 1\n"
    ++ codes "scan 1 1\n"
    ++ codes "convert 1 1\n"
    ++ codes "list 1\n"
    ++ codes "buffer 0\n")
    (codes "refused 11 Limit\n")

-- forbidden pairs: {forbid start ext stop count\n*16}{end}
abbrev pub Row_96_2 : Type 0
Row_96_2 =
    Accepts commands.Test
    (text_one
    ++ codes "forbid start ext stop count\n"
    ++ codes "forbid start ext stop count\n"
    ++ codes "forbid start ext stop count\n"
    ++ codes "forbid start ext stop count\n"
    ++ codes "forbid start ext stop count\n"
    ++ codes "forbid start ext stop count\n"
    ++ codes "forbid start ext stop count\n"
    ++ codes "forbid start ext stop count\n"
    ++ codes "forbid start ext stop count\n"
    ++ codes "forbid start ext stop count\n"
    ++ codes "forbid start ext stop count\n"
    ++ codes "forbid start ext stop count\n"
    ++ codes "forbid start ext stop count\n"
    ++ codes "forbid start ext stop count\n"
    ++ codes "forbid start ext stop count\n"
    ++ codes "forbid start ext stop count\n"
    ++ text_end
    ++ codes "\n")

-- forbidden pairs: {forbid start ext stop count\n*17}{end}
abbrev pub Row_96_3 : Type 0
Row_96_3 =
    Refuses commands.Test
    (text_one
    ++ codes "forbid start ext stop count\n"
    ++ codes "forbid start ext stop count\n"
    ++ codes "forbid start ext stop count\n"
    ++ codes "forbid start ext stop count\n"
    ++ codes "forbid start ext stop count\n"
    ++ codes "forbid start ext stop count\n"
    ++ codes "forbid start ext stop count\n"
    ++ codes "forbid start ext stop count\n"
    ++ codes "forbid start ext stop count\n"
    ++ codes "forbid start ext stop count\n"
    ++ codes "forbid start ext stop count\n"
    ++ codes "forbid start ext stop count\n"
    ++ codes "forbid start ext stop count\n"
    ++ codes "forbid start ext stop count\n"
    ++ codes "forbid start ext stop count\n"
    ++ codes "forbid start ext stop count\n"
    ++ codes "forbid start ext stop count\n"
    ++ text_end
    ++ codes "\n")
    (codes "refused 30 Limit\n")

-- horizons: signals 1000000000000\nsession
abbrev pub Row_101_2 : Type 0
Row_101_2 = Accepts commands.Test (text_one ++ codes "signals 1000000000000\n" ++ codes "session\n")

-- horizons: signals 1000000000001\nsession
abbrev pub Row_101_3 : Type 0
Row_101_3 =
    Refuses commands.Test
    (text_one ++ codes "signals 1000000000001\n" ++ codes "session\n")
    (codes "refused 14 Limit\n")

-- waves and edges: wave 0 0 const 2147483647\nsession
abbrev pub Row_110_2 : Type 0
Row_110_2 =
    Accepts commands.Test
    (text_one
    ++ codes "signals 1000000000\n"
    ++ codes "wave 0 0 const 2147483647\n"
    ++ codes "session\n")

-- waves and edges: wave 0 0 const 2147483648\nsession
abbrev pub Row_110_3 : Type 0
Row_110_3 =
    Refuses commands.Test
    (text_one
    ++ codes "signals 1000000000\n"
    ++ codes "wave 0 0 const 2147483648\n"
    ++ codes "session\n")
    (codes "refused 15 Limit\n")

-- waves and edges: wave 0 0 const -2147483648\nsession
abbrev pub Row_110_4 : Type 0
Row_110_4 =
    Accepts commands.Test
    (text_one
    ++ codes "signals 1000000000\n"
    ++ codes "wave 0 0 const -2147483648\n"
    ++ codes "session\n")

-- waves and edges: wave 0 0 const -2147483649\nsession
abbrev pub Row_110_5 : Type 0
Row_110_5 =
    Refuses commands.Test
    (text_one
    ++ codes "signals 1000000000\n"
    ++ codes "wave 0 0 const -2147483649\n"
    ++ codes "session\n")
    (codes "refused 15 Limit\n")

-- waves and edges: wave 0 0 saw 0 1 1\nsession
abbrev pub Row_110_6 : Type 0
Row_110_6 =
    Accepts commands.Test
    (text_one
    ++ codes "signals 1000000000\n"
    ++ codes "wave 0 0 saw 0 1 1\n"
    ++ codes "session\n")

-- waves and edges: wave 0 0 saw 0 1 0\nsession
abbrev pub Row_110_7 : Type 0
Row_110_7 =
    Refuses commands.Test
    (text_one
    ++ codes "signals 1000000000\n"
    ++ codes "wave 0 0 saw 0 1 0\n"
    ++ codes "session\n")
    (codes "refused 15 Limit\n")

-- waves and edges: wave 0 0 saw 0 1 2\nsession
abbrev pub Row_110_8 : Type 0
Row_110_8 =
    Accepts commands.Test
    (text_one
    ++ codes "signals 1000000000\n"
    ++ codes "wave 0 0 saw 0 1 2\n"
    ++ codes "session\n")

-- waves and edges: wave 0 0 saw 0 1 1000000000000\nsession
abbrev pub Row_110_9 : Type 0
Row_110_9 =
    Accepts commands.Test
    (text_one
    ++ codes "signals 1000000000\n"
    ++ codes "wave 0 0 saw 0 1 1000000000000\n"
    ++ codes "session\n")

-- waves and edges: wave 0 0 saw 0 1 1000000000001\nsession
abbrev pub Row_110_10 : Type 0
Row_110_10 =
    Refuses commands.Test
    (text_one
    ++ codes "signals 1000000000\n"
    ++ codes "wave 0 0 saw 0 1 1000000000001\n"
    ++ codes "session\n")
    (codes "refused 15 Limit\n")

-- waves and edges: wave 0 0 square 0 1 1\nsession
abbrev pub Row_110_11 : Type 0
Row_110_11 =
    Accepts commands.Test
    (text_one
    ++ codes "signals 1000000000\n"
    ++ codes "wave 0 0 square 0 1 1\n"
    ++ codes "session\n")

-- waves and edges: wave 0 0 square 0 1 2\nsession
abbrev pub Row_110_12 : Type 0
Row_110_12 =
    Accepts commands.Test
    (text_one
    ++ codes "signals 1000000000\n"
    ++ codes "wave 0 0 square 0 1 2\n"
    ++ codes "session\n")

-- waves and edges: wave 0 0 square 0 1 1000000000000\nsession
abbrev pub Row_110_13 : Type 0
Row_110_13 =
    Accepts commands.Test
    (text_one
    ++ codes "signals 1000000000\n"
    ++ codes "wave 0 0 square 0 1 1000000000000\n"
    ++ codes "session\n")

-- waves and edges: wave 0 0 square 0 1 1000000000001\nsession
abbrev pub Row_110_14 : Type 0
Row_110_14 =
    Refuses commands.Test
    (text_one
    ++ codes "signals 1000000000\n"
    ++ codes "wave 0 0 square 0 1 1000000000001\n"
    ++ codes "session\n")
    (codes "refused 15 Limit\n")

-- waves and edges: wave 0 0 table 1{ 7*64}\nsession
abbrev pub Row_110_15 : Type 0
Row_110_15 =
    Accepts commands.Test
    (text_one
    ++ codes "signals 1000000000\n"
    ++ codes "wave 0 0 table 1 7 7 7 7 7 7 7 7 7 7 7 7 7 7 7 7 7 7 7 7 7 7 7 7 7 7 7 7 7 7 7 7 7 7"
    ++ codes " 7 7 7 7 7 7 7 7 7 7 7 7 7 7 7 7 7 7 7 7 7 7 7 7 7 7 7 7 7 7\n"
    ++ codes "session\n")

-- waves and edges: wave 0 0 table 1{ 7*65}\nsession
abbrev pub Row_110_16 : Type 0
Row_110_16 =
    Refuses commands.Test
    (text_one
    ++ codes "signals 1000000000\n"
    ++ codes "wave 0 0 table 1 7 7 7 7 7 7 7 7 7 7 7 7 7 7 7 7 7 7 7 7 7 7 7 7 7 7 7 7 7 7 7 7 7 7"
    ++ codes " 7 7 7 7 7 7 7 7 7 7 7 7 7 7 7 7 7 7 7 7 7 7 7 7 7 7 7 7 7 7 7\n"
    ++ codes "session\n")
    (codes "refused 15 Limit\n")

-- waves and edges: wave 0 0 table 0 7\nsession
abbrev pub Row_110_17 : Type 0
Row_110_17 =
    Refuses commands.Test
    (text_one
    ++ codes "signals 1000000000\n"
    ++ codes "wave 0 0 table 0 7\n"
    ++ codes "session\n")
    (codes "refused 15 Limit\n")

-- waves and edges: wave 0 0 table 1000000000000 7\nsession
abbrev pub Row_110_18 : Type 0
Row_110_18 =
    Accepts commands.Test
    (text_one
    ++ codes "signals 1000000000\n"
    ++ codes "wave 0 0 table 1000000000000 7\n"
    ++ codes "session\n")

-- waves and edges: wave 0 0 table 1000000000001 7\nsession
abbrev pub Row_110_19 : Type 0
Row_110_19 =
    Refuses commands.Test
    (text_one
    ++ codes "signals 1000000000\n"
    ++ codes "wave 0 0 table 1000000000001 7\n"
    ++ codes "session\n")
    (codes "refused 15 Limit\n")

-- waves and edges: edges 15 1\nsession
abbrev pub Row_110_20 : Type 0
Row_110_20 =
    Accepts commands.Test
    (text_one ++ codes "signals 1000000000\n" ++ codes "edges 15 1\n" ++ codes "session\n")

-- waves and edges: edges 16 1\nsession
abbrev pub Row_110_21 : Type 0
Row_110_21 =
    Refuses commands.Test
    (text_one ++ codes "signals 1000000000\n" ++ codes "edges 16 1\n" ++ codes "session\n")
    (codes "refused 15 Limit\n")

-- waves and edges: every 15 0 1 1\nsession
abbrev pub Row_110_22 : Type 0
Row_110_22 =
    Accepts commands.Test
    (text_one ++ codes "signals 1000000000\n" ++ codes "every 15 0 1 1\n" ++ codes "session\n")

-- waves and edges: every 16 0 1 1\nsession
abbrev pub Row_110_23 : Type 0
Row_110_23 =
    Refuses commands.Test
    (text_one ++ codes "signals 1000000000\n" ++ codes "every 16 0 1 1\n" ++ codes "session\n")
    (codes "refused 15 Limit\n")

-- waves and edges: every 0 0 1 100001\nsession
abbrev pub Row_110_25 : Type 0
Row_110_25 =
    Refuses commands.Test
    (text_one
    ++ codes "signals 1000000000\n"
    ++ codes "every 0 0 1 100001\n"
    ++ codes "session\n")
    (codes "refused 15 Limit\n")

-- waves and edges: edges 0 5 5\nsession
abbrev pub Row_110_26 : Type 0
Row_110_26 =
    Refuses commands.Test
    (text_one ++ codes "signals 1000000000\n" ++ codes "edges 0 5 5\n" ++ codes "session\n")
    (codes "refused 15 Bad\n")

-- an even train of edges: signals 10000\nevery 0 0 1000 4\nsession\nexpand 0 0 0 now:0
abbrev pub Row_159_2 : Type 0
Row_159_2 =
    Answers commands.Expand
    (text_one
    ++ codes "signals 10000\n"
    ++ codes "every 0 0 1000 4\n"
    ++ codes "session\n"
    ++ codes "expand 0 0 0 now:0 ext:0 now:0 count:1 none:0 0/0/ground\n")
    (codes "0 0 0\n"
    ++ codes "1000 0 0\n"
    ++ codes "2000 0 0\n"
    ++ codes "3000 0 0\n"
    ++ codes "dry\n")

-- an even train of edges: signals 1500\nsession\nexpand 0 0 0 now:0 timer:1000 now:0 c
abbrev pub Row_159_3 : Type 0
Row_159_3 =
    Answers commands.Expand
    (text_one
    ++ codes "signals 1500\n"
    ++ codes "session\n"
    ++ codes "expand 0 0 0 now:0 timer:1000 now:0 count:1 count:3 0/0/ground\n")
    (codes "0 0 0\n" ++ codes "1000 0 0\n" ++ codes "dry\n")

-- values and numbers to take: drive 0 {1,*1023}1 1 0 now:0 timer:1 now:0 count:1 count:102
abbrev pub Row_164_2 : Type 0
Row_164_2 =
    Accepts commands.Run
    (text_one
    ++ text_out
    ++ text_session
    ++ codes "drive 0 1,1,1,1,1,1,1,1,1,1,1,1,1,1,1,1,1,1,1,1,1,1,1,1,1,1,1,1,1,1,1,1,1,1,1,1,1,1,"
    ++ codes "1,1,1,1,1,1,1,1,1,1,1,1,1,1,1,1,1,1,1,1,1,1,1,1,1,1,1,1,1,1,1,1,1,1,1,1,1,1,1,1,1,1,"
    ++ codes "1,1,1,1,1,1,1,1,1,1,1,1,1,1,1,1,1,1,1,1,1,1,1,1,1,1,1,1,1,1,1,1,1,1,1,1,1,1,1,1,1,1,"
    ++ codes "1,1,1,1,1,1,1,1,1,1,1,1,1,1,1,1,1,1,1,1,1,1,1,1,1,1,1,1,1,1,1,1,1,1,1,1,1,1,1,1,1,1,"
    ++ codes "1,1,1,1,1,1,1,1,1,1,1,1,1,1,1,1,1,1,1,1,1,1,1,1,1,1,1,1,1,1,1,1,1,1,1,1,1,1,1,1,1,1,"
    ++ codes "1,1,1,1,1,1,1,1,1,1,1,1,1,1,1,1,1,1,1,1,1,1,1,1,1,1,1,1,1,1,1,1,1,1,1,1,1,1,1,1,1,1,"
    ++ codes "1,1,1,1,1,1,1,1,1,1,1,1,1,1,1,1,1,1,1,1,1,1,1,1,1,1,1,1,1,1,1,1,1,1,1,1,1,1,1,1,1,1,"
    ++ codes "1,1,1,1,1,1,1,1,1,1,1,1,1,1,1,1,1,1,1,1,1,1,1,1,1,1,1,1,1,1,1,1,1,1,1,1,1,1,1,1,1,1,"
    ++ codes "1,1,1,1,1,1,1,1,1,1,1,1,1,1,1,1,1,1,1,1,1,1,1,1,1,1,1,1,1,1,1,1,1,1,1,1,1,1,1,1,1,1,"
    ++ codes "1,1,1,1,1,1,1,1,1,1,1,1,1,1,1,1,1,1,1,1,1,1,1,1,1,1,1,1,1,1,1,1,1,1,1,1,1,1,1,1,1,1,"
    ++ codes "1,1,1,1,1,1,1,1,1,1,1,1,1,1,1,1,1,1,1,1,1,1,1,1,1,1,1,1,1,1,1,1,1,1,1,1,1,1,1,1,1,1,"
    ++ codes "1,1,1,1,1,1,1,1,1,1,1,1,1,1,1,1,1,1,1,1,1,1,1,1,1,1,1,1,1,1,1,1,1,1,1,1,1,1,1,1,1,1,"
    ++ codes "1,1,1,1,1,1,1,1,1,1,1,1,1,1,1,1,1,1,1,1,1,1,1,1,1,1,1,1,1,1,1,1,1,1,1,1,1,1,1,1,1,1,"
    ++ codes "1,1,1,1,1,1,1,1,1,1,1,1,1,1,1,1,1,1,1,1,1,1,1,1,1,1,1,1,1,1,1,1,1,1,1,1,1,1,1,1,1,1,"
    ++ codes "1,1,1,1,1,1,1,1,1,1,1,1,1,1,1,1,1,1,1,1,1,1,1,1,1,1,1,1,1,1,1,1,1,1,1,1,1,1,1,1,1,1,"
    ++ codes "1,1,1,1,1,1,1,1,1,1,1,1,1,1,1,1,1,1,1,1,1,1,1,1,1,1,1,1,1,1,1,1,1,1,1,1,1,1,1,1,1,1,"
    ++ codes "1,1,1,1,1,1,1,1,1,1,1,1,1,1,1,1,1,1,1,1,1,1,1,1,1,1,1,1,1,1,1,1,1,1,1,1,1,1,1,1,1,1,"
    ++ codes "1,1,1,1,1,1,1,1,1,1,1,1,1,1,1,1,1,1,1,1,1,1,1,1,1,1,1,1,1,1,1,1,1,1,1,1,1,1,1,1,1,1,"
    ++ codes "1,1,1,1,1,1,1,1,1,1,1,1,1,1,1,1,1,1,1,1,1,1,1,1,1,1,1,1,1,1,1,1,1,1,1,1,1,1,1,1,1,1,"
    ++ codes "1,1,1,1,1,1,1,1,1,1,1,1,1,1,1,1,1,1,1,1,1,1,1,1,1,1,1,1,1,1,1,1,1,1,1,1,1,1,1,1,1,1,"
    ++ codes "1,1,1,1,1,1,1,1,1,1,1,1,1,1,1,1,1,1,1,1,1,1,1,1,1,1,1,1,1,1,1,1,1,1,1,1,1,1,1,1,1,1,"
    ++ codes "1,1,1,1,1,1,1,1,1,1,1,1,1,1,1,1,1,1,1,1,1,1,1,1,1,1,1,1,1,1,1,1,1,1,1,1,1,1,1,1,1,1,"
    ++ codes "1,1,1,1,1,1,1,1,1,1,1,1,1,1,1,1,1,1,1,1,1,1,1,1,1,1,1,1,1,1,1,1,1,1,1,1,1,1,1,1,1,1,"
    ++ codes "1,1,1,1,1,1,1,1,1,1,1,1,1,1,1,1,1,1,1,1,1,1,1,1,1,1,1,1,1,1,1,1,1,1,1,1,1,1,1,1,1,1,"
    ++ codes "1,1,1,1,1,1,1,1,1,1,1,1,1,1,1,1,1,1,1,1 1 0 now:0 timer:1 now:0 count:1 count:1024 0"
    ++ codes "/0/ground\n")

-- values and numbers to take: drive 0 {1,*1024}1 1 0 now:0 timer:1 now:0 count:1 count:102
abbrev pub Row_164_3 : Type 0
Row_164_3 =
    Refuses commands.Run
    (text_one
    ++ text_out
    ++ text_session
    ++ codes "drive 0 1,1,1,1,1,1,1,1,1,1,1,1,1,1,1,1,1,1,1,1,1,1,1,1,1,1,1,1,1,1,1,1,1,1,1,1,1,1,"
    ++ codes "1,1,1,1,1,1,1,1,1,1,1,1,1,1,1,1,1,1,1,1,1,1,1,1,1,1,1,1,1,1,1,1,1,1,1,1,1,1,1,1,1,1,"
    ++ codes "1,1,1,1,1,1,1,1,1,1,1,1,1,1,1,1,1,1,1,1,1,1,1,1,1,1,1,1,1,1,1,1,1,1,1,1,1,1,1,1,1,1,"
    ++ codes "1,1,1,1,1,1,1,1,1,1,1,1,1,1,1,1,1,1,1,1,1,1,1,1,1,1,1,1,1,1,1,1,1,1,1,1,1,1,1,1,1,1,"
    ++ codes "1,1,1,1,1,1,1,1,1,1,1,1,1,1,1,1,1,1,1,1,1,1,1,1,1,1,1,1,1,1,1,1,1,1,1,1,1,1,1,1,1,1,"
    ++ codes "1,1,1,1,1,1,1,1,1,1,1,1,1,1,1,1,1,1,1,1,1,1,1,1,1,1,1,1,1,1,1,1,1,1,1,1,1,1,1,1,1,1,"
    ++ codes "1,1,1,1,1,1,1,1,1,1,1,1,1,1,1,1,1,1,1,1,1,1,1,1,1,1,1,1,1,1,1,1,1,1,1,1,1,1,1,1,1,1,"
    ++ codes "1,1,1,1,1,1,1,1,1,1,1,1,1,1,1,1,1,1,1,1,1,1,1,1,1,1,1,1,1,1,1,1,1,1,1,1,1,1,1,1,1,1,"
    ++ codes "1,1,1,1,1,1,1,1,1,1,1,1,1,1,1,1,1,1,1,1,1,1,1,1,1,1,1,1,1,1,1,1,1,1,1,1,1,1,1,1,1,1,"
    ++ codes "1,1,1,1,1,1,1,1,1,1,1,1,1,1,1,1,1,1,1,1,1,1,1,1,1,1,1,1,1,1,1,1,1,1,1,1,1,1,1,1,1,1,"
    ++ codes "1,1,1,1,1,1,1,1,1,1,1,1,1,1,1,1,1,1,1,1,1,1,1,1,1,1,1,1,1,1,1,1,1,1,1,1,1,1,1,1,1,1,"
    ++ codes "1,1,1,1,1,1,1,1,1,1,1,1,1,1,1,1,1,1,1,1,1,1,1,1,1,1,1,1,1,1,1,1,1,1,1,1,1,1,1,1,1,1,"
    ++ codes "1,1,1,1,1,1,1,1,1,1,1,1,1,1,1,1,1,1,1,1,1,1,1,1,1,1,1,1,1,1,1,1,1,1,1,1,1,1,1,1,1,1,"
    ++ codes "1,1,1,1,1,1,1,1,1,1,1,1,1,1,1,1,1,1,1,1,1,1,1,1,1,1,1,1,1,1,1,1,1,1,1,1,1,1,1,1,1,1,"
    ++ codes "1,1,1,1,1,1,1,1,1,1,1,1,1,1,1,1,1,1,1,1,1,1,1,1,1,1,1,1,1,1,1,1,1,1,1,1,1,1,1,1,1,1,"
    ++ codes "1,1,1,1,1,1,1,1,1,1,1,1,1,1,1,1,1,1,1,1,1,1,1,1,1,1,1,1,1,1,1,1,1,1,1,1,1,1,1,1,1,1,"
    ++ codes "1,1,1,1,1,1,1,1,1,1,1,1,1,1,1,1,1,1,1,1,1,1,1,1,1,1,1,1,1,1,1,1,1,1,1,1,1,1,1,1,1,1,"
    ++ codes "1,1,1,1,1,1,1,1,1,1,1,1,1,1,1,1,1,1,1,1,1,1,1,1,1,1,1,1,1,1,1,1,1,1,1,1,1,1,1,1,1,1,"
    ++ codes "1,1,1,1,1,1,1,1,1,1,1,1,1,1,1,1,1,1,1,1,1,1,1,1,1,1,1,1,1,1,1,1,1,1,1,1,1,1,1,1,1,1,"
    ++ codes "1,1,1,1,1,1,1,1,1,1,1,1,1,1,1,1,1,1,1,1,1,1,1,1,1,1,1,1,1,1,1,1,1,1,1,1,1,1,1,1,1,1,"
    ++ codes "1,1,1,1,1,1,1,1,1,1,1,1,1,1,1,1,1,1,1,1,1,1,1,1,1,1,1,1,1,1,1,1,1,1,1,1,1,1,1,1,1,1,"
    ++ codes "1,1,1,1,1,1,1,1,1,1,1,1,1,1,1,1,1,1,1,1,1,1,1,1,1,1,1,1,1,1,1,1,1,1,1,1,1,1,1,1,1,1,"
    ++ codes "1,1,1,1,1,1,1,1,1,1,1,1,1,1,1,1,1,1,1,1,1,1,1,1,1,1,1,1,1,1,1,1,1,1,1,1,1,1,1,1,1,1,"
    ++ codes "1,1,1,1,1,1,1,1,1,1,1,1,1,1,1,1,1,1,1,1,1,1,1,1,1,1,1,1,1,1,1,1,1,1,1,1,1,1,1,1,1,1,"
    ++ codes "1,1,1,1,1,1,1,1,1,1,1,1,1,1,1,1,1,1,1,1,1 1 0 now:0 timer:1 now:0 count:1 count:1024"
    ++ codes " 0/0/ground\n")
    (codes "refused 26 Limit\n")

-- values and numbers to take: go paced copy 0 1000000 {single}
abbrev pub Row_164_4 : Type 0
Row_164_4 =
    Answers commands.Run
    (text_one
    ++ text_out
    ++ text_session
    ++ codes "go paced copy 0 1000000 0 0 now:0 timer:1 now:0 count:1 count:1 0/0/ground\n"
    ++ codes "\n")
    (codes "0 0\n" ++ codes "done\n")

-- values and numbers to take: go paced copy 0 1000001 {single}
abbrev pub Row_164_5 : Type 0
Row_164_5 =
    Refuses commands.Run
    (text_one
    ++ text_out
    ++ text_session
    ++ codes "go paced copy 0 1000001 0 0 now:0 timer:1 now:0 count:1 count:1 0/0/ground\n"
    ++ codes "\n")
    (codes "refused 26 Limit\n")

-- values and numbers to take: go paced copy 0 0 {single}
abbrev pub Row_164_6 : Type 0
Row_164_6 =
    Refuses commands.Run
    (text_one
    ++ text_out
    ++ text_session
    ++ codes "go paced copy 0 0 0 0 now:0 timer:1 now:0 count:1 count:1 0/0/ground\n"
    ++ codes "\n")
    (codes "refused 26 Limit\n")

-- long numbers: 999999999999 close 1
abbrev pub Row_185_2 : Type 0
Row_185_2 =
    Answers commands.Replay
    (text_one ++ text_numbers ++ codes "999999999999 close 1\n")
    (codes "ok\n" ++ codes "ok\n")

-- long numbers: 9999999999999 close 1
abbrev pub Row_185_3 : Type 0
Row_185_3 =
    Refuses commands.Replay
    (text_one ++ text_numbers ++ codes "9999999999999 close 1\n")
    (codes "refused 17 Limit\n")

-- long numbers: 999999999999999999 close 1
abbrev pub Row_185_4 : Type 0
Row_185_4 =
    Refuses commands.Replay
    (text_one ++ text_numbers ++ codes "999999999999999999 close 1\n")
    (codes "refused 17 Limit\n")

-- long numbers: 1000000000000000000 close 1
abbrev pub Row_185_5 : Type 0
Row_185_5 =
    Refuses commands.Replay
    (text_one ++ text_numbers ++ codes "1000000000000000000 close 1\n")
    (codes "refused 17 BadNumber\n")

-- long numbers: 18446744073709551615 close 1
abbrev pub Row_185_6 : Type 0
Row_185_6 =
    Refuses commands.Replay
    (text_one ++ text_numbers ++ codes "18446744073709551615 close 1\n")
    (codes "refused 17 BadNumber\n")

-- long numbers: 18446744073709551616 close 1
abbrev pub Row_185_7 : Type 0
Row_185_7 =
    Refuses commands.Replay
    (text_one ++ text_numbers ++ codes "18446744073709551616 close 1\n")
    (codes "refused 17 BadNumber\n")

-- long numbers: 99999999999999999999 close 1
abbrev pub Row_185_8 : Type 0
Row_185_8 =
    Refuses commands.Replay
    (text_one ++ text_numbers ++ codes "99999999999999999999 close 1\n")
    (codes "refused 17 BadNumber\n")

-- long numbers: 0 insn 1 0 bits 4294967295 4294967295
abbrev pub Row_185_9 : Type 0
Row_185_9 =
    Answers commands.Replay
    (text_one ++ text_numbers ++ codes "0 insn 1 0 bits 4294967295 4294967295\n")
    (codes "ok\n" ++ codes "err 22\n")

-- long numbers: 0 insn 1 0 bits 4294967296 0
abbrev pub Row_185_10 : Type 0
Row_185_10 =
    Refuses commands.Replay
    (text_one ++ text_numbers ++ codes "0 insn 1 0 bits 4294967296 0\n")
    (codes "refused 17 Limit\n")

-- channels and ranges of wider texts: {wider}subdevice ai 64\nbits 8\nrange 0 1 0\n{end}
abbrev pub Row_237_1 : Type 0
Row_237_1 =
    Accepts commands.Test
    (text_wider
    ++ codes "subdevice ai 64\n"
    ++ codes "bits 8\n"
    ++ codes "range 0 1 0\n"
    ++ text_end
    ++ codes "\n")

-- channels and ranges of wider texts: {wider}subdevice ai 65\nbits 8\nrange 0 1 0\n{end}
abbrev pub Row_237_2 : Type 0
Row_237_2 =
    Accepts commands.Test
    (text_wider
    ++ codes "subdevice ai 65\n"
    ++ codes "bits 8\n"
    ++ codes "range 0 1 0\n"
    ++ text_end
    ++ codes "\n")

-- channels and ranges of wider texts: {wider}subdevice ai 256\nbits 8\nrange 0 1 0\nchan 255 bits
abbrev pub Row_237_3 : Type 0
Row_237_3 =
    Accepts commands.Test
    (text_wider
    ++ codes "subdevice ai 256\n"
    ++ codes "bits 8\n"
    ++ codes "range 0 1 0\n"
    ++ codes "chan 255 bits 9\n"
    ++ text_end
    ++ codes "\n")

-- channels and ranges of wider texts: {wider}subdevice ai 256\nbits 8\nrange 0 1 0\nchan 256 bits
abbrev pub Row_237_4 : Type 0
Row_237_4 =
    Refuses commands.Test
    (text_wider
    ++ codes "subdevice ai 256\n"
    ++ codes "bits 8\n"
    ++ codes "range 0 1 0\n"
    ++ codes "chan 256 bits 9\n"
    ++ codes "\n")
    (codes "refused 6 Limit\n")

-- channels and ranges of wider texts: {wider}subdevice ai 257\n
abbrev pub Row_237_5 : Type 0
Row_237_5 =
    Refuses commands.Test
    (text_wider ++ codes "subdevice ai 257\n" ++ codes "\n")
    (codes "refused 3 Limit\n")

-- channels and ranges of wider texts: {wider}subdevice dio 256\nbits 1\nrange 0 1 0\n{end}
abbrev pub Row_237_6 : Type 0
Row_237_6 =
    Accepts commands.Test
    (text_wider
    ++ codes "subdevice dio 256\n"
    ++ codes "bits 1\n"
    ++ codes "range 0 1 0\n"
    ++ text_end
    ++ codes "\n")

-- channels and ranges of wider texts: {wider}subdevice dio 257\n
abbrev pub Row_237_7 : Type 0
Row_237_7 =
    Refuses commands.Test
    (text_wider ++ codes "subdevice dio 257\n" ++ codes "\n")
    (codes "refused 3 Limit\n")

-- channels and ranges of wider texts: {wider}subdevice ai 0\n
abbrev pub Row_237_8 : Type 0
Row_237_8 =
    Refuses commands.Test
    (text_wider ++ codes "subdevice ai 0\n" ++ codes "\n")
    (codes "refused 3 Limit\n")

-- channels and ranges of wider texts: {wider}subdevice unused 1\n
abbrev pub Row_237_9 : Type 0
Row_237_9 =
    Refuses commands.Test
    (text_wider ++ codes "subdevice unused 1\n" ++ codes "\n")
    (codes "refused 3 Limit\n")

-- channels and ranges of wider texts: {wider}subdevice ai 4\nbits 8\n{range 0 1 0\n*17}{end}
abbrev pub Row_237_10 : Type 0
Row_237_10 =
    Accepts commands.Test
    (text_wider
    ++ codes "subdevice ai 4\n"
    ++ codes "bits 8\n"
    ++ codes "range 0 1 0\n"
    ++ codes "range 0 1 0\n"
    ++ codes "range 0 1 0\n"
    ++ codes "range 0 1 0\n"
    ++ codes "range 0 1 0\n"
    ++ codes "range 0 1 0\n"
    ++ codes "range 0 1 0\n"
    ++ codes "range 0 1 0\n"
    ++ codes "range 0 1 0\n"
    ++ codes "range 0 1 0\n"
    ++ codes "range 0 1 0\n"
    ++ codes "range 0 1 0\n"
    ++ codes "range 0 1 0\n"
    ++ codes "range 0 1 0\n"
    ++ codes "range 0 1 0\n"
    ++ codes "range 0 1 0\n"
    ++ codes "range 0 1 0\n"
    ++ text_end
    ++ codes "\n")

-- channels and ranges of wider texts: {wider}subdevice ai 4\nbits 8\n{range 0 1 0\n*32}{end}
abbrev pub Row_237_11 : Type 0
Row_237_11 =
    Accepts commands.Test
    (text_wider
    ++ codes "subdevice ai 4\n"
    ++ codes "bits 8\n"
    ++ codes "range 0 1 0\n"
    ++ codes "range 0 1 0\n"
    ++ codes "range 0 1 0\n"
    ++ codes "range 0 1 0\n"
    ++ codes "range 0 1 0\n"
    ++ codes "range 0 1 0\n"
    ++ codes "range 0 1 0\n"
    ++ codes "range 0 1 0\n"
    ++ codes "range 0 1 0\n"
    ++ codes "range 0 1 0\n"
    ++ codes "range 0 1 0\n"
    ++ codes "range 0 1 0\n"
    ++ codes "range 0 1 0\n"
    ++ codes "range 0 1 0\n"
    ++ codes "range 0 1 0\n"
    ++ codes "range 0 1 0\n"
    ++ codes "range 0 1 0\n"
    ++ codes "range 0 1 0\n"
    ++ codes "range 0 1 0\n"
    ++ codes "range 0 1 0\n"
    ++ codes "range 0 1 0\n"
    ++ codes "range 0 1 0\n"
    ++ codes "range 0 1 0\n"
    ++ codes "range 0 1 0\n"
    ++ codes "range 0 1 0\n"
    ++ codes "range 0 1 0\n"
    ++ codes "range 0 1 0\n"
    ++ codes "range 0 1 0\n"
    ++ codes "range 0 1 0\n"
    ++ codes "range 0 1 0\n"
    ++ codes "range 0 1 0\n"
    ++ codes "range 0 1 0\n"
    ++ text_end
    ++ codes "\n")

-- channels and ranges of wider texts: {wider}subdevice ai 4\nbits 8\n{range 0 1 0\n*33}{end}
abbrev pub Row_237_12 : Type 0
Row_237_12 =
    Refuses commands.Test
    (text_wider
    ++ codes "subdevice ai 4\n"
    ++ codes "bits 8\n"
    ++ codes "range 0 1 0\n"
    ++ codes "range 0 1 0\n"
    ++ codes "range 0 1 0\n"
    ++ codes "range 0 1 0\n"
    ++ codes "range 0 1 0\n"
    ++ codes "range 0 1 0\n"
    ++ codes "range 0 1 0\n"
    ++ codes "range 0 1 0\n"
    ++ codes "range 0 1 0\n"
    ++ codes "range 0 1 0\n"
    ++ codes "range 0 1 0\n"
    ++ codes "range 0 1 0\n"
    ++ codes "range 0 1 0\n"
    ++ codes "range 0 1 0\n"
    ++ codes "range 0 1 0\n"
    ++ codes "range 0 1 0\n"
    ++ codes "range 0 1 0\n"
    ++ codes "range 0 1 0\n"
    ++ codes "range 0 1 0\n"
    ++ codes "range 0 1 0\n"
    ++ codes "range 0 1 0\n"
    ++ codes "range 0 1 0\n"
    ++ codes "range 0 1 0\n"
    ++ codes "range 0 1 0\n"
    ++ codes "range 0 1 0\n"
    ++ codes "range 0 1 0\n"
    ++ codes "range 0 1 0\n"
    ++ codes "range 0 1 0\n"
    ++ codes "range 0 1 0\n"
    ++ codes "range 0 1 0\n"
    ++ codes "range 0 1 0\n"
    ++ codes "range 0 1 0\n"
    ++ codes "range 0 1 0\n"
    ++ text_end
    ++ codes "\n")
    (codes "refused 37 Limit\n")

-- channels and ranges of wider texts: {wider}subdevice ai 4\nbits 8\nrange 0 1 0\n{chan 3 range 0
abbrev pub Row_237_13 : Type 0
Row_237_13 =
    Accepts commands.Test
    (text_wider
    ++ codes "subdevice ai 4\n"
    ++ codes "bits 8\n"
    ++ codes "range 0 1 0\n"
    ++ codes "chan 3 range 0 1 0\n"
    ++ codes "chan 3 range 0 1 0\n"
    ++ codes "chan 3 range 0 1 0\n"
    ++ codes "chan 3 range 0 1 0\n"
    ++ codes "chan 3 range 0 1 0\n"
    ++ codes "chan 3 range 0 1 0\n"
    ++ codes "chan 3 range 0 1 0\n"
    ++ codes "chan 3 range 0 1 0\n"
    ++ codes "chan 3 range 0 1 0\n"
    ++ codes "chan 3 range 0 1 0\n"
    ++ codes "chan 3 range 0 1 0\n"
    ++ codes "chan 3 range 0 1 0\n"
    ++ codes "chan 3 range 0 1 0\n"
    ++ codes "chan 3 range 0 1 0\n"
    ++ codes "chan 3 range 0 1 0\n"
    ++ codes "chan 3 range 0 1 0\n"
    ++ codes "chan 3 range 0 1 0\n"
    ++ codes "chan 3 range 0 1 0\n"
    ++ codes "chan 3 range 0 1 0\n"
    ++ codes "chan 3 range 0 1 0\n"
    ++ codes "chan 3 range 0 1 0\n"
    ++ codes "chan 3 range 0 1 0\n"
    ++ codes "chan 3 range 0 1 0\n"
    ++ codes "chan 3 range 0 1 0\n"
    ++ codes "chan 3 range 0 1 0\n"
    ++ codes "chan 3 range 0 1 0\n"
    ++ codes "chan 3 range 0 1 0\n"
    ++ codes "chan 3 range 0 1 0\n"
    ++ codes "chan 3 range 0 1 0\n"
    ++ codes "chan 3 range 0 1 0\n"
    ++ codes "chan 3 range 0 1 0\n"
    ++ codes "chan 3 range 0 1 0\n"
    ++ text_end
    ++ codes "\n")

-- channels and ranges of wider texts: {wider}subdevice ai 4\nbits 8\nrange 0 1 0\n{chan 3 range 0
abbrev pub Row_237_14 : Type 0
Row_237_14 =
    Refuses commands.Test
    (text_wider
    ++ codes "subdevice ai 4\n"
    ++ codes "bits 8\n"
    ++ codes "range 0 1 0\n"
    ++ codes "chan 3 range 0 1 0\n"
    ++ codes "chan 3 range 0 1 0\n"
    ++ codes "chan 3 range 0 1 0\n"
    ++ codes "chan 3 range 0 1 0\n"
    ++ codes "chan 3 range 0 1 0\n"
    ++ codes "chan 3 range 0 1 0\n"
    ++ codes "chan 3 range 0 1 0\n"
    ++ codes "chan 3 range 0 1 0\n"
    ++ codes "chan 3 range 0 1 0\n"
    ++ codes "chan 3 range 0 1 0\n"
    ++ codes "chan 3 range 0 1 0\n"
    ++ codes "chan 3 range 0 1 0\n"
    ++ codes "chan 3 range 0 1 0\n"
    ++ codes "chan 3 range 0 1 0\n"
    ++ codes "chan 3 range 0 1 0\n"
    ++ codes "chan 3 range 0 1 0\n"
    ++ codes "chan 3 range 0 1 0\n"
    ++ codes "chan 3 range 0 1 0\n"
    ++ codes "chan 3 range 0 1 0\n"
    ++ codes "chan 3 range 0 1 0\n"
    ++ codes "chan 3 range 0 1 0\n"
    ++ codes "chan 3 range 0 1 0\n"
    ++ codes "chan 3 range 0 1 0\n"
    ++ codes "chan 3 range 0 1 0\n"
    ++ codes "chan 3 range 0 1 0\n"
    ++ codes "chan 3 range 0 1 0\n"
    ++ codes "chan 3 range 0 1 0\n"
    ++ codes "chan 3 range 0 1 0\n"
    ++ codes "chan 3 range 0 1 0\n"
    ++ codes "chan 3 range 0 1 0\n"
    ++ codes "chan 3 range 0 1 0\n"
    ++ codes "chan 3 range 0 1 0\n"
    ++ codes "chan 3 range 0 1 0\n"
    ++ text_end
    ++ codes "\n")
    (codes "refused 38 Limit\n")

-- channels and ranges of wider texts: {wider}subdevice ai 4\nbits 8\n{range 0 1 0\n*32}range 1 0 0
abbrev pub Row_237_15 : Type 0
Row_237_15 =
    Refuses commands.Test
    (text_wider
    ++ codes "subdevice ai 4\n"
    ++ codes "bits 8\n"
    ++ codes "range 0 1 0\n"
    ++ codes "range 0 1 0\n"
    ++ codes "range 0 1 0\n"
    ++ codes "range 0 1 0\n"
    ++ codes "range 0 1 0\n"
    ++ codes "range 0 1 0\n"
    ++ codes "range 0 1 0\n"
    ++ codes "range 0 1 0\n"
    ++ codes "range 0 1 0\n"
    ++ codes "range 0 1 0\n"
    ++ codes "range 0 1 0\n"
    ++ codes "range 0 1 0\n"
    ++ codes "range 0 1 0\n"
    ++ codes "range 0 1 0\n"
    ++ codes "range 0 1 0\n"
    ++ codes "range 0 1 0\n"
    ++ codes "range 0 1 0\n"
    ++ codes "range 0 1 0\n"
    ++ codes "range 0 1 0\n"
    ++ codes "range 0 1 0\n"
    ++ codes "range 0 1 0\n"
    ++ codes "range 0 1 0\n"
    ++ codes "range 0 1 0\n"
    ++ codes "range 0 1 0\n"
    ++ codes "range 0 1 0\n"
    ++ codes "range 0 1 0\n"
    ++ codes "range 0 1 0\n"
    ++ codes "range 0 1 0\n"
    ++ codes "range 0 1 0\n"
    ++ codes "range 0 1 0\n"
    ++ codes "range 0 1 0\n"
    ++ codes "range 0 1 0\n"
    ++ codes "range 1 0 0\n"
    ++ codes "\n")
    (codes "refused 37 Limit\n")

-- channels and ranges of wider texts: comedi 2\nboard x\nsubdevice ai 65\n
abbrev pub Row_237_16 : Type 0
Row_237_16 =
    Refuses commands.Test
    (codes "comedi 2\n" ++ codes "board x\n" ++ codes "subdevice ai 65\n" ++ codes "\n")
    (codes "refused 3 Limit\n")

-- channels and ranges of wider texts: comedi 2\nboard x\nsubdevice ai 257\n
abbrev pub Row_237_17 : Type 0
Row_237_17 =
    Refuses commands.Test
    (codes "comedi 2\n" ++ codes "board x\n" ++ codes "subdevice ai 257\n" ++ codes "\n")
    (codes "refused 3 Limit\n")

-- channels and ranges of wider texts: comedi 2\nboard x\nsubdevice ai 4\nbits 8\n{range 0 1 0\n*16
abbrev pub Row_237_18 : Type 0
Row_237_18 =
    Accepts commands.Test
    (codes "comedi 2\n"
    ++ codes "board x\n"
    ++ codes "subdevice ai 4\n"
    ++ codes "bits 8\n"
    ++ codes "range 0 1 0\n"
    ++ codes "range 0 1 0\n"
    ++ codes "range 0 1 0\n"
    ++ codes "range 0 1 0\n"
    ++ codes "range 0 1 0\n"
    ++ codes "range 0 1 0\n"
    ++ codes "range 0 1 0\n"
    ++ codes "range 0 1 0\n"
    ++ codes "range 0 1 0\n"
    ++ codes "range 0 1 0\n"
    ++ codes "range 0 1 0\n"
    ++ codes "range 0 1 0\n"
    ++ codes "range 0 1 0\n"
    ++ codes "range 0 1 0\n"
    ++ codes "range 0 1 0\n"
    ++ codes "range 0 1 0\n"
    ++ text_end
    ++ codes "\n")

-- channels and ranges of wider texts: comedi 2\nboard x\nsubdevice ai 4\nbits 8\n{range 0 1 0\n*17
abbrev pub Row_237_19 : Type 0
Row_237_19 =
    Refuses commands.Test
    (codes "comedi 2\n"
    ++ codes "board x\n"
    ++ codes "subdevice ai 4\n"
    ++ codes "bits 8\n"
    ++ codes "range 0 1 0\n"
    ++ codes "range 0 1 0\n"
    ++ codes "range 0 1 0\n"
    ++ codes "range 0 1 0\n"
    ++ codes "range 0 1 0\n"
    ++ codes "range 0 1 0\n"
    ++ codes "range 0 1 0\n"
    ++ codes "range 0 1 0\n"
    ++ codes "range 0 1 0\n"
    ++ codes "range 0 1 0\n"
    ++ codes "range 0 1 0\n"
    ++ codes "range 0 1 0\n"
    ++ codes "range 0 1 0\n"
    ++ codes "range 0 1 0\n"
    ++ codes "range 0 1 0\n"
    ++ codes "range 0 1 0\n"
    ++ codes "range 0 1 0\n"
    ++ text_end
    ++ codes "\n")
    (codes "refused 21 Limit\n")

-- channels and ranges of wider texts: comedi 2\nboard x\nsubdevice ai 4\nbits 8\nrange 0 1 0\n{cha
abbrev pub Row_237_20 : Type 0
Row_237_20 =
    Accepts commands.Test
    (codes "comedi 2\n"
    ++ codes "board x\n"
    ++ codes "subdevice ai 4\n"
    ++ codes "bits 8\n"
    ++ codes "range 0 1 0\n"
    ++ codes "chan 3 range 0 1 0\n"
    ++ codes "chan 3 range 0 1 0\n"
    ++ codes "chan 3 range 0 1 0\n"
    ++ codes "chan 3 range 0 1 0\n"
    ++ codes "chan 3 range 0 1 0\n"
    ++ codes "chan 3 range 0 1 0\n"
    ++ codes "chan 3 range 0 1 0\n"
    ++ codes "chan 3 range 0 1 0\n"
    ++ codes "chan 3 range 0 1 0\n"
    ++ codes "chan 3 range 0 1 0\n"
    ++ codes "chan 3 range 0 1 0\n"
    ++ codes "chan 3 range 0 1 0\n"
    ++ codes "chan 3 range 0 1 0\n"
    ++ codes "chan 3 range 0 1 0\n"
    ++ codes "chan 3 range 0 1 0\n"
    ++ codes "chan 3 range 0 1 0\n"
    ++ text_end
    ++ codes "\n")

-- channels and ranges of wider texts: comedi 2\nboard x\nsubdevice ai 4\nbits 8\nrange 0 1 0\n{cha
abbrev pub Row_237_21 : Type 0
Row_237_21 =
    Refuses commands.Test
    (codes "comedi 2\n"
    ++ codes "board x\n"
    ++ codes "subdevice ai 4\n"
    ++ codes "bits 8\n"
    ++ codes "range 0 1 0\n"
    ++ codes "chan 3 range 0 1 0\n"
    ++ codes "chan 3 range 0 1 0\n"
    ++ codes "chan 3 range 0 1 0\n"
    ++ codes "chan 3 range 0 1 0\n"
    ++ codes "chan 3 range 0 1 0\n"
    ++ codes "chan 3 range 0 1 0\n"
    ++ codes "chan 3 range 0 1 0\n"
    ++ codes "chan 3 range 0 1 0\n"
    ++ codes "chan 3 range 0 1 0\n"
    ++ codes "chan 3 range 0 1 0\n"
    ++ codes "chan 3 range 0 1 0\n"
    ++ codes "chan 3 range 0 1 0\n"
    ++ codes "chan 3 range 0 1 0\n"
    ++ codes "chan 3 range 0 1 0\n"
    ++ codes "chan 3 range 0 1 0\n"
    ++ codes "chan 3 range 0 1 0\n"
    ++ codes "chan 3 range 0 1 0\n"
    ++ text_end
    ++ codes "\n")
    (codes "refused 22 Limit\n")

-- times, lists and buffers of wider texts: tick 1\nscan 1 4000000001\nconvert 1 1\nlist 1\nbuffer 1\n{e
abbrev pub Row_260_2 : Type 0
Row_260_2 =
    Accepts commands.Test
    (text_wider-input
    ++ codes "tick 1\n"
    ++ codes "scan 1 4000000001\n"
    ++ codes "convert 1 1\n"
    ++ codes "list 1\n"
    ++ codes "buffer 1\n"
    ++ text_end
    ++ codes "\n")

-- times, lists and buffers of wider texts: tick 1\nscan 1 4294967295\nconvert 1 4294967295\nlist 1\nbuf
abbrev pub Row_260_3 : Type 0
Row_260_3 =
    Accepts commands.Test
    (text_wider-input
    ++ codes "tick 1\n"
    ++ codes "scan 1 4294967295\n"
    ++ codes "convert 1 4294967295\n"
    ++ codes "list 1\n"
    ++ codes "buffer 1\n"
    ++ text_end
    ++ codes "\n")

-- times, lists and buffers of wider texts: tick 1\nscan 4294967295 4294967295\nconvert 1 1\nlist 1\nbuf
abbrev pub Row_260_4 : Type 0
Row_260_4 =
    Accepts commands.Test
    (text_wider-input
    ++ codes "tick 1\n"
    ++ codes "scan 4294967295 4294967295\n"
    ++ codes "convert 1 1\n"
    ++ codes "list 1\n"
    ++ codes "buffer 1\n"
    ++ text_end
    ++ codes "\n")

-- times, lists and buffers of wider texts: tick 1\nscan 1 4294967296\n
abbrev pub Row_260_5 : Type 0
Row_260_5 =
    Refuses commands.Test
    (text_wider-input ++ codes "tick 1\n" ++ codes "scan 1 4294967296\n" ++ codes "\n")
    (codes "refused 8 Limit\n")

-- times, lists and buffers of wider texts: tick 1\nscan 0 4294967295\n
abbrev pub Row_260_6 : Type 0
Row_260_6 =
    Refuses commands.Test
    (text_wider-input ++ codes "tick 1\n" ++ codes "scan 0 4294967295\n" ++ codes "\n")
    (codes "refused 8 Limit\n")

-- times, lists and buffers of wider texts: tick 1\nscan 1 1\nconvert 1 4294967296\n
abbrev pub Row_260_7 : Type 0
Row_260_7 =
    Refuses commands.Test
    (text_wider-input
    ++ codes "tick 1\n"
    ++ codes "scan 1 1\n"
    ++ codes "convert 1 4294967296\n"
    ++ codes "\n")
    (codes "refused 9 Limit\n")

-- times, lists and buffers of wider texts: tick 1\nscan 1 4294967295\nconvert 4294967295 4294967295\nli
abbrev pub Row_260_8 : Type 0
Row_260_8 =
    Accepts commands.Test
    (text_wider-input
    ++ codes "tick 1\n"
    ++ codes "scan 1 4294967295\n"
    ++ codes "convert 4294967295 4294967295\n"
    ++ codes "list 1\n"
    ++ codes "buffer 1\n"
    ++ text_end
    ++ codes "\n")

-- times, lists and buffers of wider texts: tick 1\nscan 1 4294967295\nconvert 4294967295 4294967295\nli
abbrev pub Row_260_9 : Type 0
Row_260_9 =
    Refuses commands.Test
    (text_wider-input
    ++ codes "tick 1\n"
    ++ codes "scan 1 4294967295\n"
    ++ codes "convert 4294967295 4294967295\n"
    ++ codes "list 2\n"
    ++ codes "buffer 1\n"
    ++ text_end
    ++ codes "\n")
    (codes "refused 12 Bad\n")

-- times, lists and buffers of wider texts: tick 1000000000\nscan 1 4294967295\nconvert 1 4294967295\nli
abbrev pub Row_260_10 : Type 0
Row_260_10 =
    Accepts commands.Test
    (text_wider-input
    ++ codes "tick 1000000000\n"
    ++ codes "scan 1 4294967295\n"
    ++ codes "convert 1 4294967295\n"
    ++ codes "list 4\n"
    ++ codes "buffer 1\n"
    ++ text_end
    ++ codes "\n")

-- times, lists and buffers of wider texts: tick 1000000000\nscan 1 4294967295\nconvert 1 4294967295\nli
abbrev pub Row_260_11 : Type 0
Row_260_11 =
    Refuses commands.Test
    (text_wider-input
    ++ codes "tick 1000000000\n"
    ++ codes "scan 1 4294967295\n"
    ++ codes "convert 1 4294967295\n"
    ++ codes "list 5\n"
    ++ codes "buffer 1\n"
    ++ text_end
    ++ codes "\n")
    (codes "refused 12 Bad\n")

-- times, lists and buffers of wider texts: tick 1000000000\nscan 4000000001 4294967295\nconvert 1 1\nli
abbrev pub Row_260_12 : Type 0
Row_260_12 =
    Refuses commands.Test
    (text_wider-input
    ++ codes "tick 1000000000\n"
    ++ codes "scan 4000000001 4294967295\n"
    ++ codes "convert 1 1\n"
    ++ codes "list 1\n"
    ++ codes "buffer 1\n"
    ++ text_end
    ++ codes "\n")
    (codes "refused 12 Bad\n")

-- times, lists and buffers of wider texts: tick 1000000001\n
abbrev pub Row_260_13 : Type 0
Row_260_13 =
    Refuses commands.Test
    (text_wider-input ++ codes "tick 1000000001\n" ++ codes "\n")
    (codes "refused 7 Limit\n")

-- times, lists and buffers of wider texts: tick 1\nscan 1 1024\nconvert 1 1\nlist 1024\nbuffer 1\n{end}
abbrev pub Row_260_14 : Type 0
Row_260_14 =
    Accepts commands.Test
    (text_wider-input
    ++ codes "tick 1\n"
    ++ codes "scan 1 1024\n"
    ++ codes "convert 1 1\n"
    ++ codes "list 1024\n"
    ++ codes "buffer 1\n"
    ++ text_end
    ++ codes "\n")

-- times, lists and buffers of wider texts: tick 1\nscan 1 1023\nconvert 1 1\nlist 1024\nbuffer 1\n{end}
abbrev pub Row_260_15 : Type 0
Row_260_15 =
    Refuses commands.Test
    (text_wider-input
    ++ codes "tick 1\n"
    ++ codes "scan 1 1023\n"
    ++ codes "convert 1 1\n"
    ++ codes "list 1024\n"
    ++ codes "buffer 1\n"
    ++ text_end
    ++ codes "\n")
    (codes "refused 12 Bad\n")

-- times, lists and buffers of wider texts: tick 1\nscan 1 1024\nconvert 1 1\nlist 1025\n
abbrev pub Row_260_16 : Type 0
Row_260_16 =
    Refuses commands.Test
    (text_wider-input
    ++ codes "tick 1\n"
    ++ codes "scan 1 1024\n"
    ++ codes "convert 1 1\n"
    ++ codes "list 1025\n"
    ++ codes "\n")
    (codes "refused 10 Limit\n")

-- times, lists and buffers of wider texts: tick 1\nscan 1 1\nconvert 1 1\nlist 1\nscans 4294967295\nbuf
abbrev pub Row_260_17 : Type 0
Row_260_17 =
    Accepts commands.Test
    (text_wider-input
    ++ codes "tick 1\n"
    ++ codes "scan 1 1\n"
    ++ codes "convert 1 1\n"
    ++ codes "list 1\n"
    ++ codes "scans 4294967295\n"
    ++ codes "buffer 1\n"
    ++ text_end
    ++ codes "\n")

-- times, lists and buffers of wider texts: tick 1\nscan 1 1\nconvert 1 1\nlist 1\nscans 4294967296\n
abbrev pub Row_260_18 : Type 0
Row_260_18 =
    Refuses commands.Test
    (text_wider-input
    ++ codes "tick 1\n"
    ++ codes "scan 1 1\n"
    ++ codes "convert 1 1\n"
    ++ codes "list 1\n"
    ++ codes "scans 4294967296\n"
    ++ codes "\n")
    (codes "refused 11 Limit\n")

-- times, lists and buffers of wider texts: tick 1\nscan 1 1\nconvert 1 1\nlist 1\nscans 0\n
abbrev pub Row_260_19 : Type 0
Row_260_19 =
    Refuses commands.Test
    (text_wider-input
    ++ codes "tick 1\n"
    ++ codes "scan 1 1\n"
    ++ codes "convert 1 1\n"
    ++ codes "list 1\n"
    ++ codes "scans 0\n"
    ++ codes "\n")
    (codes "refused 11 Limit\n")

-- times, lists and buffers of wider texts: tick 1\nscan 1 1\nconvert 1 1\nlist 1\nlines 17\nbuffer 1\n{
abbrev pub Row_260_20 : Type 0
Row_260_20 =
    Accepts commands.Test
    (text_wider-input
    ++ codes "tick 1\n"
    ++ codes "scan 1 1\n"
    ++ codes "convert 1 1\n"
    ++ codes "list 1\n"
    ++ codes "lines 17\n"
    ++ codes "buffer 1\n"
    ++ text_end
    ++ codes "\n")

-- times, lists and buffers of wider texts: tick 1\nscan 1 1\nconvert 1 1\nlist 1\nlines 64\nbuffer 1\n{
abbrev pub Row_260_21 : Type 0
Row_260_21 =
    Accepts commands.Test
    (text_wider-input
    ++ codes "tick 1\n"
    ++ codes "scan 1 1\n"
    ++ codes "convert 1 1\n"
    ++ codes "list 1\n"
    ++ codes "lines 64\n"
    ++ codes "buffer 1\n"
    ++ text_end
    ++ codes "\n")

-- times, lists and buffers of wider texts: tick 1\nscan 1 1\nconvert 1 1\nlist 1\nlines 65\n
abbrev pub Row_260_22 : Type 0
Row_260_22 =
    Refuses commands.Test
    (text_wider-input
    ++ codes "tick 1\n"
    ++ codes "scan 1 1\n"
    ++ codes "convert 1 1\n"
    ++ codes "list 1\n"
    ++ codes "lines 65\n"
    ++ codes "\n")
    (codes "refused 11 Limit\n")

-- times, lists and buffers of wider texts: tick 1\nscan 1 1\nconvert 1 1\nlist 1\nlines 1\nbuffer 65537
abbrev pub Row_260_23 : Type 0
Row_260_23 =
    Accepts commands.Test
    (text_wider-input
    ++ codes "tick 1\n"
    ++ codes "scan 1 1\n"
    ++ codes "convert 1 1\n"
    ++ codes "list 1\n"
    ++ codes "lines 1\n"
    ++ codes "buffer 65537\n"
    ++ text_end
    ++ codes "\n")

-- times, lists and buffers of wider texts: tick 1\nscan 1 1\nconvert 1 1\nlist 1\nlines 1\nbuffer 10485
abbrev pub Row_260_24 : Type 0
Row_260_24 =
    Accepts commands.Test
    (text_wider-input
    ++ codes "tick 1\n"
    ++ codes "scan 1 1\n"
    ++ codes "convert 1 1\n"
    ++ codes "list 1\n"
    ++ codes "lines 1\n"
    ++ codes "buffer 1048576\n"
    ++ text_end
    ++ codes "\n")

-- times, lists and buffers of wider texts: tick 1\nscan 1 1\nconvert 1 1\nlist 1\nbuffer 1048577\n
abbrev pub Row_260_25 : Type 0
Row_260_25 =
    Refuses commands.Test
    (text_wider-input
    ++ codes "tick 1\n"
    ++ codes "scan 1 1\n"
    ++ codes "convert 1 1\n"
    ++ codes "list 1\n"
    ++ codes "buffer 1048577\n"
    ++ codes "\n")
    (codes "refused 11 Limit\n")

-- times, lists and buffers of wider texts: tick 1\nscan 1 1\nconvert 1 1\nlist 1\nlines 1\nbuffer 1\n{f
abbrev pub Row_260_26 : Type 0
Row_260_26 =
    Accepts commands.Test
    (text_wider-input
    ++ codes "tick 1\n"
    ++ codes "scan 1 1\n"
    ++ codes "convert 1 1\n"
    ++ codes "list 1\n"
    ++ codes "lines 1\n"
    ++ codes "buffer 1\n"
    ++ codes "forbid start now stop count\n"
    ++ codes "forbid start now stop count\n"
    ++ codes "forbid start now stop count\n"
    ++ codes "forbid start now stop count\n"
    ++ codes "forbid start now stop count\n"
    ++ codes "forbid start now stop count\n"
    ++ codes "forbid start now stop count\n"
    ++ codes "forbid start now stop count\n"
    ++ codes "forbid start now stop count\n"
    ++ codes "forbid start now stop count\n"
    ++ codes "forbid start now stop count\n"
    ++ codes "forbid start now stop count\n"
    ++ codes "forbid start now stop count\n"
    ++ codes "forbid start now stop count\n"
    ++ codes "forbid start now stop count\n"
    ++ codes "forbid start now stop count\n"
    ++ text_end
    ++ codes "\n")

-- times, lists and buffers of wider texts: tick 1\nscan 1 1\nconvert 1 1\nlist 1\nlines 1\nbuffer 1\n{f
abbrev pub Row_260_27 : Type 0
Row_260_27 =
    Refuses commands.Test
    (text_wider-input
    ++ codes "tick 1\n"
    ++ codes "scan 1 1\n"
    ++ codes "convert 1 1\n"
    ++ codes "list 1\n"
    ++ codes "lines 1\n"
    ++ codes "buffer 1\n"
    ++ codes "forbid start now stop count\n"
    ++ codes "forbid start now stop count\n"
    ++ codes "forbid start now stop count\n"
    ++ codes "forbid start now stop count\n"
    ++ codes "forbid start now stop count\n"
    ++ codes "forbid start now stop count\n"
    ++ codes "forbid start now stop count\n"
    ++ codes "forbid start now stop count\n"
    ++ codes "forbid start now stop count\n"
    ++ codes "forbid start now stop count\n"
    ++ codes "forbid start now stop count\n"
    ++ codes "forbid start now stop count\n"
    ++ codes "forbid start now stop count\n"
    ++ codes "forbid start now stop count\n"
    ++ codes "forbid start now stop count\n"
    ++ codes "forbid start now stop count\n"
    ++ codes "forbid start now stop count\n"
    ++ text_end
    ++ codes "\n")
    (codes "refused 29 Limit\n")

-- times, lists and buffers of wider texts: tick 1\nscan 1 1\nconvert 1 1\nlist 1\nlines 1\nbuffer 1\nfi
abbrev pub Row_260_28 : Type 0
Row_260_28 =
    Accepts commands.Test
    (text_wider-input
    ++ codes "tick 1\n"
    ++ codes "scan 1 1\n"
    ++ codes "convert 1 1\n"
    ++ codes "list 1\n"
    ++ codes "lines 1\n"
    ++ codes "buffer 1\n"
    ++ codes "fifo 4096 0\n"
    ++ text_end
    ++ codes "\n")

-- times, lists and buffers of wider texts: tick 1\nscan 1 1\nconvert 1 1\nlist 1\nlines 1\nbuffer 1\nfi
abbrev pub Row_260_29 : Type 0
Row_260_29 =
    Refuses commands.Test
    (text_wider-input
    ++ codes "tick 1\n"
    ++ codes "scan 1 1\n"
    ++ codes "convert 1 1\n"
    ++ codes "list 1\n"
    ++ codes "lines 1\n"
    ++ codes "buffer 1\n"
    ++ codes "fifo 4098 0\n"
    ++ codes "\n")
    (codes "refused 13 Limit\n")

-- all of them
pub record AreLimits : Type 0 where
  pub row_48_1 : Row_48_1
  pub row_48_2 : Row_48_2
  pub row_48_3 : Row_48_3
  pub row_48_4 : Row_48_4
  pub row_48_5 : Row_48_5
  pub row_48_6 : Row_48_6
  pub row_56_2 : Row_56_2
  pub row_56_3 : Row_56_3
  pub row_56_4 : Row_56_4
  pub row_56_5 : Row_56_5
  pub row_56_6 : Row_56_6
  pub row_56_7 : Row_56_7
  pub row_56_8 : Row_56_8
  pub row_56_9 : Row_56_9
  pub row_56_10 : Row_56_10
  pub row_77_2 : Row_77_2
  pub row_77_3 : Row_77_3
  pub row_77_4 : Row_77_4
  pub row_77_5 : Row_77_5
  pub row_77_6 : Row_77_6
  pub row_77_7 : Row_77_7
  pub row_77_8 : Row_77_8
  pub row_77_9 : Row_77_9
  pub row_77_10 : Row_77_10
  pub row_77_11 : Row_77_11
  pub row_77_12 : Row_77_12
  pub row_77_13 : Row_77_13
  pub row_77_14 : Row_77_14
  pub row_77_15 : Row_77_15
  pub row_77_16 : Row_77_16
  pub row_77_17 : Row_77_17
  pub row_96_2 : Row_96_2
  pub row_96_3 : Row_96_3
  pub row_101_2 : Row_101_2
  pub row_101_3 : Row_101_3
  pub row_110_2 : Row_110_2
  pub row_110_3 : Row_110_3
  pub row_110_4 : Row_110_4
  pub row_110_5 : Row_110_5
  pub row_110_6 : Row_110_6
  pub row_110_7 : Row_110_7
  pub row_110_8 : Row_110_8
  pub row_110_9 : Row_110_9
  pub row_110_10 : Row_110_10
  pub row_110_11 : Row_110_11
  pub row_110_12 : Row_110_12
  pub row_110_13 : Row_110_13
  pub row_110_14 : Row_110_14
  pub row_110_15 : Row_110_15
  pub row_110_16 : Row_110_16
  pub row_110_17 : Row_110_17
  pub row_110_18 : Row_110_18
  pub row_110_19 : Row_110_19
  pub row_110_20 : Row_110_20
  pub row_110_21 : Row_110_21
  pub row_110_22 : Row_110_22
  pub row_110_23 : Row_110_23
  pub row_110_25 : Row_110_25
  pub row_110_26 : Row_110_26
  pub row_159_2 : Row_159_2
  pub row_159_3 : Row_159_3
  pub row_164_2 : Row_164_2
  pub row_164_3 : Row_164_3
  pub row_164_4 : Row_164_4
  pub row_164_5 : Row_164_5
  pub row_164_6 : Row_164_6
  pub row_185_2 : Row_185_2
  pub row_185_3 : Row_185_3
  pub row_185_4 : Row_185_4
  pub row_185_5 : Row_185_5
  pub row_185_6 : Row_185_6
  pub row_185_7 : Row_185_7
  pub row_185_8 : Row_185_8
  pub row_185_9 : Row_185_9
  pub row_185_10 : Row_185_10
  pub row_237_1 : Row_237_1
  pub row_237_2 : Row_237_2
  pub row_237_3 : Row_237_3
  pub row_237_4 : Row_237_4
  pub row_237_5 : Row_237_5
  pub row_237_6 : Row_237_6
  pub row_237_7 : Row_237_7
  pub row_237_8 : Row_237_8
  pub row_237_9 : Row_237_9
  pub row_237_10 : Row_237_10
  pub row_237_11 : Row_237_11
  pub row_237_12 : Row_237_12
  pub row_237_13 : Row_237_13
  pub row_237_14 : Row_237_14
  pub row_237_15 : Row_237_15
  pub row_237_16 : Row_237_16
  pub row_237_17 : Row_237_17
  pub row_237_18 : Row_237_18
  pub row_237_19 : Row_237_19
  pub row_237_20 : Row_237_20
  pub row_237_21 : Row_237_21
  pub row_260_2 : Row_260_2
  pub row_260_3 : Row_260_3
  pub row_260_4 : Row_260_4
  pub row_260_5 : Row_260_5
  pub row_260_6 : Row_260_6
  pub row_260_7 : Row_260_7
  pub row_260_8 : Row_260_8
  pub row_260_9 : Row_260_9
  pub row_260_10 : Row_260_10
  pub row_260_11 : Row_260_11
  pub row_260_12 : Row_260_12
  pub row_260_13 : Row_260_13
  pub row_260_14 : Row_260_14
  pub row_260_15 : Row_260_15
  pub row_260_16 : Row_260_16
  pub row_260_17 : Row_260_17
  pub row_260_18 : Row_260_18
  pub row_260_19 : Row_260_19
  pub row_260_20 : Row_260_20
  pub row_260_21 : Row_260_21
  pub row_260_22 : Row_260_22
  pub row_260_23 : Row_260_23
  pub row_260_24 : Row_260_24
  pub row_260_25 : Row_260_25
  pub row_260_26 : Row_260_26
  pub row_260_27 : Row_260_27
  pub row_260_28 : Row_260_28
  pub row_260_29 : Row_260_29
