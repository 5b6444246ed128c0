-- Made by tools/make_examples: the examples of `tests/limits_lines.rows`
use Rattle.std.specs.Prelude.{codes, ℕ, List, ◌++◌}
use Rattle.cm_cli.specs.declared.command.Command.TheVariants as commands
use Rattle.cm_examples.specs.Answering.{Accepts, Answers, Refuses}

-- the text `board`
abbrev pub text_board : List ℕ
text_board =
    codes "board x\n"
    ++ codes "subdevice ai 4\n"
    ++ codes "bits 8\n"
    ++ codes "range 0 255 0\n"
    ++ codes "sources now|ext timer|ext now count none|count\n"
    ++ codes "tick 1\n"
    ++ codes "scan 1 4000000000\n"
    ++ codes "convert 1 1\n"
    ++ codes "list 256\n"
    ++ codes "lines 1\n"
    ++ codes "buffer 1000\n"
    ++ codes "subdevice ao 1\n"
    ++ codes "bits 8\n"
    ++ codes "range 0 255 0\n"
    ++ codes "sources ext timer now count count\n"
    ++ codes "tick 1\n"
    ++ codes "scan 1 1000000\n"
    ++ codes "convert 1 1\n"
    ++ codes "list 1\n"
    ++ codes "lines 1\n"
    ++ codes "buffer 8\n"

-- the text `wide`
abbrev pub text_wide : List ℕ
text_wide =
    codes "zendrouz 1\n"
    ++ codes "board x\n"
    ++ codes "subdevice ai 4\n"
    ++ codes "bits 8\n"
    ++ codes "range 0 255 0\n"
    ++ codes "sources now|ext timer|ext now count none|count\n"
    ++ codes "tick 1\n"
    ++ codes "scan 2000 4294967295\n"
    ++ codes "convert 1 1\n"
    ++ codes "list 1024\n"
    ++ codes "lines 64\n"
    ++ codes "buffer 2000\n"

-- the horizon: comedi 1\n{board}signals 1000000000001\nsession
abbrev pub Row_44_1 : Type 0
Row_44_1 =
    Refuses commands.Test
    (codes "comedi 1\n" ++ text_board ++ codes "signals 1000000000001\n" ++ codes "session\n")
    (codes "refused 23 Limit\n")

-- the horizon: comedi 2\n{board}signals 1000000000000\nsession
abbrev pub Row_44_2 : Type 0
Row_44_2 =
    Accepts commands.Test
    (codes "comedi 2\n" ++ text_board ++ codes "signals 1000000000000\n" ++ codes "session\n")

-- the horizon: comedi 2\n{board}signals 1000000000001\nsession
abbrev pub Row_44_3 : Type 0
Row_44_3 =
    Refuses commands.Test
    (codes "comedi 2\n" ++ text_board ++ codes "signals 1000000000001\n" ++ codes "session\n")
    (codes "refused 23 Limit\n")

-- the horizon: zendrouz 1\n{board}signals 1000000000001\nsession
abbrev pub Row_44_4 : Type 0
Row_44_4 =
    Accepts commands.Test
    (codes "zendrouz 1\n"
    ++ text_board
    ++ codes "signals 1000000000001\n"
    ++ codes "session\n")

-- the horizon: zendrouz 1\n{board}signals 1000000000000000\nsession
abbrev pub Row_44_5 : Type 0
Row_44_5 =
    Accepts commands.Test
    (codes "zendrouz 1\n"
    ++ text_board
    ++ codes "signals 1000000000000000\n"
    ++ codes "session\n")

-- the horizon: zendrouz 1\n{board}signals 1000000000000001\nsession
abbrev pub Row_44_6 : Type 0
Row_44_6 =
    Refuses commands.Test
    (codes "zendrouz 1\n"
    ++ text_board
    ++ codes "signals 1000000000000001\n"
    ++ codes "session\n")
    (codes "refused 23 Limit\n")

-- times up to the horizon: {wide}signals 1000000000000000\nedges 63 1000000000000000\ns
abbrev pub Row_52_1 : Type 0
Row_52_1 =
    Accepts commands.Test
    (text_wide
    ++ codes "signals 1000000000000000\n"
    ++ codes "edges 63 1000000000000000\n"
    ++ codes "session\n")

-- times up to the horizon: {wide}signals 1000000000000000\nedges 63 1000000000000001\ns
abbrev pub Row_52_2 : Type 0
Row_52_2 =
    Refuses commands.Test
    (text_wide
    ++ codes "signals 1000000000000000\n"
    ++ codes "edges 63 1000000000000001\n"
    ++ codes "session\n")
    (codes "refused 14 Limit\n")

-- times up to the horizon: {wide}signals 1000000000000000\nint 0 1000000000000000 0\nse
abbrev pub Row_52_3 : Type 0
Row_52_3 =
    Accepts commands.Test
    (text_wide
    ++ codes "signals 1000000000000000\n"
    ++ codes "int 0 1000000000000000 0\n"
    ++ codes "session\n")

-- times up to the horizon: {wide}signals 1000000000000000\nint 0 1000000000000001 0\nse
abbrev pub Row_52_4 : Type 0
Row_52_4 =
    Refuses commands.Test
    (text_wide
    ++ codes "signals 1000000000000000\n"
    ++ codes "int 0 1000000000000001 0\n"
    ++ codes "session\n")
    (codes "refused 14 Limit\n")

-- the numbers of lines: comedi 2\n{board}signals 9\nedges 15 1\nsession
abbrev pub Row_58_1 : Type 0
Row_58_1 =
    Accepts commands.Test
    (codes "comedi 2\n"
    ++ text_board
    ++ codes "signals 9\n"
    ++ codes "edges 15 1\n"
    ++ codes "session\n")

-- the numbers of lines: comedi 2\n{board}signals 9\nedges 16 1\nsession
abbrev pub Row_58_2 : Type 0
Row_58_2 =
    Refuses commands.Test
    (codes "comedi 2\n"
    ++ text_board
    ++ codes "signals 9\n"
    ++ codes "edges 16 1\n"
    ++ codes "session\n")
    (codes "refused 24 Limit\n")

-- the numbers of lines: comedi 2\n{board}signals 9\nfalls 16 1\nsession
abbrev pub Row_58_3 : Type 0
Row_58_3 =
    Refuses commands.Test
    (codes "comedi 2\n"
    ++ text_board
    ++ codes "signals 9\n"
    ++ codes "falls 16 1\n"
    ++ codes "session\n")
    (codes "refused 24 Limit\n")

-- the numbers of lines: comedi 2\n{board}signals 9\nevery 16 0 1 1\nsession
abbrev pub Row_58_4 : Type 0
Row_58_4 =
    Refuses commands.Test
    (codes "comedi 2\n"
    ++ text_board
    ++ codes "signals 9\n"
    ++ codes "every 16 0 1 1\n"
    ++ codes "session\n")
    (codes "refused 24 Limit\n")

-- the numbers of lines: zendrouz 1\n{board}signals 9\nedges 16 1\nsession
abbrev pub Row_58_5 : Type 0
Row_58_5 =
    Accepts commands.Test
    (codes "zendrouz 1\n"
    ++ text_board
    ++ codes "signals 9\n"
    ++ codes "edges 16 1\n"
    ++ codes "session\n")

-- the numbers of lines: zendrouz 1\n{board}signals 9\nedges 63 1\nfalls 63 1\nevery
abbrev pub Row_58_6 : Type 0
Row_58_6 =
    Accepts commands.Test
    (codes "zendrouz 1\n"
    ++ text_board
    ++ codes "signals 9\n"
    ++ codes "edges 63 1\n"
    ++ codes "falls 63 1\n"
    ++ codes "every 62 0 1 1\n"
    ++ codes "session\n")

-- the numbers of lines: zendrouz 1\n{board}signals 9\nedges 64 1\nsession
abbrev pub Row_58_7 : Type 0
Row_58_7 =
    Refuses commands.Test
    (codes "zendrouz 1\n"
    ++ text_board
    ++ codes "signals 9\n"
    ++ codes "edges 64 1\n"
    ++ codes "session\n")
    (codes "refused 24 Limit\n")

-- the numbers of lines: zendrouz 1\n{board}signals 9\nfalls 64 1\nsession
abbrev pub Row_58_8 : Type 0
Row_58_8 =
    Refuses commands.Test
    (codes "zendrouz 1\n"
    ++ text_board
    ++ codes "signals 9\n"
    ++ codes "falls 64 1\n"
    ++ codes "session\n")
    (codes "refused 24 Limit\n")

-- the numbers of lines: zendrouz 1\n{board}signals 9\nevery 64 0 1 1\nsession
abbrev pub Row_58_9 : Type 0
Row_58_9 =
    Refuses commands.Test
    (codes "zendrouz 1\n"
    ++ text_board
    ++ codes "signals 9\n"
    ++ codes "every 64 0 1 1\n"
    ++ codes "session\n")
    (codes "refused 24 Limit\n")

-- a period has the same limit in all texts: {wide}signals 9\nwave 0 0 saw 0 1 1000000000000\nsession
abbrev pub Row_69_1 : Type 0
Row_69_1 =
    Accepts commands.Test
    (text_wide
    ++ codes "signals 9\n"
    ++ codes "wave 0 0 saw 0 1 1000000000000\n"
    ++ codes "session\n")

-- a period has the same limit in all texts: {wide}signals 9\nwave 0 0 saw 0 1 1000000000001\nsession
abbrev pub Row_69_2 : Type 0
Row_69_2 =
    Refuses commands.Test
    (text_wide
    ++ codes "signals 9\n"
    ++ codes "wave 0 0 saw 0 1 1000000000001\n"
    ++ codes "session\n")
    (codes "refused 14 Limit\n")

-- a period has the same limit in all texts: {wide}signals 9\nevery 0 0 1000000000001 1\nsession
abbrev pub Row_69_3 : Type 0
Row_69_3 =
    Refuses commands.Test
    (text_wide
    ++ codes "signals 9\n"
    ++ codes "every 0 0 1000000000001 1\n"
    ++ codes "session\n")
    (codes "refused 14 Limit\n")

-- entries of a command that is tested: comedi 2\n{board}signals 9\nsession\ntest 0 0 now:0 timer:25
abbrev pub Row_74_1 : Type 0
Row_74_1 =
    Answers commands.Test
    (codes "comedi 2\n"
    ++ text_board
    ++ codes "signals 9\n"
    ++ codes "session\n"
    ++ codes "test 0 0 now:0 timer:256 now:0 count:256 none:0 0/0/ground,0/0/ground,0/0/ground,0/0"
    ++ codes "/ground,0/0/ground,0/0/ground,0/0/ground,0/0/ground,0/0/ground,0/0/ground,0/0/ground"
    ++ codes ",0/0/ground,0/0/ground,0/0/ground,0/0/ground,0/0/ground,0/0/ground,0/0/ground,0/0/gr"
    ++ codes "ound,0/0/ground,0/0/ground,0/0/ground,0/0/ground,0/0/ground,0/0/ground,0/0/ground,0/"
    ++ codes "0/ground,0/0/ground,0/0/ground,0/0/ground,0/0/ground,0/0/ground,0/0/ground,0/0/groun"
    ++ codes "d,0/0/ground,0/0/ground,0/0/ground,0/0/ground,0/0/ground,0/0/ground,0/0/ground,0/0/g"
    ++ codes "round,0/0/ground,0/0/ground,0/0/ground,0/0/ground,0/0/ground,0/0/ground,0/0/ground,0"
    ++ codes "/0/ground,0/0/ground,0/0/ground,0/0/ground,0/0/ground,0/0/ground,0/0/ground,0/0/grou"
    ++ codes "nd,0/0/ground,0/0/ground,0/0/ground,0/0/ground,0/0/ground,0/0/ground,0/0/ground,0/0/"
    ++ codes "ground,0/0/ground,0/0/ground,0/0/ground,0/0/ground,0/0/ground,0/0/ground,0/0/ground,"
    ++ codes "0/0/ground,0/0/ground,0/0/ground,0/0/ground,0/0/ground,0/0/ground,0/0/ground,0/0/gro"
    ++ codes "und,0/0/ground,0/0/ground,0/0/ground,0/0/ground,0/0/ground,0/0/ground,0/0/ground,0/0"
    ++ codes "/ground,0/0/ground,0/0/ground,0/0/ground,0/0/ground,0/0/ground,0/0/ground,0/0/ground"
    ++ codes ",0/0/ground,0/0/ground,0/0/ground,0/0/ground,0/0/ground,0/0/ground,0/0/ground,0/0/gr"
    ++ codes "ound,0/0/ground,0/0/ground,0/0/ground,0/0/ground,0/0/ground,0/0/ground,0/0/ground,0/"
    ++ codes "0/ground,0/0/ground,0/0/ground,0/0/ground,0/0/ground,0/0/ground,0/0/ground,0/0/groun"
    ++ codes "d,0/0/ground,0/0/ground,0/0/ground,0/0/ground,0/0/ground,0/0/ground,0/0/ground,0/0/g"
    ++ codes "round,0/0/ground,0/0/ground,0/0/ground,0/0/ground,0/0/ground,0/0/ground,0/0/ground,0"
    ++ codes "/0/ground,0/0/ground,0/0/ground,0/0/ground,0/0/ground,0/0/ground,0/0/ground,0/0/grou"
    ++ codes "nd,0/0/ground,0/0/ground,0/0/ground,0/0/ground,0/0/ground,0/0/ground,0/0/ground,0/0/"
    ++ codes "ground,0/0/ground,0/0/ground,0/0/ground,0/0/ground,0/0/ground,0/0/ground,0/0/ground,"
    ++ codes "0/0/ground,0/0/ground,0/0/ground,0/0/ground,0/0/ground,0/0/ground,0/0/ground,0/0/gro"
    ++ codes "und,0/0/ground,0/0/ground,0/0/ground,0/0/ground,0/0/ground,0/0/ground,0/0/ground,0/0"
    ++ codes "/ground,0/0/ground,0/0/ground,0/0/ground,0/0/ground,0/0/ground,0/0/ground,0/0/ground"
    ++ codes ",0/0/ground,0/0/ground,0/0/ground,0/0/ground,0/0/ground,0/0/ground,0/0/ground,0/0/gr"
    ++ codes "ound,0/0/ground,0/0/ground,0/0/ground,0/0/ground,0/0/ground,0/0/ground,0/0/ground,0/"
    ++ codes "0/ground,0/0/ground,0/0/ground,0/0/ground,0/0/ground,0/0/ground,0/0/ground,0/0/groun"
    ++ codes "d,0/0/ground,0/0/ground,0/0/ground,0/0/ground,0/0/ground,0/0/ground,0/0/ground,0/0/g"
    ++ codes "round,0/0/ground,0/0/ground,0/0/ground,0/0/ground,0/0/ground,0/0/ground,0/0/ground,0"
    ++ codes "/0/ground,0/0/ground,0/0/ground,0/0/ground,0/0/ground,0/0/ground,0/0/ground,0/0/grou"
    ++ codes "nd,0/0/ground,0/0/ground,0/0/ground,0/0/ground,0/0/ground,0/0/ground,0/0/ground,0/0/"
    ++ codes "ground,0/0/ground,0/0/ground,0/0/ground,0/0/ground,0/0/ground,0/0/ground,0/0/ground,"
    ++ codes "0/0/ground,0/0/ground,0/0/ground,0/0/ground,0/0/ground,0/0/ground,0/0/ground,0/0/gro"
    ++ codes "und,0/0/ground,0/0/ground,0/0/ground,0/0/ground,0/0/ground,0/0/ground,0/0/ground,0/0"
    ++ codes "/ground\n")
    (codes "step 0 0 0 now:0 timer:256 now:0 count:256 none:0 0/0/ground,0/0/ground,0/0/ground,0"
    ++ codes "/0/ground,0/0/ground,0/0/ground,0/0/ground,0/0/ground,0/0/ground,0/0/ground,0/0/grou"
    ++ codes "nd,0/0/ground,0/0/ground,0/0/ground,0/0/ground,0/0/ground,0/0/ground,0/0/ground,0/0/"
    ++ codes "ground,0/0/ground,0/0/ground,0/0/ground,0/0/ground,0/0/ground,0/0/ground,0/0/ground,"
    ++ codes "0/0/ground,0/0/ground,0/0/ground,0/0/ground,0/0/ground,0/0/ground,0/0/ground,0/0/gro"
    ++ codes "und,0/0/ground,0/0/ground,0/0/ground,0/0/ground,0/0/ground,0/0/ground,0/0/ground,0/0"
    ++ codes "/ground,0/0/ground,0/0/ground,0/0/ground,0/0/ground,0/0/ground,0/0/ground,0/0/ground"
    ++ codes ",0/0/ground,0/0/ground,0/0/ground,0/0/ground,0/0/ground,0/0/ground,0/0/ground,0/0/gr"
    ++ codes "ound,0/0/ground,0/0/ground,0/0/ground,0/0/ground,0/0/ground,0/0/ground,0/0/ground,0/"
    ++ codes "0/ground,0/0/ground,0/0/ground,0/0/ground,0/0/ground,0/0/ground,0/0/ground,0/0/groun"
    ++ codes "d,0/0/ground,0/0/ground,0/0/ground,0/0/ground,0/0/ground,0/0/ground,0/0/ground,0/0/g"
    ++ codes "round,0/0/ground,0/0/ground,0/0/ground,0/0/ground,0/0/ground,0/0/ground,0/0/ground,0"
    ++ codes "/0/ground,0/0/ground,0/0/ground,0/0/ground,0/0/ground,0/0/ground,0/0/ground,0/0/grou"
    ++ codes "nd,0/0/ground,0/0/ground,0/0/ground,0/0/ground,0/0/ground,0/0/ground,0/0/ground,0/0/"
    ++ codes "ground,0/0/ground,0/0/ground,0/0/ground,0/0/ground,0/0/ground,0/0/ground,0/0/ground,"
    ++ codes "0/0/ground,0/0/ground,0/0/ground,0/0/ground,0/0/ground,0/0/ground,0/0/ground,0/0/gro"
    ++ codes "und,0/0/ground,0/0/ground,0/0/ground,0/0/ground,0/0/ground,0/0/ground,0/0/ground,0/0"
    ++ codes "/ground,0/0/ground,0/0/ground,0/0/ground,0/0/ground,0/0/ground,0/0/ground,0/0/ground"
    ++ codes ",0/0/ground,0/0/ground,0/0/ground,0/0/ground,0/0/ground,0/0/ground,0/0/ground,0/0/gr"
    ++ codes "ound,0/0/ground,0/0/ground,0/0/ground,0/0/ground,0/0/ground,0/0/ground,0/0/ground,0/"
    ++ codes "0/ground,0/0/ground,0/0/ground,0/0/ground,0/0/ground,0/0/ground,0/0/ground,0/0/groun"
    ++ codes "d,0/0/ground,0/0/ground,0/0/ground,0/0/ground,0/0/ground,0/0/ground,0/0/ground,0/0/g"
    ++ codes "round,0/0/ground,0/0/ground,0/0/ground,0/0/ground,0/0/ground,0/0/ground,0/0/ground,0"
    ++ codes "/0/ground,0/0/ground,0/0/ground,0/0/ground,0/0/ground,0/0/ground,0/0/ground,0/0/grou"
    ++ codes "nd,0/0/ground,0/0/ground,0/0/ground,0/0/ground,0/0/ground,0/0/ground,0/0/ground,0/0/"
    ++ codes "ground,0/0/ground,0/0/ground,0/0/ground,0/0/ground,0/0/ground,0/0/ground,0/0/ground,"
    ++ codes "0/0/ground,0/0/ground,0/0/ground,0/0/ground,0/0/ground,0/0/ground,0/0/ground,0/0/gro"
    ++ codes "und,0/0/ground,0/0/ground,0/0/ground,0/0/ground,0/0/ground,0/0/ground,0/0/ground,0/0"
    ++ codes "/ground,0/0/ground,0/0/ground,0/0/ground,0/0/ground,0/0/ground,0/0/ground,0/0/ground"
    ++ codes ",0/0/ground,0/0/ground,0/0/ground,0/0/ground,0/0/ground,0/0/ground,0/0/ground,0/0/gr"
    ++ codes "ound,0/0/ground,0/0/ground,0/0/ground,0/0/ground,0/0/ground,0/0/ground,0/0/ground,0/"
    ++ codes "0/ground,0/0/ground,0/0/ground,0/0/ground,0/0/ground,0/0/ground,0/0/ground,0/0/groun"
    ++ codes "d,0/0/ground,0/0/ground,0/0/ground,0/0/ground,0/0/ground,0/0/ground,0/0/ground,0/0/g"
    ++ codes "round,0/0/ground,0/0/ground,0/0/ground,0/0/ground,0/0/ground,0/0/ground,0/0/ground,0"
    ++ codes "/0/ground\n")

-- entries of a command that is tested: comedi 2\n{board}signals 9\nsession\ntest 0 0 now:0 timer:25
abbrev pub Row_74_2 : Type 0
Row_74_2 =
    Refuses commands.Test
    (codes "comedi 2\n"
    ++ text_board
    ++ codes "signals 9\n"
    ++ codes "session\n"
    ++ codes "test 0 0 now:0 timer:256 now:0 count:256 none:0 0/0/ground,0/0/ground,0/0/ground,0/0"
    ++ codes "/ground,0/0/ground,0/0/ground,0/0/ground,0/0/ground,0/0/ground,0/0/ground,0/0/ground"
    ++ codes ",0/0/ground,0/0/ground,0/0/ground,0/0/ground,0/0/ground,0/0/ground,0/0/ground,0/0/gr"
    ++ codes "ound,0/0/ground,0/0/ground,0/0/ground,0/0/ground,0/0/ground,0/0/ground,0/0/ground,0/"
    ++ codes "0/ground,0/0/ground,0/0/ground,0/0/ground,0/0/ground,0/0/ground,0/0/ground,0/0/groun"
    ++ codes "d,0/0/ground,0/0/ground,0/0/ground,0/0/ground,0/0/ground,0/0/ground,0/0/ground,0/0/g"
    ++ codes "round,0/0/ground,0/0/ground,0/0/ground,0/0/ground,0/0/ground,0/0/ground,0/0/ground,0"
    ++ codes "/0/ground,0/0/ground,0/0/ground,0/0/ground,0/0/ground,0/0/ground,0/0/ground,0/0/grou"
    ++ codes "nd,0/0/ground,0/0/ground,0/0/ground,0/0/ground,0/0/ground,0/0/ground,0/0/ground,0/0/"
    ++ codes "ground,0/0/ground,0/0/ground,0/0/ground,0/0/ground,0/0/ground,0/0/ground,0/0/ground,"
    ++ codes "0/0/ground,0/0/ground,0/0/ground,0/0/ground,0/0/ground,0/0/ground,0/0/ground,0/0/gro"
    ++ codes "und,0/0/ground,0/0/ground,0/0/ground,0/0/ground,0/0/ground,0/0/ground,0/0/ground,0/0"
    ++ codes "/ground,0/0/ground,0/0/ground,0/0/ground,0/0/ground,0/0/ground,0/0/ground,0/0/ground"
    ++ codes ",0/0/ground,0/0/ground,0/0/ground,0/0/ground,0/0/ground,0/0/ground,0/0/ground,0/0/gr"
    ++ codes "ound,0/0/ground,0/0/ground,0/0/ground,0/0/ground,0/0/ground,0/0/ground,0/0/ground,0/"
    ++ codes "0/ground,0/0/ground,0/0/ground,0/0/ground,0/0/ground,0/0/ground,0/0/ground,0/0/groun"
    ++ codes "d,0/0/ground,0/0/ground,0/0/ground,0/0/ground,0/0/ground,0/0/ground,0/0/ground,0/0/g"
    ++ codes "round,0/0/ground,0/0/ground,0/0/ground,0/0/ground,0/0/ground,0/0/ground,0/0/ground,0"
    ++ codes "/0/ground,0/0/ground,0/0/ground,0/0/ground,0/0/ground,0/0/ground,0/0/ground,0/0/grou"
    ++ codes "nd,0/0/ground,0/0/ground,0/0/ground,0/0/ground,0/0/ground,0/0/ground,0/0/ground,0/0/"
    ++ codes "ground,0/0/ground,0/0/ground,0/0/ground,0/0/ground,0/0/ground,0/0/ground,0/0/ground,"
    ++ codes "0/0/ground,0/0/ground,0/0/ground,0/0/ground,0/0/ground,0/0/ground,0/0/ground,0/0/gro"
    ++ codes "und,0/0/ground,0/0/ground,0/0/ground,0/0/ground,0/0/ground,0/0/ground,0/0/ground,0/0"
    ++ codes "/ground,0/0/ground,0/0/ground,0/0/ground,0/0/ground,0/0/ground,0/0/ground,0/0/ground"
    ++ codes ",0/0/ground,0/0/ground,0/0/ground,0/0/ground,0/0/ground,0/0/ground,0/0/ground,0/0/gr"
    ++ codes "ound,0/0/ground,0/0/ground,0/0/ground,0/0/ground,0/0/ground,0/0/ground,0/0/ground,0/"
    ++ codes "0/ground,0/0/ground,0/0/ground,0/0/ground,0/0/ground,0/0/ground,0/0/ground,0/0/groun"
    ++ codes "d,0/0/ground,0/0/ground,0/0/ground,0/0/ground,0/0/ground,0/0/ground,0/0/ground,0/0/g"
    ++ codes "round,0/0/ground,0/0/ground,0/0/ground,0/0/ground,0/0/ground,0/0/ground,0/0/ground,0"
    ++ codes "/0/ground,0/0/ground,0/0/ground,0/0/ground,0/0/ground,0/0/ground,0/0/ground,0/0/grou"
    ++ codes "nd,0/0/ground,0/0/ground,0/0/ground,0/0/ground,0/0/ground,0/0/ground,0/0/ground,0/0/"
    ++ codes "ground,0/0/ground,0/0/ground,0/0/ground,0/0/ground,0/0/ground,0/0/ground,0/0/ground,"
    ++ codes "0/0/ground,0/0/ground,0/0/ground,0/0/ground,0/0/ground,0/0/ground,0/0/ground,0/0/gro"
    ++ codes "und,0/0/ground,0/0/ground,0/0/ground,0/0/ground,0/0/ground,0/0/ground,0/0/ground,0/0"
    ++ codes "/ground,0/0/ground\n")
    (codes "refused 25 Limit\n")

-- entries of a command that is tested: zendrouz 1\n{board}signals 9\nsession\ntest 0 0 now:0 timer:
abbrev pub Row_74_3 : Type 0
Row_74_3 =
    Answers commands.Test
    (codes "zendrouz 1\n"
    ++ text_board
    ++ codes "signals 9\n"
    ++ codes "session\n"
    ++ codes "test 0 0 now:0 timer:256 now:0 count:256 none:0 0/0/ground,0/0/ground,0/0/ground,0/0"
    ++ codes "/ground,0/0/ground,0/0/ground,0/0/ground,0/0/ground,0/0/ground,0/0/ground,0/0/ground"
    ++ codes ",0/0/ground,0/0/ground,0/0/ground,0/0/ground,0/0/ground,0/0/ground,0/0/ground,0/0/gr"
    ++ codes "ound,0/0/ground,0/0/ground,0/0/ground,0/0/ground,0/0/ground,0/0/ground,0/0/ground,0/"
    ++ codes "0/ground,0/0/ground,0/0/ground,0/0/ground,0/0/ground,0/0/ground,0/0/ground,0/0/groun"
    ++ codes "d,0/0/ground,0/0/ground,0/0/ground,0/0/ground,0/0/ground,0/0/ground,0/0/ground,0/0/g"
    ++ codes "round,0/0/ground,0/0/ground,0/0/ground,0/0/ground,0/0/ground,0/0/ground,0/0/ground,0"
    ++ codes "/0/ground,0/0/ground,0/0/ground,0/0/ground,0/0/ground,0/0/ground,0/0/ground,0/0/grou"
    ++ codes "nd,0/0/ground,0/0/ground,0/0/ground,0/0/ground,0/0/ground,0/0/ground,0/0/ground,0/0/"
    ++ codes "ground,0/0/ground,0/0/ground,0/0/ground,0/0/ground,0/0/ground,0/0/ground,0/0/ground,"
    ++ codes "0/0/ground,0/0/ground,0/0/ground,0/0/ground,0/0/ground,0/0/ground,0/0/ground,0/0/gro"
    ++ codes "und,0/0/ground,0/0/ground,0/0/ground,0/0/ground,0/0/ground,0/0/ground,0/0/ground,0/0"
    ++ codes "/ground,0/0/ground,0/0/ground,0/0/ground,0/0/ground,0/0/ground,0/0/ground,0/0/ground"
    ++ codes ",0/0/ground,0/0/ground,0/0/ground,0/0/ground,0/0/ground,0/0/ground,0/0/ground,0/0/gr"
    ++ codes "ound,0/0/ground,0/0/ground,0/0/ground,0/0/ground,0/0/ground,0/0/ground,0/0/ground,0/"
    ++ codes "0/ground,0/0/ground,0/0/ground,0/0/ground,0/0/ground,0/0/ground,0/0/ground,0/0/groun"
    ++ codes "d,0/0/ground,0/0/ground,0/0/ground,0/0/ground,0/0/ground,0/0/ground,0/0/ground,0/0/g"
    ++ codes "round,0/0/ground,0/0/ground,0/0/ground,0/0/ground,0/0/ground,0/0/ground,0/0/ground,0"
    ++ codes "/0/ground,0/0/ground,0/0/ground,0/0/ground,0/0/ground,0/0/ground,0/0/ground,0/0/grou"
    ++ codes "nd,0/0/ground,0/0/ground,0/0/ground,0/0/ground,0/0/ground,0/0/ground,0/0/ground,0/0/"
    ++ codes "ground,0/0/ground,0/0/ground,0/0/ground,0/0/ground,0/0/ground,0/0/ground,0/0/ground,"
    ++ codes "0/0/ground,0/0/ground,0/0/ground,0/0/ground,0/0/ground,0/0/ground,0/0/ground,0/0/gro"
    ++ codes "und,0/0/ground,0/0/ground,0/0/ground,0/0/ground,0/0/ground,0/0/ground,0/0/ground,0/0"
    ++ codes "/ground,0/0/ground,0/0/ground,0/0/ground,0/0/ground,0/0/ground,0/0/ground,0/0/ground"
    ++ codes ",0/0/ground,0/0/ground,0/0/ground,0/0/ground,0/0/ground,0/0/ground,0/0/ground,0/0/gr"
    ++ codes "ound,0/0/ground,0/0/ground,0/0/ground,0/0/ground,0/0/ground,0/0/ground,0/0/ground,0/"
    ++ codes "0/ground,0/0/ground,0/0/ground,0/0/ground,0/0/ground,0/0/ground,0/0/ground,0/0/groun"
    ++ codes "d,0/0/ground,0/0/ground,0/0/ground,0/0/ground,0/0/ground,0/0/ground,0/0/ground,0/0/g"
    ++ codes "round,0/0/ground,0/0/ground,0/0/ground,0/0/ground,0/0/ground,0/0/ground,0/0/ground,0"
    ++ codes "/0/ground,0/0/ground,0/0/ground,0/0/ground,0/0/ground,0/0/ground,0/0/ground,0/0/grou"
    ++ codes "nd,0/0/ground,0/0/ground,0/0/ground,0/0/ground,0/0/ground,0/0/ground,0/0/ground,0/0/"
    ++ codes "ground,0/0/ground,0/0/ground,0/0/ground,0/0/ground,0/0/ground,0/0/ground,0/0/ground,"
    ++ codes "0/0/ground,0/0/ground,0/0/ground,0/0/ground,0/0/ground,0/0/ground,0/0/ground,0/0/gro"
    ++ codes "und,0/0/ground,0/0/ground,0/0/ground,0/0/ground,0/0/ground,0/0/ground,0/0/ground,0/0"
    ++ codes "/ground,0/0/ground\n")
    (codes "step 3 0 0 now:0 timer:256 now:0 count:257 none:0 0/0/ground,0/0/ground,0/0/ground,0"
    ++ codes "/0/ground,0/0/ground,0/0/ground,0/0/ground,0/0/ground,0/0/ground,0/0/ground,0/0/grou"
    ++ codes "nd,0/0/ground,0/0/ground,0/0/ground,0/0/ground,0/0/ground,0/0/ground,0/0/ground,0/0/"
    ++ codes "ground,0/0/ground,0/0/ground,0/0/ground,0/0/ground,0/0/ground,0/0/ground,0/0/ground,"
    ++ codes "0/0/ground,0/0/ground,0/0/ground,0/0/ground,0/0/ground,0/0/ground,0/0/ground,0/0/gro"
    ++ codes "und,0/0/ground,0/0/ground,0/0/ground,0/0/ground,0/0/ground,0/0/ground,0/0/ground,0/0"
    ++ codes "/ground,0/0/ground,0/0/ground,0/0/ground,0/0/ground,0/0/ground,0/0/ground,0/0/ground"
    ++ codes ",0/0/ground,0/0/ground,0/0/ground,0/0/ground,0/0/ground,0/0/ground,0/0/ground,0/0/gr"
    ++ codes "ound,0/0/ground,0/0/ground,0/0/ground,0/0/ground,0/0/ground,0/0/ground,0/0/ground,0/"
    ++ codes "0/ground,0/0/ground,0/0/ground,0/0/ground,0/0/ground,0/0/ground,0/0/ground,0/0/groun"
    ++ codes "d,0/0/ground,0/0/ground,0/0/ground,0/0/ground,0/0/ground,0/0/ground,0/0/ground,0/0/g"
    ++ codes "round,0/0/ground,0/0/ground,0/0/ground,0/0/ground,0/0/ground,0/0/ground,0/0/ground,0"
    ++ codes "/0/ground,0/0/ground,0/0/ground,0/0/ground,0/0/ground,0/0/ground,0/0/ground,0/0/grou"
    ++ codes "nd,0/0/ground,0/0/ground,0/0/ground,0/0/ground,0/0/ground,0/0/ground,0/0/ground,0/0/"
    ++ codes "ground,0/0/ground,0/0/ground,0/0/ground,0/0/ground,0/0/ground,0/0/ground,0/0/ground,"
    ++ codes "0/0/ground,0/0/ground,0/0/ground,0/0/ground,0/0/ground,0/0/ground,0/0/ground,0/0/gro"
    ++ codes "und,0/0/ground,0/0/ground,0/0/ground,0/0/ground,0/0/ground,0/0/ground,0/0/ground,0/0"
    ++ codes "/ground,0/0/ground,0/0/ground,0/0/ground,0/0/ground,0/0/ground,0/0/ground,0/0/ground"
    ++ codes ",0/0/ground,0/0/ground,0/0/ground,0/0/ground,0/0/ground,0/0/ground,0/0/ground,0/0/gr"
    ++ codes "ound,0/0/ground,0/0/ground,0/0/ground,0/0/ground,0/0/ground,0/0/ground,0/0/ground,0/"
    ++ codes "0/ground,0/0/ground,0/0/ground,0/0/ground,0/0/ground,0/0/ground,0/0/ground,0/0/groun"
    ++ codes "d,0/0/ground,0/0/ground,0/0/ground,0/0/ground,0/0/ground,0/0/ground,0/0/ground,0/0/g"
    ++ codes "round,0/0/ground,0/0/ground,0/0/ground,0/0/ground,0/0/ground,0/0/ground,0/0/ground,0"
    ++ codes "/0/ground,0/0/ground,0/0/ground,0/0/ground,0/0/ground,0/0/ground,0/0/ground,0/0/grou"
    ++ codes "nd,0/0/ground,0/0/ground,0/0/ground,0/0/ground,0/0/ground,0/0/ground,0/0/ground,0/0/"
    ++ codes "ground,0/0/ground,0/0/ground,0/0/ground,0/0/ground,0/0/ground,0/0/ground,0/0/ground,"
    ++ codes "0/0/ground,0/0/ground,0/0/ground,0/0/ground,0/0/ground,0/0/ground,0/0/ground,0/0/gro"
    ++ codes "und,0/0/ground,0/0/ground,0/0/ground,0/0/ground,0/0/ground,0/0/ground,0/0/ground,0/0"
    ++ codes "/ground,0/0/ground,0/0/ground,0/0/ground,0/0/ground,0/0/ground,0/0/ground,0/0/ground"
    ++ codes ",0/0/ground,0/0/ground,0/0/ground,0/0/ground,0/0/ground,0/0/ground,0/0/ground,0/0/gr"
    ++ codes "ound,0/0/ground,0/0/ground,0/0/ground,0/0/ground,0/0/ground,0/0/ground,0/0/ground,0/"
    ++ codes "0/ground,0/0/ground,0/0/ground,0/0/ground,0/0/ground,0/0/ground,0/0/ground,0/0/groun"
    ++ codes "d,0/0/ground,0/0/ground,0/0/ground,0/0/ground,0/0/ground,0/0/ground,0/0/ground,0/0/g"
    ++ codes "round,0/0/ground,0/0/ground,0/0/ground,0/0/ground,0/0/ground,0/0/ground,0/0/ground,0"
    ++ codes "/0/ground,0/0/ground\n")

-- entries of a command that is tested: {wide}signals 9\nsession\ntest 0 0 now:0 timer:2000 now:0 co
abbrev pub Row_74_7 : Type 0
Row_74_7 =
    Answers commands.Test
    (text_wide
    ++ codes "signals 9\n"
    ++ codes "session\n"
    ++ codes "test 0 0 now:0 timer:2000 now:0 count:257 none:0 0/0/ground,0/0/ground,0/0/ground,0/"
    ++ codes "0/ground,0/0/ground,0/0/ground,0/0/ground,0/0/ground,0/0/ground,0/0/ground,0/0/groun"
    ++ codes "d,0/0/ground,0/0/ground,0/0/ground,0/0/ground,0/0/ground,0/0/ground,0/0/ground,0/0/g"
    ++ codes "round,0/0/ground,0/0/ground,0/0/ground,0/0/ground,0/0/ground,0/0/ground,0/0/ground,0"
    ++ codes "/0/ground,0/0/ground,0/0/ground,0/0/ground,0/0/ground,0/0/ground,0/0/ground,0/0/grou"
    ++ codes "nd,0/0/ground,0/0/ground,0/0/ground,0/0/ground,0/0/ground,0/0/ground,0/0/ground,0/0/"
    ++ codes "ground,0/0/ground,0/0/ground,0/0/ground,0/0/ground,0/0/ground,0/0/ground,0/0/ground,"
    ++ codes "0/0/ground,0/0/ground,0/0/ground,0/0/ground,0/0/ground,0/0/ground,0/0/ground,0/0/gro"
    ++ codes "und,0/0/ground,0/0/ground,0/0/ground,0/0/ground,0/0/ground,0/0/ground,0/0/ground,0/0"
    ++ codes "/ground,0/0/ground,0/0/ground,0/0/ground,0/0/ground,0/0/ground,0/0/ground,0/0/ground"
    ++ codes ",0/0/ground,0/0/ground,0/0/ground,0/0/ground,0/0/ground,0/0/ground,0/0/ground,0/0/gr"
    ++ codes "ound,0/0/ground,0/0/ground,0/0/ground,0/0/ground,0/0/ground,0/0/ground,0/0/ground,0/"
    ++ codes "0/ground,0/0/ground,0/0/ground,0/0/ground,0/0/ground,0/0/ground,0/0/ground,0/0/groun"
    ++ codes "d,0/0/ground,0/0/ground,0/0/ground,0/0/ground,0/0/ground,0/0/ground,0/0/ground,0/0/g"
    ++ codes "round,0/0/ground,0/0/ground,0/0/ground,0/0/ground,0/0/ground,0/0/ground,0/0/ground,0"
    ++ codes "/0/ground,0/0/ground,0/0/ground,0/0/ground,0/0/ground,0/0/ground,0/0/ground,0/0/grou"
    ++ codes "nd,0/0/ground,0/0/ground,0/0/ground,0/0/ground,0/0/ground,0/0/ground,0/0/ground,0/0/"
    ++ codes "ground,0/0/ground,0/0/ground,0/0/ground,0/0/ground,0/0/ground,0/0/ground,0/0/ground,"
    ++ codes "0/0/ground,0/0/ground,0/0/ground,0/0/ground,0/0/ground,0/0/ground,0/0/ground,0/0/gro"
    ++ codes "und,0/0/ground,0/0/ground,0/0/ground,0/0/ground,0/0/ground,0/0/ground,0/0/ground,0/0"
    ++ codes "/ground,0/0/ground,0/0/ground,0/0/ground,0/0/ground,0/0/ground,0/0/ground,0/0/ground"
    ++ codes ",0/0/ground,0/0/ground,0/0/ground,0/0/ground,0/0/ground,0/0/ground,0/0/ground,0/0/gr"
    ++ codes "ound,0/0/ground,0/0/ground,0/0/ground,0/0/ground,0/0/ground,0/0/ground,0/0/ground,0/"
    ++ codes "0/ground,0/0/ground,0/0/ground,0/0/ground,0/0/ground,0/0/ground,0/0/ground,0/0/groun"
    ++ codes "d,0/0/ground,0/0/ground,0/0/ground,0/0/ground,0/0/ground,0/0/ground,0/0/ground,0/0/g"
    ++ codes "round,0/0/ground,0/0/ground,0/0/ground,0/0/ground,0/0/ground,0/0/ground,0/0/ground,0"
    ++ codes "/0/ground,0/0/ground,0/0/ground,0/0/ground,0/0/ground,0/0/ground,0/0/ground,0/0/grou"
    ++ codes "nd,0/0/ground,0/0/ground,0/0/ground,0/0/ground,0/0/ground,0/0/ground,0/0/ground,0/0/"
    ++ codes "ground,0/0/ground,0/0/ground,0/0/ground,0/0/ground,0/0/ground,0/0/ground,0/0/ground,"
    ++ codes "0/0/ground,0/0/ground,0/0/ground,0/0/ground,0/0/ground,0/0/ground,0/0/ground,0/0/gro"
    ++ codes "und,0/0/ground,0/0/ground,0/0/ground,0/0/ground,0/0/ground,0/0/ground,0/0/ground,0/0"
    ++ codes "/ground,0/0/ground,0/0/ground,0/0/ground,0/0/ground,0/0/ground,0/0/ground,0/0/ground"
    ++ codes ",0/0/ground,0/0/ground,0/0/ground,0/0/ground,0/0/ground,0/0/ground,0/0/ground,0/0/gr"
    ++ codes "ound,0/0/ground,0/0/ground,0/0/ground,0/0/ground,0/0/ground,0/0/ground,0/0/ground,0/"
    ++ codes "0/ground,0/0/ground\n")
    (codes "step 0 0 0 now:0 timer:2000 now:0 count:257 none:0 0/0/ground,0/0/ground,0/0/ground,"
    ++ codes "0/0/ground,0/0/ground,0/0/ground,0/0/ground,0/0/ground,0/0/ground,0/0/ground,0/0/gro"
    ++ codes "und,0/0/ground,0/0/ground,0/0/ground,0/0/ground,0/0/ground,0/0/ground,0/0/ground,0/0"
    ++ codes "/ground,0/0/ground,0/0/ground,0/0/ground,0/0/ground,0/0/ground,0/0/ground,0/0/ground"
    ++ codes ",0/0/ground,0/0/ground,0/0/ground,0/0/ground,0/0/ground,0/0/ground,0/0/ground,0/0/gr"
    ++ codes "ound,0/0/ground,0/0/ground,0/0/ground,0/0/ground,0/0/ground,0/0/ground,0/0/ground,0/"
    ++ codes "0/ground,0/0/ground,0/0/ground,0/0/ground,0/0/ground,0/0/ground,0/0/ground,0/0/groun"
    ++ codes "d,0/0/ground,0/0/ground,0/0/ground,0/0/ground,0/0/ground,0/0/ground,0/0/ground,0/0/g"
    ++ codes "round,0/0/ground,0/0/ground,0/0/ground,0/0/ground,0/0/ground,0/0/ground,0/0/ground,0"
    ++ codes "/0/ground,0/0/ground,0/0/ground,0/0/ground,0/0/ground,0/0/ground,0/0/ground,0/0/grou"
    ++ codes "nd,0/0/ground,0/0/ground,0/0/ground,0/0/ground,0/0/ground,0/0/ground,0/0/ground,0/0/"
    ++ codes "ground,0/0/ground,0/0/ground,0/0/ground,0/0/ground,0/0/ground,0/0/ground,0/0/ground,"
    ++ codes "0/0/ground,0/0/ground,0/0/ground,0/0/ground,0/0/ground,0/0/ground,0/0/ground,0/0/gro"
    ++ codes "und,0/0/ground,0/0/ground,0/0/ground,0/0/ground,0/0/ground,0/0/ground,0/0/ground,0/0"
    ++ codes "/ground,0/0/ground,0/0/ground,0/0/ground,0/0/ground,0/0/ground,0/0/ground,0/0/ground"
    ++ codes ",0/0/ground,0/0/ground,0/0/ground,0/0/ground,0/0/ground,0/0/ground,0/0/ground,0/0/gr"
    ++ codes "ound,0/0/ground,0/0/ground,0/0/ground,0/0/ground,0/0/ground,0/0/ground,0/0/ground,0/"
    ++ codes "0/ground,0/0/ground,0/0/ground,0/0/ground,0/0/ground,0/0/ground,0/0/ground,0/0/groun"
    ++ codes "d,0/0/ground,0/0/ground,0/0/ground,0/0/ground,0/0/ground,0/0/ground,0/0/ground,0/0/g"
    ++ codes "round,0/0/ground,0/0/ground,0/0/ground,0/0/ground,0/0/ground,0/0/ground,0/0/ground,0"
    ++ codes "/0/ground,0/0/ground,0/0/ground,0/0/ground,0/0/ground,0/0/ground,0/0/ground,0/0/grou"
    ++ codes "nd,0/0/ground,0/0/ground,0/0/ground,0/0/ground,0/0/ground,0/0/ground,0/0/ground,0/0/"
    ++ codes "ground,0/0/ground,0/0/ground,0/0/ground,0/0/ground,0/0/ground,0/0/ground,0/0/ground,"
    ++ codes "0/0/ground,0/0/ground,0/0/ground,0/0/ground,0/0/ground,0/0/ground,0/0/ground,0/0/gro"
    ++ codes "und,0/0/ground,0/0/ground,0/0/ground,0/0/ground,0/0/ground,0/0/ground,0/0/ground,0/0"
    ++ codes "/ground,0/0/ground,0/0/ground,0/0/ground,0/0/ground,0/0/ground,0/0/ground,0/0/ground"
    ++ codes ",0/0/ground,0/0/ground,0/0/ground,0/0/ground,0/0/ground,0/0/ground,0/0/ground,0/0/gr"
    ++ codes "ound,0/0/ground,0/0/ground,0/0/ground,0/0/ground,0/0/ground,0/0/ground,0/0/ground,0/"
    ++ codes "0/ground,0/0/ground,0/0/ground,0/0/ground,0/0/ground,0/0/ground,0/0/ground,0/0/groun"
    ++ codes "d,0/0/ground,0/0/ground,0/0/ground,0/0/ground,0/0/ground,0/0/ground,0/0/ground,0/0/g"
    ++ codes "round,0/0/ground,0/0/ground,0/0/ground,0/0/ground,0/0/ground,0/0/ground,0/0/ground,0"
    ++ codes "/0/ground,0/0/ground,0/0/ground,0/0/ground,0/0/ground,0/0/ground,0/0/ground,0/0/grou"
    ++ codes "nd,0/0/ground,0/0/ground,0/0/ground,0/0/ground,0/0/ground,0/0/ground,0/0/ground,0/0/"
    ++ codes "ground,0/0/ground,0/0/ground,0/0/ground,0/0/ground,0/0/ground,0/0/ground,0/0/ground,"
    ++ codes "0/0/ground,0/0/ground\n")

-- of a command that is expanded: comedi 2\n{board}signals 9\nsession\nexpand 0 0 0 now:0 time
abbrev pub Row_84_1 : Type 0
Row_84_1 =
    Refuses commands.Expand
    (codes "comedi 2\n"
    ++ text_board
    ++ codes "signals 9\n"
    ++ codes "session\n"
    ++ codes "expand 0 0 0 now:0 timer:256 now:0 count:257 none:0 0/0/ground,0/0/ground,0/0/ground"
    ++ codes ",0/0/ground,0/0/ground,0/0/ground,0/0/ground,0/0/ground,0/0/ground,0/0/ground,0/0/gr"
    ++ codes "ound,0/0/ground,0/0/ground,0/0/ground,0/0/ground,0/0/ground,0/0/ground,0/0/ground,0/"
    ++ codes "0/ground,0/0/ground,0/0/ground,0/0/ground,0/0/ground,0/0/ground,0/0/ground,0/0/groun"
    ++ codes "d,0/0/ground,0/0/ground,0/0/ground,0/0/ground,0/0/ground,0/0/ground,0/0/ground,0/0/g"
    ++ codes "round,0/0/ground,0/0/ground,0/0/ground,0/0/ground,0/0/ground,0/0/ground,0/0/ground,0"
    ++ codes "/0/ground,0/0/ground,0/0/ground,0/0/ground,0/0/ground,0/0/ground,0/0/ground,0/0/grou"
    ++ codes "nd,0/0/ground,0/0/ground,0/0/ground,0/0/ground,0/0/ground,0/0/ground,0/0/ground,0/0/"
    ++ codes "ground,0/0/ground,0/0/ground,0/0/ground,0/0/ground,0/0/ground,0/0/ground,0/0/ground,"
    ++ codes "0/0/ground,0/0/ground,0/0/ground,0/0/ground,0/0/ground,0/0/ground,0/0/ground,0/0/gro"
    ++ codes "und,0/0/ground,0/0/ground,0/0/ground,0/0/ground,0/0/ground,0/0/ground,0/0/ground,0/0"
    ++ codes "/ground,0/0/ground,0/0/ground,0/0/ground,0/0/ground,0/0/ground,0/0/ground,0/0/ground"
    ++ codes ",0/0/ground,0/0/ground,0/0/ground,0/0/ground,0/0/ground,0/0/ground,0/0/ground,0/0/gr"
    ++ codes "ound,0/0/ground,0/0/ground,0/0/ground,0/0/ground,0/0/ground,0/0/ground,0/0/ground,0/"
    ++ codes "0/ground,0/0/ground,0/0/ground,0/0/ground,0/0/ground,0/0/ground,0/0/ground,0/0/groun"
    ++ codes "d,0/0/ground,0/0/ground,0/0/ground,0/0/ground,0/0/ground,0/0/ground,0/0/ground,0/0/g"
    ++ codes "round,0/0/ground,0/0/ground,0/0/ground,0/0/ground,0/0/ground,0/0/ground,0/0/ground,0"
    ++ codes "/0/ground,0/0/ground,0/0/ground,0/0/ground,0/0/ground,0/0/ground,0/0/ground,0/0/grou"
    ++ codes "nd,0/0/ground,0/0/ground,0/0/ground,0/0/ground,0/0/ground,0/0/ground,0/0/ground,0/0/"
    ++ codes "ground,0/0/ground,0/0/ground,0/0/ground,0/0/ground,0/0/ground,0/0/ground,0/0/ground,"
    ++ codes "0/0/ground,0/0/ground,0/0/ground,0/0/ground,0/0/ground,0/0/ground,0/0/ground,0/0/gro"
    ++ codes "und,0/0/ground,0/0/ground,0/0/ground,0/0/ground,0/0/ground,0/0/ground,0/0/ground,0/0"
    ++ codes "/ground,0/0/ground,0/0/ground,0/0/ground,0/0/ground,0/0/ground,0/0/ground,0/0/ground"
    ++ codes ",0/0/ground,0/0/ground,0/0/ground,0/0/ground,0/0/ground,0/0/ground,0/0/ground,0/0/gr"
    ++ codes "ound,0/0/ground,0/0/ground,0/0/ground,0/0/ground,0/0/ground,0/0/ground,0/0/ground,0/"
    ++ codes "0/ground,0/0/ground,0/0/ground,0/0/ground,0/0/ground,0/0/ground,0/0/ground,0/0/groun"
    ++ codes "d,0/0/ground,0/0/ground,0/0/ground,0/0/ground,0/0/ground,0/0/ground,0/0/ground,0/0/g"
    ++ codes "round,0/0/ground,0/0/ground,0/0/ground,0/0/ground,0/0/ground,0/0/ground,0/0/ground,0"
    ++ codes "/0/ground,0/0/ground,0/0/ground,0/0/ground,0/0/ground,0/0/ground,0/0/ground,0/0/grou"
    ++ codes "nd,0/0/ground,0/0/ground,0/0/ground,0/0/ground,0/0/ground,0/0/ground,0/0/ground,0/0/"
    ++ codes "ground,0/0/ground,0/0/ground,0/0/ground,0/0/ground,0/0/ground,0/0/ground,0/0/ground,"
    ++ codes "0/0/ground,0/0/ground,0/0/ground,0/0/ground,0/0/ground,0/0/ground,0/0/ground,0/0/gro"
    ++ codes "und,0/0/ground,0/0/ground,0/0/ground,0/0/ground,0/0/ground,0/0/ground,0/0/ground,0/0"
    ++ codes "/ground,0/0/ground,0/0/ground,0/0/ground,0/0/ground,0/0/ground,0/0/ground,0/0/ground"
    ++ codes ",0/0/ground,0/0/ground\n")
    (codes "refused 25 Limit\n")

-- of a command in a session: comedi 2\n{board}signals 9\nsession\n0 cmd 1 0 0 now:0 timer
abbrev pub Row_89_1 : Type 0
Row_89_1 =
    Refuses commands.Replay
    (codes "comedi 2\n"
    ++ text_board
    ++ codes "signals 9\n"
    ++ codes "session\n"
    ++ codes "0 cmd 1 0 0 now:0 timer:256 now:0 count:257 none:0 0/0/ground,0/0/ground,0/0/ground,"
    ++ codes "0/0/ground,0/0/ground,0/0/ground,0/0/ground,0/0/ground,0/0/ground,0/0/ground,0/0/gro"
    ++ codes "und,0/0/ground,0/0/ground,0/0/ground,0/0/ground,0/0/ground,0/0/ground,0/0/ground,0/0"
    ++ codes "/ground,0/0/ground,0/0/ground,0/0/ground,0/0/ground,0/0/ground,0/0/ground,0/0/ground"
    ++ codes ",0/0/ground,0/0/ground,0/0/ground,0/0/ground,0/0/ground,0/0/ground,0/0/ground,0/0/gr"
    ++ codes "ound,0/0/ground,0/0/ground,0/0/ground,0/0/ground,0/0/ground,0/0/ground,0/0/ground,0/"
    ++ codes "0/ground,0/0/ground,0/0/ground,0/0/ground,0/0/ground,0/0/ground,0/0/ground,0/0/groun"
    ++ codes "d,0/0/ground,0/0/ground,0/0/ground,0/0/ground,0/0/ground,0/0/ground,0/0/ground,0/0/g"
    ++ codes "round,0/0/ground,0/0/ground,0/0/ground,0/0/ground,0/0/ground,0/0/ground,0/0/ground,0"
    ++ codes "/0/ground,0/0/ground,0/0/ground,0/0/ground,0/0/ground,0/0/ground,0/0/ground,0/0/grou"
    ++ codes "nd,0/0/ground,0/0/ground,0/0/ground,0/0/ground,0/0/ground,0/0/ground,0/0/ground,0/0/"
    ++ codes "ground,0/0/ground,0/0/ground,0/0/ground,0/0/ground,0/0/ground,0/0/ground,0/0/ground,"
    ++ codes "0/0/ground,0/0/ground,0/0/ground,0/0/ground,0/0/ground,0/0/ground,0/0/ground,0/0/gro"
    ++ codes "und,0/0/ground,0/0/ground,0/0/ground,0/0/ground,0/0/ground,0/0/ground,0/0/ground,0/0"
    ++ codes "/ground,0/0/ground,0/0/ground,0/0/ground,0/0/ground,0/0/ground,0/0/ground,0/0/ground"
    ++ codes ",0/0/ground,0/0/ground,0/0/ground,0/0/ground,0/0/ground,0/0/ground,0/0/ground,0/0/gr"
    ++ codes "ound,0/0/ground,0/0/ground,0/0/ground,0/0/ground,0/0/ground,0/0/ground,0/0/ground,0/"
    ++ codes "0/ground,0/0/ground,0/0/ground,0/0/ground,0/0/ground,0/0/ground,0/0/ground,0/0/groun"
    ++ codes "d,0/0/ground,0/0/ground,0/0/ground,0/0/ground,0/0/ground,0/0/ground,0/0/ground,0/0/g"
    ++ codes "round,0/0/ground,0/0/ground,0/0/ground,0/0/ground,0/0/ground,0/0/ground,0/0/ground,0"
    ++ codes "/0/ground,0/0/ground,0/0/ground,0/0/ground,0/0/ground,0/0/ground,0/0/ground,0/0/grou"
    ++ codes "nd,0/0/ground,0/0/ground,0/0/ground,0/0/ground,0/0/ground,0/0/ground,0/0/ground,0/0/"
    ++ codes "ground,0/0/ground,0/0/ground,0/0/ground,0/0/ground,0/0/ground,0/0/ground,0/0/ground,"
    ++ codes "0/0/ground,0/0/ground,0/0/ground,0/0/ground,0/0/ground,0/0/ground,0/0/ground,0/0/gro"
    ++ codes "und,0/0/ground,0/0/ground,0/0/ground,0/0/ground,0/0/ground,0/0/ground,0/0/ground,0/0"
    ++ codes "/ground,0/0/ground,0/0/ground,0/0/ground,0/0/ground,0/0/ground,0/0/ground,0/0/ground"
    ++ codes ",0/0/ground,0/0/ground,0/0/ground,0/0/ground,0/0/ground,0/0/ground,0/0/ground,0/0/gr"
    ++ codes "ound,0/0/ground,0/0/ground,0/0/ground,0/0/ground,0/0/ground,0/0/ground,0/0/ground,0/"
    ++ codes "0/ground,0/0/ground,0/0/ground,0/0/ground,0/0/ground,0/0/ground,0/0/ground,0/0/groun"
    ++ codes "d,0/0/ground,0/0/ground,0/0/ground,0/0/ground,0/0/ground,0/0/ground,0/0/ground,0/0/g"
    ++ codes "round,0/0/ground,0/0/ground,0/0/ground,0/0/ground,0/0/ground,0/0/ground,0/0/ground,0"
    ++ codes "/0/ground,0/0/ground,0/0/ground,0/0/ground,0/0/ground,0/0/ground,0/0/ground,0/0/grou"
    ++ codes "nd,0/0/ground,0/0/ground,0/0/ground,0/0/ground,0/0/ground,0/0/ground,0/0/ground,0/0/"
    ++ codes "ground,0/0/ground,0/0/ground,0/0/ground,0/0/ground,0/0/ground,0/0/ground,0/0/ground,"
    ++ codes "0/0/ground,0/0/ground\n")
    (codes "refused 25 Limit\n")

-- of a command in a session: zendrouz 1\n{board}signals 9\nsession\n0 open 1\n0 cmd 1 0 0
abbrev pub Row_89_2 : Type 0
Row_89_2 =
    Answers commands.Replay
    (codes "zendrouz 1\n"
    ++ text_board
    ++ codes "signals 9\n"
    ++ codes "session\n"
    ++ codes "0 open 1\n"
    ++ codes "0 cmd 1 0 0 now:0 timer:256 now:0 count:257 none:0 0/0/ground,0/0/ground,0/0/ground,"
    ++ codes "0/0/ground,0/0/ground,0/0/ground,0/0/ground,0/0/ground,0/0/ground,0/0/ground,0/0/gro"
    ++ codes "und,0/0/ground,0/0/ground,0/0/ground,0/0/ground,0/0/ground,0/0/ground,0/0/ground,0/0"
    ++ codes "/ground,0/0/ground,0/0/ground,0/0/ground,0/0/ground,0/0/ground,0/0/ground,0/0/ground"
    ++ codes ",0/0/ground,0/0/ground,0/0/ground,0/0/ground,0/0/ground,0/0/ground,0/0/ground,0/0/gr"
    ++ codes "ound,0/0/ground,0/0/ground,0/0/ground,0/0/ground,0/0/ground,0/0/ground,0/0/ground,0/"
    ++ codes "0/ground,0/0/ground,0/0/ground,0/0/ground,0/0/ground,0/0/ground,0/0/ground,0/0/groun"
    ++ codes "d,0/0/ground,0/0/ground,0/0/ground,0/0/ground,0/0/ground,0/0/ground,0/0/ground,0/0/g"
    ++ codes "round,0/0/ground,0/0/ground,0/0/ground,0/0/ground,0/0/ground,0/0/ground,0/0/ground,0"
    ++ codes "/0/ground,0/0/ground,0/0/ground,0/0/ground,0/0/ground,0/0/ground,0/0/ground,0/0/grou"
    ++ codes "nd,0/0/ground,0/0/ground,0/0/ground,0/0/ground,0/0/ground,0/0/ground,0/0/ground,0/0/"
    ++ codes "ground,0/0/ground,0/0/ground,0/0/ground,0/0/ground,0/0/ground,0/0/ground,0/0/ground,"
    ++ codes "0/0/ground,0/0/ground,0/0/ground,0/0/ground,0/0/ground,0/0/ground,0/0/ground,0/0/gro"
    ++ codes "und,0/0/ground,0/0/ground,0/0/ground,0/0/ground,0/0/ground,0/0/ground,0/0/ground,0/0"
    ++ codes "/ground,0/0/ground,0/0/ground,0/0/ground,0/0/ground,0/0/ground,0/0/ground,0/0/ground"
    ++ codes ",0/0/ground,0/0/ground,0/0/ground,0/0/ground,0/0/ground,0/0/ground,0/0/ground,0/0/gr"
    ++ codes "ound,0/0/ground,0/0/ground,0/0/ground,0/0/ground,0/0/ground,0/0/ground,0/0/ground,0/"
    ++ codes "0/ground,0/0/ground,0/0/ground,0/0/ground,0/0/ground,0/0/ground,0/0/ground,0/0/groun"
    ++ codes "d,0/0/ground,0/0/ground,0/0/ground,0/0/ground,0/0/ground,0/0/ground,0/0/ground,0/0/g"
    ++ codes "round,0/0/ground,0/0/ground,0/0/ground,0/0/ground,0/0/ground,0/0/ground,0/0/ground,0"
    ++ codes "/0/ground,0/0/ground,0/0/ground,0/0/ground,0/0/ground,0/0/ground,0/0/ground,0/0/grou"
    ++ codes "nd,0/0/ground,0/0/ground,0/0/ground,0/0/ground,0/0/ground,0/0/ground,0/0/ground,0/0/"
    ++ codes "ground,0/0/ground,0/0/ground,0/0/ground,0/0/ground,0/0/ground,0/0/ground,0/0/ground,"
    ++ codes "0/0/ground,0/0/ground,0/0/ground,0/0/ground,0/0/ground,0/0/ground,0/0/ground,0/0/gro"
    ++ codes "und,0/0/ground,0/0/ground,0/0/ground,0/0/ground,0/0/ground,0/0/ground,0/0/ground,0/0"
    ++ codes "/ground,0/0/ground,0/0/ground,0/0/ground,0/0/ground,0/0/ground,0/0/ground,0/0/ground"
    ++ codes ",0/0/ground,0/0/ground,0/0/ground,0/0/ground,0/0/ground,0/0/ground,0/0/ground,0/0/gr"
    ++ codes "ound,0/0/ground,0/0/ground,0/0/ground,0/0/ground,0/0/ground,0/0/ground,0/0/ground,0/"
    ++ codes "0/ground,0/0/ground,0/0/ground,0/0/ground,0/0/ground,0/0/ground,0/0/ground,0/0/groun"
    ++ codes "d,0/0/ground,0/0/ground,0/0/ground,0/0/ground,0/0/ground,0/0/ground,0/0/ground,0/0/g"
    ++ codes "round,0/0/ground,0/0/ground,0/0/ground,0/0/ground,0/0/ground,0/0/ground,0/0/ground,0"
    ++ codes "/0/ground,0/0/ground,0/0/ground,0/0/ground,0/0/ground,0/0/ground,0/0/ground,0/0/grou"
    ++ codes "nd,0/0/ground,0/0/ground,0/0/ground,0/0/ground,0/0/ground,0/0/ground,0/0/ground,0/0/"
    ++ codes "ground,0/0/ground,0/0/ground,0/0/ground,0/0/ground,0/0/ground,0/0/ground,0/0/ground,"
    ++ codes "0/0/ground,0/0/ground\n")
    (codes "ok\n" ++ codes "err 22\n")

-- of a command that is streamed: comedi 2\n{board}signals 9\nsession\ngo paced copy 0 1 0 0 n
abbrev pub Row_95_1 : Type 0
Row_95_1 =
    Refuses commands.Run
    (codes "comedi 2\n"
    ++ text_board
    ++ codes "signals 9\n"
    ++ codes "session\n"
    ++ codes "go paced copy 0 1 0 0 now:0 timer:256 now:0 count:257 none:0 0/0/ground,0/0/ground,0"
    ++ codes "/0/ground,0/0/ground,0/0/ground,0/0/ground,0/0/ground,0/0/ground,0/0/ground,0/0/grou"
    ++ codes "nd,0/0/ground,0/0/ground,0/0/ground,0/0/ground,0/0/ground,0/0/ground,0/0/ground,0/0/"
    ++ codes "ground,0/0/ground,0/0/ground,0/0/ground,0/0/ground,0/0/ground,0/0/ground,0/0/ground,"
    ++ codes "0/0/ground,0/0/ground,0/0/ground,0/0/ground,0/0/ground,0/0/ground,0/0/ground,0/0/gro"
    ++ codes "und,0/0/ground,0/0/ground,0/0/ground,0/0/ground,0/0/ground,0/0/ground,0/0/ground,0/0"
    ++ codes "/ground,0/0/ground,0/0/ground,0/0/ground,0/0/ground,0/0/ground,0/0/ground,0/0/ground"
    ++ codes ",0/0/ground,0/0/ground,0/0/ground,0/0/ground,0/0/ground,0/0/ground,0/0/ground,0/0/gr"
    ++ codes "ound,0/0/ground,0/0/ground,0/0/ground,0/0/ground,0/0/ground,0/0/ground,0/0/ground,0/"
    ++ codes "0/ground,0/0/ground,0/0/ground,0/0/ground,0/0/ground,0/0/ground,0/0/ground,0/0/groun"
    ++ codes "d,0/0/ground,0/0/ground,0/0/ground,0/0/ground,0/0/ground,0/0/ground,0/0/ground,0/0/g"
    ++ codes "round,0/0/ground,0/0/ground,0/0/ground,0/0/ground,0/0/ground,0/0/ground,0/0/ground,0"
    ++ codes "/0/ground,0/0/ground,0/0/ground,0/0/ground,0/0/ground,0/0/ground,0/0/ground,0/0/grou"
    ++ codes "nd,0/0/ground,0/0/ground,0/0/ground,0/0/ground,0/0/ground,0/0/ground,0/0/ground,0/0/"
    ++ codes "ground,0/0/ground,0/0/ground,0/0/ground,0/0/ground,0/0/ground,0/0/ground,0/0/ground,"
    ++ codes "0/0/ground,0/0/ground,0/0/ground,0/0/ground,0/0/ground,0/0/ground,0/0/ground,0/0/gro"
    ++ codes "und,0/0/ground,0/0/ground,0/0/ground,0/0/ground,0/0/ground,0/0/ground,0/0/ground,0/0"
    ++ codes "/ground,0/0/ground,0/0/ground,0/0/ground,0/0/ground,0/0/ground,0/0/ground,0/0/ground"
    ++ codes ",0/0/ground,0/0/ground,0/0/ground,0/0/ground,0/0/ground,0/0/ground,0/0/ground,0/0/gr"
    ++ codes "ound,0/0/ground,0/0/ground,0/0/ground,0/0/ground,0/0/ground,0/0/ground,0/0/ground,0/"
    ++ codes "0/ground,0/0/ground,0/0/ground,0/0/ground,0/0/ground,0/0/ground,0/0/ground,0/0/groun"
    ++ codes "d,0/0/ground,0/0/ground,0/0/ground,0/0/ground,0/0/ground,0/0/ground,0/0/ground,0/0/g"
    ++ codes "round,0/0/ground,0/0/ground,0/0/ground,0/0/ground,0/0/ground,0/0/ground,0/0/ground,0"
    ++ codes "/0/ground,0/0/ground,0/0/ground,0/0/ground,0/0/ground,0/0/ground,0/0/ground,0/0/grou"
    ++ codes "nd,0/0/ground,0/0/ground,0/0/ground,0/0/ground,0/0/ground,0/0/ground,0/0/ground,0/0/"
    ++ codes "ground,0/0/ground,0/0/ground,0/0/ground,0/0/ground,0/0/ground,0/0/ground,0/0/ground,"
    ++ codes "0/0/ground,0/0/ground,0/0/ground,0/0/ground,0/0/ground,0/0/ground,0/0/ground,0/0/gro"
    ++ codes "und,0/0/ground,0/0/ground,0/0/ground,0/0/ground,0/0/ground,0/0/ground,0/0/ground,0/0"
    ++ codes "/ground,0/0/ground,0/0/ground,0/0/ground,0/0/ground,0/0/ground,0/0/ground,0/0/ground"
    ++ codes ",0/0/ground,0/0/ground,0/0/ground,0/0/ground,0/0/ground,0/0/ground,0/0/ground,0/0/gr"
    ++ codes "ound,0/0/ground,0/0/ground,0/0/ground,0/0/ground,0/0/ground,0/0/ground,0/0/ground,0/"
    ++ codes "0/ground,0/0/ground,0/0/ground,0/0/ground,0/0/ground,0/0/ground,0/0/ground,0/0/groun"
    ++ codes "d,0/0/ground,0/0/ground,0/0/ground,0/0/ground,0/0/ground,0/0/ground,0/0/ground,0/0/g"
    ++ codes "round,0/0/ground,0/0/ground,0/0/ground,0/0/ground,0/0/ground,0/0/ground,0/0/ground,0"
    ++ codes "/0/ground,0/0/ground,0/0/ground\n")
    (codes "refused 25 Limit\n")

-- of a command that is streamed: comedi 2\n{board}signals 9\nsession\ndrive 0 1 1 0 ext:0 tim
abbrev pub Row_95_4 : Type 0
Row_95_4 =
    Refuses commands.Run
    (codes "comedi 2\n"
    ++ text_board
    ++ codes "signals 9\n"
    ++ codes "session\n"
    ++ codes "drive 0 1 1 0 ext:0 timer:256 now:0 count:257 count:1 0/0/ground,0/0/ground,0/0/grou"
    ++ codes "nd,0/0/ground,0/0/ground,0/0/ground,0/0/ground,0/0/ground,0/0/ground,0/0/ground,0/0/"
    ++ codes "ground,0/0/ground,0/0/ground,0/0/ground,0/0/ground,0/0/ground,0/0/ground,0/0/ground,"
    ++ codes "0/0/ground,0/0/ground,0/0/ground,0/0/ground,0/0/ground,0/0/ground,0/0/ground,0/0/gro"
    ++ codes "und,0/0/ground,0/0/ground,0/0/ground,0/0/ground,0/0/ground,0/0/ground,0/0/ground,0/0"
    ++ codes "/ground,0/0/ground,0/0/ground,0/0/ground,0/0/ground,0/0/ground,0/0/ground,0/0/ground"
    ++ codes ",0/0/ground,0/0/ground,0/0/ground,0/0/ground,0/0/ground,0/0/ground,0/0/ground,0/0/gr"
    ++ codes "ound,0/0/ground,0/0/ground,0/0/ground,0/0/ground,0/0/ground,0/0/ground,0/0/ground,0/"
    ++ codes "0/ground,0/0/ground,0/0/ground,0/0/ground,0/0/ground,0/0/ground,0/0/ground,0/0/groun"
    ++ codes "d,0/0/ground,0/0/ground,0/0/ground,0/0/ground,0/0/ground,0/0/ground,0/0/ground,0/0/g"
    ++ codes "round,0/0/ground,0/0/ground,0/0/ground,0/0/ground,0/0/ground,0/0/ground,0/0/ground,0"
    ++ codes "/0/ground,0/0/ground,0/0/ground,0/0/ground,0/0/ground,0/0/ground,0/0/ground,0/0/grou"
    ++ codes "nd,0/0/ground,0/0/ground,0/0/ground,0/0/ground,0/0/ground,0/0/ground,0/0/ground,0/0/"
    ++ codes "ground,0/0/ground,0/0/ground,0/0/ground,0/0/ground,0/0/ground,0/0/ground,0/0/ground,"
    ++ codes "0/0/ground,0/0/ground,0/0/ground,0/0/ground,0/0/ground,0/0/ground,0/0/ground,0/0/gro"
    ++ codes "und,0/0/ground,0/0/ground,0/0/ground,0/0/ground,0/0/ground,0/0/ground,0/0/ground,0/0"
    ++ codes "/ground,0/0/ground,0/0/ground,0/0/ground,0/0/ground,0/0/ground,0/0/ground,0/0/ground"
    ++ codes ",0/0/ground,0/0/ground,0/0/ground,0/0/ground,0/0/ground,0/0/ground,0/0/ground,0/0/gr"
    ++ codes "ound,0/0/ground,0/0/ground,0/0/ground,0/0/ground,0/0/ground,0/0/ground,0/0/ground,0/"
    ++ codes "0/ground,0/0/ground,0/0/ground,0/0/ground,0/0/ground,0/0/ground,0/0/ground,0/0/groun"
    ++ codes "d,0/0/ground,0/0/ground,0/0/ground,0/0/ground,0/0/ground,0/0/ground,0/0/ground,0/0/g"
    ++ codes "round,0/0/ground,0/0/ground,0/0/ground,0/0/ground,0/0/ground,0/0/ground,0/0/ground,0"
    ++ codes "/0/ground,0/0/ground,0/0/ground,0/0/ground,0/0/ground,0/0/ground,0/0/ground,0/0/grou"
    ++ codes "nd,0/0/ground,0/0/ground,0/0/ground,0/0/ground,0/0/ground,0/0/ground,0/0/ground,0/0/"
    ++ codes "ground,0/0/ground,0/0/ground,0/0/ground,0/0/ground,0/0/ground,0/0/ground,0/0/ground,"
    ++ codes "0/0/ground,0/0/ground,0/0/ground,0/0/ground,0/0/ground,0/0/ground,0/0/ground,0/0/gro"
    ++ codes "und,0/0/ground,0/0/ground,0/0/ground,0/0/ground,0/0/ground,0/0/ground,0/0/ground,0/0"
    ++ codes "/ground,0/0/ground,0/0/ground,0/0/ground,0/0/ground,0/0/ground,0/0/ground,0/0/ground"
    ++ codes ",0/0/ground,0/0/ground,0/0/ground,0/0/ground,0/0/ground,0/0/ground,0/0/ground,0/0/gr"
    ++ codes "ound,0/0/ground,0/0/ground,0/0/ground,0/0/ground,0/0/ground,0/0/ground,0/0/ground,0/"
    ++ codes "0/ground,0/0/ground,0/0/ground,0/0/ground,0/0/ground,0/0/ground,0/0/ground,0/0/groun"
    ++ codes "d,0/0/ground,0/0/ground,0/0/ground,0/0/ground,0/0/ground,0/0/ground,0/0/ground,0/0/g"
    ++ codes "round,0/0/ground,0/0/ground,0/0/ground,0/0/ground,0/0/ground,0/0/ground,0/0/ground,0"
    ++ codes "/0/ground,0/0/ground,0/0/ground,0/0/ground,0/0/ground,0/0/ground,0/0/ground,0/0/grou"
    ++ codes "nd,0/0/ground,0/0/ground\n")
    (codes "refused 25 Limit\n")

-- of a command that is streamed: zendrouz 1\n{board}signals 9\nsession\ndrive 0 1 1 0 ext:0 t
abbrev pub Row_95_5 : Type 0
Row_95_5 =
    Refuses commands.Run
    (codes "zendrouz 1\n"
    ++ text_board
    ++ codes "signals 9\n"
    ++ codes "session\n"
    ++ codes "drive 0 1 1 0 ext:0 timer:256 now:0 count:257 count:1 0/0/ground,0/0/ground,0/0/grou"
    ++ codes "nd,0/0/ground,0/0/ground,0/0/ground,0/0/ground,0/0/ground,0/0/ground,0/0/ground,0/0/"
    ++ codes "ground,0/0/ground,0/0/ground,0/0/ground,0/0/ground,0/0/ground,0/0/ground,0/0/ground,"
    ++ codes "0/0/ground,0/0/ground,0/0/ground,0/0/ground,0/0/ground,0/0/ground,0/0/ground,0/0/gro"
    ++ codes "und,0/0/ground,0/0/ground,0/0/ground,0/0/ground,0/0/ground,0/0/ground,0/0/ground,0/0"
    ++ codes "/ground,0/0/ground,0/0/ground,0/0/ground,0/0/ground,0/0/ground,0/0/ground,0/0/ground"
    ++ codes ",0/0/ground,0/0/ground,0/0/ground,0/0/ground,0/0/ground,0/0/ground,0/0/ground,0/0/gr"
    ++ codes "ound,0/0/ground,0/0/ground,0/0/ground,0/0/ground,0/0/ground,0/0/ground,0/0/ground,0/"
    ++ codes "0/ground,0/0/ground,0/0/ground,0/0/ground,0/0/ground,0/0/ground,0/0/ground,0/0/groun"
    ++ codes "d,0/0/ground,0/0/ground,0/0/ground,0/0/ground,0/0/ground,0/0/ground,0/0/ground,0/0/g"
    ++ codes "round,0/0/ground,0/0/ground,0/0/ground,0/0/ground,0/0/ground,0/0/ground,0/0/ground,0"
    ++ codes "/0/ground,0/0/ground,0/0/ground,0/0/ground,0/0/ground,0/0/ground,0/0/ground,0/0/grou"
    ++ codes "nd,0/0/ground,0/0/ground,0/0/ground,0/0/ground,0/0/ground,0/0/ground,0/0/ground,0/0/"
    ++ codes "ground,0/0/ground,0/0/ground,0/0/ground,0/0/ground,0/0/ground,0/0/ground,0/0/ground,"
    ++ codes "0/0/ground,0/0/ground,0/0/ground,0/0/ground,0/0/ground,0/0/ground,0/0/ground,0/0/gro"
    ++ codes "und,0/0/ground,0/0/ground,0/0/ground,0/0/ground,0/0/ground,0/0/ground,0/0/ground,0/0"
    ++ codes "/ground,0/0/ground,0/0/ground,0/0/ground,0/0/ground,0/0/ground,0/0/ground,0/0/ground"
    ++ codes ",0/0/ground,0/0/ground,0/0/ground,0/0/ground,0/0/ground,0/0/ground,0/0/ground,0/0/gr"
    ++ codes "ound,0/0/ground,0/0/ground,0/0/ground,0/0/ground,0/0/ground,0/0/ground,0/0/ground,0/"
    ++ codes "0/ground,0/0/ground,0/0/ground,0/0/ground,0/0/ground,0/0/ground,0/0/ground,0/0/groun"
    ++ codes "d,0/0/ground,0/0/ground,0/0/ground,0/0/ground,0/0/ground,0/0/ground,0/0/ground,0/0/g"
    ++ codes "round,0/0/ground,0/0/ground,0/0/ground,0/0/ground,0/0/ground,0/0/ground,0/0/ground,0"
    ++ codes "/0/ground,0/0/ground,0/0/ground,0/0/ground,0/0/ground,0/0/ground,0/0/ground,0/0/grou"
    ++ codes "nd,0/0/ground,0/0/ground,0/0/ground,0/0/ground,0/0/ground,0/0/ground,0/0/ground,0/0/"
    ++ codes "ground,0/0/ground,0/0/ground,0/0/ground,0/0/ground,0/0/ground,0/0/ground,0/0/ground,"
    ++ codes "0/0/ground,0/0/ground,0/0/ground,0/0/ground,0/0/ground,0/0/ground,0/0/ground,0/0/gro"
    ++ codes "und,0/0/ground,0/0/ground,0/0/ground,0/0/ground,0/0/ground,0/0/ground,0/0/ground,0/0"
    ++ codes "/ground,0/0/ground,0/0/ground,0/0/ground,0/0/ground,0/0/ground,0/0/ground,0/0/ground"
    ++ codes ",0/0/ground,0/0/ground,0/0/ground,0/0/ground,0/0/ground,0/0/ground,0/0/ground,0/0/gr"
    ++ codes "ound,0/0/ground,0/0/ground,0/0/ground,0/0/ground,0/0/ground,0/0/ground,0/0/ground,0/"
    ++ codes "0/ground,0/0/ground,0/0/ground,0/0/ground,0/0/ground,0/0/ground,0/0/ground,0/0/groun"
    ++ codes "d,0/0/ground,0/0/ground,0/0/ground,0/0/ground,0/0/ground,0/0/ground,0/0/ground,0/0/g"
    ++ codes "round,0/0/ground,0/0/ground,0/0/ground,0/0/ground,0/0/ground,0/0/ground,0/0/ground,0"
    ++ codes "/0/ground,0/0/ground,0/0/ground,0/0/ground,0/0/ground,0/0/ground,0/0/ground,0/0/grou"
    ++ codes "nd,0/0/ground,0/0/ground\n")
    (codes "refused 25 Bad\n")

-- of a command that is watched: comedi 2\n{board}signals 9\nsession\ngo paced copy 0 all 0 0
abbrev pub Row_102_1 : Type 0
Row_102_1 =
    Refuses commands.Watch
    (codes "comedi 2\n"
    ++ text_board
    ++ codes "signals 9\n"
    ++ codes "session\n"
    ++ codes "go paced copy 0 all 0 0 now:0 timer:256 now:0 count:257 none:0 0/0/ground,0/0/ground"
    ++ codes ",0/0/ground,0/0/ground,0/0/ground,0/0/ground,0/0/ground,0/0/ground,0/0/ground,0/0/gr"
    ++ codes "ound,0/0/ground,0/0/ground,0/0/ground,0/0/ground,0/0/ground,0/0/ground,0/0/ground,0/"
    ++ codes "0/ground,0/0/ground,0/0/ground,0/0/ground,0/0/ground,0/0/ground,0/0/ground,0/0/groun"
    ++ codes "d,0/0/ground,0/0/ground,0/0/ground,0/0/ground,0/0/ground,0/0/ground,0/0/ground,0/0/g"
    ++ codes "round,0/0/ground,0/0/ground,0/0/ground,0/0/ground,0/0/ground,0/0/ground,0/0/ground,0"
    ++ codes "/0/ground,0/0/ground,0/0/ground,0/0/ground,0/0/ground,0/0/ground,0/0/ground,0/0/grou"
    ++ codes "nd,0/0/ground,0/0/ground,0/0/ground,0/0/ground,0/0/ground,0/0/ground,0/0/ground,0/0/"
    ++ codes "ground,0/0/ground,0/0/ground,0/0/ground,0/0/ground,0/0/ground,0/0/ground,0/0/ground,"
    ++ codes "0/0/ground,0/0/ground,0/0/ground,0/0/ground,0/0/ground,0/0/ground,0/0/ground,0/0/gro"
    ++ codes "und,0/0/ground,0/0/ground,0/0/ground,0/0/ground,0/0/ground,0/0/ground,0/0/ground,0/0"
    ++ codes "/ground,0/0/ground,0/0/ground,0/0/ground,0/0/ground,0/0/ground,0/0/ground,0/0/ground"
    ++ codes ",0/0/ground,0/0/ground,0/0/ground,0/0/ground,0/0/ground,0/0/ground,0/0/ground,0/0/gr"
    ++ codes "ound,0/0/ground,0/0/ground,0/0/ground,0/0/ground,0/0/ground,0/0/ground,0/0/ground,0/"
    ++ codes "0/ground,0/0/ground,0/0/ground,0/0/ground,0/0/ground,0/0/ground,0/0/ground,0/0/groun"
    ++ codes "d,0/0/ground,0/0/ground,0/0/ground,0/0/ground,0/0/ground,0/0/ground,0/0/ground,0/0/g"
    ++ codes "round,0/0/ground,0/0/ground,0/0/ground,0/0/ground,0/0/ground,0/0/ground,0/0/ground,0"
    ++ codes "/0/ground,0/0/ground,0/0/ground,0/0/ground,0/0/ground,0/0/ground,0/0/ground,0/0/grou"
    ++ codes "nd,0/0/ground,0/0/ground,0/0/ground,0/0/ground,0/0/ground,0/0/ground,0/0/ground,0/0/"
    ++ codes "ground,0/0/ground,0/0/ground,0/0/ground,0/0/ground,0/0/ground,0/0/ground,0/0/ground,"
    ++ codes "0/0/ground,0/0/ground,0/0/ground,0/0/ground,0/0/ground,0/0/ground,0/0/ground,0/0/gro"
    ++ codes "und,0/0/ground,0/0/ground,0/0/ground,0/0/ground,0/0/ground,0/0/ground,0/0/ground,0/0"
    ++ codes "/ground,0/0/ground,0/0/ground,0/0/ground,0/0/ground,0/0/ground,0/0/ground,0/0/ground"
    ++ codes ",0/0/ground,0/0/ground,0/0/ground,0/0/ground,0/0/ground,0/0/ground,0/0/ground,0/0/gr"
    ++ codes "ound,0/0/ground,0/0/ground,0/0/ground,0/0/ground,0/0/ground,0/0/ground,0/0/ground,0/"
    ++ codes "0/ground,0/0/ground,0/0/ground,0/0/ground,0/0/ground,0/0/ground,0/0/ground,0/0/groun"
    ++ codes "d,0/0/ground,0/0/ground,0/0/ground,0/0/ground,0/0/ground,0/0/ground,0/0/ground,0/0/g"
    ++ codes "round,0/0/ground,0/0/ground,0/0/ground,0/0/ground,0/0/ground,0/0/ground,0/0/ground,0"
    ++ codes "/0/ground,0/0/ground,0/0/ground,0/0/ground,0/0/ground,0/0/ground,0/0/ground,0/0/grou"
    ++ codes "nd,0/0/ground,0/0/ground,0/0/ground,0/0/ground,0/0/ground,0/0/ground,0/0/ground,0/0/"
    ++ codes "ground,0/0/ground,0/0/ground,0/0/ground,0/0/ground,0/0/ground,0/0/ground,0/0/ground,"
    ++ codes "0/0/ground,0/0/ground,0/0/ground,0/0/ground,0/0/ground,0/0/ground,0/0/ground,0/0/gro"
    ++ codes "und,0/0/ground,0/0/ground,0/0/ground,0/0/ground,0/0/ground,0/0/ground,0/0/ground,0/0"
    ++ codes "/ground,0/0/ground,0/0/ground,0/0/ground,0/0/ground,0/0/ground,0/0/ground,0/0/ground"
    ++ codes ",0/0/ground,0/0/ground,0/0/ground\n")
    (codes "refused 25 Limit\n")

-- of both commands of a loop: comedi 2\n{board}signals 9\nsession\nloop 0 0 1 0 0 now:0 ti
abbrev pub Row_106_1 : Type 0
Row_106_1 =
    Refuses commands.Loop
    (codes "comedi 2\n"
    ++ text_board
    ++ codes "signals 9\n"
    ++ codes "session\n"
    ++ codes "loop 0 0 1 0 0 now:0 timer:256 now:0 count:257 none:0 0/0/ground,0/0/ground,0/0/grou"
    ++ codes "nd,0/0/ground,0/0/ground,0/0/ground,0/0/ground,0/0/ground,0/0/ground,0/0/ground,0/0/"
    ++ codes "ground,0/0/ground,0/0/ground,0/0/ground,0/0/ground,0/0/ground,0/0/ground,0/0/ground,"
    ++ codes "0/0/ground,0/0/ground,0/0/ground,0/0/ground,0/0/ground,0/0/ground,0/0/ground,0/0/gro"
    ++ codes "und,0/0/ground,0/0/ground,0/0/ground,0/0/ground,0/0/ground,0/0/ground,0/0/ground,0/0"
    ++ codes "/ground,0/0/ground,0/0/ground,0/0/ground,0/0/ground,0/0/ground,0/0/ground,0/0/ground"
    ++ codes ",0/0/ground,0/0/ground,0/0/ground,0/0/ground,0/0/ground,0/0/ground,0/0/ground,0/0/gr"
    ++ codes "ound,0/0/ground,0/0/ground,0/0/ground,0/0/ground,0/0/ground,0/0/ground,0/0/ground,0/"
    ++ codes "0/ground,0/0/ground,0/0/ground,0/0/ground,0/0/ground,0/0/ground,0/0/ground,0/0/groun"
    ++ codes "d,0/0/ground,0/0/ground,0/0/ground,0/0/ground,0/0/ground,0/0/ground,0/0/ground,0/0/g"
    ++ codes "round,0/0/ground,0/0/ground,0/0/ground,0/0/ground,0/0/ground,0/0/ground,0/0/ground,0"
    ++ codes "/0/ground,0/0/ground,0/0/ground,0/0/ground,0/0/ground,0/0/ground,0/0/ground,0/0/grou"
    ++ codes "nd,0/0/ground,0/0/ground,0/0/ground,0/0/ground,0/0/ground,0/0/ground,0/0/ground,0/0/"
    ++ codes "ground,0/0/ground,0/0/ground,0/0/ground,0/0/ground,0/0/ground,0/0/ground,0/0/ground,"
    ++ codes "0/0/ground,0/0/ground,0/0/ground,0/0/ground,0/0/ground,0/0/ground,0/0/ground,0/0/gro"
    ++ codes "und,0/0/ground,0/0/ground,0/0/ground,0/0/ground,0/0/ground,0/0/ground,0/0/ground,0/0"
    ++ codes "/ground,0/0/ground,0/0/ground,0/0/ground,0/0/ground,0/0/ground,0/0/ground,0/0/ground"
    ++ codes ",0/0/ground,0/0/ground,0/0/ground,0/0/ground,0/0/ground,0/0/ground,0/0/ground,0/0/gr"
    ++ codes "ound,0/0/ground,0/0/ground,0/0/ground,0/0/ground,0/0/ground,0/0/ground,0/0/ground,0/"
    ++ codes "0/ground,0/0/ground,0/0/ground,0/0/ground,0/0/ground,0/0/ground,0/0/ground,0/0/groun"
    ++ codes "d,0/0/ground,0/0/ground,0/0/ground,0/0/ground,0/0/ground,0/0/ground,0/0/ground,0/0/g"
    ++ codes "round,0/0/ground,0/0/ground,0/0/ground,0/0/ground,0/0/ground,0/0/ground,0/0/ground,0"
    ++ codes "/0/ground,0/0/ground,0/0/ground,0/0/ground,0/0/ground,0/0/ground,0/0/ground,0/0/grou"
    ++ codes "nd,0/0/ground,0/0/ground,0/0/ground,0/0/ground,0/0/ground,0/0/ground,0/0/ground,0/0/"
    ++ codes "ground,0/0/ground,0/0/ground,0/0/ground,0/0/ground,0/0/ground,0/0/ground,0/0/ground,"
    ++ codes "0/0/ground,0/0/ground,0/0/ground,0/0/ground,0/0/ground,0/0/ground,0/0/ground,0/0/gro"
    ++ codes "und,0/0/ground,0/0/ground,0/0/ground,0/0/ground,0/0/ground,0/0/ground,0/0/ground,0/0"
    ++ codes "/ground,0/0/ground,0/0/ground,0/0/ground,0/0/ground,0/0/ground,0/0/ground,0/0/ground"
    ++ codes ",0/0/ground,0/0/ground,0/0/ground,0/0/ground,0/0/ground,0/0/ground,0/0/ground,0/0/gr"
    ++ codes "ound,0/0/ground,0/0/ground,0/0/ground,0/0/ground,0/0/ground,0/0/ground,0/0/ground,0/"
    ++ codes "0/ground,0/0/ground,0/0/ground,0/0/ground,0/0/ground,0/0/ground,0/0/ground,0/0/groun"
    ++ codes "d,0/0/ground,0/0/ground,0/0/ground,0/0/ground,0/0/ground,0/0/ground,0/0/ground,0/0/g"
    ++ codes "round,0/0/ground,0/0/ground,0/0/ground,0/0/ground,0/0/ground,0/0/ground,0/0/ground,0"
    ++ codes "/0/ground,0/0/ground,0/0/ground,0/0/ground,0/0/ground,0/0/ground,0/0/ground,0/0/grou"
    ++ codes "nd,0/0/ground,0/0/ground 1 0 x:0 x:0 x:0 x:0 x:0 -\n")
    (codes "refused 25 Limit\n")

-- of both commands of a loop: zendrouz 1\n{board}signals 9\nsession\nloop 0 0 1 0 0 now:0
abbrev pub Row_106_2 : Type 0
Row_106_2 =
    Refuses commands.Loop
    (codes "zendrouz 1\n"
    ++ text_board
    ++ codes "signals 9\n"
    ++ codes "session\n"
    ++ codes "loop 0 0 1 0 0 now:0 timer:256 now:0 count:257 none:0 0/0/ground,0/0/ground,0/0/grou"
    ++ codes "nd,0/0/ground,0/0/ground,0/0/ground,0/0/ground,0/0/ground,0/0/ground,0/0/ground,0/0/"
    ++ codes "ground,0/0/ground,0/0/ground,0/0/ground,0/0/ground,0/0/ground,0/0/ground,0/0/ground,"
    ++ codes "0/0/ground,0/0/ground,0/0/ground,0/0/ground,0/0/ground,0/0/ground,0/0/ground,0/0/gro"
    ++ codes "und,0/0/ground,0/0/ground,0/0/ground,0/0/ground,0/0/ground,0/0/ground,0/0/ground,0/0"
    ++ codes "/ground,0/0/ground,0/0/ground,0/0/ground,0/0/ground,0/0/ground,0/0/ground,0/0/ground"
    ++ codes ",0/0/ground,0/0/ground,0/0/ground,0/0/ground,0/0/ground,0/0/ground,0/0/ground,0/0/gr"
    ++ codes "ound,0/0/ground,0/0/ground,0/0/ground,0/0/ground,0/0/ground,0/0/ground,0/0/ground,0/"
    ++ codes "0/ground,0/0/ground,0/0/ground,0/0/ground,0/0/ground,0/0/ground,0/0/ground,0/0/groun"
    ++ codes "d,0/0/ground,0/0/ground,0/0/ground,0/0/ground,0/0/ground,0/0/ground,0/0/ground,0/0/g"
    ++ codes "round,0/0/ground,0/0/ground,0/0/ground,0/0/ground,0/0/ground,0/0/ground,0/0/ground,0"
    ++ codes "/0/ground,0/0/ground,0/0/ground,0/0/ground,0/0/ground,0/0/ground,0/0/ground,0/0/grou"
    ++ codes "nd,0/0/ground,0/0/ground,0/0/ground,0/0/ground,0/0/ground,0/0/ground,0/0/ground,0/0/"
    ++ codes "ground,0/0/ground,0/0/ground,0/0/ground,0/0/ground,0/0/ground,0/0/ground,0/0/ground,"
    ++ codes "0/0/ground,0/0/ground,0/0/ground,0/0/ground,0/0/ground,0/0/ground,0/0/ground,0/0/gro"
    ++ codes "und,0/0/ground,0/0/ground,0/0/ground,0/0/ground,0/0/ground,0/0/ground,0/0/ground,0/0"
    ++ codes "/ground,0/0/ground,0/0/ground,0/0/ground,0/0/ground,0/0/ground,0/0/ground,0/0/ground"
    ++ codes ",0/0/ground,0/0/ground,0/0/ground,0/0/ground,0/0/ground,0/0/ground,0/0/ground,0/0/gr"
    ++ codes "ound,0/0/ground,0/0/ground,0/0/ground,0/0/ground,0/0/ground,0/0/ground,0/0/ground,0/"
    ++ codes "0/ground,0/0/ground,0/0/ground,0/0/ground,0/0/ground,0/0/ground,0/0/ground,0/0/groun"
    ++ codes "d,0/0/ground,0/0/ground,0/0/ground,0/0/ground,0/0/ground,0/0/ground,0/0/ground,0/0/g"
    ++ codes "round,0/0/ground,0/0/ground,0/0/ground,0/0/ground,0/0/ground,0/0/ground,0/0/ground,0"
    ++ codes "/0/ground,0/0/ground,0/0/ground,0/0/ground,0/0/ground,0/0/ground,0/0/ground,0/0/grou"
    ++ codes "nd,0/0/ground,0/0/ground,0/0/ground,0/0/ground,0/0/ground,0/0/ground,0/0/ground,0/0/"
    ++ codes "ground,0/0/ground,0/0/ground,0/0/ground,0/0/ground,0/0/ground,0/0/ground,0/0/ground,"
    ++ codes "0/0/ground,0/0/ground,0/0/ground,0/0/ground,0/0/ground,0/0/ground,0/0/ground,0/0/gro"
    ++ codes "und,0/0/ground,0/0/ground,0/0/ground,0/0/ground,0/0/ground,0/0/ground,0/0/ground,0/0"
    ++ codes "/ground,0/0/ground,0/0/ground,0/0/ground,0/0/ground,0/0/ground,0/0/ground,0/0/ground"
    ++ codes ",0/0/ground,0/0/ground,0/0/ground,0/0/ground,0/0/ground,0/0/ground,0/0/ground,0/0/gr"
    ++ codes "ound,0/0/ground,0/0/ground,0/0/ground,0/0/ground,0/0/ground,0/0/ground,0/0/ground,0/"
    ++ codes "0/ground,0/0/ground,0/0/ground,0/0/ground,0/0/ground,0/0/ground,0/0/ground,0/0/groun"
    ++ codes "d,0/0/ground,0/0/ground,0/0/ground,0/0/ground,0/0/ground,0/0/ground,0/0/ground,0/0/g"
    ++ codes "round,0/0/ground,0/0/ground,0/0/ground,0/0/ground,0/0/ground,0/0/ground,0/0/ground,0"
    ++ codes "/0/ground,0/0/ground,0/0/ground,0/0/ground,0/0/ground,0/0/ground,0/0/ground,0/0/grou"
    ++ codes "nd,0/0/ground,0/0/ground 1 0 x:0 x:0 x:0 x:0 x:0 -\n")
    (codes "refused 25 Unknown\n")

-- of both commands of a loop: zendrouz 1\n{board}signals 9\nsession\nloop 0 0 1 0 0 now:0
abbrev pub Row_106_4 : Type 0
Row_106_4 =
    Refuses commands.Loop
    (codes "zendrouz 1\n"
    ++ text_board
    ++ codes "signals 9\n"
    ++ codes "session\n"
    ++ codes "loop 0 0 1 0 0 now:0 timer:256 now:0 count:257 none:0 0/0/ground,0/0/ground,0/0/grou"
    ++ codes "nd,0/0/ground,0/0/ground,0/0/ground,0/0/ground,0/0/ground,0/0/ground,0/0/ground,0/0/"
    ++ codes "ground,0/0/ground,0/0/ground,0/0/ground,0/0/ground,0/0/ground,0/0/ground,0/0/ground,"
    ++ codes "0/0/ground,0/0/ground,0/0/ground,0/0/ground,0/0/ground,0/0/ground,0/0/ground,0/0/gro"
    ++ codes "und,0/0/ground,0/0/ground,0/0/ground,0/0/ground,0/0/ground,0/0/ground,0/0/ground,0/0"
    ++ codes "/ground,0/0/ground,0/0/ground,0/0/ground,0/0/ground,0/0/ground,0/0/ground,0/0/ground"
    ++ codes ",0/0/ground,0/0/ground,0/0/ground,0/0/ground,0/0/ground,0/0/ground,0/0/ground,0/0/gr"
    ++ codes "ound,0/0/ground,0/0/ground,0/0/ground,0/0/ground,0/0/ground,0/0/ground,0/0/ground,0/"
    ++ codes "0/ground,0/0/ground,0/0/ground,0/0/ground,0/0/ground,0/0/ground,0/0/ground,0/0/groun"
    ++ codes "d,0/0/ground,0/0/ground,0/0/ground,0/0/ground,0/0/ground,0/0/ground,0/0/ground,0/0/g"
    ++ codes "round,0/0/ground,0/0/ground,0/0/ground,0/0/ground,0/0/ground,0/0/ground,0/0/ground,0"
    ++ codes "/0/ground,0/0/ground,0/0/ground,0/0/ground,0/0/ground,0/0/ground,0/0/ground,0/0/grou"
    ++ codes "nd,0/0/ground,0/0/ground,0/0/ground,0/0/ground,0/0/ground,0/0/ground,0/0/ground,0/0/"
    ++ codes "ground,0/0/ground,0/0/ground,0/0/ground,0/0/ground,0/0/ground,0/0/ground,0/0/ground,"
    ++ codes "0/0/ground,0/0/ground,0/0/ground,0/0/ground,0/0/ground,0/0/ground,0/0/ground,0/0/gro"
    ++ codes "und,0/0/ground,0/0/ground,0/0/ground,0/0/ground,0/0/ground,0/0/ground,0/0/ground,0/0"
    ++ codes "/ground,0/0/ground,0/0/ground,0/0/ground,0/0/ground,0/0/ground,0/0/ground,0/0/ground"
    ++ codes ",0/0/ground,0/0/ground,0/0/ground,0/0/ground,0/0/ground,0/0/ground,0/0/ground,0/0/gr"
    ++ codes "ound,0/0/ground,0/0/ground,0/0/ground,0/0/ground,0/0/ground,0/0/ground,0/0/ground,0/"
    ++ codes "0/ground,0/0/ground,0/0/ground,0/0/ground,0/0/ground,0/0/ground,0/0/ground,0/0/groun"
    ++ codes "d,0/0/ground,0/0/ground,0/0/ground,0/0/ground,0/0/ground,0/0/ground,0/0/ground,0/0/g"
    ++ codes "round,0/0/ground,0/0/ground,0/0/ground,0/0/ground,0/0/ground,0/0/ground,0/0/ground,0"
    ++ codes "/0/ground,0/0/ground,0/0/ground,0/0/ground,0/0/ground,0/0/ground,0/0/ground,0/0/grou"
    ++ codes "nd,0/0/ground,0/0/ground,0/0/ground,0/0/ground,0/0/ground,0/0/ground,0/0/ground,0/0/"
    ++ codes "ground,0/0/ground,0/0/ground,0/0/ground,0/0/ground,0/0/ground,0/0/ground,0/0/ground,"
    ++ codes "0/0/ground,0/0/ground,0/0/ground,0/0/ground,0/0/ground,0/0/ground,0/0/ground,0/0/gro"
    ++ codes "und,0/0/ground,0/0/ground,0/0/ground,0/0/ground,0/0/ground,0/0/ground,0/0/ground,0/0"
    ++ codes "/ground,0/0/ground,0/0/ground,0/0/ground,0/0/ground,0/0/ground,0/0/ground,0/0/ground"
    ++ codes ",0/0/ground,0/0/ground,0/0/ground,0/0/ground,0/0/ground,0/0/ground,0/0/ground,0/0/gr"
    ++ codes "ound,0/0/ground,0/0/ground,0/0/ground,0/0/ground,0/0/ground,0/0/ground,0/0/ground,0/"
    ++ codes "0/ground,0/0/ground,0/0/ground,0/0/ground,0/0/ground,0/0/ground,0/0/ground,0/0/groun"
    ++ codes "d,0/0/ground,0/0/ground,0/0/ground,0/0/ground,0/0/ground,0/0/ground,0/0/ground,0/0/g"
    ++ codes "round,0/0/ground,0/0/ground,0/0/ground,0/0/ground,0/0/ground,0/0/ground,0/0/ground,0"
    ++ codes "/0/ground,0/0/ground,0/0/ground,0/0/ground,0/0/ground,0/0/ground,0/0/ground,0/0/grou"
    ++ codes "nd,0/0/ground,0/0/ground 1 0 ext:0 timer:256 now:0 count:1 count:1 0/0/ground\n")
    (codes "refused 25 Bad\n")

-- all of them
pub record AreLimitsLines : Type 0 where
  pub row_44_1 : Row_44_1
  pub row_44_2 : Row_44_2
  pub row_44_3 : Row_44_3
  pub row_44_4 : Row_44_4
  pub row_44_5 : Row_44_5
  pub row_44_6 : Row_44_6
  pub row_52_1 : Row_52_1
  pub row_52_2 : Row_52_2
  pub row_52_3 : Row_52_3
  pub row_52_4 : Row_52_4
  pub row_58_1 : Row_58_1
  pub row_58_2 : Row_58_2
  pub row_58_3 : Row_58_3
  pub row_58_4 : Row_58_4
  pub row_58_5 : Row_58_5
  pub row_58_6 : Row_58_6
  pub row_58_7 : Row_58_7
  pub row_58_8 : Row_58_8
  pub row_58_9 : Row_58_9
  pub row_69_1 : Row_69_1
  pub row_69_2 : Row_69_2
  pub row_69_3 : Row_69_3
  pub row_74_1 : Row_74_1
  pub row_74_2 : Row_74_2
  pub row_74_3 : Row_74_3
  pub row_74_7 : Row_74_7
  pub row_84_1 : Row_84_1
  pub row_89_1 : Row_89_1
  pub row_89_2 : Row_89_2
  pub row_95_1 : Row_95_1
  pub row_95_4 : Row_95_4
  pub row_95_5 : Row_95_5
  pub row_102_1 : Row_102_1
  pub row_106_1 : Row_106_1
  pub row_106_2 : Row_106_2
  pub row_106_4 : Row_106_4
