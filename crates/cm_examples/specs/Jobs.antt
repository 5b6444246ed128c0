-- Made by tools/make_examples: the examples of `tests/jobs.rows`
use Rattle.std.specs.Prelude.{codes, ℕ, List, ◌++◌, []}
use Rattle.cm_cli.specs.declared.command.Command.TheVariants as commands
use Rattle.cm_examples.specs.Answering.{Answers, Refuses}

-- the text `demo`
abbrev pub text_demo : List ℕ
text_demo =
    codes "comedi 1\n"
    ++ codes "board demo\n"
    ++ codes "subdevice ai 4\n"
    ++ codes "bits 16\n"
    ++ codes "munge offset\n"
    ++ codes "range -10000000 10000000 0\n"
    ++ codes "range -5000001 5000000 0\n"
    ++ codes "sources now|ext|int follow|timer|ext now|timer|ext count none|count\n"
    ++ codes "tick 100\n"
    ++ codes "scan 1000 160000\n"
    ++ codes "convert 200 1000000\n"
    ++ codes "list 16\n"
    ++ codes "scans 1000000\n"
    ++ codes "lines 2\n"
    ++ codes "buffer 4\n"
    ++ codes "subdevice ao 2\n"
    ++ codes "bits 12\n"
    ++ codes "munge offset\n"
    ++ codes "range -10000000 10000000 0\n"
    ++ codes "sources now|int timer now count none|count\n"
    ++ codes "tick 100\n"
    ++ codes "scan 1000 1000000\n"
    ++ codes "convert 1000 1000\n"
    ++ codes "list 2\n"
    ++ codes "scans 1000000\n"
    ++ codes "lines 0\n"
    ++ codes "buffer 8\n"
    ++ codes "subdevice dio 8\n"
    ++ codes "bits 1\n"
    ++ codes "munge none\n"
    ++ codes "range 0 1 2\n"
    ++ codes "subdevice unused 0\n"

-- the text `first`
abbrev pub text_first : List ℕ
text_first =
    codes "comedi 1\n"
    ++ codes "board first\n"
    ++ codes "subdevice ai 1\n"
    ++ codes "bits 8\n"
    ++ codes "range 0 255 0\n"
    ++ codes "sources now timer now count count\n"
    ++ codes "tick 1\n"
    ++ codes "scan 1 1000000\n"
    ++ codes "convert 1 1\n"
    ++ codes "list 1\n"
    ++ codes "buffer 4\n"

-- the text `gate`
abbrev pub text_gate : List ℕ
text_gate =
    codes "comedi 2\n"
    ++ codes "board gate\n"
    ++ codes "subdevice ai 1\n"
    ++ codes "bits 8\n"
    ++ codes "range 0 255 0\n"
    ++ codes "sources now|ext timer|ext now count none|ext\n"
    ++ codes "tick 1\n"
    ++ codes "scan 1 1000000\n"
    ++ codes "convert 1 1\n"
    ++ codes "list 1\n"
    ++ codes "lines 1\n"
    ++ codes "buffer 8\n"
    ++ codes "invert\n"

-- the text `gate_edges`
abbrev pub text_gate_edges : List ℕ
text_gate_edges =
    codes "signals 10000\n"
    ++ codes "edges 0 500 3200\n"
    ++ codes "falls 0 700 2500\n"
    ++ codes "session\n"

-- the text `two`
abbrev pub text_two : List ℕ
text_two =
    codes "comedi 2\n"
    ++ codes "board two\n"
    ++ codes "subdevice ai 2\n"
    ++ codes "bits 8\n"
    ++ codes "range 0 255 0\n"
    ++ codes "sources now timer now count count\n"
    ++ codes "tick 1\n"
    ++ codes "scan 1 1000000\n"
    ++ codes "convert 1 1\n"
    ++ codes "list 2\n"
    ++ codes "buffer 4\n"
    ++ codes "chan 1 bits 4\n"
    ++ codes "chan 1 munge offset\n"
    ++ codes "chan 1 range 0 15 0\n"

-- the text `two_session`
abbrev pub text_two_session : List ℕ
text_two_session =
    codes "signals 10000\n"
    ++ codes "wave 0 0 const 100\n"
    ++ codes "wave 0 1 const 3\n"
    ++ codes "session\n"
    ++ codes "0 open 1\n"

-- the text `lines`
abbrev pub text_lines : List ℕ
text_lines =
    codes "comedi 2\n"
    ++ codes "board lines\n"
    ++ codes "subdevice ai 2\n"
    ++ codes "bits 8\n"
    ++ codes "range 0 255 0\n"
    ++ codes "sources now|ext timer|ext now|timer|ext count none|count|ext\n"
    ++ codes "tick 1\n"
    ++ codes "scan 1 1000000\n"
    ++ codes "convert 1 1000\n"
    ++ codes "list 2\n"
    ++ codes "lines 2\n"
    ++ codes "buffer 8\n"
    ++ codes "invert\n"

-- the text `table`
abbrev pub text_table : List ℕ
text_table =
    codes "signals 10000\n"
    ++ codes "wave 0 0 table 1000 0 1000000 2000000 3000000 4000000 5000000\n"
    ++ codes "session\n"

-- the text `forms`
abbrev pub text_forms : List ℕ
text_forms =
    codes "comedi 2\n"
    ++ codes "board forms\n"
    ++ codes "subdevice ai 4\n"
    ++ codes "bits 16\n"
    ++ codes "range -32768 32767 0\n"
    ++ codes "sources now timer now count none|count\n"
    ++ codes "tick 1\n"
    ++ codes "scan 1 1000000\n"
    ++ codes "convert 1 1\n"
    ++ codes "list 4\n"
    ++ codes "buffer 16\n"
    ++ codes "chan 1 munge swap16\n"
    ++ codes "chan 2 bits 12\n"
    ++ codes "chan 2 munge left 4\n"
    ++ codes "chan 2 range 0 4095 0\n"
    ++ codes "chan 3 munge offset\n"
    ++ codes "signals 100\n"
    ++ codes "wave 0 0 const -28108\n"
    ++ codes "wave 0 1 const -28108\n"
    ++ codes "wave 0 2 const 2748\n"
    ++ codes "wave 0 3 const 8191\n"
    ++ codes "session\n"

-- done after its stop count
abbrev pub Row_125 : Type 0
Row_125 =
    Answers commands.Replay
    (text_demo
    ++ codes "signals 10000\n"
    ++ codes "wave 0 0 const 2500000\n"
    ++ codes "session\n"
    ++ codes "0 open 1\n"
    ++ codes "0 cmd 1 0 0 now:0 timer:1000 now:0 count:1 count:3 0/0/ground\n"
    ++ codes "2000 read 1 0 10\n"
    ++ codes "2000 read 1 0 10\n")
    (codes "ok\n"
    ++ codes "ok\n"
    ++ codes "ok 3\n"
    ++ codes "0 2499885\n"
    ++ codes "0 2499885\n"
    ++ codes "0 2499885\n"
    ++ codes "ok 0 done\n")

-- overrun at the sixth sample
abbrev pub Row_142 : Type 0
Row_142 =
    Answers commands.Replay
    (text_demo
    ++ text_table
    ++ codes "0 open 1\n"
    ++ codes "0 cmd 1 0 0 now:0 timer:1000 now:0 count:1 count:6 0/0/ground\n"
    ++ codes "3000 read 1 0 1\n"
    ++ codes "5000 read 1 0 10\n"
    ++ codes "5000 read 1 0 10\n"
    ++ codes "5000 read 1 0 10\n")
    (codes "ok\n"
    ++ codes "ok\n"
    ++ codes "ok 1\n"
    ++ codes "0 -153\n"
    ++ codes "ok 4\n"
    ++ codes "0 999923\n"
    ++ codes "0 2000000\n"
    ++ codes "0 2999771\n"
    ++ codes "0 3999847\n"
    ++ codes "err 32 overrun 5\n"
    ++ codes "ok 0 idle\n")

-- a table of levels
abbrev pub Row_162 : Type 0
Row_162 =
    Answers commands.Replay
    (text_demo
    ++ text_table
    ++ codes "0 open 1\n"
    ++ codes "0 cmd 1 0 0 now:0 timer:1000 now:0 count:1 count:6 0/0/ground\n"
    ++ codes "1000 read 1 0 10\n")
    (codes "ok\n" ++ codes "ok\n" ++ codes "ok 2\n" ++ codes "0 -153\n" ++ codes "0 999923\n")

-- overrun on another board
abbrev pub Row_173 : Type 0
Row_173 =
    Answers commands.Replay
    (text_first
    ++ codes "signals 10000\n"
    ++ codes "wave 0 0 const 100\n"
    ++ codes "session\n"
    ++ codes "0 open 1\n"
    ++ codes "0 cmd 1 0 0 now:0 timer:1000 now:0 count:1 count:6 0/0/ground\n"
    ++ codes "3000 read 1 0 1\n"
    ++ codes "5000 read 1 0 10\n"
    ++ codes "5000 read 1 0 10\n")
    (codes "ok\n"
    ++ codes "ok\n"
    ++ codes "ok 1\n"
    ++ codes "0 100\n"
    ++ codes "ok 4\n"
    ++ codes "0 100\n"
    ++ codes "0 100\n"
    ++ codes "0 100\n"
    ++ codes "0 100\n"
    ++ codes "err 32 overrun 5\n")

-- a source narrowed, two sources left
abbrev pub Row_194 : Type 0
Row_194 =
    Answers commands.Test
    (text_demo
    ++ codes "signals 0\n"
    ++ codes "session\n"
    ++ codes "test 0 0 now|follow:0 timer:1000 now:0 count:1 count:3 0/0/ground\n"
    ++ codes "test 0 0 now|int:0 timer:1000 now:0 count:1 count:3 0/0/ground\n")
    (codes "step 1 0 0 now:0 timer:1000 now:0 count:1 count:3 0/0/ground\n"
    ++ codes "step 2 0 0 now|int:0 timer:1000 now:0 count:1 count:3 0/0/ground\n")

-- times rounded each way
abbrev pub Row_203 : Type 0
Row_203 =
    Answers commands.Test
    (text_demo
    ++ codes "signals 0\n"
    ++ codes "session\n"
    ++ codes "test 0 0 now:0 follow:0 timer:250 count:1 count:3 0/0/ground\n"
    ++ codes "test 0 65536 now:0 follow:0 timer:250 count:1 count:3 0/0/ground\n"
    ++ codes "test 0 131072 now:0 follow:0 timer:250 count:1 count:3 0/0/ground\n"
    ++ codes "test 0 0 now:0 follow:0 timer:300 count:1 count:3 0/0/ground\n")
    (codes "step 4 0 0 now:0 follow:0 timer:300 count:1 count:3 0/0/ground\n"
    ++ codes "step 4 0 65536 now:0 follow:0 timer:200 count:1 count:3 0/0/ground\n"
    ++ codes "step 4 0 131072 now:0 follow:0 timer:300 count:1 count:3 0/0/ground\n"
    ++ codes "step 0 0 0 now:0 follow:0 timer:300 count:1 count:3 0/0/ground\n")

-- a list that fails the last step
abbrev pub Row_216 : Type 0
Row_216 =
    Answers commands.Test
    (text_demo
    ++ codes "signals 0\n"
    ++ codes "session\n"
    ++ codes "test 0 0 now:0 timer:1000 now:0 count:0 count:3 -\n"
    ++ codes "test 0 0 now:0 timer:1000 now:0 count:1 count:3 4/0/ground\n")
    (codes "step 5 0 0 now:0 timer:1000 now:0 count:0 count:3 -\n"
    ++ codes "step 5 0 0 now:0 timer:1000 now:0 count:1 count:3 4/0/ground\n")

-- scans at edges, one edge lost
abbrev pub Row_225 : Type 0
Row_225 =
    Answers commands.Expand
    (text_demo
    ++ codes "signals 10000\n"
    ++ codes "edges 0 1000 1200 1500 3000\n"
    ++ codes "session\n"
    ++ codes "expand 0 0 0 now:0 ext:0 timer:300 count:2 count:2 0/0/ground,1/0/ground\n")
    (codes "1000 0 65535\n"
    ++ codes "1300 1 65535\n"
    ++ codes "3000 0 65535\n"
    ++ codes "3300 1 65535\n"
    ++ codes "done\n")

-- conversions at edges, and too few of them
abbrev pub Row_237 : Type 0
Row_237 =
    Answers commands.Expand
    (text_demo
    ++ codes "signals 10000\n"
    ++ codes "edges 1 500 900 1700\n"
    ++ codes "session\n"
    ++ codes "expand 0 0 0 now:0 follow:0 ext:1 count:2 count:2 0/0/ground,1/0/ground\n")
    (codes "500 0 65535\n" ++ codes "900 1 65535\n" ++ codes "1700 0 65535\n" ++ codes "dry\n")

-- an internal trigger at the time of the call
abbrev pub Row_248 : Type 0
Row_248 =
    Answers commands.Expand
    (text_demo
    ++ codes "signals 10000\n"
    ++ codes "int 0 100 0\n"
    ++ codes "int 0 500 0\n"
    ++ codes "session\n"
    ++ codes "expand 500 0 0 int:0 timer:1000 now:0 count:1 count:1 0/0/ground\n")
    (codes "500 0 65535\n" ++ codes "done\n")

-- an empty job
abbrev pub Row_258 : Type 0
Row_258 = Refuses commands.Replay [] (codes "refused 1 Missing\n")

-- another version
abbrev pub Row_261 : Type 0
Row_261 = Refuses commands.Replay (codes "comedi 3\n") (codes "refused 1 Limit\n")

-- a name of two words
abbrev pub Row_265 : Type 0
Row_265 = Refuses commands.Replay (codes "comedi 1\n" ++ codes "board x y\n") (codes "refused 2 BadLine\n")

-- another line for the first block
abbrev pub Row_270 : Type 0
Row_270 =
    Refuses commands.Replay
    (codes "comedi 1\n" ++ codes "board x\n" ++ codes "foo\n")
    (codes "refused 3 Missing\n")

-- a number with a leading zero
abbrev pub Row_276 : Type 0
Row_276 =
    Refuses commands.Replay
    (codes "comedi 1\n" ++ codes "board x\n" ++ codes "subdevice ai 1\n" ++ codes "bits 08\n")
    (codes "refused 4 BadNumber\n")

-- a line twice
abbrev pub Row_283 : Type 0
Row_283 =
    Refuses commands.Replay
    (codes "comedi 1\n"
    ++ codes "board x\n"
    ++ codes "subdevice ai 1\n"
    ++ codes "bits 8\n"
    ++ codes "bits 8\n")
    (codes "refused 5 Double\n")

-- an empty range
abbrev pub Row_291 : Type 0
Row_291 =
    Refuses commands.Replay
    (codes "comedi 1\n"
    ++ codes "board x\n"
    ++ codes "subdevice ai 1\n"
    ++ codes "bits 8\n"
    ++ codes "range 5 5 0\n")
    (codes "refused 5 Bad\n")

-- an unknown line
abbrev pub Row_299 : Type 0
Row_299 =
    Refuses commands.Replay
    (codes "comedi 1\n"
    ++ codes "board x\n"
    ++ codes "subdevice ai 1\n"
    ++ codes "bits 8\n"
    ++ codes "wat 1\n")
    (codes "refused 5 Unknown\n")

-- from a fall to a rise
abbrev pub Row_307 : Type 0
Row_307 =
    Answers commands.Expand
    (text_gate
    ++ text_gate_edges
    ++ codes "expand 0 0 0 ext:2147483648 timer:1000 now:0 count:1 ext:0 0/0/ground\n")
    (codes "700 0 0\n" ++ codes "1700 0 0\n" ++ codes "2700 0 0\n" ++ codes "done\n")

-- from a fall to the next fall
abbrev pub Row_315 : Type 0
Row_315 =
    Answers commands.Expand
    (text_gate
    ++ text_gate_edges
    ++ codes "expand 0 0 0 ext:2147483648 timer:1000 now:0 count:1 ext:2147483648 0/0/ground\n")
    (codes "700 0 0\n" ++ codes "1700 0 0\n" ++ codes "done\n")

-- scans at falls
abbrev pub Row_322 : Type 0
Row_322 =
    Answers commands.Expand
    (text_gate
    ++ text_gate_edges
    ++ codes "expand 0 0 0 ext:0 ext:2147483648 now:0 count:1 ext:0 0/0/ground\n")
    (codes "700 0 0\n" ++ codes "2500 0 0\n" ++ codes "done\n")

-- a stop before the first scan
abbrev pub Row_329 : Type 0
Row_329 =
    Answers commands.Expand
    (text_gate
    ++ text_gate_edges
    ++ codes "expand 0 0 0 ext:2147483648 ext:0 now:0 count:1 ext:2147483648 0/0/ground\n")
    (codes "done\n")

-- no edge to start at, and none to stop at
abbrev pub Row_334 : Type 0
Row_334 =
    Answers commands.Expand
    (text_gate
    ++ text_gate_edges
    ++ codes "expand 3201 0 0 ext:0 timer:1000 now:0 count:1 ext:0 0/0/ground\n"
    ++ codes "expand 2500 0 0 ext:2147483648 timer:4000 now:0 count:1 ext:2147483648 0/0/ground\n")
    (codes "dry\n" ++ codes "2500 0 0\n" ++ codes "6500 0 0\n" ++ codes "dry\n")

-- a scan that has begun is finished after the stop
abbrev pub Row_343 : Type 0
Row_343 =
    Answers commands.Expand
    (text_lines
    ++ codes "signals 10000\n"
    ++ codes "edges 0 1000 1100\n"
    ++ codes "edges 1 1000\n"
    ++ codes "session\n"
    ++ codes "expand 1 0 0 now:0 timer:999 timer:400 count:2 ext:0 0/0/ground,1/0/ground\n"
    ++ codes "expand 0 0 0 now:0 timer:1000 timer:400 count:2 ext:1 0/0/ground,1/0/ground\n"
    ++ codes "expand 1000 0 0 now:0 timer:1000 timer:400 count:2 ext:0 0/0/ground,1/0/ground\n")
    (codes "1 0 0\n"
    ++ codes "401 1 0\n"
    ++ codes "done\n"
    ++ codes "0 0 0\n"
    ++ codes "400 1 0\n"
    ++ codes "done\n"
    ++ codes "1000 0 0\n"
    ++ codes "1400 1 0\n"
    ++ codes "done\n")

-- a scan that the horizon cuts after the stop
abbrev pub Row_362 : Type 0
Row_362 =
    Answers commands.Expand
    (text_lines
    ++ codes "signals 1300\n"
    ++ codes "edges 0 1100\n"
    ++ codes "session\n"
    ++ codes "expand 0 0 0 now:0 timer:1000 timer:400 count:2 ext:0 0/0/ground,1/0/ground\n")
    (codes "0 0 0\n" ++ codes "400 1 0\n" ++ codes "1000 0 0\n" ++ codes "dry\n")

-- conversions at falls
abbrev pub Row_373 : Type 0
Row_373 =
    Answers commands.Expand
    (text_lines
    ++ codes "signals 10000\n"
    ++ codes "edges 0 100 2000\n"
    ++ codes "falls 1 500 900 1700 2600\n"
    ++ codes "session\n"
    ++ codes "expand 0 0 0 now:0 ext:0 ext:2147483649 count:2 ext:2147483649 0/0/ground,1/0/ground\n"
    ++ codes "expand 0 0 0 now:0 ext:0 ext:2147483649 count:2 none:0 0/0/ground,1/0/ground\n")
    (codes "500 0 0\n"
    ++ codes "900 1 0\n"
    ++ codes "done\n"
    ++ codes "500 0 0\n"
    ++ codes "900 1 0\n"
    ++ codes "2600 0 0\n"
    ++ codes "dry\n")

-- the line of an argument is moved, and its bit 31 stays
abbrev pub Row_389 : Type 0
Row_389 =
    Answers commands.Test
    (text_gate
    ++ text_gate_edges
    ++ codes "test 0 0 ext:2147483651 timer:1000 now:0 count:1 none:0 0/0/ground\n"
    ++ codes "test 0 0 ext:0 ext:4 now:0 count:1 ext:4294967295 0/0/ground\n"
    ++ codes "test 0 0 ext:2147483648 timer:1000 now:0 count:1 ext:0 0/0/ground\n")
    (codes "step 3 0 0 ext:2147483648 timer:1000 now:0 count:1 none:0 0/0/ground\n"
    ++ codes "step 3 0 0 ext:0 ext:0 now:0 count:1 ext:2147483648 0/0/ground\n"
    ++ codes "step 0 0 0 ext:2147483648 timer:1000 now:0 count:1 ext:0 0/0/ground\n")

-- without inverted lines bit 31 is part of the number
abbrev pub Row_398 : Type 0
Row_398 =
    Answers commands.Test
    (text_demo
    ++ codes "signals 0\n"
    ++ codes "session\n"
    ++ codes "test 0 0 ext:2147483648 timer:1000 now:0 count:1 none:0 0/0/ground\n"
    ++ codes "test 0 0 now:0 timer:1000 now:0 count:1 ext:0 0/0/ground\n")
    (codes "step 3 0 0 ext:1 timer:1000 now:0 count:1 none:0 0/0/ground\n"
    ++ codes "step 1 0 0 now:0 timer:1000 now:0 count:1 invalid:0 0/0/ground\n")

-- falls are no edges of a board of version 1
abbrev pub Row_407 : Type 0
Row_407 =
    Answers commands.Expand
    (text_demo
    ++ codes "signals 10000\n"
    ++ codes "edges 0 1000\n"
    ++ codes "falls 0 500\n"
    ++ codes "session\n"
    ++ codes "expand 0 0 0 ext:0 timer:1000 now:0 count:1 count:1 0/0/ground\n")
    (codes "1000 0 65535\n" ++ codes "done\n")

-- falls that a board of version 1 is asked for
abbrev pub Row_417 : Type 0
Row_417 =
    Refuses commands.Expand
    (text_demo
    ++ codes "signals 10000\n"
    ++ codes "falls 0 500\n"
    ++ codes "session\n"
    ++ codes "expand 0 0 0 ext:2147483648 timer:1000 now:0 count:1 count:1 0/0/ground\n")
    (codes "refused 36 Bad\n")

-- two channels of different forms
abbrev pub Row_425 : Type 0
Row_425 =
    Answers commands.Expand
    (text_two
    ++ codes "signals 10000\n"
    ++ codes "wave 0 0 const 100\n"
    ++ codes "wave 0 1 const 3\n"
    ++ codes "session\n"
    ++ codes "expand 0 0 0 now:0 timer:1000 now:0 count:2 count:2 0/0/ground,1/0/ground\n")
    (codes "0 0 100\n"
    ++ codes "0 1 11\n"
    ++ codes "1000 0 100\n"
    ++ codes "1000 1 11\n"
    ++ codes "done\n")

-- a channel has its own ranges alone
abbrev pub Row_438 : Type 0
Row_438 =
    Answers commands.Test
    (text_two
    ++ codes "chan 1 range 0 7 0\n"
    ++ codes "signals 0\n"
    ++ codes "session\n"
    ++ codes "test 0 0 now:0 timer:1000 now:0 count:2 count:2 0/0/ground,1/1/ground\n"
    ++ codes "test 0 0 now:0 timer:1000 now:0 count:2 count:2 0/1/ground,1/1/ground\n")
    (codes "step 0 0 0 now:0 timer:1000 now:0 count:2 count:2 0/0/ground,1/1/ground\n"
    ++ codes "step 5 0 0 now:0 timer:1000 now:0 count:2 count:2 0/1/ground,1/1/ground\n")

-- a replay of a channel with its own form
abbrev pub Row_448 : Type 0
Row_448 =
    Answers commands.Replay
    (text_two
    ++ codes "chan 0 bits 4\n"
    ++ codes "chan 0 munge offset\n"
    ++ codes "chan 0 range 0 100 0\n"
    ++ codes "signals 10000\n"
    ++ codes "wave 0 0 const 50\n"
    ++ codes "session\n"
    ++ codes "0 open 1\n"
    ++ codes "0 cmd 1 0 0 now:0 timer:1000 now:0 count:1 count:1 0/0/ground\n"
    ++ codes "1000 read 1 0 3\n"
    ++ codes "1000 read 1 0 3\n")
    (codes "ok\n" ++ codes "ok\n" ++ codes "ok 1\n" ++ codes "0 46\n" ++ codes "ok 0 done\n")

-- samples wait in a FIFO until the signals end
abbrev pub Row_466 : Type 0
Row_466 =
    Answers commands.Replay
    (text_two
    ++ codes "fifo 4096 1000000000\n"
    ++ codes "signals 10000\n"
    ++ codes "wave 0 0 const 100\n"
    ++ codes "session\n"
    ++ codes "0 open 1\n"
    ++ codes "0 cmd 1 0 0 now:0 timer:1000 now:0 count:1 count:6 0/0/ground\n"
    ++ codes "3000 read 1 0 1\n"
    ++ codes "5000 read 1 0 10\n"
    ++ codes "5000 read 1 0 10\n")
    (codes "ok\n" ++ codes "ok\n" ++ codes "ok 0\n" ++ codes "ok 0\n" ++ codes "ok 0\n")

-- a channel past the last one
abbrev pub Row_483 : Type 0
Row_483 =
    Refuses commands.Test
    (text_two ++ codes "chan 2 bits 4\n" ++ codes "signals 0\n" ++ codes "session\n")
    (codes "refused 15 Limit\n")

-- a channel's line in version 1
abbrev pub Row_490 : Type 0
Row_490 =
    Refuses commands.Test
    (codes "comedi 1\n"
    ++ codes "board two\n"
    ++ codes "subdevice ai 2\n"
    ++ codes "bits 8\n"
    ++ codes "range 0 255 0\n"
    ++ codes "sources now timer now count count\n"
    ++ codes "tick 1\n"
    ++ codes "scan 1 1000000\n"
    ++ codes "convert 1 1\n"
    ++ codes "list 2\n"
    ++ codes "buffer 4\n"
    ++ codes "chan 1 bits 4\n"
    ++ codes "chan 1 munge offset\n"
    ++ codes "chan 1 range 0 15 0\n"
    ++ codes "signals 0\n"
    ++ codes "session\n")
    (codes "refused 12 Unknown\n")

-- a text that ends before its signals
abbrev pub Row_509 : Type 0
Row_509 = Refuses commands.Replay text_demo (codes "refused 33 Missing\n")

-- a text that ends before its session
abbrev pub Row_513 : Type 0
Row_513 = Refuses commands.Replay (text_demo ++ codes "signals 10000\n") (codes "refused 34 Missing\n")

-- a text that ends within a line
abbrev pub Row_518 : Type 0
Row_518 =
    Refuses commands.Replay
    (text_demo ++ codes "signals 10000\n" ++ codes "wave 0 0 const 25\n")
    (codes "refused 35 Missing\n")

-- an empty job
abbrev pub Row_524 : Type 0
Row_524 = Refuses commands.Replay [] (codes "refused 1 Missing\n")

-- a scan of two channels of other forms
abbrev pub Row_527 : Type 0
Row_527 =
    Answers commands.Replay
    (text_two
    ++ text_two_session
    ++ codes "0 cmd 1 0 0 now:0 timer:1000 now:0 count:2 count:3 0/0/ground,1/0/ground\n"
    ++ codes "1000 read 1 0 3\n"
    ++ codes "2000 read 1 0 9\n")
    (codes "ok\n"
    ++ codes "ok\n"
    ++ codes "ok 3\n"
    ++ codes "0 100\n"
    ++ codes "1 3\n"
    ++ codes "0 100\n"
    ++ codes "ok 3\n"
    ++ codes "1 3\n"
    ++ codes "0 100\n"
    ++ codes "1 3\n")

-- the raw words of two channels of other forms
abbrev pub Row_543 : Type 0
Row_543 =
    Answers commands.Replay
    (text_two
    ++ text_two_session
    ++ codes "0 cmd 1 0 128 now:0 timer:1000 now:0 count:2 count:3 0/0/ground,1/0/ground\n"
    ++ codes "1000 read 1 0 3\n"
    ++ codes "2000 read 1 0 9\n")
    (codes "ok\n"
    ++ codes "ok\n"
    ++ codes "ok 3\n"
    ++ codes "0 raw 100\n"
    ++ codes "1 raw 11\n"
    ++ codes "0 raw 100\n"
    ++ codes "ok 3\n"
    ++ codes "1 raw 11\n"
    ++ codes "0 raw 100\n"
    ++ codes "1 raw 11\n")

-- a command from a fall to a rise
abbrev pub Row_559 : Type 0
Row_559 =
    Answers commands.Replay
    (text_gate
    ++ text_gate_edges
    ++ codes "0 open 1\n"
    ++ codes "0 cmd 1 0 0 ext:2147483648 timer:1000 now:0 count:1 ext:0 0/0/ground\n"
    ++ codes "3000 read 1 0 9\n"
    ++ codes "3000 read 1 0 9\n"
    ++ codes "3200 read 1 0 9\n")
    (codes "ok\n"
    ++ codes "ok\n"
    ++ codes "ok 3\n"
    ++ codes "0 0\n"
    ++ codes "0 0\n"
    ++ codes "0 0\n"
    ++ codes "ok 0\n"
    ++ codes "ok 0 done\n")

-- a subdevice without commands, and one that isn't there
abbrev pub Row_575 : Type 0
Row_575 =
    Answers commands.Test
    (text_demo
    ++ codes "signals 0\n"
    ++ codes "session\n"
    ++ codes "test 2 0 now:0 timer:1000 now:0 count:1 count:1 0/0/ground\n"
    ++ codes "test 4 0 now:0 timer:1000 now:0 count:1 count:1 0/0/ground\n")
    (codes "err 5\n" ++ codes "err 19\n")

-- three scans of four edges
abbrev pub Row_584 : Type 0
Row_584 =
    Answers commands.Expand
    (text_demo
    ++ codes "signals 5000\n"
    ++ codes "every 0 0 1000 4\n"
    ++ codes "session\n"
    ++ codes "expand 0 0 0 ext:0 ext:0 now:0 count:1 count:3 0/0/ground\n")
    (codes "0 0 65535\n" ++ codes "1000 0 65535\n" ++ codes "2000 0 65535\n" ++ codes "done\n")

-- the signals end before the command
abbrev pub Row_595 : Type 0
Row_595 =
    Answers commands.Replay
    (text_first
    ++ codes "signals 1500\n"
    ++ codes "session\n"
    ++ codes "0 open 1\n"
    ++ codes "0 cmd 1 0 0 now:0 timer:1000 now:0 count:1 count:6 0/0/ground\n"
    ++ codes "1500 read 1 0 9\n"
    ++ codes "1500 read 1 0 9\n")
    (codes "ok\n"
    ++ codes "ok\n"
    ++ codes "ok 2\n"
    ++ codes "0 0\n"
    ++ codes "0 0\n"
    ++ codes "ok 0 dry\n")

-- the words of four forms
abbrev pub Row_636 : Type 0
Row_636 =
    Answers commands.Expand
    (text_forms
    ++ codes "expand 0 0 0 now:0 timer:1000 now:0 count:4 count:1 0/0/ground,1/0/ground,2/0/ground"
    ++ codes ",3/0/ground\n")
    (codes "0 0 4660\n"
    ++ codes "0 1 13330\n"
    ++ codes "0 2 43968\n"
    ++ codes "0 3 8191\n"
    ++ codes "done\n")

-- the levels of words of four forms
abbrev pub Row_645 : Type 0
Row_645 =
    Answers commands.Replay
    (text_forms
    ++ codes "0 open 1\n"
    ++ codes "0 cmd 1 0 0 now:0 timer:1000 now:0 count:4 count:1 0/0/ground,1/0/ground,2/0/ground,"
    ++ codes "3/0/ground\n"
    ++ codes "0 read 1 0 9\n")
    (codes "ok\n"
    ++ codes "ok\n"
    ++ codes "ok 4\n"
    ++ codes "0 -28108\n"
    ++ codes "1 -28108\n"
    ++ codes "2 2748\n"
    ++ codes "3 8191\n")

-- the levels of each wave, rounded down
abbrev pub Row_658 : Type 0
Row_658 =
    Answers commands.Expand
    (codes "comedi 1\n"
    ++ codes "board waves\n"
    ++ codes "subdevice ai 4\n"
    ++ codes "bits 8\n"
    ++ codes "range -100 155 0\n"
    ++ codes "sources now timer now count count\n"
    ++ codes "tick 1\n"
    ++ codes "scan 1 1000000\n"
    ++ codes "convert 1 1\n"
    ++ codes "list 4\n"
    ++ codes "buffer 4\n"
    ++ codes "signals 100\n"
    ++ codes "wave 0 0 const -3\n"
    ++ codes "wave 0 1 square 1 2 3\n"
    ++ codes "wave 0 2 saw -10 10 7\n"
    ++ codes "wave 0 3 table 10 5 -7 9\n"
    ++ codes "session\n"
    ++ codes "expand 0 0 0 now:0 timer:1 now:0 count:3 count:7 0/0/ground,1/0/ground,2/0/ground\n"
    ++ codes "expand 9 0 0 now:0 timer:10 now:0 count:1 count:4 3/0/ground\n")
    (codes "0 0 97\n"
    ++ codes "0 1 101\n"
    ++ codes "0 2 90\n"
    ++ codes "1 0 97\n"
    ++ codes "1 1 101\n"
    ++ codes "1 2 92\n"
    ++ codes "2 0 97\n"
    ++ codes "2 1 102\n"
    ++ codes "2 2 95\n"
    ++ codes "3 0 97\n"
    ++ codes "3 1 101\n"
    ++ codes "3 2 98\n"
    ++ codes "4 0 97\n"
    ++ codes "4 1 101\n"
    ++ codes "4 2 101\n"
    ++ codes "5 0 97\n"
    ++ codes "5 1 102\n"
    ++ codes "5 2 104\n"
    ++ codes "6 0 97\n"
    ++ codes "6 1 101\n"
    ++ codes "6 2 107\n"
    ++ codes "done\n"
    ++ codes "9 0 105\n"
    ++ codes "19 0 93\n"
    ++ codes "29 0 109\n"
    ++ codes "39 0 105\n"
    ++ codes "done\n")

-- all of them
pub record AreJobs : Type 0 where
  pub row_125 : Row_125
  pub row_142 : Row_142
  pub row_162 : Row_162
  pub row_173 : Row_173
  pub row_194 : Row_194
  pub row_203 : Row_203
  pub row_216 : Row_216
  pub row_225 : Row_225
  pub row_237 : Row_237
  pub row_248 : Row_248
  pub row_258 : Row_258
  pub row_261 : Row_261
  pub row_265 : Row_265
  pub row_270 : Row_270
  pub row_276 : Row_276
  pub row_283 : Row_283
  pub row_291 : Row_291
  pub row_299 : Row_299
  pub row_307 : Row_307
  pub row_315 : Row_315
  pub row_322 : Row_322
  pub row_329 : Row_329
  pub row_334 : Row_334
  pub row_343 : Row_343
  pub row_362 : Row_362
  pub row_373 : Row_373
  pub row_389 : Row_389
  pub row_398 : Row_398
  pub row_407 : Row_407
  pub row_417 : Row_417
  pub row_425 : Row_425
  pub row_438 : Row_438
  pub row_448 : Row_448
  pub row_466 : Row_466
  pub row_483 : Row_483
  pub row_490 : Row_490
  pub row_509 : Row_509
  pub row_513 : Row_513
  pub row_518 : Row_518
  pub row_524 : Row_524
  pub row_527 : Row_527
  pub row_543 : Row_543
  pub row_559 : Row_559
  pub row_575 : Row_575
  pub row_584 : Row_584
  pub row_595 : Row_595
  pub row_636 : Row_636
  pub row_645 : Row_645
  pub row_658 : Row_658
