-- Made by tools/make_examples: the examples of `tests/sessions.rows`
use Rattle.std.specs.Prelude.{codes, ℕ, List, ◌++◌, []}
use Rattle.cm_cli.specs.declared.command.Command.TheVariants as commands
use Rattle.cm_examples.specs.Answering.{Answers, Refuses}

-- the text `demo`
abbrev pub text_demo : List ℕ
text_demo =
    codes "comedi 1\n"
    ++ codes "board demo\n"
    ++ codes "subdevice ai 4\n"
    ++ codes "bits 16\n"
    ++ codes "munge offset\n"
    ++ codes "range -10000000 10000000 0\n"
    ++ codes "range -5000001 5000000 0\n"
    ++ codes "sources now|ext|int follow|timer|ext now|timer|ext count none|count\n"
    ++ codes "tick 100\n"
    ++ codes "scan 1000 160000\n"
    ++ codes "convert 200 1000000\n"
    ++ codes "list 16\n"
    ++ codes "scans 1000000\n"
    ++ codes "lines 2\n"
    ++ codes "buffer 4\n"
    ++ codes "subdevice ao 2\n"
    ++ codes "bits 12\n"
    ++ codes "munge offset\n"
    ++ codes "range -10000000 10000000 0\n"
    ++ codes "sources now|int timer now count none|count\n"
    ++ codes "tick 100\n"
    ++ codes "scan 1000 1000000\n"
    ++ codes "convert 1000 1000\n"
    ++ codes "list 2\n"
    ++ codes "scans 1000000\n"
    ++ codes "lines 0\n"
    ++ codes "buffer 8\n"
    ++ codes "subdevice dio 8\n"
    ++ codes "bits 1\n"
    ++ codes "munge none\n"
    ++ codes "range 0 1 2\n"
    ++ codes "subdevice unused 0\n"

-- the text `table`
abbrev pub text_table : List ℕ
text_table =
    codes "signals 10000\n"
    ++ codes "wave 0 0 table 1000 0 1000000 2000000 3000000 4000000 5000000\n"
    ++ codes "session\n"

-- the text `plain`
abbrev pub text_plain : List ℕ
text_plain =
    codes "signals 10000\n"
    ++ codes "session\n"

-- the text `long`
abbrev pub text_long : List ℕ
text_long =
    codes "signals 3000000000\n"
    ++ codes "session\n"

-- the text `steady`
abbrev pub text_steady : List ℕ
text_steady =
    codes "signals 10000\n"
    ++ codes "wave 0 0 const 2500000\n"
    ++ codes "session\n"

-- the text `far`
abbrev pub text_far : List ℕ
text_far =
    codes "signals 10000\n"
    ++ codes "wave 0 0 const 12000000\n"
    ++ codes "wave 0 1 const -12000000\n"
    ++ codes "session\n"

-- the text `two_outputs`
abbrev pub text_two_outputs : List ℕ
text_two_outputs =
    codes "comedi 2\n"
    ++ codes "board outputs\n"
    ++ codes "subdevice ao 2\n"
    ++ codes "bits 8\n"
    ++ codes "range 0 255 0\n"
    ++ codes "sources int timer now count none|count\n"
    ++ codes "tick 1\n"
    ++ codes "scan 1 1000000\n"
    ++ codes "convert 1 1\n"
    ++ codes "list 2\n"
    ++ codes "buffer 4\n"
    ++ codes "chan 1 bits 4\n"
    ++ codes "chan 1 munge offset\n"
    ++ codes "subdevice do 2\n"
    ++ codes "bits 1\n"
    ++ codes "range 0 1 2\n"
    ++ codes "sources int timer now count none|count\n"
    ++ codes "tick 1\n"
    ++ codes "scan 1 1000000\n"
    ++ codes "convert 1 1\n"
    ++ codes "list 2\n"
    ++ codes "buffer 4\n"

-- the text `deep`
abbrev pub text_deep : List ℕ
text_deep =
    codes "comedi 2\n"
    ++ codes "board first\n"
    ++ codes "subdevice ai 1\n"
    ++ codes "bits 8\n"
    ++ codes "range 0 255 0\n"
    ++ codes "sources now timer now count none|count\n"
    ++ codes "tick 1\n"
    ++ codes "scan 1 1000000\n"
    ++ codes "convert 1 1\n"
    ++ codes "list 1\n"
    ++ codes "buffer 16\n"

-- the text `small`
abbrev pub text_small : List ℕ
text_small =
    codes "comedi 2\n"
    ++ codes "board first\n"
    ++ codes "subdevice ai 1\n"
    ++ codes "bits 8\n"
    ++ codes "range 0 255 0\n"
    ++ codes "sources now timer now count none|count\n"
    ++ codes "tick 1\n"
    ++ codes "scan 1 1000000\n"
    ++ codes "convert 1 1\n"
    ++ codes "list 1\n"
    ++ codes "buffer 4\n"

-- the text `hundred`
abbrev pub text_hundred : List ℕ
text_hundred =
    codes "signals 10000\n"
    ++ codes "wave 0 0 const 100\n"
    ++ codes "session\n"

-- the text `places`
abbrev pub text_places : List ℕ
text_places =
    codes "comedi 2\n"
    ++ codes "board demo\n"
    ++ codes "subdevice ai 2\n"
    ++ codes "bits 16\n"
    ++ codes "range -10000000 10000000 0\n"
    ++ codes "range -5000001 5000000 0\n"
    ++ codes "subdevice ao 2\n"
    ++ codes "bits 12\n"
    ++ codes "range -10000000 10000000 0\n"
    ++ codes "chan 1 bits 4\n"
    ++ codes "subdevice dio 8\n"
    ++ codes "bits 1\n"
    ++ codes "range 0 1 2\n"
    ++ codes "subdevice unused 0\n"
    ++ codes "subdevice di 2\n"
    ++ codes "bits 1\n"
    ++ codes "range 0 1 2\n"

-- an output keeps what is written; a place without a subdevice, and one that isn't there
abbrev pub Row_67 : Type 0
Row_67 =
    Answers commands.Insn
    (text_demo
    ++ text_plain
    ++ codes "0 open 1\n"
    ++ codes "0 insn 1 1 write 0/0/ground 7\n"
    ++ codes "0 insn 1 1 write 0/0/ground 4096\n"
    ++ codes "0 insn 1 1 read 0/0/ground 1\n"
    ++ codes "0 insn 1 3 read 0/0/ground 1\n"
    ++ codes "0 insn 1 4 read 0/0/ground 1\n")
    (codes "ok\n"
    ++ codes "ok 1\n"
    ++ codes "err 22\n"
    ++ codes "ok 1 7\n"
    ++ codes "err 5\n"
    ++ codes "err 19\n")

-- a line becomes an output and keeps its bit
abbrev pub Row_82 : Type 0
Row_82 =
    Answers commands.Insn
    (text_demo
    ++ text_long
    ++ codes "0 open 1\n"
    ++ codes "0 insn 1 2 config 3/0/ground 1\n"
    ++ codes "0 insn 1 2 bits 8 8\n"
    ++ codes "0 insn 1 2 bits 0 0\n"
    ++ codes "2500001000 insn 1 2 gtod\n")
    (codes "ok\n"
    ++ codes "ok 1\n"
    ++ codes "ok 2 8 8\n"
    ++ codes "ok 2 0 8\n"
    ++ codes "ok 2 2 500001\n")

-- a lock keeps the other file out until its own file is closed
abbrev pub Row_95 : Type 0
Row_95 =
    Answers commands.Insn
    (text_demo
    ++ text_plain
    ++ codes "0 open 1\n"
    ++ codes "0 open 2\n"
    ++ codes "0 lock 1 1\n"
    ++ codes "0 insn 2 1 write 0/0/ground 5\n"
    ++ codes "0 insn 1 1 write 0/0/ground 5\n"
    ++ codes "0 close 1\n"
    ++ codes "0 insn 2 1 read 0/0/ground 1\n"
    ++ codes "0 insn 2 0 inttrig 0\n")
    (codes "ok\n"
    ++ codes "ok\n"
    ++ codes "ok\n"
    ++ codes "err 13\n"
    ++ codes "ok 1\n"
    ++ codes "ok\n"
    ++ codes "ok 1 5\n"
    ++ codes "err 11\n")

-- a lock keeps the other file out until its own file is closed, once more
abbrev pub Row_114 : Type 0
Row_114 =
    Answers commands.Replay
    (text_demo
    ++ text_plain
    ++ codes "0 open 1\n"
    ++ codes "0 open 2\n"
    ++ codes "0 lock 1 1\n"
    ++ codes "0 insn 2 1 write 0/0/ground 5\n"
    ++ codes "0 insn 1 1 write 0/0/ground 5\n"
    ++ codes "0 close 1\n"
    ++ codes "0 insn 2 1 read 0/0/ground 1\n"
    ++ codes "0 insn 2 0 inttrig 0\n")
    (codes "ok\n"
    ++ codes "ok\n"
    ++ codes "ok\n"
    ++ codes "err 13\n"
    ++ codes "ok 1\n"
    ++ codes "ok\n"
    ++ codes "ok 1 5\n"
    ++ codes "err 11\n")

-- a session without lines
abbrev pub Row_133 : Type 0
Row_133 = Answers commands.Replay (text_demo ++ text_plain) []

-- a session without lines
abbrev pub Row_136 : Type 0
Row_136 = Answers commands.Insn (text_demo ++ text_plain) []

-- levels outside the range
abbrev pub Row_139 : Type 0
Row_139 =
    Answers commands.Replay
    (text_demo
    ++ text_far
    ++ codes "0 open 1\n"
    ++ codes "0 cmd 1 0 0 now:0 timer:1000 now:0 count:2 count:1 0/0/ground,1/0/ground\n"
    ++ codes "0 read 1 0 9\n")
    (codes "ok\n"
    ++ codes "ok\n"
    ++ codes "ok 2\n"
    ++ codes "0 10000000\n"
    ++ codes "1 -10000000\n")

-- levels are rounded down, also below zero
abbrev pub Row_150 : Type 0
Row_150 =
    Answers commands.Replay
    (text_demo
    ++ text_plain
    ++ codes "0 open 1\n"
    ++ codes "0 cmd 1 0 0 now:0 timer:1000 now:0 count:1 count:1 0/1/ground\n"
    ++ codes "0 read 1 0 1\n")
    (codes "ok\n" ++ codes "ok\n" ++ codes "ok 1\n" ++ codes "0 -77\n")

-- lists that aren't valid
abbrev pub Row_160 : Type 0
Row_160 =
    Answers commands.Replay
    (text_demo
    ++ text_plain
    ++ codes "0 open 1\n"
    ++ codes "0 cmd 1 0 0 now:0 timer:1000 now:0 count:0 count:3 -\n"
    ++ codes "0 cmd 1 0 0 now:0 timer:1000 now:0 count:1 count:3 4/0/ground\n")
    (codes "ok\n" ++ codes "err 22\n" ++ codes "err 22\n")

-- samples are mapped, looked at and released
abbrev pub Row_169 : Type 0
Row_169 =
    Answers commands.Replay
    (text_demo
    ++ text_table
    ++ codes "0 open 1\n"
    ++ codes "0 cmd 1 0 0 now:0 timer:1000 now:0 count:1 count:6 0/0/ground\n"
    ++ codes "2000 map 1 0 3\n"
    ++ codes "2000 release 1 0 1\n"
    ++ codes "4000 look 1 0 0\n"
    ++ codes "4000 look 1 0 1\n"
    ++ codes "4000 release 1 0 3\n"
    ++ codes "4000 read 1 0 1\n")
    (codes "ok\n"
    ++ codes "ok\n"
    ++ codes "ok 3\n"
    ++ codes "ok 1\n"
    ++ codes "ok 0 999923\n"
    ++ codes "ok 0 2000000\n"
    ++ codes "err 22\n"
    ++ codes "err 22\n")

-- a lock keeps out a command, and a file is open once
abbrev pub Row_188 : Type 0
Row_188 =
    Answers commands.Replay
    (text_demo
    ++ text_plain
    ++ codes "0 open 1\n"
    ++ codes "0 open 2\n"
    ++ codes "0 lock 1 0\n"
    ++ codes "0 cmd 2 0 0 now:0 timer:1000 now:0 count:1 count:3 0/0/ground\n"
    ++ codes "0 unlock 2 0\n"
    ++ codes "0 cancel 1 0\n"
    ++ codes "0 cancel 1 0\n"
    ++ codes "0 lock 1 0\n"
    ++ codes "0 unlock 1 0\n"
    ++ codes "0 open 1\n")
    (codes "ok\n"
    ++ codes "ok\n"
    ++ codes "ok\n"
    ++ codes "err 13\n"
    ++ codes "err 13\n"
    ++ codes "ok\n"
    ++ codes "ok\n"
    ++ codes "err 16\n"
    ++ codes "ok\n"
    ++ codes "err 22\n")

-- words that aren't munged
abbrev pub Row_211 : Type 0
Row_211 =
    Answers commands.Replay
    (text_demo
    ++ text_steady
    ++ codes "0 open 1\n"
    ++ codes "0 cmd 1 0 128 now:0 timer:1000 now:0 count:1 count:3 0/0/ground\n"
    ++ codes "2000 read 1 0 10\n"
    ++ codes "2000 read 1 0 10\n")
    (codes "ok\n"
    ++ codes "ok\n"
    ++ codes "ok 3\n"
    ++ codes "0 raw 8191\n"
    ++ codes "0 raw 8191\n"
    ++ codes "0 raw 8191\n"
    ++ codes "ok 0 done\n")

-- no read while samples are mapped; a cancel drops them, and another command starts anew
abbrev pub Row_225 : Type 0
Row_225 =
    Answers commands.Replay
    (text_demo
    ++ text_table
    ++ codes "0 open 1\n"
    ++ codes "0 cmd 1 0 0 now:0 timer:1000 now:0 count:1 count:6 0/0/ground\n"
    ++ codes "2000 map 1 0 2\n"
    ++ codes "2000 read 1 0 1\n"
    ++ codes "2000 cancel 1 0\n"
    ++ codes "2000 read 1 0 1\n"
    ++ codes "2000 cmd 1 0 0 now:0 timer:1000 now:0 count:1 count:1 0/0/ground\n"
    ++ codes "2000 read 1 0 5\n")
    (codes "ok\n"
    ++ codes "ok\n"
    ++ codes "ok 2\n"
    ++ codes "err 22\n"
    ++ codes "ok\n"
    ++ codes "ok 0 idle\n"
    ++ codes "ok\n"
    ++ codes "ok 1\n"
    ++ codes "0 2000000\n")

-- a command that has to be changed first is answered as the test would leave it
abbrev pub Row_245 : Type 0
Row_245 =
    Answers commands.Replay
    (text_demo
    ++ text_table
    ++ codes "0 open 1\n"
    ++ codes "0 cmd 1 0 0 now:0 timer:1050 now:0 count:1 count:1 0/0/ground\n")
    (codes "ok\n" ++ codes "err 11 4 0 0 now:0 timer:1100 now:0 count:1 count:1 0/0/ground\n")

-- a command waits for its internal trigger, and takes one
abbrev pub Row_252 : Type 0
Row_252 =
    Answers commands.Replay
    (text_demo
    ++ text_table
    ++ codes "0 open 1\n"
    ++ codes "0 cmd 1 0 0 int:0 timer:1000 now:0 count:1 count:2 0/0/ground\n"
    ++ codes "500 insn 1 0 inttrig 1\n"
    ++ codes "500 insn 1 0 inttrig 0\n"
    ++ codes "500 insn 1 0 inttrig 0\n"
    ++ codes "1500 read 1 0 9\n"
    ++ codes "1500 read 1 0 9\n")
    (codes "ok\n"
    ++ codes "ok\n"
    ++ codes "err 22\n"
    ++ codes "ok 1\n"
    ++ codes "err 11\n"
    ++ codes "ok 2\n"
    ++ codes "0 -153\n"
    ++ codes "0 999923\n"
    ++ codes "ok 0 done\n")

-- a closed file ends its command, and its samples are gone
abbrev pub Row_271 : Type 0
Row_271 =
    Answers commands.Replay
    (text_demo
    ++ text_table
    ++ codes "0 open 1\n"
    ++ codes "0 open 2\n"
    ++ codes "0 cmd 1 0 0 now:0 timer:1000 now:0 count:1 count:6 0/0/ground\n"
    ++ codes "2000 contents 2 0\n"
    ++ codes "2000 contents 1 0\n"
    ++ codes "2000 insn 1 0 read 0/0/ground 1\n"
    ++ codes "2000 close 1\n"
    ++ codes "2000 contents 2 0\n"
    ++ codes "2000 insn 2 0 read 0/0/ground 1\n"
    ++ codes "2000 contents 1 0\n")
    (codes "ok\n"
    ++ codes "ok\n"
    ++ codes "ok\n"
    ++ codes "err 13\n"
    ++ codes "ok 3\n"
    ++ codes "err 16\n"
    ++ codes "ok\n"
    ++ codes "ok 0\n"
    ++ codes "ok 1 39321\n"
    ++ codes "err 22\n")

-- lines that aren't there for a session of instructions. A line that writes is read as one of commands
abbrev pub Row_294 : Type 0
Row_294 =
    Refuses commands.Insn
    (text_demo ++ text_plain ++ codes "0 open 1\n" ++ codes "0 read 1 0 1\n")
    (codes "refused 36 Unknown\n")

-- lines that aren't there for a session of instructions. A line that writes is read as one of commands, once mor
abbrev pub Row_300 : Type 0
Row_300 =
    Answers commands.Replay
    (text_demo
    ++ text_plain
    ++ codes "0 open 1\n"
    ++ codes "0 write 1 1 5\n"
    ++ codes "0 read 1 0 1\n")
    (codes "ok\n" ++ codes "ok 0 idle\n" ++ codes "ok 0 idle\n")

-- lines that aren't there for a session of instructions. A line that writes is read as one of commands, once mor
abbrev pub Row_309 : Type 0
Row_309 =
    Refuses commands.Replay
    (text_demo
    ++ text_plain
    ++ codes "0 open 1\n"
    ++ codes "0 write 1 1 5\n"
    ++ codes "0 read 1 0 x\n")
    (codes "refused 37 BadNumber\n")

-- a client that asks for what it may not have
abbrev pub Row_316 : Type 0
Row_316 =
    Answers commands.Replay
    (text_demo
    ++ text_table
    ++ codes "0 read 1 0 1\n"
    ++ codes "0 open 1\n"
    ++ codes "0 open 1\n"
    ++ codes "0 read 1 9 1\n"
    ++ codes "0 read 1 2 1\n"
    ++ codes "0 lock 1 3\n"
    ++ codes "0 release 1 0 0\n"
    ++ codes "0 cancel 1 0\n"
    ++ codes "0 cmd 1 0 0 now:0 timer:1000 now:0 count:1 count:2 0/0/ground\n"
    ++ codes "0 cmd 1 0 0 now:0 timer:1000 now:0 count:1 count:2 0/0/ground\n"
    ++ codes "0 insn 1 0 read 0/0/ground 1\n"
    ++ codes "1000 map 1 0 5\n"
    ++ codes "1000 release 1 0 3\n"
    ++ codes "1000 release 1 0 2\n"
    ++ codes "1000 release 1 0 1\n"
    ++ codes "1000 map 1 0 1\n"
    ++ codes "1000 map 1 0 1\n"
    ++ codes "1000 contents 1 0\n"
    ++ codes "1000 look 1 0 0\n"
    ++ codes "1000 close 1\n"
    ++ codes "1000 cancel 1 0\n")
    (codes "err 22\n"
    ++ codes "ok\n"
    ++ codes "err 22\n"
    ++ codes "err 19\n"
    ++ codes "err 5\n"
    ++ codes "err 5\n"
    ++ codes "ok 0\n"
    ++ codes "ok\n"
    ++ codes "ok\n"
    ++ codes "err 16\n"
    ++ codes "err 16\n"
    ++ codes "ok 2\n"
    ++ codes "err 22\n"
    ++ codes "ok 2\n"
    ++ codes "err 22\n"
    ++ codes "ok 0 done\n"
    ++ codes "ok 0 idle\n"
    ++ codes "ok 0\n"
    ++ codes "err 22\n"
    ++ codes "ok\n"
    ++ codes "err 22\n")

-- a file is closed while its command runs, and another one calls the same command at that very time
abbrev pub Row_361 : Type 0
Row_361 =
    Answers commands.Replay
    (text_demo
    ++ text_table
    ++ codes "0 open 1\n"
    ++ codes "0 open 2\n"
    ++ codes "0 cmd 1 0 0 now:0 timer:1000 now:0 count:1 count:2 0/0/ground\n"
    ++ codes "0 close 1\n"
    ++ codes "0 cmd 2 0 0 now:0 timer:1000 now:0 count:1 count:2 0/0/ground\n"
    ++ codes "1000 read 2 0 9\n")
    (codes "ok\n"
    ++ codes "ok\n"
    ++ codes "ok\n"
    ++ codes "ok\n"
    ++ codes "ok\n"
    ++ codes "ok 2\n"
    ++ codes "0 -153\n"
    ++ codes "0 999923\n")

-- an underrun: three words are written, and the fourth is due before it comes
abbrev pub Row_378 : Type 0
Row_378 =
    Answers commands.Replay
    (text_demo
    ++ text_plain
    ++ codes "0 open 1\n"
    ++ codes "0 cmd 1 1 0 int:0 timer:1000 now:0 count:1 count:4 0/0/ground\n"
    ++ codes "0 write 1 1 0 2048 4095\n"
    ++ codes "1000 insn 1 1 inttrig 0\n"
    ++ codes "4000 write 1 1 100\n")
    (codes "ok\n"
    ++ codes "ok\n"
    ++ codes "ok 3\n"
    ++ codes "ok 1\n"
    ++ codes "out 1 1000 0 2048\n"
    ++ codes "out 1 2000 0 0\n"
    ++ codes "out 1 3000 0 2047\n"
    ++ codes "err 32 underrun 3\n")

-- words are filled and marked, and a write doesn't overtake what isn't marked
abbrev pub Row_394 : Type 0
Row_394 =
    Answers commands.Replay
    (text_demo
    ++ text_plain
    ++ codes "0 open 1\n"
    ++ codes "0 cmd 1 1 0 int:0 timer:1000 now:0 count:1 count:2 1/0/ground\n"
    ++ codes "0 fill 1 1 1 2 3\n"
    ++ codes "0 mark 1 1 4\n"
    ++ codes "0 write 1 1 5\n"
    ++ codes "0 mark 1 1 2\n"
    ++ codes "0 contents 1 1\n"
    ++ codes "0 insn 1 1 inttrig 0\n"
    ++ codes "1000 contents 1 1\n"
    ++ codes "1000 fill 1 1 7\n"
    ++ codes "1000 fill 1 1 7\n")
    (codes "ok\n"
    ++ codes "ok\n"
    ++ codes "ok 3\n"
    ++ codes "err 22\n"
    ++ codes "err 22\n"
    ++ codes "ok 2\n"
    ++ codes "ok 2\n"
    ++ codes "ok 1\n"
    ++ codes "out 1 0 0 2049\n"
    ++ codes "out 1 1000 0 2050\n"
    ++ codes "ok 0\n"
    ++ codes "ok 0 done\n"
    ++ codes "ok 0 idle\n")

-- words that aren't munged, more of them than fit, and the end of the signals
abbrev pub Row_421 : Type 0
Row_421 =
    Answers commands.Replay
    (text_demo
    ++ text_plain
    ++ codes "0 open 1\n"
    ++ codes "0 cmd 1 1 128 int:0 timer:5000 now:0 count:2 none:0 0/0/ground,1/0/ground\n"
    ++ codes "0 write 1 1 4095 0 1 4096\n"
    ++ codes "0 write 1 1 4095 0 1 2 3 4 5 6 7 8\n"
    ++ codes "0 write 1 1 9\n"
    ++ codes "0 insn 1 1 inttrig 0\n"
    ++ codes "0 contents 1 1\n"
    ++ codes "7000 insn 1 1 read 0/0/ground 1\n"
    ++ codes "10000 fill 1 1 9\n"
    ++ codes "10000 fill 1 1 9\n"
    ++ codes "10000 insn 1 1 read 0/0/ground 1\n")
    (codes "ok\n"
    ++ codes "ok\n"
    ++ codes "err 22\n"
    ++ codes "ok 8\n"
    ++ codes "ok 0\n"
    ++ codes "ok 1\n"
    ++ codes "out 1 0 0 4095\n"
    ++ codes "out 1 0 1 0\n"
    ++ codes "ok 6\n"
    ++ codes "out 1 5000 0 1\n"
    ++ codes "out 1 5000 1 2\n"
    ++ codes "err 16\n"
    ++ codes "out 1 10000 0 3\n"
    ++ codes "out 1 10000 1 4\n"
    ++ codes "ok 0 dry\n"
    ++ codes "ok 0 idle\n"
    ++ codes "ok 1 0\n")

-- a command that starts before it has a word has ended, and lines that aren't for the subdevice
abbrev pub Row_452 : Type 0
Row_452 =
    Answers commands.Replay
    (text_demo
    ++ text_plain
    ++ codes "0 open 1\n"
    ++ codes "0 cmd 1 1 0 now:0 timer:1000 now:0 count:1 count:3 0/0/ground\n"
    ++ codes "0 contents 1 1\n"
    ++ codes "0 mark 1 1 0\n"
    ++ codes "0 write 1 1 1\n"
    ++ codes "0 write 1 1 1\n"
    ++ codes "0 write 1 1 4096\n"
    ++ codes "0 fill 1 1 4095\n"
    ++ codes "0 mark 1 1 0\n"
    ++ codes "0 mark 1 1 1\n"
    ++ codes "0 contents 1 1\n"
    ++ codes "0 write 1 0 5\n"
    ++ codes "0 fill 1 0 5\n"
    ++ codes "0 mark 1 0 0\n"
    ++ codes "0 read 1 1 1\n"
    ++ codes "0 map 1 1 1\n"
    ++ codes "0 write 1 2 5\n"
    ++ codes "0 write 1 9 5\n"
    ++ codes "0 write 2 1 5\n")
    (codes "ok\n"
    ++ codes "ok\n"
    ++ codes "ok 0\n"
    ++ codes "ok 0\n"
    ++ codes "err 32 underrun 0\n"
    ++ codes "ok 0 idle\n"
    ++ codes "err 22\n"
    ++ codes "ok 0 idle\n"
    ++ codes "ok 0\n"
    ++ codes "err 22\n"
    ++ codes "ok 0\n"
    ++ codes "err 22\n"
    ++ codes "err 22\n"
    ++ codes "err 22\n"
    ++ codes "err 22\n"
    ++ codes "err 22\n"
    ++ codes "err 5\n"
    ++ codes "err 19\n"
    ++ codes "err 22\n")

-- words that are marked after the end are never put out, and another file has no say
abbrev pub Row_493 : Type 0
Row_493 =
    Answers commands.Replay
    (text_demo
    ++ text_plain
    ++ codes "0 open 1\n"
    ++ codes "0 open 2\n"
    ++ codes "0 cmd 1 1 0 int:0 timer:1000 now:0 count:1 count:3 0/0/ground\n"
    ++ codes "0 fill 1 1 1 2\n"
    ++ codes "0 mark 1 1 1\n"
    ++ codes "0 write 2 1 1\n"
    ++ codes "0 fill 2 1 1\n"
    ++ codes "0 mark 2 1 0\n"
    ++ codes "0 contents 2 1\n"
    ++ codes "0 insn 1 1 inttrig 0\n"
    ++ codes "2000 write 1 1 9\n"
    ++ codes "2000 mark 1 1 1\n"
    ++ codes "2000 contents 1 1\n"
    ++ codes "2000 fill 1 1 9\n"
    ++ codes "2000 fill 1 1 9\n")
    (codes "ok\n"
    ++ codes "ok\n"
    ++ codes "ok\n"
    ++ codes "ok 2\n"
    ++ codes "ok 1\n"
    ++ codes "err 13\n"
    ++ codes "err 13\n"
    ++ codes "err 13\n"
    ++ codes "err 13\n"
    ++ codes "ok 1\n"
    ++ codes "out 1 0 0 2049\n"
    ++ codes "err 22\n"
    ++ codes "ok 1\n"
    ++ codes "ok 1\n"
    ++ codes "err 32 underrun 1\n"
    ++ codes "ok 0 idle\n")

-- a cancel and a close drop the words that aren't put out, and an input runs beside the output
abbrev pub Row_553 : Type 0
Row_553 =
    Answers commands.Replay
    (text_demo
    ++ text_table
    ++ codes "0 open 1\n"
    ++ codes "0 cmd 1 0 0 now:0 timer:1000 now:0 count:1 count:3 0/0/ground\n"
    ++ codes "0 cmd 1 1 0 int:0 timer:1000 now:0 count:1 count:4 0/0/ground\n"
    ++ codes "0 write 1 1 1 2 3\n"
    ++ codes "500 insn 1 1 inttrig 0\n"
    ++ codes "600 read 1 0 9\n"
    ++ codes "1500 cancel 1 1\n"
    ++ codes "2500 write 1 1 1\n"
    ++ codes "2500 cmd 1 1 0 int:0 timer:1000 now:0 count:1 count:4 0/0/ground\n"
    ++ codes "2500 write 1 1 4 5\n"
    ++ codes "2500 insn 1 1 inttrig 0\n"
    ++ codes "3000 close 1\n"
    ++ codes "9000 open 1\n"
    ++ codes "9000 contents 1 1\n")
    (codes "ok\n"
    ++ codes "ok\n"
    ++ codes "ok\n"
    ++ codes "ok 3\n"
    ++ codes "ok 1\n"
    ++ codes "out 1 500 0 2049\n"
    ++ codes "ok 1\n"
    ++ codes "0 -153\n"
    ++ codes "out 1 1500 0 2050\n"
    ++ codes "ok\n"
    ++ codes "ok 0 idle\n"
    ++ codes "ok\n"
    ++ codes "ok 2\n"
    ++ codes "ok 1\n"
    ++ codes "out 1 2500 0 2052\n"
    ++ codes "ok\n"
    ++ codes "ok\n"
    ++ codes "ok 0\n")

-- each word is one of its entry's channel, and outputs come in the order of the subdevices
abbrev pub Row_588 : Type 0
Row_588 =
    Answers commands.Replay
    (text_two_outputs
    ++ text_plain
    ++ codes "0 open 1\n"
    ++ codes "0 cmd 1 1 0 int:0 timer:1000 now:0 count:2 count:2 1/0/ground,0/0/ground\n"
    ++ codes "0 cmd 1 0 0 int:0 timer:1000 now:0 count:2 count:2 0/0/ground,1/0/ground\n"
    ++ codes "0 write 1 0 255 16\n"
    ++ codes "0 write 1 0 255 15 200\n"
    ++ codes "0 write 1 0 200\n"
    ++ codes "0 write 1 0 7 8\n"
    ++ codes "0 write 1 1 1 0 1 0\n"
    ++ codes "0 insn 1 1 inttrig 0\n"
    ++ codes "0 insn 1 0 inttrig 0\n"
    ++ codes "1000 contents 1 0\n"
    ++ codes "1000 write 1 0 1\n"
    ++ codes "1000 write 1 1 1\n")
    (codes "ok\n"
    ++ codes "ok\n"
    ++ codes "ok\n"
    ++ codes "err 22\n"
    ++ codes "ok 3\n"
    ++ codes "err 22\n"
    ++ codes "ok 1\n"
    ++ codes "ok 4\n"
    ++ codes "ok 1\n"
    ++ codes "out 1 0 0 1\n"
    ++ codes "out 1 0 1 0\n"
    ++ codes "ok 1\n"
    ++ codes "out 0 0 0 255\n"
    ++ codes "out 0 0 1 7\n"
    ++ codes "out 0 1000 0 200\n"
    ++ codes "out 0 1000 1 15\n"
    ++ codes "out 1 1000 0 1\n"
    ++ codes "out 1 1000 1 0\n"
    ++ codes "ok 0\n"
    ++ codes "ok 0 done\n"
    ++ codes "ok 0 done\n")

-- half a FIFO is there 1,500 ns after its second sample, and with it what came meanwhile
abbrev pub Row_661 : Type 0
Row_661 =
    Answers commands.Replay
    (text_deep
    ++ codes "fifo 4 1500\n"
    ++ text_hundred
    ++ codes "0 open 1\n"
    ++ codes "0 cmd 1 0 0 now:0 timer:1000 now:0 count:1 count:6 0/0/ground\n"
    ++ codes "2000 read 1 0 9\n"
    ++ codes "2500 read 1 0 9\n"
    ++ codes "5000 read 1 0 9\n"
    ++ codes "5500 read 1 0 9\n"
    ++ codes "5500 read 1 0 9\n")
    (codes "ok\n"
    ++ codes "ok\n"
    ++ codes "ok 0\n"
    ++ codes "ok 3\n"
    ++ codes "0 100\n"
    ++ codes "0 100\n"
    ++ codes "0 100\n"
    ++ codes "ok 0\n"
    ++ codes "ok 3\n"
    ++ codes "0 100\n"
    ++ codes "0 100\n"
    ++ codes "0 100\n"
    ++ codes "ok 0 done\n")

-- a fifth sample finds a FIFO of four full, right before it is drained
abbrev pub Row_688 : Type 0
Row_688 =
    Answers commands.Replay
    (text_deep
    ++ codes "fifo 4 3000\n"
    ++ text_hundred
    ++ codes "0 open 1\n"
    ++ codes "0 cmd 1 0 0 now:0 timer:1000 now:0 count:1 count:6 0/0/ground\n"
    ++ codes "3999 read 1 0 9\n"
    ++ codes "4000 read 1 0 9\n"
    ++ codes "4000 read 1 0 9\n"
    ++ codes "4000 read 1 0 9\n")
    (codes "ok\n"
    ++ codes "ok\n"
    ++ codes "ok 0\n"
    ++ codes "ok 4\n"
    ++ codes "0 100\n"
    ++ codes "0 100\n"
    ++ codes "0 100\n"
    ++ codes "0 100\n"
    ++ codes "err 32 fifo 4\n"
    ++ codes "ok 0 idle\n")

-- eight samples leave the FIFO at once, and the buffer has room for four
abbrev pub Row_711 : Type 0
Row_711 =
    Answers commands.Replay
    (text_small
    ++ codes "fifo 16 0\n"
    ++ text_hundred
    ++ codes "0 open 1\n"
    ++ codes "0 cmd 1 0 0 now:0 timer:1000 now:0 count:1 none:0 0/0/ground\n"
    ++ codes "6999 contents 1 0\n"
    ++ codes "7000 contents 1 0\n"
    ++ codes "7000 read 1 0 9\n"
    ++ codes "7000 read 1 0 9\n")
    (codes "ok\n"
    ++ codes "ok\n"
    ++ codes "ok 0\n"
    ++ codes "ok 4\n"
    ++ codes "ok 4\n"
    ++ codes "0 100\n"
    ++ codes "0 100\n"
    ++ codes "0 100\n"
    ++ codes "0 100\n"
    ++ codes "err 32 overrun 4\n")

-- what is still in the FIFO at the horizon is handed over there
abbrev pub Row_734 : Type 0
Row_734 =
    Answers commands.Replay
    (text_deep
    ++ codes "fifo 512 0\n"
    ++ text_hundred
    ++ codes "0 open 1\n"
    ++ codes "0 cmd 1 0 0 now:0 timer:1000 now:0 count:1 none:0 0/0/ground\n"
    ++ codes "9999 read 1 0 16\n"
    ++ codes "10000 read 1 0 16\n"
    ++ codes "10000 read 1 0 16\n")
    (codes "ok\n"
    ++ codes "ok\n"
    ++ codes "ok 0\n"
    ++ codes "ok 11\n"
    ++ codes "0 100\n"
    ++ codes "0 100\n"
    ++ codes "0 100\n"
    ++ codes "0 100\n"
    ++ codes "0 100\n"
    ++ codes "0 100\n"
    ++ codes "0 100\n"
    ++ codes "0 100\n"
    ++ codes "0 100\n"
    ++ codes "0 100\n"
    ++ codes "0 100\n"
    ++ codes "ok 0 dry\n")

-- an output keeps what is written last, an input has the code of its level, and a line becomes an output
abbrev pub Row_784 : Type 0
Row_784 =
    Answers commands.Insn
    (text_places
    ++ codes "signals 3000000000\n"
    ++ codes "wave 0 1 const 2500000\n"
    ++ codes "wave 2 0 square 0 1 2000\n"
    ++ codes "wave 4 1 const 1\n"
    ++ codes "session\n"
    ++ codes "0 open 1\n"
    ++ codes "0 insn 1 1 write 0/0/ground 7\n"
    ++ codes "0 insn 1 1 write 0/0/ground 4096\n"
    ++ codes "0 insn 1 1 read 0/0/ground 1\n"
    ++ codes "0 insn 1 1 write 0/0/ground 3 4095\n"
    ++ codes "0 insn 1 1 read 0/0/ground 2\n"
    ++ codes "0 insn 1 1 write 1/0/ground 16\n"
    ++ codes "0 insn 1 1 write 1/0/ground 15\n"
    ++ codes "0 insn 1 1 read 1/0/ground 1\n"
    ++ codes "0 insn 1 1 write 0/1/ground 1\n"
    ++ codes "0 insn 1 1 write 2/0/ground 1\n"
    ++ codes "0 insn 1 1 bits 1 1\n"
    ++ codes "0 insn 1 1 config 0/0/ground 1\n"
    ++ codes "0 insn 1 0 read 1/0/ground 1\n"
    ++ codes "0 insn 1 0 read 1/1/ground 2\n"
    ++ codes "0 insn 1 0 read 0/0/ground 1\n"
    ++ codes "0 insn 1 0 read 1/2/ground 1\n"
    ++ codes "0 insn 1 0 write 1/0/ground 1\n"
    ++ codes "0 insn 1 0 bits 1 1\n"
    ++ codes "0 insn 1 2 write 3/0/ground 1\n"
    ++ codes "0 insn 1 2 bits 255 255\n"
    ++ codes "0 insn 1 2 config 3/0/ground 1\n"
    ++ codes "0 insn 1 2 bits 8 8\n"
    ++ codes "0 insn 1 2 bits 0 0\n"
    ++ codes "1000 insn 1 2 bits 0 0\n"
    ++ codes "1000 insn 1 2 config 3/0/ground 2\n"
    ++ codes "1000 insn 1 2 config 8/0/ground 1\n"
    ++ codes "1000 insn 1 4 bits 3 1\n"
    ++ codes "1000 insn 1 4 config 0/0/ground 1\n"
    ++ codes "1000 insn 1 3 read 0/0/ground 1\n"
    ++ codes "1000 insn 1 3 bits 0 0\n"
    ++ codes "2500001000 insn 1 3 gtod\n")
    (codes "ok\n"
    ++ codes "ok 1\n"
    ++ codes "err 22\n"
    ++ codes "ok 1 7\n"
    ++ codes "ok 2\n"
    ++ codes "ok 2 4095 4095\n"
    ++ codes "err 22\n"
    ++ codes "ok 1\n"
    ++ codes "ok 1 15\n"
    ++ codes "err 22\n"
    ++ codes "err 22\n"
    ++ codes "err 22\n"
    ++ codes "err 22\n"
    ++ codes "ok 1 40959\n"
    ++ codes "ok 2 49151 49151\n"
    ++ codes "ok 1 32767\n"
    ++ codes "err 22\n"
    ++ codes "err 22\n"
    ++ codes "err 22\n"
    ++ codes "err 22\n"
    ++ codes "ok 2 255 0\n"
    ++ codes "ok 1\n"
    ++ codes "ok 2 8 8\n"
    ++ codes "ok 2 0 8\n"
    ++ codes "ok 2 0 9\n"
    ++ codes "err 22\n"
    ++ codes "err 22\n"
    ++ codes "ok 2 3 2\n"
    ++ codes "err 22\n"
    ++ codes "err 5\n"
    ++ codes "err 5\n"
    ++ codes "ok 2 2 500001\n")

-- all of them
pub record AreSessions : Type 0 where
  pub row_67 : Row_67
  pub row_82 : Row_82
  pub row_95 : Row_95
  pub row_114 : Row_114
  pub row_133 : Row_133
  pub row_136 : Row_136
  pub row_139 : Row_139
  pub row_150 : Row_150
  pub row_160 : Row_160
  pub row_169 : Row_169
  pub row_188 : Row_188
  pub row_211 : Row_211
  pub row_225 : Row_225
  pub row_245 : Row_245
  pub row_252 : Row_252
  pub row_271 : Row_271
  pub row_294 : Row_294
  pub row_300 : Row_300
  pub row_309 : Row_309
  pub row_316 : Row_316
  pub row_361 : Row_361
  pub row_378 : Row_378
  pub row_394 : Row_394
  pub row_421 : Row_421
  pub row_452 : Row_452
  pub row_493 : Row_493
  pub row_553 : Row_553
  pub row_588 : Row_588
  pub row_661 : Row_661
  pub row_688 : Row_688
  pub row_711 : Row_711
  pub row_734 : Row_734
  pub row_784 : Row_784
