-- Made by tools/make_examples: the examples of `tests/refused.rows`
use Rattle.std.specs.Prelude.{codes, ℕ, List, ◌++◌, ◌∷◌, []}
use Rattle.cm_cli.specs.declared.command.Command.TheVariants as commands
use Rattle.cm_examples.specs.Answering.{Accepts, Answers, Refuses}

-- the text `old`
abbrev pub text_old : List ℕ
text_old =
    codes "comedi 1\n"
    ++ codes "board x\n"
    ++ codes "subdevice ai 2\n"
    ++ codes "bits 24\n"
    ++ codes "range 0 1 0\n"

-- the text `new`
abbrev pub text_new : List ℕ
text_new =
    codes "comedi 2\n"
    ++ codes "board x\n"
    ++ codes "subdevice ai 2\n"
    ++ codes "bits 24\n"
    ++ codes "range 0 1 0\n"

-- the text `new_output`
abbrev pub text_new_output : List ℕ
text_new_output =
    codes "comedi 2\n"
    ++ codes "board x\n"
    ++ codes "subdevice ao 2\n"
    ++ codes "bits 24\n"
    ++ codes "range 0 1 0\n"

-- the text `new_digital`
abbrev pub text_new_digital : List ℕ
text_new_digital =
    codes "comedi 2\n"
    ++ codes "board x\n"
    ++ codes "subdevice dio 2\n"
    ++ codes "bits 1\n"
    ++ codes "range 0 1 2\n"

-- the text `ranges`
abbrev pub text_ranges : List ℕ
text_ranges =
    codes "chan 1 range 0 1 0\n"
    ++ codes "chan 1 range 0 2 0\n"
    ++ codes "chan 1 range 0 3 0\n"
    ++ codes "chan 1 range 0 4 0\n"
    ++ codes "chan 1 range 0 5 0\n"
    ++ codes "chan 1 range 0 6 0\n"
    ++ codes "chan 1 range 0 7 0\n"
    ++ codes "chan 1 range 0 8 0\n"
    ++ codes "chan 1 range 0 9 0\n"
    ++ codes "chan 1 range 0 10 0\n"
    ++ codes "chan 1 range 0 11 0\n"
    ++ codes "chan 1 range 0 12 0\n"
    ++ codes "chan 1 range 0 13 0\n"
    ++ codes "chan 1 range 0 14 0\n"
    ++ codes "chan 1 range 0 15 0\n"
    ++ codes "chan 1 range 0 16 0\n"

-- the text `eight`
abbrev pub text_eight : List ℕ
text_eight =
    codes "comedi 2\n"
    ++ codes "board x\n"
    ++ codes "subdevice ai 2\n"
    ++ codes "bits 8\n"
    ++ codes "range 0 1 0\n"

-- the text `lines_alone`
abbrev pub text_lines_alone : List ℕ
text_lines_alone =
    codes "comedi 1\n"
    ++ codes "board x\n"
    ++ codes "subdevice unused 0\n"
    ++ codes "signals 200000\n"

-- the text `no_input`
abbrev pub text_no_input : List ℕ
text_no_input =
    codes "comedi 1\n"
    ++ codes "board lines\n"
    ++ codes "subdevice unused 0\n"

-- the text `before_test`
abbrev pub text_before_test : List ℕ
text_before_test =
    codes "comedi 1\n"
    ++ codes "board x\n"
    ++ codes "subdevice unused 0\n"
    ++ codes "signals 0\n"
    ++ codes "session\n"

-- the text `before_session`
abbrev pub text_before_session : List ℕ
text_before_session =
    codes "comedi 2\n"
    ++ codes "board demo\n"
    ++ codes "subdevice ai 2\n"
    ++ codes "bits 16\n"
    ++ codes "range -10000000 10000000 0\n"
    ++ codes "signals 10000\n"
    ++ codes "session\n"

-- the text `before_run`
abbrev pub text_before_run : List ℕ
text_before_run =
    codes "comedi 1\n"
    ++ codes "board demo\n"
    ++ codes "subdevice ai 4\n"
    ++ codes "bits 16\n"
    ++ codes "range -10000000 10000000 0\n"
    ++ codes "sources now timer now count none|count\n"
    ++ codes "tick 1\n"
    ++ codes "scan 1 1000000\n"
    ++ codes "convert 1 1\n"
    ++ codes "list 16\n"
    ++ codes "scans 4000000\n"
    ++ codes "buffer 4\n"
    ++ codes "subdevice ao 2\n"
    ++ codes "bits 12\n"
    ++ codes "range -10000000 10000000 0\n"
    ++ codes "sources now timer now count count\n"
    ++ codes "tick 1\n"
    ++ codes "scan 1 1000000\n"
    ++ codes "convert 1 1\n"
    ++ codes "list 2\n"
    ++ codes "buffer 8\n"
    ++ codes "subdevice dio 8\n"
    ++ codes "bits 1\n"
    ++ codes "range 0 1 2\n"
    ++ codes "signals 999999\n"
    ++ codes "session\n"

-- the text `least`
abbrev pub text_least : List ℕ
text_least =
    codes "comedi 1\n"
    ++ codes "board b\n"
    ++ codes "subdevice ai 1\n"
    ++ codes "bits 8\n"
    ++ codes "range 0 255 0\n"
    ++ codes "sources now timer now count count\n"
    ++ codes "tick 1\n"
    ++ codes "scan 1 1000\n"
    ++ codes "convert 1 1\n"
    ++ codes "list 1\n"
    ++ codes "buffer 4\n"
    ++ codes "signals 9\n"
    ++ codes "session\n"

-- boards: comedi 2
abbrev pub Row_3_1 : Type 0
Row_3_1 = Refuses commands.Test (codes "comedi 2\n") (codes "refused 2 Missing\n")

-- boards: comedi 3
abbrev pub Row_3_2 : Type 0
Row_3_2 = Refuses commands.Test (codes "comedi 3\n") (codes "refused 1 Limit\n")

-- boards: comedi 1\nboard x y
abbrev pub Row_3_3 : Type 0
Row_3_3 = Refuses commands.Test (codes "comedi 1\n" ++ codes "board x y\n") (codes "refused 2 BadLine\n")

-- boards: comedi 1\nboard x\nfoo
abbrev pub Row_3_4 : Type 0
Row_3_4 =
    Refuses commands.Test
    (codes "comedi 1\n" ++ codes "board x\n" ++ codes "foo\n")
    (codes "refused 3 Missing\n")

-- boards: comedi 1\nboard x\nsubdevice ai 1\nbits 08
abbrev pub Row_3_5 : Type 0
Row_3_5 =
    Refuses commands.Test
    (codes "comedi 1\n" ++ codes "board x\n" ++ codes "subdevice ai 1\n" ++ codes "bits 08\n")
    (codes "refused 4 BadNumber\n")

-- boards: comedi 1\nboard x\nsubdevice ai 1\nbits 25
abbrev pub Row_3_6 : Type 0
Row_3_6 =
    Refuses commands.Test
    (codes "comedi 1\n" ++ codes "board x\n" ++ codes "subdevice ai 1\n" ++ codes "bits 25\n")
    (codes "refused 4 Limit\n")

-- boards: comedi 1\nboard x\nsubdevice ai 1\nbits 8\nbits 8
abbrev pub Row_3_7 : Type 0
Row_3_7 =
    Refuses commands.Test
    (codes "comedi 1\n"
    ++ codes "board x\n"
    ++ codes "subdevice ai 1\n"
    ++ codes "bits 8\n"
    ++ codes "bits 8\n")
    (codes "refused 5 Double\n")

-- boards: comedi 1\nboard x\nsubdevice ai 1\nbits 8\nrange 5 5 0
abbrev pub Row_3_8 : Type 0
Row_3_8 =
    Refuses commands.Test
    (codes "comedi 1\n"
    ++ codes "board x\n"
    ++ codes "subdevice ai 1\n"
    ++ codes "bits 8\n"
    ++ codes "range 5 5 0\n")
    (codes "refused 5 Bad\n")

-- boards: comedi 1\nboard x\nsubdevice ai 1\nbits 8\nwat 1
abbrev pub Row_3_9 : Type 0
Row_3_9 =
    Refuses commands.Test
    (codes "comedi 1\n"
    ++ codes "board x\n"
    ++ codes "subdevice ai 1\n"
    ++ codes "bits 8\n"
    ++ codes "wat 1\n")
    (codes "refused 5 Unknown\n")

-- boards: comedi 1\nboard x\nsubdevice ai 1\nbits 8
abbrev pub Row_3_10 : Type 0
Row_3_10 =
    Refuses commands.Test
    (codes "comedi 1\n" ++ codes "board x\n" ++ codes "subdevice ai 1\n" ++ codes "bits 8\n")
    (codes "refused 5 Missing\n")

-- lines that version 1 hasn't: chan 0 bits 4
abbrev pub Row_67_2 : Type 0
Row_67_2 = Refuses commands.Test (text_old ++ codes "chan 0 bits 4\n") (codes "refused 6 Unknown\n")

-- lines that version 1 hasn't: invert
abbrev pub Row_67_3 : Type 0
Row_67_3 = Refuses commands.Test (text_old ++ codes "invert\n") (codes "refused 6 Unknown\n")

-- lines that version 1 hasn't: fifo 512 0
abbrev pub Row_67_4 : Type 0
Row_67_4 = Refuses commands.Test (text_old ++ codes "fifo 512 0\n") (codes "refused 6 Unknown\n")

-- lines that version 1 hasn't: sources now timer now count ext
abbrev pub Row_67_5 : Type 0
Row_67_5 =
    Refuses commands.Test
    (text_old ++ codes "sources now timer now count ext\n")
    (codes "refused 6 Limit\n")

-- lines that version 1 hasn't: sources now timer now count ever
abbrev pub Row_67_6 : Type 0
Row_67_6 =
    Refuses commands.Test
    (text_old ++ codes "sources now timer now count ever\n")
    (codes "refused 6 Unknown\n")

-- lines of version 2: sources now timer now count ext
abbrev pub Row_75_2 : Type 0
Row_75_2 =
    Refuses commands.Test
    (text_new ++ codes "sources now timer now count ext\n")
    (codes "refused 7 Missing\n")

-- lines of version 2: chan 2
abbrev pub Row_75_3 : Type 0
Row_75_3 = Refuses commands.Test (text_new ++ codes "chan 2\n") (codes "refused 6 BadLine\n")

-- lines of version 2: chan 2 gain
abbrev pub Row_75_4 : Type 0
Row_75_4 = Refuses commands.Test (text_new ++ codes "chan 2 gain\n") (codes "refused 6 Unknown\n")

-- lines of version 2: chan 2 bits
abbrev pub Row_75_5 : Type 0
Row_75_5 = Refuses commands.Test (text_new ++ codes "chan 2 bits\n") (codes "refused 6 BadLine\n")

-- lines of version 2: chan 2 bits 4 4
abbrev pub Row_75_6 : Type 0
Row_75_6 = Refuses commands.Test (text_new ++ codes "chan 2 bits 4 4\n") (codes "refused 6 BadLine\n")

-- lines of version 2: chan 2 munge
abbrev pub Row_75_7 : Type 0
Row_75_7 = Refuses commands.Test (text_new ++ codes "chan 2 munge\n") (codes "refused 6 BadLine\n")

-- lines of version 2: chan 2 munge up
abbrev pub Row_75_8 : Type 0
Row_75_8 = Refuses commands.Test (text_new ++ codes "chan 2 munge up\n") (codes "refused 6 Unknown\n")

-- lines of version 2: chan 2 munge none 1
abbrev pub Row_75_9 : Type 0
Row_75_9 = Refuses commands.Test (text_new ++ codes "chan 2 munge none 1\n") (codes "refused 6 BadLine\n")

-- lines of version 2: chan 2 munge left
abbrev pub Row_75_10 : Type 0
Row_75_10 = Refuses commands.Test (text_new ++ codes "chan 2 munge left\n") (codes "refused 6 BadLine\n")

-- lines of version 2: chan 2 munge left x
abbrev pub Row_75_11 : Type 0
Row_75_11 = Refuses commands.Test (text_new ++ codes "chan 2 munge left x\n") (codes "refused 6 Limit\n")

-- lines of version 2: chan 1 munge left x
abbrev pub Row_75_12 : Type 0
Row_75_12 = Refuses commands.Test (text_new ++ codes "chan 1 munge left x\n") (codes "refused 6 BadNumber\n")

-- lines of version 2: chan 1 munge left 9
abbrev pub Row_75_13 : Type 0
Row_75_13 = Refuses commands.Test (text_new ++ codes "chan 1 munge left 9\n") (codes "refused 6 Limit\n")

-- lines of version 2: chan 01 bits 99
abbrev pub Row_75_14 : Type 0
Row_75_14 = Refuses commands.Test (text_new ++ codes "chan 01 bits 99\n") (codes "refused 6 BadNumber\n")

-- lines of version 2: chan 1 bits 25
abbrev pub Row_75_15 : Type 0
Row_75_15 = Refuses commands.Test (text_new ++ codes "chan 1 bits 25\n") (codes "refused 6 Limit\n")

-- lines of version 2: chan 1 range 0 1
abbrev pub Row_75_16 : Type 0
Row_75_16 = Refuses commands.Test (text_new ++ codes "chan 1 range 0 1\n") (codes "refused 6 BadLine\n")

-- lines of version 2: chan 1 range x 1 3
abbrev pub Row_75_17 : Type 0
Row_75_17 = Refuses commands.Test (text_new ++ codes "chan 1 range x 1 3\n") (codes "refused 6 BadNumber\n")

-- lines of version 2: chan 1 range 1 0 3
abbrev pub Row_75_18 : Type 0
Row_75_18 = Refuses commands.Test (text_new ++ codes "chan 1 range 1 0 3\n") (codes "refused 6 Limit\n")

-- lines of version 2: chan 1 range 1 0 0
abbrev pub Row_75_19 : Type 0
Row_75_19 = Refuses commands.Test (text_new ++ codes "chan 1 range 1 0 0\n") (codes "refused 6 Bad\n")

-- lines of version 2: {ranges}chan 1 range 1 0 0
abbrev pub Row_75_20 : Type 0
Row_75_20 =
    Refuses commands.Test
    (text_new ++ text_ranges ++ codes "chan 1 range 1 0 0\n")
    (codes "refused 22 Limit\n")

-- lines of version 2: {ranges}chan 0 range 1 0 0
abbrev pub Row_75_21 : Type 0
Row_75_21 =
    Refuses commands.Test
    (text_new ++ text_ranges ++ codes "chan 0 range 1 0 0\n")
    (codes "refused 22 Bad\n")

-- lines of version 2: chan 1 bits 4\nchan 1 bits 5
abbrev pub Row_75_22 : Type 0
Row_75_22 =
    Refuses commands.Test
    (text_new ++ codes "chan 1 bits 4\n" ++ codes "chan 1 bits 5\n")
    (codes "refused 7 Double\n")

-- lines of version 2: chan 1 munge none\nchan 1 munge offset
abbrev pub Row_75_23 : Type 0
Row_75_23 =
    Refuses commands.Test
    (text_new ++ codes "chan 1 munge none\n" ++ codes "chan 1 munge offset\n")
    (codes "refused 7 Double\n")

-- lines of version 2: chan 1 bits 4\nchan 0 bits 5
abbrev pub Row_75_24 : Type 0
Row_75_24 =
    Refuses commands.Test
    (text_new ++ codes "chan 1 bits 4\n" ++ codes "chan 0 bits 5\n")
    (codes "refused 8 Missing\n")

-- lines of version 2: invert 1
abbrev pub Row_75_25 : Type 0
Row_75_25 = Refuses commands.Test (text_new ++ codes "invert 1\n") (codes "refused 6 BadLine\n")

-- lines of version 2: invert\ninvert
abbrev pub Row_75_26 : Type 0
Row_75_26 =
    Refuses commands.Test
    (text_new ++ codes "invert\n" ++ codes "invert\n")
    (codes "refused 7 Double\n")

-- lines of version 2: invert\nsignals 0
abbrev pub Row_75_27 : Type 0
Row_75_27 =
    Refuses commands.Test
    (text_new ++ codes "invert\n" ++ codes "signals 0\n")
    (codes "refused 7 Missing\n")

-- lines of version 2: fifo 512
abbrev pub Row_75_28 : Type 0
Row_75_28 = Refuses commands.Test (text_new ++ codes "fifo 512\n") (codes "refused 6 BadLine\n")

-- lines of version 2: fifo x 0
abbrev pub Row_75_29 : Type 0
Row_75_29 = Refuses commands.Test (text_new ++ codes "fifo x 0\n") (codes "refused 6 BadNumber\n")

-- lines of version 2: fifo 1 0
abbrev pub Row_75_30 : Type 0
Row_75_30 = Refuses commands.Test (text_new ++ codes "fifo 1 0\n") (codes "refused 6 Limit\n")

-- lines of version 2: fifo 4097 0
abbrev pub Row_75_31 : Type 0
Row_75_31 = Refuses commands.Test (text_new ++ codes "fifo 4097 0\n") (codes "refused 6 Limit\n")

-- lines of version 2: fifo 511 1000000001
abbrev pub Row_75_32 : Type 0
Row_75_32 = Refuses commands.Test (text_new ++ codes "fifo 511 1000000001\n") (codes "refused 6 Limit\n")

-- lines of version 2: fifo 511 0
abbrev pub Row_75_33 : Type 0
Row_75_33 = Refuses commands.Test (text_new ++ codes "fifo 511 0\n") (codes "refused 6 Bad\n")

-- lines of version 2: fifo 512 0\nfifo 511 0
abbrev pub Row_75_34 : Type 0
Row_75_34 =
    Refuses commands.Test
    (text_new ++ codes "fifo 512 0\n" ++ codes "fifo 511 0\n")
    (codes "refused 7 Double\n")

-- lines of version 2: fifo 512 0\nsignals 0
abbrev pub Row_75_35 : Type 0
Row_75_35 =
    Refuses commands.Test
    (text_new ++ codes "fifo 512 0\n" ++ codes "signals 0\n")
    (codes "refused 7 Missing\n")

-- lines of version 2: chan 1 munge swap16\nsignals 0
abbrev pub Row_75_36 : Type 0
Row_75_36 =
    Refuses commands.Test
    (text_new ++ codes "chan 1 munge swap16\n" ++ codes "signals 0\n")
    (codes "refused 7 Bad\n")

-- a FIFO of an output: fifo 512 0
abbrev pub Row_113_2 : Type 0
Row_113_2 = Refuses commands.Test (text_new_output ++ codes "fifo 512 0\n") (codes "refused 6 Unknown\n")

-- lines of a digital subdevice: invert
abbrev pub Row_117_2 : Type 0
Row_117_2 = Refuses commands.Test (text_new_digital ++ codes "invert\n") (codes "refused 6 Unknown\n")

-- lines of a digital subdevice: chan 1 bits 2\nsignals 0
abbrev pub Row_117_3 : Type 0
Row_117_3 =
    Refuses commands.Test
    (text_new_digital ++ codes "chan 1 bits 2\n" ++ codes "signals 0\n")
    (codes "refused 7 Bad\n")

-- lines of version 2 with words after them: chan 2 gain 1
abbrev pub Row_131_2 : Type 0
Row_131_2 = Refuses commands.Test (text_eight ++ codes "chan 2 gain 1\n") (codes "refused 6 Unknown\n")

-- lines of version 2 with words after them: chan 2 bits x
abbrev pub Row_131_3 : Type 0
Row_131_3 = Refuses commands.Test (text_eight ++ codes "chan 2 bits x\n") (codes "refused 6 Limit\n")

-- lines of version 2 with words after them: chan 1 bits x
abbrev pub Row_131_4 : Type 0
Row_131_4 = Refuses commands.Test (text_eight ++ codes "chan 1 bits x\n") (codes "refused 6 BadNumber\n")

-- lines of version 2 with words after them: chan 1 bits 4\nchan 0 bits 4\nchan 1 bits 4
abbrev pub Row_131_5 : Type 0
Row_131_5 =
    Refuses commands.Test
    (text_eight
    ++ codes "chan 1 bits 4\n"
    ++ codes "chan 0 bits 4\n"
    ++ codes "chan 1 bits 4\n")
    (codes "refused 8 Double\n")

-- lines of version 2 with words after them: fifo 4098 0
abbrev pub Row_131_6 : Type 0
Row_131_6 = Refuses commands.Test (text_eight ++ codes "fifo 4098 0\n") (codes "refused 6 Limit\n")

-- lines of version 2 with words after them: chan 1 munge swap16\nsubdevice ao 1\nbits 8\nrange 0 1 0\nfi
abbrev pub Row_131_7 : Type 0
Row_131_7 =
    Refuses commands.Test
    (text_eight
    ++ codes "chan 1 munge swap16\n"
    ++ codes "subdevice ao 1\n"
    ++ codes "bits 8\n"
    ++ codes "range 0 1 0\n"
    ++ codes "fifo 2 0\n")
    (codes "refused 10 Unknown\n")

-- falls: falls 0
abbrev pub Row_147_2 : Type 0
Row_147_2 = Refuses commands.Test (text_lines_alone ++ codes "falls 0\n") (codes "refused 5 BadLine\n")

-- falls: falls 16 5
abbrev pub Row_147_3 : Type 0
Row_147_3 = Refuses commands.Test (text_lines_alone ++ codes "falls 16 5\n") (codes "refused 5 Limit\n")

-- falls: falls 0 5\nedges 0 5\nfalls 0 5
abbrev pub Row_147_4 : Type 0
Row_147_4 =
    Refuses commands.Test
    (text_lines_alone ++ codes "falls 0 5\n" ++ codes "edges 0 5\n" ++ codes "falls 0 5\n")
    (codes "refused 7 Bad\n")

-- falls: falls 0 200001
abbrev pub Row_147_6 : Type 0
Row_147_6 = Refuses commands.Test (text_lines_alone ++ codes "falls 0 200001\n") (codes "refused 5 Limit\n")

-- falls rise by themselves and count with the rises: signals 10000\nfalls 0 5 5\nsession
abbrev pub Row_161_2 : Type 0
Row_161_2 =
    Refuses commands.Test
    (text_no_input ++ codes "signals 10000\n" ++ codes "falls 0 5 5\n" ++ codes "session\n")
    (codes "refused 5 Bad\n")

-- falls rise by themselves and count with the rises: signals 10000\nedges 0 500 3200\nfalls 0 700 2500\nsession
abbrev pub Row_161_3 : Type 0
Row_161_3 =
    Accepts commands.Test
    (text_no_input
    ++ codes "signals 10000\n"
    ++ codes "edges 0 500 3200\n"
    ++ codes "falls 0 700 2500\n"
    ++ codes "session\n")

-- falls rise by themselves and count with the rises: signals 10000\nfalls 16 1\nsession
abbrev pub Row_161_4 : Type 0
Row_161_4 =
    Refuses commands.Test
    (text_no_input ++ codes "signals 10000\n" ++ codes "falls 16 1\n" ++ codes "session\n")
    (codes "refused 5 Limit\n")

-- falls rise by themselves and count with the rises: signals 10000\nfalls 0\nsession
abbrev pub Row_161_5 : Type 0
Row_161_5 =
    Refuses commands.Test
    (text_no_input ++ codes "signals 10000\n" ++ codes "falls 0\n" ++ codes "session\n")
    (codes "refused 5 BadLine\n")

-- falls rise by themselves and count with the rises: signals 10000\nfalls 0 5\nfalls 0 5\nsession
abbrev pub Row_161_6 : Type 0
Row_161_6 =
    Refuses commands.Test
    (text_no_input
    ++ codes "signals 10000\n"
    ++ codes "falls 0 5\n"
    ++ codes "falls 0 5\n"
    ++ codes "session\n")
    (codes "refused 6 Bad\n")

-- falls rise by themselves and count with the rises: signals 10000\nfalls 0 20000\nsession
abbrev pub Row_161_7 : Type 0
Row_161_7 =
    Refuses commands.Test
    (text_no_input ++ codes "signals 10000\n" ++ codes "falls 0 20000\n" ++ codes "session\n")
    (codes "refused 5 Limit\n")

-- commands: test 0 0 now:0 timer:1 now:0 count:1 count:3
abbrev pub Row_179_2 : Type 0
Row_179_2 =
    Refuses commands.Test
    (text_before_test ++ codes "test 0 0 now:0 timer:1 now:0 count:1 count:3\n")
    (codes "refused 6 BadLine\n")

-- commands: test 0 0 now:0 timer:1 now:0 count:1 count:3 - -
abbrev pub Row_179_3 : Type 0
Row_179_3 =
    Refuses commands.Test
    (text_before_test ++ codes "test 0 0 now:0 timer:1 now:0 count:1 count:3 - -\n")
    (codes "refused 6 BadLine\n")

-- commands: test 256 x now timer:1 now:0 count:1 count:3 -
abbrev pub Row_179_4 : Type 0
Row_179_4 =
    Refuses commands.Test
    (text_before_test ++ codes "test 256 x now timer:1 now:0 count:1 count:3 -\n")
    (codes "refused 6 Limit\n")

-- commands: test 0 x now timer:1 now:0 count:1 count:3 -
abbrev pub Row_179_5 : Type 0
Row_179_5 =
    Refuses commands.Test
    (text_before_test ++ codes "test 0 x now timer:1 now:0 count:1 count:3 -\n")
    (codes "refused 6 BadNumber\n")

-- commands: test 0 0 now timer:1 now:0 count:1 count:3 -
abbrev pub Row_179_6 : Type 0
Row_179_6 =
    Refuses commands.Test
    (text_before_test ++ codes "test 0 0 now timer:1 now:0 count:1 count:3 -\n")
    (codes "refused 6 BadLine\n")

-- commands: test 0 0 now:0:0 timer:1 now:0 count:1 count:3 -
abbrev pub Row_179_7 : Type 0
Row_179_7 =
    Refuses commands.Test
    (text_before_test ++ codes "test 0 0 now:0:0 timer:1 now:0 count:1 count:3 -\n")
    (codes "refused 6 BadLine\n")

-- commands: test 0 0 now|:x timer:1 now:0 count:1 count:3 -
abbrev pub Row_179_8 : Type 0
Row_179_8 =
    Refuses commands.Test
    (text_before_test ++ codes "test 0 0 now|:x timer:1 now:0 count:1 count:3 -\n")
    (codes "refused 6 Unknown\n")

-- commands: test 0 0 ext|now:0 timer:1 now:0 count:1 count:3 -
abbrev pub Row_179_9 : Type 0
Row_179_9 =
    Refuses commands.Test
    (text_before_test ++ codes "test 0 0 ext|now:0 timer:1 now:0 count:1 count:3 -\n")
    (codes "refused 6 Unknown\n")

-- commands: test 0 0 now|now:0 timer:1 now:0 count:1 count:3 -
abbrev pub Row_179_10 : Type 0
Row_179_10 =
    Refuses commands.Test
    (text_before_test ++ codes "test 0 0 now|now:0 timer:1 now:0 count:1 count:3 -\n")
    (codes "refused 6 Unknown\n")

-- commands: test 0 0 :0 timer:1 now:0 count:1 count:3 -
abbrev pub Row_179_11 : Type 0
Row_179_11 =
    Refuses commands.Test
    (text_before_test ++ codes "test 0 0 :0 timer:1 now:0 count:1 count:3 -\n")
    (codes "refused 6 Unknown\n")

-- commands: test 0 0 now:01 timer:1 now:0 count:1 count:3 -
abbrev pub Row_179_12 : Type 0
Row_179_12 =
    Refuses commands.Test
    (text_before_test ++ codes "test 0 0 now:01 timer:1 now:0 count:1 count:3 -\n")
    (codes "refused 6 BadNumber\n")

-- commands: test 0 0 now:4294967296 timer:1 now:0 count:1 count:3 -
abbrev pub Row_179_13 : Type 0
Row_179_13 =
    Refuses commands.Test
    (text_before_test ++ codes "test 0 0 now:4294967296 timer:1 now:0 count:1 count:3 -\n")
    (codes "refused 6 Limit\n")

-- commands: test 0 0 now:0 timer:1 now:0 count:1 count:3 x/0/ground,1/0
abbrev pub Row_179_14 : Type 0
Row_179_14 =
    Refuses commands.Test
    (text_before_test ++ codes "test 0 0 now:0 timer:1 now:0 count:1 count:3 x/0/ground,1/0\n")
    (codes "refused 6 BadNumber\n")

-- commands: test 0 0 now:0 timer:1 now:0 count:1 count:3 0/0/ground,,x
abbrev pub Row_179_15 : Type 0
Row_179_15 =
    Refuses commands.Test
    (text_before_test ++ codes "test 0 0 now:0 timer:1 now:0 count:1 count:3 0/0/ground,,x\n")
    (codes "refused 6 BadLine\n")

-- commands: test 0 0 now:0 timer:1 now:0 count:1 count:3 0/0/ground/0
abbrev pub Row_179_16 : Type 0
Row_179_16 =
    Refuses commands.Test
    (text_before_test ++ codes "test 0 0 now:0 timer:1 now:0 count:1 count:3 0/0/ground/0\n")
    (codes "refused 6 BadLine\n")

-- commands: test 0 0 now:0 timer:1 now:0 count:1 count:3 65536/x/ground
abbrev pub Row_179_17 : Type 0
Row_179_17 =
    Refuses commands.Test
    (text_before_test ++ codes "test 0 0 now:0 timer:1 now:0 count:1 count:3 65536/x/ground\n")
    (codes "refused 6 Limit\n")

-- commands: test 0 0 now:0 timer:1 now:0 count:1 count:3 0/256/earth
abbrev pub Row_179_18 : Type 0
Row_179_18 =
    Refuses commands.Test
    (text_before_test ++ codes "test 0 0 now:0 timer:1 now:0 count:1 count:3 0/256/earth\n")
    (codes "refused 6 Limit\n")

-- commands: test 0 0 now:0 timer:1 now:0 count:1 count:3 0/0/earth
abbrev pub Row_179_19 : Type 0
Row_179_19 =
    Refuses commands.Test
    (text_before_test ++ codes "test 0 0 now:0 timer:1 now:0 count:1 count:3 0/0/earth\n")
    (codes "refused 6 Unknown\n")

-- commands: test 0 0 now:0 timer:1 now:0 count:1 count:3 0/0/ground{,0/0
abbrev pub Row_179_20 : Type 0
Row_179_20 =
    Refuses commands.Test
    (text_before_test
    ++ codes "test 0 0 now:0 timer:1 now:0 count:1 count:3 0/0/ground,0/0/ground,0/0/ground,0/0/gr"
    ++ codes "ound,0/0/ground,0/0/ground,0/0/ground,0/0/ground,0/0/ground,0/0/ground,0/0/ground,0/"
    ++ codes "0/ground,0/0/ground,0/0/ground,0/0/ground,0/0/ground,0/0/ground,0/0/ground,0/0/groun"
    ++ codes "d,0/0/ground,0/0/ground,0/0/ground,0/0/ground,0/0/ground,0/0/ground,0/0/ground,0/0/g"
    ++ codes "round,0/0/ground,0/0/ground,0/0/ground,0/0/ground,0/0/ground,0/0/ground,0/0/ground,0"
    ++ codes "/0/ground,0/0/ground,0/0/ground,0/0/ground,0/0/ground,0/0/ground,0/0/ground,0/0/grou"
    ++ codes "nd,0/0/ground,0/0/ground,0/0/ground,0/0/ground,0/0/ground,0/0/ground,0/0/ground,0/0/"
    ++ codes "ground,0/0/ground,0/0/ground,0/0/ground,0/0/ground,0/0/ground,0/0/ground,0/0/ground,"
    ++ codes "0/0/ground,0/0/ground,0/0/ground,0/0/ground,0/0/ground,0/0/ground,0/0/ground,0/0/gro"
    ++ codes "und,0/0/ground,0/0/ground,0/0/ground,0/0/ground,0/0/ground,0/0/ground,0/0/ground,0/0"
    ++ codes "/ground,0/0/ground,0/0/ground,0/0/ground,0/0/ground,0/0/ground,0/0/ground,0/0/ground"
    ++ codes ",0/0/ground,0/0/ground,0/0/ground,0/0/ground,0/0/ground,0/0/ground,0/0/ground,0/0/gr"
    ++ codes "ound,0/0/ground,0/0/ground,0/0/ground,0/0/ground,0/0/ground,0/0/ground,0/0/ground,0/"
    ++ codes "0/ground,0/0/ground,0/0/ground,0/0/ground,0/0/ground,0/0/ground,0/0/ground,0/0/groun"
    ++ codes "d,0/0/ground,0/0/ground,0/0/ground,0/0/ground,0/0/ground,0/0/ground,0/0/ground,0/0/g"
    ++ codes "round,0/0/ground,0/0/ground,0/0/ground,0/0/ground,0/0/ground,0/0/ground,0/0/ground,0"
    ++ codes "/0/ground,0/0/ground,0/0/ground,0/0/ground,0/0/ground,0/0/ground,0/0/ground,0/0/grou"
    ++ codes "nd,0/0/ground,0/0/ground,0/0/ground,0/0/ground,0/0/ground,0/0/ground,0/0/ground,0/0/"
    ++ codes "ground,0/0/ground,0/0/ground,0/0/ground,0/0/ground,0/0/ground,0/0/ground,0/0/ground,"
    ++ codes "0/0/ground,0/0/ground,0/0/ground,0/0/ground,0/0/ground,0/0/ground,0/0/ground,0/0/gro"
    ++ codes "und,0/0/ground,0/0/ground,0/0/ground,0/0/ground,0/0/ground,0/0/ground,0/0/ground,0/0"
    ++ codes "/ground,0/0/ground,0/0/ground,0/0/ground,0/0/ground,0/0/ground,0/0/ground,0/0/ground"
    ++ codes ",0/0/ground,0/0/ground,0/0/ground,0/0/ground,0/0/ground,0/0/ground,0/0/ground,0/0/gr"
    ++ codes "ound,0/0/ground,0/0/ground,0/0/ground,0/0/ground,0/0/ground,0/0/ground,0/0/ground,0/"
    ++ codes "0/ground,0/0/ground,0/0/ground,0/0/ground,0/0/ground,0/0/ground,0/0/ground,0/0/groun"
    ++ codes "d,0/0/ground,0/0/ground,0/0/ground,0/0/ground,0/0/ground,0/0/ground,0/0/ground,0/0/g"
    ++ codes "round,0/0/ground,0/0/ground,0/0/ground,0/0/ground,0/0/ground,0/0/ground,0/0/ground,0"
    ++ codes "/0/ground,0/0/ground,0/0/ground,0/0/ground,0/0/ground,0/0/ground,0/0/ground,0/0/grou"
    ++ codes "nd,0/0/ground,0/0/ground,0/0/ground,0/0/ground,0/0/ground,0/0/ground,0/0/ground,0/0/"
    ++ codes "ground,0/0/ground,0/0/ground,0/0/ground,0/0/ground,0/0/ground,0/0/ground,0/0/ground,"
    ++ codes "0/0/ground,0/0/ground,0/0/ground,0/0/ground,0/0/ground,0/0/ground,0/0/ground,0/0/gro"
    ++ codes "und,0/0/ground,0/0/ground,0/0/ground,0/0/ground,0/0/ground,0/0/ground,0/0/ground,0/0"
    ++ codes "/ground,0/0/ground,0/0/ground,0/0/ground,0/0/ground,0/0/ground,0/0/ground,0/0/ground"
    ++ codes ",0/0/ground,0/0/ground,0/0/ground,0/0/ground,0/0/ground,0/0/ground,0/0/ground,x\n")
    (codes "refused 6 BadLine\n")

-- commands: test 0 0 now:0 timer:1 now:0 count:1 count:3 0/0/ground{,0/0
abbrev pub Row_179_21 : Type 0
Row_179_21 =
    Refuses commands.Test
    (text_before_test
    ++ codes "test 0 0 now:0 timer:1 now:0 count:1 count:3 0/0/ground,0/0/ground,0/0/ground,0/0/gr"
    ++ codes "ound,0/0/ground,0/0/ground,0/0/ground,0/0/ground,0/0/ground,0/0/ground,0/0/ground,0/"
    ++ codes "0/ground,0/0/ground,0/0/ground,0/0/ground,0/0/ground,0/0/ground,0/0/ground,0/0/groun"
    ++ codes "d,0/0/ground,0/0/ground,0/0/ground,0/0/ground,0/0/ground,0/0/ground,0/0/ground,0/0/g"
    ++ codes "round,0/0/ground,0/0/ground,0/0/ground,0/0/ground,0/0/ground,0/0/ground,0/0/ground,0"
    ++ codes "/0/ground,0/0/ground,0/0/ground,0/0/ground,0/0/ground,0/0/ground,0/0/ground,0/0/grou"
    ++ codes "nd,0/0/ground,0/0/ground,0/0/ground,0/0/ground,0/0/ground,0/0/ground,0/0/ground,0/0/"
    ++ codes "ground,0/0/ground,0/0/ground,0/0/ground,0/0/ground,0/0/ground,0/0/ground,0/0/ground,"
    ++ codes "0/0/ground,0/0/ground,0/0/ground,0/0/ground,0/0/ground,0/0/ground,0/0/ground,0/0/gro"
    ++ codes "und,0/0/ground,0/0/ground,0/0/ground,0/0/ground,0/0/ground,0/0/ground,0/0/ground,0/0"
    ++ codes "/ground,0/0/ground,0/0/ground,0/0/ground,0/0/ground,0/0/ground,0/0/ground,0/0/ground"
    ++ codes ",0/0/ground,0/0/ground,0/0/ground,0/0/ground,0/0/ground,0/0/ground,0/0/ground,0/0/gr"
    ++ codes "ound,0/0/ground,0/0/ground,0/0/ground,0/0/ground,0/0/ground,0/0/ground,0/0/ground,0/"
    ++ codes "0/ground,0/0/ground,0/0/ground,0/0/ground,0/0/ground,0/0/ground,0/0/ground,0/0/groun"
    ++ codes "d,0/0/ground,0/0/ground,0/0/ground,0/0/ground,0/0/ground,0/0/ground,0/0/ground,0/0/g"
    ++ codes "round,0/0/ground,0/0/ground,0/0/ground,0/0/ground,0/0/ground,0/0/ground,0/0/ground,0"
    ++ codes "/0/ground,0/0/ground,0/0/ground,0/0/ground,0/0/ground,0/0/ground,0/0/ground,0/0/grou"
    ++ codes "nd,0/0/ground,0/0/ground,0/0/ground,0/0/ground,0/0/ground,0/0/ground,0/0/ground,0/0/"
    ++ codes "ground,0/0/ground,0/0/ground,0/0/ground,0/0/ground,0/0/ground,0/0/ground,0/0/ground,"
    ++ codes "0/0/ground,0/0/ground,0/0/ground,0/0/ground,0/0/ground,0/0/ground,0/0/ground,0/0/gro"
    ++ codes "und,0/0/ground,0/0/ground,0/0/ground,0/0/ground,0/0/ground,0/0/ground,0/0/ground,0/0"
    ++ codes "/ground,0/0/ground,0/0/ground,0/0/ground,0/0/ground,0/0/ground,0/0/ground,0/0/ground"
    ++ codes ",0/0/ground,0/0/ground,0/0/ground,0/0/ground,0/0/ground,0/0/ground,0/0/ground,0/0/gr"
    ++ codes "ound,0/0/ground,0/0/ground,0/0/ground,0/0/ground,0/0/ground,0/0/ground,0/0/ground,0/"
    ++ codes "0/ground,0/0/ground,0/0/ground,0/0/ground,0/0/ground,0/0/ground,0/0/ground,0/0/groun"
    ++ codes "d,0/0/ground,0/0/ground,0/0/ground,0/0/ground,0/0/ground,0/0/ground,0/0/ground,0/0/g"
    ++ codes "round,0/0/ground,0/0/ground,0/0/ground,0/0/ground,0/0/ground,0/0/ground,0/0/ground,0"
    ++ codes "/0/ground,0/0/ground,0/0/ground,0/0/ground,0/0/ground,0/0/ground,0/0/ground,0/0/grou"
    ++ codes "nd,0/0/ground,0/0/ground,0/0/ground,0/0/ground,0/0/ground,0/0/ground,0/0/ground,0/0/"
    ++ codes "ground,0/0/ground,0/0/ground,0/0/ground,0/0/ground,0/0/ground,0/0/ground,0/0/ground,"
    ++ codes "0/0/ground,0/0/ground,0/0/ground,0/0/ground,0/0/ground,0/0/ground,0/0/ground,0/0/gro"
    ++ codes "und,0/0/ground,0/0/ground,0/0/ground,0/0/ground,0/0/ground,0/0/ground,0/0/ground,0/0"
    ++ codes "/ground,0/0/ground,0/0/ground,0/0/ground,0/0/ground,0/0/ground,0/0/ground,0/0/ground"
    ++ codes ",0/0/ground,0/0/ground,0/0/ground,0/0/ground,0/0/ground,0/0/ground,0/0/ground,0/0/gr"
    ++ codes "ound,x\n")
    (codes "refused 6 Limit\n")

-- lines of sessions: 10000 open 15
abbrev pub Row_212_2 : Type 0
Row_212_2 = Answers commands.Replay (text_before_session ++ codes "10000 open 15\n") (codes "ok\n")

-- lines of sessions: 0 close 0
abbrev pub Row_212_3 : Type 0
Row_212_3 = Answers commands.Replay (text_before_session ++ codes "0 close 0\n") (codes "err 22\n")

-- lines of sessions: 0 lock 0 255
abbrev pub Row_212_4 : Type 0
Row_212_4 = Answers commands.Replay (text_before_session ++ codes "0 lock 0 255\n") (codes "err 22\n")

-- lines of sessions: 0 unlock 0 0
abbrev pub Row_212_5 : Type 0
Row_212_5 = Answers commands.Replay (text_before_session ++ codes "0 unlock 0 0\n") (codes "err 22\n")

-- lines of sessions: 0 cmd 1 0 0 now:0 timer:1 now:0 count:1 none:0 -
abbrev pub Row_212_6 : Type 0
Row_212_6 =
    Answers commands.Replay
    (text_before_session ++ codes "0 cmd 1 0 0 now:0 timer:1 now:0 count:1 none:0 -\n")
    (codes "err 22\n")

-- lines of sessions: 0 cancel 1 0
abbrev pub Row_212_7 : Type 0
Row_212_7 = Answers commands.Replay (text_before_session ++ codes "0 cancel 1 0\n") (codes "err 22\n")

-- lines of sessions: 0 read 1 0 65536
abbrev pub Row_212_8 : Type 0
Row_212_8 = Answers commands.Replay (text_before_session ++ codes "0 read 1 0 65536\n") (codes "err 22\n")

-- lines of sessions: 0 read 1 0 0
abbrev pub Row_212_9 : Type 0
Row_212_9 = Answers commands.Replay (text_before_session ++ codes "0 read 1 0 0\n") (codes "err 22\n")

-- lines of sessions: 0 map 1 0 65536
abbrev pub Row_212_10 : Type 0
Row_212_10 = Answers commands.Replay (text_before_session ++ codes "0 map 1 0 65536\n") (codes "err 22\n")

-- lines of sessions: 0 look 1 0 4294967295
abbrev pub Row_212_11 : Type 0
Row_212_11 =
    Answers commands.Replay
    (text_before_session ++ codes "0 look 1 0 4294967295\n")
    (codes "err 22\n")

-- lines of sessions: 0 release 1 0 4294967295
abbrev pub Row_212_12 : Type 0
Row_212_12 =
    Answers commands.Replay
    (text_before_session ++ codes "0 release 1 0 4294967295\n")
    (codes "err 22\n")

-- lines of sessions: 0 contents 1 0
abbrev pub Row_212_13 : Type 0
Row_212_13 = Answers commands.Replay (text_before_session ++ codes "0 contents 1 0\n") (codes "err 22\n")

-- lines of sessions: 0 write 1 0 4294967295
abbrev pub Row_212_14 : Type 0
Row_212_14 =
    Answers commands.Replay
    (text_before_session ++ codes "0 write 1 0 4294967295\n")
    (codes "err 22\n")

-- lines of sessions: 0 fill 1 0 4294967295
abbrev pub Row_212_15 : Type 0
Row_212_15 =
    Answers commands.Replay
    (text_before_session ++ codes "0 fill 1 0 4294967295\n")
    (codes "err 22\n")

-- lines of sessions: 0 mark 1 0 4294967295
abbrev pub Row_212_16 : Type 0
Row_212_16 =
    Answers commands.Replay
    (text_before_session ++ codes "0 mark 1 0 4294967295\n")
    (codes "err 22\n")

-- lines of sessions: 0 insn 1 0 read 65535/255/other 1
abbrev pub Row_212_17 : Type 0
Row_212_17 =
    Answers commands.Replay
    (text_before_session ++ codes "0 insn 1 0 read 65535/255/other 1\n")
    (codes "err 22\n")

-- lines of sessions: 0 insn 1 0 read 0/0/ground 64
abbrev pub Row_212_18 : Type 0
Row_212_18 =
    Answers commands.Replay
    (text_before_session ++ codes "0 insn 1 0 read 0/0/ground 64\n")
    (codes "err 22\n")

-- lines of sessions: 0 insn 1 0 write 0/0/diff 4294967295
abbrev pub Row_212_19 : Type 0
Row_212_19 =
    Answers commands.Replay
    (text_before_session ++ codes "0 insn 1 0 write 0/0/diff 4294967295\n")
    (codes "err 22\n")

-- lines of sessions: 0 insn 1 0 bits 4294967295 4294967295
abbrev pub Row_212_20 : Type 0
Row_212_20 =
    Answers commands.Replay
    (text_before_session ++ codes "0 insn 1 0 bits 4294967295 4294967295\n")
    (codes "err 22\n")

-- lines of sessions: 0 insn 1 0 config 0/0/common 4294967295
abbrev pub Row_212_21 : Type 0
Row_212_21 =
    Answers commands.Replay
    (text_before_session ++ codes "0 insn 1 0 config 0/0/common 4294967295\n")
    (codes "err 22\n")

-- lines of sessions: 0 insn 1 0 gtod
abbrev pub Row_212_22 : Type 0
Row_212_22 = Answers commands.Replay (text_before_session ++ codes "0 insn 1 0 gtod\n") (codes "err 22\n")

-- lines of sessions: 0 insn 1 0 inttrig 4294967295
abbrev pub Row_212_23 : Type 0
Row_212_23 =
    Answers commands.Replay
    (text_before_session ++ codes "0 insn 1 0 inttrig 4294967295\n")
    (codes "err 22\n")

-- lines of sessions: 0
abbrev pub Row_212_24 : Type 0
Row_212_24 = Refuses commands.Replay (text_before_session ++ codes "0\n") (codes "refused 8 BadLine\n")

-- lines of sessions: open
abbrev pub Row_212_25 : Type 0
Row_212_25 = Refuses commands.Replay (text_before_session ++ codes "open\n") (codes "refused 8 BadLine\n")

-- lines of sessions: 0 opens 1
abbrev pub Row_212_26 : Type 0
Row_212_26 =
    Refuses commands.Replay
    (text_before_session ++ codes "0 opens 1\n")
    (codes "refused 8 Unknown\n")

-- lines of sessions: 0 1 open
abbrev pub Row_212_27 : Type 0
Row_212_27 = Refuses commands.Replay (text_before_session ++ codes "0 1 open\n") (codes "refused 8 Unknown\n")

-- lines of sessions: x test 1
abbrev pub Row_212_28 : Type 0
Row_212_28 = Refuses commands.Replay (text_before_session ++ codes "x test 1\n") (codes "refused 8 Unknown\n")

-- lines of sessions: 0 insn 1 0 reads 0/0/ground 1
abbrev pub Row_212_29 : Type 0
Row_212_29 =
    Refuses commands.Replay
    (text_before_session ++ codes "0 insn 1 0 reads 0/0/ground 1\n")
    (codes "refused 8 Unknown\n")

-- lines of sessions: x insn 16 256 foo
abbrev pub Row_212_30 : Type 0
Row_212_30 =
    Refuses commands.Replay
    (text_before_session ++ codes "x insn 16 256 foo\n")
    (codes "refused 8 Unknown\n")

-- lines of sessions: 0 open
abbrev pub Row_212_31 : Type 0
Row_212_31 = Refuses commands.Replay (text_before_session ++ codes "0 open\n") (codes "refused 8 BadLine\n")

-- lines of sessions: 0 close 1 0
abbrev pub Row_212_32 : Type 0
Row_212_32 =
    Refuses commands.Replay
    (text_before_session ++ codes "0 close 1 0\n")
    (codes "refused 8 BadLine\n")

-- lines of sessions: 0 lock 1
abbrev pub Row_212_33 : Type 0
Row_212_33 = Refuses commands.Replay (text_before_session ++ codes "0 lock 1\n") (codes "refused 8 BadLine\n")

-- lines of sessions: 0 unlock 1 0 0
abbrev pub Row_212_34 : Type 0
Row_212_34 =
    Refuses commands.Replay
    (text_before_session ++ codes "0 unlock 1 0 0\n")
    (codes "refused 8 BadLine\n")

-- lines of sessions: 0 cancel 1
abbrev pub Row_212_35 : Type 0
Row_212_35 =
    Refuses commands.Replay
    (text_before_session ++ codes "0 cancel 1\n")
    (codes "refused 8 BadLine\n")

-- lines of sessions: 0 contents 1 0 0
abbrev pub Row_212_36 : Type 0
Row_212_36 =
    Refuses commands.Replay
    (text_before_session ++ codes "0 contents 1 0 0\n")
    (codes "refused 8 BadLine\n")

-- lines of sessions: 0 read 1 0
abbrev pub Row_212_37 : Type 0
Row_212_37 =
    Refuses commands.Replay
    (text_before_session ++ codes "0 read 1 0\n")
    (codes "refused 8 BadLine\n")

-- lines of sessions: 0 map 1 0 1 1
abbrev pub Row_212_38 : Type 0
Row_212_38 =
    Refuses commands.Replay
    (text_before_session ++ codes "0 map 1 0 1 1\n")
    (codes "refused 8 BadLine\n")

-- lines of sessions: 0 look 1 0
abbrev pub Row_212_39 : Type 0
Row_212_39 =
    Refuses commands.Replay
    (text_before_session ++ codes "0 look 1 0\n")
    (codes "refused 8 BadLine\n")

-- lines of sessions: 0 release 1 0 1 1
abbrev pub Row_212_40 : Type 0
Row_212_40 =
    Refuses commands.Replay
    (text_before_session ++ codes "0 release 1 0 1 1\n")
    (codes "refused 8 BadLine\n")

-- lines of sessions: 0 mark 1 0
abbrev pub Row_212_41 : Type 0
Row_212_41 =
    Refuses commands.Replay
    (text_before_session ++ codes "0 mark 1 0\n")
    (codes "refused 8 BadLine\n")

-- lines of sessions: 0 write 1 0
abbrev pub Row_212_42 : Type 0
Row_212_42 =
    Refuses commands.Replay
    (text_before_session ++ codes "0 write 1 0\n")
    (codes "refused 8 BadLine\n")

-- lines of sessions: 0 fill 1
abbrev pub Row_212_43 : Type 0
Row_212_43 = Refuses commands.Replay (text_before_session ++ codes "0 fill 1\n") (codes "refused 8 BadLine\n")

-- lines of sessions: 0 cmd 1 0 0 now:0 timer:1 now:0 count:1 none:0
abbrev pub Row_212_44 : Type 0
Row_212_44 =
    Refuses commands.Replay
    (text_before_session ++ codes "0 cmd 1 0 0 now:0 timer:1 now:0 count:1 none:0\n")
    (codes "refused 8 BadLine\n")

-- lines of sessions: x cmd 1 0 0 now:0 timer:1 now:0 count:1 none:0 - -
abbrev pub Row_212_45 : Type 0
Row_212_45 =
    Refuses commands.Replay
    (text_before_session ++ codes "x cmd 1 0 0 now:0 timer:1 now:0 count:1 none:0 - -\n")
    (codes "refused 8 BadLine\n")

-- lines of sessions: 0 insn 1 0
abbrev pub Row_212_46 : Type 0
Row_212_46 =
    Refuses commands.Replay
    (text_before_session ++ codes "0 insn 1 0\n")
    (codes "refused 8 BadLine\n")

-- lines of sessions: 0 insn 1 0 read 0/0/ground
abbrev pub Row_212_47 : Type 0
Row_212_47 =
    Refuses commands.Replay
    (text_before_session ++ codes "0 insn 1 0 read 0/0/ground\n")
    (codes "refused 8 BadLine\n")

-- lines of sessions: 0 insn 1 0 read 0/0/ground 1 1
abbrev pub Row_212_48 : Type 0
Row_212_48 =
    Refuses commands.Replay
    (text_before_session ++ codes "0 insn 1 0 read 0/0/ground 1 1\n")
    (codes "refused 8 BadLine\n")

-- lines of sessions: 0 insn 1 0 write 0/0/ground
abbrev pub Row_212_49 : Type 0
Row_212_49 =
    Refuses commands.Replay
    (text_before_session ++ codes "0 insn 1 0 write 0/0/ground\n")
    (codes "refused 8 BadLine\n")

-- lines of sessions: 0 insn 1 0 bits 1
abbrev pub Row_212_50 : Type 0
Row_212_50 =
    Refuses commands.Replay
    (text_before_session ++ codes "0 insn 1 0 bits 1\n")
    (codes "refused 8 BadLine\n")

-- lines of sessions: 0 insn 1 0 config 0/0/ground 1 1
abbrev pub Row_212_51 : Type 0
Row_212_51 =
    Refuses commands.Replay
    (text_before_session ++ codes "0 insn 1 0 config 0/0/ground 1 1\n")
    (codes "refused 8 BadLine\n")

-- lines of sessions: 0 insn 1 0 gtod 0
abbrev pub Row_212_52 : Type 0
Row_212_52 =
    Refuses commands.Replay
    (text_before_session ++ codes "0 insn 1 0 gtod 0\n")
    (codes "refused 8 BadLine\n")

-- lines of sessions: 0 insn 1 0 inttrig
abbrev pub Row_212_53 : Type 0
Row_212_53 =
    Refuses commands.Replay
    (text_before_session ++ codes "0 insn 1 0 inttrig\n")
    (codes "refused 8 BadLine\n")

-- lines of sessions: x open 1
abbrev pub Row_212_54 : Type 0
Row_212_54 =
    Refuses commands.Replay
    (text_before_session ++ codes "x open 1\n")
    (codes "refused 8 BadNumber\n")

-- lines of sessions: 00 open 1
abbrev pub Row_212_55 : Type 0
Row_212_55 =
    Refuses commands.Replay
    (text_before_session ++ codes "00 open 1\n")
    (codes "refused 8 BadNumber\n")

-- lines of sessions: 10001 open 1
abbrev pub Row_212_56 : Type 0
Row_212_56 =
    Refuses commands.Replay
    (text_before_session ++ codes "10001 open 1\n")
    (codes "refused 8 Limit\n")

-- lines of sessions: 10001 cmd x 0 0 now:0 timer:1 now:0 count:1 none:0 -
abbrev pub Row_212_57 : Type 0
Row_212_57 =
    Refuses commands.Replay
    (text_before_session ++ codes "10001 cmd x 0 0 now:0 timer:1 now:0 count:1 none:0 -\n")
    (codes "refused 8 Limit\n")

-- lines of sessions: 10001 insn 1 0 gtod
abbrev pub Row_212_58 : Type 0
Row_212_58 =
    Refuses commands.Replay
    (text_before_session ++ codes "10001 insn 1 0 gtod\n")
    (codes "refused 8 Limit\n")

-- lines of sessions: 5 open 1\n5 close 1
abbrev pub Row_212_59 : Type 0
Row_212_59 =
    Answers commands.Replay
    (text_before_session ++ codes "5 open 1\n" ++ codes "5 close 1\n")
    (codes "ok\n" ++ codes "ok\n")

-- lines of sessions: 5 open 1\n4 close 1
abbrev pub Row_212_60 : Type 0
Row_212_60 =
    Refuses commands.Replay
    (text_before_session ++ codes "5 open 1\n" ++ codes "4 close 1\n")
    (codes "refused 9 Bad\n")

-- lines of sessions: 5 open 1\n0 read 1 0 x
abbrev pub Row_212_61 : Type 0
Row_212_61 =
    Refuses commands.Replay
    (text_before_session ++ codes "5 open 1\n" ++ codes "0 read 1 0 x\n")
    (codes "refused 9 BadNumber\n")

-- lines of sessions: 5 open 1\n0 read 16 0 1
abbrev pub Row_212_62 : Type 0
Row_212_62 =
    Refuses commands.Replay
    (text_before_session ++ codes "5 open 1\n" ++ codes "0 read 16 0 1\n")
    (codes "refused 9 Limit\n")

-- lines of sessions: 5 open 1\n4 insn 1 0 bits x 0
abbrev pub Row_212_63 : Type 0
Row_212_63 =
    Refuses commands.Replay
    (text_before_session ++ codes "5 open 1\n" ++ codes "4 insn 1 0 bits x 0\n")
    (codes "refused 9 BadNumber\n")

-- lines of sessions: 5 open 1\n6 close 1\n5 open 1
abbrev pub Row_212_64 : Type 0
Row_212_64 =
    Refuses commands.Replay
    (text_before_session ++ codes "5 open 1\n" ++ codes "6 close 1\n" ++ codes "5 open 1\n")
    (codes "refused 10 Bad\n")

-- lines of sessions: 0 open 16
abbrev pub Row_212_65 : Type 0
Row_212_65 = Refuses commands.Replay (text_before_session ++ codes "0 open 16\n") (codes "refused 8 Limit\n")

-- lines of sessions: 0 lock x 256
abbrev pub Row_212_66 : Type 0
Row_212_66 =
    Refuses commands.Replay
    (text_before_session ++ codes "0 lock x 256\n")
    (codes "refused 8 BadNumber\n")

-- lines of sessions: 0 cancel 16 x
abbrev pub Row_212_67 : Type 0
Row_212_67 =
    Refuses commands.Replay
    (text_before_session ++ codes "0 cancel 16 x\n")
    (codes "refused 8 Limit\n")

-- lines of sessions: 0 lock 1 256
abbrev pub Row_212_68 : Type 0
Row_212_68 =
    Refuses commands.Replay
    (text_before_session ++ codes "0 lock 1 256\n")
    (codes "refused 8 Limit\n")

-- lines of sessions: 0 cmd 16 0 0 now:0 timer:1 now:0 count:1 none:0 -
abbrev pub Row_212_69 : Type 0
Row_212_69 =
    Refuses commands.Replay
    (text_before_session ++ codes "0 cmd 16 0 0 now:0 timer:1 now:0 count:1 none:0 -\n")
    (codes "refused 8 Limit\n")

-- lines of sessions: 0 cmd 1 256 0 now:0 timer:1 now:0 count:1 none:0 -
abbrev pub Row_212_70 : Type 0
Row_212_70 =
    Refuses commands.Replay
    (text_before_session ++ codes "0 cmd 1 256 0 now:0 timer:1 now:0 count:1 none:0 -\n")
    (codes "refused 8 Limit\n")

-- lines of sessions: 0 cmd 1 0 0 soon:0 timer:1 now:0 count:1 none:0 -
abbrev pub Row_212_71 : Type 0
Row_212_71 =
    Refuses commands.Replay
    (text_before_session ++ codes "0 cmd 1 0 0 soon:0 timer:1 now:0 count:1 none:0 -\n")
    (codes "refused 8 Unknown\n")

-- lines of sessions: 0 read 1 0 65537
abbrev pub Row_212_72 : Type 0
Row_212_72 =
    Refuses commands.Replay
    (text_before_session ++ codes "0 read 1 0 65537\n")
    (codes "refused 8 Limit\n")

-- lines of sessions: 0 map 1 0 65537
abbrev pub Row_212_73 : Type 0
Row_212_73 =
    Refuses commands.Replay
    (text_before_session ++ codes "0 map 1 0 65537\n")
    (codes "refused 8 Limit\n")

-- lines of sessions: 0 look 1 0 4294967296
abbrev pub Row_212_74 : Type 0
Row_212_74 =
    Refuses commands.Replay
    (text_before_session ++ codes "0 look 1 0 4294967296\n")
    (codes "refused 8 Limit\n")

-- lines of sessions: 0 release 1 0 -1
abbrev pub Row_212_75 : Type 0
Row_212_75 =
    Refuses commands.Replay
    (text_before_session ++ codes "0 release 1 0 -1\n")
    (codes "refused 8 BadNumber\n")

-- lines of sessions: 0 mark 1 0 4294967296
abbrev pub Row_212_76 : Type 0
Row_212_76 =
    Refuses commands.Replay
    (text_before_session ++ codes "0 mark 1 0 4294967296\n")
    (codes "refused 8 Limit\n")

-- lines of sessions: 0 write 1 0 4294967296
abbrev pub Row_212_77 : Type 0
Row_212_77 =
    Refuses commands.Replay
    (text_before_session ++ codes "0 write 1 0 4294967296\n")
    (codes "refused 8 Limit\n")

-- lines of sessions: 0 fill 1 0 1 x
abbrev pub Row_212_78 : Type 0
Row_212_78 =
    Refuses commands.Replay
    (text_before_session ++ codes "0 fill 1 0 1 x\n")
    (codes "refused 8 BadNumber\n")

-- lines of sessions: 0 insn 1 0 read 0/0/ground 0
abbrev pub Row_212_79 : Type 0
Row_212_79 =
    Refuses commands.Replay
    (text_before_session ++ codes "0 insn 1 0 read 0/0/ground 0\n")
    (codes "refused 8 Limit\n")

-- lines of sessions: 0 insn 1 0 read 0/0/ground 65
abbrev pub Row_212_80 : Type 0
Row_212_80 =
    Refuses commands.Replay
    (text_before_session ++ codes "0 insn 1 0 read 0/0/ground 65\n")
    (codes "refused 8 Limit\n")

-- lines of sessions: 0 insn 1 0 read 0/ground 1
abbrev pub Row_212_81 : Type 0
Row_212_81 =
    Refuses commands.Replay
    (text_before_session ++ codes "0 insn 1 0 read 0/ground 1\n")
    (codes "refused 8 BadLine\n")

-- lines of sessions: 0 insn 1 0 write 0/0/ground/0 1
abbrev pub Row_212_82 : Type 0
Row_212_82 =
    Refuses commands.Replay
    (text_before_session ++ codes "0 insn 1 0 write 0/0/ground/0 1\n")
    (codes "refused 8 BadLine\n")

-- lines of sessions: 0 insn 1 0 config 0 1
abbrev pub Row_212_83 : Type 0
Row_212_83 =
    Refuses commands.Replay
    (text_before_session ++ codes "0 insn 1 0 config 0 1\n")
    (codes "refused 8 BadLine\n")

-- lines of sessions: 0 insn 1 0 config 65536/0/ground 1
abbrev pub Row_212_84 : Type 0
Row_212_84 =
    Refuses commands.Replay
    (text_before_session ++ codes "0 insn 1 0 config 65536/0/ground 1\n")
    (codes "refused 8 Limit\n")

-- lines of sessions: 0 insn 1 0 config 0/0/here 1
abbrev pub Row_212_85 : Type 0
Row_212_85 =
    Refuses commands.Replay
    (text_before_session ++ codes "0 insn 1 0 config 0/0/here 1\n")
    (codes "refused 8 Unknown\n")

-- lines of sessions: 0 insn 1 0 inttrig 4294967296
abbrev pub Row_212_86 : Type 0
Row_212_86 =
    Refuses commands.Replay
    (text_before_session ++ codes "0 insn 1 0 inttrig 4294967296\n")
    (codes "refused 8 Limit\n")

-- lines of sessions: 0 insn 1 0 bits 0 x
abbrev pub Row_212_87 : Type 0
Row_212_87 =
    Refuses commands.Replay
    (text_before_session ++ codes "0 insn 1 0 bits 0 x\n")
    (codes "refused 8 BadNumber\n")

-- lines of sessions: 0 open 1\x01
abbrev pub Row_212_88 : Type 0
Row_212_88 =
    Refuses commands.Replay
    (text_before_session ++ codes "0 open 1\u{1}\n")
    (codes "refused 8 BadLine\n")

-- lines of sessions: 0 open 1\n\x01
abbrev pub Row_212_89 : Type 0
Row_212_89 =
    Refuses commands.Replay
    (text_before_session ++ codes "0 open 1\n" ++ codes "\u{1}\n")
    (codes "refused 9 BadLine\n")

-- lines of sessions: 0 open 1\n0 open 16\n\x01
abbrev pub Row_212_90 : Type 0
Row_212_90 =
    Refuses commands.Replay
    (text_before_session ++ codes "0 open 1\n" ++ codes "0 open 16\n" ++ codes "\u{1}\n")
    (codes "refused 9 Limit\n")

-- lines of sessions: 0 open 1\n# \x7f
abbrev pub Row_212_91 : Type 0
Row_212_91 =
    Refuses commands.Replay
    (text_before_session ++ codes "0 open 1\n" ++ codes "# \u{7f}\n")
    (codes "refused 9 BadLine\n")

-- lines of instructions alone: 0 open 1\n0 lock 1 0\n0 insn 1 0 gtod\n0 unlock 1 0\n0 close
abbrev pub Row_306_2 : Type 0
Row_306_2 =
    Answers commands.Insn
    (text_before_session
    ++ codes "0 open 1\n"
    ++ codes "0 lock 1 0\n"
    ++ codes "0 insn 1 0 gtod\n"
    ++ codes "0 unlock 1 0\n"
    ++ codes "0 close 1\n")
    (codes "ok\n" ++ codes "ok\n" ++ codes "ok 2 0 0\n" ++ codes "ok\n" ++ codes "ok\n")

-- lines of instructions alone: 0 open 1\n0 read 1 0 1
abbrev pub Row_306_3 : Type 0
Row_306_3 =
    Refuses commands.Insn
    (text_before_session ++ codes "0 open 1\n" ++ codes "0 read 1 0 1\n")
    (codes "refused 9 Unknown\n")

-- lines of instructions alone: 0 cmd 1 0 0 now:0 timer:1 now:0 count:1 none:0 -
abbrev pub Row_306_4 : Type 0
Row_306_4 =
    Refuses commands.Insn
    (text_before_session ++ codes "0 cmd 1 0 0 now:0 timer:1 now:0 count:1 none:0 -\n")
    (codes "refused 8 Unknown\n")

-- lines of instructions alone: 0 cancel 1 0
abbrev pub Row_306_5 : Type 0
Row_306_5 =
    Refuses commands.Insn
    (text_before_session ++ codes "0 cancel 1 0\n")
    (codes "refused 8 Unknown\n")

-- lines of instructions alone: 0 contents 1 0
abbrev pub Row_306_6 : Type 0
Row_306_6 =
    Refuses commands.Insn
    (text_before_session ++ codes "0 contents 1 0\n")
    (codes "refused 8 Unknown\n")

-- lines of instructions alone: 0 write 1 0 1
abbrev pub Row_306_7 : Type 0
Row_306_7 =
    Refuses commands.Insn
    (text_before_session ++ codes "0 write 1 0 1\n")
    (codes "refused 8 Unknown\n")

-- lines of instructions alone: x fill 1
abbrev pub Row_306_8 : Type 0
Row_306_8 = Refuses commands.Insn (text_before_session ++ codes "x fill 1\n") (codes "refused 8 Unknown\n")

-- lines of instructions alone: 0 mark 1 0 1
abbrev pub Row_306_9 : Type 0
Row_306_9 =
    Refuses commands.Insn
    (text_before_session ++ codes "0 mark 1 0 1\n")
    (codes "refused 8 Unknown\n")

-- lines of instructions alone: x insn 1 0 gtod
abbrev pub Row_306_10 : Type 0
Row_306_10 =
    Refuses commands.Insn
    (text_before_session ++ codes "x insn 1 0 gtod\n")
    (codes "refused 8 BadNumber\n")

-- numbers of values: 0 write 1 0{ 7*1023} 7
abbrev pub Row_318_2 : Type 0
Row_318_2 =
    Answers commands.Replay
    (text_before_session
    ++ codes "0 write 1 0 7 7 7 7 7 7 7 7 7 7 7 7 7 7 7 7 7 7 7 7 7 7 7 7 7 7 7 7 7 7 7 7 7 7 7 7 "
    ++ codes "7 7 7 7 7 7 7 7 7 7 7 7 7 7 7 7 7 7 7 7 7 7 7 7 7 7 7 7 7 7 7 7 7 7 7 7 7 7 7 7 7 7 "
    ++ codes "7 7 7 7 7 7 7 7 7 7 7 7 7 7 7 7 7 7 7 7 7 7 7 7 7 7 7 7 7 7 7 7 7 7 7 7 7 7 7 7 7 7 "
    ++ codes "7 7 7 7 7 7 7 7 7 7 7 7 7 7 7 7 7 7 7 7 7 7 7 7 7 7 7 7 7 7 7 7 7 7 7 7 7 7 7 7 7 7 "
    ++ codes "7 7 7 7 7 7 7 7 7 7 7 7 7 7 7 7 7 7 7 7 7 7 7 7 7 7 7 7 7 7 7 7 7 7 7 7 7 7 7 7 7 7 "
    ++ codes "7 7 7 7 7 7 7 7 7 7 7 7 7 7 7 7 7 7 7 7 7 7 7 7 7 7 7 7 7 7 7 7 7 7 7 7 7 7 7 7 7 7 "
    ++ codes "7 7 7 7 7 7 7 7 7 7 7 7 7 7 7 7 7 7 7 7 7 7 7 7 7 7 7 7 7 7 7 7 7 7 7 7 7 7 7 7 7 7 "
    ++ codes "7 7 7 7 7 7 7 7 7 7 7 7 7 7 7 7 7 7 7 7 7 7 7 7 7 7 7 7 7 7 7 7 7 7 7 7 7 7 7 7 7 7 "
    ++ codes "7 7 7 7 7 7 7 7 7 7 7 7 7 7 7 7 7 7 7 7 7 7 7 7 7 7 7 7 7 7 7 7 7 7 7 7 7 7 7 7 7 7 "
    ++ codes "7 7 7 7 7 7 7 7 7 7 7 7 7 7 7 7 7 7 7 7 7 7 7 7 7 7 7 7 7 7 7 7 7 7 7 7 7 7 7 7 7 7 "
    ++ codes "7 7 7 7 7 7 7 7 7 7 7 7 7 7 7 7 7 7 7 7 7 7 7 7 7 7 7 7 7 7 7 7 7 7 7 7 7 7 7 7 7 7 "
    ++ codes "7 7 7 7 7 7 7 7 7 7 7 7 7 7 7 7 7 7 7 7 7 7 7 7 7 7 7 7 7 7 7 7 7 7 7 7 7 7 7 7 7 7 "
    ++ codes "7 7 7 7 7 7 7 7 7 7 7 7 7 7 7 7 7 7 7 7 7 7 7 7 7 7 7 7 7 7 7 7 7 7 7 7 7 7 7 7 7 7 "
    ++ codes "7 7 7 7 7 7 7 7 7 7 7 7 7 7 7 7 7 7 7 7 7 7 7 7 7 7 7 7 7 7 7 7 7 7 7 7 7 7 7 7 7 7 "
    ++ codes "7 7 7 7 7 7 7 7 7 7 7 7 7 7 7 7 7 7 7 7 7 7 7 7 7 7 7 7 7 7 7 7 7 7 7 7 7 7 7 7 7 7 "
    ++ codes "7 7 7 7 7 7 7 7 7 7 7 7 7 7 7 7 7 7 7 7 7 7 7 7 7 7 7 7 7 7 7 7 7 7 7 7 7 7 7 7 7 7 "
    ++ codes "7 7 7 7 7 7 7 7 7 7 7 7 7 7 7 7 7 7 7 7 7 7 7 7 7 7 7 7 7 7 7 7 7 7 7 7 7 7 7 7 7 7 "
    ++ codes "7 7 7 7 7 7 7 7 7 7 7 7 7 7 7 7 7 7 7 7 7 7 7 7 7 7 7 7 7 7 7 7 7 7 7 7 7 7 7 7 7 7 "
    ++ codes "7 7 7 7 7 7 7 7 7 7 7 7 7 7 7 7 7 7 7 7 7 7 7 7 7 7 7 7 7 7 7 7 7 7 7 7 7 7 7 7 7 7 "
    ++ codes "7 7 7 7 7 7 7 7 7 7 7 7 7 7 7 7 7 7 7 7 7 7 7 7 7 7 7 7 7 7 7 7 7 7 7 7 7 7 7 7 7 7 "
    ++ codes "7 7 7 7 7 7 7 7 7 7 7 7 7 7 7 7 7 7 7 7 7 7 7 7 7 7 7 7 7 7 7 7 7 7 7 7 7 7 7 7 7 7 "
    ++ codes "7 7 7 7 7 7 7 7 7 7 7 7 7 7 7 7 7 7 7 7 7 7 7 7 7 7 7 7 7 7 7 7 7 7 7 7 7 7 7 7 7 7 "
    ++ codes "7 7 7 7 7 7 7 7 7 7 7 7 7 7 7 7 7 7 7 7 7 7 7 7 7 7 7 7 7 7 7 7 7 7 7 7 7 7 7 7 7 7 "
    ++ codes "7 7 7 7 7 7 7 7 7 7 7 7 7 7 7 7 7 7 7 7 7 7 7 7 7 7 7 7 7 7 7 7 7 7 7 7 7 7 7 7 7 7 "
    ++ codes "7 7 7 7 7 7 7 7 7 7 7 7 7 7 7 7 7 7 7 7 7 7\n")
    (codes "err 22\n")

-- numbers of values: 0 write 1 0{ 7*1024} 7
abbrev pub Row_318_3 : Type 0
Row_318_3 =
    Refuses commands.Replay
    (text_before_session
    ++ codes "0 write 1 0 7 7 7 7 7 7 7 7 7 7 7 7 7 7 7 7 7 7 7 7 7 7 7 7 7 7 7 7 7 7 7 7 7 7 7 7 "
    ++ codes "7 7 7 7 7 7 7 7 7 7 7 7 7 7 7 7 7 7 7 7 7 7 7 7 7 7 7 7 7 7 7 7 7 7 7 7 7 7 7 7 7 7 "
    ++ codes "7 7 7 7 7 7 7 7 7 7 7 7 7 7 7 7 7 7 7 7 7 7 7 7 7 7 7 7 7 7 7 7 7 7 7 7 7 7 7 7 7 7 "
    ++ codes "7 7 7 7 7 7 7 7 7 7 7 7 7 7 7 7 7 7 7 7 7 7 7 7 7 7 7 7 7 7 7 7 7 7 7 7 7 7 7 7 7 7 "
    ++ codes "7 7 7 7 7 7 7 7 7 7 7 7 7 7 7 7 7 7 7 7 7 7 7 7 7 7 7 7 7 7 7 7 7 7 7 7 7 7 7 7 7 7 "
    ++ codes "7 7 7 7 7 7 7 7 7 7 7 7 7 7 7 7 7 7 7 7 7 7 7 7 7 7 7 7 7 7 7 7 7 7 7 7 7 7 7 7 7 7 "
    ++ codes "7 7 7 7 7 7 7 7 7 7 7 7 7 7 7 7 7 7 7 7 7 7 7 7 7 7 7 7 7 7 7 7 7 7 7 7 7 7 7 7 7 7 "
    ++ codes "7 7 7 7 7 7 7 7 7 7 7 7 7 7 7 7 7 7 7 7 7 7 7 7 7 7 7 7 7 7 7 7 7 7 7 7 7 7 7 7 7 7 "
    ++ codes "7 7 7 7 7 7 7 7 7 7 7 7 7 7 7 7 7 7 7 7 7 7 7 7 7 7 7 7 7 7 7 7 7 7 7 7 7 7 7 7 7 7 "
    ++ codes "7 7 7 7 7 7 7 7 7 7 7 7 7 7 7 7 7 7 7 7 7 7 7 7 7 7 7 7 7 7 7 7 7 7 7 7 7 7 7 7 7 7 "
    ++ codes "7 7 7 7 7 7 7 7 7 7 7 7 7 7 7 7 7 7 7 7 7 7 7 7 7 7 7 7 7 7 7 7 7 7 7 7 7 7 7 7 7 7 "
    ++ codes "7 7 7 7 7 7 7 7 7 7 7 7 7 7 7 7 7 7 7 7 7 7 7 7 7 7 7 7 7 7 7 7 7 7 7 7 7 7 7 7 7 7 "
    ++ codes "7 7 7 7 7 7 7 7 7 7 7 7 7 7 7 7 7 7 7 7 7 7 7 7 7 7 7 7 7 7 7 7 7 7 7 7 7 7 7 7 7 7 "
    ++ codes "7 7 7 7 7 7 7 7 7 7 7 7 7 7 7 7 7 7 7 7 7 7 7 7 7 7 7 7 7 7 7 7 7 7 7 7 7 7 7 7 7 7 "
    ++ codes "7 7 7 7 7 7 7 7 7 7 7 7 7 7 7 7 7 7 7 7 7 7 7 7 7 7 7 7 7 7 7 7 7 7 7 7 7 7 7 7 7 7 "
    ++ codes "7 7 7 7 7 7 7 7 7 7 7 7 7 7 7 7 7 7 7 7 7 7 7 7 7 7 7 7 7 7 7 7 7 7 7 7 7 7 7 7 7 7 "
    ++ codes "7 7 7 7 7 7 7 7 7 7 7 7 7 7 7 7 7 7 7 7 7 7 7 7 7 7 7 7 7 7 7 7 7 7 7 7 7 7 7 7 7 7 "
    ++ codes "7 7 7 7 7 7 7 7 7 7 7 7 7 7 7 7 7 7 7 7 7 7 7 7 7 7 7 7 7 7 7 7 7 7 7 7 7 7 7 7 7 7 "
    ++ codes "7 7 7 7 7 7 7 7 7 7 7 7 7 7 7 7 7 7 7 7 7 7 7 7 7 7 7 7 7 7 7 7 7 7 7 7 7 7 7 7 7 7 "
    ++ codes "7 7 7 7 7 7 7 7 7 7 7 7 7 7 7 7 7 7 7 7 7 7 7 7 7 7 7 7 7 7 7 7 7 7 7 7 7 7 7 7 7 7 "
    ++ codes "7 7 7 7 7 7 7 7 7 7 7 7 7 7 7 7 7 7 7 7 7 7 7 7 7 7 7 7 7 7 7 7 7 7 7 7 7 7 7 7 7 7 "
    ++ codes "7 7 7 7 7 7 7 7 7 7 7 7 7 7 7 7 7 7 7 7 7 7 7 7 7 7 7 7 7 7 7 7 7 7 7 7 7 7 7 7 7 7 "
    ++ codes "7 7 7 7 7 7 7 7 7 7 7 7 7 7 7 7 7 7 7 7 7 7 7 7 7 7 7 7 7 7 7 7 7 7 7 7 7 7 7 7 7 7 "
    ++ codes "7 7 7 7 7 7 7 7 7 7 7 7 7 7 7 7 7 7 7 7 7 7 7 7 7 7 7 7 7 7 7 7 7 7 7 7 7 7 7 7 7 7 "
    ++ codes "7 7 7 7 7 7 7 7 7 7 7 7 7 7 7 7 7 7 7 7 7 7 7\n")
    (codes "refused 8 Limit\n")

-- numbers of values: 0 write 1 0{ 7*1024} x
abbrev pub Row_318_4 : Type 0
Row_318_4 =
    Refuses commands.Replay
    (text_before_session
    ++ codes "0 write 1 0 7 7 7 7 7 7 7 7 7 7 7 7 7 7 7 7 7 7 7 7 7 7 7 7 7 7 7 7 7 7 7 7 7 7 7 7 "
    ++ codes "7 7 7 7 7 7 7 7 7 7 7 7 7 7 7 7 7 7 7 7 7 7 7 7 7 7 7 7 7 7 7 7 7 7 7 7 7 7 7 7 7 7 "
    ++ codes "7 7 7 7 7 7 7 7 7 7 7 7 7 7 7 7 7 7 7 7 7 7 7 7 7 7 7 7 7 7 7 7 7 7 7 7 7 7 7 7 7 7 "
    ++ codes "7 7 7 7 7 7 7 7 7 7 7 7 7 7 7 7 7 7 7 7 7 7 7 7 7 7 7 7 7 7 7 7 7 7 7 7 7 7 7 7 7 7 "
    ++ codes "7 7 7 7 7 7 7 7 7 7 7 7 7 7 7 7 7 7 7 7 7 7 7 7 7 7 7 7 7 7 7 7 7 7 7 7 7 7 7 7 7 7 "
    ++ codes "7 7 7 7 7 7 7 7 7 7 7 7 7 7 7 7 7 7 7 7 7 7 7 7 7 7 7 7 7 7 7 7 7 7 7 7 7 7 7 7 7 7 "
    ++ codes "7 7 7 7 7 7 7 7 7 7 7 7 7 7 7 7 7 7 7 7 7 7 7 7 7 7 7 7 7 7 7 7 7 7 7 7 7 7 7 7 7 7 "
    ++ codes "7 7 7 7 7 7 7 7 7 7 7 7 7 7 7 7 7 7 7 7 7 7 7 7 7 7 7 7 7 7 7 7 7 7 7 7 7 7 7 7 7 7 "
    ++ codes "7 7 7 7 7 7 7 7 7 7 7 7 7 7 7 7 7 7 7 7 7 7 7 7 7 7 7 7 7 7 7 7 7 7 7 7 7 7 7 7 7 7 "
    ++ codes "7 7 7 7 7 7 7 7 7 7 7 7 7 7 7 7 7 7 7 7 7 7 7 7 7 7 7 7 7 7 7 7 7 7 7 7 7 7 7 7 7 7 "
    ++ codes "7 7 7 7 7 7 7 7 7 7 7 7 7 7 7 7 7 7 7 7 7 7 7 7 7 7 7 7 7 7 7 7 7 7 7 7 7 7 7 7 7 7 "
    ++ codes "7 7 7 7 7 7 7 7 7 7 7 7 7 7 7 7 7 7 7 7 7 7 7 7 7 7 7 7 7 7 7 7 7 7 7 7 7 7 7 7 7 7 "
    ++ codes "7 7 7 7 7 7 7 7 7 7 7 7 7 7 7 7 7 7 7 7 7 7 7 7 7 7 7 7 7 7 7 7 7 7 7 7 7 7 7 7 7 7 "
    ++ codes "7 7 7 7 7 7 7 7 7 7 7 7 7 7 7 7 7 7 7 7 7 7 7 7 7 7 7 7 7 7 7 7 7 7 7 7 7 7 7 7 7 7 "
    ++ codes "7 7 7 7 7 7 7 7 7 7 7 7 7 7 7 7 7 7 7 7 7 7 7 7 7 7 7 7 7 7 7 7 7 7 7 7 7 7 7 7 7 7 "
    ++ codes "7 7 7 7 7 7 7 7 7 7 7 7 7 7 7 7 7 7 7 7 7 7 7 7 7 7 7 7 7 7 7 7 7 7 7 7 7 7 7 7 7 7 "
    ++ codes "7 7 7 7 7 7 7 7 7 7 7 7 7 7 7 7 7 7 7 7 7 7 7 7 7 7 7 7 7 7 7 7 7 7 7 7 7 7 7 7 7 7 "
    ++ codes "7 7 7 7 7 7 7 7 7 7 7 7 7 7 7 7 7 7 7 7 7 7 7 7 7 7 7 7 7 7 7 7 7 7 7 7 7 7 7 7 7 7 "
    ++ codes "7 7 7 7 7 7 7 7 7 7 7 7 7 7 7 7 7 7 7 7 7 7 7 7 7 7 7 7 7 7 7 7 7 7 7 7 7 7 7 7 7 7 "
    ++ codes "7 7 7 7 7 7 7 7 7 7 7 7 7 7 7 7 7 7 7 7 7 7 7 7 7 7 7 7 7 7 7 7 7 7 7 7 7 7 7 7 7 7 "
    ++ codes "7 7 7 7 7 7 7 7 7 7 7 7 7 7 7 7 7 7 7 7 7 7 7 7 7 7 7 7 7 7 7 7 7 7 7 7 7 7 7 7 7 7 "
    ++ codes "7 7 7 7 7 7 7 7 7 7 7 7 7 7 7 7 7 7 7 7 7 7 7 7 7 7 7 7 7 7 7 7 7 7 7 7 7 7 7 7 7 7 "
    ++ codes "7 7 7 7 7 7 7 7 7 7 7 7 7 7 7 7 7 7 7 7 7 7 7 7 7 7 7 7 7 7 7 7 7 7 7 7 7 7 7 7 7 7 "
    ++ codes "7 7 7 7 7 7 7 7 7 7 7 7 7 7 7 7 7 7 7 7 7 7 7 7 7 7 7 7 7 7 7 7 7 7 7 7 7 7 7 7 7 7 "
    ++ codes "7 7 7 7 7 7 7 7 7 7 7 7 7 7 7 7 7 7 7 7 7 7 x\n")
    (codes "refused 8 Limit\n")

-- numbers of values: 0 write 1 0{ 7*1023} x
abbrev pub Row_318_5 : Type 0
Row_318_5 =
    Refuses commands.Replay
    (text_before_session
    ++ codes "0 write 1 0 7 7 7 7 7 7 7 7 7 7 7 7 7 7 7 7 7 7 7 7 7 7 7 7 7 7 7 7 7 7 7 7 7 7 7 7 "
    ++ codes "7 7 7 7 7 7 7 7 7 7 7 7 7 7 7 7 7 7 7 7 7 7 7 7 7 7 7 7 7 7 7 7 7 7 7 7 7 7 7 7 7 7 "
    ++ codes "7 7 7 7 7 7 7 7 7 7 7 7 7 7 7 7 7 7 7 7 7 7 7 7 7 7 7 7 7 7 7 7 7 7 7 7 7 7 7 7 7 7 "
    ++ codes "7 7 7 7 7 7 7 7 7 7 7 7 7 7 7 7 7 7 7 7 7 7 7 7 7 7 7 7 7 7 7 7 7 7 7 7 7 7 7 7 7 7 "
    ++ codes "7 7 7 7 7 7 7 7 7 7 7 7 7 7 7 7 7 7 7 7 7 7 7 7 7 7 7 7 7 7 7 7 7 7 7 7 7 7 7 7 7 7 "
    ++ codes "7 7 7 7 7 7 7 7 7 7 7 7 7 7 7 7 7 7 7 7 7 7 7 7 7 7 7 7 7 7 7 7 7 7 7 7 7 7 7 7 7 7 "
    ++ codes "7 7 7 7 7 7 7 7 7 7 7 7 7 7 7 7 7 7 7 7 7 7 7 7 7 7 7 7 7 7 7 7 7 7 7 7 7 7 7 7 7 7 "
    ++ codes "7 7 7 7 7 7 7 7 7 7 7 7 7 7 7 7 7 7 7 7 7 7 7 7 7 7 7 7 7 7 7 7 7 7 7 7 7 7 7 7 7 7 "
    ++ codes "7 7 7 7 7 7 7 7 7 7 7 7 7 7 7 7 7 7 7 7 7 7 7 7 7 7 7 7 7 7 7 7 7 7 7 7 7 7 7 7 7 7 "
    ++ codes "7 7 7 7 7 7 7 7 7 7 7 7 7 7 7 7 7 7 7 7 7 7 7 7 7 7 7 7 7 7 7 7 7 7 7 7 7 7 7 7 7 7 "
    ++ codes "7 7 7 7 7 7 7 7 7 7 7 7 7 7 7 7 7 7 7 7 7 7 7 7 7 7 7 7 7 7 7 7 7 7 7 7 7 7 7 7 7 7 "
    ++ codes "7 7 7 7 7 7 7 7 7 7 7 7 7 7 7 7 7 7 7 7 7 7 7 7 7 7 7 7 7 7 7 7 7 7 7 7 7 7 7 7 7 7 "
    ++ codes "7 7 7 7 7 7 7 7 7 7 7 7 7 7 7 7 7 7 7 7 7 7 7 7 7 7 7 7 7 7 7 7 7 7 7 7 7 7 7 7 7 7 "
    ++ codes "7 7 7 7 7 7 7 7 7 7 7 7 7 7 7 7 7 7 7 7 7 7 7 7 7 7 7 7 7 7 7 7 7 7 7 7 7 7 7 7 7 7 "
    ++ codes "7 7 7 7 7 7 7 7 7 7 7 7 7 7 7 7 7 7 7 7 7 7 7 7 7 7 7 7 7 7 7 7 7 7 7 7 7 7 7 7 7 7 "
    ++ codes "7 7 7 7 7 7 7 7 7 7 7 7 7 7 7 7 7 7 7 7 7 7 7 7 7 7 7 7 7 7 7 7 7 7 7 7 7 7 7 7 7 7 "
    ++ codes "7 7 7 7 7 7 7 7 7 7 7 7 7 7 7 7 7 7 7 7 7 7 7 7 7 7 7 7 7 7 7 7 7 7 7 7 7 7 7 7 7 7 "
    ++ codes "7 7 7 7 7 7 7 7 7 7 7 7 7 7 7 7 7 7 7 7 7 7 7 7 7 7 7 7 7 7 7 7 7 7 7 7 7 7 7 7 7 7 "
    ++ codes "7 7 7 7 7 7 7 7 7 7 7 7 7 7 7 7 7 7 7 7 7 7 7 7 7 7 7 7 7 7 7 7 7 7 7 7 7 7 7 7 7 7 "
    ++ codes "7 7 7 7 7 7 7 7 7 7 7 7 7 7 7 7 7 7 7 7 7 7 7 7 7 7 7 7 7 7 7 7 7 7 7 7 7 7 7 7 7 7 "
    ++ codes "7 7 7 7 7 7 7 7 7 7 7 7 7 7 7 7 7 7 7 7 7 7 7 7 7 7 7 7 7 7 7 7 7 7 7 7 7 7 7 7 7 7 "
    ++ codes "7 7 7 7 7 7 7 7 7 7 7 7 7 7 7 7 7 7 7 7 7 7 7 7 7 7 7 7 7 7 7 7 7 7 7 7 7 7 7 7 7 7 "
    ++ codes "7 7 7 7 7 7 7 7 7 7 7 7 7 7 7 7 7 7 7 7 7 7 7 7 7 7 7 7 7 7 7 7 7 7 7 7 7 7 7 7 7 7 "
    ++ codes "7 7 7 7 7 7 7 7 7 7 7 7 7 7 7 7 7 7 7 7 7 7 7 7 7 7 7 7 7 7 7 7 7 7 7 7 7 7 7 7 7 7 "
    ++ codes "7 7 7 7 7 7 7 7 7 7 7 7 7 7 7 7 7 7 7 7 7 x\n")
    (codes "refused 8 BadNumber\n")

-- numbers of values: 0 write 1 0 x{ 7*1024} 7
abbrev pub Row_318_6 : Type 0
Row_318_6 =
    Refuses commands.Replay
    (text_before_session
    ++ codes "0 write 1 0 x 7 7 7 7 7 7 7 7 7 7 7 7 7 7 7 7 7 7 7 7 7 7 7 7 7 7 7 7 7 7 7 7 7 7 7 "
    ++ codes "7 7 7 7 7 7 7 7 7 7 7 7 7 7 7 7 7 7 7 7 7 7 7 7 7 7 7 7 7 7 7 7 7 7 7 7 7 7 7 7 7 7 "
    ++ codes "7 7 7 7 7 7 7 7 7 7 7 7 7 7 7 7 7 7 7 7 7 7 7 7 7 7 7 7 7 7 7 7 7 7 7 7 7 7 7 7 7 7 "
    ++ codes "7 7 7 7 7 7 7 7 7 7 7 7 7 7 7 7 7 7 7 7 7 7 7 7 7 7 7 7 7 7 7 7 7 7 7 7 7 7 7 7 7 7 "
    ++ codes "7 7 7 7 7 7 7 7 7 7 7 7 7 7 7 7 7 7 7 7 7 7 7 7 7 7 7 7 7 7 7 7 7 7 7 7 7 7 7 7 7 7 "
    ++ codes "7 7 7 7 7 7 7 7 7 7 7 7 7 7 7 7 7 7 7 7 7 7 7 7 7 7 7 7 7 7 7 7 7 7 7 7 7 7 7 7 7 7 "
    ++ codes "7 7 7 7 7 7 7 7 7 7 7 7 7 7 7 7 7 7 7 7 7 7 7 7 7 7 7 7 7 7 7 7 7 7 7 7 7 7 7 7 7 7 "
    ++ codes "7 7 7 7 7 7 7 7 7 7 7 7 7 7 7 7 7 7 7 7 7 7 7 7 7 7 7 7 7 7 7 7 7 7 7 7 7 7 7 7 7 7 "
    ++ codes "7 7 7 7 7 7 7 7 7 7 7 7 7 7 7 7 7 7 7 7 7 7 7 7 7 7 7 7 7 7 7 7 7 7 7 7 7 7 7 7 7 7 "
    ++ codes "7 7 7 7 7 7 7 7 7 7 7 7 7 7 7 7 7 7 7 7 7 7 7 7 7 7 7 7 7 7 7 7 7 7 7 7 7 7 7 7 7 7 "
    ++ codes "7 7 7 7 7 7 7 7 7 7 7 7 7 7 7 7 7 7 7 7 7 7 7 7 7 7 7 7 7 7 7 7 7 7 7 7 7 7 7 7 7 7 "
    ++ codes "7 7 7 7 7 7 7 7 7 7 7 7 7 7 7 7 7 7 7 7 7 7 7 7 7 7 7 7 7 7 7 7 7 7 7 7 7 7 7 7 7 7 "
    ++ codes "7 7 7 7 7 7 7 7 7 7 7 7 7 7 7 7 7 7 7 7 7 7 7 7 7 7 7 7 7 7 7 7 7 7 7 7 7 7 7 7 7 7 "
    ++ codes "7 7 7 7 7 7 7 7 7 7 7 7 7 7 7 7 7 7 7 7 7 7 7 7 7 7 7 7 7 7 7 7 7 7 7 7 7 7 7 7 7 7 "
    ++ codes "7 7 7 7 7 7 7 7 7 7 7 7 7 7 7 7 7 7 7 7 7 7 7 7 7 7 7 7 7 7 7 7 7 7 7 7 7 7 7 7 7 7 "
    ++ codes "7 7 7 7 7 7 7 7 7 7 7 7 7 7 7 7 7 7 7 7 7 7 7 7 7 7 7 7 7 7 7 7 7 7 7 7 7 7 7 7 7 7 "
    ++ codes "7 7 7 7 7 7 7 7 7 7 7 7 7 7 7 7 7 7 7 7 7 7 7 7 7 7 7 7 7 7 7 7 7 7 7 7 7 7 7 7 7 7 "
    ++ codes "7 7 7 7 7 7 7 7 7 7 7 7 7 7 7 7 7 7 7 7 7 7 7 7 7 7 7 7 7 7 7 7 7 7 7 7 7 7 7 7 7 7 "
    ++ codes "7 7 7 7 7 7 7 7 7 7 7 7 7 7 7 7 7 7 7 7 7 7 7 7 7 7 7 7 7 7 7 7 7 7 7 7 7 7 7 7 7 7 "
    ++ codes "7 7 7 7 7 7 7 7 7 7 7 7 7 7 7 7 7 7 7 7 7 7 7 7 7 7 7 7 7 7 7 7 7 7 7 7 7 7 7 7 7 7 "
    ++ codes "7 7 7 7 7 7 7 7 7 7 7 7 7 7 7 7 7 7 7 7 7 7 7 7 7 7 7 7 7 7 7 7 7 7 7 7 7 7 7 7 7 7 "
    ++ codes "7 7 7 7 7 7 7 7 7 7 7 7 7 7 7 7 7 7 7 7 7 7 7 7 7 7 7 7 7 7 7 7 7 7 7 7 7 7 7 7 7 7 "
    ++ codes "7 7 7 7 7 7 7 7 7 7 7 7 7 7 7 7 7 7 7 7 7 7 7 7 7 7 7 7 7 7 7 7 7 7 7 7 7 7 7 7 7 7 "
    ++ codes "7 7 7 7 7 7 7 7 7 7 7 7 7 7 7 7 7 7 7 7 7 7 7 7 7 7 7 7 7 7 7 7 7 7 7 7 7 7 7 7 7 7 "
    ++ codes "7 7 7 7 7 7 7 7 7 7 7 7 7 7 7 7 7 7 7 7 7 7 7 7\n")
    (codes "refused 8 BadNumber\n")

-- numbers of values: 0 fill 1 0{ 7*1023} 7
abbrev pub Row_318_7 : Type 0
Row_318_7 =
    Answers commands.Replay
    (text_before_session
    ++ codes "0 fill 1 0 7 7 7 7 7 7 7 7 7 7 7 7 7 7 7 7 7 7 7 7 7 7 7 7 7 7 7 7 7 7 7 7 7 7 7 7 7"
    ++ codes " 7 7 7 7 7 7 7 7 7 7 7 7 7 7 7 7 7 7 7 7 7 7 7 7 7 7 7 7 7 7 7 7 7 7 7 7 7 7 7 7 7 7"
    ++ codes " 7 7 7 7 7 7 7 7 7 7 7 7 7 7 7 7 7 7 7 7 7 7 7 7 7 7 7 7 7 7 7 7 7 7 7 7 7 7 7 7 7 7"
    ++ codes " 7 7 7 7 7 7 7 7 7 7 7 7 7 7 7 7 7 7 7 7 7 7 7 7 7 7 7 7 7 7 7 7 7 7 7 7 7 7 7 7 7 7"
    ++ codes " 7 7 7 7 7 7 7 7 7 7 7 7 7 7 7 7 7 7 7 7 7 7 7 7 7 7 7 7 7 7 7 7 7 7 7 7 7 7 7 7 7 7"
    ++ codes " 7 7 7 7 7 7 7 7 7 7 7 7 7 7 7 7 7 7 7 7 7 7 7 7 7 7 7 7 7 7 7 7 7 7 7 7 7 7 7 7 7 7"
    ++ codes " 7 7 7 7 7 7 7 7 7 7 7 7 7 7 7 7 7 7 7 7 7 7 7 7 7 7 7 7 7 7 7 7 7 7 7 7 7 7 7 7 7 7"
    ++ codes " 7 7 7 7 7 7 7 7 7 7 7 7 7 7 7 7 7 7 7 7 7 7 7 7 7 7 7 7 7 7 7 7 7 7 7 7 7 7 7 7 7 7"
    ++ codes " 7 7 7 7 7 7 7 7 7 7 7 7 7 7 7 7 7 7 7 7 7 7 7 7 7 7 7 7 7 7 7 7 7 7 7 7 7 7 7 7 7 7"
    ++ codes " 7 7 7 7 7 7 7 7 7 7 7 7 7 7 7 7 7 7 7 7 7 7 7 7 7 7 7 7 7 7 7 7 7 7 7 7 7 7 7 7 7 7"
    ++ codes " 7 7 7 7 7 7 7 7 7 7 7 7 7 7 7 7 7 7 7 7 7 7 7 7 7 7 7 7 7 7 7 7 7 7 7 7 7 7 7 7 7 7"
    ++ codes " 7 7 7 7 7 7 7 7 7 7 7 7 7 7 7 7 7 7 7 7 7 7 7 7 7 7 7 7 7 7 7 7 7 7 7 7 7 7 7 7 7 7"
    ++ codes " 7 7 7 7 7 7 7 7 7 7 7 7 7 7 7 7 7 7 7 7 7 7 7 7 7 7 7 7 7 7 7 7 7 7 7 7 7 7 7 7 7 7"
    ++ codes " 7 7 7 7 7 7 7 7 7 7 7 7 7 7 7 7 7 7 7 7 7 7 7 7 7 7 7 7 7 7 7 7 7 7 7 7 7 7 7 7 7 7"
    ++ codes " 7 7 7 7 7 7 7 7 7 7 7 7 7 7 7 7 7 7 7 7 7 7 7 7 7 7 7 7 7 7 7 7 7 7 7 7 7 7 7 7 7 7"
    ++ codes " 7 7 7 7 7 7 7 7 7 7 7 7 7 7 7 7 7 7 7 7 7 7 7 7 7 7 7 7 7 7 7 7 7 7 7 7 7 7 7 7 7 7"
    ++ codes " 7 7 7 7 7 7 7 7 7 7 7 7 7 7 7 7 7 7 7 7 7 7 7 7 7 7 7 7 7 7 7 7 7 7 7 7 7 7 7 7 7 7"
    ++ codes " 7 7 7 7 7 7 7 7 7 7 7 7 7 7 7 7 7 7 7 7 7 7 7 7 7 7 7 7 7 7 7 7 7 7 7 7 7 7 7 7 7 7"
    ++ codes " 7 7 7 7 7 7 7 7 7 7 7 7 7 7 7 7 7 7 7 7 7 7 7 7 7 7 7 7 7 7 7 7 7 7 7 7 7 7 7 7 7 7"
    ++ codes " 7 7 7 7 7 7 7 7 7 7 7 7 7 7 7 7 7 7 7 7 7 7 7 7 7 7 7 7 7 7 7 7 7 7 7 7 7 7 7 7 7 7"
    ++ codes " 7 7 7 7 7 7 7 7 7 7 7 7 7 7 7 7 7 7 7 7 7 7 7 7 7 7 7 7 7 7 7 7 7 7 7 7 7 7 7 7 7 7"
    ++ codes " 7 7 7 7 7 7 7 7 7 7 7 7 7 7 7 7 7 7 7 7 7 7 7 7 7 7 7 7 7 7 7 7 7 7 7 7 7 7 7 7 7 7"
    ++ codes " 7 7 7 7 7 7 7 7 7 7 7 7 7 7 7 7 7 7 7 7 7 7 7 7 7 7 7 7 7 7 7 7 7 7 7 7 7 7 7 7 7 7"
    ++ codes " 7 7 7 7 7 7 7 7 7 7 7 7 7 7 7 7 7 7 7 7 7 7 7 7 7 7 7 7 7 7 7 7 7 7 7 7 7 7 7 7 7 7"
    ++ codes " 7 7 7 7 7 7 7 7 7 7 7 7 7 7 7 7 7 7 7 7 7\n")
    (codes "err 22\n")

-- numbers of values: 0 fill 1 0{ 7*1024} 7
abbrev pub Row_318_8 : Type 0
Row_318_8 =
    Refuses commands.Replay
    (text_before_session
    ++ codes "0 fill 1 0 7 7 7 7 7 7 7 7 7 7 7 7 7 7 7 7 7 7 7 7 7 7 7 7 7 7 7 7 7 7 7 7 7 7 7 7 7"
    ++ codes " 7 7 7 7 7 7 7 7 7 7 7 7 7 7 7 7 7 7 7 7 7 7 7 7 7 7 7 7 7 7 7 7 7 7 7 7 7 7 7 7 7 7"
    ++ codes " 7 7 7 7 7 7 7 7 7 7 7 7 7 7 7 7 7 7 7 7 7 7 7 7 7 7 7 7 7 7 7 7 7 7 7 7 7 7 7 7 7 7"
    ++ codes " 7 7 7 7 7 7 7 7 7 7 7 7 7 7 7 7 7 7 7 7 7 7 7 7 7 7 7 7 7 7 7 7 7 7 7 7 7 7 7 7 7 7"
    ++ codes " 7 7 7 7 7 7 7 7 7 7 7 7 7 7 7 7 7 7 7 7 7 7 7 7 7 7 7 7 7 7 7 7 7 7 7 7 7 7 7 7 7 7"
    ++ codes " 7 7 7 7 7 7 7 7 7 7 7 7 7 7 7 7 7 7 7 7 7 7 7 7 7 7 7 7 7 7 7 7 7 7 7 7 7 7 7 7 7 7"
    ++ codes " 7 7 7 7 7 7 7 7 7 7 7 7 7 7 7 7 7 7 7 7 7 7 7 7 7 7 7 7 7 7 7 7 7 7 7 7 7 7 7 7 7 7"
    ++ codes " 7 7 7 7 7 7 7 7 7 7 7 7 7 7 7 7 7 7 7 7 7 7 7 7 7 7 7 7 7 7 7 7 7 7 7 7 7 7 7 7 7 7"
    ++ codes " 7 7 7 7 7 7 7 7 7 7 7 7 7 7 7 7 7 7 7 7 7 7 7 7 7 7 7 7 7 7 7 7 7 7 7 7 7 7 7 7 7 7"
    ++ codes " 7 7 7 7 7 7 7 7 7 7 7 7 7 7 7 7 7 7 7 7 7 7 7 7 7 7 7 7 7 7 7 7 7 7 7 7 7 7 7 7 7 7"
    ++ codes " 7 7 7 7 7 7 7 7 7 7 7 7 7 7 7 7 7 7 7 7 7 7 7 7 7 7 7 7 7 7 7 7 7 7 7 7 7 7 7 7 7 7"
    ++ codes " 7 7 7 7 7 7 7 7 7 7 7 7 7 7 7 7 7 7 7 7 7 7 7 7 7 7 7 7 7 7 7 7 7 7 7 7 7 7 7 7 7 7"
    ++ codes " 7 7 7 7 7 7 7 7 7 7 7 7 7 7 7 7 7 7 7 7 7 7 7 7 7 7 7 7 7 7 7 7 7 7 7 7 7 7 7 7 7 7"
    ++ codes " 7 7 7 7 7 7 7 7 7 7 7 7 7 7 7 7 7 7 7 7 7 7 7 7 7 7 7 7 7 7 7 7 7 7 7 7 7 7 7 7 7 7"
    ++ codes " 7 7 7 7 7 7 7 7 7 7 7 7 7 7 7 7 7 7 7 7 7 7 7 7 7 7 7 7 7 7 7 7 7 7 7 7 7 7 7 7 7 7"
    ++ codes " 7 7 7 7 7 7 7 7 7 7 7 7 7 7 7 7 7 7 7 7 7 7 7 7 7 7 7 7 7 7 7 7 7 7 7 7 7 7 7 7 7 7"
    ++ codes " 7 7 7 7 7 7 7 7 7 7 7 7 7 7 7 7 7 7 7 7 7 7 7 7 7 7 7 7 7 7 7 7 7 7 7 7 7 7 7 7 7 7"
    ++ codes " 7 7 7 7 7 7 7 7 7 7 7 7 7 7 7 7 7 7 7 7 7 7 7 7 7 7 7 7 7 7 7 7 7 7 7 7 7 7 7 7 7 7"
    ++ codes " 7 7 7 7 7 7 7 7 7 7 7 7 7 7 7 7 7 7 7 7 7 7 7 7 7 7 7 7 7 7 7 7 7 7 7 7 7 7 7 7 7 7"
    ++ codes " 7 7 7 7 7 7 7 7 7 7 7 7 7 7 7 7 7 7 7 7 7 7 7 7 7 7 7 7 7 7 7 7 7 7 7 7 7 7 7 7 7 7"
    ++ codes " 7 7 7 7 7 7 7 7 7 7 7 7 7 7 7 7 7 7 7 7 7 7 7 7 7 7 7 7 7 7 7 7 7 7 7 7 7 7 7 7 7 7"
    ++ codes " 7 7 7 7 7 7 7 7 7 7 7 7 7 7 7 7 7 7 7 7 7 7 7 7 7 7 7 7 7 7 7 7 7 7 7 7 7 7 7 7 7 7"
    ++ codes " 7 7 7 7 7 7 7 7 7 7 7 7 7 7 7 7 7 7 7 7 7 7 7 7 7 7 7 7 7 7 7 7 7 7 7 7 7 7 7 7 7 7"
    ++ codes " 7 7 7 7 7 7 7 7 7 7 7 7 7 7 7 7 7 7 7 7 7 7 7 7 7 7 7 7 7 7 7 7 7 7 7 7 7 7 7 7 7 7"
    ++ codes " 7 7 7 7 7 7 7 7 7 7 7 7 7 7 7 7 7 7 7 7 7 7\n")
    (codes "refused 8 Limit\n")

-- numbers of values: 0 fill 1 0{ 7*1024} x
abbrev pub Row_318_9 : Type 0
Row_318_9 =
    Refuses commands.Replay
    (text_before_session
    ++ codes "0 fill 1 0 7 7 7 7 7 7 7 7 7 7 7 7 7 7 7 7 7 7 7 7 7 7 7 7 7 7 7 7 7 7 7 7 7 7 7 7 7"
    ++ codes " 7 7 7 7 7 7 7 7 7 7 7 7 7 7 7 7 7 7 7 7 7 7 7 7 7 7 7 7 7 7 7 7 7 7 7 7 7 7 7 7 7 7"
    ++ codes " 7 7 7 7 7 7 7 7 7 7 7 7 7 7 7 7 7 7 7 7 7 7 7 7 7 7 7 7 7 7 7 7 7 7 7 7 7 7 7 7 7 7"
    ++ codes " 7 7 7 7 7 7 7 7 7 7 7 7 7 7 7 7 7 7 7 7 7 7 7 7 7 7 7 7 7 7 7 7 7 7 7 7 7 7 7 7 7 7"
    ++ codes " 7 7 7 7 7 7 7 7 7 7 7 7 7 7 7 7 7 7 7 7 7 7 7 7 7 7 7 7 7 7 7 7 7 7 7 7 7 7 7 7 7 7"
    ++ codes " 7 7 7 7 7 7 7 7 7 7 7 7 7 7 7 7 7 7 7 7 7 7 7 7 7 7 7 7 7 7 7 7 7 7 7 7 7 7 7 7 7 7"
    ++ codes " 7 7 7 7 7 7 7 7 7 7 7 7 7 7 7 7 7 7 7 7 7 7 7 7 7 7 7 7 7 7 7 7 7 7 7 7 7 7 7 7 7 7"
    ++ codes " 7 7 7 7 7 7 7 7 7 7 7 7 7 7 7 7 7 7 7 7 7 7 7 7 7 7 7 7 7 7 7 7 7 7 7 7 7 7 7 7 7 7"
    ++ codes " 7 7 7 7 7 7 7 7 7 7 7 7 7 7 7 7 7 7 7 7 7 7 7 7 7 7 7 7 7 7 7 7 7 7 7 7 7 7 7 7 7 7"
    ++ codes " 7 7 7 7 7 7 7 7 7 7 7 7 7 7 7 7 7 7 7 7 7 7 7 7 7 7 7 7 7 7 7 7 7 7 7 7 7 7 7 7 7 7"
    ++ codes " 7 7 7 7 7 7 7 7 7 7 7 7 7 7 7 7 7 7 7 7 7 7 7 7 7 7 7 7 7 7 7 7 7 7 7 7 7 7 7 7 7 7"
    ++ codes " 7 7 7 7 7 7 7 7 7 7 7 7 7 7 7 7 7 7 7 7 7 7 7 7 7 7 7 7 7 7 7 7 7 7 7 7 7 7 7 7 7 7"
    ++ codes " 7 7 7 7 7 7 7 7 7 7 7 7 7 7 7 7 7 7 7 7 7 7 7 7 7 7 7 7 7 7 7 7 7 7 7 7 7 7 7 7 7 7"
    ++ codes " 7 7 7 7 7 7 7 7 7 7 7 7 7 7 7 7 7 7 7 7 7 7 7 7 7 7 7 7 7 7 7 7 7 7 7 7 7 7 7 7 7 7"
    ++ codes " 7 7 7 7 7 7 7 7 7 7 7 7 7 7 7 7 7 7 7 7 7 7 7 7 7 7 7 7 7 7 7 7 7 7 7 7 7 7 7 7 7 7"
    ++ codes " 7 7 7 7 7 7 7 7 7 7 7 7 7 7 7 7 7 7 7 7 7 7 7 7 7 7 7 7 7 7 7 7 7 7 7 7 7 7 7 7 7 7"
    ++ codes " 7 7 7 7 7 7 7 7 7 7 7 7 7 7 7 7 7 7 7 7 7 7 7 7 7 7 7 7 7 7 7 7 7 7 7 7 7 7 7 7 7 7"
    ++ codes " 7 7 7 7 7 7 7 7 7 7 7 7 7 7 7 7 7 7 7 7 7 7 7 7 7 7 7 7 7 7 7 7 7 7 7 7 7 7 7 7 7 7"
    ++ codes " 7 7 7 7 7 7 7 7 7 7 7 7 7 7 7 7 7 7 7 7 7 7 7 7 7 7 7 7 7 7 7 7 7 7 7 7 7 7 7 7 7 7"
    ++ codes " 7 7 7 7 7 7 7 7 7 7 7 7 7 7 7 7 7 7 7 7 7 7 7 7 7 7 7 7 7 7 7 7 7 7 7 7 7 7 7 7 7 7"
    ++ codes " 7 7 7 7 7 7 7 7 7 7 7 7 7 7 7 7 7 7 7 7 7 7 7 7 7 7 7 7 7 7 7 7 7 7 7 7 7 7 7 7 7 7"
    ++ codes " 7 7 7 7 7 7 7 7 7 7 7 7 7 7 7 7 7 7 7 7 7 7 7 7 7 7 7 7 7 7 7 7 7 7 7 7 7 7 7 7 7 7"
    ++ codes " 7 7 7 7 7 7 7 7 7 7 7 7 7 7 7 7 7 7 7 7 7 7 7 7 7 7 7 7 7 7 7 7 7 7 7 7 7 7 7 7 7 7"
    ++ codes " 7 7 7 7 7 7 7 7 7 7 7 7 7 7 7 7 7 7 7 7 7 7 7 7 7 7 7 7 7 7 7 7 7 7 7 7 7 7 7 7 7 7"
    ++ codes " 7 7 7 7 7 7 7 7 7 7 7 7 7 7 7 7 7 7 7 7 7 x\n")
    (codes "refused 8 Limit\n")

-- numbers of values: 0 fill 1 0 x{ 7*1024} 7
abbrev pub Row_318_10 : Type 0
Row_318_10 =
    Refuses commands.Replay
    (text_before_session
    ++ codes "0 fill 1 0 x 7 7 7 7 7 7 7 7 7 7 7 7 7 7 7 7 7 7 7 7 7 7 7 7 7 7 7 7 7 7 7 7 7 7 7 7"
    ++ codes " 7 7 7 7 7 7 7 7 7 7 7 7 7 7 7 7 7 7 7 7 7 7 7 7 7 7 7 7 7 7 7 7 7 7 7 7 7 7 7 7 7 7"
    ++ codes " 7 7 7 7 7 7 7 7 7 7 7 7 7 7 7 7 7 7 7 7 7 7 7 7 7 7 7 7 7 7 7 7 7 7 7 7 7 7 7 7 7 7"
    ++ codes " 7 7 7 7 7 7 7 7 7 7 7 7 7 7 7 7 7 7 7 7 7 7 7 7 7 7 7 7 7 7 7 7 7 7 7 7 7 7 7 7 7 7"
    ++ codes " 7 7 7 7 7 7 7 7 7 7 7 7 7 7 7 7 7 7 7 7 7 7 7 7 7 7 7 7 7 7 7 7 7 7 7 7 7 7 7 7 7 7"
    ++ codes " 7 7 7 7 7 7 7 7 7 7 7 7 7 7 7 7 7 7 7 7 7 7 7 7 7 7 7 7 7 7 7 7 7 7 7 7 7 7 7 7 7 7"
    ++ codes " 7 7 7 7 7 7 7 7 7 7 7 7 7 7 7 7 7 7 7 7 7 7 7 7 7 7 7 7 7 7 7 7 7 7 7 7 7 7 7 7 7 7"
    ++ codes " 7 7 7 7 7 7 7 7 7 7 7 7 7 7 7 7 7 7 7 7 7 7 7 7 7 7 7 7 7 7 7 7 7 7 7 7 7 7 7 7 7 7"
    ++ codes " 7 7 7 7 7 7 7 7 7 7 7 7 7 7 7 7 7 7 7 7 7 7 7 7 7 7 7 7 7 7 7 7 7 7 7 7 7 7 7 7 7 7"
    ++ codes " 7 7 7 7 7 7 7 7 7 7 7 7 7 7 7 7 7 7 7 7 7 7 7 7 7 7 7 7 7 7 7 7 7 7 7 7 7 7 7 7 7 7"
    ++ codes " 7 7 7 7 7 7 7 7 7 7 7 7 7 7 7 7 7 7 7 7 7 7 7 7 7 7 7 7 7 7 7 7 7 7 7 7 7 7 7 7 7 7"
    ++ codes " 7 7 7 7 7 7 7 7 7 7 7 7 7 7 7 7 7 7 7 7 7 7 7 7 7 7 7 7 7 7 7 7 7 7 7 7 7 7 7 7 7 7"
    ++ codes " 7 7 7 7 7 7 7 7 7 7 7 7 7 7 7 7 7 7 7 7 7 7 7 7 7 7 7 7 7 7 7 7 7 7 7 7 7 7 7 7 7 7"
    ++ codes " 7 7 7 7 7 7 7 7 7 7 7 7 7 7 7 7 7 7 7 7 7 7 7 7 7 7 7 7 7 7 7 7 7 7 7 7 7 7 7 7 7 7"
    ++ codes " 7 7 7 7 7 7 7 7 7 7 7 7 7 7 7 7 7 7 7 7 7 7 7 7 7 7 7 7 7 7 7 7 7 7 7 7 7 7 7 7 7 7"
    ++ codes " 7 7 7 7 7 7 7 7 7 7 7 7 7 7 7 7 7 7 7 7 7 7 7 7 7 7 7 7 7 7 7 7 7 7 7 7 7 7 7 7 7 7"
    ++ codes " 7 7 7 7 7 7 7 7 7 7 7 7 7 7 7 7 7 7 7 7 7 7 7 7 7 7 7 7 7 7 7 7 7 7 7 7 7 7 7 7 7 7"
    ++ codes " 7 7 7 7 7 7 7 7 7 7 7 7 7 7 7 7 7 7 7 7 7 7 7 7 7 7 7 7 7 7 7 7 7 7 7 7 7 7 7 7 7 7"
    ++ codes " 7 7 7 7 7 7 7 7 7 7 7 7 7 7 7 7 7 7 7 7 7 7 7 7 7 7 7 7 7 7 7 7 7 7 7 7 7 7 7 7 7 7"
    ++ codes " 7 7 7 7 7 7 7 7 7 7 7 7 7 7 7 7 7 7 7 7 7 7 7 7 7 7 7 7 7 7 7 7 7 7 7 7 7 7 7 7 7 7"
    ++ codes " 7 7 7 7 7 7 7 7 7 7 7 7 7 7 7 7 7 7 7 7 7 7 7 7 7 7 7 7 7 7 7 7 7 7 7 7 7 7 7 7 7 7"
    ++ codes " 7 7 7 7 7 7 7 7 7 7 7 7 7 7 7 7 7 7 7 7 7 7 7 7 7 7 7 7 7 7 7 7 7 7 7 7 7 7 7 7 7 7"
    ++ codes " 7 7 7 7 7 7 7 7 7 7 7 7 7 7 7 7 7 7 7 7 7 7 7 7 7 7 7 7 7 7 7 7 7 7 7 7 7 7 7 7 7 7"
    ++ codes " 7 7 7 7 7 7 7 7 7 7 7 7 7 7 7 7 7 7 7 7 7 7 7 7 7 7 7 7 7 7 7 7 7 7 7 7 7 7 7 7 7 7"
    ++ codes " 7 7 7 7 7 7 7 7 7 7 7 7 7 7 7 7 7 7 7 7 7 7 7\n")
    (codes "refused 8 BadNumber\n")

-- numbers of values: 0 insn 1 0 write 0/0/ground{ 7*63} 7
abbrev pub Row_318_11 : Type 0
Row_318_11 =
    Answers commands.Replay
    (text_before_session
    ++ codes "0 insn 1 0 write 0/0/ground 7 7 7 7 7 7 7 7 7 7 7 7 7 7 7 7 7 7 7 7 7 7 7 7 7 7 7 7 "
    ++ codes "7 7 7 7 7 7 7 7 7 7 7 7 7 7 7 7 7 7 7 7 7 7 7 7 7 7 7 7 7 7 7 7 7 7 7 7\n")
    (codes "err 22\n")

-- numbers of values: 0 insn 1 0 write 0/0/ground{ 7*64} 7
abbrev pub Row_318_12 : Type 0
Row_318_12 =
    Refuses commands.Replay
    (text_before_session
    ++ codes "0 insn 1 0 write 0/0/ground 7 7 7 7 7 7 7 7 7 7 7 7 7 7 7 7 7 7 7 7 7 7 7 7 7 7 7 7 "
    ++ codes "7 7 7 7 7 7 7 7 7 7 7 7 7 7 7 7 7 7 7 7 7 7 7 7 7 7 7 7 7 7 7 7 7 7 7 7 7\n")
    (codes "refused 8 Limit\n")

-- numbers of values: 0 insn 1 0 write 0/0/ground{ 7*64} x
abbrev pub Row_318_13 : Type 0
Row_318_13 =
    Refuses commands.Replay
    (text_before_session
    ++ codes "0 insn 1 0 write 0/0/ground 7 7 7 7 7 7 7 7 7 7 7 7 7 7 7 7 7 7 7 7 7 7 7 7 7 7 7 7 "
    ++ codes "7 7 7 7 7 7 7 7 7 7 7 7 7 7 7 7 7 7 7 7 7 7 7 7 7 7 7 7 7 7 7 7 7 7 7 7 x\n")
    (codes "refused 8 Limit\n")

-- numbers of values: 0 insn 1 0 write 0/0/ground x{ 7*64} 7
abbrev pub Row_318_14 : Type 0
Row_318_14 =
    Refuses commands.Replay
    (text_before_session
    ++ codes "0 insn 1 0 write 0/0/ground x 7 7 7 7 7 7 7 7 7 7 7 7 7 7 7 7 7 7 7 7 7 7 7 7 7 7 7 "
    ++ codes "7 7 7 7 7 7 7 7 7 7 7 7 7 7 7 7 7 7 7 7 7 7 7 7 7 7 7 7 7 7 7 7 7 7 7 7 7 7\n")
    (codes "refused 8 BadNumber\n")

-- lines of runs: {one*16}
abbrev pub Row_387_2 : Type 0
Row_387_2 =
    Accepts commands.Run
    (text_before_run
    ++ codes "go paced copy 0 all 0 0 now:0 timer:1000 now:0 count:1 count:1 0/0/ground\n"
    ++ codes "go paced copy 0 all 0 0 now:0 timer:1000 now:0 count:1 count:1 0/0/ground\n"
    ++ codes "go paced copy 0 all 0 0 now:0 timer:1000 now:0 count:1 count:1 0/0/ground\n"
    ++ codes "go paced copy 0 all 0 0 now:0 timer:1000 now:0 count:1 count:1 0/0/ground\n"
    ++ codes "go paced copy 0 all 0 0 now:0 timer:1000 now:0 count:1 count:1 0/0/ground\n"
    ++ codes "go paced copy 0 all 0 0 now:0 timer:1000 now:0 count:1 count:1 0/0/ground\n"
    ++ codes "go paced copy 0 all 0 0 now:0 timer:1000 now:0 count:1 count:1 0/0/ground\n"
    ++ codes "go paced copy 0 all 0 0 now:0 timer:1000 now:0 count:1 count:1 0/0/ground\n"
    ++ codes "go paced copy 0 all 0 0 now:0 timer:1000 now:0 count:1 count:1 0/0/ground\n"
    ++ codes "go paced copy 0 all 0 0 now:0 timer:1000 now:0 count:1 count:1 0/0/ground\n"
    ++ codes "go paced copy 0 all 0 0 now:0 timer:1000 now:0 count:1 count:1 0/0/ground\n"
    ++ codes "go paced copy 0 all 0 0 now:0 timer:1000 now:0 count:1 count:1 0/0/ground\n"
    ++ codes "go paced copy 0 all 0 0 now:0 timer:1000 now:0 count:1 count:1 0/0/ground\n"
    ++ codes "go paced copy 0 all 0 0 now:0 timer:1000 now:0 count:1 count:1 0/0/ground\n"
    ++ codes "go paced copy 0 all 0 0 now:0 timer:1000 now:0 count:1 count:1 0/0/ground\n"
    ++ codes "go paced copy 0 all 0 0 now:0 timer:1000 now:0 count:1 count:1 0/0/ground\n"
    ++ codes "\n")

-- lines of runs: {one*17}
abbrev pub Row_387_3 : Type 0
Row_387_3 =
    Refuses commands.Run
    (text_before_run
    ++ codes "go paced copy 0 all 0 0 now:0 timer:1000 now:0 count:1 count:1 0/0/ground\n"
    ++ codes "go paced copy 0 all 0 0 now:0 timer:1000 now:0 count:1 count:1 0/0/ground\n"
    ++ codes "go paced copy 0 all 0 0 now:0 timer:1000 now:0 count:1 count:1 0/0/ground\n"
    ++ codes "go paced copy 0 all 0 0 now:0 timer:1000 now:0 count:1 count:1 0/0/ground\n"
    ++ codes "go paced copy 0 all 0 0 now:0 timer:1000 now:0 count:1 count:1 0/0/ground\n"
    ++ codes "go paced copy 0 all 0 0 now:0 timer:1000 now:0 count:1 count:1 0/0/ground\n"
    ++ codes "go paced copy 0 all 0 0 now:0 timer:1000 now:0 count:1 count:1 0/0/ground\n"
    ++ codes "go paced copy 0 all 0 0 now:0 timer:1000 now:0 count:1 count:1 0/0/ground\n"
    ++ codes "go paced copy 0 all 0 0 now:0 timer:1000 now:0 count:1 count:1 0/0/ground\n"
    ++ codes "go paced copy 0 all 0 0 now:0 timer:1000 now:0 count:1 count:1 0/0/ground\n"
    ++ codes "go paced copy 0 all 0 0 now:0 timer:1000 now:0 count:1 count:1 0/0/ground\n"
    ++ codes "go paced copy 0 all 0 0 now:0 timer:1000 now:0 count:1 count:1 0/0/ground\n"
    ++ codes "go paced copy 0 all 0 0 now:0 timer:1000 now:0 count:1 count:1 0/0/ground\n"
    ++ codes "go paced copy 0 all 0 0 now:0 timer:1000 now:0 count:1 count:1 0/0/ground\n"
    ++ codes "go paced copy 0 all 0 0 now:0 timer:1000 now:0 count:1 count:1 0/0/ground\n"
    ++ codes "go paced copy 0 all 0 0 now:0 timer:1000 now:0 count:1 count:1 0/0/ground\n"
    ++ codes "go paced copy 0 all 0 0 now:0 timer:1000 now:0 count:1 count:1 0/0/ground\n"
    ++ codes "\n")
    (codes "refused 43 Limit\n")

-- lines of runs: {one*16}drive 0 x 0 0 now:0 timer:1 now:0 count:1 count:1 0/
abbrev pub Row_387_4 : Type 0
Row_387_4 =
    Refuses commands.Run
    (text_before_run
    ++ codes "go paced copy 0 all 0 0 now:0 timer:1000 now:0 count:1 count:1 0/0/ground\n"
    ++ codes "go paced copy 0 all 0 0 now:0 timer:1000 now:0 count:1 count:1 0/0/ground\n"
    ++ codes "go paced copy 0 all 0 0 now:0 timer:1000 now:0 count:1 count:1 0/0/ground\n"
    ++ codes "go paced copy 0 all 0 0 now:0 timer:1000 now:0 count:1 count:1 0/0/ground\n"
    ++ codes "go paced copy 0 all 0 0 now:0 timer:1000 now:0 count:1 count:1 0/0/ground\n"
    ++ codes "go paced copy 0 all 0 0 now:0 timer:1000 now:0 count:1 count:1 0/0/ground\n"
    ++ codes "go paced copy 0 all 0 0 now:0 timer:1000 now:0 count:1 count:1 0/0/ground\n"
    ++ codes "go paced copy 0 all 0 0 now:0 timer:1000 now:0 count:1 count:1 0/0/ground\n"
    ++ codes "go paced copy 0 all 0 0 now:0 timer:1000 now:0 count:1 count:1 0/0/ground\n"
    ++ codes "go paced copy 0 all 0 0 now:0 timer:1000 now:0 count:1 count:1 0/0/ground\n"
    ++ codes "go paced copy 0 all 0 0 now:0 timer:1000 now:0 count:1 count:1 0/0/ground\n"
    ++ codes "go paced copy 0 all 0 0 now:0 timer:1000 now:0 count:1 count:1 0/0/ground\n"
    ++ codes "go paced copy 0 all 0 0 now:0 timer:1000 now:0 count:1 count:1 0/0/ground\n"
    ++ codes "go paced copy 0 all 0 0 now:0 timer:1000 now:0 count:1 count:1 0/0/ground\n"
    ++ codes "go paced copy 0 all 0 0 now:0 timer:1000 now:0 count:1 count:1 0/0/ground\n"
    ++ codes "go paced copy 0 all 0 0 now:0 timer:1000 now:0 count:1 count:1 0/0/ground\n"
    ++ codes "drive 0 x 0 0 now:0 timer:1 now:0 count:1 count:1 0/0/ground\n")
    (codes "refused 43 BadNumber\n")

-- lines of runs: drive 9 4095,0 1 0 now:0 timer:1 now:0 count:1 count:4 1/0/g
abbrev pub Row_387_8 : Type 0
Row_387_8 =
    Answers commands.Run
    (text_before_run
    ++ codes "drive 9 4095,0 1 0 now:0 timer:1 now:0 count:1 count:4 1/0/ground\n"
    ++ codes "drive 9 4095,0 1 0 now:0 timer:1 now:0 count:1 count:4 1/0/ground\n")
    (codes "out 1 9 0 4095\n"
    ++ codes "out 1 10 0 0\n"
    ++ codes "underrun 2\n"
    ++ codes "out 1 9 0 4095\n"
    ++ codes "out 1 10 0 0\n"
    ++ codes "underrun 2\n")

-- lines of runs: drive 0 0,4096 1 0 now:0 timer:1 now:0 count:1 count:1 0/0/g
abbrev pub Row_387_9 : Type 0
Row_387_9 =
    Refuses commands.Run
    (text_before_run
    ++ codes "drive 0 0,4096 1 0 now:0 timer:1 now:0 count:1 count:1 0/0/ground\n")
    (codes "refused 27 Limit\n")

-- lines of runs: drive 0 4096 0 0 now:0 timer:1 now:0 count:1 count:1 0/0/gro
abbrev pub Row_387_10 : Type 0
Row_387_10 =
    Refuses commands.Run
    (text_before_run
    ++ codes "drive 0 4096 0 0 now:0 timer:1 now:0 count:1 count:1 0/0/ground\n")
    (codes "refused 27 Bad\n")

-- lines of runs: go paced copy 0 all 1 0 now:0 timer:1 now:0 count:1 count:1
abbrev pub Row_387_11 : Type 0
Row_387_11 =
    Refuses commands.Run
    (text_before_run
    ++ codes "go paced copy 0 all 1 0 now:0 timer:1 now:0 count:1 count:1 0/0/ground\n")
    (codes "refused 27 Bad\n")

-- lines of runs: go paced copy 0 all 2 0 now:0 timer:1 now:0 count:1 count:1
abbrev pub Row_387_12 : Type 0
Row_387_12 =
    Refuses commands.Run
    (text_before_run
    ++ codes "go paced copy 0 all 2 0 now:0 timer:1 now:0 count:1 count:1 0/0/ground\n")
    (codes "refused 27 Bad\n")

-- lines of runs: go paced copy 0 all 3 0 now:0 timer:1 now:0 count:1 count:1
abbrev pub Row_387_13 : Type 0
Row_387_13 =
    Refuses commands.Run
    (text_before_run
    ++ codes "go paced copy 0 all 3 0 now:0 timer:1 now:0 count:1 count:1 0/0/ground\n")
    (codes "refused 27 Bad\n")

-- lines of runs: go slow read x 0 0 0 now:0 timer:1 now:0 count:1 count:1 0/0
abbrev pub Row_387_14 : Type 0
Row_387_14 =
    Refuses commands.Run
    (text_before_run
    ++ codes "go slow read x 0 0 0 now:0 timer:1 now:0 count:1 count:1 0/0/ground\n")
    (codes "refused 27 Unknown\n")

-- lines of runs: go paced map 1000000 x 0 0 now:0 timer:1 now:0 count:1 count
abbrev pub Row_387_15 : Type 0
Row_387_15 =
    Refuses commands.Run
    (text_before_run
    ++ codes "go paced map 1000000 x 0 0 now:0 timer:1 now:0 count:1 count:1 0/0/ground\n")
    (codes "refused 27 Limit\n")

-- lines of runs: go paced map 0 1000001 0 0 now:0 timer:1 now:0 count:1 count
abbrev pub Row_387_16 : Type 0
Row_387_16 =
    Refuses commands.Run
    (text_before_run
    ++ codes "go paced map 0 1000001 0 0 now:0 timer:1 now:0 count:1 count:1 0/0/ground\n")
    (codes "refused 27 Limit\n")

-- lines of runs: drive 0 1 1 0 now:0 timer:1 now:0 count:1 count:1
abbrev pub Row_387_17 : Type 0
Row_387_17 =
    Refuses commands.Run
    (text_before_run ++ codes "drive 0 1 1 0 now:0 timer:1 now:0 count:1 count:1\n")
    (codes "refused 27 BadLine\n")

-- lines of runs: {one*2}read 1
abbrev pub Row_387_18 : Type 0
Row_387_18 =
    Refuses commands.Run
    (text_before_run
    ++ codes "go paced copy 0 all 0 0 now:0 timer:1000 now:0 count:1 count:1 0/0/ground\n"
    ++ codes "go paced copy 0 all 0 0 now:0 timer:1000 now:0 count:1 count:1 0/0/ground\n"
    ++ codes "read 1\n")
    (codes "refused 29 Unknown\n")

-- lines of watches: {one*16}
abbrev pub Row_408_2 : Type 0
Row_408_2 =
    Accepts commands.Watch
    (text_before_run
    ++ codes "go paced copy 0 all 0 0 now:0 timer:1000 now:0 count:1 count:1 0/0/ground\n"
    ++ codes "go paced copy 0 all 0 0 now:0 timer:1000 now:0 count:1 count:1 0/0/ground\n"
    ++ codes "go paced copy 0 all 0 0 now:0 timer:1000 now:0 count:1 count:1 0/0/ground\n"
    ++ codes "go paced copy 0 all 0 0 now:0 timer:1000 now:0 count:1 count:1 0/0/ground\n"
    ++ codes "go paced copy 0 all 0 0 now:0 timer:1000 now:0 count:1 count:1 0/0/ground\n"
    ++ codes "go paced copy 0 all 0 0 now:0 timer:1000 now:0 count:1 count:1 0/0/ground\n"
    ++ codes "go paced copy 0 all 0 0 now:0 timer:1000 now:0 count:1 count:1 0/0/ground\n"
    ++ codes "go paced copy 0 all 0 0 now:0 timer:1000 now:0 count:1 count:1 0/0/ground\n"
    ++ codes "go paced copy 0 all 0 0 now:0 timer:1000 now:0 count:1 count:1 0/0/ground\n"
    ++ codes "go paced copy 0 all 0 0 now:0 timer:1000 now:0 count:1 count:1 0/0/ground\n"
    ++ codes "go paced copy 0 all 0 0 now:0 timer:1000 now:0 count:1 count:1 0/0/ground\n"
    ++ codes "go paced copy 0 all 0 0 now:0 timer:1000 now:0 count:1 count:1 0/0/ground\n"
    ++ codes "go paced copy 0 all 0 0 now:0 timer:1000 now:0 count:1 count:1 0/0/ground\n"
    ++ codes "go paced copy 0 all 0 0 now:0 timer:1000 now:0 count:1 count:1 0/0/ground\n"
    ++ codes "go paced copy 0 all 0 0 now:0 timer:1000 now:0 count:1 count:1 0/0/ground\n"
    ++ codes "go paced copy 0 all 0 0 now:0 timer:1000 now:0 count:1 count:1 0/0/ground\n"
    ++ codes "\n")

-- lines of watches: {four*2}{one}
abbrev pub Row_408_3 : Type 0
Row_408_3 =
    Answers commands.Watch
    (text_before_run
    ++ codes "go paced map 0 all 0 0 now:0 timer:9 now:0 count:4 count:2 0/0/ground,1/0/ground,2/0"
    ++ codes "/ground,3/0/ground\n"
    ++ codes "go paced map 0 all 0 0 now:0 timer:9 now:0 count:4 count:2 0/0/ground,1/0/ground,2/0"
    ++ codes "/ground,3/0/ground\n"
    ++ codes "go paced copy 0 all 0 0 now:0 timer:1000 now:0 count:1 count:1 0/0/ground\n"
    ++ codes "\n")
    (codes "0 -153\n"
    ++ codes "1 -153\n"
    ++ codes "2 -153\n"
    ++ codes "3 -153\n"
    ++ codes "0 -153\n"
    ++ codes "1 -153\n"
    ++ codes "2 -153\n"
    ++ codes "3 -153\n"
    ++ codes "done\n"
    ++ codes "0 -153\n"
    ++ codes "1 -153\n"
    ++ codes "2 -153\n"
    ++ codes "3 -153\n"
    ++ codes "0 -153\n"
    ++ codes "1 -153\n"
    ++ codes "2 -153\n"
    ++ codes "3 -153\n"
    ++ codes "done\n"
    ++ codes "0 -153\n"
    ++ codes "done\n")

-- lines of watches: {four}{five}
abbrev pub Row_408_4 : Type 0
Row_408_4 =
    Refuses commands.Watch
    (text_before_run
    ++ codes "go paced map 0 all 0 0 now:0 timer:9 now:0 count:4 count:2 0/0/ground,1/0/ground,2/0"
    ++ codes "/ground,3/0/ground\n"
    ++ codes "go paced map 0 all 0 0 now:0 timer:9 now:0 count:5 count:2 0/0/ground,1/0/ground,2/0"
    ++ codes "/ground,3/0/ground,0/0/ground\n"
    ++ codes "\n")
    (codes "refused 28 Bad\n")

-- lines of watches: {one}{free}
abbrev pub Row_408_5 : Type 0
Row_408_5 =
    Refuses commands.Watch
    (text_before_run
    ++ codes "go paced copy 0 all 0 0 now:0 timer:1000 now:0 count:1 count:1 0/0/ground\n"
    ++ codes "go free copy 0 all 0 0 now:0 timer:9 now:0 count:1 count:2 0/0/ground\n"
    ++ codes "\n")
    (codes "refused 28 Bad\n")

-- lines of watches: {takes_one}
abbrev pub Row_408_6 : Type 0
Row_408_6 =
    Refuses commands.Watch
    (text_before_run
    ++ codes "go paced copy 0 1 0 0 now:0 timer:9 now:0 count:1 count:2 0/0/ground\n"
    ++ codes "\n")
    (codes "refused 27 Bad\n")

-- lines of watches: drive 9 4095,0 1 0 now:0 timer:1 now:0 count:1 count:4 1/0/g
abbrev pub Row_408_7 : Type 0
Row_408_7 =
    Refuses commands.Watch
    (text_before_run
    ++ codes "drive 9 4095,0 1 0 now:0 timer:1 now:0 count:1 count:4 1/0/ground\n")
    (codes "refused 27 Bad\n")

-- lines of watches: drive 0 4096 1 0 now:0 timer:1 now:0 count:1 count:1 0/0/gro
abbrev pub Row_408_8 : Type 0
Row_408_8 =
    Refuses commands.Watch
    (text_before_run
    ++ codes "drive 0 4096 1 0 now:0 timer:1 now:0 count:1 count:1 0/0/ground\n")
    (codes "refused 27 Bad\n")

-- lines of watches: go free copy 0 0 0 0 now:0 timer:1 now:0 count:1 count:1 0/0
abbrev pub Row_408_11 : Type 0
Row_408_11 =
    Refuses commands.Watch
    (text_before_run
    ++ codes "go free copy 0 0 0 0 now:0 timer:1 now:0 count:1 count:1 0/0/ground\n")
    (codes "refused 27 Limit\n")

-- lines of watches: drive 0 x 1 0 now:0 timer:1 now:0 count:1 count:1 0/0/ground
abbrev pub Row_408_12 : Type 0
Row_408_12 =
    Refuses commands.Watch
    (text_before_run ++ codes "drive 0 x 1 0 now:0 timer:1 now:0 count:1 count:1 0/0/ground\n")
    (codes "refused 27 BadNumber\n")

-- lines of watches: {one*16}{free}
abbrev pub Row_408_13 : Type 0
Row_408_13 =
    Refuses commands.Watch
    (text_before_run
    ++ codes "go paced copy 0 all 0 0 now:0 timer:1000 now:0 count:1 count:1 0/0/ground\n"
    ++ codes "go paced copy 0 all 0 0 now:0 timer:1000 now:0 count:1 count:1 0/0/ground\n"
    ++ codes "go paced copy 0 all 0 0 now:0 timer:1000 now:0 count:1 count:1 0/0/ground\n"
    ++ codes "go paced copy 0 all 0 0 now:0 timer:1000 now:0 count:1 count:1 0/0/ground\n"
    ++ codes "go paced copy 0 all 0 0 now:0 timer:1000 now:0 count:1 count:1 0/0/ground\n"
    ++ codes "go paced copy 0 all 0 0 now:0 timer:1000 now:0 count:1 count:1 0/0/ground\n"
    ++ codes "go paced copy 0 all 0 0 now:0 timer:1000 now:0 count:1 count:1 0/0/ground\n"
    ++ codes "go paced copy 0 all 0 0 now:0 timer:1000 now:0 count:1 count:1 0/0/ground\n"
    ++ codes "go paced copy 0 all 0 0 now:0 timer:1000 now:0 count:1 count:1 0/0/ground\n"
    ++ codes "go paced copy 0 all 0 0 now:0 timer:1000 now:0 count:1 count:1 0/0/ground\n"
    ++ codes "go paced copy 0 all 0 0 now:0 timer:1000 now:0 count:1 count:1 0/0/ground\n"
    ++ codes "go paced copy 0 all 0 0 now:0 timer:1000 now:0 count:1 count:1 0/0/ground\n"
    ++ codes "go paced copy 0 all 0 0 now:0 timer:1000 now:0 count:1 count:1 0/0/ground\n"
    ++ codes "go paced copy 0 all 0 0 now:0 timer:1000 now:0 count:1 count:1 0/0/ground\n"
    ++ codes "go paced copy 0 all 0 0 now:0 timer:1000 now:0 count:1 count:1 0/0/ground\n"
    ++ codes "go paced copy 0 all 0 0 now:0 timer:1000 now:0 count:1 count:1 0/0/ground\n"
    ++ codes "go free copy 0 all 0 0 now:0 timer:9 now:0 count:1 count:2 0/0/ground\n"
    ++ codes "\n")
    (codes "refused 43 Limit\n")

-- lines of watches: go paced copy 0 all 1 0 now:0 timer:1 now:0 count:1 count:1
abbrev pub Row_408_14 : Type 0
Row_408_14 =
    Refuses commands.Watch
    (text_before_run
    ++ codes "go paced copy 0 all 1 0 now:0 timer:1 now:0 count:1 count:1 0/0/ground\n")
    (codes "refused 27 Bad\n")

-- lines of watches: {one*2}watch 1
abbrev pub Row_408_15 : Type 0
Row_408_15 =
    Refuses commands.Watch
    (text_before_run
    ++ codes "go paced copy 0 all 0 0 now:0 timer:1000 now:0 count:1 count:1 0/0/ground\n"
    ++ codes "go paced copy 0 all 0 0 now:0 timer:1000 now:0 count:1 count:1 0/0/ground\n"
    ++ codes "watch 1\n")
    (codes "refused 29 Unknown\n")

-- lines of loops: loop 0 500 1 0 0 now:0 timer:1000 now:0 count:1 count:3 0/0/
abbrev pub Row_426_2 : Type 0
Row_426_2 =
    Answers commands.Loop
    (text_before_run
    ++ codes "loop 0 500 1 0 0 now:0 timer:1000 now:0 count:1 count:3 0/0/ground 1 0 now:0 timer:1"
    ++ codes "000 now:0 count:1 count:3 0/0/ground\n")
    (codes "out 1 500 0 2047\n"
    ++ codes "out 1 1500 0 2047\n"
    ++ codes "out 1 2500 0 2047\n"
    ++ codes "done\n")

-- lines of loops: go 0 500 1 0 0 now:0 timer:1000 now:0 count:1 count:3 0/0/gr
abbrev pub Row_426_3 : Type 0
Row_426_3 =
    Refuses commands.Loop
    (text_before_run
    ++ codes "go 0 500 1 0 0 now:0 timer:1000 now:0 count:1 count:3 0/0/ground 1 0 now:0 timer:100"
    ++ codes "0 now:0 count:1 count:3 0/0/ground\n")
    (codes "refused 27 Missing\n")

-- lines of loops: l?op 0 500 1 0 0 now:0 timer:1000 now:0 count:1 count:3 0/0/
abbrev pub Row_426_4 : Type 0
Row_426_4 =
    Refuses commands.Loop
    (text_before_run
    ++ codes "l"
    ++ (195 ∷ 182 ∷ [])
    ++ codes "op 0 500 1 0 0 now:0 timer:1000 now:0 count:1 count:3 0/0/ground 1 0 now:0 timer:100"
    ++ codes "0 now:0 count:1 count:3 0/0/ground\n")
    (codes "refused 27 BadLine\n")

-- lines of loops: loop x y 0 0 now:0 timer:1000 now:0 count:1 count:3 0/0/grou
abbrev pub Row_426_5 : Type 0
Row_426_5 =
    Refuses commands.Loop
    (text_before_run
    ++ codes "loop x y 0 0 now:0 timer:1000 now:0 count:1 count:3 0/0/ground 1 0 now:0 timer:1000 "
    ++ codes "now:0 count:1 count:3 0/0/ground\n")
    (codes "refused 27 BadLine\n")

-- lines of loops: loop x y 1 1 0 0 now:0 timer:1000 now:0 count:1 count:3 0/0/
abbrev pub Row_426_6 : Type 0
Row_426_6 =
    Refuses commands.Loop
    (text_before_run
    ++ codes "loop x y 1 1 0 0 now:0 timer:1000 now:0 count:1 count:3 0/0/ground 1 0 now:0 timer:1"
    ++ codes "000 now:0 count:1 count:3 0/0/ground\n")
    (codes "refused 27 BadLine\n")

-- lines of loops: loop 1000000 x 0 0 0 now:0 timer:1000 now:0 count:1 count:3
abbrev pub Row_426_7 : Type 0
Row_426_7 =
    Refuses commands.Loop
    (text_before_run
    ++ codes "loop 1000000 x 0 0 0 now:0 timer:1000 now:0 count:1 count:3 0/0/ground 1 0 now:0 tim"
    ++ codes "er:1000 now:0 count:1 count:3 0/0/ground\n")
    (codes "refused 27 Limit\n")

-- lines of loops: loop 0 x 0 0 0 now:0 timer:1000 now:0 count:1 count:3 0/0/gr
abbrev pub Row_426_8 : Type 0
Row_426_8 =
    Refuses commands.Loop
    (text_before_run
    ++ codes "loop 0 x 0 0 0 now:0 timer:1000 now:0 count:1 count:3 0/0/ground 1 0 now:0 timer:100"
    ++ codes "0 now:0 count:1 count:3 0/0/ground\n")
    (codes "refused 27 BadNumber\n")

-- lines of loops: loop 0 1000000 x 0 0 now:0 timer:1000 now:0 count:1 count:3
abbrev pub Row_426_9 : Type 0
Row_426_9 =
    Refuses commands.Loop
    (text_before_run
    ++ codes "loop 0 1000000 x 0 0 now:0 timer:1000 now:0 count:1 count:3 0/0/ground 1 0 now:0 tim"
    ++ codes "er:1000 now:0 count:1 count:3 0/0/ground\n")
    (codes "refused 27 Limit\n")

-- lines of loops: loop 0 500 0 x 0 0 0 0 0 0 0 x 0 0 0 0 0 0 0
abbrev pub Row_426_10 : Type 0
Row_426_10 =
    Refuses commands.Loop
    (text_before_run ++ codes "loop 0 500 0 x 0 0 0 0 0 0 0 x 0 0 0 0 0 0 0\n")
    (codes "refused 27 Limit\n")

-- lines of loops: loop 0 500 17 0 0 now:0 timer:1000 now:0 count:1 count:3 0/0
abbrev pub Row_426_11 : Type 0
Row_426_11 =
    Refuses commands.Loop
    (text_before_run
    ++ codes "loop 0 500 17 0 0 now:0 timer:1000 now:0 count:1 count:3 0/0/ground 1 0 now:0 timer:"
    ++ codes "1000 now:0 count:1 count:3 0/0/ground\n")
    (codes "refused 27 Limit\n")

-- lines of loops: loop 0 0 1 0 0 now:0 timer:1000 now:0 count:1 count:3 0/0/gr
abbrev pub Row_426_12 : Type 0
Row_426_12 =
    Refuses commands.Loop
    (text_before_run
    ++ codes "loop 0 0 1 0 0 now:0 timer:1000 now:0 count:1 count:3 0/0/ground 256 0 x:0 x:0 x:0 x"
    ++ codes ":0 x:0 -\n")
    (codes "refused 27 Limit\n")

-- lines of loops: loop 0 500 1 0 0 now:0 timer:1000 now:0 count:1 count:3 0/0/
abbrev pub Row_426_13 : Type 0
Row_426_13 =
    Refuses commands.Loop
    (text_before_run
    ++ codes "loop 0 500 1 0 0 now:0 timer:1000 now:0 count:1 count:3 0/0/ground 1 0 now:0 timer:1"
    ++ codes "000 now:0 count:1 count:3 0/0/ground\n"
    ++ codes "go\n")
    (codes "refused 28 Missing\n")

-- lines of loops: loop 0 500 1 0 0 now:0 timer:1000 now:0 count:1 count:3 0/0/
abbrev pub Row_426_14 : Type 0
Row_426_14 =
    Refuses commands.Loop
    (text_before_run
    ++ codes "loop 0 500 1 0 0 now:0 timer:1000 now:0 count:1 count:3 0/0/ground 1 0 now:0 timer:1"
    ++ codes "000 now:0 count:1 count:3 0/0/ground\n"
    ++ codes "loop 0 500 1\n")
    (codes "refused 28 BadLine\n")

-- lines of loops: loop 0 0 1 0 0 now:0 timer:1000 now:0 count:1 count:3 0/0/gr
abbrev pub Row_426_15 : Type 0
Row_426_15 =
    Refuses commands.Loop
    (text_before_run
    ++ codes "loop 0 0 1 0 0 now:0 timer:1000 now:0 count:1 count:3 0/0/ground 1 0 now:0 timer:100"
    ++ codes "0 now:0 count:1 count:3 0/0/ground\n"
    ++ codes "loop 0 500 1\n")
    (codes "refused 27 Bad\n")

-- lines of loops: loop 0 500 1 1 0 now:0 timer:1000 now:0 count:1 count:3 0/0/
abbrev pub Row_426_16 : Type 0
Row_426_16 =
    Refuses commands.Loop
    (text_before_run
    ++ codes "loop 0 500 1 1 0 now:0 timer:1000 now:0 count:1 count:3 0/0/ground 1 0 now:0 timer:1"
    ++ codes "000 now:0 count:1 count:3 0/0/ground\n")
    (codes "refused 27 Bad\n")

-- lines of loops: loop 0 500 1 0 0 now:0 timer:1000 now:0 count:1 count:3 0/0/
abbrev pub Row_426_17 : Type 0
Row_426_17 =
    Refuses commands.Loop
    (text_before_run
    ++ codes "loop 0 500 1 0 0 now:0 timer:1000 now:0 count:1 count:3 0/0/ground 0 0 now:0 timer:1"
    ++ codes "000 now:0 count:1 count:3 0/0/ground\n")
    (codes "refused 27 Bad\n")

-- lines of loops: loop 0 500 1 0 0 now:0 timer:1000 now:0 count:1 count:3 0/0/
abbrev pub Row_426_18 : Type 0
Row_426_18 =
    Refuses commands.Loop
    (text_before_run
    ++ codes "loop 0 500 1 0 0 now:0 timer:1000 now:0 count:1 count:3 0/0/ground 2 0 now:0 timer:1"
    ++ codes "000 now:0 count:1 count:3 0/0/ground\n")
    (codes "refused 27 Bad\n")

-- lines of loops: loop 0 500 1 3 0 now:0 timer:1000 now:0 count:1 count:3 0/0/
abbrev pub Row_426_19 : Type 0
Row_426_19 =
    Refuses commands.Loop
    (text_before_run
    ++ codes "loop 0 500 1 3 0 now:0 timer:1000 now:0 count:1 count:3 0/0/ground 1 0 now:0 timer:1"
    ++ codes "000 now:0 count:1 count:3 0/0/ground\n")
    (codes "refused 27 Bad\n")

-- lines of loops: loop 0 500 1 0 0 now:0 timer:1000 now:0 count:1 count:3 0/0/
abbrev pub Row_426_20 : Type 0
Row_426_20 =
    Refuses commands.Loop
    (text_before_run
    ++ codes "loop 0 500 1 0 0 now:0 timer:1000 now:0 count:1 count:3 0/0/ground 1 0 now:0 timer:1"
    ++ codes "000 now:0 count:2 count:3 0/0/ground\n")
    (codes "refused 27 Bad\n")

-- lines of loops: loop 0 500 1 0 128 now:0 timer:1000 now:0 count:1 count:3 0/
abbrev pub Row_426_21 : Type 0
Row_426_21 =
    Refuses commands.Loop
    (text_before_run
    ++ codes "loop 0 500 1 0 128 now:0 timer:1000 now:0 count:1 count:3 0/0/ground 1 0 now:0 timer"
    ++ codes ":1000 now:0 count:1 count:3 0/0/ground\n")
    (codes "refused 27 Bad\n")

-- lines of loops: loop 0 500 1 0 0 now:0 timer:1000 now:0 count:1 count:3 0/0/
abbrev pub Row_426_22 : Type 0
Row_426_22 =
    Refuses commands.Loop
    (text_before_run
    ++ codes "loop 0 500 1 0 0 now:0 timer:1000 now:0 count:1 count:3 0/0/ground 1 128 now:0 timer"
    ++ codes ":1000 now:0 count:1 count:3 0/0/ground\n")
    (codes "refused 27 Bad\n")

-- lines of loops: loop 0 0 1 0 0 now:0 timer:1000 now:0 count:1 count:3 0/0/gr
abbrev pub Row_426_26 : Type 0
Row_426_26 =
    Refuses commands.Loop
    (text_before_run
    ++ codes "loop 0 0 1 0 0 now:0 timer:1000 now:0 count:1 count:3 0/0/ground 1 0 now:0 timer:100"
    ++ codes "0 now:0 count:1 count:3 0/0/ground\n")
    (codes "refused 27 Bad\n")

-- lines of loops: loop 0 500 1 0 0 now:0 timer:1000 now:0 count:1 count:501 0/
abbrev pub Row_426_27 : Type 0
Row_426_27 =
    Refuses commands.Loop
    (text_before_run
    ++ codes "loop 0 500 1 0 0 now:0 timer:1000 now:0 count:1 count:501 0/0/ground 1 0 now:0 timer"
    ++ codes ":999 now:0 count:1 count:501 0/0/ground\n")
    (codes "refused 27 Bad\n")

-- lines of loops: loop 0 500 1 0 0 now:0 timer:1000 now:0 count:1 count:500 0/
abbrev pub Row_426_28 : Type 0
Row_426_28 =
    Accepts commands.Loop
    (text_before_run
    ++ codes "loop 0 500 1 0 0 now:0 timer:1000 now:0 count:1 count:500 0/0/ground 1 0 now:0 timer"
    ++ codes ":999 now:0 count:1 count:501 0/0/ground\n")

-- lines of loops: loop 0 500 1 0 0 now:0 timer:1000 now:0 count:1 count:501 0/
abbrev pub Row_426_29 : Type 0
Row_426_29 =
    Accepts commands.Loop
    (text_before_run
    ++ codes "loop 0 500 1 0 0 now:0 timer:1000 now:0 count:1 count:501 0/0/ground 1 0 now:0 timer"
    ++ codes ":999 now:0 count:1 count:500 0/0/ground\n")

-- lines of loops: loop 0 500 1 0 0 now:0 timer:1000 now:0 count:1 count:3 0/0/
abbrev pub Row_426_30 : Type 0
Row_426_30 =
    Refuses commands.Loop
    (text_before_run
    ++ codes "loop 0 500 1 0 0 now:0 timer:1000 now:0 count:1 count:3 0/0/ground 1 0 now:0 timer:1"
    ++ codes "000 now:0 count:1 count:3 0/0/ground\n"
    ++ codes "loop 0 500 1 0 0 now:0 timer:1000 now:0 count:1 count:3 0/0/ground 1 0 now:0 timer:1"
    ++ codes "000 now:0 count:1 count:3 0/0/ground\n")
    (codes "refused 28 Limit\n")

-- lines of loops: loop 0 500 1 0 0 now:0 timer:1000 now:0 count:1 count:3 0/0/
abbrev pub Row_426_31 : Type 0
Row_426_31 =
    Refuses commands.Loop
    (text_before_run
    ++ codes "loop 0 500 1 0 0 now:0 timer:1000 now:0 count:1 count:3 0/0/ground 1 0 now:0 timer:1"
    ++ codes "000 now:0 count:1 count:3 0/0/ground\n"
    ++ codes "loop 0 x 1 0 0 now:0 timer:1000 now:0 count:1 count:3 0/0/ground 1 0 now:0 timer:100"
    ++ codes "0 now:0 count:1 count:3 0/0/ground\n")
    (codes "refused 28 BadNumber\n")

-- too few words: test 0 0 now
abbrev pub Row_509_2 : Type 0
Row_509_2 = Refuses commands.Test (text_least ++ codes "test 0 0 now\n") (codes "refused 14 BadLine\n")

-- a command that isn't taken: expand 0 0 0 ext:0 timer:1 now:0 count:1 count:1 0/0/ground
abbrev pub Row_513_2 : Type 0
Row_513_2 =
    Refuses commands.Expand
    (text_least ++ codes "expand 0 0 0 ext:0 timer:1 now:0 count:1 count:1 0/0/ground\n")
    (codes "refused 14 Bad\n")

-- a drive of an input, a free line with room, and no line: drive 0 1 0 0 now:0 timer:1 now:0 count:1 count:1 0/0
abbrev pub Row_517_2 : Type 0
Row_517_2 =
    Refuses commands.Run
    (text_least ++ codes "drive 0 1 0 0 now:0 timer:1 now:0 count:1 count:1 0/0/ground\n")
    (codes "refused 14 Bad\n")

-- a drive of an input, a free line with room, and no line: go free copy 0 all 0 0 now:0 timer:1 now:0 count:1 co
abbrev pub Row_517_3 : Type 0
Row_517_3 =
    Answers commands.Run
    (text_least
    ++ codes "go free copy 0 all 0 0 now:0 timer:1 now:0 count:1 count:4 0/0/ground\n")
    (codes "0 0\n" ++ codes "0 0\n" ++ codes "0 0\n" ++ codes "0 0\n" ++ codes "done\n")

-- lines of commands, files and times: 0 open 1\n0 read 1 0 1
abbrev pub Row_522_2 : Type 0
Row_522_2 =
    Refuses commands.Insn
    (text_least ++ codes "0 open 1\n" ++ codes "0 read 1 0 1\n")
    (codes "refused 15 Unknown\n")

-- lines of commands, files and times: 0 lock 1 0\n0 open 1\n0 lock 1 0
abbrev pub Row_522_3 : Type 0
Row_522_3 =
    Answers commands.Insn
    (text_least ++ codes "0 lock 1 0\n" ++ codes "0 open 1\n" ++ codes "0 lock 1 0\n")
    (codes "err 22\n" ++ codes "ok\n" ++ codes "ok\n")

-- lines of commands, files and times: 5 open 1\n4 close 1
abbrev pub Row_522_4 : Type 0
Row_522_4 =
    Refuses commands.Insn
    (text_least ++ codes "5 open 1\n" ++ codes "4 close 1\n")
    (codes "refused 15 Bad\n")

-- all of them
pub record AreRefused : Type 0 where
  pub row_3_1 : Row_3_1
  pub row_3_2 : Row_3_2
  pub row_3_3 : Row_3_3
  pub row_3_4 : Row_3_4
  pub row_3_5 : Row_3_5
  pub row_3_6 : Row_3_6
  pub row_3_7 : Row_3_7
  pub row_3_8 : Row_3_8
  pub row_3_9 : Row_3_9
  pub row_3_10 : Row_3_10
  pub row_67_2 : Row_67_2
  pub row_67_3 : Row_67_3
  pub row_67_4 : Row_67_4
  pub row_67_5 : Row_67_5
  pub row_67_6 : Row_67_6
  pub row_75_2 : Row_75_2
  pub row_75_3 : Row_75_3
  pub row_75_4 : Row_75_4
  pub row_75_5 : Row_75_5
  pub row_75_6 : Row_75_6
  pub row_75_7 : Row_75_7
  pub row_75_8 : Row_75_8
  pub row_75_9 : Row_75_9
  pub row_75_10 : Row_75_10
  pub row_75_11 : Row_75_11
  pub row_75_12 : Row_75_12
  pub row_75_13 : Row_75_13
  pub row_75_14 : Row_75_14
  pub row_75_15 : Row_75_15
  pub row_75_16 : Row_75_16
  pub row_75_17 : Row_75_17
  pub row_75_18 : Row_75_18
  pub row_75_19 : Row_75_19
  pub row_75_20 : Row_75_20
  pub row_75_21 : Row_75_21
  pub row_75_22 : Row_75_22
  pub row_75_23 : Row_75_23
  pub row_75_24 : Row_75_24
  pub row_75_25 : Row_75_25
  pub row_75_26 : Row_75_26
  pub row_75_27 : Row_75_27
  pub row_75_28 : Row_75_28
  pub row_75_29 : Row_75_29
  pub row_75_30 : Row_75_30
  pub row_75_31 : Row_75_31
  pub row_75_32 : Row_75_32
  pub row_75_33 : Row_75_33
  pub row_75_34 : Row_75_34
  pub row_75_35 : Row_75_35
  pub row_75_36 : Row_75_36
  pub row_113_2 : Row_113_2
  pub row_117_2 : Row_117_2
  pub row_117_3 : Row_117_3
  pub row_131_2 : Row_131_2
  pub row_131_3 : Row_131_3
  pub row_131_4 : Row_131_4
  pub row_131_5 : Row_131_5
  pub row_131_6 : Row_131_6
  pub row_131_7 : Row_131_7
  pub row_147_2 : Row_147_2
  pub row_147_3 : Row_147_3
  pub row_147_4 : Row_147_4
  pub row_147_6 : Row_147_6
  pub row_161_2 : Row_161_2
  pub row_161_3 : Row_161_3
  pub row_161_4 : Row_161_4
  pub row_161_5 : Row_161_5
  pub row_161_6 : Row_161_6
  pub row_161_7 : Row_161_7
  pub row_179_2 : Row_179_2
  pub row_179_3 : Row_179_3
  pub row_179_4 : Row_179_4
  pub row_179_5 : Row_179_5
  pub row_179_6 : Row_179_6
  pub row_179_7 : Row_179_7
  pub row_179_8 : Row_179_8
  pub row_179_9 : Row_179_9
  pub row_179_10 : Row_179_10
  pub row_179_11 : Row_179_11
  pub row_179_12 : Row_179_12
  pub row_179_13 : Row_179_13
  pub row_179_14 : Row_179_14
  pub row_179_15 : Row_179_15
  pub row_179_16 : Row_179_16
  pub row_179_17 : Row_179_17
  pub row_179_18 : Row_179_18
  pub row_179_19 : Row_179_19
  pub row_179_20 : Row_179_20
  pub row_179_21 : Row_179_21
  pub row_212_2 : Row_212_2
  pub row_212_3 : Row_212_3
  pub row_212_4 : Row_212_4
  pub row_212_5 : Row_212_5
  pub row_212_6 : Row_212_6
  pub row_212_7 : Row_212_7
  pub row_212_8 : Row_212_8
  pub row_212_9 : Row_212_9
  pub row_212_10 : Row_212_10
  pub row_212_11 : Row_212_11
  pub row_212_12 : Row_212_12
  pub row_212_13 : Row_212_13
  pub row_212_14 : Row_212_14
  pub row_212_15 : Row_212_15
  pub row_212_16 : Row_212_16
  pub row_212_17 : Row_212_17
  pub row_212_18 : Row_212_18
  pub row_212_19 : Row_212_19
  pub row_212_20 : Row_212_20
  pub row_212_21 : Row_212_21
  pub row_212_22 : Row_212_22
  pub row_212_23 : Row_212_23
  pub row_212_24 : Row_212_24
  pub row_212_25 : Row_212_25
  pub row_212_26 : Row_212_26
  pub row_212_27 : Row_212_27
  pub row_212_28 : Row_212_28
  pub row_212_29 : Row_212_29
  pub row_212_30 : Row_212_30
  pub row_212_31 : Row_212_31
  pub row_212_32 : Row_212_32
  pub row_212_33 : Row_212_33
  pub row_212_34 : Row_212_34
  pub row_212_35 : Row_212_35
  pub row_212_36 : Row_212_36
  pub row_212_37 : Row_212_37
  pub row_212_38 : Row_212_38
  pub row_212_39 : Row_212_39
  pub row_212_40 : Row_212_40
  pub row_212_41 : Row_212_41
  pub row_212_42 : Row_212_42
  pub row_212_43 : Row_212_43
  pub row_212_44 : Row_212_44
  pub row_212_45 : Row_212_45
  pub row_212_46 : Row_212_46
  pub row_212_47 : Row_212_47
  pub row_212_48 : Row_212_48
  pub row_212_49 : Row_212_49
  pub row_212_50 : Row_212_50
  pub row_212_51 : Row_212_51
  pub row_212_52 : Row_212_52
  pub row_212_53 : Row_212_53
  pub row_212_54 : Row_212_54
  pub row_212_55 : Row_212_55
  pub row_212_56 : Row_212_56
  pub row_212_57 : Row_212_57
  pub row_212_58 : Row_212_58
  pub row_212_59 : Row_212_59
  pub row_212_60 : Row_212_60
  pub row_212_61 : Row_212_61
  pub row_212_62 : Row_212_62
  pub row_212_63 : Row_212_63
  pub row_212_64 : Row_212_64
  pub row_212_65 : Row_212_65
  pub row_212_66 : Row_212_66
  pub row_212_67 : Row_212_67
  pub row_212_68 : Row_212_68
  pub row_212_69 : Row_212_69
  pub row_212_70 : Row_212_70
  pub row_212_71 : Row_212_71
  pub row_212_72 : Row_212_72
  pub row_212_73 : Row_212_73
  pub row_212_74 : Row_212_74
  pub row_212_75 : Row_212_75
  pub row_212_76 : Row_212_76
  pub row_212_77 : Row_212_77
  pub row_212_78 : Row_212_78
  pub row_212_79 : Row_212_79
  pub row_212_80 : Row_212_80
  pub row_212_81 : Row_212_81
  pub row_212_82 : Row_212_82
  pub row_212_83 : Row_212_83
  pub row_212_84 : Row_212_84
  pub row_212_85 : Row_212_85
  pub row_212_86 : Row_212_86
  pub row_212_87 : Row_212_87
  pub row_212_88 : Row_212_88
  pub row_212_89 : Row_212_89
  pub row_212_90 : Row_212_90
  pub row_212_91 : Row_212_91
  pub row_306_2 : Row_306_2
  pub row_306_3 : Row_306_3
  pub row_306_4 : Row_306_4
  pub row_306_5 : Row_306_5
  pub row_306_6 : Row_306_6
  pub row_306_7 : Row_306_7
  pub row_306_8 : Row_306_8
  pub row_306_9 : Row_306_9
  pub row_306_10 : Row_306_10
  pub row_318_2 : Row_318_2
  pub row_318_3 : Row_318_3
  pub row_318_4 : Row_318_4
  pub row_318_5 : Row_318_5
  pub row_318_6 : Row_318_6
  pub row_318_7 : Row_318_7
  pub row_318_8 : Row_318_8
  pub row_318_9 : Row_318_9
  pub row_318_10 : Row_318_10
  pub row_318_11 : Row_318_11
  pub row_318_12 : Row_318_12
  pub row_318_13 : Row_318_13
  pub row_318_14 : Row_318_14
  pub row_387_2 : Row_387_2
  pub row_387_3 : Row_387_3
  pub row_387_4 : Row_387_4
  pub row_387_8 : Row_387_8
  pub row_387_9 : Row_387_9
  pub row_387_10 : Row_387_10
  pub row_387_11 : Row_387_11
  pub row_387_12 : Row_387_12
  pub row_387_13 : Row_387_13
  pub row_387_14 : Row_387_14
  pub row_387_15 : Row_387_15
  pub row_387_16 : Row_387_16
  pub row_387_17 : Row_387_17
  pub row_387_18 : Row_387_18
  pub row_408_2 : Row_408_2
  pub row_408_3 : Row_408_3
  pub row_408_4 : Row_408_4
  pub row_408_5 : Row_408_5
  pub row_408_6 : Row_408_6
  pub row_408_7 : Row_408_7
  pub row_408_8 : Row_408_8
  pub row_408_11 : Row_408_11
  pub row_408_12 : Row_408_12
  pub row_408_13 : Row_408_13
  pub row_408_14 : Row_408_14
  pub row_408_15 : Row_408_15
  pub row_426_2 : Row_426_2
  pub row_426_3 : Row_426_3
  pub row_426_4 : Row_426_4
  pub row_426_5 : Row_426_5
  pub row_426_6 : Row_426_6
  pub row_426_7 : Row_426_7
  pub row_426_8 : Row_426_8
  pub row_426_9 : Row_426_9
  pub row_426_10 : Row_426_10
  pub row_426_11 : Row_426_11
  pub row_426_12 : Row_426_12
  pub row_426_13 : Row_426_13
  pub row_426_14 : Row_426_14
  pub row_426_15 : Row_426_15
  pub row_426_16 : Row_426_16
  pub row_426_17 : Row_426_17
  pub row_426_18 : Row_426_18
  pub row_426_19 : Row_426_19
  pub row_426_20 : Row_426_20
  pub row_426_21 : Row_426_21
  pub row_426_22 : Row_426_22
  pub row_426_26 : Row_426_26
  pub row_426_27 : Row_426_27
  pub row_426_28 : Row_426_28
  pub row_426_29 : Row_426_29
  pub row_426_30 : Row_426_30
  pub row_426_31 : Row_426_31
  pub row_509_2 : Row_509_2
  pub row_513_2 : Row_513_2
  pub row_517_2 : Row_517_2
  pub row_517_3 : Row_517_3
  pub row_522_2 : Row_522_2
  pub row_522_3 : Row_522_3
  pub row_522_4 : Row_522_4
