-- Made by tools/make_examples: the examples of `tests/wide.rows`
use Rattle.std.specs.Prelude.{codes, ℕ, List, ◌++◌}
use Rattle.cm_cli.specs.declared.command.Command.TheVariants as commands
use Rattle.cm_examples.specs.Answering.{Accepts, Answers, Refuses}

-- the text `head`
abbrev pub text_head : List ℕ
text_head =
    codes "zendrouz 1\n"
    ++ codes "board x\n"
    ++ codes "subdevice ai 4\n"
    ++ codes "bits 12\n"
    ++ codes "range -5000000 5000000 0\n"
    ++ codes "range 0 5000000 0\n"
    ++ codes "sources now|ext follow|timer|ext now|timer count none|count\n"

-- the text `needed`
abbrev pub text_needed : List ℕ
text_needed =
    codes "tick 100\n"
    ++ codes "scan 1000 100000\n"
    ++ codes "convert 300 20000\n"
    ++ codes "list 8\n"
    ++ codes "lines 2\n"
    ++ codes "buffer 16\n"

-- the text `end`
abbrev pub text_end : List ℕ
text_end =
    codes "signals 0\n"
    ++ codes "session\n"

-- the text `follows`
abbrev pub text_follows : List ℕ
text_follows =
    codes "zendrouz 1\n"
    ++ codes "board x\n"
    ++ codes "subdevice di 4\n"
    ++ codes "bits 1\n"
    ++ codes "range 0 1 2\n"
    ++ codes "sources now|ext follow|timer|ext now|follow|timer count none|count\n"
    ++ codes "tick 100\n"
    ++ codes "scan 1000 100000\n"
    ++ codes "convert 300 20000\n"
    ++ codes "list 4\n"
    ++ codes "lines 2\n"
    ++ codes "buffer 16\n"

-- the first line: zendrouz\n
abbrev pub Row_28_1 : Type 0
Row_28_1 = Refuses commands.Test (codes "zendrouz\n" ++ codes "\n") (codes "refused 1 BadLine\n")

-- the first line: zendrouz x\n
abbrev pub Row_28_2 : Type 0
Row_28_2 = Refuses commands.Test (codes "zendrouz x\n" ++ codes "\n") (codes "refused 1 BadNumber\n")

-- the first line: zendrouz 0\n
abbrev pub Row_28_3 : Type 0
Row_28_3 = Refuses commands.Test (codes "zendrouz 0\n" ++ codes "\n") (codes "refused 1 Limit\n")

-- the first line: zendrouz 2\n
abbrev pub Row_28_4 : Type 0
Row_28_4 = Refuses commands.Test (codes "zendrouz 2\n" ++ codes "\n") (codes "refused 1 Limit\n")

-- the first line: zendrouz 1 1\n
abbrev pub Row_28_5 : Type 0
Row_28_5 = Refuses commands.Test (codes "zendrouz 1 1\n" ++ codes "\n") (codes "refused 1 BadLine\n")

-- the first line: zendrouz 01\n
abbrev pub Row_28_6 : Type 0
Row_28_6 = Refuses commands.Test (codes "zendrouz 01\n" ++ codes "\n") (codes "refused 1 BadNumber\n")

-- the first line: Zendrouz 1\n
abbrev pub Row_28_7 : Type 0
Row_28_7 = Refuses commands.Test (codes "Zendrouz 1\n" ++ codes "\n") (codes "refused 1 Missing\n")

-- the first line: comedi 3\n
abbrev pub Row_28_8 : Type 0
Row_28_8 = Refuses commands.Test (codes "comedi 3\n" ++ codes "\n") (codes "refused 1 Limit\n")

-- the first line: zendrouz 1\nboard x\nsubdevice unused 0\n{end}
abbrev pub Row_28_9 : Type 0
Row_28_9 =
    Accepts commands.Test
    (codes "zendrouz 1\n"
    ++ codes "board x\n"
    ++ codes "subdevice unused 0\n"
    ++ text_end
    ++ codes "\n")

-- the first line: zendrouz 1\nsubdevice unused 0\n{end}
abbrev pub Row_28_10 : Type 0
Row_28_10 =
    Refuses commands.Test
    (codes "zendrouz 1\n" ++ codes "subdevice unused 0\n" ++ text_end ++ codes "\n")
    (codes "refused 2 Missing\n")

-- the lines of a wider text: {head}{needed}rounds nearest\n{end}
abbrev pub Row_40_1 : Type 0
Row_40_1 =
    Accepts commands.Test
    (text_head ++ text_needed ++ codes "rounds nearest\n" ++ text_end ++ codes "\n")

-- the lines of a wider text: {head}{needed}rounds down\n{end}
abbrev pub Row_40_2 : Type 0
Row_40_2 = Accepts commands.Test (text_head ++ text_needed ++ codes "rounds down\n" ++ text_end ++ codes "\n")

-- the lines of a wider text: {head}{needed}rounds up\n{end}
abbrev pub Row_40_3 : Type 0
Row_40_3 = Accepts commands.Test (text_head ++ text_needed ++ codes "rounds up\n" ++ text_end ++ codes "\n")

-- the lines of a wider text: {head}{needed}rounds\n{end}
abbrev pub Row_40_4 : Type 0
Row_40_4 =
    Refuses commands.Test
    (text_head ++ text_needed ++ codes "rounds\n" ++ text_end ++ codes "\n")
    (codes "refused 14 BadLine\n")

-- the lines of a wider text: {head}{needed}rounds next\n{end}
abbrev pub Row_40_5 : Type 0
Row_40_5 =
    Refuses commands.Test
    (text_head ++ text_needed ++ codes "rounds next\n" ++ text_end ++ codes "\n")
    (codes "refused 14 Unknown\n")

-- the lines of a wider text: {head}{needed}rounds up up\n{end}
abbrev pub Row_40_6 : Type 0
Row_40_6 =
    Refuses commands.Test
    (text_head ++ text_needed ++ codes "rounds up up\n" ++ text_end ++ codes "\n")
    (codes "refused 14 BadLine\n")

-- the lines of a wider text: {head}{needed}rounds up\nrounds up\n{end}
abbrev pub Row_40_7 : Type 0
Row_40_7 =
    Refuses commands.Test
    (text_head
    ++ text_needed
    ++ codes "rounds up\n"
    ++ codes "rounds up\n"
    ++ text_end
    ++ codes "\n")
    (codes "refused 15 Double\n")

-- the lines of a wider text: {head}{needed}halfdown\n{end}
abbrev pub Row_40_8 : Type 0
Row_40_8 = Accepts commands.Test (text_head ++ text_needed ++ codes "halfdown\n" ++ text_end ++ codes "\n")

-- the lines of a wider text: {head}{needed}halfdown 1\n{end}
abbrev pub Row_40_9 : Type 0
Row_40_9 =
    Refuses commands.Test
    (text_head ++ text_needed ++ codes "halfdown 1\n" ++ text_end ++ codes "\n")
    (codes "refused 14 BadLine\n")

-- the lines of a wider text: {head}{needed}halfdown\nhalfdown\n{end}
abbrev pub Row_40_10 : Type 0
Row_40_10 =
    Refuses commands.Test
    (text_head
    ++ text_needed
    ++ codes "halfdown\n"
    ++ codes "halfdown\n"
    ++ text_end
    ++ codes "\n")
    (codes "refused 15 Double\n")

-- the lines of a wider text: {head}{needed}perchan 1\n{end}
abbrev pub Row_40_11 : Type 0
Row_40_11 = Accepts commands.Test (text_head ++ text_needed ++ codes "perchan 1\n" ++ text_end ++ codes "\n")

-- the lines of a wider text: {head}{needed}perchan 12500\n{end}
abbrev pub Row_40_12 : Type 0
Row_40_12 =
    Accepts commands.Test
    (text_head ++ text_needed ++ codes "perchan 12500\n" ++ text_end ++ codes "\n")

-- the lines of a wider text: {head}{needed}perchan 12501\n{end}
abbrev pub Row_40_13 : Type 0
Row_40_13 =
    Refuses commands.Test
    (text_head ++ text_needed ++ codes "perchan 12501\n" ++ text_end ++ codes "\n")
    (codes "refused 15 Bad\n")

-- the lines of a wider text: {head}{needed}perchan 4294967295\n{end}
abbrev pub Row_40_14 : Type 0
Row_40_14 =
    Refuses commands.Test
    (text_head ++ text_needed ++ codes "perchan 4294967295\n" ++ text_end ++ codes "\n")
    (codes "refused 15 Bad\n")

-- the lines of a wider text: {head}{needed}perchan 4294967296\n{end}
abbrev pub Row_40_15 : Type 0
Row_40_15 =
    Refuses commands.Test
    (text_head ++ text_needed ++ codes "perchan 4294967296\n" ++ text_end ++ codes "\n")
    (codes "refused 14 Limit\n")

-- the lines of a wider text: {head}{needed}perchan 0\n{end}
abbrev pub Row_40_16 : Type 0
Row_40_16 =
    Refuses commands.Test
    (text_head ++ text_needed ++ codes "perchan 0\n" ++ text_end ++ codes "\n")
    (codes "refused 14 Limit\n")

-- the lines of a wider text: {head}{needed}perchan -1\n{end}
abbrev pub Row_40_17 : Type 0
Row_40_17 =
    Refuses commands.Test
    (text_head ++ text_needed ++ codes "perchan -1\n" ++ text_end ++ codes "\n")
    (codes "refused 14 BadNumber\n")

-- the lines of a wider text: {head}{needed}perchan\n{end}
abbrev pub Row_40_18 : Type 0
Row_40_18 =
    Refuses commands.Test
    (text_head ++ text_needed ++ codes "perchan\n" ++ text_end ++ codes "\n")
    (codes "refused 14 BadLine\n")

-- the lines of a wider text: {head}{needed}perchan 5 5\n{end}
abbrev pub Row_40_19 : Type 0
Row_40_19 =
    Refuses commands.Test
    (text_head ++ text_needed ++ codes "perchan 5 5\n" ++ text_end ++ codes "\n")
    (codes "refused 14 BadLine\n")

-- the lines of a wider text: {head}{needed}perchan 5\nperchan 5\n{end}
abbrev pub Row_40_20 : Type 0
Row_40_20 =
    Refuses commands.Test
    (text_head
    ++ text_needed
    ++ codes "perchan 5\n"
    ++ codes "perchan 5\n"
    ++ text_end
    ++ codes "\n")
    (codes "refused 15 Double\n")

-- the lines of a wider text: {head}{needed}scanfits\n{end}
abbrev pub Row_40_21 : Type 0
Row_40_21 = Accepts commands.Test (text_head ++ text_needed ++ codes "scanfits\n" ++ text_end ++ codes "\n")

-- the lines of a wider text: {head}{needed}scanfits yes\n{end}
abbrev pub Row_40_22 : Type 0
Row_40_22 =
    Refuses commands.Test
    (text_head ++ text_needed ++ codes "scanfits yes\n" ++ text_end ++ codes "\n")
    (codes "refused 14 BadLine\n")

-- the lines of a wider text: {head}{needed}scanfits\nscanfits\n{end}
abbrev pub Row_40_23 : Type 0
Row_40_23 =
    Refuses commands.Test
    (text_head
    ++ text_needed
    ++ codes "scanfits\n"
    ++ codes "scanfits\n"
    ++ text_end
    ++ codes "\n")
    (codes "refused 15 Double\n")

-- the lines of a wider text: {head}{needed}channels consecutive\n{end}
abbrev pub Row_40_24 : Type 0
Row_40_24 =
    Accepts commands.Test
    (text_head ++ text_needed ++ codes "channels consecutive\n" ++ text_end ++ codes "\n")

-- the lines of a wider text: {head}{needed}channels straight\n{end}
abbrev pub Row_40_25 : Type 0
Row_40_25 =
    Accepts commands.Test
    (text_head ++ text_needed ++ codes "channels straight\n" ++ text_end ++ codes "\n")

-- the lines of a wider text: {head}{needed}channels first\n{end}
abbrev pub Row_40_26 : Type 0
Row_40_26 =
    Accepts commands.Test
    (text_head ++ text_needed ++ codes "channels first\n" ++ text_end ++ codes "\n")

-- the lines of a wider text: {head}{needed}channels rising\n{end}
abbrev pub Row_40_27 : Type 0
Row_40_27 =
    Accepts commands.Test
    (text_head ++ text_needed ++ codes "channels rising\n" ++ text_end ++ codes "\n")

-- the lines of a wider text: {head}{needed}channels distinct\n{end}
abbrev pub Row_40_28 : Type 0
Row_40_28 =
    Accepts commands.Test
    (text_head ++ text_needed ++ codes "channels distinct\n" ++ text_end ++ codes "\n")

-- the lines of a wider text: {head}{needed}channels rising repeat\n{end}
abbrev pub Row_40_29 : Type 0
Row_40_29 =
    Accepts commands.Test
    (text_head ++ text_needed ++ codes "channels rising repeat\n" ++ text_end ++ codes "\n")

-- the lines of a wider text: {head}{needed}channels\n{end}
abbrev pub Row_40_30 : Type 0
Row_40_30 =
    Refuses commands.Test
    (text_head ++ text_needed ++ codes "channels\n" ++ text_end ++ codes "\n")
    (codes "refused 14 BadLine\n")

-- the lines of a wider text: {head}{needed}channels falling\n{end}
abbrev pub Row_40_31 : Type 0
Row_40_31 =
    Refuses commands.Test
    (text_head ++ text_needed ++ codes "channels falling\n" ++ text_end ++ codes "\n")
    (codes "refused 14 Unknown\n")

-- the lines of a wider text: {head}{needed}channels repeat\n{end}
abbrev pub Row_40_32 : Type 0
Row_40_32 =
    Refuses commands.Test
    (text_head ++ text_needed ++ codes "channels repeat\n" ++ text_end ++ codes "\n")
    (codes "refused 14 Unknown\n")

-- the lines of a wider text: {head}{needed}channels rising twice\n{end}
abbrev pub Row_40_33 : Type 0
Row_40_33 =
    Refuses commands.Test
    (text_head ++ text_needed ++ codes "channels rising twice\n" ++ text_end ++ codes "\n")
    (codes "refused 14 Unknown\n")

-- the lines of a wider text: {head}{needed}channels falling repeat\n{end}
abbrev pub Row_40_34 : Type 0
Row_40_34 =
    Refuses commands.Test
    (text_head ++ text_needed ++ codes "channels falling repeat\n" ++ text_end ++ codes "\n")
    (codes "refused 14 Unknown\n")

-- the lines of a wider text: {head}{needed}channels rising repeat 2\n{end}
abbrev pub Row_40_35 : Type 0
Row_40_35 =
    Refuses commands.Test
    (text_head ++ text_needed ++ codes "channels rising repeat 2\n" ++ text_end ++ codes "\n")
    (codes "refused 14 BadLine\n")

-- the lines of a wider text: {head}{needed}channels rising\nchannels distinct repeat\n{en
abbrev pub Row_40_36 : Type 0
Row_40_36 =
    Refuses commands.Test
    (text_head
    ++ text_needed
    ++ codes "channels rising\n"
    ++ codes "channels distinct repeat\n"
    ++ text_end
    ++ codes "\n")
    (codes "refused 15 Double\n")

-- the lines of a wider text: {head}{needed}samearef\n{end}
abbrev pub Row_40_37 : Type 0
Row_40_37 = Accepts commands.Test (text_head ++ text_needed ++ codes "samearef\n" ++ text_end ++ codes "\n")

-- the lines of a wider text: {head}{needed}samearef ground\n{end}
abbrev pub Row_40_38 : Type 0
Row_40_38 =
    Refuses commands.Test
    (text_head ++ text_needed ++ codes "samearef ground\n" ++ text_end ++ codes "\n")
    (codes "refused 14 BadLine\n")

-- the lines of a wider text: {head}{needed}samearef\nsamearef\n{end}
abbrev pub Row_40_39 : Type 0
Row_40_39 =
    Refuses commands.Test
    (text_head
    ++ text_needed
    ++ codes "samearef\n"
    ++ codes "samearef\n"
    ++ text_end
    ++ codes "\n")
    (codes "refused 15 Double\n")

-- the lines of a wider text: {head}{needed}samepolarity\n{end}
abbrev pub Row_40_40 : Type 0
Row_40_40 =
    Accepts commands.Test
    (text_head ++ text_needed ++ codes "samepolarity\n" ++ text_end ++ codes "\n")

-- the lines of a wider text: {head}{needed}samepolarity 1\n{end}
abbrev pub Row_40_41 : Type 0
Row_40_41 =
    Refuses commands.Test
    (text_head ++ text_needed ++ codes "samepolarity 1\n" ++ text_end ++ codes "\n")
    (codes "refused 14 BadLine\n")

-- the lines of a wider text: {head}{needed}samepolarity\nsamepolarity\n{end}
abbrev pub Row_40_42 : Type 0
Row_40_42 =
    Refuses commands.Test
    (text_head
    ++ text_needed
    ++ codes "samepolarity\n"
    ++ codes "samepolarity\n"
    ++ text_end
    ++ codes "\n")
    (codes "refused 15 Double\n")

-- the lines of a wider text: {head}{needed}samepolarities\n{end}
abbrev pub Row_40_43 : Type 0
Row_40_43 =
    Refuses commands.Test
    (text_head ++ text_needed ++ codes "samepolarities\n" ++ text_end ++ codes "\n")
    (codes "refused 14 Unknown\n")

-- the lines of a wider text: {head}{needed}flag readable\n{end}
abbrev pub Row_40_44 : Type 0
Row_40_44 =
    Accepts commands.Test
    (text_head ++ text_needed ++ codes "flag readable\n" ++ text_end ++ codes "\n")

-- the lines of a wider text: {head}{needed}flag ground\nflag common\nflag diff\nflag othe
abbrev pub Row_40_45 : Type 0
Row_40_45 =
    Accepts commands.Test
    (text_head
    ++ text_needed
    ++ codes "flag ground\n"
    ++ codes "flag common\n"
    ++ codes "flag diff\n"
    ++ codes "flag other\n"
    ++ codes "flag mmap\n"
    ++ codes "flag readable\n"
    ++ text_end
    ++ codes "\n")

-- the lines of a wider text: {head}{needed}flag\n{end}
abbrev pub Row_40_46 : Type 0
Row_40_46 =
    Refuses commands.Test
    (text_head ++ text_needed ++ codes "flag\n" ++ text_end ++ codes "\n")
    (codes "refused 14 BadLine\n")

-- the lines of a wider text: {head}{needed}flag ground diff\n{end}
abbrev pub Row_40_47 : Type 0
Row_40_47 =
    Refuses commands.Test
    (text_head ++ text_needed ++ codes "flag ground diff\n" ++ text_end ++ codes "\n")
    (codes "refused 14 BadLine\n")

-- the lines of a wider text: {head}{needed}flag plus\n{end}
abbrev pub Row_40_48 : Type 0
Row_40_48 =
    Refuses commands.Test
    (text_head ++ text_needed ++ codes "flag plus\n" ++ text_end ++ codes "\n")
    (codes "refused 14 Unknown\n")

-- the lines of a wider text: {head}{needed}flag diff\nflag diff\nflag diff\nflag diff\nfl
abbrev pub Row_40_49 : Type 0
Row_40_49 =
    Accepts commands.Test
    (text_head
    ++ text_needed
    ++ codes "flag diff\n"
    ++ codes "flag diff\n"
    ++ codes "flag diff\n"
    ++ codes "flag diff\n"
    ++ codes "flag diff\n"
    ++ codes "flag diff\n"
    ++ text_end
    ++ codes "\n")

-- the lines of a wider text: {head}{needed}flag diff\nflag diff\nflag diff\nflag diff\nfl
abbrev pub Row_40_50 : Type 0
Row_40_50 =
    Refuses commands.Test
    (text_head
    ++ text_needed
    ++ codes "flag diff\n"
    ++ codes "flag diff\n"
    ++ codes "flag diff\n"
    ++ codes "flag diff\n"
    ++ codes "flag diff\n"
    ++ codes "flag diff\n"
    ++ codes "flag mmap\n"
    ++ text_end
    ++ codes "\n")
    (codes "refused 20 Limit\n")

-- the lines of a wider text: zendrouz 1\nboard x\nsubdevice dio 4\nbits 1\nrange 0 1 0\nf
abbrev pub Row_40_51 : Type 0
Row_40_51 =
    Accepts commands.Test
    (codes "zendrouz 1\n"
    ++ codes "board x\n"
    ++ codes "subdevice dio 4\n"
    ++ codes "bits 1\n"
    ++ codes "range 0 1 0\n"
    ++ codes "flag readable\n"
    ++ text_end
    ++ codes "\n")

-- the lines of a wider text: {head}{needed}fifo 16 0\nchan 1 bits 8\ninvert\nsamerange\n{
abbrev pub Row_40_52 : Type 0
Row_40_52 =
    Accepts commands.Test
    (text_head
    ++ text_needed
    ++ codes "fifo 16 0\n"
    ++ codes "chan 1 bits 8\n"
    ++ codes "invert\n"
    ++ codes "samerange\n"
    ++ text_end
    ++ codes "\n")

-- where they may not stand: comedi 2\nboard x\nsubdevice ai 4\nrounds up\n
abbrev pub Row_94_1 : Type 0
Row_94_1 =
    Refuses commands.Test
    (codes "comedi 2\n"
    ++ codes "board x\n"
    ++ codes "subdevice ai 4\n"
    ++ codes "rounds up\n"
    ++ codes "\n")
    (codes "refused 4 Unknown\n")

-- where they may not stand: comedi 2\nboard x\nsubdevice ai 4\nhalfdown\n
abbrev pub Row_94_2 : Type 0
Row_94_2 =
    Refuses commands.Test
    (codes "comedi 2\n"
    ++ codes "board x\n"
    ++ codes "subdevice ai 4\n"
    ++ codes "halfdown\n"
    ++ codes "\n")
    (codes "refused 4 Unknown\n")

-- where they may not stand: comedi 2\nboard x\nsubdevice ai 4\nperchan 1\n
abbrev pub Row_94_3 : Type 0
Row_94_3 =
    Refuses commands.Test
    (codes "comedi 2\n"
    ++ codes "board x\n"
    ++ codes "subdevice ai 4\n"
    ++ codes "perchan 1\n"
    ++ codes "\n")
    (codes "refused 4 Unknown\n")

-- where they may not stand: comedi 2\nboard x\nsubdevice ai 4\nscanfits\n
abbrev pub Row_94_4 : Type 0
Row_94_4 =
    Refuses commands.Test
    (codes "comedi 2\n"
    ++ codes "board x\n"
    ++ codes "subdevice ai 4\n"
    ++ codes "scanfits\n"
    ++ codes "\n")
    (codes "refused 4 Unknown\n")

-- where they may not stand: comedi 1\nboard x\nsubdevice ai 4\nchannels rising\n
abbrev pub Row_94_5 : Type 0
Row_94_5 =
    Refuses commands.Test
    (codes "comedi 1\n"
    ++ codes "board x\n"
    ++ codes "subdevice ai 4\n"
    ++ codes "channels rising\n"
    ++ codes "\n")
    (codes "refused 4 Unknown\n")

-- where they may not stand: comedi 2\nboard x\nsubdevice ai 4\nsamearef\n
abbrev pub Row_94_6 : Type 0
Row_94_6 =
    Refuses commands.Test
    (codes "comedi 2\n"
    ++ codes "board x\n"
    ++ codes "subdevice ai 4\n"
    ++ codes "samearef\n"
    ++ codes "\n")
    (codes "refused 4 Unknown\n")

-- where they may not stand: comedi 2\nboard x\nsubdevice ai 4\nsamepolarity\n
abbrev pub Row_94_7 : Type 0
Row_94_7 =
    Refuses commands.Test
    (codes "comedi 2\n"
    ++ codes "board x\n"
    ++ codes "subdevice ai 4\n"
    ++ codes "samepolarity\n"
    ++ codes "\n")
    (codes "refused 4 Unknown\n")

-- where they may not stand: comedi 2\nboard x\nsubdevice ai 4\nflag ground\n
abbrev pub Row_94_8 : Type 0
Row_94_8 =
    Refuses commands.Test
    (codes "comedi 2\n"
    ++ codes "board x\n"
    ++ codes "subdevice ai 4\n"
    ++ codes "flag ground\n"
    ++ codes "\n")
    (codes "refused 4 Unknown\n")

-- where they may not stand: zendrouz 1\nboard x\nsubdevice unused 0\nflag mmap\n
abbrev pub Row_94_9 : Type 0
Row_94_9 =
    Refuses commands.Test
    (codes "zendrouz 1\n"
    ++ codes "board x\n"
    ++ codes "subdevice unused 0\n"
    ++ codes "flag mmap\n"
    ++ codes "\n")
    (codes "refused 4 Unknown\n")

-- where they may not stand: zendrouz 1\nboard x\nsubdevice dio 4\nbits 1\nrange 0 1 0\ns
abbrev pub Row_94_10 : Type 0
Row_94_10 =
    Refuses commands.Test
    (codes "zendrouz 1\n"
    ++ codes "board x\n"
    ++ codes "subdevice dio 4\n"
    ++ codes "bits 1\n"
    ++ codes "range 0 1 0\n"
    ++ codes "scanfits\n"
    ++ codes "\n")
    (codes "refused 6 Unknown\n")

-- where they may not stand: zendrouz 1\nboard x\nsubdevice ai 4\nbits 1\nrange 0 1 0\nsc
abbrev pub Row_94_11 : Type 0
Row_94_11 =
    Refuses commands.Test
    (codes "zendrouz 1\n"
    ++ codes "board x\n"
    ++ codes "subdevice ai 4\n"
    ++ codes "bits 1\n"
    ++ codes "range 0 1 0\n"
    ++ codes "scanfits\n"
    ++ text_end
    ++ codes "\n")
    (codes "refused 7 Missing\n")

-- where they may not stand: zendrouz 1\nboard x\nsubdevice unused 0\nsamearef\n
abbrev pub Row_94_12 : Type 0
Row_94_12 =
    Refuses commands.Test
    (codes "zendrouz 1\n"
    ++ codes "board x\n"
    ++ codes "subdevice unused 0\n"
    ++ codes "samearef\n"
    ++ codes "\n")
    (codes "refused 4 Unknown\n")

-- limits off the tick: {head}tick 100\nscan 1050 99999\nconvert 250 20050\nlist 8\n
abbrev pub Row_109_1 : Type 0
Row_109_1 =
    Accepts commands.Test
    (text_head
    ++ codes "tick 100\n"
    ++ codes "scan 1050 99999\n"
    ++ codes "convert 250 20050\n"
    ++ codes "list 8\n"
    ++ codes "lines 2\n"
    ++ codes "buffer 16\n"
    ++ text_end
    ++ codes "\n")

-- limits off the tick: {head}tick 100\nscan 1050 1099\nconvert 1 100\nlist 8\nlines
abbrev pub Row_109_2 : Type 0
Row_109_2 =
    Refuses commands.Test
    (text_head
    ++ codes "tick 100\n"
    ++ codes "scan 1050 1099\n"
    ++ codes "convert 1 100\n"
    ++ codes "list 8\n"
    ++ codes "lines 2\n"
    ++ codes "buffer 16\n"
    ++ text_end
    ++ codes "\n")
    (codes "refused 14 Bad\n")

-- limits off the tick: {head}tick 100\nscan 1050 1100\nconvert 1 100\nlist 8\nlines
abbrev pub Row_109_3 : Type 0
Row_109_3 =
    Accepts commands.Test
    (text_head
    ++ codes "tick 100\n"
    ++ codes "scan 1050 1100\n"
    ++ codes "convert 1 100\n"
    ++ codes "list 8\n"
    ++ codes "lines 2\n"
    ++ codes "buffer 16\n"
    ++ text_end
    ++ codes "\n")

-- limits off the tick: {head}tick 100\nscan 1050 99999\nconvert 101 199\nlist 8\nli
abbrev pub Row_109_4 : Type 0
Row_109_4 =
    Refuses commands.Test
    (text_head
    ++ codes "tick 100\n"
    ++ codes "scan 1050 99999\n"
    ++ codes "convert 101 199\n"
    ++ codes "list 8\n"
    ++ codes "lines 2\n"
    ++ codes "buffer 16\n"
    ++ text_end
    ++ codes "\n")
    (codes "refused 14 Bad\n")

-- limits off the tick: {head}tick 100\nscan 1050 99999\nconvert 101 200\nlist 8\nli
abbrev pub Row_109_5 : Type 0
Row_109_5 =
    Accepts commands.Test
    (text_head
    ++ codes "tick 100\n"
    ++ codes "scan 1050 99999\n"
    ++ codes "convert 101 200\n"
    ++ codes "list 8\n"
    ++ codes "lines 2\n"
    ++ codes "buffer 16\n"
    ++ text_end
    ++ codes "\n")

-- limits off the tick: {head}tick 100\nscan 1050 1650\nconvert 201 300\nlist 8\nlin
abbrev pub Row_109_6 : Type 0
Row_109_6 =
    Refuses commands.Test
    (text_head
    ++ codes "tick 100\n"
    ++ codes "scan 1050 1650\n"
    ++ codes "convert 201 300\n"
    ++ codes "list 8\n"
    ++ codes "lines 2\n"
    ++ codes "buffer 16\n"
    ++ text_end
    ++ codes "\n")
    (codes "refused 14 Bad\n")

-- limits off the tick: {head}tick 100\nscan 1050 2399\nconvert 201 300\nlist 8\nlin
abbrev pub Row_109_7 : Type 0
Row_109_7 =
    Refuses commands.Test
    (text_head
    ++ codes "tick 100\n"
    ++ codes "scan 1050 2399\n"
    ++ codes "convert 201 300\n"
    ++ codes "list 8\n"
    ++ codes "lines 2\n"
    ++ codes "buffer 16\n"
    ++ text_end
    ++ codes "\n")
    (codes "refused 14 Bad\n")

-- limits off the tick: {head}tick 100\nscan 1050 2400\nconvert 201 300\nlist 8\nlin
abbrev pub Row_109_8 : Type 0
Row_109_8 =
    Accepts commands.Test
    (text_head
    ++ codes "tick 100\n"
    ++ codes "scan 1050 2400\n"
    ++ codes "convert 201 300\n"
    ++ codes "list 8\n"
    ++ codes "lines 2\n"
    ++ codes "buffer 16\n"
    ++ text_end
    ++ codes "\n")

-- limits off the tick: {head}tick 100\nscan 1050 2450\nconvert 200 300\nlist 8\nlin
abbrev pub Row_109_9 : Type 0
Row_109_9 =
    Accepts commands.Test
    (text_head
    ++ codes "tick 100\n"
    ++ codes "scan 1050 2450\n"
    ++ codes "convert 200 300\n"
    ++ codes "list 8\n"
    ++ codes "lines 2\n"
    ++ codes "buffer 16\n"
    ++ codes "perchan 300\n"
    ++ text_end
    ++ codes "\n")

-- limits off the tick: {head}tick 100\nscan 1050 2450\nconvert 200 300\nlist 8\nlin
abbrev pub Row_109_10 : Type 0
Row_109_10 =
    Refuses commands.Test
    (text_head
    ++ codes "tick 100\n"
    ++ codes "scan 1050 2450\n"
    ++ codes "convert 200 300\n"
    ++ codes "list 8\n"
    ++ codes "lines 2\n"
    ++ codes "buffer 16\n"
    ++ codes "perchan 301\n"
    ++ text_end
    ++ codes "\n")
    (codes "refused 15 Bad\n")

-- limits off the tick: comedi 2\nboard x\nsubdevice ai 4\nbits 8\nrange 0 1 0\nsour
abbrev pub Row_109_11 : Type 0
Row_109_11 =
    Refuses commands.Test
    (codes "comedi 2\n"
    ++ codes "board x\n"
    ++ codes "subdevice ai 4\n"
    ++ codes "bits 8\n"
    ++ codes "range 0 1 0\n"
    ++ codes "sources now timer now count count\n"
    ++ codes "tick 100\n"
    ++ codes "scan 1050 2000\n"
    ++ codes "convert 100 100\n"
    ++ codes "list 8\n"
    ++ codes "buffer 16\n"
    ++ text_end
    ++ codes "\n")
    (codes "refused 12 Bad\n")

-- a scan grows with its list
abbrev pub Row_122 : Type 0
Row_122 =
    Answers commands.Test
    (text_head
    ++ text_needed
    ++ codes "perchan 1750\n"
    ++ text_end
    ++ codes "test 0 0 now:0 timer:1000 now:0 count:3 none:0 0/0/ground,1/0/ground,2/0/ground\n"
    ++ codes "test 0 0 now:0 timer:5249 now:0 count:3 none:0 0/0/ground,1/0/ground,2/0/ground\n"
    ++ codes "test 0 0 now:0 timer:5250 now:0 count:3 none:0 0/0/ground,1/0/ground,2/0/ground\n"
    ++ codes "test 0 65536 now:0 timer:5250 now:0 count:3 none:0 0/0/ground,1/0/ground,2/0/ground\n"
    ++ codes "test 0 65536 now:0 timer:5399 now:0 count:3 none:0 0/0/ground,1/0/ground,2/0/ground\n"
    ++ codes "test 0 0 now:0 timer:5400 timer:1800 count:3 none:0 0/0/ground,1/0/ground,2/0/ground\n"
    ++ codes "test 0 0 now:0 timer:1000 now:0 count:0 none:0 -\n"
    ++ codes "test 0 0 now:0 timer:1000 now:0 count:9 none:0 0/0/ground,0/0/ground,0/0/ground,0/0/"
    ++ codes "ground,0/0/ground,0/0/ground,0/0/ground,0/0/ground,0/0/ground\n"
    ++ codes "test 0 0 now:0 ext:0 now:0 count:1 none:0 0/0/ground\n"
    ++ codes "test 0 0 now:0 follow:0 timer:300 count:3 none:0 0/0/ground,1/0/ground,2/0/ground\n"
    ++ codes "test 0 0 now:0 timer:100001 now:0 count:3 none:0 0/0/ground,1/0/ground,2/0/ground\n")
    (codes "step 3 0 0 now:0 timer:5250 now:0 count:3 none:0 0/0/ground,1/0/ground,2/0/ground\n"
    ++ codes "step 3 0 0 now:0 timer:5250 now:0 count:3 none:0 0/0/ground,1/0/ground,2/0/ground\n"
    ++ codes "step 4 0 0 now:0 timer:5300 now:0 count:3 none:0 0/0/ground,1/0/ground,2/0/ground\n"
    ++ codes "step 4 0 65536 now:0 timer:5300 now:0 count:3 none:0 0/0/ground,1/0/ground,2/0/groun"
    ++ codes "d\n"
    ++ codes "step 4 0 65536 now:0 timer:5300 now:0 count:3 none:0 0/0/ground,1/0/ground,2/0/groun"
    ++ codes "d\n"
    ++ codes "step 0 0 0 now:0 timer:5400 timer:1800 count:3 none:0 0/0/ground,1/0/ground,2/0/grou"
    ++ codes "nd\n"
    ++ codes "step 3 0 0 now:0 timer:1750 now:0 count:0 none:0 -\n"
    ++ codes "step 3 0 0 now:0 timer:14000 now:0 count:9 none:0 0/0/ground,0/0/ground,0/0/ground,0"
    ++ codes "/0/ground,0/0/ground,0/0/ground,0/0/ground,0/0/ground,0/0/ground\n"
    ++ codes "step 0 0 0 now:0 ext:0 now:0 count:1 none:0 0/0/ground\n"
    ++ codes "step 0 0 0 now:0 follow:0 timer:300 count:3 none:0 0/0/ground,1/0/ground,2/0/ground\n"
    ++ codes "step 3 0 0 now:0 timer:100000 now:0 count:3 none:0 0/0/ground,1/0/ground,2/0/ground\n")

-- a scan that is shorter than its conversions is outside its limits
abbrev pub Row_150 : Type 0
Row_150 =
    Answers commands.Test
    (text_head
    ++ text_needed
    ++ codes "scanfits\n"
    ++ text_end
    ++ codes "test 0 0 now:0 timer:1000 timer:1000 count:3 none:0 0/0/ground,1/0/ground,2/0/ground\n"
    ++ codes "test 0 0 now:0 timer:1000 timer:100 count:3 none:0 0/0/ground,1/0/ground,2/0/ground\n"
    ++ codes "test 0 131072 now:0 timer:3000 timer:1040 count:3 none:0 0/0/ground,1/0/ground,2/0/g"
    ++ codes "round\n"
    ++ codes "test 0 131072 now:0 timer:3100 timer:1040 count:3 none:0 0/0/ground,1/0/ground,2/0/g"
    ++ codes "round\n"
    ++ codes "test 0 0 now:0 timer:1000 now:0 count:3 none:0 0/0/ground,1/0/ground,2/0/ground\n"
    ++ codes "test 0 0 now:0 timer:1000 ext:1 count:3 none:0 0/0/ground,1/0/ground,2/0/ground\n"
    ++ codes "test 0 0 now:0 timer:100000 timer:20001 count:3 none:0 0/0/ground,1/0/ground,2/0/gro"
    ++ codes "und\n")
    (codes "step 3 0 0 now:0 timer:3000 timer:1000 count:3 none:0 0/0/ground,1/0/ground,2/0/grou"
    ++ codes "nd\n"
    ++ codes "step 3 0 0 now:0 timer:1000 timer:300 count:3 none:0 0/0/ground,1/0/ground,2/0/groun"
    ++ codes "d\n"
    ++ codes "step 3 0 131072 now:0 timer:3120 timer:1040 count:3 none:0 0/0/ground,1/0/ground,2/0"
    ++ codes "/ground\n"
    ++ codes "step 3 0 131072 now:0 timer:3120 timer:1040 count:3 none:0 0/0/ground,1/0/ground,2/0"
    ++ codes "/ground\n"
    ++ codes "step 0 0 0 now:0 timer:1000 now:0 count:3 none:0 0/0/ground,1/0/ground,2/0/ground\n"
    ++ codes "step 1 0 0 now:0 timer:1000 invalid:1 count:3 none:0 0/0/ground,1/0/ground,2/0/groun"
    ++ codes "d\n"
    ++ codes "step 3 0 0 now:0 timer:100000 timer:20000 count:3 none:0 0/0/ground,1/0/ground,2/0/g"
    ++ codes "round\n")

-- without that line it is made longer in step 4
abbrev pub Row_170 : Type 0
Row_170 =
    Answers commands.Test
    (text_head
    ++ text_needed
    ++ text_end
    ++ codes "test 0 0 now:0 timer:1000 timer:1000 count:3 none:0 0/0/ground,1/0/ground,2/0/ground\n"
    ++ codes "test 0 0 now:0 timer:1000 timer:100 count:3 none:0 0/0/ground,1/0/ground,2/0/ground\n")
    (codes "step 4 0 0 now:0 timer:3000 timer:1000 count:3 none:0 0/0/ground,1/0/ground,2/0/grou"
    ++ codes "nd\n"
    ++ codes "step 3 0 0 now:0 timer:1000 timer:300 count:3 none:0 0/0/ground,1/0/ground,2/0/groun"
    ++ codes "d\n")

-- rounding: next is nearest
abbrev pub Row_179 : Type 0
Row_179 =
    Answers commands.Test
    (text_head
    ++ text_needed
    ++ text_end
    ++ codes "test 0 196608 now:0 timer:1149 now:0 count:1 none:0 0/0/ground\n"
    ++ codes "test 0 196608 now:0 timer:1150 now:0 count:1 none:0 0/0/ground\n"
    ++ codes "test 0 131072 now:0 timer:1101 now:0 count:1 none:0 0/0/ground\n"
    ++ codes "test 0 0 now:0 timer:1150 now:0 count:1 none:0 0/0/ground\n"
    ++ codes "test 0 65536 now:0 timer:1199 now:0 count:1 none:0 0/0/ground\n")
    (codes "step 4 0 196608 now:0 timer:1100 now:0 count:1 none:0 0/0/ground\n"
    ++ codes "step 4 0 196608 now:0 timer:1200 now:0 count:1 none:0 0/0/ground\n"
    ++ codes "step 4 0 131072 now:0 timer:1200 now:0 count:1 none:0 0/0/ground\n"
    ++ codes "step 4 0 0 now:0 timer:1200 now:0 count:1 none:0 0/0/ground\n"
    ++ codes "step 4 0 65536 now:0 timer:1100 now:0 count:1 none:0 0/0/ground\n")

-- rounds nearest
abbrev pub Row_194 : Type 0
Row_194 =
    Answers commands.Test
    (text_head
    ++ text_needed
    ++ codes "rounds nearest\n"
    ++ text_end
    ++ codes "test 0 0 now:0 timer:1149 now:0 count:1 none:0 0/0/ground\n"
    ++ codes "test 0 65536 now:0 timer:1149 now:0 count:1 none:0 0/0/ground\n"
    ++ codes "test 0 131072 now:0 timer:1149 now:0 count:1 none:0 0/0/ground\n"
    ++ codes "test 0 196608 now:0 timer:1149 now:0 count:1 none:0 0/0/ground\n"
    ++ codes "test 0 0 now:0 timer:1150 now:0 count:1 none:0 0/0/ground\n"
    ++ codes "test 0 65536 now:0 timer:1150 now:0 count:1 none:0 0/0/ground\n"
    ++ codes "test 0 0 now:0 timer:1151 now:0 count:1 none:0 0/0/ground\n"
    ++ codes "test 0 131072 now:0 timer:1151 now:0 count:1 none:0 0/0/ground\n")
    (codes "step 4 0 0 now:0 timer:1100 now:0 count:1 none:0 0/0/ground\n"
    ++ codes "step 4 0 65536 now:0 timer:1100 now:0 count:1 none:0 0/0/ground\n"
    ++ codes "step 4 0 131072 now:0 timer:1100 now:0 count:1 none:0 0/0/ground\n"
    ++ codes "step 4 0 196608 now:0 timer:1100 now:0 count:1 none:0 0/0/ground\n"
    ++ codes "step 4 0 0 now:0 timer:1200 now:0 count:1 none:0 0/0/ground\n"
    ++ codes "step 4 0 65536 now:0 timer:1200 now:0 count:1 none:0 0/0/ground\n"
    ++ codes "step 4 0 0 now:0 timer:1200 now:0 count:1 none:0 0/0/ground\n"
    ++ codes "step 4 0 131072 now:0 timer:1200 now:0 count:1 none:0 0/0/ground\n")

-- rounds down
abbrev pub Row_216 : Type 0
Row_216 =
    Answers commands.Test
    (text_head
    ++ text_needed
    ++ codes "rounds down\n"
    ++ text_end
    ++ codes "test 0 0 now:0 timer:1149 now:0 count:1 none:0 0/0/ground\n"
    ++ codes "test 0 65536 now:0 timer:1149 now:0 count:1 none:0 0/0/ground\n"
    ++ codes "test 0 131072 now:0 timer:1149 now:0 count:1 none:0 0/0/ground\n"
    ++ codes "test 0 196608 now:0 timer:1149 now:0 count:1 none:0 0/0/ground\n"
    ++ codes "test 0 0 now:0 timer:1150 now:0 count:1 none:0 0/0/ground\n"
    ++ codes "test 0 65536 now:0 timer:1150 now:0 count:1 none:0 0/0/ground\n"
    ++ codes "test 0 0 now:0 timer:1151 now:0 count:1 none:0 0/0/ground\n"
    ++ codes "test 0 131072 now:0 timer:1151 now:0 count:1 none:0 0/0/ground\n")
    (codes "step 4 0 0 now:0 timer:1100 now:0 count:1 none:0 0/0/ground\n"
    ++ codes "step 4 0 65536 now:0 timer:1100 now:0 count:1 none:0 0/0/ground\n"
    ++ codes "step 4 0 131072 now:0 timer:1100 now:0 count:1 none:0 0/0/ground\n"
    ++ codes "step 4 0 196608 now:0 timer:1100 now:0 count:1 none:0 0/0/ground\n"
    ++ codes "step 4 0 0 now:0 timer:1100 now:0 count:1 none:0 0/0/ground\n"
    ++ codes "step 4 0 65536 now:0 timer:1100 now:0 count:1 none:0 0/0/ground\n"
    ++ codes "step 4 0 0 now:0 timer:1100 now:0 count:1 none:0 0/0/ground\n"
    ++ codes "step 4 0 131072 now:0 timer:1100 now:0 count:1 none:0 0/0/ground\n")

-- rounds up
abbrev pub Row_238 : Type 0
Row_238 =
    Answers commands.Test
    (text_head
    ++ text_needed
    ++ codes "rounds up\n"
    ++ text_end
    ++ codes "test 0 0 now:0 timer:1149 now:0 count:1 none:0 0/0/ground\n"
    ++ codes "test 0 65536 now:0 timer:1149 now:0 count:1 none:0 0/0/ground\n"
    ++ codes "test 0 131072 now:0 timer:1149 now:0 count:1 none:0 0/0/ground\n"
    ++ codes "test 0 196608 now:0 timer:1149 now:0 count:1 none:0 0/0/ground\n"
    ++ codes "test 0 0 now:0 timer:1150 now:0 count:1 none:0 0/0/ground\n"
    ++ codes "test 0 65536 now:0 timer:1150 now:0 count:1 none:0 0/0/ground\n"
    ++ codes "test 0 0 now:0 timer:1151 now:0 count:1 none:0 0/0/ground\n"
    ++ codes "test 0 131072 now:0 timer:1151 now:0 count:1 none:0 0/0/ground\n")
    (codes "step 4 0 0 now:0 timer:1200 now:0 count:1 none:0 0/0/ground\n"
    ++ codes "step 4 0 65536 now:0 timer:1200 now:0 count:1 none:0 0/0/ground\n"
    ++ codes "step 4 0 131072 now:0 timer:1200 now:0 count:1 none:0 0/0/ground\n"
    ++ codes "step 4 0 196608 now:0 timer:1200 now:0 count:1 none:0 0/0/ground\n"
    ++ codes "step 4 0 0 now:0 timer:1200 now:0 count:1 none:0 0/0/ground\n"
    ++ codes "step 4 0 65536 now:0 timer:1200 now:0 count:1 none:0 0/0/ground\n"
    ++ codes "step 4 0 0 now:0 timer:1200 now:0 count:1 none:0 0/0/ground\n"
    ++ codes "step 4 0 131072 now:0 timer:1200 now:0 count:1 none:0 0/0/ground\n")

-- of two times that are as near the lower
abbrev pub Row_260 : Type 0
Row_260 =
    Answers commands.Test
    (text_head
    ++ text_needed
    ++ codes "halfdown\n"
    ++ text_end
    ++ codes "test 0 0 now:0 timer:1150 now:0 count:1 none:0 0/0/ground\n"
    ++ codes "test 0 0 now:0 timer:1151 now:0 count:1 none:0 0/0/ground\n"
    ++ codes "test 0 0 now:0 timer:1149 now:0 count:1 none:0 0/0/ground\n"
    ++ codes "test 0 196608 now:0 timer:1150 now:0 count:1 none:0 0/0/ground\n"
    ++ codes "test 0 131072 now:0 timer:1150 now:0 count:1 none:0 0/0/ground\n"
    ++ codes "test 0 65536 now:0 timer:1150 now:0 count:1 none:0 0/0/ground\n"
    ++ codes "test 0 0 now:0 timer:9999 timer:350 count:3 none:0 0/0/ground,1/0/ground,2/0/ground\n"
    ++ codes "test 0 0 now:0 timer:1000 timer:350 count:3 none:0 0/0/ground,1/0/ground,2/0/ground\n")
    (codes "step 4 0 0 now:0 timer:1100 now:0 count:1 none:0 0/0/ground\n"
    ++ codes "step 4 0 0 now:0 timer:1200 now:0 count:1 none:0 0/0/ground\n"
    ++ codes "step 4 0 0 now:0 timer:1100 now:0 count:1 none:0 0/0/ground\n"
    ++ codes "step 4 0 196608 now:0 timer:1100 now:0 count:1 none:0 0/0/ground\n"
    ++ codes "step 4 0 131072 now:0 timer:1200 now:0 count:1 none:0 0/0/ground\n"
    ++ codes "step 4 0 65536 now:0 timer:1100 now:0 count:1 none:0 0/0/ground\n"
    ++ codes "step 4 0 0 now:0 timer:10000 timer:300 count:3 none:0 0/0/ground,1/0/ground,2/0/grou"
    ++ codes "nd\n"
    ++ codes "step 4 0 0 now:0 timer:1000 timer:300 count:3 none:0 0/0/ground,1/0/ground,2/0/groun"
    ++ codes "d\n")

-- of two times that are as near the lower, where the board rounds so
abbrev pub Row_282 : Type 0
Row_282 =
    Answers commands.Test
    (text_head
    ++ text_needed
    ++ codes "halfdown\n"
    ++ codes "rounds nearest\n"
    ++ text_end
    ++ codes "test 0 0 now:0 timer:1150 now:0 count:1 none:0 0/0/ground\n"
    ++ codes "test 0 65536 now:0 timer:1150 now:0 count:1 none:0 0/0/ground\n"
    ++ codes "test 0 131072 now:0 timer:1150 now:0 count:1 none:0 0/0/ground\n"
    ++ codes "test 0 196608 now:0 timer:1150 now:0 count:1 none:0 0/0/ground\n")
    (codes "step 4 0 0 now:0 timer:1100 now:0 count:1 none:0 0/0/ground\n"
    ++ codes "step 4 0 65536 now:0 timer:1100 now:0 count:1 none:0 0/0/ground\n"
    ++ codes "step 4 0 131072 now:0 timer:1100 now:0 count:1 none:0 0/0/ground\n"
    ++ codes "step 4 0 196608 now:0 timer:1100 now:0 count:1 none:0 0/0/ground\n")

-- limits off the tick
abbrev pub Row_297 : Type 0
Row_297 =
    Answers commands.Test
    (text_head
    ++ codes "tick 100\n"
    ++ codes "scan 1050 99980\n"
    ++ codes "convert 250 20050\n"
    ++ codes "list 8\n"
    ++ codes "lines 2\n"
    ++ codes "buffer 16\n"
    ++ text_end
    ++ codes "test 0 0 now:0 timer:1000 now:0 count:1 none:0 0/0/ground\n"
    ++ codes "test 0 65536 now:0 timer:1050 now:0 count:1 none:0 0/0/ground\n"
    ++ codes "test 0 131072 now:0 timer:1050 now:0 count:1 none:0 0/0/ground\n"
    ++ codes "test 0 0 now:0 timer:1050 now:0 count:1 none:0 0/0/ground\n"
    ++ codes "test 0 131072 now:0 timer:99980 now:0 count:1 none:0 0/0/ground\n"
    ++ codes "test 0 131072 now:0 timer:99999 now:0 count:1 none:0 0/0/ground\n"
    ++ codes "test 0 0 now:0 timer:99980 now:0 count:1 none:0 0/0/ground\n"
    ++ codes "test 0 65536 now:0 timer:5000 timer:250 count:3 none:0 0/0/ground,1/0/ground,2/0/gro"
    ++ codes "und\n"
    ++ codes "test 0 65536 now:0 timer:5000 timer:240 count:3 none:0 0/0/ground,1/0/ground,2/0/gro"
    ++ codes "und\n"
    ++ codes "test 0 131072 now:0 timer:99980 timer:33300 count:3 none:0 0/0/ground,1/0/ground,2/0"
    ++ codes "/ground\n"
    ++ codes "test 0 131072 now:0 timer:99980 timer:20050 count:1 none:0 0/0/ground\n"
    ++ codes "test 0 131072 now:0 timer:99980 timer:12490 count:8 none:0 0/0/ground,0/0/ground,0/0"
    ++ codes "/ground,0/0/ground,0/0/ground,0/0/ground,0/0/ground,0/0/ground\n"
    ++ codes "test 0 131072 now:0 timer:99980 timer:12500 count:8 none:0 0/0/ground,0/0/ground,0/0"
    ++ codes "/ground,0/0/ground,0/0/ground,0/0/ground,0/0/ground,0/0/ground\n"
    ++ codes "test 0 131072 now:0 ext:0 timer:20050 count:1 none:0 0/0/ground\n"
    ++ codes "test 0 65536 now:0 ext:0 timer:250 count:1 none:0 0/0/ground\n")
    (codes "step 3 0 0 now:0 timer:1050 now:0 count:1 none:0 0/0/ground\n"
    ++ codes "step 4 0 65536 now:0 timer:1100 now:0 count:1 none:0 0/0/ground\n"
    ++ codes "step 4 0 131072 now:0 timer:1100 now:0 count:1 none:0 0/0/ground\n"
    ++ codes "step 4 0 0 now:0 timer:1100 now:0 count:1 none:0 0/0/ground\n"
    ++ codes "step 4 0 131072 now:0 timer:99900 now:0 count:1 none:0 0/0/ground\n"
    ++ codes "step 3 0 131072 now:0 timer:99980 now:0 count:1 none:0 0/0/ground\n"
    ++ codes "step 4 0 0 now:0 timer:99900 now:0 count:1 none:0 0/0/ground\n"
    ++ codes "step 4 0 65536 now:0 timer:5000 timer:300 count:3 none:0 0/0/ground,1/0/ground,2/0/g"
    ++ codes "round\n"
    ++ codes "step 3 0 65536 now:0 timer:5000 timer:250 count:3 none:0 0/0/ground,1/0/ground,2/0/g"
    ++ codes "round\n"
    ++ codes "step 3 0 131072 now:0 timer:99980 timer:20050 count:3 none:0 0/0/ground,1/0/ground,2"
    ++ codes "/0/ground\n"
    ++ codes "step 4 0 131072 now:0 timer:99900 timer:20000 count:1 none:0 0/0/ground\n"
    ++ codes "step 3 0 131072 now:0 timer:99980 timer:12400 count:8 none:0 0/0/ground,0/0/ground,0"
    ++ codes "/0/ground,0/0/ground,0/0/ground,0/0/ground,0/0/ground,0/0/ground\n"
    ++ codes "step 3 0 131072 now:0 timer:99980 timer:12400 count:8 none:0 0/0/ground,0/0/ground,0"
    ++ codes "/0/ground,0/0/ground,0/0/ground,0/0/ground,0/0/ground,0/0/ground\n"
    ++ codes "step 4 0 131072 now:0 ext:0 timer:20000 count:1 none:0 0/0/ground\n"
    ++ codes "step 4 0 65536 now:0 ext:0 timer:300 count:1 none:0 0/0/ground\n")

-- an odd tick
abbrev pub Row_337 : Type 0
Row_337 =
    Answers commands.Test
    (text_head
    ++ codes "tick 333\n"
    ++ codes "scan 1000 99980\n"
    ++ codes "convert 250 20050\n"
    ++ codes "list 8\n"
    ++ codes "lines 2\n"
    ++ codes "buffer 16\n"
    ++ codes "halfdown\n"
    ++ text_end
    ++ codes "test 0 0 now:0 timer:1000 now:0 count:1 none:0 0/0/ground\n"
    ++ codes "test 0 0 now:0 timer:1165 now:0 count:1 none:0 0/0/ground\n"
    ++ codes "test 0 0 now:0 timer:1166 now:0 count:1 none:0 0/0/ground\n"
    ++ codes "test 0 0 now:0 timer:1500 timer:499 count:3 none:0 0/0/ground,1/0/ground,2/0/ground\n"
    ++ codes "test 0 0 now:0 timer:1500 timer:500 count:3 none:0 0/0/ground,1/0/ground,2/0/ground\n")
    (codes "step 4 0 0 now:0 timer:1332 now:0 count:1 none:0 0/0/ground\n"
    ++ codes "step 4 0 0 now:0 timer:1332 now:0 count:1 none:0 0/0/ground\n"
    ++ codes "step 4 0 0 now:0 timer:1332 now:0 count:1 none:0 0/0/ground\n"
    ++ codes "step 4 0 0 now:0 timer:1665 timer:333 count:3 none:0 0/0/ground,1/0/ground,2/0/groun"
    ++ codes "d\n"
    ++ codes "step 4 0 0 now:0 timer:1998 timer:666 count:3 none:0 0/0/ground,1/0/ground,2/0/groun"
    ++ codes "d\n")

-- all rules of a list together
abbrev pub Row_358 : Type 0
Row_358 =
    Answers commands.Test
    (text_head
    ++ text_needed
    ++ codes "samepolarity\n"
    ++ codes "samearef\n"
    ++ codes "channels rising\n"
    ++ codes "samerange\n"
    ++ text_end
    ++ codes "test 0 0 now:0 timer:10000 now:0 count:2 none:0 0/0/diff,1/0/diff\n"
    ++ codes "test 0 0 now:0 timer:10000 now:0 count:3 none:0 0/1/diff,2/1/diff,3/1/diff\n"
    ++ codes "test 0 0 now:0 timer:10000 now:0 count:2 none:0 0/1/diff,2/0/diff\n"
    ++ codes "test 0 0 now:0 timer:10000 now:0 count:2 none:0 0/1/diff,2/1/common\n"
    ++ codes "test 0 0 now:0 timer:10000 now:0 count:2 none:0 2/1/diff,0/1/diff\n")
    (codes "step 0 0 0 now:0 timer:10000 now:0 count:2 none:0 0/0/diff,1/0/diff\n"
    ++ codes "step 0 0 0 now:0 timer:10000 now:0 count:3 none:0 0/1/diff,2/1/diff,3/1/diff\n"
    ++ codes "step 5 0 0 now:0 timer:10000 now:0 count:2 none:0 0/1/diff,2/0/diff\n"
    ++ codes "step 5 0 0 now:0 timer:10000 now:0 count:2 none:0 0/1/diff,2/1/common\n"
    ++ codes "step 5 0 0 now:0 timer:10000 now:0 count:2 none:0 2/1/diff,0/1/diff\n")

-- conversions that follow each other
abbrev pub Row_393 : Type 0
Row_393 =
    Answers commands.Test
    (text_follows
    ++ text_end
    ++ codes "test 0 0 now:0 timer:1000 follow:0 count:2 none:0 0/0/ground,1/0/ground\n"
    ++ codes "test 0 0 now:0 ext:1 follow:0 count:3 count:5 0/0/ground,1/0/ground,2/0/ground\n"
    ++ codes "test 0 0 now:0 follow:0 follow:0 count:2 none:0 0/0/ground,1/0/ground\n"
    ++ codes "test 0 0 now:0 follow:0 now:0 count:2 none:0 0/0/ground,1/0/ground\n"
    ++ codes "test 0 0 now:0 timer:1000 follow:7 count:2 none:0 0/0/ground,1/0/ground\n"
    ++ codes "test 0 0 now:0 timer:1000 now|follow:0 count:2 none:0 0/0/ground,1/0/ground\n"
    ++ codes "test 0 0 now:0 timer:1000 follow|timer:0 count:1 none:0 0/0/ground\n"
    ++ codes "test 0 0 now:0 timer:1010 follow:0 count:1 none:0 0/0/ground\n")
    (codes "step 0 0 0 now:0 timer:1000 follow:0 count:2 none:0 0/0/ground,1/0/ground\n"
    ++ codes "step 0 0 0 now:0 ext:1 follow:0 count:3 count:5 0/0/ground,1/0/ground,2/0/ground\n"
    ++ codes "step 2 0 0 now:0 follow:0 follow:0 count:2 none:0 0/0/ground,1/0/ground\n"
    ++ codes "step 2 0 0 now:0 follow:0 now:0 count:2 none:0 0/0/ground,1/0/ground\n"
    ++ codes "step 3 0 0 now:0 timer:1000 follow:0 count:2 none:0 0/0/ground,1/0/ground\n"
    ++ codes "step 2 0 0 now:0 timer:1000 now|follow:0 count:2 none:0 0/0/ground,1/0/ground\n"
    ++ codes "step 2 0 0 now:0 timer:1000 follow|timer:0 count:1 none:0 0/0/ground\n"
    ++ codes "step 4 0 0 now:0 timer:1000 follow:0 count:1 none:0 0/0/ground\n")

-- conversions that follow each other come at the scan's start
abbrev pub Row_413 : Type 0
Row_413 =
    Answers commands.Expand
    (text_follows
    ++ codes "signals 100000\n"
    ++ codes "wave 0 0 square 0 1 5000\n"
    ++ codes "wave 0 2 const 1\n"
    ++ codes "edges 1 500 1500 4000 6000 9000\n"
    ++ codes "session\n"
    ++ codes "expand 0 0 0 now:0 timer:1000 follow:0 count:3 count:3 0/0/ground,1/0/ground,2/0/gro"
    ++ codes "und\n"
    ++ codes "expand 10 0 0 now:0 ext:1 follow:0 count:2 none:0 0/0/ground,2/0/ground\n")
    (codes "0 0 0\n"
    ++ codes "0 1 0\n"
    ++ codes "0 2 1\n"
    ++ codes "1000 0 0\n"
    ++ codes "1000 1 0\n"
    ++ codes "1000 2 1\n"
    ++ codes "2000 0 0\n"
    ++ codes "2000 1 0\n"
    ++ codes "2000 2 1\n"
    ++ codes "done\n"
    ++ codes "500 0 0\n"
    ++ codes "500 1 1\n"
    ++ codes "1500 0 0\n"
    ++ codes "1500 1 1\n"
    ++ codes "4000 0 1\n"
    ++ codes "4000 1 1\n"
    ++ codes "6000 0 0\n"
    ++ codes "6000 1 1\n"
    ++ codes "9000 0 1\n"
    ++ codes "9000 1 1\n"
    ++ codes "dry\n")

-- they need a wider text: comedi 2\nboard x\nsubdevice di 4\nbits 1\nrange 0 1 2\nsour
abbrev pub Row_444_1 : Type 0
Row_444_1 =
    Refuses commands.Test
    (codes "comedi 2\n"
    ++ codes "board x\n"
    ++ codes "subdevice di 4\n"
    ++ codes "bits 1\n"
    ++ codes "range 0 1 2\n"
    ++ codes "sources now timer now|follow count none\n"
    ++ codes "\n")
    (codes "refused 6 Limit\n")

-- all of them
pub record AreWide : Type 0 where
  pub row_28_1 : Row_28_1
  pub row_28_2 : Row_28_2
  pub row_28_3 : Row_28_3
  pub row_28_4 : Row_28_4
  pub row_28_5 : Row_28_5
  pub row_28_6 : Row_28_6
  pub row_28_7 : Row_28_7
  pub row_28_8 : Row_28_8
  pub row_28_9 : Row_28_9
  pub row_28_10 : Row_28_10
  pub row_40_1 : Row_40_1
  pub row_40_2 : Row_40_2
  pub row_40_3 : Row_40_3
  pub row_40_4 : Row_40_4
  pub row_40_5 : Row_40_5
  pub row_40_6 : Row_40_6
  pub row_40_7 : Row_40_7
  pub row_40_8 : Row_40_8
  pub row_40_9 : Row_40_9
  pub row_40_10 : Row_40_10
  pub row_40_11 : Row_40_11
  pub row_40_12 : Row_40_12
  pub row_40_13 : Row_40_13
  pub row_40_14 : Row_40_14
  pub row_40_15 : Row_40_15
  pub row_40_16 : Row_40_16
  pub row_40_17 : Row_40_17
  pub row_40_18 : Row_40_18
  pub row_40_19 : Row_40_19
  pub row_40_20 : Row_40_20
  pub row_40_21 : Row_40_21
  pub row_40_22 : Row_40_22
  pub row_40_23 : Row_40_23
  pub row_40_24 : Row_40_24
  pub row_40_25 : Row_40_25
  pub row_40_26 : Row_40_26
  pub row_40_27 : Row_40_27
  pub row_40_28 : Row_40_28
  pub row_40_29 : Row_40_29
  pub row_40_30 : Row_40_30
  pub row_40_31 : Row_40_31
  pub row_40_32 : Row_40_32
  pub row_40_33 : Row_40_33
  pub row_40_34 : Row_40_34
  pub row_40_35 : Row_40_35
  pub row_40_36 : Row_40_36
  pub row_40_37 : Row_40_37
  pub row_40_38 : Row_40_38
  pub row_40_39 : Row_40_39
  pub row_40_40 : Row_40_40
  pub row_40_41 : Row_40_41
  pub row_40_42 : Row_40_42
  pub row_40_43 : Row_40_43
  pub row_40_44 : Row_40_44
  pub row_40_45 : Row_40_45
  pub row_40_46 : Row_40_46
  pub row_40_47 : Row_40_47
  pub row_40_48 : Row_40_48
  pub row_40_49 : Row_40_49
  pub row_40_50 : Row_40_50
  pub row_40_51 : Row_40_51
  pub row_40_52 : Row_40_52
  pub row_94_1 : Row_94_1
  pub row_94_2 : Row_94_2
  pub row_94_3 : Row_94_3
  pub row_94_4 : Row_94_4
  pub row_94_5 : Row_94_5
  pub row_94_6 : Row_94_6
  pub row_94_7 : Row_94_7
  pub row_94_8 : Row_94_8
  pub row_94_9 : Row_94_9
  pub row_94_10 : Row_94_10
  pub row_94_11 : Row_94_11
  pub row_94_12 : Row_94_12
  pub row_109_1 : Row_109_1
  pub row_109_2 : Row_109_2
  pub row_109_3 : Row_109_3
  pub row_109_4 : Row_109_4
  pub row_109_5 : Row_109_5
  pub row_109_6 : Row_109_6
  pub row_109_7 : Row_109_7
  pub row_109_8 : Row_109_8
  pub row_109_9 : Row_109_9
  pub row_109_10 : Row_109_10
  pub row_109_11 : Row_109_11
  pub row_122 : Row_122
  pub row_150 : Row_150
  pub row_170 : Row_170
  pub row_179 : Row_179
  pub row_194 : Row_194
  pub row_216 : Row_216
  pub row_238 : Row_238
  pub row_260 : Row_260
  pub row_282 : Row_282
  pub row_297 : Row_297
  pub row_337 : Row_337
  pub row_358 : Row_358
  pub row_393 : Row_393
  pub row_413 : Row_413
  pub row_444_1 : Row_444_1
