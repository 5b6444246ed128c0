-- Made by tools/make_examples: the examples of `tests/buffers.rows`
use Rattle.std.specs.Prelude.{codes, ℕ, List, ◌++◌}
use Rattle.cm_cli.specs.declared.command.Command.TheVariants as commands
use Rattle.cm_examples.specs.Answering.{Answers}

-- the text `large`
abbrev pub text_large : List ℕ
text_large =
    codes "zendrouz 1\n"
    ++ codes "board large\n"
    ++ codes "subdevice ai 1\n"
    ++ codes "bits 16\n"
    ++ codes "range 0 65535 0\n"
    ++ codes "sources now timer now|timer count none|count\n"
    ++ codes "tick 1\n"
    ++ codes "scan 1 4294967295\n"
    ++ codes "convert 1 1\n"
    ++ codes "list 1024\n"
    ++ codes "scans 4294967295\n"
    ++ codes "lines 0\n"
    ++ codes "buffer 1048576\n"

-- the text `far`
abbrev pub text_far : List ℕ
text_far =
    codes "signals 1000000000000000\n"
    ++ codes "wave 0 0 const 7\n"
    ++ codes "session\n"
    ++ codes "0 open 1\n"

-- the longest list, the longest scans, the greatest count and the last nanosecond: {large}{far}1000000000000000
abbrev pub Row_117_4 : Type 0
Row_117_4 =
    Answers commands.Replay
    (text_large ++ text_far ++ codes "1000000000000000 insn 1 0 gtod\n")
    (codes "ok\n" ++ codes "ok 2 1000000 0\n")

-- all of them
pub record AreBuffers : Type 0 where
  pub row_117_4 : Row_117_4
