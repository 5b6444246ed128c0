-- A board as it is printed after it was read.
use Rattle.std.specs.Prelude.{◌≡◌, ℕ, List, ◌++◌, codes, Ok}
use Rattle.cm_base.specs.Lines.{lines_of}
use Rattle.cm_base.specs.Reading.{◌>>=◌}
use Rattle.cm_board_text.specs.BoardPart.{board_of}
use Rattle.cm_board_text.specs.Printed.{printed_board}

-- a board text is printed as this one
unfoldable pub PrintsAs : List ℕ → List ℕ → Type 0
PrintsAs text printed =
    (board_of 0 (lines_of (text ++ codes "signals 0\n")) >>= λ found. Ok (printed_board found.0)) ≡ Ok printed

-- the first lines of a board
abbrev pub first_lines : List ℕ
first_lines = codes "zendrouz 1\n" ++ codes "board bench\n" ++ codes "subdevice ai 4\n"

-- a board with every line that a block can have, in any order, and with one default left out
abbrev pub in_any_order : List ℕ
in_any_order =
    first_lines
    ++ codes "chan 3 munge left 4\n"
    ++ codes "samepolarity\n"
    ++ codes "samearef\n"
    ++ codes "channels rising repeat\n"
    ++ codes "scanfits\n"
    ++ codes "perchan 200\n"
    ++ codes "halfdown\n"
    ++ codes "rounds nearest\n"
    ++ codes "clock 1..10 2,4\n"
    ++ codes "chan 2 range 0 20000000 1\n"
    ++ codes "fifo 512 20000\n"
    ++ codes "invert\n"
    ++ codes "forbid scan_begin ext convert timer\n"
    ++ codes "samerange\n"
    ++ codes "buffer 64\n"
    ++ codes "lines 2\n"
    ++ codes "list 4\n"
    ++ codes "convert 200 100000\n"
    ++ codes "scan 1000 1000000\n"
    ++ codes "tick 100\n"
    ++ codes "sources now|ext timer|ext now|timer count none|count|ext\n"
    ++ codes "range -10000000 10000000 0\n"
    ++ codes "munge offset\n"
    ++ codes "chan 3 bits 12\n"
    ++ codes "bits 16\n"

-- the same board in the order of the table of lines, with the default
abbrev pub in_table_order : List ℕ
in_table_order =
    first_lines
    ++ codes "bits 16\n"
    ++ codes "munge offset\n"
    ++ codes "range -10000000 10000000 0\n"
    ++ codes "sources now|ext timer|ext now|timer count none|count|ext\n"
    ++ codes "tick 100\n"
    ++ codes "scan 1000 1000000\n"
    ++ codes "convert 200 100000\n"
    ++ codes "list 4\n"
    ++ codes "scans 1000000\n"
    ++ codes "lines 2\n"
    ++ codes "buffer 64\n"
    ++ codes "samerange\n"
    ++ codes "forbid scan_begin ext convert timer\n"
    ++ codes "invert\n"
    ++ codes "fifo 512 20000\n"
    ++ codes "clock 1..10 2,4\n"
    ++ codes "rounds nearest\n"
    ++ codes "halfdown\n"
    ++ codes "perchan 200\n"
    ++ codes "scanfits\n"
    ++ codes "channels rising repeat\n"
    ++ codes "samearef\n"
    ++ codes "samepolarity\n"
    ++ codes "chan 2 range 0 20000000 1\n"
    ++ codes "chan 3 bits 12\n"
    ++ codes "chan 3 munge left 4\n"
