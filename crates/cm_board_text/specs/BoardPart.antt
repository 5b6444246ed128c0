-- The board part of a text.
use Rattle.std.specs.Prelude.{ℕ, ◌+◌, Bool, true, false, ◌&&◌, ◌||◌, nat_le, nat_lt, if◌then◌else◌}
use Rattle.std.specs.Prelude.{List, [], ◌∷◌, length, drop, codes, Result, Ok, Err}
use Rattle.std.specs.List.{before_first, position_or_len}
use Rattle.cm_base.specs.Lines.{LineText, is_word}
use Rattle.cm_base.specs.Parts.{begins, fixed}
use Rattle.cm_base.specs.Reading.{◌>>=◌, at_line}
use Rattle.cm_base.specs.Refusal.{next_number}
use Rattle.cm_base.specs.Words.{Form, limited, number_in, one, one_word}
use Rattle.cm_base.specs.declared.faults.Fault.{Fault}
use Rattle.cm_base.specs.declared.faults.Fault.TheVariants.{Missing}
use Rattle.cm_base.specs.declared.faults.Refused.{Refused}
use Rattle.cm_board.specs.Board.{BoardText, SubText}
use Rattle.cm_board.specs.BoardTable.{board_table}
use Rattle.cm_board.specs.Items.{ItemText}
use Rattle.cm_board.specs.declared.table.Head.{Head}
use Rattle.cm_board_text.specs.Block.{finished}
use Rattle.cm_board_text.specs.Heads.{head_words}
use Rattle.cm_board_text.specs.Reading.{completed, items_said}

-- a line that starts the block of a subdevice
abbrev pub is_subdevice : LineText → Bool
is_subdevice = begins (codes "subdevice")

-- the line that starts the signals part
abbrev pub is_signals : LineText → Bool
is_signals = begins (codes "signals")

-- the line ends the block before it
abbrev pub ends_block : LineText → Bool
ends_block line = is_subdevice line || is_signals line

-- the head of a block, where at most 16 stand before it
abbrev pub head_after : ℕ → ℕ → LineText → Result Head Fault
head_after version count line = head_words version (drop 1 line.words) >>= λ head. limited (nat_lt count 16) head

-- the lines of a block after its head, and those after the block
abbrev pub block_lines : List LineText → List LineText
block_lines = before_first ends_block

-- the lines from the one that ends a block on
abbrev pub lines_after : List LineText → List LineText
lines_after lines = drop (position_or_len ends_block lines) lines

-- the subdevice that a head and the lines after it describe on a board of this version,
-- with `count` blocks before and the line `stop` after
abbrev pub block_at : ℕ → ℕ → ℕ → LineText → List LineText → Result SubText Refused
block_at version stop count line inside =
    at_line line.number (head_after version count line) >>= λ head.
    items_said board_table head inside >>= λ items.
    at_line stop (finished head items)

-- the lines of a block after its head, and those that hold without standing there, with the line `stop` after it
abbrev pub whole_lines : ℕ → Head → List LineText → Result (List ItemText) Refused
whole_lines stop head inside =
    items_said board_table head inside >>= λ items. at_line stop (completed board_table head items)

-- the subdevice that a head and the lines after it up to the block's end describe
abbrev pub next_block : ℕ → ℕ → ℕ → LineText → List LineText → Result SubText Refused
next_block version end count line rest =
    block_at version (next_number end (lines_after rest)) count line (block_lines rest)

-- the subdevices of the blocks up to the `signals` line, after `count` others
abbrev pub blocks_from : ℕ → ℕ → ℕ → List LineText → Result (List SubText) Refused
blocks_from version end count [] = Err (record { line = end; cause = Missing })
blocks_from version end count (line ∷ rest) =
    if is_signals line then Ok [] else
    if is_subdevice line then (
    next_block version end count line rest >>= λ sub.
    blocks_from version end (count + 1) rest >>= λ subs.
    Ok (sub ∷ subs)) else
    blocks_from version end count rest

-- these lines stand after whole blocks
abbrev pub is_between : List LineText → Bool
is_between [] = true
is_between (line ∷ lines) = ends_block line

-- no block stands at the start of these lines
abbrev pub is_part_end : List LineText → Bool
is_part_end [] = true
is_part_end (line ∷ lines) = is_signals line

-- the version of the format after `comedi`, 1 or 2
abbrev pub version_words : Form ℕ
version_words = one (λ version. version) (number_in 1 2)

-- and after `zendrouz`: it has a version of its own, 1, and is the third of all
abbrev pub wide_words : Form ℕ
wide_words = one (λ version. version + 2) (number_in 1 1)

-- whether the first of these lines is that of a wider text
abbrev pub begins_wide : List LineText → Bool
begins_wide [] = false
begins_wide (line ∷ lines) = begins (codes "zendrouz") line

-- the version that the first line says
abbrev pub version_of : ℕ → List LineText → Result ℕ Refused
version_of end lines =
    if begins_wide lines then fixed end (codes "zendrouz") wide_words lines
    else fixed end (codes "comedi") version_words lines

-- the board's name, of at most 32 bytes
abbrev pub name_words : Form (List ℕ)
name_words words = one_word words >>= λ name. limited (nat_le (length name) 32) name

-- a name of 1 to 32 printable bytes
abbrev pub is_name : List ℕ → Bool
is_name name = is_word name && nat_le (length name) 32

-- words that are not looked at here
abbrev pub any_words : Form Bool
any_words words = Ok true

-- the board that these lines describe up to the `signals` line, and that line's place
abbrev pub board_of : ℕ → List LineText → Result (BoardText × ℕ) Refused
board_of end lines =
    version_of end lines >>= λ version.
    fixed end (codes "board") name_words (drop 1 lines) >>= λ name.
    fixed end (codes "subdevice") any_words (drop 2 lines) >>= λ any.
    blocks_from version end 0 (drop 2 lines) >>= λ subs.
    Ok (record { version = version; name = name; subs = subs }, position_or_len is_signals lines)
