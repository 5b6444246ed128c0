-- What a subdevice offers, by the lines `flag` of its block or by its kind.
use Rattle.std.specs.Prelude.{ℕ, Bool, true, false, ◌&&◌, ◌==◌, if◌then◌else◌}
use Rattle.std.specs.List.{list_any}
use Rattle.cm_board.specs.Board.{SubText, takes_commands}
use Rattle.cm_board.specs.Items.{ItemText}
use Rattle.cm_board.specs.Rows as rows
use Rattle.cm_board.specs.Said.{has_line, name_at}
use Rattle.cm_board.specs.declared.board.Kind.{Kind}
use Rattle.cm_board.specs.declared.board.Kind.TheVariants as kinds
use Rattle.cm_board.specs.declared.flags.Flag.{Flag}
use Rattle.cm_board.specs.declared.flags.Flag.TheVariants as flags

-- the place of a flag among the names of the line
abbrev pub flag_place : Flag → ℕ
flag_place flags.Readable = 0
flag_place flags.Ground = 1
flag_place flags.Common = 2
flag_place flags.Diff = 3
flag_place flags.Other = 4
flag_place flags.Mapped = 5

-- the kinds whose channels can be read
abbrev pub is_read : Kind → Bool
is_read kinds.Unused = false
is_read kinds.Do = false
is_read kind = true

-- the kinds whose channels have references
abbrev pub is_analog : Kind → Bool
is_analog kinds.Ai = true
is_analog kinds.Ao = true
is_analog kind = false

-- whether a line names the flag at this place
abbrev pub says_flag : ℕ → ItemText → Bool
says_flag place item = item.row == rows.flag && name_at 0 item.values == place

-- what a subdevice offers without lines that say it: its channels are read by its kind, have all references
-- if they are analog, and the buffer of commands can be mapped
abbrev pub may_offer : SubText → Flag → Bool
may_offer sub flags.Readable = is_read sub.kind
may_offer sub flags.Mapped = takes_commands sub
may_offer sub reference = is_analog sub.kind

-- what a subdevice offers: what the lines of its block name, if there are any
abbrev pub has_flag : SubText → Flag → Bool
has_flag sub flag =
    if has_line rows.flag sub.block then list_any (says_flag (flag_place flag)) sub.block else may_offer sub flag
