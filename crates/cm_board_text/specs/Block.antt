-- What a block describes, and the rules over several of its lines.
use Rattle.std.specs.Prelude.{ℕ, ◌*◌, ◌%◌, Bool, not, ◌&&◌, ◌||◌, ◌==◌, nat_le, List, Result, Ok, Err, if◌then◌else◌}
use Rattle.cm_base.specs.Reading.{◌>>=◌}
use Rattle.cm_base.specs.Source.{allows, ext, timer}
use Rattle.cm_base.specs.declared.faults.Fault.{Fault}
use Rattle.cm_base.specs.declared.faults.Fault.TheVariants.{Bad}
use Rattle.cm_board.specs.Board.{SubText, down, is_bits_ok, is_wide, up}
use Rattle.cm_board.specs.BoardTable.{board_table}
use Rattle.cm_board.specs.Items.{ItemText}
use Rattle.cm_board.specs.Said.{sub_of}
use Rattle.cm_board.specs.declared.table.Head.{Head}
use Rattle.cm_board_text.specs.Reading.{completed}

-- the limits of times are multiples of the tick
abbrev pub are_on_tick : SubText → Bool
are_on_tick s =
    s.scan_min % s.timers.tick == 0
    && s.scan_max % s.timers.tick == 0
    && s.conv_min % s.timers.tick == 0
    && s.conv_max % s.timers.tick == 0

-- but in the wider texts; and the board can make a time between those of a scan, and one between those of a conversion
abbrev pub are_times_ok : SubText → Bool
are_times_ok s =
    (is_wide s.version || are_on_tick s)
    && nat_le (up s.timers s.scan_min) s.scan_max
    && nat_le (up s.timers s.conv_min) s.conv_max

-- where scans may be timed, the longest that the board can make holds so much
abbrev pub fits_timed : SubText → ℕ → Bool
fits_timed s time = not (allows s.masks.scan_begin timer) || nat_le time (down s.timers s.scan_max)

-- all conversions of the longest list fit into the longest scan, and where both are timed those that the board can make
abbrev pub is_list_ok : SubText → Bool
is_list_ok s =
    nat_le (s.conv_min * s.list_max) s.scan_max
    && (not (allows s.masks.convert timer) || fits_timed s (up s.timers s.conv_min * s.list_max))

-- the longest scan has the time that the board needs for the entries of the longest list
abbrev pub is_entries_ok : SubText → Bool
is_entries_ok s =
    nat_le (s.least_scan.per_entry * s.list_max) s.scan_max && fits_timed s (s.least_scan.per_entry * s.list_max)

-- a trigger that may be external has a line
abbrev pub has_line : ℕ → ℕ → Bool
has_line lines mask = not (allows mask ext) || nat_le 1 lines

-- a subdevice that allows external triggers has a line for them
abbrev pub is_lines_ok : SubText → Bool
is_lines_ok s =
    has_line s.lines s.masks.start && has_line s.lines s.masks.scan_begin && has_line s.lines s.masks.convert
    && has_line s.lines s.masks.scan_end && has_line s.lines s.masks.stop

-- the rules over the lines of a block
abbrev pub is_board_ok : SubText → Bool
is_board_ok s = is_bits_ok s && are_times_ok s && is_list_ok s && is_lines_ok s && is_entries_ok s

-- a subdevice, where it keeps the rules over its lines
abbrev pub checked : SubText → Result SubText Fault
checked sub = if is_board_ok sub then Ok sub else Err Bad

-- what a block says at its end
abbrev pub finished : Head → List ItemText → Result SubText Fault
finished head items = completed board_table head items >>= λ all. checked (sub_of head all)
