-- The board's subdevices in numbers, as Comedi has them (comedi_subdinfo, comedi_chaninfo and comedi_krange).
use Rattle.std.specs.Prelude.{ℕ, ℤ, pos, ◌+◌, ◌^◌, ◌==◌, Bool, ◌||◌, not, nat_lt, List, [], ◌∷◌, ◌++◌, flat_map}
use Rattle.std.specs.Prelude.{length, map, codes, if◌then◌else◌}
use Rattle.std.specs.Fmt.{decimal, signed_decimal}
use Rattle.std.specs.List.{concat, list_any, range_with_len}
use Rattle.std.specs.Option.{is_some}
use Rattle.cm_board.specs.Board.{BoardText, ChanText, SubText, is_dio, is_output, is_unused, maxdata_of, range_count}
use Rattle.cm_board.specs.Board.{range_of, takes_commands}
use Rattle.cm_board.specs.Flags.{has_flag}
use Rattle.cm_board.specs.declared.board.Kind.{Kind}
use Rattle.cm_board.specs.declared.board.Kind.TheVariants as kinds
use Rattle.cm_board.specs.declared.board.Range.{Range}
use Rattle.cm_board.specs.declared.flags.Flag.TheVariants as flags
use Rattle.cm_running.specs.Texts.{words_text}

-- the number of a kind (COMEDI_SUBD_..)
abbrev pub kind_number : Kind → ℕ
kind_number kinds.Unused = 0
kind_number kinds.Ai = 1
kind_number kinds.Ao = 2
kind_number kinds.Di = 3
kind_number kinds.Do = 4
kind_number kinds.Dio = 5

-- the kinds whose channels can be written
abbrev pub is_written : Kind → Bool
is_written kind = is_output kind || is_dio kind

-- the flags of commands (SDF_CMD, with SDF_CMD_WRITE or SDF_CMD_READ)
abbrev pub command_flags : SubText → ℕ
command_flags s = if takes_commands s then 2 ^ 12 + (if is_output s.kind then 2 ^ 14 else 2 ^ 15) else 0

-- a flag where something holds
abbrev pub flag : ℕ → Bool → ℕ
flag number holds = if holds then number else 0

-- the flags of its references (SDF_GROUND, SDF_COMMON, SDF_DIFF and SDF_OTHER)
abbrev pub reference_flags : SubText → ℕ
reference_flags s =
    flag (2 ^ 20) (has_flag s flags.Ground) + flag (2 ^ 21) (has_flag s flags.Common)
    + flag (2 ^ 22) (has_flag s flags.Diff)
    + flag (2 ^ 23) (has_flag s flags.Other)

-- the flags of what it offers (SDF_READABLE, SDF_WRITABLE, its references and SDF_MMAP)
abbrev pub offered_flags : SubText → ℕ
offered_flags s =
    flag (2 ^ 16) (has_flag s flags.Readable) + flag (2 ^ 17) (is_written s.kind) + reference_flags s
    + flag (2 ^ 26) (has_flag s flags.Mapped)

-- a channel has a greatest code of its own
abbrev pub has_own_code : ChanText → Bool
has_own_code c = is_some c.maxdata

-- a channel has ranges of its own
abbrev pub has_own_ranges : ChanText → Bool
has_own_ranges c = not (length c.ranges == 0)

-- the greatest codes of the channels
abbrev pub greatest_codes : SubText → List ℕ
greatest_codes s = map (maxdata_of s) (range_with_len 0 s.channels)

-- some code has more than 16 bits
abbrev pub has_long_codes : SubText → Bool
has_long_codes s = list_any (nat_lt 65535) (greatest_codes s)

-- the flags that don't change: those of what it offers and of commands, and whether channels have codes of their own
-- (SDF_MAXDATA), ranges of their own (SDF_RANGETYPE), and samples have 32 bits (SDF_LSAMPL)
abbrev pub lasting_flags : SubText → ℕ
lasting_flags s =
    offered_flags s + command_flags s + flag (2 ^ 4) (list_any has_own_code s.chans)
    + flag (2 ^ 6) (list_any has_own_ranges s.chans)
    + flag (2 ^ 28) (has_long_codes s)

-- how many samples the buffer holds, where there is one
abbrev pub buffer_size : SubText → ℕ
buffer_size s = if takes_commands s then s.buffer else 0

-- the longest list, where the subdevice has any
abbrev pub longest_list : SubText → ℕ
longest_list s = if is_unused s.kind then 0 else s.list_max

-- the line of a subdevice: its kind and its flags, how many channels it has, the longest list, and its buffer
abbrev pub head_text : SubText → List ℕ
head_text s =
    decimal (kind_number s.kind) ++ words_text (lasting_flags s ∷ s.channels ∷ longest_list s ∷ buffer_size s ∷ [])
    ++ codes "\n"

-- a number after a space
abbrev pub spaced : ℤ → List ℕ
spaced z = codes " " ++ signed_decimal z

-- a range: its least and its greatest level, and its unit
abbrev pub range_text : Range → List ℕ
range_text r = spaced r.min ++ spaced r.max ++ spaced (pos r.unit)

-- the ranges of a channel
abbrev pub ranges_text : SubText → ℕ → List ℕ
ranges_text s chan = concat (map (λ i. range_text (range_of s chan i)) (range_with_len 0 (range_count s chan)))

-- the line of a channel: its greatest code, and its ranges
abbrev pub channel_text : SubText → ℕ → List ℕ
channel_text s chan = decimal (maxdata_of s chan) ++ ranges_text s chan ++ codes "\n"

-- the lines of the channels
abbrev pub channels_text : SubText → List ℕ
channels_text s = concat (map (channel_text s) (range_with_len 0 s.channels))

-- a subdevice, and then its channels
abbrev pub sub_text : SubText → List ℕ
sub_text s = head_text s ++ channels_text s

-- all subdevices, and then the board's name and the last time of the signals
abbrev pub subdevices_text : BoardText → ℕ → List ℕ
subdevices_text b horizon =
    flat_map sub_text b.subs ++ (codes "ok " ++ b.name ++ codes " " ++ decimal horizon ++ codes "\n")
