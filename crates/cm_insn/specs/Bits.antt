-- The channels of a digital subdevice as the bits of one word.
use Rattle.std.specs.Prelude.{ℕ, ◌/◌, ◌%◌, ◌^◌, Bool, ◌&&◌, ◌==◌, nat_lt, min, List, map, if◌then◌else◌}
use Rattle.std.specs.List.{range_with_len, sum}
use Rattle.cm_board.specs.Board.{SubText}
use Rattle.cm_sample.specs.Rule.{map_from}
use Rattle.cm_sub.specs.State.{StateText}
use Rattle.cm_insn.specs.Site.{SiteText, is_out, value_at}

-- bit `c` of a word
abbrev pub bit : ℕ → ℕ → ℕ
bit word c = word / 2 ^ c % 2

-- a channel takes its bit: it is an output among the first 32, with its bit in the mask
abbrev pub takes_bit : SubText → List Bool → ℕ → ℕ → Bool
takes_bit sub outs mask c = nat_lt c 32 && (is_out sub outs c && bit mask c == 1)

-- the value of a channel after bits were put to a subdevice
abbrev pub bit_put : SubText → List Bool → ℕ → ℕ → ℕ → ℕ → ℕ
bit_put sub outs mask bits c value = if takes_bit sub outs mask c then bit bits c else value

-- the state after bits were put to a subdevice
abbrev pub with_bits : SubText → StateText → ℕ → ℕ → StateText
with_bits sub state mask bits = record state { values = map_from (bit_put sub state.outs mask bits) 0 state.values }

-- what a channel adds to the word of its subdevice: its bit, where its value in range 0 is 1
abbrev pub bit_of : SiteText → StateText → ℕ → ℕ
bit_of s state c = if value_at s state c 0 == 1 then 2 ^ c else 0

-- the word of a subdevice: a bit for each of its first 32 channels
abbrev pub bits_of : SiteText → StateText → ℕ
bits_of s state = sum (map (bit_of s state) (range_with_len 0 (min 32 s.sub.channels)))
