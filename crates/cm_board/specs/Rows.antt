-- The rows of a block's lines by name, numbered in the order in which they are printed, and the forms that have a name.
use Rattle.std.specs.Prelude.{ℕ}

-- `bits N`: the bits of a code
abbrev pub bits : ℕ
bits = 0

-- `munge ..`: how words of the buffer are munged
abbrev pub munge : ℕ
munge = 1

-- `range MIN MAX UNIT`
abbrev pub range : ℕ
range = 2

-- `sources ..`: the sources that each trigger may have
abbrev pub sources : ℕ
sources = 3

-- `tick N`: what the times of a command are multiples of
abbrev pub tick : ℕ
tick = 4

-- `scan LEAST MOST`: the times of a scan
abbrev pub scan : ℕ
scan = 5

-- `convert LEAST MOST`: the times of a conversion
abbrev pub convert : ℕ
convert = 6

-- `list N`: the longest channel list
abbrev pub list : ℕ
list = 7

-- `scans N`: the greatest stop count
abbrev pub scans : ℕ
scans = 8

-- `lines N`: how many external lines there are
abbrev pub lines : ℕ
lines = 9

-- `buffer N`: how many samples the buffer holds
abbrev pub buffer : ℕ
buffer = 10

-- `samerange`: all entries of a list have one range
abbrev pub same_range : ℕ
same_range = 11

-- `forbid ..`: two sources that may not be used together
abbrev pub forbid : ℕ
forbid = 12

-- `invert`: external lines can be inverted
abbrev pub invert : ℕ
invert = 13

-- `fifo DEPTH LATENCY`: a FIFO between the converter and the buffer
abbrev pub fifo : ℕ
fifo = 14

-- `clock ..`: the counters that make the times
abbrev pub clock : ℕ
clock = 15

-- `rounds WAY`: how the board rounds times, whatever a command's flags say
abbrev pub rounds : ℕ
rounds = 16

-- `halfdown`: of two times that are equally near, the lower is the nearest
abbrev pub half_down : ℕ
half_down = 17

-- `perchan N`: the least time of a scan for each entry of the list
abbrev pub per_entry : ℕ
per_entry = 18

-- `scanfits`: a timed scan is at least as long as its conversions
abbrev pub holds : ℕ
holds = 19

-- `channels ..`: the order of the channels in a list
abbrev pub order : ℕ
order = 20

-- `samearef`: all entries of a list have one reference
abbrev pub same_reference : ℕ
same_reference = 21

-- `samepolarity`: the ranges of all entries have one polarity
abbrev pub same_polarity : ℕ
same_polarity = 22

-- `chan C bits N`: the bits of one channel
abbrev pub chan_bits : ℕ
chan_bits = 23

-- `chan C munge ..`: the munge of one channel
abbrev pub chan_munge : ℕ
chan_munge = 24

-- `chan C range MIN MAX UNIT`: a range of one channel
abbrev pub chan_range : ℕ
chan_range = 25

-- `flag NAME`: something that the subdevice offers
abbrev pub flag : ℕ
flag = 26

-- the form of `bits`
abbrev pub bits_form : ℕ
bits_form = 0

-- the first form of `munge`, `munge none`
abbrev pub munge_form : ℕ
munge_form = 1

-- `munge offset`
abbrev pub offset_form : ℕ
offset_form = 2

-- the form of `range`
abbrev pub range_form : ℕ
range_form = 5

-- the form of `sources`
abbrev pub sources_form : ℕ
sources_form = 6

-- the form of `tick`
abbrev pub tick_form : ℕ
tick_form = 7

-- the form of `scan`
abbrev pub scan_form : ℕ
scan_form = 8

-- the form of `convert`
abbrev pub convert_form : ℕ
convert_form = 9

-- the form of `list`
abbrev pub list_form : ℕ
list_form = 10

-- the form of `scans`
abbrev pub scans_form : ℕ
scans_form = 11

-- the form of `lines`
abbrev pub lines_form : ℕ
lines_form = 12

-- the form of `buffer`
abbrev pub buffer_form : ℕ
buffer_form = 13

-- `channels ORDER repeat`
abbrev pub repeated_form : ℕ
repeated_form = 25

-- the first form of `chan C munge`, `chan C munge none`
abbrev pub chan_munge_form : ℕ
chan_munge_form = 29

-- the form of `flag`
abbrev pub flag_form : ℕ
flag_form = 34
