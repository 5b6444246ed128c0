-- The job of a soak of n conversions.
use Rattle.std.specs.Prelude.{ℕ, ◌+◌, ◌/◌, ◌%◌, ◌==◌, nat_lt, pos, neg_ℤ, false, List, [], ◌∷◌, ◌++◌, codes, map}
use Rattle.std.specs.Prelude.{replicate, None, if◌then◌else◌}
use Rattle.cm_base.specs.Source as source
use Rattle.cm_board.specs.Board.{BoardText, SubText, any_list, any_rounding, any_scan, each_nanosecond}
use Rattle.cm_board.specs.Items.{ItemText}
use Rattle.cm_board.specs.Rows as rows
use Rattle.cm_board.specs.declared.table.Value.TheVariants as values_of
use Rattle.cm_board.specs.declared.board.Kind.TheVariants as kinds
use Rattle.cm_board.specs.declared.munge.Munge.TheVariants as munges
use Rattle.cm_board.specs.declared.board.Range.{Range}
use Rattle.cm_cmd.specs.Command.{CmdText}
use Rattle.cm_cmd.specs.Entry.{pack}
use Rattle.cm_signal.specs.Signals.{SignalsText}
use Rattle.cm_signal.specs.Adding.{silent}
use Rattle.cm_signal.specs.declared.wave.Wave.TheVariants as waves
use Rattle.cm_signal.specs.declared.wave.WaveAt.{WaveAt}
use Rattle.cm_job.specs.Job.{RunJobText}
use Rattle.cm_job.specs.declared.line.Access.{Access}
use Rattle.cm_job.specs.declared.line.Access.TheVariants.{Copy, Map}
use Rattle.cm_job.specs.declared.line.Mode.TheVariants.{Paced}
use Rattle.cm_job.specs.declared.line.RunLine.{RunLine}
use Rattle.cm_job.specs.declared.line.RunLine.TheVariants.{Go}

-- ten volts below zero to ten volts above
abbrev pub soak_range : Range
soak_range = record { min = neg_ℤ (pos 10000000); max = pos 10000000; unit = 0 }

-- a line of a block with numbers alone
abbrev pub numbers : ℕ → ℕ → List ℕ → ItemText
numbers row form values = record { row = row; form = form; values = map values_of.Number values }

-- what the lines of its block say of codes: 16 bits in two's complement, and one range
abbrev pub soak_codes : List ItemText
soak_codes =
    numbers rows.bits rows.bits_form (16 ∷ [])
    ∷ numbers rows.munge rows.offset_form []
    ∷ record {
      row = rows.range;
      form = rows.range_form;
      values = values_of.Signed soak_range.min ∷ values_of.Signed soak_range.max ∷ values_of.Number 0 ∷ [];
    }
    ∷ []

-- of the sources and the times of commands
abbrev pub soak_times : List ItemText
soak_times =
    numbers rows.sources rows.sources_form (source.now ∷ source.timer ∷ source.now ∷ source.count ∷ source.count ∷ [])
    ∷ numbers rows.tick rows.tick_form (1 ∷ [])
    ∷ numbers rows.scan rows.scan_form (1 ∷ 1000000 ∷ [])
    ∷ numbers rows.convert rows.convert_form (1 ∷ 1 ∷ [])
    ∷ []

-- of how much a command may ask for
abbrev pub soak_sizes : List ItemText
soak_sizes =
    numbers rows.list rows.list_form (1 ∷ [])
    ∷ numbers rows.scans rows.scans_form (1000000 ∷ [])
    ∷ numbers rows.lines rows.lines_form (0 ∷ [])
    ∷ numbers rows.buffer rows.buffer_form (256 ∷ [])
    ∷ []

-- all lines of the block
abbrev pub soak_block : List ItemText
soak_block = soak_codes ++ (soak_times ++ soak_sizes)

-- an analog input with one channel of 16 bits in two's complement, whose buffer holds 256 samples
abbrev pub soak_sub : SubText
soak_sub = record {
  version = 1;
  kind = kinds.Ai;
  channels = 1;
  maxdata = 65535;
  munge = munges.Offset;
  ranges = soak_range ∷ [];
  masks = record {
    start = source.now;
    scan_begin = source.timer;
    convert = source.now;
    scan_end = source.count;
    stop = source.count;
  };
  timers = each_nanosecond;
  scan_min = 1;
  scan_max = 1000000;
  conv_min = 1;
  conv_max = 1;
  list_max = 1;
  scans_max = 1000000;
  lines = 0;
  buffer = 256;
  rounding = any_rounding;
  least_scan = any_scan;
  lists = any_list;
  forbidden = [];
  chans = [];
  invert = false;
  fifo = None;
  block = soak_block;
}

-- four of them
abbrev pub soak_board : BoardText
soak_board = record { version = 1; name = codes "soak"; subs = replicate 4 soak_sub }

-- a saw over the whole range in 4096 scans
abbrev pub soak_wave : ℕ → WaveAt
soak_wave i = record { sub = i; chan = 0; wave = waves.Saw (neg_ℤ (pos 10000000)) (pos 10000000) 4096000 }

-- one at each channel, for a second
abbrev pub soak_signals : SignalsText
soak_signals = record (silent 1000000000) { waves = soak_wave 0 ∷ soak_wave 1 ∷ soak_wave 2 ∷ soak_wave 3 ∷ [] }

-- so many scans of the one channel, a microsecond apart
abbrev pub soak_cmd : ℕ → ℕ → CmdText
soak_cmd i count = record {
  sub = i;
  flags = 0;
  start = record { src = source.now; arg = 0 };
  scan_begin = record { src = source.timer; arg = 1000 };
  convert = record { src = source.now; arg = 0 };
  scan_end = record { src = source.count; arg = 1 };
  stop = record { src = source.count; arg = count };
  list = pack 0 0 0 ∷ [];
}

-- every other subdevice is read by copying, and the others by mapping
abbrev pub access_of : ℕ → Access
access_of i = if i % 2 == 0 then Copy else Map

-- a paced line from the beginning, whose client takes all
abbrev pub soak_line : ℕ → ℕ → RunLine
soak_line i count = Go Paced (access_of i) 0 None (soak_cmd i count)

-- a quarter of the conversions, and one of those that are left over to each of the first subdevices
abbrev pub share : ℕ → ℕ → ℕ
share n i = n / 4 + (if nat_lt i (n % 4) then 1 else 0)

-- the line of a subdevice with so many conversions, where there are any
abbrev pub line_for : ℕ → ℕ → List RunLine
line_for i count = if count == 0 then [] else soak_line i count ∷ []

-- the lines of all subdevices
abbrev pub soak_lines : ℕ → List RunLine
soak_lines n = line_for 0 (share n 0) ++ line_for 1 (share n 1) ++ line_for 2 (share n 2) ++ line_for 3 (share n 3)

-- the job
abbrev pub soak_job : ℕ → RunJobText
soak_job n = record { board = soak_board; signals = soak_signals; lines = soak_lines n }
