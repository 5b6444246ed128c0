-- How contracts see a subdevice.
use Rattle.std.specs.Prelude.{ℕ, List, slice_index}
use Rattle.cm_board.specs.Board.{Masks, SubText}
use Rattle.cm_board.specs.declared.board.Sub.TheInside.{Inside}

-- the five masks of a list, in the order of a command's triggers
abbrev pub masks_of : List ℕ → Masks
masks_of sources = record {
  start = slice_index sources 0;
  scan_begin = slice_index sources 1;
  convert = slice_index sources 2;
  scan_end = slice_index sources 3;
  stop = slice_index sources 4;
}

-- a subdevice as contracts see it
abbrev pub sub_text : Inside → SubText
sub_text s = record {
  version = s.version;
  kind = s.kind;
  channels = s.channels;
  maxdata = s.maxdata;
  munge = s.munge;
  ranges = s.ranges.items;
  masks = masks_of s.sources;
  timers = s.timers;
  scan_min = s.scan_min;
  scan_max = s.scan_max;
  conv_min = s.conv_min;
  conv_max = s.conv_max;
  list_max = s.list_max;
  scans_max = s.scans_max;
  lines = s.lines;
  buffer = s.buffer;
  rounding = s.rounding;
  least_scan = s.least_scan;
  lists = s.lists;
  forbidden = s.forbidden.items;
  chans = s.chans.items;
  invert = s.invert;
  fifo = s.fifo;
  block = s.block.items;
}
