-- How contracts see a subdevice before the rules over its lines are asked.
use Rattle.cm_board.specs.Board.{SubText}
use Rattle.cm_board.specs.View.{masks_of}
use Rattle.cm_board_text.specs.declared.unchecked.Unchecked.{Unchecked}

-- a subdevice whose limits are not tested yet, as contracts see it
abbrev pub unchecked_text : Unchecked → SubText
unchecked_text s = record {
  version = s.version;
  kind = s.kind;
  channels = s.channels;
  maxdata = s.maxdata;
  munge = s.munge;
  ranges = s.ranges.items;
  masks = masks_of s.sources;
  timers = s.timers;
  scan_min = s.scan_min;
  scan_max = s.scan_max;
  conv_min = s.conv_min;
  conv_max = s.conv_max;
  list_max = s.list_max;
  scans_max = s.scans_max;
  lines = s.lines;
  buffer = s.buffer;
  rounding = s.rounding;
  least_scan = s.least_scan;
  lists = s.lists;
  forbidden = s.forbidden.items;
  chans = s.chans.items;
  invert = s.invert;
  fifo = s.fifo;
  block = s.block.items;
}
