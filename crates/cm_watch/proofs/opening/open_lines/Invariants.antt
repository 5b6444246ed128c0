use Rattle.std.proofs.Common.{◌≡◌, length, map, take}
use Rattle.std.specs.List.{All}
use Rattle.cm_block.specs.Whole.{line_format}
use Rattle.cm_job.specs.Calls.{cmd_of}
use Rattle.cm_job.specs.declared.line.RunLine.{RunLine}
use Rattle.cm_watch.specs.Opened.{line_start, stream_start}
use Rattle.cm_watch.specs.Places.{IsPlace}
use Rattle.cm_watch.specs.Watched.{AreRead, text_format}
use Rattle.cm_watch.specs.Woken.{every_of}
use Rattle.cm_watch.proofs.opening.open_lines.Given as goal

-- the lines so far are opened
abbrev pub invariant-loop-i : goal.invariant-loop-i
invariant-loop-i l = record {
  sides : All (λ side. IsPlace l.owners side.board.owners.now side.board.sub) l.opened.sides.items;
  own : map (λ side. side.board.sub) l.opened.sides.items ≡ map (λ (line : RunLine). (cmd_of line).sub) (take l.i l.lines);
  count : length l.opened.sides.items ≡ l.i;
  mungers : map (λ side. side.munger.table) l.opened.sides.items ≡ map (λ s. s.reader.table) l.opened.streams.items;
  events : length l.opened.events.items ≡ l.i;
  every : map (λ events. events.every) l.opened.events.items ≡ map (every_of l.board l.signals) (take l.i l.lines);
  streams : map stream_start l.opened.streams.items ≡ map (line_start l.board l.signals) (take l.i l.lines);
  formats : map text_format l.opened.texts.items ≡ map (line_format l.board l.signals) (take l.i l.lines);
  read : AreRead l.opened.streams.items l.opened.texts.items;
}
