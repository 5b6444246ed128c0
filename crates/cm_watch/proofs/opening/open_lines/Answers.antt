use Rattle.std.proofs.Common.{length, map, sym, ap, ◌∙◌, subst, arith}
use Rattle.std.specs.List.{All}
use Rattle.cm_block.specs.Whole.{line_format}
use Rattle.cm_job.specs.Calls.{cmd_of}
use Rattle.cm_job.specs.declared.line.RunLine.{RunLine}
use Rattle.cm_watch.specs.Opened.{line_start, stream_start}
use Rattle.cm_watch.specs.Places.{IsPlace}
use Rattle.cm_watch.specs.Watched.{text_format}
use Rattle.cm_base.proofs.Elements.{all_more, same_more}
use Rattle.cm_watch.specs.Woken.{every_of}
use Rattle.cm_watch.proofs.Starts.{both_more, paced_one, read_more, starts_with}
use Rattle.cm_watch.proofs.opening.open_lines.Goals as goal

pub loop-i-preserved : goal.loop-i-preserved
loop-i-preserved c =
    let owners = c.args.owners.now in
    let board = c.args.board.now in
    let signals = c.args.signals.now in
    let lines = c.args.lines.now in
    let opened = c.loop-i.opened in
    let have = c.loop-i.invariant in
    let is = c.in_ok-side.ensures in
    record {
      sides = subst (All (λ side. IsPlace owners side.board.owners.now side.board.sub)) (sym c.in_ok-push.ensures.items) (all_more (λ side. IsPlace owners side.board.owners.now side.board.sub) _ _ have.sides (is.owners, (let below = is.side in omega (arith, below, c.requires.places))));
      own = ap (map _) c.in_ok-push.ensures.items
          ∙ same_more _ (λ (line : RunLine). (cmd_of line).sub) opened.sides.items _ lines c.loop-i.i c.index-lines-i.result c.loop-i-test.true have.own (is.own ∙ ap (λ (line : RunLine). (cmd_of line).sub) c.index-lines-i.is);
      count = (let e = c.in_ok-push.ensures.len in let n = have.count in omega arith);
      mungers = ap (map _) c.in_ok-push.ensures.items ∙ (both_more _ _ _ _ _ _ have.mungers is.munger ∙ sym (ap (map _) c.in_ok-push-2.ensures.items));
      events = (let e = c.in_ok-push-4.ensures.len in let n = have.events in omega arith);
      every = ap (map _) c.in_ok-push-4.ensures.items
          ∙ same_more _ (every_of board signals) opened.events.items _ lines c.loop-i.i c.index-lines-i.result c.loop-i-test.true have.every (is.events ∙ ap (every_of board signals) c.index-lines-i.is);
      streams = ap (map stream_start) c.in_ok-push-2.ensures.items
          ∙ same_more stream_start (line_start board signals) opened.streams.items _ lines c.loop-i.i c.index-lines-i.result c.loop-i-test.true have.streams (is.stream ∙ ap (line_start board signals) c.index-lines-i.is);
      formats = ap (map text_format) c.in_ok-push-3.ensures.items
          ∙ same_more text_format (line_format board signals) opened.texts.items _ lines c.loop-i.i c.index-lines-i.result c.loop-i-test.true have.formats (ap text_format is.text ∙ ap (line_format board signals) c.index-lines-i.is);
      read = read_more opened.streams.items _ opened.texts.items _ c.in_ok-side.field-0.stream _ c.in_ok-push-2.ensures.items c.in_ok-push-3.ensures.items have.read (paced_one board signals c.in_ok-side.field-0.stream c.index-lines-i.result is.stream) (starts_with board signals c.in_ok-side.field-0.stream c.index-lines-i.result c.in_ok-side.field-0.text is.stream is.text is.report);
    }
