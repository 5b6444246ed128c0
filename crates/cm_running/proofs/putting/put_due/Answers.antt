use Rattle.std.proofs.Common.{◌-◌, ◌≤◌, length, ap, ◌∙◌, arith, length-drop}
use Rattle.cm_ring_core.specs.Local.{Ring}
use Rattle.cm_running.specs.ToCome.{ToCome}
use Rattle.cm_running.proofs.Puttings.{drop-put, emptied-some, moves-more, reporting-some}
use Rattle.cm_running.proofs.putting.put_due.Goals as goal

pub loop-board-preserved : goal.loop-board-preserved
loop-board-preserved c =
    let way = c.loop-board.invariant in
    let step = c.in_ok-put_next-in-Some.ensures in
    let next = c.in-Some.ensures.conversions in
    let some : 1 ≤ c.loop-board.ring.w - c.loop-board.ring.r = omega (arith, way.munged, c.contents.ensures) in
    let r = ap (λ (ring : Ring). ring.r) step.ring in
    let w = ap (λ (ring : Ring). ring.w) step.ring in
    record {
      unmapped = omega (arith, r, ap (λ (ring : Ring). ring.ra) step.ring);
      munged = omega (arith, way.munged, w, ap (λ (ring : Ring). ring.m) step.ring);
      places = omega (arith, way.places, w);
      long = omega (arith, way.long, r, w, ap (λ (ring : Ring). length ring.held) step.ring, length-drop 1 c.loop-board.ring.held);
      moves = moves-more c.args.ring.now c.loop-board.ring c.put_next.new.ring c.args.board.now c.loop-board.board c.next_by.new.self c.in-Some.conversion way.moves some next.0 c.in-Some.ensures.after step.ring;
      ring = emptied-some c.loop-board.ring c.put_next.new.ring c.loop-board.board.conversions c.in-Some.conversion c.next_by.new.self.conversions c.args.time some next.0 next.1 step.ring ∙ way.ring;
      board = drop-put c.loop-board.ring c.put_next.new.ring c.loop-board.board.conversions c.in-Some.conversion c.next_by.new.self.conversions c.args.time some next.0 next.1 step.ring ∙ way.board;
      rest = c.in-Some.ensures.after ∙ ap (λ (b : ToCome). let t : ToCome = record b { conversions = c.next_by.new.self.conversions } in t) way.rest;
      reported = reporting-some c.args.sub c.loop-board.ring c.put_next.new.ring c.loop-board.board.conversions c.in-Some.conversion c.next_by.new.self.conversions c.args.time c.loop-board.text.items c.put_next.new.text.items some way.long next.0 next.1 step.ring step.text ∙ way.reported;
    }

pub returns-in_err-put_next-in-Some-clause-moves : goal.returns-in_err-put_next-in-Some-clause-moves
returns-in_err-put_next-in-Some-clause-moves c =
    let way = c.loop-board.invariant in
    let some : 1 ≤ c.loop-board.ring.w - c.loop-board.ring.r = omega (arith, way.munged, c.contents.ensures) in
    moves-more c.args.ring.now c.loop-board.ring c.put_next.new.ring c.args.board.now c.loop-board.board c.next_by.new.self c.in-Some.conversion way.moves some c.in-Some.ensures.conversions.0 c.in-Some.ensures.after c.in_err-put_next-in-Some.ensures.ring
