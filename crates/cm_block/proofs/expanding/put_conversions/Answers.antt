use Rattle.std.proofs.Common.{ℕ, ◌<◌, ◌≤◌, ◌++◌, List, length, take, refl, sym, subst, ap, ◌∙◌, arith}
use Rattle.std.specs.List.{flat_map}
use Rattle.cm_expand.specs.Board.{BoardState}
use Rattle.cm_expand.specs.Items.{items_of}
use Rattle.cm_base.proofs.UnderWay.{on_err, under_way-failed, under_way-stopped}
use Rattle.cm_base.specs.Transfer.{IsUnderWay}
use Rattle.cm_block.specs.ExpandSession.{conversion_line, expansion_text}
use Rattle.cm_block.proofs.Expansions.{all-given, end-gathered, fresh-left, left_text, none-after, taken-gathered, taken-moved, under_way-begun}
use Rattle.cm_block.proofs.expanding.put_conversions.Goals as goal

pub loop-board-init : goal.loop-board-init
loop-board-init g c =
    let reported = g.K.Sink.text c.args.sink.now in
    let text = c.args.text.now.items in
    let piece = expansion_text (c.args.board.plan) in
    record {
      way = subst (λ (rest : List ℕ). IsUnderWay reported reported text rest (text ++ piece)) (sym (fresh-left c.args.board c.args.board.plan (ap (λ (n : ℕ). let b : BoardState = record { plan = c.args.board.plan; place = n } in b) c.requires))) (under_way-begun reported text piece);
      size = refl;
      room = refl;
      later = omega arith;
    }

pub loop-board-preserved : goal.loop-board-preserved
loop-board-preserved g c =
    let a = g.K.Sink.text c.args.sink.now in
    let b = g.K.Sink.text c.loop-board.sink in
    let old = c.loop-board.board in
    let new = c.take-count.new.self in
    let text = c.loop-board.text.items in
    let whole = c.args.text.now.items ++ expansion_text c.args.board.plan in
    let piece = take c.take-count.result c.take-count.new.out in
    record {
      way = taken-moved a b (g.K.Sink.text c.pass_on.new.sink) old new c.take-count.result piece text c.pass_on.new.text.items whole c.take-count.ensures.conversions c.take-count.ensures.after c.in_ok-pass_on.ensures.goes c.loop-board.invariant.way;
      size = c.take-count.ensures.size ∙ c.loop-board.invariant.size;
      room = c.pass_on.auto.lines ∙ c.loop-board.invariant.room;
      later = omega (arith, c.loop-board.invariant.later, c.pass_on.ensures.later);
    }

pub returns-in_err-pass_on-clause-prefix : goal.returns-in_err-pass_on-clause-prefix
returns-in_err-pass_on-clause-prefix g c =
    let a = g.K.Sink.text c.args.sink.now in
    let b = g.K.Sink.text c.loop-board.sink in
    let old = c.loop-board.board in
    let new = c.take-count.new.self in
    let text = c.loop-board.text.items in
    let whole = c.args.text.now.items ++ expansion_text c.args.board.plan in
    let piece = take c.take-count.result c.take-count.new.out in
    let more = text ++ flat_map conversion_line piece in
    on_err c.from_residual.result
    (under_way-failed a b (g.K.Sink.text c.pass_on.new.sink) more (left_text new) whole c.in_err-pass_on.ensures.prefix
    (taken-gathered a b old new c.take-count.result piece text whole c.take-count.ensures.conversions c.take-count.ensures.after c.loop-board.invariant.way))

pub complete-requires : goal.complete-requires
complete-requires g c =
    let new = c.take-count.new.self in
    let few : c.take-count.result < length c.loop-board.piece = omega (arith, c.if-count-lt-PIECE.true, c.loop-board.invariant.size) in
    let all : length (items_of new.plan) ≤ new.place = all-given c.loop-board.board new c.take-count.result (length c.loop-board.piece) c.take-count.ensures.count few c.take-count.ensures.after in
    none-after (items_of new.plan) new.place all

pub returns-in_err-put_end-clause-prefix : goal.returns-in_err-put_end-clause-prefix
returns-in_err-put_end-clause-prefix g c =
    let a = g.K.Sink.text c.args.sink.now in
    let b = g.K.Sink.text c.loop-board.sink in
    let old = c.loop-board.board in
    let new = c.take-count.new.self in
    let text = c.loop-board.text.items in
    let whole = c.args.text.now.items ++ expansion_text c.args.board.plan in
    let piece = take c.take-count.result c.take-count.new.out in
    let moved : IsUnderWay a (g.K.Sink.text c.pass_on.new.sink) c.pass_on.new.text.items (left_text new) whole =
    taken-moved a b (g.K.Sink.text c.pass_on.new.sink) old new c.take-count.result piece text c.pass_on.new.text.items whole c.take-count.ensures.conversions c.take-count.ensures.after c.in_ok-pass_on.ensures.goes c.loop-board.invariant.way in
    on_err c.from_residual-in_err-put_end.result (under_way-stopped a (g.K.Sink.text c.pass_on.new.sink) c.pass_on.new.text.items (left_text new) whole moved)

pub returns-clause-goes : goal.returns-clause-goes
returns-clause-goes g c =
    let a = g.K.Sink.text c.args.sink.now in
    let b = g.K.Sink.text c.loop-board.sink in
    let old = c.loop-board.board in
    let new = c.take-count.new.self in
    let text = c.loop-board.text.items in
    let whole = c.args.text.now.items ++ expansion_text c.args.board.plan in
    let piece = take c.take-count.result c.take-count.new.out in
    let moved : IsUnderWay a (g.K.Sink.text c.pass_on.new.sink) c.pass_on.new.text.items (left_text new) whole =
    taken-moved a b (g.K.Sink.text c.pass_on.new.sink) old new c.take-count.result piece text c.pass_on.new.text.items whole c.take-count.ensures.conversions c.take-count.ensures.after c.in_ok-pass_on.ensures.goes c.loop-board.invariant.way in
    let few : c.take-count.result < length c.loop-board.piece = omega (arith, c.if-count-lt-PIECE.true, c.loop-board.invariant.size) in
    let all : length (items_of new.plan) ≤ new.place = all-given c.loop-board.board new c.take-count.result (length c.loop-board.piece) c.take-count.ensures.count few c.take-count.ensures.after in
    end-gathered a (g.K.Sink.text c.pass_on.new.sink) new c.complete.result c.pass_on.new.text.items c.put_end.new.text.items whole all c.complete.ensures c.in_ok-put_end.ensures moved
