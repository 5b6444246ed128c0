use Rattle.std.proofs.Common.{◌≡◌, ◌≤◌, List, length, drop, refl, subst, ap, ap₂, sym, ◌∙◌, arith, rules, length-drop, length-take}
use Rattle.std.proofs.lemmas.List.{take-append-le}
use Rattle.cm_ring_core.specs.Local.{IsLevel, Ring}
use Rattle.cm_ring_core.specs.Pushed.{pushed}
use Rattle.cm_expand.specs.declared.conv.Conv.{Conv}
use Rattle.cm_running.specs.Filling.{filled, moving}
use Rattle.cm_running.specs.ToCome.{ToCome}
use Rattle.cm_expand.proofs.Come.{come-le}
use Rattle.cm_running.proofs.Fillings.{filled_piece, left_piece, piece_length, with_piece}
use Rattle.cm_running.proofs.filling.fill.Goals as goal

pub loop-words-preserved : goal.loop-words-preserved
loop-words-preserved c =
    let ring = c.loop-words.ring in
    let left = c.loop-words.board.conversions in
    let count = c.take_by-count.result in
    let taken = c.take_by-count.ensures in
    let level = c.loop-words.invariant.level in
    let new = c.push_all.new.self in
    let some : count ≤ moving ring left c.args.time = omega (arith, length-take c.min-most.result c.loop-words.words) in
    let words = take-append-le count c.take_by-count.new.out (drop c.min-most.result c.loop-words.words) (omega (arith, taken.size)) ∙ taken.words in
    let its_ring : new ≡ with_piece ring left count = c.push_all.ensures ∙ ap (pushed ring) words in
    let its_left : c.take_by-count.new.self.conversions ≡ drop count left = search rules in
    let many = piece_length left c.args.time count (omega arith) in
    let moved : c.take_by-count.new.self ≡ (let t : ToCome = record c.args.board.now { conversions = c.take_by-count.new.self.conversions } in t) =
    taken.after ∙ ap₂ (λ cs (b : ToCome). let t : ToCome = record b { conversions = cs } in t) (sym its_left) c.loop-words.invariant.rest in
    record {
      level = subst IsLevel (sym its_ring) (record { m_w = refl; w_a = refl });
      places = omega (arith, ap (λ (r : Ring). r.a) its_ring, ap (length {A = Conv}) its_left, length-drop count left, many, come-le c.args.time left, level.w_a);
      ring = ap₂ (λ (r : Ring) (cs : List Conv). filled r cs c.args.time) its_ring its_left ∙ filled_piece ring left c.args.time count taken.order level some ∙ c.loop-words.invariant.ring;
      board = ap₂ (λ (r : Ring) (cs : List Conv). drop (moving r cs c.args.time) cs) its_ring its_left ∙ left_piece ring left c.args.time count taken.order level some ∙ c.loop-words.invariant.board;
      rest = moved;
    }
