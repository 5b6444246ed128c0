use Rattle.std.proofs.Common.{◌+◌, ◌-◌, ◌≤◌, length, take, ap, ◌∙◌, arith}
use Rattle.cm_ring.specs.Roles.{Reading}
use Rattle.cm_client.proofs.Pieces.{all_after, mapped_piece, mapped_released, piece_accepted}
use Rattle.cm_client.proofs.reading.hand_over.Goals as goal

pub consume-requires : goal.consume-requires
consume-requires g c =
    let r = c.args.map.now.reader.now in
    let mapped = c.contents-count.ensures in
    let count = c.contents-count.result in
    let within : r.part.released + count ≤ length r.ring.samples = omega (arith, mapped.within.0, mapped.within.1) in
    piece_accepted _ _ _ _ r (take count c.copy_words.new.out) count c.requires.all within
    (mapped_piece r c.contents-count.new.self.reader.now count c.copy_words.new.out _ within mapped.same c.copy_words.ensures.copied)

pub returns-clause-all : goal.returns-clause-all
returns-clause-all g c =
    let r = c.args.map.now.reader.now in
    let m = c.contents-count.new.self.reader.now in
    let n = c.release.new.self.reader.now in
    let mapped = c.contents-count.ensures in
    let count = c.contents-count.result in
    let within : r.part.released + count ≤ length r.ring.samples = omega (arith, mapped.within.0, mapped.within.1) in
    let read = mapped_released r m n count c.requires.all.none_mapped within mapped.same
    (c.release.ensures.same ∙ ap (λ (x : Reading). let y : Reading = record x { part = record x.part { released = x.part.released + count }; mapped = x.mapped - count } in y) c.copy_words.ensures.reader) in
    all_after _ _ count _ _ _ _ _ _ r n (take count c.copy_words.new.out) c.requires.all read
    (mapped_piece r m count c.copy_words.new.out _ within mapped.same c.copy_words.ensures.copied)
    c.in_ok-consume.ensures.count c.in_ok-consume.ensures.made c.consume.ensures.makes c.consume.ensures.accepts
