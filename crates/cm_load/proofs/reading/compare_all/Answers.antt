use Rattle.std.proofs.Common.{◌≡◌, ◌+◌, ap, ◌∙◌, arith}
use Rattle.cm_ring.specs.Roles.{Reading}
use Rattle.cm_load.proofs.Comparing.{more_wrong}
use Rattle.cm_load.proofs.reading.compare_all.Goals as goal

pub loop-preserved : goal.loop-preserved
loop-preserved g c =
    let before = c.loop.invariant in
    let looked = c.ended.ensures.same in
    let read = c.read_piece-count.ensures in
    let still : c.ended.new.self.part.released ≡ c.loop.reader.part.released = ap (λ (r : Reading). r.part.released) looked in
    let next : c.read_piece-count.new.reader.part.released ≡ c.ended.new.self.part.released + c.read_piece-count.result = ap (λ (r : Reading). r.part.released) read.same in
    record {
      none_mapped = ap (λ (r : Reading). r.mapped) read.same ∙ ap (λ (r : Reading). r.mapped) looked ∙ before.none_mapped;
      not_asked = ap (λ (r : Reading). r.part.asked) read.same ∙ ap (λ (r : Reading). r.part.asked) looked ∙ before.not_asked;
      ring = ap (λ (r : Reading). r.ring) read.same ∙ ap (λ (r : Reading). r.ring) looked ∙ before.ring;
      count = omega (arith, read.count, before.count);
      wrong = more_wrong _ _ _ _ _ _ _ _ _ _ _ (ap (λ (r : Reading). r.ring) looked ∙ before.ring) still next before.count before.wrong read.wrong;
    }
