use Rattle.std.proofs.Common.{◌≡◌, arith, ◌∙◌, length-set, w64, to_z, of_z}
use Rattle.std.proofs.lemmas.Int.{to_z-of_z}
use Rattle.cm_signal.proofs.Progressions.{put_later}
use Rattle.cm_signal.proofs.quick.Quick.put_levels.Goals as goal

pub loop-i-preserved : goal.loop-i-preserved
loop-i-preserved g c =
    let i = c.loop-i.i in
    let level = to_z w64 (of_z w64 c.level.result) in
    let same : level ≡ c.level.result = to_z-of_z w64 c.level.result (record { sfits = c.level.type_inv }) in
    record {
      so_far = put_later (g.S.Shape.level_at c.args.shape) c.args.first c.args.period i c.loop-i.levels level (omega arith) c.loop-i.invariant.so_far (same ∙ c.level.ensures);
      size = length-set c.loop-i.levels i level ∙ c.loop-i.invariant.size;
    }
