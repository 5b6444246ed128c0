use Rattle.std.proofs.Common.{refl, sym, ◌∙◌}
use Rattle.cm_ring.specs.Samples.{munged_plan}
use Rattle.cm_stream.proofs.Cuts.{scans_none}
use Rattle.cm_stream.proofs.collect.collect_scans.Goals as goal

pub loop-init : goal.loop-init
loop-init g c = record {
  same = record { n = refl; table = refl; ring = refl; asked = refl };
  scans = c.new-scans.ensures.items ∙ sym (scans_none (munged_plan c.args.stream.now.reader.ring) c.args.stream.now.n c.args.stream.now.reader.part.released c.requires.fresh);
}
