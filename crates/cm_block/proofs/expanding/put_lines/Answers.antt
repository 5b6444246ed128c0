use Rattle.std.proofs.Common.{length, sym, ap, ◌∙◌, arith}
use Rattle.std.specs.List.{flat_map}
use Rattle.std.proofs.lemmas.List.{drop_all}
use Rattle.cm_block.specs.ExpandSession.{conversion_line}
use Rattle.cm_block.proofs.expanding.put_lines.Goals as goal

pub loop-i-init : goal.loop-i-init
loop-i-init c =
    let conversions = c.args.conversions.now in
    let size = c.requires.room in
    let few = c.requires.few in
    record {
      made = drop_all 4032 c.args.lines.now (omega arith) ∙ sym (ap (flat_map conversion_line) (drop_all (length conversions) conversions (omega arith)));
      size = size;
      within = omega arith;
      room = omega arith;
      few = omega arith;
    }
