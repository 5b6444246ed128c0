use Rattle.std.proofs.Common.{◌≡◌, None, sym, subst, refl, arith}
use Rattle.std.specs.List.{All}
use Rattle.cm_text.proofs.Entries.{all_none}
use Rattle.cm_base.proofs.Elements.{all_more}
use Rattle.cm_text.proofs.kept.none_kept.Goals as goal

pub loop-i-preserved : goal.loop-i-preserved
loop-i-preserved c = record {
  count = (let e = c.in_ok-push.ensures.len in let n = c.loop-i.invariant.count in omega arith);
  none = subst (All (λ kept. kept.word ≡ None)) (sym c.in_ok-push.ensures.items) (all_more (λ kept. kept.word ≡ None) c.loop-i.lines.items _ c.loop-i.invariant.none refl);
}

pub returns : goal.returns
returns c = all_none c.args.format.now c.loop-i.lines.items (let n = c.loop-i.invariant.count in let e = c.entries-i-end.ensures.count in let t = c.loop-i-test.false in let w = c.loop-i.auto.i-end in omega arith) c.loop-i.invariant.none
