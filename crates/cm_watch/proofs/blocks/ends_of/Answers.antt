use Rattle.std.proofs.Common.{ℕ, List, length, sym, ap, ◌∙◌, subst, Some, arith}
use Rattle.std.specs.Prelude.{slice_get}
use Rattle.cm_ring_core.specs.declared.view.End.{End}
use Rattle.cm_stream.specs.Merging.{IsEndOf}
use Rattle.cm_watch.proofs.Wholes.{ended_more, some_end}
use Rattle.cm_watch.proofs.blocks.ends_of.Goals as goal

pub unreachable-requires : goal.unreachable-requires
unreachable-requires g c = some_end c.args.merge.now.streams c.loop-i.i c.requires.over (subst (IsEndOf c.args.merge.now.streams c.loop-i.i) c.in_default.is c.end_of.ensures)

pub loop-i-preserved : goal.loop-i-preserved
loop-i-preserved g c =
    let count = c.loop-i.invariant.count in
    let last : IsEndOf c.args.merge.now.streams (length c.loop-i.ends.items) (Some c.in-Some.end) =
    subst (λ (n : ℕ). IsEndOf c.args.merge.now.streams n (Some c.in-Some.end)) (sym count) (subst (IsEndOf c.args.merge.now.streams c.loop-i.i) c.in-Some.is c.end_of.ensures) in
    record {
      count = (let more = c.in_ok-push.ensures.len in omega arith);
      each = λ j e here. ended_more c.args.merge.now.streams c.loop-i.ends.items c.in-Some.end c.loop-i.invariant.each last j e (ap (λ (l : List End). slice_get l j) (sym c.in_ok-push.ensures.items) ∙ here);
    }
