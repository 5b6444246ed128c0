use Rattle.std.proofs.Common.{ℕ, List, length, sym, subst, ap, ◌∙◌, rules}
use Rattle.std.specs.Prelude.{slice_get, slice_index}
use Rattle.cm_expand.proofs.Pushed.{each_pushed}
use Rattle.cm_sample.specs.declared.scale.Scale.{Scale}
use Rattle.cm_text.specs.Scales.{IsScaleOf}
use Rattle.cm_text.proofs.scales.scales_of.Goals as goal

pub loop-entry-preserved : goal.loop-entry-preserved
loop-entry-preserved c =
    let IsOf : ℕ → Scale → Type 0 = λ k scale. IsScaleOf c.args.sub.now (slice_index c.args.list.now k) scale in
    let last : IsOf (length c.loop-entry.scales.items) c.scale_of.result = subst (λ k. IsOf k c.scale_of.result) (sym c.loop-entry.invariant.all) c.scale_of.ensures in
    let more = c.in_ok-push.ensures.items in
    record {
      all = search rules;
      each = λ k scale e. each_pushed IsOf c.loop-entry.scales.items c.scale_of.result c.loop-entry.invariant.each last k scale (ap (λ (xs : List Scale). slice_get xs k) (sym more) ∙ e);
    }
