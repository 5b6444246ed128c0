use Rattle.std.proofs.Common.{◌+◌, sym, subst, ap, ◌∙◌, arith}
use Rattle.std.specs.Prelude.{slice_get}
use Rattle.cm_expand.specs.TimingView.{converts_text}
use Rattle.cm_expand.specs.Timing.{Converts, AreConverts, up_to, conversion_time}
use Rattle.cm_expand.specs.TimePoint.{IsCut, convert_edges}
use Rattle.cm_expand.proofs.Conversions.{edge_conversion_up_to}
use Rattle.cm_expand.proofs.timing.Timing.later_conversion.Goals as goal

pub overflow_add-point-in-PerEdge : goal.overflow_add-point-in-PerEdge
overflow_add-point-in-PerEdge c =
    let edges = subst (λ (v : Converts). AreConverts c.args.self.now.horizon v) (ap converts_text c.in-PerEdge.is) c.requires.timing.converts in
    let cut = subst (λ (v : Converts). IsCut (convert_edges v) c.args.point.now.convert_at c.args.point.now.begin) (ap converts_text c.in-PerEdge.is) c.requires.point.convert_at in
    omega arith

pub overflow_add-point-in-PerEdge-2 : goal.overflow_add-point-in-PerEdge-2
overflow_add-point-in-PerEdge-2 c =
    let edges = subst (λ (v : Converts). AreConverts c.args.self.now.horizon v) (ap converts_text c.in-PerEdge.is) c.requires.timing.converts in
    let cut = subst (λ (v : Converts). IsCut (convert_edges v) c.args.point.now.convert_at c.args.point.now.begin) (ap converts_text c.in-PerEdge.is) c.requires.point.convert_at in
    omega arith

pub returns-in-PerEdge : goal.returns-in-PerEdge
returns-in-PerEdge c =
    let horizon = c.args.self.now.horizon in
    let point = c.args.point.now in
    let edges = subst (λ (v : Converts). AreConverts horizon v) (ap converts_text c.in-PerEdge.is) c.requires.timing.converts in
    let cut = subst (λ (v : Converts). IsCut (convert_edges v) point.convert_at point.begin) (ap converts_text c.in-PerEdge.is) c.requires.point.convert_at in
    c.edge_at.ensures
    ∙ ap (slice_get c.in-PerEdge.edges.now) (omega arith)
    ∙ sym (edge_conversion_up_to c.in-PerEdge.edges.now horizon point.convert_at point.begin (point.index + 1) edges cut)
    ∙ ap (λ (v : Converts). up_to horizon (conversion_time v point.begin (point.index + 1))) (sym (ap converts_text c.in-PerEdge.is))
