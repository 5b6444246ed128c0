use Rattle.std.proofs.Common.{ap, ◌≡◌, sym, subst}
use Rattle.std.specs.Prelude.{MatchOption, Some, None}
use Rattle.cm_expand.specs.TimingView.{converts_text}
use Rattle.cm_expand.specs.Timing.{Converts, AreConverts, up_to, conversion_time}
use Rattle.cm_expand.specs.TimePoint.{IsCut, convert_edges}
use Rattle.cm_expand.proofs.Conversions.{first_at_edge}
use Rattle.cm_expand.proofs.timing.Timing.first_conversion.Goals as goal

pub returns-in-PerEdge : goal.returns-in-PerEdge
returns-in-PerEdge c =
    let horizon = c.args.self.now.horizon in
    let edges = subst (λ (v : Converts). AreConverts horizon v) (ap converts_text c.in-PerEdge.is) c.requires.timing.converts in
    subst (λ (v : Converts). MatchOption c.edge_from.result (up_to horizon (conversion_time v c.args.begin 0) ≡ None)
    (λ b. (up_to horizon (conversion_time v c.args.begin 0) ≡ Some b.time) × IsCut (convert_edges v) b.at c.args.begin)) (sym (ap converts_text c.in-PerEdge.is))
    (first_at_edge c.in-PerEdge.edges.now horizon c.args.begin c.edge_from.result edges c.edge_from.ensures)
