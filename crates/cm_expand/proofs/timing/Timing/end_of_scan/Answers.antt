use Rattle.std.proofs.Common.{◌≡◌, subst, ap, ◌∙◌, arith}
use Rattle.std.specs.Prelude.{Some}
use Rattle.cm_expand.specs.TimingView.{converts_text}
use Rattle.cm_expand.specs.Timing.{Converts, AreConverts, up_to, conversion_time, scan_end}
use Rattle.cm_expand.specs.TimePoint.{IsCut, convert_edges}
use Rattle.cm_expand.proofs.Conversions.{edge_not_before, edge_end, up_to_is}
use Rattle.cm_expand.proofs.timing.Timing.end_of_scan.Goals as goal

pub returns-in-PerEdge : goal.returns-in-PerEdge
returns-in-PerEdge c =
    let horizon = c.args.self.now.horizon in
    let point = c.args.point.now in
    let edges = subst (λ (v : Converts). AreConverts horizon v) (ap converts_text c.in-PerEdge.is) c.requires.timing.converts in
    let cut = subst (λ (v : Converts). IsCut (convert_edges v) point.convert_at point.begin) (ap converts_text c.in-PerEdge.is) c.requires.point.convert_at in
    let here = subst (λ (v : Converts). up_to horizon (conversion_time v point.begin point.index) ≡ Some point.time) (ap converts_text c.in-PerEdge.is) c.requires.point.here in
    let after = edge_not_before c.in-PerEdge.field-0.now horizon point.convert_at point.begin point.index point.time edges cut here in
    let within = (up_to_is horizon _ point.time here).1 in
    record {
      end = ap (λ (v : Converts). scan_end v c.args.self.now.per_scan point.begin) (ap converts_text c.in-PerEdge.is)
          ∙ edge_end c.in-PerEdge.field-0.now horizon c.args.self.now.per_scan point.begin point.index point.time c.requires.last here;
      later = omega arith;
      small = let bound = c.requires.timing.horizon in omega arith;
    }
