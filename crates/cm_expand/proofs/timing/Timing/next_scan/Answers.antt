use Rattle.std.proofs.Common.{ℕ, List, ap, sym, ◌∙◌, arith}
use Rattle.std.specs.Prelude.{flat_map}
use Rattle.cm_expand.specs.Timing.{are_full, scan}
use Rattle.cm_expand.specs.TimingView.{timing_text}
use Rattle.cm_expand.proofs.Scans.{begins_next}
use Rattle.cm_expand.proofs.timing.Timing.next_scan.Goals as goal

pub scan_at-requires-clause-passed : goal.scan_at-requires-clause-passed
scan_at-requires-clause-passed c = λ k h. let low = c.requires.point.convert_at.below k h in let later = c.in-Some.ensures.low in omega arith

pub returns-in-Some-clause-full : goal.returns-in-Some-clause-full
returns-in-Some-clause-full c =
    let timing = timing_text c.args.self.now in
    let point = c.args.point.now in
    c.scan_at.ensures.full ∙ ap (are_full timing) (sym (begins_next timing point.left point.begin _ _ c.end_of_scan-end.ensures.end (sym c.in-Some.ensures.first) (omega arith)))

pub returns-in-Some-clause-rest : goal.returns-in-Some-clause-rest
returns-in-Some-clause-rest c =
    let timing = timing_text c.args.self.now in
    let point = c.args.point.now in
    c.scan_at.ensures.rest
    ∙ ap (λ (bs : List ℕ). flat_map (scan timing) bs) (sym (begins_next timing point.left point.begin _ _ c.end_of_scan-end.ensures.end (sym c.in-Some.ensures.first) (omega arith)))
