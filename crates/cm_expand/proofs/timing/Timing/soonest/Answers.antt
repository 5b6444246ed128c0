use Rattle.std.proofs.Common.{◌≡◌, None, ap, sym, subst}
use Rattle.std.specs.Prelude.{MatchOption}
use Rattle.cm_expand.specs.TimingView.{begins_text}
use Rattle.cm_expand.specs.Timing.{Begins, AreBegins, soonest}
use Rattle.cm_expand.specs.TimePoint.{IsSoonest, IsTick}
use Rattle.cm_expand.proofs.Soonest.{tick_is_soonest, edges_soonest}
use Rattle.cm_expand.proofs.timing.Timing.soonest.Goals as goal

pub returns-in-Every : goal.returns-in-Every
returns-in-Every c =
    let start = c.args.self.now.start in
    let was = subst (λ (b : Begins). IsTick b start c.args.last) (ap begins_text c.in-Every.is) c.requires.tick in
    let ticks = c.tick_from.ensures in
    subst (λ (b : Begins). IsSoonest b start c.args.from c.tick_from.result 0) (sym (ap begins_text c.in-Every.is))
    (tick_is_soonest start c.args.last c.args.from c.in-Every.period c.tick_from.result c.requires.since c.requires.last was ticks.tick ticks.since ticks.low ticks.high)

pub returns-in-OnEdges : goal.returns-in-OnEdges
returns-in-OnEdges c =
    let start = c.args.self.now.start in
    let edges = subst (λ (b : Begins). AreBegins c.args.self.now.horizon b) (ap begins_text c.in-OnEdges.is) c.requires.timing.begins in
    subst (λ (b : Begins). MatchOption c.edge_from.result (soonest b start c.args.from ≡ None) (λ found. IsSoonest b start c.args.from found.time found.at)) (sym (ap begins_text c.in-OnEdges.is))
    (edges_soonest c.in-OnEdges.edges.now start c.args.from c.edge_from.result edges.rise c.edge_from.ensures)
