use Rattle.std.proofs.Common.{List, ℕ, sym, subst}
use Rattle.std.specs.Prelude.{is_ok}
use Rattle.cm_signal.specs.Signals.{IsSoundSignals, SignalsText}
use Rattle.cm_signal.specs.View.{signals_text}
use Rattle.cm_signal.specs.declared.signals.Slope.{Slope}
use Rattle.cm_signal.specs.declared.signals.Slope.TheVariants as slopes
use Rattle.cm_signal.proofs.Grown.{MayStand, edges_either, extended_items}
use Rattle.cm_signal.proofs.signals.Signals.put_edges.Goals as goal

pub invariant_of-self : goal.invariant_of-self
invariant_of-self c =
    let s : SignalsText = signals_text c.self.inside in
    let line = c.args.line in
    let times = c.args.times.now in
    let done = is_ok c.extend_line.result in
    let given : MayStand c.args.self.now c.args.slope line times = record { below = c.requires.line; room = c.requires.room; rise = c.requires.rise } in
    let may = subst (λ (slope : Slope). MayStand s slope line times) c.in-Rise.is (subst (λ (t : SignalsText). MayStand t c.args.slope line times) (sym c.self.view_is) given) in
    let new = extended_items c.self.inside.edges c.deref_mut.result.now c.extend_line.new.lines line c.as_slice.result.now times done c.extend_line.ensures c.deref_mut.ensures.value c.as_slice.ensures in
    subst (λ (lists : List (List ℕ)). IsSoundSignals (record s { edges = lists })) (sym new) (edges_either s slopes.Rise line times done c.self.invariant may)

pub invariant_of-self-in-Fall : goal.invariant_of-self-in-Fall
invariant_of-self-in-Fall c =
    let s : SignalsText = signals_text c.self.inside in
    let line = c.args.line in
    let times = c.args.times.now in
    let done = is_ok c.extend_line-in-Fall.result in
    let given : MayStand c.args.self.now c.args.slope line times = record { below = c.requires.line; room = c.requires.room; rise = c.requires.rise } in
    let may = subst (λ (slope : Slope). MayStand s slope line times) c.in-Fall.is (subst (λ (t : SignalsText). MayStand t c.args.slope line times) (sym c.self.view_is) given) in
    let new = extended_items c.self.inside.falls c.deref_mut-in-Fall.result.now c.extend_line-in-Fall.new.lines line c.as_slice-in-Fall.result.now times done c.extend_line-in-Fall.ensures c.deref_mut-in-Fall.ensures.value c.as_slice-in-Fall.ensures in
    subst (λ (lists : List (List ℕ)). IsSoundSignals (record s { falls = lists })) (sym new) (edges_either s slopes.Fall line times done c.self.invariant may)
