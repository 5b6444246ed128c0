use Rattle.std.proofs.Common.{◌≡◌, Option, sym, ap, ◌∙◌, subst}
use Rattle.cm_board.specs.Board.{IsSoundSub, SubText}
use Rattle.cm_board.specs.declared.board.Fifo.{Fifo}
use Rattle.cm_expand.specs.Plan.{PlanText, is_complete, stop_edge_of}
use Rattle.cm_expand.specs.PlanView.{plan_text}
use Rattle.cm_running.specs.PendingView.{by_feed}
use Rattle.cm_running.specs.Schedules.{reaching}
use Rattle.cm_running.specs.ToCome.{ToCome}
use Rattle.cm_running.proofs.Sizes.{fifo-size}
use Rattle.cm_running.proofs.pending.Pending.new.Goals as goal
use Rattle.cm_running.proofs.pending.Pending.new.Goals.{in-None+in_ok-new-in-None, in-Some+in_ok-new-in-Some}

-- what is to come of a plan, with a FIFO or without one
abbrev reached : PlanText → Option Fifo → ToCome
reached p fifo = record { conversions = (reaching p fifo).arrivals; complete = is_complete p; edge = stop_edge_of p; lost_at = (reaching p fifo).lost_at }

pub new-requires-in-Some-clause-low : goal.new-requires-in-Some-clause-low
new-requires-in-Some-clause-low c = (fifo-size c.sub-sub.result.now c.in-Some.fifo (subst IsSoundSub c.sub.view_is c.sub.invariant.sound) (sym (ap (λ (s : SubText). s.fifo) c.sub.view_is) ∙ c.in-Some.is)).0

pub new-requires-in-Some-clause-high : goal.new-requires-in-Some-clause-high
new-requires-in-Some-clause-high c = (fifo-size c.sub-sub.result.now c.in-Some.fifo (subst IsSoundSub c.sub.view_is c.sub.invariant.sound) (sym (ap (λ (s : SubText). s.fifo) c.sub.view_is) ∙ c.in-Some.is)).1

pub returns : goal.returns
returns c =
    let p = plan_text c.args.plan in
    let fifo : c.sub.inside.fifo ≡ p.sub.fifo = ap (λ (s : SubText). s.fifo) (c.sub.view_is ∙ c.sub-sub.ensures) in
    elim c.match-sub.branch [
      | in-None+in_ok-new-in-None w ↦ ap by_feed w.feed-is ∙ w.in_ok-new-in-None.ensures ∙ ap (reached p) (sym w.in-None.is ∙ fifo)
      | in-Some+in_ok-new-in-Some w ↦ ap by_feed w.feed-is ∙ w.in_ok-new-in-Some.ensures ∙ ap (reached p) (sym w.in-Some.is ∙ fifo)
    ]
