-- How contracts see a board that hands conversions over through a FIFO.
use Rattle.std.specs.Prelude.{ℕ, ◌+◌, List, [], ◌++◌, length, map, take, drop, Option, Some, if◌then◌else◌}
use Rattle.cm_board.specs.declared.board.Fifo.{Fifo}
use Rattle.cm_expand.specs.Items.{items_of}
use Rattle.cm_expand.specs.Plan.{PlanText, is_complete, stop_edge_of}
use Rattle.cm_expand.specs.Taking.{NeverFalls}
use Rattle.cm_expand.specs.declared.conv.Conv.{Conv}
use Rattle.cm_fifo.specs.Handed.{Handed, at_time, handed_after, handed_of}
use Rattle.cm_fifo.specs.State.{FifoState}
use Rattle.cm_running.specs.ToCome.{ToCome}
use Rattle.cm_running.specs.declared.delayed.Delayed.TheInside.{Inside}

-- those that are ready, which were handed over at a time
abbrev pub ready_at : ℕ → FifoState → List Conv
ready_at at b = map (at_time at) (take b.ready (drop b.taken (items_of b.plan)))

-- what is handed over after them; nothing, once one was lost
abbrev pub later_than : ℕ → FifoState → Handed
later_than at b =
    if b.over then record { arrivals = []; lost_at = Some at } else
    handed_after b.fifo b.plan (b.taken + b.ready) (length (items_of b.plan))

-- what is still to come of a board whose last drain or overflow was at a time
abbrev pub to_hand_over : ℕ → FifoState → Option ℕ → ToCome
to_hand_over at b edge = record {
  conversions = ready_at at b ++ (later_than at b).arrivals;
  complete = is_complete b.plan;
  edge = edge;
  lost_at = (later_than at b).lost_at;
}

-- what a board with a FIFO has still to hand over
abbrev pub to_hand : Inside → ToCome
to_hand d = to_hand_over d.at d.board d.edge

-- all of a plan
abbrev pub all_handed : PlanText → Fifo → ToCome
all_handed p f = record {
  conversions = (handed_of p f).arrivals;
  complete = is_complete p;
  edge = stop_edge_of p;
  lost_at = (handed_of p f).lost_at;
}

-- their times never fall
pub record IsDelayed (d : Inside) : Type 0 where
  pub order : NeverFalls (to_hand d).conversions
