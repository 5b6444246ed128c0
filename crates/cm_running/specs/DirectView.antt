-- How contracts see a board that hands each conversion over when it is made.
use Rattle.std.specs.Prelude.{None}
use Rattle.cm_expand.specs.Items.{items_of}
use Rattle.cm_expand.specs.Plan.{PlanText, is_complete, stop_edge_of}
use Rattle.cm_expand.specs.Taking.{NeverFalls, left_of}
use Rattle.cm_running.specs.ToCome.{ToCome}
use Rattle.cm_running.specs.declared.direct.Direct.TheInside.{Inside}

-- those that the board has left
abbrev pub to_give : Inside → ToCome
to_give d = record { conversions = left_of d.board; complete = is_complete d.board.plan; edge = d.edge; lost_at = None }

-- all of a plan
abbrev pub all_of : PlanText → ToCome
all_of p = record { conversions = items_of p; complete = is_complete p; edge = stop_edge_of p; lost_at = None }

-- their times never fall
pub record IsAhead (d : Inside) : Type 0 where
  pub order : NeverFalls (left_of d.board)
