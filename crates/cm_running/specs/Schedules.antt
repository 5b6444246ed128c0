-- What is planned for a command of a board.
use Rattle.std.specs.Prelude.{ℕ, Option, None, Some}
use Rattle.cm_board.specs.declared.board.Fifo.{Fifo}
use Rattle.cm_expand.specs.Items.{items_of}
use Rattle.cm_expand.specs.Plan.{PlanText, is_complete, stop_edge_of}
use Rattle.cm_fifo.specs.Handed.{Handed, handed_of}
use Rattle.cm_text.specs.Format.{format_of}
use Rattle.cm_running.specs.Running.{Schedule}

-- what reaches the buffer of a plan's command: each conversion when it is made, or when the FIFO hands it over
abbrev pub reaching : PlanText → Option Fifo → Handed
reaching p None = record { arrivals = items_of p; lost_at = None }
reaching p (Some f) = handed_of p f

-- what a plan comes to
abbrev pub schedule_of : PlanText → Schedule
schedule_of p = record {
  plan = p;
  conversions = items_of p;
  complete = is_complete p;
  arrivals = (reaching p p.sub.fifo).arrivals;
  lost_at = (reaching p p.sub.fifo).lost_at;
  edge = stop_edge_of p;
  horizon = p.signals.horizon;
  size = p.sub.buffer;
  format = format_of p;
}

-- what is planned once an internal trigger is given at a time
abbrev pub triggered : ℕ → Schedule → Schedule
triggered time s = schedule_of (record s.plan { trig = Some time })
