-- What a board still has to give.
use Rattle.std.specs.Prelude.{◌≡◌, ℕ, ◌≤◌, Bool, nat_eq, nat_le, List, [], ◌∷◌, drop, Option, Some, None, if◌then◌else◌}
use Rattle.cm_expand.specs.Taking.{come}
use Rattle.cm_running.specs.Running.{Schedule, has_stopped, some_if}
use Rattle.cm_expand.specs.declared.conv.Conv.{Conv}
use Rattle.cm_text.specs.declared.end.End.{End}
use Rattle.cm_text.specs.declared.end.End.TheVariants.{Done, Dry, Fifo}

-- the conversions to come, each at the time at which it reaches the buffer;
-- whether no conversion of the command is cut off; the edge that stops the command;
-- and when a conversion is lost on the board, after these
pub record ToCome : Type 0 where
  pub conversions : List Conv
  pub complete : Bool
  pub edge : Option ℕ
  pub lost_at : Option ℕ

-- what a schedule has to come after so many conversions
abbrev pub left_after : ℕ → Schedule → ToCome
left_after count s = record {
  conversions = drop count s.arrivals;
  complete = s.complete;
  edge = s.edge;
  lost_at = s.lost_at;
}

-- all that a schedule has to come
abbrev pub all_to_come : Schedule → ToCome
all_to_come s = left_after 0 s

-- the next conversion is given where it has come by a time
abbrev pub GivesBy : ℕ → Option Conv → List Conv → List Conv → Type 0
GivesBy time None old new = (new ≡ old) × (come time old ≡ 0)
GivesBy time (Some c) old new = (old ≡ c ∷ new) × (c.time ≤ time)

-- the end that comes without a loss when nothing is left to come
abbrev pub quiet_end_shown : Bool → Option ℕ → ℕ → ℕ → Option End
quiet_end_shown complete edge horizon time =
    if complete then some_if (has_stopped edge time) Done else some_if (nat_eq time horizon) Dry

-- the end that comes when nothing is left to come, after so many conversions
abbrev pub last_end_shown : ToCome → ℕ → ℕ → ℕ → Option End
last_end_shown to_come served horizon time = by_loss to_come.lost_at
  where
    by_loss : Option ℕ → Option End
    by_loss None = quiet_end_shown to_come.complete to_come.edge horizon time
    by_loss (Some at) = some_if (nat_le at time) (Fifo served)

-- the end that a board shows by a time,
-- where all that has come and is served is gone: a next one that has come is missed
abbrev pub end_shown : ToCome → End → ℕ → ℕ → ℕ → Option End
end_shown to_come missed served horizon time = by_next to_come.conversions
  where
    by_next : List Conv → Option End
    by_next (c ∷ rest) = some_if (nat_le c.time time) missed
    by_next [] = last_end_shown to_come served horizon time
