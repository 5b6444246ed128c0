-- A command that runs, and what the passing of time does to it.
use Rattle.std.specs.Prelude.{ℕ, ◌+◌, ◌-◌, min, Bool, true, ◌&&◌, nat_eq, nat_le, nat_lt}
use Rattle.std.specs.Prelude.{List, [], ◌∷◌, length, take, drop, Option, Some, None, if◌then◌else◌}
use Rattle.cm_expand.specs.Plan.{PlanText}
use Rattle.cm_expand.specs.declared.conv.Conv.{Conv}
use Rattle.cm_board.specs.Board.{is_output}
use Rattle.cm_expand.specs.Rule.{munged_at}
use Rattle.cm_expand.specs.Taking.{come}
use Rattle.cm_text.specs.Format.{Format}
use Rattle.cm_text.specs.Outputs.{Output}
use Rattle.cm_running.specs.Conversions.{munged_from}
use Rattle.cm_text.specs.declared.end.End.{End}
use Rattle.cm_text.specs.declared.end.End.TheVariants.{Done, Dry, Overrun, Underrun, Fifo}

-- what is planned for a command: its plan, its expansion, and whether nothing of it is cut off;
-- those of its conversions that reach the buffer, each at the time at which it does, and when one is lost after them;
-- the edge that stops it, the last time of the signals, the size of the buffer, and how samples are reported
pub record Schedule : Type 0 where
  pub plan : PlanText
  pub conversions : List Conv
  pub complete : Bool
  pub arrivals : List Conv
  pub lost_at : Option ℕ
  pub edge : Option ℕ
  pub horizon : ℕ
  pub size : ℕ
  pub format : Format

-- a command that runs: what is planned for it, its places,
-- the words of an output from place r on (those below w munged), and its end where it has come
pub record Running : Type 0 where
  pub schedule : Schedule
  pub r : ℕ
  pub ra : ℕ
  pub w : ℕ
  pub a : ℕ
  pub words : List ℕ
  pub end : Option End

-- a command that has just started
abbrev pub started : Schedule → Running
started schedule = record { schedule = schedule; r = 0; ra = 0; w = 0; a = 0; words = []; end = None }

-- whether a command puts samples out
abbrev pub is_out : Schedule → Bool
is_out s = is_output s.plan.sub.kind

-- the place up to which the board has served a command: written, or put out
abbrev pub served : Running → ℕ
served c = if is_out c.schedule then c.r else c.w

-- the munged word of each place, as its list entry asks
abbrev pub munge_in : Schedule → ℕ → ℕ → ℕ
munge_in s = munged_at s.plan.sub s.plan.cmd

-- all samples of a command, munged
abbrev pub samples : Schedule → List ℕ
samples s = munged_from (munge_in s) 0 s.conversions

-- how many conversions have reached the buffer by a time
abbrev pub arrived : Schedule → ℕ → ℕ
arrived s time = come time s.arrivals

-- a value where a test holds
abbrev pub some_if : {T : Type 0} → Bool → T → Option T
some_if test x = if test then Some x else None

-- whether the edge that stops a command has come, where one stops it
abbrev pub has_stopped : Option ℕ → ℕ → Bool
has_stopped None time = true
has_stopped (Some edge) time = nat_le edge time

-- the end that comes without a loss: once all has come, and the edge that stops the command too
abbrev pub quiet_end : Schedule → ℕ → Option End
quiet_end s time =
    if s.complete then some_if (nat_eq (arrived s time) (length s.conversions) && has_stopped s.edge time) Done
    else some_if (nat_eq time s.horizon) Dry

-- the end by a loss on the board itself, where it comes by a time
abbrev pub lost_end : Option ℕ → Schedule → ℕ → Option End
lost_end None s time = quiet_end s time
lost_end (Some at) s time = if nat_le at time then Some (Fifo (length s.arrivals)) else quiet_end s time

-- the end where a place isn't there in time: no room for a sample, or no word to put out
abbrev pub missed : Schedule → ℕ → End
missed s place = if is_out s then Underrun place else Overrun place

-- the end that has come by a time, where the buffer serves the places below `limit`
abbrev pub end_by : Schedule → ℕ → ℕ → Option End
end_by s limit time = if nat_lt limit (arrived s time) then Some (missed s limit) else lost_end s.lost_at s time

-- the place up to which the samples of an input are written by a time
abbrev pub written_by : Running → ℕ → ℕ
written_by c time = min (arrived c.schedule time) (c.r + c.schedule.size)

-- an input brought to a time
abbrev pub collected : Running → ℕ → Running
collected c time = record c {
  w = written_by c time;
  a = written_by c time;
  end = end_by c.schedule (c.r + c.schedule.size) time;
}

-- the place up to which the words of an output are put out by a time
abbrev pub put_by : Running → ℕ → ℕ
put_by c time = min (arrived c.schedule time) c.w

-- an output brought to a time
abbrev pub put_out : Running → ℕ → Running
put_out c time = record c {
  r = put_by c time;
  ra = put_by c time;
  words = drop (put_by c time - c.r) c.words;
  end = end_by c.schedule c.w time;
}

-- a command that hasn't ended, brought to a time
abbrev pub moved_on : Running → ℕ → Running
moved_on c time = if is_out c.schedule then put_out c time else collected c time

-- a command brought to a time; one that has ended stays as it is
abbrev pub brought : ℕ → Running → Running
brought time c = if_running c.end
  where
    if_running : Option End → Running
    if_running None = moved_on c time
    if_running (Some e) = c

-- words that are put out, each when its conversion comes
abbrev pub outputs : ℕ → List Conv → List ℕ → List Output
outputs sub (c ∷ conversions) (word ∷ words) =
    record { sub = sub; time = c.time; index = c.list_index; word = word } ∷ outputs sub conversions words
outputs sub conversions words = []

-- what a command puts out up to a time
abbrev pub due : ℕ → ℕ → Running → List Output
due sub time c = if_running c.end
  where
    if_running : Option End → List Output
    if_running None =
        if is_out c.schedule then outputs sub (take (put_by c time - c.r) (drop c.r c.schedule.arrivals)) c.words
        else []
    if_running (Some e) = []
