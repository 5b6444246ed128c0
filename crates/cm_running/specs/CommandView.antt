-- How contracts see a command: as a record of its plan and its places.
use Rattle.std.specs.Prelude.{◌≡◌, ◌+◌, ◌≤◌, Bool, true, false, [], length, take, drop, Option, IfSome, if◌then◌else◌}
use Rattle.cm_expand.specs.PlanView.{plan_text}
use Rattle.cm_ring_core.specs.Local.{IsLevel, Ring}
use Rattle.cm_sample.specs.Rule.{munged_word}
use Rattle.cm_running.specs.LookAheadView.{Look}
use Rattle.cm_running.specs.Planned.{IsSchedule}
use Rattle.cm_running.specs.Running.{Running, Schedule, is_out, munge_in, samples}
use Rattle.cm_running.specs.Schedules.{schedule_of}
use Rattle.cm_running.specs.ToCome.{ToCome, left_after}
use Rattle.cm_running.specs.declared.command.Command.TheInside.{Inside}

-- what is planned for a command, by its plan
abbrev pub its_schedule : Inside → Schedule
its_schedule c = schedule_of (plan_text c.plan)

-- a command as a record: what is planned for it, the places of its ring, the words of an output, and its end
abbrev pub running_of : Inside → Running
running_of c = record {
  schedule = its_schedule c;
  r = c.ring.r;
  ra = c.ring.ra;
  w = c.ring.w;
  a = c.ring.a;
  words = if c.out then c.ring.held else [];
  end = c.end;
}

-- the ring and the board of an input stand where the schedule says: the ring munges as the command asks,
-- samples from r to w are in the ring, and arrivals from w on are to come
pub record IsInStep (s : Schedule) (ring : Ring) (board : ToCome) : Type 0 where
  pub level : IsLevel ring
  pub munge : munged_word ring.rule ≡ munge_in s
  pub size : ring.size ≡ s.size
  pub r_ra : ring.r ≤ ring.ra
  pub ra_w : ring.ra ≤ ring.w
  pub within : ring.w ≤ length s.arrivals
  pub w_room : ring.w ≤ ring.r + s.size
  pub held : ring.held ≡ drop ring.r (take ring.w (samples s))
  pub ahead : board ≡ left_after ring.w s

-- the same of an output: all marked words are munged, none is mapped,
-- and those that were put out are gone, with their conversions
pub record IsPaced (s : Schedule) (ring : Ring) (board : ToCome) : Type 0 where
  pub m_w : ring.m ≡ ring.w
  pub munge : munged_word ring.rule ≡ munge_in s
  pub size : ring.size ≡ s.size
  pub unmapped : ring.ra ≡ ring.r
  pub r_w : ring.r ≤ ring.w
  pub within : ring.r ≤ length s.arrivals
  pub ahead : board ≡ left_after ring.r s

-- the same by the direction
abbrev pub IsServed : Bool → Schedule → Ring → ToCome → Type 0
IsServed false s ring board = IsInStep s ring board
IsServed true s ring board = IsPaced s ring board

-- a look ahead, where there is one, is over this schedule
abbrev pub LooksOver : Schedule → Option Look → Type 0
LooksOver s look = IfSome look (λ l. l.schedule ≡ s)

-- a command whose ring and board are in step
pub record IsCommand (c : Inside) : Type 0 where
  pub planned : IsSchedule (its_schedule c)
  pub out : c.out ≡ is_out (its_schedule c)
  pub served : IsServed c.out (its_schedule c) c.ring c.board
  pub lines : c.lines ≡ (its_schedule c).format
  pub looks : LooksOver (its_schedule c) c.ahead
