use Rattle.std.proofs.Common.{◌≡◌, length}
use Rattle.cm_base.specs.Reading.{read_each}
use Rattle.cm_session.specs.Limits.{InOrder}
use Rattle.cm_session.specs.SessionPart.{last_time, line_after, session_of}
use Rattle.cm_session.proofs.reading.read_session.Given as goal

-- the lines so far, in order, after which those that are left stand
abbrev pub invariant-loop-all : goal.invariant-loop-all
invariant-loop-all l = record {
  reported : session_of l.only_insn l.bounds l.initial.lines ≡ read_each (λ before line. line_after l.only_insn l.bounds (last_time before) line) l.all.items l.lines;
  latest : l.latest ≡ last_time l.all.items;
  order : InOrder l.bounds.horizon 0 l.all.items;
}

abbrev pub decreases-loop-all : goal.decreases-loop-all
decreases-loop-all l = length l.lines
