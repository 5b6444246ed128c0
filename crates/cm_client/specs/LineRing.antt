-- The ring that a command is streamed through.
use Rattle.std.specs.Prelude.{Bool}
use Rattle.cm_expand.specs.Items.{samples_of}
use Rattle.cm_expand.specs.Plan.{PlanText}
use Rattle.cm_expand.specs.Rule.{rule_of}
use Rattle.cm_ring_core.specs.declared.view.RingConstants.{RingConstants}

-- the ring that a command is streamed through: its plan, its munge, its subdevice's buffer,
-- and whether a full buffer makes the board wait. The shared counts wrap after six samples
abbrev pub ring_of : PlanText → Bool → RingConstants
ring_of p paced = record {
  size = p.sub.buffer;
  rule = rule_of p.sub p.cmd;
  samples = samples_of p;
  paced = paced;
  base = 4294967290;
}
