-- A `drive` line whose command can be streamed, and what its client's thread is given.
use Rattle.std.specs.Prelude.{◌≡◌, ◌≤◌, ℕ, List, length, true}
use Rattle.cm_cmd.specs.Command.{CmdText}
use Rattle.cm_expand.specs.Plan.{PlanText}
use Rattle.cm_ring_core.specs.Lawful.{first_writer}
use Rattle.cm_test.specs.Questions.{tested}
use Rattle.cm_run.specs.declared.driving.FeedSide.{FeedSide}
use Rattle.cm_expand.specs.Totals.{length_of}

-- the plan is of this command, which its subdevice accepts,
-- it has 4,000,000 conversions at most, and there are 1,024 words at most
pub record IsDrive (p : PlanText) (c : CmdText) (values : List ℕ) : Type 0 where
  pub cmd : p.cmd ≡ c
  pub passed : (tested p.sub c).0 ≡ 0
  pub few : length_of p ≤ 4000000
  pub words : length values ≤ 1024

-- a fresh writer of a paced ring for these words
abbrev pub IsFeedSide : FeedSide → Type 0
IsFeedSide side =
    (side.writer.part ≡ first_writer) × (side.writer.ring.samples ≡ side.words.now) × (side.writer.ring.paced ≡ true)
