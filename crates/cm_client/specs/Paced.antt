-- The board of a paced ring.
use Rattle.std.specs.Prelude.{◌≡◌, ℕ, true, List}
use Rattle.cm_ring_core.specs.Lawful.{first_writer}
use Rattle.cm_ring.specs.Roles.{Writing}

-- a fresh writer of a paced ring for these words, of which none was given yet
pub record IsPacedBoard (writer : Writing) (all : List ℕ) (place : ℕ) : Type 0 where
  pub fresh : writer.part ≡ first_writer
  pub paced : writer.ring.paced ≡ true
  pub plan : writer.ring.samples ≡ all
  pub none_given : place ≡ 0
