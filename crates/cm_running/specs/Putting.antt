-- Words that go out of a ring, as far as their conversions have come and they are marked.
use Rattle.std.specs.Prelude.{◌≡◌, ℕ, ◌+◌, ◌-◌, ◌≤◌, min, List, length, drop}
use Rattle.cm_expand.specs.declared.conv.Conv.{Conv}
use Rattle.cm_ring_core.specs.Local.{Ring}
use Rattle.cm_expand.specs.Taking.{come}
use Rattle.cm_running.specs.ToCome.{ToCome}

-- how many words go out by a time
abbrev pub going : Ring → List Conv → ℕ → ℕ
going ring to_come time = min (come time to_come) (ring.w - ring.r)

-- a ring from which so many words were taken
abbrev pub less : Ring → ℕ → Ring
less ring count = record ring { r = ring.r + count; ra = ring.r + count; held = drop count ring.held }

-- a ring without the words that are due by a time
abbrev pub emptied : Ring → List Conv → ℕ → Ring
emptied ring to_come time = less ring (going ring to_come time)

-- a board without its next conversions
abbrev pub without : ℕ → ToCome → ToCome
without count board = record board { conversions = drop count board.conversions }

-- some words were taken from a ring, and as many conversions from a board
pub record Moves (old new : Ring) (before after : ToCome) : Type 0 where
  pub count : ℕ
  pub few : count ≤ old.w - old.r
  pub come : count ≤ length before.conversions
  pub ring : new ≡ less old count
  pub board : after ≡ without count before
