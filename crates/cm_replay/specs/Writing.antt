-- What the lines that write see of a command's buffer.
use Rattle.std.specs.Prelude.{ℕ, suc, ◌-◌, Bool, true, ◌&&◌, nat_le, List, [], ◌∷◌, Option, Some, None}
use Rattle.cm_board.specs.Board.{SubText, maxdata_of}
use Rattle.cm_cmd.specs.Entry.{chan}
use Rattle.cm_expand.specs.Rule.{entry_at}
use Rattle.cm_running.specs.Running.{Running}
use Rattle.cm_replay.specs.State.{Here}

-- how many words are filled and not marked
abbrev pub unmarked : Option Running → ℕ
unmarked None = 0
unmarked (Some c) = c.a - c.w

-- the greatest word of a place: that of its channel, and the subdevice's own where no command runs
abbrev pub most_at : SubText → Option Running → ℕ → ℕ
most_at sub None place = sub.maxdata
most_at sub (Some c) place = maxdata_of sub (chan (entry_at c.schedule.format.list place))

-- the place of the next word that a client gives
abbrev pub next_place : Option Running → ℕ
next_place None = 0
next_place (Some c) = c.a

-- each of the words from a place on is at most the greatest one
abbrev pub all_fit : (ℕ → ℕ) → ℕ → List ℕ → Bool
all_fit most place [] = true
all_fit most place (word ∷ words) = nat_le word (most place) && all_fit most (suc place) words

-- the words of a line are ones of their places' channels
abbrev pub fit : Here → List ℕ → Bool
fit h words = all_fit (most_at h.sub h.device.running) (next_place h.device.running) words
