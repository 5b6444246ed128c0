-- What is written into the buffer of a running command, and what it is then.
use Rattle.std.specs.Prelude.{ℕ, ◌+◌, ◌-◌, ◌&&◌, nat_le, nat_lt, List, ◌++◌, length, take, if◌then◌else◌}
use Rattle.cm_sample.specs.Rule.{map_from}
use Rattle.cm_running.specs.Running.{Running, munge_in}

-- the words for which there is room
abbrev pub taken_in : List ℕ → Running → List ℕ
taken_in words c = take (c.r + c.schedule.size - c.a) words

-- a command whose client stored more words
abbrev pub fill_on : List ℕ → Running → Running
fill_on words c = record c { a = c.a + length words; words = c.words ++ words }

-- the munged word of a place from `low` up to `high`, and the word of any other place
abbrev pub munged_within : (ℕ → ℕ → ℕ) → ℕ → ℕ → ℕ → ℕ → ℕ
munged_within munge low high place word = if nat_le low place && nat_lt place high then munge place word else word

-- a command whose client marked `k` more words, which munges them
abbrev pub mark_on : ℕ → Running → Running
mark_on k c = record c { w = c.w + k; words = map_from (munged_within (munge_in c.schedule) c.w (c.w + k)) c.r c.words }

-- a command whose client stored more words and marked them
abbrev pub write_on : List ℕ → Running → Running
write_on words c = mark_on (length words) (fill_on words c)
