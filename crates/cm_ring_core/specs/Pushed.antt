-- A ring whose samples were munged, and one that took more words.
use Rattle.std.specs.Prelude.{ℕ, ◌+◌, ◌-◌, List, ◌++◌, length, take, drop}
use Rattle.cm_ring_core.specs.Between.{munged_between}
use Rattle.cm_ring_core.specs.Held.{stored_from}
use Rattle.cm_ring_core.specs.Local.{Ring}
use Rattle.cm_sample.specs.Rule.{RuleText, map_from, munged_word}

-- words at the places from `place` on, each munged
abbrev pub munged_from : RuleText → ℕ → List ℕ → List ℕ
munged_from rule place words = map_from (munged_word rule) place words

-- the samples of the places from `low` up to `high`
abbrev pub samples_between : Ring → ℕ → ℕ → List ℕ
samples_between ring low high = drop (low - ring.r) (take (high - ring.r) ring.held)

-- a ring whose samples are munged up to a place; all other cells are as they were
abbrev pub munged_to : Ring → ℕ → Ring
munged_to ring place = record ring {
  m = place;
  cells = stored_from ring.cells ring.size ring.m (munged_from ring.rule ring.m (samples_between ring ring.m place));
  held = map_from (munged_between ring.rule ring.m place) ring.r ring.held;
}

-- a ring that took words after all that it held, each munged at its place; all other cells are as they were
abbrev pub pushed : Ring → List ℕ → Ring
pushed ring words = record ring {
  m = ring.w + length words;
  w = ring.w + length words;
  a = ring.w + length words;
  cells = stored_from ring.cells ring.size ring.w (munged_from ring.rule ring.w words);
  held = ring.held ++ munged_from ring.rule ring.w words;
}
