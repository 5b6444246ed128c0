-- A list of samples of which a part is munged.
use Rattle.std.specs.Prelude.{ℕ, ◌&&◌, nat_lt, nat_le, if◌then◌else◌}
use Rattle.cm_sample.specs.Rule.{RuleText, munged_word}

-- the munged word of a place from `low` up to `high`, and the word of any other place
abbrev pub munged_between : RuleText → ℕ → ℕ → ℕ → ℕ → ℕ
munged_between rule low high place word =
    if nat_le low place && nat_lt place high then munged_word rule place word else word
