-- The samples of a loop's output.
use Rattle.std.specs.Prelude.{ℕ, List}
use Rattle.cm_sample.specs.Rule.{RuleText, map_from, munged_word}
use Rattle.cm_loop.specs.Filter.{FilterText, all_filtered}

-- what a filter makes of the raw words of an input, whose buffer has a munge
abbrev pub looped_samples : List ℕ → RuleText → FilterText → List ℕ
looped_samples raw munge rule = all_filtered rule (map_from (munged_word munge) 0 raw)
