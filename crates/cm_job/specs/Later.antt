-- Conversions of an output beside those of an input.
use Rattle.std.specs.Prelude.{Bool, true, ◌&&◌, ℕ, nat_lt, List, [], ◌∷◌}
use Rattle.cm_expand.specs.declared.conv.Conv.{Conv}

-- each conversion of the second list comes later than the first's of the same place, as far as both have one
abbrev pub are_later : List Conv → List Conv → Bool
are_later [] puts = true
are_later (sample ∷ samples) [] = true
are_later (sample ∷ samples) (put ∷ puts) = nat_lt sample.time put.time && are_later samples puts

-- the same of times
abbrev pub are_sooner : List ℕ → List ℕ → Bool
are_sooner [] others = true
are_sooner (time ∷ times) [] = true
are_sooner (time ∷ times) (other ∷ others) = nat_lt time other && are_sooner times others
