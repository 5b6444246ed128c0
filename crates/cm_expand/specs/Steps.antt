-- Conversions of one list entry at even distances.
use Rattle.std.specs.Prelude.{ℕ, suc, ◌+◌, List, [], ◌∷◌}
use Rattle.cm_expand.specs.declared.conv.Conv.{Conv}

-- conversions with these raw words, from the time, the place and the list index of one on,
-- each a step after the one before
abbrev pub steps_from : Conv → ℕ → List ℕ → List Conv
steps_from first step [] = []
steps_from first step (word ∷ words) =
    record first { raw = word }
    ∷ steps_from (record first { time = first.time + step; place = suc first.place }) step words
