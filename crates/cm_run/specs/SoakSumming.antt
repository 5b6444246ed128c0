-- How contracts see a sum that is made as the samples come.
use Rattle.std.specs.Prelude.{ℕ, ◌*◌, ◌<◌, ◌≤◌, List, [], ◌∷◌, length}
use Rattle.std.specs.List.{sum}
use Rattle.cm_run.specs.declared.soak.part.Part.{Part}
use Rattle.cm_run.specs.declared.soak.sum.Sum.TheInside.{Inside}

-- the part that was summed so far
abbrev pub part_of_sum : Inside → Part
part_of_sum s = record { count = s.count; sum = s.sum }

-- of as many samples as a soak has at most, each of 32 bits
pub record IsSum (s : Inside) : Type 0 where
  pub few : s.count ≤ 4000000
  pub small : s.sum ≤ s.count * 4294967295

-- a soak has no sample of a later place
abbrev pub CanSum : ℕ → ℕ → Type 0
CanSum place word = place < 4000000

-- the number and the sum of samples
abbrev pub numbers_of : List ℕ → List ℕ
numbers_of words = length words ∷ sum words ∷ []

-- the number and the sum that a part has
abbrev pub numbers : Part → List ℕ
numbers part = part.count ∷ part.sum ∷ []
