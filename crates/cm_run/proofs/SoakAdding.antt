-- What the numbers of a part say.
use Rattle.std.proofs.Common.{◌≡◌, ℕ, List, length}
use Rattle.std.specs.List.{sum}
use Rattle.cm_run.specs.SoakSumming.{numbers, numbers_of}
use Rattle.cm_run.specs.declared.soak.part.Part.{Part}

-- the part that has these numbers
pub part_is : (part : Part) (words : List ℕ) → numbers part ≡ numbers_of words → part ≡ record { count = length words; sum = sum words }
part_is part words are =
    let count : part.count ≡ length words = cc in
    let total : part.sum ≡ sum words = cc in
    λ i. record { count = count i; sum = total i }
