-- How many conversions lines may have.
use Rattle.std.specs.Prelude.{◌≡◌, ℕ, ◌+◌, ◌≤◌, Bool, true, false, ◌&&◌, nat_le, List, [], ◌∷◌, length, Result, Ok, Err}
use Rattle.cm_base.specs.declared.faults.Fault.{Fault}
use Rattle.cm_base.specs.declared.faults.Fault.TheVariants.{Limit}
use Rattle.cm_expand.specs.Items.{items_of}
use Rattle.cm_expand.specs.Plan.{PlanText}
use Rattle.cm_expand.specs.declared.totals.Total.{Total}
use Rattle.cm_expand.specs.declared.totals.Total.TheVariants.{AtMost, Exactly}

-- how many conversions a plan has
abbrev pub length_of : PlanText → ℕ
length_of p = length (items_of p)

-- how many conversions lines have together, each with its plan
abbrev pub length_of_all : {X : Type 0} → (X → PlanText) → List X → ℕ
length_of_all plan_of [] = 0
length_of_all plan_of (line ∷ lines) = length_of (plan_of line) + length_of_all plan_of lines

-- a line has 1,000,000 conversions at most, and all have 4,000,000 at most
abbrev pub has_room : ℕ → ℕ → Bool
has_room before count = nat_le count 1000000 && nat_le (before + count) 4000000

-- a total of `n` conversions is a number that is not below them, or is theirs, and is 4,000,000 at most
abbrev pub Reports : Total → ℕ → Type 0
Reports (AtMost most) n = (n ≤ most) × (most ≤ 4000000)
Reports (Exactly count) n = (count ≡ n) × (count ≤ 4000000)

-- there is room for so many conversions after others, and then this is the total of them all, or there is none
abbrev pub Adds : ℕ → ℕ → Result Total Fault → Type 0
Adds before count (Ok total) = (has_room before count ≡ true) × Reports total (before + count)
Adds before count (Err fault) = (has_room before count ≡ false) × (fault ≡ Limit)
