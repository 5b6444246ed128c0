-- The samples of a schedule.
use Rattle.std.proofs.Common.{◌≡◌, ℕ, suc, List, [], ◌∷◌, length, refl, ap}
use Rattle.cm_expand.specs.declared.conv.Conv.{Conv}
use Rattle.cm_running.specs.Conversions.{munged_from}
use Rattle.cm_running.specs.Running.{Schedule, munge_in, samples}

pub length-munged_from : (munge : ℕ → ℕ → ℕ) (place : ℕ) (cs : List Conv) → length (munged_from munge place cs) ≡ length cs
length-munged_from munge place [] = refl
length-munged_from munge place (c ∷ cs) = ap suc (length-munged_from munge (suc place) cs)

pub length-samples : (s : Schedule) → length (samples s) ≡ length s.conversions
length-samples s = length-munged_from (munge_in s) 0 s.conversions
