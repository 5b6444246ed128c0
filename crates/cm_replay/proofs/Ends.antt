-- An end comes at its place.
use Rattle.std.proofs.Common.{◌≡◌, ℕ, ◌<◌, ◌≤◌, min, Bool, true, false, length, refl, ap, ◌∙◌, inl, inr, arith, Option, Some, None}
use Rattle.std.specs.Prelude.{nat_eq, ◌&&◌, if◌then◌else◌}
use Rattle.std.proofs.lemmas.Bool.{cases_lt, eqb-true, lt-ltb, le-ltb, le-leb, lt-leb}
use Rattle.cm_base.proofs.Bools.{both}
use Rattle.cm_replay.specs.Law.{IsDue, IsDueIfAny}
use Rattle.cm_running.specs.Timely.{IsTimely}
use Rattle.cm_running.specs.Running.{Schedule, arrived, end_by, has_stopped, is_out, lost_end, some_if}
use Rattle.cm_text.specs.declared.end.End.{End}
use Rattle.cm_text.specs.declared.end.End.TheVariants.{Done, Dry, Overrun, Underrun}
use Rattle.cm_expand.proofs.Come.{come-le, come-later}

-- an end that comes under a test is due where the test shows it
some-due : (e : End) (place all : ℕ) (test : Bool) → (test ≡ true → IsDue e place all) → IsDueIfAny (some_if test e) place all
some-due e place all true h = h refl
some-due e place all false h = tt

pub arrived-le : (s : Schedule) (time : ℕ) → IsTimely s → arrived s time ≤ length s.conversions
arrived-le s time timely = omega (arith, come-le time s.arrivals, timely.within)

quiet-by : (s : Schedule) (time place : ℕ) (complete : Bool) → place ≡ arrived s time → (time ≡ s.horizon → arrived s time ≡ length s.conversions) →
    IsDueIfAny (if complete then some_if (nat_eq (arrived s time) (length s.conversions) && has_stopped s.edge time) Done else some_if (nat_eq time s.horizon) Dry) place (length s.conversions)
quiet-by s time place true here whole = some-due Done _ _ _ (λ t. here ∙ eqb-true _ _ (both (nat_eq (arrived s time) (length s.conversions)) (has_stopped s.edge time) t).0)
quiet-by s time place false here whole = some-due Dry _ _ _ (λ t. here ∙ whole (eqb-true _ _ t))

lost-due : (s : Schedule) (time place : ℕ) (lost : Option ℕ) → s.lost_at ≡ lost → IsTimely s → place ≡ arrived s time → IsDueIfAny (lost_end lost s time) place (length s.conversions)
lost-due s time place None none timely here =
    quiet-by s time place s.complete here (λ e. ap (arrived s) e ∙ timely.cut ∙ timely.whole none)
lost-due s time place (Some at) some timely here =
    let loss = timely.lost at some in
    elim (cases_lt time at) [
      | inl early ↦ rw (lt-leb _ _ early) (quiet-by s time place s.complete here (λ (e : time ≡ s.horizon). absurd (omega (arith, loss.0))))
      | inr late ↦ rw (le-leb _ _ late) (omega (arith, loss.1, come-le time s.arrivals, come-later at time s.arrivals late), loss.2)
    ]

missed-due : (k place all : ℕ) (out : Bool) → place ≡ k → k < all → IsDue (if out then Underrun k else Overrun k) place all
missed-due k place all true here more = (here, more)
missed-due k place all false here more = (here, more)

-- the end that comes by a time, where all up to a limit was served
pub end-due : (s : Schedule) (limit time place : ℕ) → IsTimely s → place ≡ min (arrived s time) limit → IsDueIfAny (end_by s limit time) place (length s.conversions)
end-due s limit time place timely here = elim (cases_lt limit (arrived s time)) [
  | inl over ↦ rw (lt-ltb _ _ over) (missed-due limit place (length s.conversions) (is_out s) (omega arith) (omega (arith, arrived-le s time timely)))
  | inr fits ↦ rw (le-ltb _ _ fits) (lost-due s time place s.lost_at refl timely (omega arith))
]
