-- By the last request all conversions have come.
use Rattle.std.proofs.Common.{◌≡◌, ℕ, ◌-◌, ◌≤◌, Bool, true, false, List, length, drop, refl, arith, Option, Some, None}
use Rattle.std.specs.Prelude.{slice_get}
use Rattle.cm_expand.specs.Fit.{IsExpansion}
use Rattle.cm_expand.specs.Items.{items_of}
use Rattle.cm_expand.specs.Plan.{PlanText, is_complete, stop_edge_of, times_of}
use Rattle.cm_expand.specs.Taking.{come, NeverFalls}
use Rattle.cm_expand.specs.declared.conv.Conv.{Conv}
use Rattle.cm_expand.proofs.Come.{all_come, come-le, never_falls, NeverFalls-drop}
use Rattle.cm_fifo.specs.Handed.{last_of, last_request, last_time, later, time_or}
use Rattle.cm_fifo.proofs.Lists.{come-by, come-drop-all, found-come, past_none}

-- conversions that are left of a plan
pub record AreLeft (p : PlanText) (left : List Conv) : Type 0 where
  pub order : NeverFalls left
  pub by : come p.signals.horizon left ≡ length left
  pub all : come (last_of p) left ≡ length left

-- the last one is the last to come
last-come : (xs : List Conv) → NeverFalls xs → come (last_time xs) xs ≡ length xs
last-come xs order = at (slice_get xs (length xs - 1)) refl
  where
    at : (o : Option Conv) → slice_get xs (length xs - 1) ≡ o → come (time_or 0 o) xs ≡ length xs
    at None e = omega (arith, past_none xs (length xs - 1) e, come-le 0 xs)
    at (Some c) e = omega (arith, found-come c.time (length xs - 1) xs c order e (omega arith), come-le c.time xs)

not_before : (time : ℕ) (edge : Option ℕ) → time ≤ later time edge
not_before time None = omega arith
not_before time (Some edge) = omega arith

by_last : (complete : Bool) (edge : Option ℕ) (horizon : ℕ) (xs : List Conv) → NeverFalls xs → come horizon xs ≡ length xs → come (last_request complete edge horizon xs) xs ≡ length xs
by_last true edge horizon xs order by = come-by (last_time xs) (later (last_time xs) edge) xs (not_before (last_time xs) edge) (last-come xs order)
by_last false edge horizon xs order by = by

pub are_all : (p : PlanText) → IsExpansion p → AreLeft p (items_of p)
are_all p is =
    let order : NeverFalls (items_of p) = never_falls p 0 0 (times_of p) is.order in
    let by : come p.signals.horizon (items_of p) ≡ length (items_of p) = all_come p 0 p.signals.horizon (times_of p) is.horizon in
    record { order = order; by = by; all = by_last (is_complete p) (stop_edge_of p) p.signals.horizon (items_of p) order by }

-- those after a place
pub are_left : (p : PlanText) (q : ℕ) → IsExpansion p → q ≤ length (items_of p) → AreLeft p (drop q (items_of p))
are_left p q is within =
    let are = are_all p is in
    record {
      order = NeverFalls-drop q (items_of p) are.order;
      by = come-drop-all p.signals.horizon q (items_of p) are.order within are.by;
      all = come-drop-all (last_of p) q (items_of p) are.order within are.all;
    }
