-- How many conversions there are at most.
use Rattle.std.proofs.Common.{ℕ, ◌+◌, ◌*◌, ◌≤◌, Bool, true, false, length, Option, Some, None, sym, subst, arith}
use Rattle.std.specs.Prelude.{◌==◌, if◌then◌else◌, option_map, IfSome}
use Rattle.std.proofs.lemmas.Nat.{mul-le}
use Rattle.cm_base.specs.Source as source
use Rattle.cm_expand.specs.Timing.{Timing, begins_from, first, times}
use Rattle.cm_expand.specs.Items.{items_of}
use Rattle.cm_expand.specs.Plan.{PlanText, timing_from, most_of, start_of, times_if, whole_count}
use Rattle.cm_expand.proofs.Boards.{begins_short, scans_short}
use Rattle.cm_expand.proofs.Counted.{items_counted}

-- as many scans as the timing has at most, each with an entry's conversion at most
times_most : (c : Timing) → length (times c) ≤ c.most * c.per_scan
times_most c =
    let begins = begins_from c c.most (first c c.start) in
    let few = begins_short c c.most (first c c.start) in
    let each = scans_short c begins in
    let all = mul-le (length begins) c.per_scan c.most c.per_scan few (omega arith) in
    omega arith

started_most : (p : PlanText) (start : Option ℕ) → length (times_if (option_map (timing_from p) start)) ≤ most_of p * length p.cmd.list
started_most p None = omega arith
started_most p (Some start) = times_most (timing_from p start)

-- the expansion of a command with a stop count is not above its whole count
pub counted_most : (p : PlanText) → IfSome (whole_count p) (λ count. length (items_of p) ≤ count)
counted_most p =
    by_stop (p.cmd.stop.src == source.count) p.cmd.stop.arg (length p.cmd.list) (p.signals.horizon + 1) (length (items_of p))
    (subst (λ n. n ≤ most_of p * length p.cmd.list) (sym (items_counted p)) (started_most p (start_of p)))
  where
    by_stop : (b : Bool) (arg len other n : ℕ) → n ≤ (if b then arg else other) * len → IfSome (if b then Some (arg * len) else None) (λ count. n ≤ count)
    by_stop true arg len other n most = most
    by_stop false arg len other n most = tt
