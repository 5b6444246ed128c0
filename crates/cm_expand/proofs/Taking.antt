-- Conversions taken from a board one after another.
use Rattle.std.proofs.Common.{◌≡◌, ℕ, zero, suc, ◌+◌, ◌^◌, min, ◌<◌, List, [], ◌∷◌, ◌++◌, length, take, drop, Option, Some, None, true, false, refl, sym, ap, ◌∙◌, arith, drop-drop}
use Rattle.std.specs.Prelude.{slice_get, nat_le, Ok}
use Rattle.std.proofs.lemmas.Bool.{cond-false, lt-leb}
use Rattle.cm_expand.specs.Board.{IsBoard, progress_of}
use Rattle.cm_expand.specs.Timing.{Timing as TimingText}
use Rattle.cm_expand.specs.TimingView.{timing_text}
use Rattle.cm_expand.specs.Items.{conv_at, items_of}
use Rattle.cm_expand.specs.Plan.{PlanText, times_if}
use Rattle.cm_expand.specs.Taking.{come_first}
use Rattle.cm_expand.specs.declared.conv.Conv.{Conv}
use Rattle.cm_expand.specs.declared.progress.Progress.{Progress}
use Rattle.cm_expand.specs.declared.timing.Timing.{Timing}
use Rattle.cm_expand.specs.declared.timing.Next.{Next}
use Rattle.cm_expand.specs.declared.timing.Next.TheVariants.{At, Done, Cut}
use Rattle.cm_expand.specs.declared.timing.TimePoint.{TimePoint}
use Rattle.cm_expand.proofs.Boards.{board_item, board_none, no_timing, no_point, times_short}

-- what is left at a place begins with the item there
pub drop-found : {X : Type 0} (xs : List X) (i : ℕ) (x : X) → slice_get xs i ≡ Some x → drop i xs ≡ x ∷ drop (suc i) xs
drop-found [] i x e = absurd (cc)
drop-found (y ∷ ys) zero x e = let same : y ≡ x = cc in ap (λ z. z ∷ ys) same
drop-found (y ∷ ys) (suc i) x e = drop-found ys i x e

pub drop-missing : {X : Type 0} (xs : List X) (i : ℕ) → slice_get xs i ≡ None → drop i xs ≡ []
drop-missing [] zero e = refl
drop-missing [] (suc i) e = refl
drop-missing (y ∷ ys) zero e = absurd (cc)
drop-missing (y ∷ ys) (suc i) e = drop-missing ys i e

-- the conversion of a board that runs is the first that is left
pub left_first : (p : PlanText) (place k : ℕ) (r : Progress) → IsBoard p (place + k) (Ok r) →
    drop k (drop place (items_of p)) ≡ conv_at p (place + k) r.point.time ∷ drop (k + 1) (drop place (items_of p))
left_first p place k r is =
    let later : suc (place + k) ≡ place + (k + 1) = omega arith in
    drop-drop k place (items_of p)
    ∙ drop-found (items_of p) (place + k) _ (board_item p (place + k) r is)
    ∙ ap (λ left. conv_at p (place + k) r.point.time ∷ left) (ap (λ i. drop i (items_of p)) later ∙ sym (drop-drop (k + 1) place (items_of p)))

-- nothing is left after the last conversion
pub none_left : (p : PlanText) (place k : ℕ) (timing : Option Timing) (next : Next) → ((s : TimePoint) → next ≡ At s → ⊥) → IsBoard p (place + k) (progress_of timing next) →
    drop k (drop place (items_of p)) ≡ []
none_left p place k timing next none is = drop-drop k place (items_of p) ∙ drop-missing (items_of p) (place + k) (no_point p (place + k) timing next none is)

-- none comes first where the first comes later
pub late_first : (p : PlanText) (place k time : ℕ) (r : Progress) → IsBoard p (place + k) (Ok r) → time < r.point.time → come_first time (drop k (drop place (items_of p))) ≡ 0
late_first p place k time r is late = ap (come_first time) (left_first p place k r is) ∙ cond-false (nat_le r.point.time time) _ _ (lt-leb _ _ late)

-- one more of what is left
one_more : {X : Type 0} (xs : List X) (k : ℕ) (x : X) (rest : List X) → drop k xs ≡ x ∷ rest → take (suc k) xs ≡ take k xs ++ x ∷ []
one_more [] zero x rest e = absurd (cc)
one_more [] (suc k) x rest e = absurd (cc)
one_more (y ∷ xs) zero x rest e = let same : y ≡ x = cc in ap (λ z. z ∷ []) same
one_more (y ∷ xs) (suc k) x rest e = ap (λ ys. y ∷ ys) (one_more xs k x rest e)

-- nothing is left where a plan has no timing
pub never_left : (p : PlanText) (place : ℕ) (timing : Option Timing) (point : Next) → timing ≡ None → IsBoard p place (progress_of timing point) →
    drop place (items_of p) ≡ []
never_left p place timing point e is = drop-missing (items_of p) place (no_timing p place timing point e is)

-- a place can count what was taken of that which comes
pub place_fits : (come : List Conv → ℕ) (p : PlanText) (place count most : ℕ) (timing : Timing) (from to : Next) → come [] ≡ 0 → IsBoard p place (progress_of (Some timing) from) →
    IsBoard p (place + count) (progress_of (Some timing) to) → count ≡ min most (come (drop place (items_of p))) → place < 2 ^ 64 → place + count < 2 ^ 64
place_fits come p place count most timing Done to nothing is then counted fits =
    let none = ap come (drop-missing (items_of p) place (board_none p place true is)) in
    omega arith
place_fits come p place count most timing Cut to nothing is then counted fits =
    let none = ap come (drop-missing (items_of p) place (board_none p place false is)) in
    omega arith
place_fits come p place count most timing (At point) to nothing is then counted fits =
    let all = ap (λ (c : Option TimingText). length (times_if c)) is.running.same in
    let short = times_short (timing_text timing) is.running.timing in
    let within = then.within in
    omega arith
