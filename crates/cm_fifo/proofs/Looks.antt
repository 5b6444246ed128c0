-- What comes next, by what a FIFO holds.
use Rattle.std.proofs.Common.{◌≡◌, ℕ, suc, ◌+◌, ◌-◌, ◌/◌, ◌<◌, ◌≤◌, ◌⊎◌, List, [], ◌∷◌, ◌++◌, length, drop, refl, sym, ap, ap₂, ◌∙◌, subst, inl, inr, Option, Some, None, arith, length-append, Bool, true}
use Rattle.std.specs.Prelude.{slice_get, option_map, if◌then◌else◌}
use Rattle.std.proofs.lemmas.Bool.{le-leb, lt-leb}
use Rattle.cm_board.specs.declared.board.Fifo.{Fifo}
use Rattle.cm_expand.specs.Board.{BoardState}
use Rattle.cm_expand.specs.Fit.{IsExpansion}
use Rattle.cm_expand.specs.Items.{items_of}
use Rattle.cm_expand.specs.Plan.{PlanText, is_complete, stop_edge_of}
use Rattle.cm_expand.specs.Taking.{come, left_of, NeverFalls}
use Rattle.cm_expand.specs.declared.conv.Conv.{Conv}
use Rattle.cm_expand.proofs.Come.{come-first, come-later_first, come-none, NeverFalls-drop}
use Rattle.cm_expand.proofs.Taking.{drop-found, drop-missing}
use Rattle.cm_fifo.specs.Handed.{Drains, Overflows, next_event, drain_time, last_of, request, time_or, unless_lost, last_time, later}
use Rattle.cm_fifo.specs.Held.{ahead, drain_of, IsAsked, IsEarly, IsHeld}
use Rattle.cm_fifo.proofs.Lasts.{are_all, are_left, AreLeft}
use Rattle.cm_fifo.proofs.Lists.{come-append, come-by, come-min, first-come, found-come, get-after, none-come, get-drop, past_none, get-append}

-- the next conversion, by its time
found : (o : Option Conv) (t : ℕ) → option_map (λ (c : Conv). c.time) o ≡ Some t → (c : Conv) × (o ≡ Some c) × (c.time ≡ t)
found None t e = absurd (cc)
found (Some c) t e = (c, refl, (let same : c.time ≡ t = cc in same))

missing : (o : Option Conv) → option_map (λ (c : Conv). c.time) o ≡ None → o ≡ None
missing None e = refl
missing (Some c) e = absurd (cc)

-- none comes of a board that has given all, nor before the next
pub left_none : (board : BoardState) → option_map (λ (c : Conv). c.time) (slice_get (items_of board.plan) board.place) ≡ None → left_of board ≡ []
left_none board e = drop-missing (items_of board.plan) board.place (missing (slice_get (items_of board.plan) board.place) e)

pub left_late : (board : BoardState) (t next : ℕ) → IsExpansion board.plan → option_map (λ (c : Conv). c.time) (slice_get (items_of board.plan) board.place) ≡ Some next → t < next → come t (left_of board) ≡ 0
left_late board t next is e late =
    let here = found (slice_get (items_of board.plan) board.place) next e in
    let left : left_of board ≡ here.0 ∷ drop (suc board.place) (items_of board.plan) = drop-found (items_of board.plan) board.place here.0 here.1 in
    let order : NeverFalls (here.0 ∷ drop (suc board.place) (items_of board.plan)) = subst NeverFalls left (NeverFalls-drop board.place (items_of board.plan) (are_all board.plan is).order) in
    let later : t < here.0.time = omega (arith, here.2) in
    ap (come t) left ∙ come-later_first t here.0 (drop (suc board.place) (items_of board.plan)) later ∙ come-none t (drop (suc board.place) (items_of board.plan)) here.0.time order.1 later

-- the next conversion has come where it is found early
pub left_early : (board : BoardState) (t next : ℕ) → option_map (λ (c : Conv). c.time) (slice_get (items_of board.plan) board.place) ≡ Some next → next ≤ t → (c : Conv) → slice_get (items_of board.plan) board.place ≡ Some c → c.time ≤ t
left_early board t next e early c there =
    let here = found (slice_get (items_of board.plan) board.place) next e in
    let same : here.0 ≡ c = cc in
    subst (λ (c : Conv). c.time ≤ t) same (omega (arith, here.2))

-- what is ahead is what is left of the plan
pub ahead_left : (board : BoardState) (cells : List Conv) → IsExpansion board.plan → IsHeld board cells → AreLeft board.plan (ahead board cells)
ahead_left board cells is h = subst (AreLeft board.plan) (sym h.ahead_is) (are_left board.plan (board.place - length cells) is (omega (arith, h.within)))

-- what makes the FIFO half full at most has come when the drain is requested
by_request : (f : Fifo) (last : ℕ) (cells rest : List Conv) → NeverFalls (cells ++ rest) → come last (cells ++ rest) ≡ length (cells ++ rest) → length cells ≤ f.depth / 2 → come (request f last (cells ++ rest)) cells ≡ length cells
by_request f last [] rest order all few = refl
by_request f last (x ∷ xs) rest order all few = at (slice_get (x ∷ xs ++ rest) (f.depth / 2 - 1)) refl
  where
    at : (o : Option Conv) → slice_get (x ∷ xs ++ rest) (f.depth / 2 - 1) ≡ o → come (time_or last o) (x ∷ xs) ≡ length (x ∷ xs)
    at None e = first-come last (x ∷ xs) rest order (omega (arith, length-append (x ∷ xs) rest))
    at (Some c) e = first-come c.time (x ∷ xs) rest order (omega (arith, found-come c.time (f.depth / 2 - 1) (x ∷ xs ++ rest) c order e (omega arith)))

-- so it comes by the drain
pub early : (f : Fifo) (board : BoardState) (cells : List Conv) → IsExpansion board.plan → IsHeld board cells → length cells ≤ f.depth / 2 → IsEarly f board cells
early f board cells is h few =
    let are = ahead_left board cells is h in
    let asked = by_request f (last_of board.plan) cells (left_of board) are.order are.all few in
    let requested : ℕ = request f (last_of board.plan) (ahead board cells) in
    come-min (requested + f.latency) board.plan.signals.horizon cells
    (come-by requested (requested + f.latency) cells (omega arith) asked)
    (first-come board.plan.signals.horizon cells (left_of board) are.order (omega (arith, are.by, length-append cells (left_of board))))

pub same_drain : (f : Fifo) (old new : BoardState) (cells cells' : List Conv) → new.plan ≡ old.plan → ahead new cells' ≡ ahead old cells → drain_of f new cells' ≡ drain_of f old cells
same_drain f old new cells cells' plan same = ap₂ (λ (p : PlanText) (left : List Conv). drain_time f (last_of p) p.signals.horizon left) plan same

-- what was held comes by the drain, and so does what makes the FIFO half full
pub early_kept : (f : Fifo) (old new : BoardState) (cells cells' : List Conv) → new.plan ≡ old.plan → ahead new cells' ≡ ahead old cells → IsEarly f old cells →
    (cells' ≡ cells) ⊎ (length cells' ≤ f.depth / 2) → IsExpansion old.plan → IsHeld new cells' → IsEarly f new cells'
early_kept f old new cells cells' plan same was (inl kept) is h = ap₂ come (same_drain f old new cells cells' plan same) kept ∙ was ∙ ap length (sym kept)
early_kept f old new cells cells' plan same was (inr few) is h = early f new cells' (subst IsExpansion (sym plan) is) h few

-- where all conversions were given, the last one that is held is the last of all
pub last_is : (board : BoardState) (cells : List Conv) → IsHeld board cells → 0 < length cells → slice_get (items_of board.plan) board.place ≡ None → last_time cells ≡ last_time (items_of board.plan)
last_is board cells h some none =
    let items : List Conv = items_of board.plan in
    let past = past_none (items_of board.plan) board.place none in
    let end : board.place - length cells + (length cells - 1) ≡ length (items_of board.plan) - 1 = omega (arith, h.few, h.within) in
    ap (time_or 0) (
    sym (get-append cells (left_of board) (length cells - 1) (omega arith))
    ∙ ap (λ (xs : List Conv). slice_get xs (length cells - 1)) h.ahead_is
    ∙ get-drop (board.place - length cells) (items_of board.plan) (length cells - 1)
    ∙ ap (slice_get (items_of board.plan)) end)

-- so the last request of a complete expansion is known
pub last_request-is : (board : BoardState) (cells : List Conv) (time last : ℕ) (edge : Option ℕ) (complete : Bool) → IsHeld board cells → 0 < length cells → slice_get (items_of board.plan) board.place ≡ None →
    edge ≡ stop_edge_of board.plan → complete ≡ is_complete board.plan → complete ≡ true → time ≡ last_time cells → last ≡ later time edge → last ≡ last_of board.plan
last_request-is board cells time last edge complete h some none edge_is is whole time_is result =
    result
    ∙ ap₂ later (time_is ∙ last_is board cells h some none) edge_is
    ∙ ap (λ (b : Bool). if b then later (last_time (items_of board.plan)) (stop_edge_of board.plan) else board.plan.signals.horizon) (sym whole ∙ is)

module _ (f : Fifo) (last horizon : ℕ) (cells rest : List Conv) (some : 1 ≤ length cells) where
  next_event-some : next_event f last horizon (cells ++ rest) ≡ unless_lost (slice_get (cells ++ rest) f.depth) (drain_time f last horizon (cells ++ rest)) (come (drain_time f last horizon (cells ++ rest)) (cells ++ rest))
  next_event-some = at cells some
    where
      at : (xs : List Conv) → 1 ≤ length xs → next_event f last horizon (xs ++ rest) ≡ unless_lost (slice_get (xs ++ rest) f.depth) (drain_time f last horizon (xs ++ rest)) (come (drain_time f last horizon (xs ++ rest)) (xs ++ rest))
      at [] some = absurd (omega arith)
      at (x ∷ xs) some = refl

  drains_next : (t : ℕ) → t ≡ drain_time f last horizon (cells ++ rest) → length cells ≤ f.depth → come t cells ≡ length cells → come t rest ≡ 0 → next_event f last horizon (cells ++ rest) ≡ Drains t (length cells)
  drains_next t is few all none =
      next_event-some
      ∙ ap (λ n. unless_lost (slice_get (cells ++ rest) f.depth) n (come n (cells ++ rest))) (sym is)
      ∙ ap (unless_lost (slice_get (cells ++ rest) f.depth) t) (come-append t cells rest ∙ (let sum : come t cells + come t rest ≡ length cells = omega arith in sum))
      ∙ at (slice_get (cells ++ rest) f.depth) refl
    where
      at : (o : Option Conv) → slice_get (cells ++ rest) f.depth ≡ o → unless_lost o t (length cells) ≡ Drains t (length cells)
      at None e = refl
      at (Some c) e =
          let late = none-come t (f.depth - length cells) rest c none (sym (get-after cells rest f.depth few) ∙ e) in
          rw (lt-leb c.time t late) refl

  overflows_next : (t : ℕ) (c : Conv) (more : List Conv) → t ≡ drain_time f last horizon (cells ++ rest) → length cells ≡ f.depth → rest ≡ c ∷ more → c.time ≤ t → next_event f last horizon (cells ++ rest) ≡ Overflows c.time
  overflows_next t c more is full first by =
      let place : f.depth - length cells ≡ 0 = omega arith in
      let here : slice_get (cells ++ rest) f.depth ≡ Some c = get-after cells rest f.depth (omega arith) ∙ ap₂ slice_get first place in
      next_event-some
      ∙ ap (λ n. unless_lost (slice_get (cells ++ rest) f.depth) n (come n (cells ++ rest))) (sym is)
      ∙ ap (λ o. unless_lost o t (come t (cells ++ rest))) here
      ∙ rw (le-leb c.time t by) refl

pub next_drains : (f : Fifo) (last horizon : ℕ) (left cells rest : List Conv) (t : ℕ) → cells ++ rest ≡ left → 1 ≤ length cells → t ≡ drain_time f last horizon left → length cells ≤ f.depth → come t cells ≡ length cells → come t rest ≡ 0 →
    (next_event f last horizon left ≡ Drains t (length cells)) × (1 ≤ length cells)
next_drains f last horizon left cells rest t same some is few all none =
    (ap (next_event f last horizon) (sym same) ∙ drains_next f last horizon cells rest some t (is ∙ ap (drain_time f last horizon) (sym same)) few all none, some)

pub next_overflows : (f : Fifo) (last horizon : ℕ) (left cells : List Conv) (board : BoardState) (t next : ℕ) → ahead board cells ≡ left → 1 ≤ length cells → t ≡ drain_time f last horizon left →
    (length cells ≡ f.depth) ⊎ (come t (left_of board) ≡ 0) → option_map (λ (c : Conv). c.time) (slice_get (items_of board.plan) board.place) ≡ Some next → next ≤ t →
    (next_event f last horizon left ≡ Overflows next) × (length cells ≡ f.depth)
next_overflows f last horizon left cells board t next same some is full e early =
    let here = found (slice_get (items_of board.plan) board.place) next e in
    let first : left_of board ≡ here.0 ∷ drop (suc board.place) (items_of board.plan) = drop-found (items_of board.plan) board.place here.0 here.1 in
    at full here.0 here.2 first
  where
    at : (length cells ≡ f.depth) ⊎ (come t (left_of board) ≡ 0) → (c : Conv) → c.time ≡ next → left_of board ≡ c ∷ drop (suc board.place) (items_of board.plan) → (next_event f last horizon left ≡ Overflows next) × (length cells ≡ f.depth)
    at (inr none) c time first = absurd (omega (arith, come-first t c (drop (suc board.place) (items_of board.plan)) (omega arith), ap (come t) first))
    at (inl full) c time first =
        (ap (next_event f last horizon) (sym same) ∙ overflows_next f last horizon cells (left_of board) some t c (drop (suc board.place) (items_of board.plan)) (is ∙ ap (drain_time f last horizon) (sym same)) full first (omega arith) ∙ ap Overflows time, full)

-- nothing is ahead where nothing is held of a FIFO that is to be half full
pub nothing_ahead : (f : Fifo) (board : BoardState) (cells : List Conv) → 2 ≤ f.depth → length cells ≡ 0 → IsAsked f board cells → ahead board cells ≡ []
nothing_ahead f board [] some none (inl half) = absurd (omega arith)
nothing_ahead f board [] some none (inr all) = drop-missing (items_of board.plan) board.place all
nothing_ahead f board (x ∷ xs) some none asked = absurd (omega arith)
