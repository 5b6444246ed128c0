-- What holds of all that is handed over.
use Rattle.std.proofs.Common.{◌≡◌, ◌↔◌, ℕ, zero, suc, ◌+◌, ◌-◌, ◌/◌, ◌<◌, ◌≤◌, min, List, [], ◌∷◌, ◌++◌, length, map, take, drop, refl, sym, ◌∙◌, inl, inr, arith, subst, length-append, length-drop, length-take, Option, Some, None}
use Rattle.std.specs.Prelude.{slice_get}
use Rattle.std.proofs.lemmas.Bool.{cases_lt, le-leb, lt-leb}
use Rattle.std.proofs.lemmas.List.{append-nil, length-map, length-take-le}
use Rattle.cm_board.specs.declared.board.Fifo.{Fifo}
use Rattle.cm_expand.specs.Taking.{come, NeverFalls, NeverFallsFrom}
use Rattle.cm_expand.specs.declared.conv.Conv.{Conv}
use Rattle.cm_expand.proofs.Come.{come-drop, come-first, come-later, come-later_first, come-le, come-none, from_start}
use Rattle.cm_expand.specs.Items.{items_of}
use Rattle.cm_expand.specs.Plan.{PlanText}
use Rattle.cm_fifo.specs.Handed.{Handed, and_then, at_time, next_event, drain_time, handed, handed_by, handed_of, last_of, nothing, time_or, unless_lost}
use Rattle.cm_fifo.specs.Law.{IsHanded, IsNext}
use Rattle.cm_expand.proofs.Sound.{IsSoundPlan, expansion_of}
use Rattle.cm_fifo.proofs.Lasts.{are_all}
use Rattle.cm_fifo.proofs.Lists.{append-from, come-append, come-at_time, come-before_time, come-drop-all, come-drop-le, come-found, first-fields, found-come, found-from, left-from, Timeless}

-- what is handed over of conversions that come from a time on
record IsHandedFrom (low horizon : ℕ) (xs : List Conv) (h : Handed) : Type 0 where
  are : (g : Conv → ℕ) → Timeless g → map g h.arrivals ≡ take (length h.arrivals) (map g xs)
  order : NeverFallsFrom low h.arrivals
  by : come horizon h.arrivals ≡ length h.arrivals
  come_before : (t : ℕ) → come t h.arrivals ≤ come t xs
  within : length h.arrivals ≤ length xs
  whole : h.lost_at ≡ None → length h.arrivals ≡ length xs
  lost : (t : ℕ) → h.lost_at ≡ Some t → (t ≤ horizon) × (come t h.arrivals ≡ length h.arrivals) × (length h.arrivals < length xs)
  after : (t : ℕ) → h.lost_at ≡ Some t → low ≤ t
  next : (t : ℕ) → h.lost_at ≡ Some t → IsNext xs h.arrivals t

none : (low horizon : ℕ) → IsHandedFrom low horizon [] nothing
none low horizon = record {
  are = λ g same. refl;
  order = tt;
  by = refl;
  come_before = λ t. omega arith;
  within = omega arith;
  whole = λ e. refl;
  lost = λ t e. absurd (cc);
  after = λ t e. absurd (cc);
  next = λ t e. absurd (cc);
}

-- an overflow hands over all that the FIFO holds
overflows : (low horizon depth : ℕ) (xs : List Conv) (c : Conv) → NeverFallsFrom low xs → slice_get xs depth ≡ Some c → c.time ≤ horizon →
    IsHandedFrom low horizon xs (record { arrivals = map (at_time c.time) (take depth xs) ++ []; lost_at = Some c.time })
overflows low horizon depth xs c order e early = record {
  are = λ g same. first-fields g c.time depth xs [] same (omega (arith, few)) refl;
  order = append-from low c.time (take depth xs) [] (found-from low depth xs c e order) tt;
  by = count horizon ∙ come-at_time horizon c.time (take depth xs) early ∙ sym long;
  come_before = λ t. elim (cases_lt t c.time) [
    | inl late ↦ omega (arith, count t, come-before_time t c.time (take depth xs) late)
    | inr here ↦ omega (arith, count t, come-at_time t c.time (take depth xs) here, length-take depth xs, found-come t depth xs c (from_start low xs order) e here)
  ];
  within = omega (arith, long, few, size);
  whole = λ none. absurd (cc);
  lost = λ t is.
      let same : c.time ≡ t = cc in
      let all : come c.time (map (at_time c.time) (take depth xs) ++ []) ≡ length (map (at_time c.time) (take depth xs) ++ []) = count c.time ∙ come-at_time c.time c.time (take depth xs) (omega arith) ∙ sym long in
      (omega arith, subst (λ n. come n (map (at_time c.time) (take depth xs) ++ []) ≡ length (map (at_time c.time) (take depth xs) ++ [])) same all, omega (arith, long, few, size));
  after = λ t is. let same : c.time ≡ t = cc in omega (arith, found-from low depth xs c e order);
  next = λ t is s.
      let same : c.time ≡ t = cc in
      let place : length (map (at_time c.time) (take depth xs) ++ []) ≡ depth = long ∙ size in
      subst (λ k. (t ≤ s) ↔ (k < come s xs)) (sym place)
      (λ here. found-come s depth xs c (from_start low xs order) e (omega (arith, here, same)), λ some. let by = come-found s depth xs c (from_start low xs order) e some in omega (arith, same));
}
  where
    long : length (map (at_time c.time) (take depth xs) ++ []) ≡ length (take depth xs)
    long = omega (arith, length-append (map (at_time c.time) (take depth xs)) [], length-map (take depth xs) (at_time c.time))

    count : (t : ℕ) → come t (map (at_time c.time) (take depth xs) ++ []) ≡ come t (map (at_time c.time) (take depth xs))
    count t = omega (arith, come-append t (map (at_time c.time) (take depth xs)) [])

    few : depth < length xs
    few = omega (arith, found-come c.time depth xs c (from_start low xs order) e (omega arith), come-le c.time xs)

    size : length (take depth xs) ≡ depth
    size = length-take-le depth xs (omega (arith, few))

whole_fifo : (low horizon depth : ℕ) (xs : List Conv) (c : Conv) → NeverFallsFrom low xs → slice_get xs depth ≡ Some c → c.time ≤ horizon →
    IsHandedFrom low horizon xs (record { arrivals = map (at_time c.time) (take depth xs); lost_at = Some c.time })
whole_fifo low horizon depth xs c order e early =
    subst (λ (arrivals : List Conv). IsHandedFrom low horizon xs (record { arrivals = arrivals; lost_at = Some c.time })) (append-nil (map (at_time c.time) (take depth xs))) (overflows low horizon depth xs c order e early)

-- a drain hands over all that has come by its time
drains : (low horizon drain : ℕ) (xs : List Conv) (rest : Handed) → NeverFalls xs → low ≤ drain → drain ≤ horizon → IsHandedFrom drain horizon (drop (come drain xs) xs) rest →
    IsHandedFrom low horizon xs (and_then drain (take (come drain xs) xs) rest)
drains low horizon drain xs rest order above early is = record {
  are = λ g same. first-fields g drain (come drain xs) xs rest.arrivals same (come-le drain xs) (is.are g same);
  order = append-from low drain (take (come drain xs) xs) rest.arrivals above is.order;
  by = omega (arith, count horizon, whole_by horizon early, is.by, long);
  come_before = λ t. elim (cases_lt t drain) [
    | inl late ↦ omega (arith, count t, come-before_time t drain (take (come drain xs) xs) late, is.come_before t, come-drop-le t (come drain xs) xs)
    | inr here ↦ omega (arith, count t, whole_by t here, is.come_before t, come-drop t (come drain xs) xs order (come-later drain t xs here), come-later drain t xs here)
  ];
  within = omega (arith, long, is.within, left, come-le drain xs);
  whole = λ none. omega (arith, long, is.whole none, left, come-le drain xs);
  lost = λ t lost.
      let l = is.lost t lost in
      (l.0, omega (arith, count t, whole_by t (is.after t lost), l.1, long), omega (arith, long, l.2, left, come-le drain xs));
  after = λ t lost. omega (arith, is.after t lost);
  next = λ t lost s. (
    λ here. let rest_come = (is.next t lost s).0 here in
        let since = come-later drain s xs (omega (arith, is.after t lost, here)) in
        omega (arith, long, rest_come, since, come-drop s (come drain xs) xs order since),
    λ some. (is.next t lost s).1 (let since : come drain xs ≤ come s xs = omega (arith, some, long) in omega (arith, some, long, come-drop s (come drain xs) xs order since)),
  );
}
  where
    taken : length (take (come drain xs) xs) ≡ come drain xs
    taken = length-take-le (come drain xs) xs (come-le drain xs)

    left : length (drop (come drain xs) xs) ≡ length xs - come drain xs
    left = length-drop (come drain xs) xs

    long : length (map (at_time drain) (take (come drain xs) xs) ++ rest.arrivals) ≡ come drain xs + length rest.arrivals
    long = omega (arith, length-append (map (at_time drain) (take (come drain xs) xs)) rest.arrivals, length-map (take (come drain xs) xs) (at_time drain), taken)

    count : (t : ℕ) → come t (map (at_time drain) (take (come drain xs) xs) ++ rest.arrivals) ≡ come t (map (at_time drain) (take (come drain xs) xs)) + come t rest.arrivals
    count t = come-append t (map (at_time drain) (take (come drain xs) xs)) rest.arrivals

    whole_by : (t : ℕ) → drain ≤ t → come t (map (at_time drain) (take (come drain xs) xs)) ≡ come drain xs
    whole_by t h = come-at_time t drain (take (come drain xs) xs) h ∙ taken

-- the first conversion comes by a time by which all come
first_by : (t low : ℕ) (c : Conv) (left : List Conv) → NeverFallsFrom low (c ∷ left) → come t (c ∷ left) ≡ length (c ∷ left) → c.time ≤ t
first_by t low c left order all = elim (cases_lt t c.time) [
  | inl late ↦ absurd (omega (arith, come-later_first t c left late, come-none t left c.time order.1 late))
  | inr early ↦ early
]

-- a drain comes not before the first conversion that is left
first_drained : (f : Fifo) (last horizon low : ℕ) (c : Conv) (left : List Conv) → NeverFallsFrom low (c ∷ left) → c.time ≤ horizon → c.time ≤ last → c.time ≤ drain_time f last horizon (c ∷ left)
first_drained f last horizon low c left order by h = at (slice_get (c ∷ left) (f.depth / 2 - 1)) refl
  where
    at : (o : Option Conv) → slice_get (c ∷ left) (f.depth / 2 - 1) ≡ o → c.time ≤ min (time_or last o + f.latency) horizon
    at None e = omega arith
    at (Some d) e = let first = found-from c.time (f.depth / 2 - 1) (c ∷ left) d e (omega arith, order.1) in omega arith

module _ (f : Fifo) (last horizon low : ℕ) (c : Conv) (left : List Conv) (order : NeverFallsFrom low (c ∷ left)) (by : come horizon (c ∷ left) ≡ length (c ∷ left)) (all : come last (c ∷ left) ≡ length (c ∷ left)) where
  pub above : c.time ≤ drain_time f last horizon (c ∷ left)
  above = first_drained f last horizon low c left order (first_by horizon low c left order by) (first_by last low c left order all)

  -- so it hands over one at least
  pub some_drained : 1 ≤ come (drain_time f last horizon (c ∷ left)) (c ∷ left)
  some_drained = omega (arith, come-first (drain_time f last horizon (c ∷ left)) c left above)

  one_step : (more : List Conv → Handed) → IsHandedFrom (drain_time f last horizon (c ∷ left)) horizon (drop (come (drain_time f last horizon (c ∷ left)) (c ∷ left)) (c ∷ left)) (more (drop (come (drain_time f last horizon (c ∷ left)) (c ∷ left)) (c ∷ left))) →
      IsHandedFrom low horizon (c ∷ left) (handed_by (next_event f last horizon (c ∷ left)) f.depth (c ∷ left) more)
  one_step more is = at (slice_get (c ∷ left) f.depth) refl
    where
      at : (o : Option Conv) → slice_get (c ∷ left) f.depth ≡ o → IsHandedFrom low horizon (c ∷ left) (handed_by (unless_lost o (drain_time f last horizon (c ∷ left)) (come (drain_time f last horizon (c ∷ left)) (c ∷ left))) f.depth (c ∷ left) more)
      at None e = drains low horizon (drain_time f last horizon (c ∷ left)) (c ∷ left) (more (drop (come (drain_time f last horizon (c ∷ left)) (c ∷ left)) (c ∷ left))) (from_start low (c ∷ left) order) (omega (arith, above, order.0)) (omega arith) is
      at (Some d) e = elim (cases_lt (drain_time f last horizon (c ∷ left)) d.time) [
        | inl late ↦ rw (lt-leb _ _ late) (drains low horizon (drain_time f last horizon (c ∷ left)) (c ∷ left) (more (drop (come (drain_time f last horizon (c ∷ left)) (c ∷ left)) (c ∷ left))) (from_start low (c ∷ left) order) (omega (arith, above, order.0)) (omega arith) is)
        | inr early ↦ rw (le-leb _ _ early) (whole_fifo low horizon f.depth (c ∷ left) d order e (omega arith))
      ]

handed-from : (f : Fifo) (last horizon more low : ℕ) (xs : List Conv) → NeverFallsFrom low xs → come horizon xs ≡ length xs → come last xs ≡ length xs → length xs ≤ more → IsHandedFrom low horizon xs (handed f last horizon more xs)
handed-from f last horizon zero low [] order by all few = none low horizon
handed-from f last horizon zero low (c ∷ left) order by all few = absurd (omega arith)
handed-from f last horizon (suc more) low [] order by all few = none low horizon
handed-from f last horizon (suc more) low (c ∷ left) order by all few =
    let drain : ℕ = drain_time f last horizon (c ∷ left) in
    let k : ℕ = come drain (c ∷ left) in
    let sorted : NeverFalls (c ∷ left) = from_start low (c ∷ left) order in
    let within : k ≤ length (c ∷ left) = come-le drain (c ∷ left) in
    one_step f last horizon low c left order by all (handed f last horizon more)
    (handed-from f last horizon more drain (drop k (c ∷ left)) (left-from drain (c ∷ left) sorted) (come-drop-all horizon k (c ∷ left) sorted within by) (come-drop-all last k (c ∷ left) sorted within all)
    (omega (arith, some_drained f last horizon low c left order by all, few, length-drop k (c ∷ left))))

-- what is handed over of conversions that never fall and come by the horizon and by the last request
pub handed-is : (f : Fifo) (last horizon more : ℕ) (xs : List Conv) → NeverFalls xs → come horizon xs ≡ length xs → come last xs ≡ length xs → length xs ≤ more → IsHanded horizon xs (handed f last horizon more xs)
handed-is f last horizon more xs order by all few =
    let is = handed-from f last horizon more 0 xs order by all few in
    record {
      are = record { words = is.are (λ c. c.raw) (λ t c. refl); places = is.are (λ c. c.place) (λ t c. refl); indices = is.are (λ c. c.list_index) (λ t c. refl) };
      order = is.order;
      by = is.by;
      come_before = is.come_before;
      within = is.within;
      whole = is.whole;
      lost = is.lost;
      next = is.next;
    }

-- and of the expansion of a sound plan
pub handed_of-is : (p : PlanText) (f : Fifo) → IsSoundPlan p → IsHanded p.signals.horizon (items_of p) (handed_of p f)
handed_of-is p f sound =
    let are = are_all p (expansion_of p sound) in
    handed-is f (last_of p) p.signals.horizon (length (items_of p)) (items_of p) are.order are.by are.all (omega arith)
