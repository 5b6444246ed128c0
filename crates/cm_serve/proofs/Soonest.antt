-- An await ends as soon as it can.
use Rattle.std.proofs.Common.{◌≡◌, ℕ, zero, suc, ◌+◌, ◌-◌, ◌<◌, ◌≤◌, min, max, Bool, true, false, List, [], ◌∷◌, length, refl, sym, ap, ap₂, ◌∙◌, ◌⊎◌, inl, inr, arith, subst, Option, Some, None}
use Rattle.std.specs.Prelude.{◌&&◌, ◌||◌, nat_eq, nat_le, slice_get, if◌then◌else◌}
use Rattle.std.specs.Option.{is_some, option_map, unwrap_or}
use Rattle.std.proofs.lemmas.Bool.{cases_lt, cond-false, cond-true, eq-eqb, le-leb, le-ltb, leb-false, lt-leb, lt-ltb, ne_eqb, or_from, or_left, or_parts, or_right}
use Rattle.std.proofs.lemmas.Bool.Decides.{nat_tests}
use Rattle.std.proofs.lemmas.Option.{slice_get_within}
use Rattle.cm_signal.specs.Setting.{Setting}
use Rattle.cm_signal.specs.Signals.{SignalsText}
use Rattle.cm_session.specs.Limits.{InOrder}
use Rattle.cm_session.specs.declared.op.SessionLine.{SessionLine}
use Rattle.cm_expand.specs.Taking.{NeverFalls, come}
use Rattle.cm_expand.specs.declared.conv.Conv.{Conv}
use Rattle.cm_expand.proofs.Come.{come-first, come-le, come-later_first, come-none, from_start}
use Rattle.cm_fifo.specs.Handed.{last_time, time_or}
use Rattle.cm_fifo.proofs.Lists.{come-by, found-come, past_none}
use Rattle.cm_running.specs.Awaiting.{await_time, deciding, is_served, quiet_time}
use Rattle.cm_serve.specs.Soonest.{AwaitLaw, AwaitsAreSoonest, AreSoonestAtLines, IsSoonest, is_there}
use Rattle.cm_replay.specs.Job.{setting_of}
use Rattle.cm_replay.specs.Law.{GoesWell, History, Keeps, Wiring, no_history, wiring_at}
use Rattle.cm_running.specs.Running.{Running, Schedule, arrived, brought, end_by, has_stopped, is_out, lost_end, moved_on, put_by, some_if, written_by}
use Rattle.cm_replay.specs.Session.{brought_all}
use Rattle.cm_replay.specs.State.{Device, State, at_start, device_at}
use Rattle.cm_running.specs.Timely.{IsTimely}
use Rattle.cm_text.specs.declared.end.End.{End}
use Rattle.cm_text.specs.declared.end.End.TheVariants.{Done, Dry}
use Rattle.cm_running.proofs.Bringing.{none-yet, quiet-none}
use Rattle.cm_replay.proofs.Laws.{moves-in, moves-out}
use Rattle.cm_replay.proofs.SessionLaws.{device_at-brought, session_law}
use Rattle.cm_replay.proofs.Twice.{bringing_law}

-- the last conversion is the last to come
last-come : (cs : List Conv) → NeverFalls cs → come (last_time cs) cs ≡ length cs
last-come cs order = at (slice_get cs (length cs - 1)) refl
  where
    at : (o : Option Conv) → slice_get cs (length cs - 1) ≡ o → come (time_or 0 o) cs ≡ length cs
    at None none = omega (arith, past_none cs (length cs - 1) none, come-le 0 cs)
    at (Some c) there = omega (arith, found-come c.time (length cs - 1) cs c order there (omega arith), come-le c.time cs)

-- before a conversion comes, none but those ahead of it have
not_yet : (time i : ℕ) (cs : List Conv) (c : Conv) → NeverFalls cs → slice_get cs i ≡ Some c → time < c.time → come time cs ≤ i
not_yet time i [] c order there early = absurd (cc)
not_yet time zero (x ∷ cs) c order there early =
    let same : x.time ≡ c.time = cc in
    let late : time < x.time = omega arith in
    omega (arith, come-later_first time x cs late, come-none time cs x.time order.1 late)
not_yet time (suc i) (x ∷ cs) c order there early = elim (cases_lt time x.time) [
  | inl late ↦ omega (arith, come-later_first time x cs late, come-none time cs x.time order.1 late)
  | inr now ↦ omega (arith, come-first time x cs now, not_yet time i cs c (from_start x.time cs order.1) there early)
]

-- each conversion comes by a time by which all do
by_all : (time i : ℕ) (cs : List Conv) (c : Conv) → NeverFalls cs → come time cs ≡ length cs → slice_get cs i ≡ Some c → c.time ≤ time
by_all time i cs c order all there = elim (cases_lt time c.time) [
  | inl early ↦ absurd (omega (arith, all, not_yet time i cs c order there early, slice_get_within cs i c there))
  | inr now ↦ now
]

-- before the last conversion comes, some are still to come
some_left : (time : ℕ) (cs : List Conv) → NeverFalls cs → time < last_time cs → come time cs < length cs
some_left time cs order = at (slice_get cs (length cs - 1)) refl
  where
    at : (o : Option Conv) → slice_get cs (length cs - 1) ≡ o → time < time_or 0 o → come time cs < length cs
    at None none early = absurd (omega (arith, early))
    at (Some c) there early = omega (arith, not_yet time (length cs - 1) cs c order there early, slice_get_within cs (length cs - 1) c there)

-- all have come where the last has
all-test : (time all : ℕ) (cs : List Conv) → NeverFalls cs → length cs ≡ all → nat_eq (come time cs) all ≡ nat_le (last_time cs) time
all-test time all cs order many = elim (cases_lt time (last_time cs)) [
  | inl early ↦ ne_eqb (come time cs) all (λ (e : come time cs ≡ all). absurd (omega (arith, some_left time cs order early))) ∙ sym (lt-leb (last_time cs) time early)
  | inr late ↦ eq-eqb (come time cs) all (come-by (last_time cs) time cs late (last-come cs order) ∙ many) ∙ sym (le-leb (last_time cs) time late)
]

-- where no edge stops a command, that is as if one did at the time 0
stop-test : (edge : Option ℕ) (time : ℕ) → has_stopped edge time ≡ nat_le (unwrap_or edge 0) time
stop-test None time = sym (le-leb 0 time (omega arith))
stop-test (Some edge) time = refl

-- two times have come where the later has
both-test : (a b time : ℕ) → (nat_le a time && nat_le b time) ≡ nat_le (max a b) time
both-test a b time = grind (arith, nat_tests)

-- at the horizon no more time is left
horizon-test : (time horizon : ℕ) → time ≤ horizon → nat_eq time horizon ≡ nat_le horizon time
horizon-test time horizon within = grind (arith, nat_tests)

-- an end has come where its test holds
end-test : (test : Bool) (e : End) → is_some (some_if test e) ≡ test
end-test true e = refl
end-test false e = refl

-- without a loss the end comes at the quiet time
quiet-test : (s : Schedule) (time : ℕ) (complete : Bool) → NeverFalls s.arrivals → length s.arrivals ≡ length s.conversions → time ≤ s.horizon →
    is_some (if complete then some_if (nat_eq (arrived s time) (length s.conversions) && has_stopped s.edge time) Done else some_if (nat_eq time s.horizon) Dry)
    ≡ nat_le (if complete then max (last_time s.arrivals) (unwrap_or s.edge 0) else s.horizon) time
quiet-test s time true order whole within =
    end-test (nat_eq (arrived s time) (length s.conversions) && has_stopped s.edge time) Done
    ∙ ap₂ (λ a b. a && b) (all-test time (length s.conversions) s.arrivals order whole) (stop-test s.edge time)
    ∙ both-test (last_time s.arrivals) (unwrap_or s.edge 0) time
quiet-test s time false order whole within = end-test (nat_eq time s.horizon) Dry ∙ horizon-test time s.horizon within

-- and so does the end by a loss
lost-test : (s : Schedule) (time : ℕ) (lost : Option ℕ) → s.lost_at ≡ lost → IsTimely s → time ≤ s.horizon → is_some (lost_end lost s time) ≡ nat_le (quiet_time (record s { lost_at = lost })) time
lost-test s time None none timely within = quiet-test s time s.complete timely.order (timely.whole none) within
lost-test s time (Some at) is timely within =
    let loss = timely.lost at is in
    elim (cases_lt time at) [
      | inl early ↦ rw (lt-leb at time early) (sym (ap is_some (quiet-none s time (omega (arith, loss.2, come-le time s.arrivals)) (λ (e : time ≡ s.horizon). absurd (omega (arith, loss.0))))))
      | inr late ↦ rw (le-leb at time late) refl
    ]

-- up to a limit that isn't passed, the end comes at the quiet time
end_by-test : (s : Schedule) (limit time : ℕ) → IsTimely s → time ≤ s.horizon → arrived s time ≤ limit → is_some (end_by s limit time) ≡ nat_le (quiet_time s) time
end_by-test s limit time timely within fits = rw (le-ltb limit (arrived s time) fits) (lost-test s time s.lost_at refl timely within)

-- where more has come than is served, that is an end
past-limit : (s : Schedule) (limit time : ℕ) → limit < arrived s time → is_some (end_by s limit time) ≡ true
past-limit s limit time over = rw (lt-ltb limit (arrived s time) over) refl

-- the time that a place decides: that of its conversion, and without one the quiet time
abbrev decided : Schedule → ℕ → ℕ
decided s place = min s.horizon (time_or (quiet_time s) (slice_get s.arrivals place))

-- the time that decides: before it no more has come than a place and nothing has ended, and at it more has, or an end has come, or the signals end
record IsTurn (s : Schedule) (limit place from t : ℕ) : Type 0 where
  low : from ≤ t
  within : t ≤ s.horizon
  before : (u : ℕ) → u < t → (arrived s u ≤ place) × (is_some (end_by s limit u) ≡ false)
  there : ((place < arrived s t) ⊎ (is_some (end_by s limit t) ≡ true)) ⊎ (t ≡ s.horizon)

-- it is the time at which the conversion of the place comes
turn-found : (s : Schedule) (limit place from : ℕ) (c : Conv) → IsTimely s → place ≤ limit → arrived s from ≤ place → slice_get s.arrivals place ≡ Some c →
    IsTurn s limit place from (min s.horizon c.time)
turn-found s limit place from c timely served few there =
    let by : c.time ≤ s.horizon = by_all s.horizon place s.arrivals c timely.order timely.cut there in
    let its : c.time ≡ min s.horizon c.time = omega arith in
    subst (IsTurn s limit place from) its (record {
      low = elim (cases_lt c.time from) [
        | inl late ↦ absurd (omega (arith, few, found-come from place s.arrivals c timely.order there (omega arith)))
        | inr early ↦ early
      ];
      within = by;
      before = λ u early.
          let fewer = not_yet u place s.arrivals c timely.order there early in (
            fewer,
            rw (le-ltb limit (arrived s u) (omega arith)) (sym (ap is_some (none-yet s u s.lost_at refl timely (omega (arith, fewer, slice_get_within s.arrivals place c there))))),
          );
      there = inl (inl (found-come c.time place s.arrivals c timely.order there (omega arith)));
    })

-- and where there is none, the quiet time
turn-none : (s : Schedule) (limit place from : ℕ) → IsTimely s → place ≤ limit → length s.arrivals ≤ place → is_some (end_by s limit from) ≡ false → from ≤ s.horizon →
    IsTurn s limit place from (min s.horizon (quiet_time s))
turn-none s limit place from timely served short runs by =
    let few : (u : ℕ) → arrived s u ≤ place = λ u. omega (arith, come-le u s.arrivals) in
    let ends : (u : ℕ) → u ≤ s.horizon → is_some (end_by s limit u) ≡ nat_le (quiet_time s) u = λ u within. end_by-test s limit u timely within (omega (arith, few u)) in
    record {
      low = omega (arith, leb-false (quiet_time s) from (sym (ends from by) ∙ runs));
      within = omega arith;
      before = λ u early. (few u, ends u (omega arith) ∙ lt-leb (quiet_time s) u (omega arith));
      there = elim (cases_lt s.horizon (quiet_time s)) [
        | inl late ↦ inr (omega arith)
        | inr early ↦ inl (inr (ends (min s.horizon (quiet_time s)) (omega arith) ∙ le-leb (quiet_time s) (min s.horizon (quiet_time s)) (omega arith)))
      ];
    }

-- so the time of each place is found
turn : (s : Schedule) (limit place from : ℕ) → IsTimely s → place ≤ limit → arrived s from ≤ place → is_some (end_by s limit from) ≡ false → from ≤ s.horizon →
    IsTurn s limit place from (decided s place)
turn s limit place from timely served few runs by = at (slice_get s.arrivals place) refl
  where
    at : (o : Option Conv) → slice_get s.arrivals place ≡ o → IsTurn s limit place from (min s.horizon (time_or (quiet_time s) o))
    at None none = turn-none s limit place from timely served (past_none s.arrivals place none) runs by
    at (Some c) there = turn-found s limit place from c timely served few there

-- where nothing has ended, no more has come than is served
fits : (s : Schedule) (limit time : ℕ) → is_some (end_by s limit time) ≡ false → arrived s time ≤ limit
fits s limit time runs = elim (cases_lt limit (arrived s time)) [
  | inl over ↦ let ended = past-limit s limit time over in absurd (cc)
  | inr below ↦ below
]

-- a command that hasn't ended moves on
runs_on : (c : Running) (time : ℕ) → c.end ≡ None → brought time c ≡ moved_on c time
runs_on c time runs = rw runs refl

-- what is awaited of an input at a time
input-test : (n : ℕ) (c : Running) (time : ℕ) → c.end ≡ None → is_out c.schedule ≡ false → is_there n (brought time c) ≡ (nat_le n (written_by c time - c.r) || is_some (end_by c.schedule (c.r + c.schedule.size) time))
input-test n c time runs input =
    ap (is_there n) (runs_on c time runs ∙ moves-in c time input)
    ∙ ap (λ b. b || is_some (end_by c.schedule (c.r + c.schedule.size) time)) (cond-false (is_out c.schedule) _ _ input)

-- and of an output
output-test : (n : ℕ) (c : Running) (time : ℕ) → c.end ≡ None → is_out c.schedule ≡ true → is_there n (brought time c) ≡ (nat_le (c.a + n) (put_by c time + c.schedule.size) || is_some (end_by c.schedule c.w time))
output-test n c time runs output =
    ap (is_there n) (runs_on c time runs ∙ moves-out c time output)
    ∙ ap (λ b. b || is_some (end_by c.schedule c.w time)) (cond-true (is_out c.schedule) _ _ output)

-- an input that has more than the deciding place has what is awaited, or was overrun
input-there : (n : ℕ) (c : Running) (time : ℕ) → c.r + min (n - 1) c.schedule.size < arrived c.schedule time → (nat_le n (written_by c time - c.r) || is_some (end_by c.schedule (c.r + c.schedule.size) time)) ≡ true
input-there n c time more = elim (cases_lt c.schedule.size n) [
  | inl large ↦ or_right (nat_le n (written_by c time - c.r)) _ (past-limit c.schedule (c.r + c.schedule.size) time (omega (arith, more)))
  | inr small ↦ or_left (nat_le n (written_by c time - c.r)) _ (le-leb n (written_by c time - c.r) (omega (arith, more)))
]

-- an output that has put out more than the deciding place has room for what is awaited, or was underrun
output-there : (n : ℕ) (c : Running) (time : ℕ) → min (c.a + n - c.schedule.size - 1) c.w < arrived c.schedule time → (nat_le (c.a + n) (put_by c time + c.schedule.size) || is_some (end_by c.schedule c.w time)) ≡ true
output-there n c time more = elim (cases_lt c.w (arrived c.schedule time)) [
  | inl over ↦ or_right (nat_le (c.a + n) (put_by c time + c.schedule.size)) _ (past-limit c.schedule c.w time over)
  | inr below ↦ or_left (nat_le (c.a + n) (put_by c time + c.schedule.size)) _ (le-leb (c.a + n) (put_by c time + c.schedule.size) (omega (arith, more)))
]

-- the time that decides is the soonest, by a test of what is awaited
soonest : (n from limit place : ℕ) (c : Running) (test : ℕ → Bool) (t : ℕ) →
    ((u : ℕ) → is_there n (brought u c) ≡ (test u || is_some (end_by c.schedule limit u))) → ((u : ℕ) → arrived c.schedule u ≤ place → test u ≡ false) →
    ((u : ℕ) → place < arrived c.schedule u → (test u || is_some (end_by c.schedule limit u)) ≡ true) → IsTurn c.schedule limit place from t → IsSoonest n from c t
soonest n from limit place c test t tests few more turns = record {
  low = turns.low;
  within = turns.within;
  before = λ u after early. tests u ∙ or_from (test u) _ (few u (turns.before u early).0) (turns.before u early).1;
  there = elim turns.there [
    | inr last ↦ inr last
    | inl now ↦ elim now [
      | inl some ↦ inl (tests t ∙ more t some)
      | inr ended ↦ inl (tests t ∙ or_right (test t) _ ended)
    ]
  ];
}

-- the time of an await of an input that runs
soonest-input : (n from : ℕ) (c : Running) → IsTimely c.schedule → c.end ≡ None → is_out c.schedule ≡ false → is_there n (brought from c) ≡ false → from ≤ c.schedule.horizon →
    IsSoonest n from c (decided c.schedule (c.r + min (n - 1) c.schedule.size))
soonest-input n from c timely runs input none by =
    let now = or_parts (nat_le n (written_by c from - c.r)) _ (sym (input-test n c from runs input) ∙ none) in
    let few : written_by c from - c.r < n = leb-false n (written_by c from - c.r) now.0 in
    let below = fits c.schedule (c.r + c.schedule.size) from now.1 in
    soonest n from (c.r + c.schedule.size) (c.r + min (n - 1) c.schedule.size) c (λ u. nat_le n (written_by c u - c.r)) _ (λ u. input-test n c u runs input)
    (λ u less. lt-leb n (written_by c u - c.r) (omega (arith, less, few)))
    (λ u more. input-there n c u more)
    (turn c.schedule (c.r + c.schedule.size) (c.r + min (n - 1) c.schedule.size) from timely (omega arith) (omega (arith, few, below)) now.1 by)

-- and of an output that runs
soonest-output : (n from : ℕ) (c : Running) → IsTimely c.schedule → c.end ≡ None → is_out c.schedule ≡ true → is_there n (brought from c) ≡ false → from ≤ c.schedule.horizon →
    IsSoonest n from c (decided c.schedule (min (c.a + n - c.schedule.size - 1) c.w))
soonest-output n from c timely runs output none by =
    let now = or_parts (nat_le (c.a + n) (put_by c from + c.schedule.size)) _ (sym (output-test n c from runs output) ∙ none) in
    let few : put_by c from + c.schedule.size < c.a + n = leb-false (c.a + n) (put_by c from + c.schedule.size) now.0 in
    let below = fits c.schedule c.w from now.1 in
    soonest n from c.w (min (c.a + n - c.schedule.size - 1) c.w) c (λ u. nat_le (c.a + n) (put_by c u + c.schedule.size)) _ (λ u. output-test n c u runs output)
    (λ u less. lt-leb (c.a + n) (put_by c u + c.schedule.size) (omega (arith, less, few)))
    (λ u more. output-there n c u more)
    (turn c.schedule c.w (min (c.a + n - c.schedule.size - 1) c.w) from timely (omega arith) (omega (arith, few, below)) now.1 by)

-- of each command that runs
soonest-later : (n from : ℕ) (c : Running) → IsTimely c.schedule → c.end ≡ None → is_there n (brought from c) ≡ false → from ≤ c.schedule.horizon →
    IsSoonest n from c (decided c.schedule (deciding n c))
soonest-later n from c timely runs none by = at (is_out c.schedule) refl
  where
    its : (place : ℕ) → place ≡ deciding n c → IsSoonest n from c (decided c.schedule place) → IsSoonest n from c (decided c.schedule (deciding n c))
    its place same = subst (λ p. IsSoonest n from c (decided c.schedule p)) same

    at : (out : Bool) → is_out c.schedule ≡ out → IsSoonest n from c (decided c.schedule (deciding n c))
    at false input = its (c.r + min (n - 1) c.schedule.size) (sym (cond-false (is_out c.schedule) _ _ input)) (soonest-input n from c timely runs input none by)
    at true output = its (min (c.a + n - c.schedule.size - 1) c.w) (sym (cond-true (is_out c.schedule) _ _ output)) (soonest-output n from c timely runs output none by)

-- what has no end runs
no_end : (e : Option End) → is_some e ≡ false → e ≡ None
no_end None none = refl
no_end (Some e) none = absurd (cc)

-- the time of each await of a command that was brought to a time is the soonest
await-soonest : (n from : ℕ) (c : Running) → IsTimely c.schedule → brought from c ≡ c → from ≤ c.schedule.horizon → IsSoonest n from c (await_time n from (Some c))
await-soonest n from c timely same by = at (is_there n c) refl
  where
    later : ℕ
    later = decided c.schedule (deciding n c)

    at : (b : Bool) → is_there n c ≡ b → IsSoonest n from c (await_time n from (Some c))
    at true there = subst (IsSoonest n from c) (sym (cond-true (is_there n c) from later there)) (record {
      low = omega arith;
      within = by;
      before = λ u after early. absurd (omega (arith, after, early));
      there = inl (ap (is_there n) same ∙ there);
    })
    at false none = subst (IsSoonest n from c) (sym (cond-false (is_there n c) from later none))
        (soonest-later n from c timely (no_end c.end (or_parts (is_served n c) _ none).1) (ap (is_there n) same ∙ none) by)

-- a command was brought to a time, where one runs
abbrev IsBrought : ℕ → Option Running → Type 0
IsBrought time None = Unit {0}
IsBrought time (Some c) = brought time c ≡ c

brought-once : (time : ℕ) (running : Option Running) → IsBrought time (option_map (brought time) running)
brought-once time None = tt
brought-once time (Some c) = bringing_law time c

awaits-soonest : (wiring : Wiring) (time : ℕ) (h : History) (running : Option Running) → time ≤ wiring.signals.horizon → Keeps wiring time h running → IsBrought time running → AwaitsAreSoonest time running
awaits-soonest wiring time h None by keeps same = tt
awaits-soonest wiring time h (Some c) by keeps same =
    let within : time ≤ c.schedule.horizon = omega (arith, by, ap (λ (x : Schedule). x.horizon) keeps.0.same, ap (λ (x : SignalsText). x.horizon) keeps.1.1) in
    λ n. await-soonest n time c keeps.0.timely same within

-- each session that goes well, with its lines in order
soonest-at : (s : Setting) (time : ℕ) (histories : ℕ → History) (state : State) (lines : List SessionLine) → InOrder s.signals.horizon time lines → GoesWell s histories state lines → AreSoonestAtLines s state lines
soonest-at s time histories state [] order well = tt
soonest-at s time histories state (line ∷ rest) order well = (
  λ i. awaits-soonest (wiring_at s i) line.time (histories i) (device_at (brought_all line.time state).devices i).running order.1.0 (well.0 i)
      (subst (λ (d : Device). IsBrought line.time d.running) (sym (device_at-brought line.time state.devices i)) (brought-once line.time (device_at state.devices i).running)),
  soonest-at s line.time _ _ rest order.2 well.3,
)

pub await_law : AwaitLaw
await_law job sound =
    soonest-at (setting_of job) 0 (λ i. no_history) (at_start (setting_of job)) job.lines sound.is.lines (session_law job sound)
