-- What holds of a command at every line of a session.
use Rattle.std.proofs.Common.{ne_eqb, ◌≡◌, ℕ, ◌+◌, ◌-◌, ◌<◌, ◌≤◌, Bool, true, false, List, [], ◌++◌, length, take, drop, refl, sym, ap, ap₂, ◌∙◌, inl, inr, arith, length-take, length-drop, length-append, drop-drop, subst, Option, Some, None}
use Rattle.std.specs.Prelude.{nat_eq, not, ◌&&◌, ◌||◌, if◌then◌else◌, slice_index}
use Rattle.std.specs.Option.{option_map}
use Rattle.std.proofs.lemmas.Bool.{cases_eq, cases_Bool, eq-eqb, cond-true, cond-false}
use Rattle.std.proofs.lemmas.List.{drop-append-le}
use Rattle.cm_sample.specs.Rule.{map_from}
use Rattle.cm_expand.specs.Plan.{start_of}
use Rattle.cm_replay.specs.Law.{Continues, HasPlaces, History, IsDueIfAny, IsInput, IsLawful, IsOf, IsOutput, Keeps, Wiring, PutsOut, Remembers, remembered}
use Rattle.cm_running.specs.Running.{Running, Schedule, arrived, brought, collected, due, end_by, is_out, moved_on, munge_in, outputs, put_by, put_out, samples, served, started, written_by}
use Rattle.cm_running.specs.Timely.{IsTimely}
use Rattle.cm_running.specs.Schedules.{schedule_of, triggered}
use Rattle.cm_replay.specs.Answers.{Answer, Ended, Filled, Looked, Mapped, Released, Taken, Written}
use Rattle.cm_running.specs.Triggering.{has_come, trigger_on, waits}
use Rattle.cm_running.specs.Reading.{map_on, mapping, read_on, reported_end, taken, taking}
use Rattle.cm_running.specs.Writing.{fill_on, mark_on, munged_within, taken_in, write_on}
use Rattle.cm_text.specs.declared.end.End.{End}
use Rattle.cm_expand.proofs.Come.{come-later}
use Rattle.cm_replay.proofs.Ends.{arrived-le, end-due}
use Rattle.cm_running.proofs.Samples.{length-samples}
use Rattle.cm_replay.proofs.Words.{map_from-append, map_from-after, map_from-drop, map_from-further, outputs-munged}

-- the places of a command by its direction
pub input : (out : Bool) (time : ℕ) (c : Running) → out ≡ false → HasPlaces out time c → IsInput time c
input out time c e places = subst (λ o. HasPlaces o time c) e places

pub output : (out : Bool) (time : ℕ) (c : Running) → out ≡ true → HasPlaces out time c → IsOutput time c
output out time c e places = subst (λ o. HasPlaces o time c) e places

pub as_input : (out : Bool) (time : ℕ) (c : Running) → out ≡ false → IsInput time c → HasPlaces out time c
as_input out time c e places = subst (λ o. HasPlaces o time c) (sym e) places

pub as_output : (out : Bool) (time : ℕ) (c : Running) → out ≡ true → IsOutput time c → HasPlaces out time c
as_output out time c e places = subst (λ o. HasPlaces o time c) (sym e) places

pub moves-in : (c : Running) (time : ℕ) → is_out c.schedule ≡ false → moved_on c time ≡ collected c time
moves-in c time e = cond-false (is_out c.schedule) (put_out c time) (collected c time) e

pub moves-out : (c : Running) (time : ℕ) → is_out c.schedule ≡ true → moved_on c time ≡ put_out c time
moves-out c time e = cond-true (is_out c.schedule) (put_out c time) (collected c time) e

pub served-in : (c : Running) → is_out c.schedule ≡ false → served c ≡ c.w
served-in c e = cond-false (is_out c.schedule) c.r c.w e

pub served-out : (c : Running) → is_out c.schedule ≡ true → served c ≡ c.r
served-out c e = cond-true (is_out c.schedule) c.r c.w e

-- what the passing of time does to an input keeps its rule
collected-lawful : (before time : ℕ) (c : Running) → before ≤ time → is_out c.schedule ≡ false → IsLawful before c → IsLawful time (collected c time)
collected-lawful before time c later e lawful =
    let i = input (is_out c.schedule) before c e lawful.places in
    let more = come-later before time c.schedule.arrivals later in
    record {
      timely = lawful.timely;
      later = λ at h below. lawful.later at (omega arith) below;
      same = lawful.same;
      places = as_input (is_out c.schedule) time (collected c time) e (record {
        r_ra = i.r_ra;
        ra_w = omega (arith, i.ra_w, i.w_come, i.w_size);
        w_a = refl;
        w_size = omega arith;
        w_come = omega arith;
      });
      end = subst (λ p. IsDueIfAny (end_by c.schedule (c.r + c.schedule.size) time) p (length c.schedule.conversions)) (sym (served-in (collected c time) e))
          (end-due c.schedule (c.r + c.schedule.size) time (written_by c time) lawful.timely refl);
    }

put_out-lawful : (before time : ℕ) (c : Running) → before ≤ time → is_out c.schedule ≡ true → IsLawful before c → IsLawful time (put_out c time)
put_out-lawful before time c later e lawful =
    let o = output (is_out c.schedule) before c e lawful.places in
    let more = come-later before time c.schedule.arrivals later in
    record {
      timely = lawful.timely;
      later = λ at h below. lawful.later at (omega arith) below;
      same = lawful.same;
      places = as_output (is_out c.schedule) time (put_out c time) e (record {
        r_ra = refl;
        r_w = omega arith;
        w_a = o.w_a;
        a_size = omega (arith, o.a_size, o.r_w, o.r_come);
        r_come = omega arith;
      });
      end = subst (λ p. IsDueIfAny (end_by c.schedule c.w time) p (length c.schedule.conversions)) (sym (served-out (put_out c time) e))
          (end-due c.schedule c.w time (put_by c time) lawful.timely refl);
    }

-- a later time keeps the rule of a command that has ended
later-places : (out : Bool) (before time : ℕ) (c : Running) → before ≤ time → HasPlaces out before c → HasPlaces out time c
later-places false before time c later i = record {
  r_ra = i.r_ra;
  ra_w = i.ra_w;
  w_a = i.w_a;
  w_size = i.w_size;
  w_come = omega (arith, i.w_come, come-later before time c.schedule.arrivals later);
}
later-places true before time c later o = record {
  r_ra = o.r_ra;
  r_w = o.r_w;
  w_a = o.w_a;
  a_size = o.a_size;
  r_come = omega (arith, o.r_come, come-later before time c.schedule.arrivals later);
}

later-lawful : (before time : ℕ) (c : Running) → before ≤ time → IsLawful before c → IsLawful time c
later-lawful before time c later lawful = record {
  timely = lawful.timely;
  later = λ at h below. lawful.later at (omega arith) below;
  same = lawful.same;
  places = later-places (is_out c.schedule) before time c later lawful.places;
  end = lawful.end;
}

pub stays : (time : ℕ) (c : Running) (e : End) → c.end ≡ Some e → brought time c ≡ c
stays time c e ended = rw ended refl

pub moves : (time : ℕ) (c : Running) → c.end ≡ None → brought time c ≡ moved_on c time
moves time c runs = rw runs refl

-- the words that are left are those of the client from a later place on
left-words : (h : History) (c : Running) (place : ℕ) → c.r ≤ place → c.words ≡ map_from (munged_within (munge_in c.schedule) 0 c.w) c.r (drop c.r h.given) →
    drop (place - c.r) c.words ≡ map_from (munged_within (munge_in c.schedule) 0 c.w) place (drop place h.given)
left-words h c place later words =
    let there : c.r + (place - c.r) ≡ place = omega arith in
    let back : (place - c.r) + c.r ≡ place = omega arith in
    ap (drop (place - c.r)) words ∙ map_from-drop (munged_within (munge_in c.schedule) 0 c.w) c.r (place - c.r) (drop c.r h.given)
    ∙ ap₂ (λ p n. map_from (munged_within (munge_in c.schedule) 0 c.w) p n) there (drop-drop (place - c.r) c.r h.given ∙ ap (λ n. drop n h.given) there)

moved-keeps : (wiring : Wiring) (before time : ℕ) (h : History) (c : Running) → before ≤ time → Keeps wiring before h (Some c) → Keeps wiring time h (Some (moved_on c time))
moved-keeps wiring before time h c later kept = elim (cases_Bool (is_out c.schedule)) [
  | inl out ↦
      let o = output (is_out c.schedule) before c out kept.0.places in
      let r : Remembers true h c = subst (λ b. Remembers b h c) out kept.2 in
      let place : c.r ≤ put_by c time = omega (arith, o.r_w, o.r_come, come-later before time c.schedule.arrivals later) in
      let new : Remembers true h (put_out c time) = (r.0, left-words h c (put_by c time) place r.1) in
      rw (moves-out c time out) (put_out-lawful before time c later out kept.0, kept.1, subst (λ b. Remembers b h (put_out c time)) (sym out) new)
  | inr inn ↦
      let r : Remembers false h c = subst (λ b. Remembers b h c) inn kept.2 in
      let new : Remembers false h (collected c time) = r in
      rw (moves-in c time inn) (collected-lawful before time c later inn kept.0, kept.1, subst (λ b. Remembers b h (collected c time)) (sym inn) new)
]

pub brought-keeps : (wiring : Wiring) (before time : ℕ) (h : History) (running : Option Running) → before ≤ time → Keeps wiring before h running → Keeps wiring time h (option_map (brought time) running)
brought-keeps wiring before time h None later kept = tt
brought-keeps wiring before time h (Some c) later kept = by_end c.end refl
  where
    by_end : (e : Option End) → c.end ≡ e → Keeps wiring time h (Some (brought time c))
    by_end None runs = rw (moves time c runs) (moved-keeps wiring before time h c later kept)
    by_end (Some e) ended = rw (stays time c e ended) (later-lawful before time c later kept.0, kept.1, kept.2)

-- what is put out are the client's words
pub puts-out : (wiring : Wiring) (i before time : ℕ) (h : History) (running : Option Running) → before ≤ time → Keeps wiring before h running → PutsOut i time h running
puts-out wiring i before time h None later kept = tt
puts-out wiring i before time h (Some c) later kept = λ runs out.
    let o = output (is_out c.schedule) before c out kept.0.places in
    let r : Remembers true h c = subst (λ b. Remembers b h c) out kept.2 in
    let cs = take (put_by c time - c.r) (drop c.r c.schedule.arrivals) in
    let few : c.r + length cs ≤ c.w = omega (arith, o.r_w, length-take (put_by c time - c.r) (drop c.r c.schedule.arrivals)) in
    let due_is : due i time c ≡ outputs i cs c.words = rw runs (cond-true (is_out c.schedule) (outputs i cs c.words) [] out) in
    due_is ∙ ap (outputs i cs) r.1 ∙ outputs-munged i (munge_in c.schedule) c.w c.r cs (drop c.r h.given) few

-- what a line did is well where its answer continues what was read, and the command stays lawful
abbrev pub IsWell : Wiring → ℕ → History → Option Running → Answer → Option Running → Type 0
IsWell wiring time h running answer after = Continues answer h running × Keeps wiring time (remembered h answer) after

-- an end that is reported
pub ended-well : (wiring : Wiring) (time : ℕ) (h : History) (c : Running) (e : End) → Keeps wiring time h (Some c) → (is_out c.schedule ≡ false → c.r ≡ c.w) → c.end ≡ Some e → IsWell wiring time h (Some c) (Ended e) None
ended-well wiring time h c e kept drained ended = ((drained, subst (λ o. IsDueIfAny o (served c) (length c.schedule.conversions)) ended kept.0.end), tt)

-- an input reports its end where nothing is left
ended-drained : (c : Running) (e : End) → is_out c.schedule ≡ false → reported_end c ≡ Some e → (c.r ≡ c.w) × (c.end ≡ Some e)
ended-drained c e inn said = elim (cases_eq c.r c.w) [
  | inl empty ↦ (empty, sym (ap (λ b. if b || nat_eq c.r c.w then c.end else None) inn ∙ ap (λ b. if b then c.end else None) (eq-eqb _ _ empty)) ∙ said)
  | inr some ↦ absurd (no (sym (ap (λ b. if b || nat_eq c.r c.w then c.end else None) inn ∙ ap (λ b. if b then c.end else None) (ne_eqb _ _ some)) ∙ said))
]
  where
    no : (None ≡ Some e) → ⊥
    no h = absurd (cc)

ended-out : (c : Running) → is_out c.schedule ≡ true → reported_end c ≡ c.end
ended-out c out = ap (λ b. if b || nat_eq c.r c.w then c.end else None) out

-- the end that is reported, if any: of an input where nothing is left
pub reported-drained : (c : Running) (e : End) → reported_end c ≡ Some e → (is_out c.schedule ≡ false → c.r ≡ c.w) × (c.end ≡ Some e)
reported-drained c e said = elim (cases_Bool (is_out c.schedule)) [
  | inl out ↦ (λ inn. absurd (cc), sym (ended-out c out) ∙ said)
  | inr inn ↦ let d = ended-drained c e inn said in (λ i. d.0, d.1)
]

-- an input's marked samples are counted by its place r
pub remembers-in : (h : History) (c : Running) → is_out c.schedule ≡ false → Remembers (is_out c.schedule) h c → h.gone ≡ c.r
remembers-in h c e r = subst (λ b. Remembers b h c) e r

as_remembers-in : (h : History) (c : Running) → is_out c.schedule ≡ false → h.gone ≡ c.r → Remembers (is_out c.schedule) h c
as_remembers-in h c e r = subst (λ b. Remembers b h c) (sym e) r

remembers-out : (h : History) (c : Running) → is_out c.schedule ≡ true → Remembers (is_out c.schedule) h c → Remembers true h c
remembers-out h c e r = subst (λ b. Remembers b h c) e r

as_remembers-out : (h : History) (c : Running) → is_out c.schedule ≡ true → Remembers true h c → Remembers (is_out c.schedule) h c
as_remembers-out h c e r = subst (λ b. Remembers b h c) (sym e) r

-- an input that keeps its written samples stays lawful at other places
input-on : (wiring : Wiring) (time : ℕ) (h after : History) (c : Running) (r ra : ℕ) → is_out c.schedule ≡ false → Keeps wiring time h (Some c) → r ≤ ra → ra ≤ c.w → c.r ≤ r → after.gone ≡ r →
    Keeps wiring time after (Some (record c { r = r; ra = ra }))
input-on wiring time h after c r ra inn kept order within more gone =
    let i = input (is_out c.schedule) time c inn kept.0.places in
    let d : Running = record c { r = r; ra = ra } in (
      record {
        timely = kept.0.timely;
        later = kept.0.later;
        same = kept.0.same;
        places = as_input (is_out c.schedule) time d inn (record { r_ra = order; ra_w = within; w_a = i.w_a; w_size = omega (arith, i.w_size); w_come = i.w_come });
        end = subst (λ p. IsDueIfAny c.end p (length c.schedule.conversions)) (served-in c inn ∙ sym (served-in d inn)) kept.0.end;
      },
      kept.1,
      as_remembers-in after d inn gone,
    )

-- the samples that are taken are the next ones, and as many as are written
long-taken : (n : ℕ) (c : Running) → c.w ≤ length c.schedule.conversions → length (take (taking n c) (drop c.r (samples c.schedule))) ≡ taking n c
long-taken n c all = omega (arith, length-samples c.schedule, length-take (taking n c) (drop c.r (samples c.schedule)), length-drop c.r (samples c.schedule))

read-keeps : (wiring : Wiring) (n time : ℕ) (h after : History) (c : Running) → is_out c.schedule ≡ false → Keeps wiring time h (Some c) → after.gone ≡ c.r + taking n c → Keeps wiring time after (Some (read_on n c))
read-keeps wiring n time h after c inn kept gone =
    let i = input (is_out c.schedule) time c inn kept.0.places in
    input-on wiring time h after c (c.r + taking n c) (c.r + taking n c) inn kept (omega arith) (omega (arith, i.r_ra, i.ra_w)) (omega arith) gone

pub taken-well : (wiring : Wiring) (n time : ℕ) (h : History) (c : Running) → is_out c.schedule ≡ false → Keeps wiring time h (Some c) → IsWell wiring time h (Some c) (Taken c.schedule.format c.r (taken n c)) (Some (read_on n c))
taken-well wiring n time h c inn kept =
    let i = input (is_out c.schedule) time c inn kept.0.places in
    let all : c.w ≤ length c.schedule.conversions = omega (arith, i.w_come, arrived-le c.schedule time kept.0.timely) in
    let gone = remembers-in h c inn kept.2 in (
      record {
        input = inn;
        format = refl;
        place_is = sym gone;
        words_are = ap (λ k. take k (drop c.r (samples c.schedule))) (sym (long-taken n c all));
        written = omega (arith, long-taken n c all, i.r_ra, i.ra_w);
      },
      read-keeps wiring n time h (remembered h (Taken c.schedule.format c.r (taken n c))) c inn kept (omega (arith, gone, long-taken n c all)),
    )

-- or only counted
pub counted-well : (wiring : Wiring) (n time : ℕ) (h : History) (c : Running) → is_out c.schedule ≡ false → Keeps wiring time h (Some c) → IsWell wiring time h (Some c) (Released (taking n c)) (Some (read_on n c))
counted-well wiring n time h c inn kept = (tt, read-keeps wiring n time h (record h { gone = h.gone + taking n c }) c inn kept (omega (arith, remembers-in h c inn kept.2)))

pub mapped-well : (wiring : Wiring) (n time : ℕ) (h : History) (c : Running) → is_out c.schedule ≡ false → Keeps wiring time h (Some c) → IsWell wiring time h (Some c) (Mapped (mapping n c)) (Some (map_on n c))
mapped-well wiring n time h c inn kept =
    let i = input (is_out c.schedule) time c inn kept.0.places in
    (tt, input-on wiring time h h c c.r (c.ra + mapping n c) inn kept (omega (arith, i.r_ra)) (omega (arith, i.ra_w)) (omega arith) (remembers-in h c inn kept.2))

pub looked-well : (wiring : Wiring) (i time : ℕ) (h : History) (c : Running) → is_out c.schedule ≡ false → i < c.ra - c.r → Keeps wiring time h (Some c) →
    IsWell wiring time h (Some c) (Looked c.schedule.format (c.r + i) (slice_index (samples c.schedule) (c.r + i))) (Some c)
looked-well wiring i time h c inn within kept = (
  record {
    input = inn;
    format = refl;
    unread = omega (arith, remembers-in h c inn kept.2);
    mapped = omega arith;
    word_is = refl;
  },
  kept,
)

pub released-well : (wiring : Wiring) (k time : ℕ) (h : History) (c : Running) → is_out c.schedule ≡ false → k ≤ c.ra - c.r → Keeps wiring time h (Some c) → IsWell wiring time h (Some c) (Released k) (Some (record c { r = c.r + k }))
released-well wiring k time h c inn within kept =
    let i = input (is_out c.schedule) time c inn kept.0.places in
    (tt, input-on wiring time h (record h { gone = h.gone + k }) c (c.r + k) c.ra inn kept (omega (arith, i.r_ra)) i.ra_w (omega arith) (omega (arith, remembers-in h c inn kept.2)))

-- an output that keeps what was put out stays lawful at other places
output-on : (wiring : Wiring) (time : ℕ) (h after : History) (c : Running) (w a : ℕ) (words : List ℕ) → is_out c.schedule ≡ true → Keeps wiring time h (Some c) → c.w ≤ w → w ≤ a → a ≤ c.r + c.schedule.size →
    length after.given ≡ a → words ≡ map_from (munged_within (munge_in c.schedule) 0 w) c.r (drop c.r after.given) → Keeps wiring time after (Some (record c { w = w; a = a; words = words }))
output-on wiring time h after c w a words out kept more order room long same =
    let o = output (is_out c.schedule) time c out kept.0.places in
    let d : Running = record c { w = w; a = a; words = words } in (
      record {
        timely = kept.0.timely;
        later = kept.0.later;
        same = kept.0.same;
        places = as_output (is_out c.schedule) time d out (record { r_ra = o.r_ra; r_w = omega (arith, o.r_w); w_a = order; a_size = room; r_come = o.r_come });
        end = subst (λ p. IsDueIfAny c.end p (length c.schedule.conversions)) (served-out c out ∙ sym (served-out d out)) kept.0.end;
      },
      kept.1,
      as_remembers-out after d out (long, same),
    )

-- more words after the client's
filled-words : (h : History) (c : Running) (words : List ℕ) → c.r ≤ c.a → c.w ≤ c.a → Remembers true h c → c.words ++ words ≡ map_from (munged_within (munge_in c.schedule) 0 c.w) c.r (drop c.r (h.given ++ words))
filled-words h c words r_a w_a kept =
    let f = munged_within (munge_in c.schedule) 0 c.w in
    let reach : c.r + length (drop c.r h.given) ≡ c.a = omega (arith, kept.0, length-drop c.r h.given) in
    ap₂ (λ xs ys. xs ++ ys) kept.1 (sym (map_from-after (munge_in c.schedule) 0 c.w c.a words w_a) ∙ ap (λ p. map_from f p words) (sym reach))
    ∙ sym (map_from-append f c.r (drop c.r h.given) words) ∙ ap (map_from f c.r) (sym (drop-append-le c.r h.given words (omega (arith, kept.0))))

few-taken : (words : List ℕ) (c : Running) → c.a ≤ c.r + c.schedule.size → c.a + length (taken_in words c) ≤ c.r + c.schedule.size
few-taken words c room = omega (arith, length-take (c.r + c.schedule.size - c.a) words)

pub filled-well : (wiring : Wiring) (words : List ℕ) (time : ℕ) (h : History) (c : Running) → is_out c.schedule ≡ true → Keeps wiring time h (Some c) →
    IsWell wiring time h (Some c) (Filled (taken_in words c)) (Some (fill_on (taken_in words c) c))
filled-well wiring words time h c out kept =
    let o = output (is_out c.schedule) time c out kept.0.places in
    let r = remembers-out h c out kept.2 in
    let more = taken_in words c in (
      tt,
      output-on wiring time h (record h { given = h.given ++ more }) c c.w (c.a + length more) (c.words ++ more) out kept (omega arith) (omega (arith, o.w_a)) (few-taken words c o.a_size)
          (omega (arith, r.0, length-append h.given more)) (filled-words h c more (omega (arith, o.r_w, o.w_a)) o.w_a r),
    )

-- words that are marked
pub mark-keeps : (wiring : Wiring) (k time : ℕ) (h : History) (c : Running) → is_out c.schedule ≡ true → k ≤ c.a - c.w → Keeps wiring time h (Some c) → Keeps wiring time h (Some (mark_on k c))
mark-keeps wiring k time h c out few kept =
    let o = output (is_out c.schedule) time c out kept.0.places in
    let r = remembers-out h c out kept.2 in
    output-on wiring time h h c (c.w + k) c.a (map_from (munged_within (munge_in c.schedule) c.w (c.w + k)) c.r c.words) out kept (omega arith) (omega (arith, o.w_a)) o.a_size r.0
    (ap (map_from (munged_within (munge_in c.schedule) c.w (c.w + k)) c.r) r.1 ∙ map_from-further (munge_in c.schedule) c.w k c.r (drop c.r h.given))

pub written-well : (wiring : Wiring) (words : List ℕ) (time : ℕ) (h : History) (c : Running) → is_out c.schedule ≡ true → Keeps wiring time h (Some c) →
    IsWell wiring time h (Some c) (Written (taken_in words c)) (Some (write_on (taken_in words c) c))
written-well wiring words time h c out kept =
    let o = output (is_out c.schedule) time c out kept.0.places in
    let filled = filled-well wiring words time h c out kept in
    (tt, mark-keeps wiring (length (taken_in words c)) time (record h { given = h.given ++ taken_in words c }) (fill_on (taken_in words c) c) out (omega (arith, o.w_a)) filled.1)

-- a command that has just started
pub started-keeps : (wiring : Wiring) (time : ℕ) (h : History) (s : Schedule) → h.gone ≡ 0 → h.given ≡ [] → IsTimely s → ((at : ℕ) → time ≤ at → at ≤ s.horizon → IsTimely (triggered at s)) → s ≡ schedule_of s.plan → IsOf wiring s.plan → Keeps wiring time h (Some (started s))
started-keeps wiring time h s gone given timely later same its = (
  record {
    timely = timely;
    later = later;
    same = same;
    places = places (is_out s);
    end = tt;
  },
  its,
  remembers (is_out s),
)
  where
    places : (out : Bool) → HasPlaces out time (started s)
    places false = record { r_ra = omega arith; ra_w = omega arith; w_a = refl; w_size = omega arith; w_come = omega arith }
    places true = record { r_ra = refl; r_w = omega arith; w_a = omega arith; a_size = omega arith; r_come = omega arith }

    remembers : (out : Bool) → Remembers out h (started s)
    remembers false = gone
    remembers true = (ap length given, sym (ap (λ xs. map_from (munged_within (munge_in s) 0 0) 0 xs) given))

and-right : (a b : Bool) → (a && b) ≡ true → b ≡ true
and-right true b h = h
and-right false b h = absurd (cc)

pub waits-early : (time : ℕ) (c : Running) → waits time (Some c) ≡ true → has_come (start_of c.schedule.plan) time ≡ false
waits-early time c waiting = by (has_come (start_of c.schedule.plan) time) (and-right _ _ waiting)
  where
    by : (b : Bool) → not b ≡ true → b ≡ false
    by true h = absurd (cc)
    by false h = refl

-- a command that waits for its trigger has its places at 0, and takes another schedule of the same buffer
trigger-keeps-on : (wiring : Wiring) (time : ℕ) (h : History) (c : Running) → time ≤ c.schedule.horizon → arrived c.schedule time ≡ 0 → c.end ≡ None → Keeps wiring time h (Some c) → Keeps wiring time h (Some (record c { schedule = triggered time c.schedule }))
trigger-keeps-on wiring time h c by early runs kept = (
  record {
    timely = kept.0.later time (omega arith) by;
    later = λ at after below. kept.0.later at after (omega (arith, horizon));
    same = refl;
    places = places (is_out c.schedule) kept.0.places;
    end = subst (λ (e : Option End). IsDueIfAny e (served d) (length s.conversions)) (sym runs) tt;
  },
  kept.1,
  remembers (is_out c.schedule) kept.2,
)
  where
    s : Schedule
    s = triggered time c.schedule

    d : Running
    d = record c { schedule = s }

    horizon : s.horizon ≡ c.schedule.horizon
    horizon = ap (λ (x : Schedule). x.horizon) (sym kept.0.same)

    size : s.size ≡ c.schedule.size
    size = ap (λ (x : Schedule). x.size) (sym kept.0.same)

    places : (out : Bool) → HasPlaces out time c → HasPlaces out time d
    places false i = record { r_ra = i.r_ra; ra_w = i.ra_w; w_a = i.w_a; w_size = omega (arith, i.w_size, size); w_come = omega (arith, i.w_come, early) }
    places true o = record { r_ra = o.r_ra; r_w = o.r_w; w_a = o.w_a; a_size = omega (arith, o.a_size, size); r_come = omega (arith, o.r_come, early) }

    remembers : (out : Bool) → Remembers out h c → Remembers out h d
    remembers false r = r
    remembers true r = r

pub trigger-keeps : (wiring : Wiring) (time : ℕ) (h : History) (c : Running) → time ≤ c.schedule.horizon → waits time (Some c) ≡ true → Keeps wiring time h (Some c) → Keeps wiring time h (Some (trigger_on time c))
trigger-keeps wiring time h c by waiting kept = by_end c.end refl
  where
    given : c.end ≡ None → trigger_on time c ≡ record c { schedule = triggered time c.schedule }
    given runs = rw runs refl

    ignored : (e : End) → c.end ≡ Some e → trigger_on time c ≡ c
    ignored e ended = rw ended refl

    by_end : (e : Option End) → c.end ≡ e → Keeps wiring time h (Some (trigger_on time c))
    by_end None runs =
        subst (λ (d : Running). Keeps wiring time h (Some d)) (sym (given runs))
        (trigger-keeps-on wiring time h c by (kept.0.timely.early time (waits-early time c waiting)) runs kept)
    by_end (Some e) ended = subst (λ (d : Running). Keeps wiring time h (Some d)) (sym (ignored e ended)) kept
