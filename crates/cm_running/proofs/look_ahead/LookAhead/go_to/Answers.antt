use Rattle.std.proofs.Common.{◌≡◌, ◌+◌, ◌-◌, [], drop, length, min, take, List, sym, ap, ap₂, ◌∙◌, arith, drop-drop}
use Rattle.std.specs.Prelude.{slice_get, option_map}
use Rattle.cm_expand.specs.Taking.{come}
use Rattle.cm_expand.specs.declared.conv.Conv.{Conv}
use Rattle.cm_fifo.specs.Handed.{last_time, time_or}
use Rattle.cm_running.specs.Awaiting.{last_after, quiet_after, quiet_time}
use Rattle.cm_running.specs.LookAheadView.{Look, look_of}
use Rattle.cm_running.specs.ToCome.{ToCome, left_after}
use Rattle.cm_running.proofs.Awaited.{last-passed, left-come, quiet-same, time-gone, time-there}
use Rattle.cm_running.proofs.Come.{nothing_left}
use Rattle.cm_running.proofs.look_ahead.LookAhead.go_to.Goals as goal
use Rattle.cm_running.proofs.look_ahead.LookAhead.go_to.Goals.{in-Some, in-None}

pub pass-self-inside-requires : goal.pass-self-inside-requires
pass-self-inside-requires c =
    let is = c.self.invariant in
    let s = (look_of c.self.inside).schedule in
    ap₂ (λ time (t : ToCome). come time t.conversions) c.horizon-horizon.ensures is.left
    ∙ left-come s.horizon c.self.inside.passed s.arrivals is.planned.timely.cut
    ∙ sym (ap (λ (t : ToCome). length t.conversions) is.left)

pub quiet_after-requires : goal.quiet_after-requires
quiet_after-requires c = ap (λ (t : ToCome). t.conversions) c.next_time.ensures.after ∙ nothing_left c.pass-self-inside.new.pending.conversions (sym c.next_time.ensures.value ∙ c.in-None.is)

-- what is left after the place, and the last before it
stands : (c : goal.Joined-next_time) → (c.self.inside.passed + (c.args.place - c.self.inside.passed) ≡ c.args.place) × (c.pass-self-inside.new.pending ≡ left_after c.args.place (look_of c.self.inside).schedule)
stands c =
    let is = c.self.invariant in
    let s = (look_of c.self.inside).schedule in
    let passed = c.self.inside.passed in
    let count = c.args.place - passed in
    let sum : passed + count ≡ c.args.place = omega (arith, c.requires, ap (λ (l : Look). l.passed) c.self.view_is) in (
      sum,
      c.pass-self-inside.ensures.after
          ∙ ap (λ (t : ToCome). let u : ToCome = record t { conversions = drop count t.conversions } in u) is.left
          ∙ ap (λ (cs : List Conv). let t : ToCome = record (left_after passed s) { conversions = cs } in t) (drop-drop count passed s.arrivals ∙ ap (λ k. drop k s.arrivals) sum),
    )

last-is : (c : goal.Joined-next_time) → c.pass-self-inside.result ≡ last_time (take c.args.place (look_of c.self.inside).schedule.arrivals)
last-is c =
    let is = c.self.invariant in
    let all = (look_of c.self.inside).schedule.arrivals in
    let passed = c.self.inside.passed in
    let count = c.args.place - passed in
    c.pass-self-inside.ensures.last
    ∙ ap₂ (λ before (t : ToCome). last_after before (take count t.conversions)) is.last is.left
    ∙ last-passed passed count all
    ∙ ap (λ k. last_time (take k all)) (stands c).0

pub invariant_of-self : goal.invariant_of-self
invariant_of-self c = record {
  planned = c.self.invariant.planned;
  left = c.next_time.ensures.after ∙ (stands c).1;
  last = last-is c;
}

pub returns-clause-time : goal.returns-clause-time
returns-clause-time c =
    let s = (look_of c.self.inside).schedule in
    let place = c.args.place in
    let all = s.arrivals in
    let quiet = quiet_time s in
    let seen = ap (λ (l : Look). min l.schedule.horizon (time_or (quiet_time l.schedule) (slice_get l.schedule.arrivals place))) c.self.view_is in
    let left = ap (λ (t : ToCome). t.conversions) (stands c).1 in
    elim c.match-next_time.branch [
      | in-Some w ↦
          let next = ap (λ (cs : List Conv). option_map (λ (x : Conv). x.time) (slice_get cs 0)) (sym left) ∙ sym c.next_time.ensures.value ∙ w.in-Some.is in
          w.result-is ∙ w.min.ensures ∙ ap₂ min c.horizon-horizon.ensures (sym (time-there quiet place w.in-Some.time all next)) ∙ seen
      | in-None w ↦
          let none : drop place all ≡ [] = sym left ∙ nothing_left c.pass-self-inside.new.pending.conversions (sym c.next_time.ensures.value ∙ w.in-None.is) in
          let gone = time-gone quiet place all none in
          w.result-is ∙ w.min-in-None.ensures
          ∙ ap₂ min c.horizon-horizon.ensures (w.quiet_after.ensures
          ∙ ap₂ (λ (t : ToCome) last. quiet_after t last c.horizon-horizon.result) (c.next_time.ensures.after ∙ (stands c).1) (last-is c ∙ ap last_time gone.1)
          ∙ ap (quiet_after (left_after place s) (last_time all)) c.horizon-horizon.ensures
          ∙ quiet-same (left_after 0 s) (drop place all) (last_time all) s.horizon
          ∙ sym gone.0)
          ∙ seen
    ]
