-- When a sample is lost.
use Rattle.std.proofs.Common.{◌≡◌, ℕ, ◌+◌, ◌<◌, ◌≤◌, Bool, true, false, cond, List, [], ◌∷◌, length, ◌⊎◌, inl, inr, Option, Some, None, refl, sym, ap, ◌∙◌, subst, nat_lt, nat_le, le-ltb, arith}
use Rattle.std.specs.Prelude.{nat_eq, ◌&&◌}
use Rattle.std.proofs.lemmas.Bool.{cases_Bool, cases_lt, cond-true, cond-false, le-leb, lt-leb, lt-ltb}
use Rattle.cm_expand.specs.Taking.{come}
use Rattle.cm_expand.proofs.Come.{come-le}
use Rattle.cm_session.specs.Limits.{InOrder}
use Rattle.cm_session.specs.declared.op.SessionLine.{SessionLine}
use Rattle.cm_signal.specs.Setting.{Setting}
use Rattle.cm_text.specs.declared.end.End.{End}
use Rattle.cm_text.specs.declared.end.End.TheVariants as ends
use Rattle.cm_running.specs.Running.{Running, Schedule, arrived, brought, end_by, has_stopped, is_out, lost_end, missed, quiet_end, some_if}
use Rattle.cm_running.specs.Timely.{IsTimely}
use Rattle.cm_replay.specs.Job.{setting_of}
use Rattle.cm_replay.specs.Law.{History, Keeps, Wiring, no_history, wiring_at}
use Rattle.cm_replay.specs.Losses.{IsLostOnBoard, Loses, LosesOnly, LosesWell, LossLaw, served_below}
use Rattle.cm_replay.specs.Session.{step}
use Rattle.cm_replay.specs.State.{State, at_start, device_at}
use Rattle.cm_replay.proofs.Laws.{moves, moves-in, moves-out}
use Rattle.cm_replay.proofs.SessionLaws.{AllKeep, IsSoundState, all-idle, sound-start, sound-stepped, step-well}

-- an end that comes without a loss
IsQuiet : Option End → Type 0
IsQuiet (Some (ends.Overrun k)) = ⊥
IsQuiet (Some (ends.Underrun k)) = ⊥
IsQuiet (Some (ends.Fifo k)) = ⊥
IsQuiet other = Unit {0}

-- an end by a place of the buffer that isn't there
IsMiss : End → Type 0
IsMiss (ends.Overrun k) = Unit {0}
IsMiss (ends.Underrun k) = Unit {0}
IsMiss other = ⊥

loud : (e : End) → IsMiss e → IsQuiet (Some e) → ⊥
unfolding IsMiss IsQuiet
loud ends.Done miss quiet = miss
loud ends.Dry miss quiet = miss
loud (ends.Overrun k) miss quiet = quiet
loud (ends.Underrun k) miss quiet = quiet
loud (ends.Fifo k) miss quiet = miss

quiet_if : (test : Bool) (e : End) → IsQuiet (Some e) → IsQuiet (some_if test e)
unfolding IsQuiet
quiet_if true e h = h
quiet_if false e h = tt

quiet_quiet : (s : Schedule) (time : ℕ) → IsQuiet (quiet_end s time)
unfolding IsQuiet
quiet_quiet s time = by s.complete
  where
    by : (b : Bool) → IsQuiet (cond b (some_if (nat_eq (arrived s time) (length s.conversions) && has_stopped s.edge time) ends.Done) (some_if (nat_eq time s.horizon) ends.Dry))
    by true = quiet_if _ ends.Done tt
    by false = quiet_if _ ends.Dry tt

-- the conversion after those that reach the buffer has come, and is lost on the board
abbrev Lost : Schedule → ℕ → Type 0
Lost s time = length s.arrivals < come time s.conversions

-- where no place of the buffer is missing, either the board has lost a conversion, or there is no loss
lost_or : (s : Schedule) (time : ℕ) → IsTimely s →
    (Lost s time × (lost_end s.lost_at s time ≡ Some (ends.Fifo (length s.arrivals)))) ⊎ ((Lost s time → ⊥) × IsQuiet (lost_end s.lost_at s time))
lost_or s time timely = by s.lost_at refl
  where
    by : (at : Option ℕ) → s.lost_at ≡ at → (Lost s time × (lost_end at s time ≡ Some (ends.Fifo (length s.arrivals)))) ⊎ ((Lost s time → ⊥) × IsQuiet (lost_end at s time))
    by None e = inr (λ lost. absurd (omega (arith, lost, timely.whole e, come-le time s.conversions)), quiet_quiet s time)
    by (Some at) e = elim (cases_lt time at) [
      | inl before ↦
          let none : lost_end (Some at) s time ≡ quiet_end s time = cond-false (nat_le at time) (Some (ends.Fifo (length s.arrivals))) (quiet_end s time) (lt-leb _ _ before) in
          inr (λ lost. absurd (omega (arith, before, (timely.next at e time).1 lost)), subst IsQuiet (sym none) (quiet_quiet s time))
      | inr since ↦ inl ((timely.next at e time).0 since, cond-true (nat_le at time) (Some (ends.Fifo (length s.arrivals))) (quiet_end s time) (le-leb _ _ since))
    ]

-- either a place of the buffer is missing, or none is
missed_or : (s : Schedule) (limit time : ℕ) →
    ((limit < arrived s time) × (end_by s limit time ≡ Some (missed s limit))) ⊎ ((arrived s time ≤ limit) × (end_by s limit time ≡ lost_end s.lost_at s time))
missed_or s limit time = elim (cases_lt limit (arrived s time)) [
  | inl short ↦ inl (short, cond-true (nat_lt limit (arrived s time)) (Some (missed s limit)) (lost_end s.lost_at s time) (lt-ltb limit (arrived s time) short))
  | inr enough ↦ inr (enough, cond-false (nat_lt limit (arrived s time)) (Some (missed s limit)) (lost_end s.lost_at s time) (le-ltb limit (arrived s time) enough))
]

some_is : (a b : End) → ◌≡◌ {A = Option End} (Some a) (Some b) → a ≡ b
some_is a b e = cc

-- an end by a missing place comes just when the conversion of that place has come
miss : (s : Schedule) (limit time : ℕ) (e : End) → IsTimely s → IsMiss e → end_by s limit time ≡ Some e → (limit < arrived s time) × (missed s limit ≡ e)
unfolding IsMiss
miss s limit time e timely is same = elim (missed_or s limit time) [
  | inl m ↦ (m.0, some_is (missed s limit) e (sym m.1 ∙ same))
  | inr m ↦ elim (lost_or s time timely) [
    | inl l ↦ absurd (subst IsMiss (some_is e (ends.Fifo (length s.arrivals)) (sym same ∙ m.1 ∙ l.1)) is)
    | inr q ↦ absurd (loud e is (subst IsQuiet (sym m.1 ∙ same) q.1))
  ]
]

-- what a missing place is called
missed_in : (s : Schedule) (place : ℕ) → is_out s ≡ false → missed s place ≡ ends.Overrun place
missed_in s place inn = cond-false (is_out s) (ends.Underrun place) (ends.Overrun place) inn

missed_out : (s : Schedule) (place : ℕ) → is_out s ≡ true → missed s place ≡ ends.Underrun place
missed_out s place out = cond-true (is_out s) (ends.Underrun place) (ends.Overrun place) out

missed_fifo : (s : Schedule) (place k : ℕ) → missed s place ≡ ends.Fifo k → ⊥
missed_fifo s place k = by (is_out s)
  where
    by : (b : Bool) → cond b (ends.Underrun place) (ends.Overrun place) ≡ ends.Fifo k → ⊥
    by true e = cc
    by false e = cc

-- the end of a command that is brought to a time
below_in : (c : Running) → is_out c.schedule ≡ false → served_below c ≡ c.r + c.schedule.size
below_in c inn = cond-false (is_out c.schedule) c.w (c.r + c.schedule.size) inn

below_out : (c : Running) → is_out c.schedule ≡ true → served_below c ≡ c.w
below_out c out = cond-true (is_out c.schedule) c.w (c.r + c.schedule.size) out

end_is : (time : ℕ) (c : Running) → c.end ≡ None → (brought time c).end ≡ end_by c.schedule (served_below c) time
end_is time c runs = elim (cases_Bool (is_out c.schedule)) [
  | inl out ↦ ap (λ (d : Running). d.end) (moves time c runs ∙ moves-out c time out) ∙ ap (λ n. end_by c.schedule n time) (sym (below_out c out))
  | inr inn ↦ ap (λ (d : Running). d.end) (moves time c runs ∙ moves-in c time inn) ∙ ap (λ n. end_by c.schedule n time) (sym (below_in c inn))
]

comes : (s : Schedule) (limit time : ℕ) → limit < arrived s time → end_by s limit time ≡ Some (missed s limit)
comes s limit time h = cond-true (nat_lt limit (arrived s time)) (Some (missed s limit)) (lost_end s.lost_at s time) (lt-ltb limit (arrived s time) h)

same_over : (n k : ℕ) → ends.Overrun n ≡ ends.Overrun k → n ≡ k
same_over n k e = cc

same_under : (n k : ℕ) → ends.Underrun n ≡ ends.Underrun k → n ≡ k
same_under n k e = cc

same_fifo : (n k : ℕ) → ◌≡◌ {A = Option End} (Some (ends.Fifo n)) (Some (ends.Fifo k)) → n ≡ k
same_fifo n k e = cc

under_over : (n k : ℕ) → ends.Underrun n ≡ ends.Overrun k → ⊥
under_over n k e = cc

quiet_fifo : (k : ℕ) → IsQuiet (Some (ends.Fifo k)) → ⊥
unfolding IsQuiet
quiet_fifo k quiet = quiet

-- a command that runs loses only what comes with no place
loses_only : (time : ℕ) (c : Running) → IsTimely c.schedule → c.end ≡ None → LosesOnly time c
unfolding IsMiss
loses_only time c timely runs = record {
  overrun = λ k. (λ is. over k (sym at ∙ is), λ h. at ∙ overruns k h.0 h.1 h.2);
  underrun = λ k. (λ is. under k (sym at ∙ is), λ h. at ∙ underruns k h.0 h.1 h.2);
  fifo = λ k. (λ is. on_board k (sym at ∙ is), λ h. at ∙ loses_one k h.0.0 h.0.1 h.1);
}
  where
    s : Schedule
    s = c.schedule

    limit : ℕ
    limit = served_below c

    at : (brought time c).end ≡ end_by s limit time
    at = end_is time c runs

    over : (k : ℕ) → end_by s limit time ≡ Some (ends.Overrun k) → (is_out s ≡ false) × (k ≡ c.r + s.size) × (k < arrived s time)
    over k is =
        let m = miss s limit time (ends.Overrun k) timely tt is in
        elim (cases_Bool (is_out s)) [
          | inl out ↦ absurd (under_over limit k (sym (missed_out s limit out) ∙ m.1))
          | inr inn ↦
              let same = same_over limit k (sym (missed_in s limit inn) ∙ m.1) in
              (inn, sym same ∙ below_in c inn, subst (λ n. n < arrived s time) same m.0)
        ]

    overruns : (k : ℕ) → is_out s ≡ false → k ≡ c.r + s.size → k < arrived s time → end_by s limit time ≡ Some (ends.Overrun k)
    overruns k inn place reached =
        let same : limit ≡ k = below_in c inn ∙ sym place in
        comes s limit time (subst (λ n. n < arrived s time) (sym same) reached) ∙ ap Some (missed_in s limit inn ∙ ap ends.Overrun same)

    under : (k : ℕ) → end_by s limit time ≡ Some (ends.Underrun k) → (is_out s ≡ true) × (k ≡ c.w) × (k < arrived s time)
    under k is =
        let m = miss s limit time (ends.Underrun k) timely tt is in
        elim (cases_Bool (is_out s)) [
          | inl out ↦
              let same = same_under limit k (sym (missed_out s limit out) ∙ m.1) in
              (out, sym same ∙ below_out c out, subst (λ n. n < arrived s time) same m.0)
          | inr inn ↦ absurd (under_over k limit (sym m.1 ∙ missed_in s limit inn))
        ]

    underruns : (k : ℕ) → is_out s ≡ true → k ≡ c.w → k < arrived s time → end_by s limit time ≡ Some (ends.Underrun k)
    underruns k out place reached =
        let same : limit ≡ k = below_out c out ∙ sym place in
        comes s limit time (subst (λ n. n < arrived s time) (sym same) reached) ∙ ap Some (missed_out s limit out ∙ ap ends.Underrun same)

    on_board : (k : ℕ) → end_by s limit time ≡ Some (ends.Fifo k) → IsLostOnBoard s time k × (arrived s time ≤ limit)
    on_board k is = elim (missed_or s limit time) [
      | inl m ↦ absurd (missed_fifo s limit k (some_is (missed s limit) (ends.Fifo k) (sym m.1 ∙ is)))
      | inr m ↦ elim (lost_or s time timely) [
        | inl l ↦
            let same = same_fifo (length s.arrivals) k (sym l.1 ∙ sym m.1 ∙ is) in
            ((sym same, subst (λ n. n < come time s.conversions) same l.0), m.0)
        | inr q ↦ absurd (quiet_fifo k (subst IsQuiet (sym m.1 ∙ is) q.1))
      ]
    ]

    loses_one : (k : ℕ) → k ≡ length s.arrivals → k < come time s.conversions → arrived s time ≤ limit → end_by s limit time ≡ Some (ends.Fifo k)
    loses_one k place reached enough = elim (missed_or s limit time) [
      | inl m ↦ absurd (omega (arith, m.0, enough))
      | inr m ↦ elim (lost_or s time timely) [
        | inl l ↦ m.1 ∙ l.1 ∙ ap (λ n. Some (ends.Fifo n)) (sym place)
        | inr q ↦ absurd (q.0 (subst (λ n. n < come time s.conversions) place reached))
      ]
    ]

loses : (wiring : Wiring) (before time : ℕ) (h : History) (running : Option Running) → Keeps wiring before h running → Loses time running
loses wiring before time h None kept = tt
loses wiring before time h (Some c) kept = loses_only time c kept.0.timely

loses_well : (s : Setting) (time : ℕ) (histories : ℕ → History) (state : State) (lines : List SessionLine) → IsSoundState s state → AllKeep s time histories state.devices →
    InOrder s.signals.horizon time lines → LosesWell s state lines
loses_well s time histories state [] sound keep order = tt
loses_well s time histories state (line ∷ rest) sound keep order =
    let well = step-well s time line histories state sound order.0 order.1.0 keep in (
      λ i. loses (wiring_at s i) time line.time (histories i) (device_at state.devices i).running (keep i),
      loses_well s line.time _ (step s line state).state rest (sound-stepped s line state sound) well.kept order.2,
    )

pub loss_law : LossLaw
loss_law job sound =
    loses_well (setting_of job) 0 (λ i. no_history) (at_start (setting_of job)) job.lines (sound-start (setting_of job) sound.subs sound.is.signals) (all-idle (setting_of job)) sound.is.lines
