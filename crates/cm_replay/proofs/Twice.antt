-- A command that is brought to a time twice.
use Rattle.std.proofs.Common.{◌≡◌, ℕ, ◌-◌, true, false, [], drop, take, refl, sym, ap, ◌∙◌, inl, inr, arith, Option, Some, None}
use Rattle.std.proofs.lemmas.Bool.{cases_Bool, cond-true, cond-false}
use Rattle.cm_replay.specs.Law.{BringingLaw, NothingIsLeft}
use Rattle.cm_running.specs.Running.{Running, brought, collected, due, is_out, moved_on, outputs, put_by, put_out}
use Rattle.cm_text.specs.declared.end.End.{End}
use Rattle.cm_replay.proofs.Laws.{moves, moves-in, moves-out, stays}

-- nothing is between a place and itself
no-more : (place : ℕ) → place - place ≡ 0
no-more place = omega arith

-- an output puts out no more words
put-twice : (c : Running) (time : ℕ) → put_out (put_out c time) time ≡ put_out c time
put-twice c time = ap (λ n. record (put_out c time) { words = drop n (drop (put_by c time - c.r) c.words) }) (no-more (put_by c time))

moved-twice : (c : Running) (time : ℕ) → moved_on (moved_on c time) time ≡ moved_on c time
moved-twice c time = elim (cases_Bool (is_out c.schedule)) [
  | inl out ↦ ap (λ d. moved_on d time) (moves-out c time out) ∙ (moves-out (put_out c time) time out ∙ put-twice c time) ∙ sym (moves-out c time out)
  | inr input ↦ ap (λ d. moved_on d time) (moves-in c time input) ∙ moves-in (collected c time) time input ∙ sym (moves-in c time input)
]

-- a command that doesn't move stays, whether it has ended or not
unmoved : (time : ℕ) (c : Running) → moved_on c time ≡ c → brought time c ≡ c
unmoved time c same = by c.end refl
  where
    by : (e : Option End) → c.end ≡ e → brought time c ≡ c
    by None runs = moves time c runs ∙ same
    by (Some e) ended = stays time c e ended

pub bringing_law : BringingLaw
bringing_law time c = by c.end refl
  where
    by : (e : Option End) → c.end ≡ e → brought time (brought time c) ≡ brought time c
    by None runs = ap (brought time) (moves time c runs) ∙ unmoved time (moved_on c time) (moved-twice c time) ∙ sym (moves time c runs)
    by (Some e) ended = ap (brought time) (stays time c e ended)

-- nothing is put out of a command whose output stands where it would be put
none-due : (sub time : ℕ) (c : Running) → (is_out c.schedule ≡ true → put_by c time - c.r ≡ 0) → due sub time c ≡ []
none-due sub time c stands = by c.end refl
  where
    by : (e : Option End) → c.end ≡ e → due sub time c ≡ []
    by (Some e) ended = rw ended refl
    by None runs = elim (cases_Bool (is_out c.schedule)) [
      | inl out ↦ rw runs (cond-true (is_out c.schedule) _ [] out) ∙ ap (λ n. outputs sub (take n (drop c.r c.schedule.arrivals)) c.words) (stands out)
      | inr input ↦ rw runs (cond-false (is_out c.schedule) _ [] input)
    ]

pub nothing_is_left : NothingIsLeft
nothing_is_left sub time c = by c.end refl
  where
    by : (e : Option End) → c.end ≡ e → due sub time (brought time c) ≡ []
    by (Some e) ended = ap (due sub time) (stays time c e ended) ∙ rw ended refl
    by None runs = elim (cases_Bool (is_out c.schedule)) [
      | inl out ↦ ap (due sub time) (moves time c runs ∙ moves-out c time out) ∙ none-due sub time (put_out c time) (λ _. no-more (put_by c time))
      | inr input ↦ ap (due sub time) (moves time c runs ∙ moves-in c time input) ∙ none-due sub time (collected c time) (λ out. absurd (let e : true ≡ false = sym out ∙ input in cc))
    ]
