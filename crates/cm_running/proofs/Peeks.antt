-- The mapped samples of a command, in its ring and in its schedule.
use Rattle.std.proofs.Common.{◌≡◌, ℕ, ◌+◌, ◌-◌, ◌≤◌, Bool, true, false, List, [], length, min, take, drop, Some, refl, sym, ap, ◌∙◌, inl, inr, arith, length-take}
use Rattle.std.proofs.lemmas.Bool.{cases_lt}
use Rattle.std.proofs.lemmas.List.{drop-take, drop_all, take-take, take_all}
use Rattle.cm_running.specs.Reading.{peeked}
use Rattle.cm_running.specs.CommandView.{IsCommand, its_schedule, running_of}
use Rattle.cm_running.specs.Running.{is_out, samples}
use Rattle.cm_running.specs.declared.command.Command.TheInside.{Inside}
use Rattle.cm_running.proofs.Bringing.{take-held}
use Rattle.cm_running.proofs.Commands.{in_step, length-ring, paced}

-- the first of the first
twice : (n k : ℕ) (xs : List ℕ) → take n (take k xs) ≡ take (min n k) xs
twice n k xs = elim (cases_lt k n) [
  | inl fewer ↦ let all : length (take k xs) ≤ n = omega (arith, length-take k xs) in take_all n (take k xs) all ∙ let same : k ≡ min n k = omega arith in ap (λ m. take m xs) same
  | inr enough ↦ let same : n ≡ min n k = omega arith in take-take n k xs enough ∙ ap (λ m. take m xs) same
]

-- a part of the first is one of all
part : (n from k : ℕ) (xs : List ℕ) → take n (drop from (take k xs)) ≡ take (min n (k - from)) (drop from xs)
part n from k xs = elim (cases_lt k from) [
  | inl past ↦
      let all : length (take k xs) ≤ from = omega (arith, length-take k xs) in
      let none : 0 ≡ min n (k - from) = omega arith in
      ap (take n) (drop_all from (take k xs) all) ∙ take_all n [] (omega arith) ∙ ap (λ m. take m (drop from xs)) none
  | inr within ↦
      let there : k ≡ from + (k - from) = omega arith in
      ap (λ i. take n (drop from (take i xs))) there ∙ ap (take n) (drop-take from (k - from) xs) ∙ twice n (k - from) (drop from xs)
]

-- the mapped samples are the first that the ring holds
mapped-first : (c : Inside) → IsCommand c → take (c.ring.ra - c.ring.r) c.ring.held ≡ take (c.ring.ra - c.ring.r) (drop c.ring.r (samples (its_schedule c)))
mapped-first c command = by (is_out (its_schedule c)) refl
  where
    by : (out : Bool) → is_out (its_schedule c) ≡ out → take (c.ring.ra - c.ring.r) c.ring.held ≡ take (c.ring.ra - c.ring.r) (drop c.ring.r (samples (its_schedule c)))
    by true output =
        let none : c.ring.ra - c.ring.r ≡ 0 = omega (arith, (paced c command output).unmapped) in
        ap (λ k. take k c.ring.held) none ∙ sym (ap (λ k. take k (drop c.ring.r (samples (its_schedule c)))) none)
    by false input =
        let step = in_step c command input in
        ap (take (c.ring.ra - c.ring.r)) step.held ∙ take-held (its_schedule c) c.ring.r c.ring.w (c.ring.ra - c.ring.r) (omega (arith, step.r_ra, step.ra_w)) (omega (arith, step.ra_w))

pub peeked-words : (c : Inside) → IsCommand c → (from n count : ℕ) → count ≡ min n (c.ring.ra - c.ring.r - from) → take count (drop from c.ring.held) ≡ peeked from n (Some (running_of c))
peeked-words c command from n count was =
    ap (λ m. take m (drop from c.ring.held)) was
    ∙ sym (part n from (c.ring.ra - c.ring.r) c.ring.held)
    ∙ ap (λ (xs : List ℕ). take n (drop from xs)) (mapped-first c command)

-- and the ring holds them
pub mapped-held : (c : Inside) → IsCommand c → c.ring.ra - c.ring.r ≤ length c.ring.held
mapped-held c command = by (is_out (its_schedule c)) refl
  where
    by : (out : Bool) → is_out (its_schedule c) ≡ out → c.ring.ra - c.ring.r ≤ length c.ring.held
    by true output = omega (arith, (paced c command output).unmapped)
    by false input = let step = in_step c command input in omega (arith, step.ra_w, length-ring c command input)
