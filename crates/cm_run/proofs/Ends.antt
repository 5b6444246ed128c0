-- The block of a `go` line whose reader found an end is one that the line may have.
use Rattle.std.proofs.Common.{◌≡◌, ◌⊎◌, inl, inr, ℕ, ◌<◌, ◌≤◌, Bool, true, false, ltb, cond, List, refl, sym, ap, subst, ◌∙◌, arith, Option, Some, None}
use Rattle.std.proofs.lemmas.Bool.{cases_lt, lt-ltb, le-ltb, true≢false}
use Rattle.cm_ring_core.specs.declared.view.EndKind.{EndKind}
use Rattle.cm_ring_core.specs.declared.view.EndKind.TheVariants.{Done, Overrun, Cancelled}
use Rattle.cm_ring_core.specs.declared.view.RingConstants.{RingConstants}
use Rattle.cm_ring_core.specs.declared.view.ReaderPart.{ReaderPart}
use Rattle.cm_ring_core.specs.Lawful.{IsFoundEnd}
use Rattle.cm_ring.specs.Roles.{Reading}
use Rattle.cm_base.specs.UpTo.{up_to}
use Rattle.cm_client.specs.Progress.{IsTaken}
use Rattle.cm_expand.specs.Plan.{PlanText}
use Rattle.cm_job.specs.declared.line.Mode.{Mode}
use Rattle.cm_job.specs.declared.line.Mode.TheVariants.{Paced, Free}
use Rattle.cm_expand.specs.Totals.{length_of}
use Rattle.cm_text.specs.Blocks.{block, ending, take_count, cut_tail, paced_block, HasOverrun}
use Rattle.cm_block.specs.RunText.{IsGoBlock}
use Rattle.cm_run.specs.Ran.{GoRan}
use Rattle.cm_client.specs.LineRing.{ring_of}
use Rattle.cm_job.specs.Modes.{is_paced}
use Rattle.cm_text.specs.Ends.{tail_after}
use Rattle.cm_text.proofs.Counts.{length-samples}
use Rattle.cm_text.specs.declared.tail.Tail.{Tail}
use Rattle.cm_text.specs.declared.tail.Tail.TheVariants as tails

tails_done : (p : PlanText) (most : Option ℕ) (count : ℕ) → tail_after p most Done count ≡ cut_tail p most
tails_done p None count = refl
tails_done p (Some m) count = refl

tails_cancelled : (p : PlanText) (most : Option ℕ) (count : ℕ) → tail_after p most Cancelled count ≡ cut_tail p most
tails_cancelled p None count = refl
tails_cancelled p (Some m) count = refl

count_cancelled : (most : Option ℕ) (count len : ℕ) → IsTaken most count → up_to count most ≤ len → up_to count most ≡ up_to len most
count_cancelled None count len taken within = absurd taken
count_cancelled (Some m) count len taken within = omega arith

-- an overrun stands before the number to take, or it doesn't show
Shows : PlanText → Option ℕ → ℕ → Type 0
Shows p most count = (up_to count most ≡ count) × (tail_after p most Overrun count ≡ tails.Overrun count) × (count < take_count p most)

Hides : PlanText → Option ℕ → ℕ → Type 0
Hides p most count = (up_to count most ≡ take_count p most) × (tail_after p most Overrun count ≡ cut_tail p most)

same_tail : (b c : Bool) (x y : Tail) → c ≡ true → cond b (cond c x y) x ≡ x
same_tail true c x y is = ap (λ (d : Bool). cond d x y) is
same_tail false c x y is = refl

overran : (p : PlanText) (most : Option ℕ) (count : ℕ) → count < length_of p → Hides p most count ⊎ Shows p most count
unfolding Shows Hides
overran p None count short = inr (refl, refl, short)
overran p (Some m) count short = elim (cases_lt count m) [
  | inl below ↦ inr (omega arith, same_tail (ltb m (length_of p)) (ltb count m) (tails.Overrun count) (tails.Taken m) (lt-ltb count m below), omega arith)
  | inr above ↦ inl (
    omega arith,
    ap (λ (b : Bool). cond b (cond (ltb count m) (tails.Overrun count) (tails.Taken m)) (tails.Overrun count)) (lt-ltb m (length_of p) (omega arith))
        ∙ ap (λ (b : Bool). cond b (tails.Overrun count) (tails.Taken m)) (le-ltb count m above)
        ∙ sym (ap (λ (b : Bool). cond b (tails.Taken m) (ending p)) (lt-ltb m (length_of p) (omega arith))),
  )
]

-- the block of an end that was found is a paced one, or has overrun where the line is free
ended : (p : PlanText) (mode : Mode) (most : Option ℕ) (r : ReaderPart) (kind : EndKind) (count : ℕ) → IsFoundEnd (ring_of p (is_paced mode)) r kind count → (kind ≡ Cancelled → IsTaken most count) → up_to count most ≤ length_of p
    → (block p (up_to count most) (tail_after p most kind count) ≡ paced_block p most) ⊎ ((is_paced mode ≡ false) × HasOverrun p most (block p (up_to count most) (tail_after p most kind count)))
unfolding Shows Hides
ended p mode most r Done count says cancelled within = inl (ap (λ (n : ℕ). block p (up_to n most) (tail_after p most Done count)) (says ∙ length-samples p) ∙ ap (λ (t : Tail). block p (take_count p most) t) (tails_done p most count))
ended p mode most r Cancelled count says cancelled within = inl (ap (λ (n : ℕ). block p n (tail_after p most Cancelled count)) (count_cancelled most count (length_of p) (cancelled refl) within) ∙ ap (λ (t : Tail). block p (take_count p most) t) (tails_cancelled p most count))
ended p mode most r Overrun count says cancelled within = let all = length-samples p in let fewer = says.1 in elim (overran p most count (omega arith)) [
  | inl hides ↦ inl (ap (λ (n : ℕ). block p n (tail_after p most Overrun count)) hides.0 ∙ ap (λ (t : Tail). block p (take_count p most) t) hides.1)
  | inr shows ↦ inr (
    says.3,
    record {
      k = count;
      full = says.0;
      short = shows.2;
      is = ap (λ (n : ℕ). block p n (tail_after p most Overrun count)) shows.0 ∙ ap (λ (t : Tail). block p count t) shows.1;
    },
  )
]

by_mode : (mode : Mode) (p : PlanText) (most : Option ℕ) (text : List ℕ) → (text ≡ paced_block p most) ⊎ ((is_paced mode ≡ false) × HasOverrun p most text) → IsGoBlock mode p most text
by_mode Paced p most text (inl is) = is
by_mode Paced p most text (inr free) = absurd (true≢false free.0)
by_mode Free p most text (inl is) = inl is
by_mode Free p most text (inr free) = inr free.1

pub go_fits : (p : PlanText) (mode : Mode) (most : Option ℕ) (text : List ℕ) (r : Reading) → GoRan p mode most text r → IsGoBlock mode p most text
go_fits p mode most text r ran =
    let s = ran.streamed in
    let n : ℕ = up_to ran.end.count most in
    let same : text ≡ block p n (tail_after p most ran.end.kind ran.end.count) = ran.is ∙ ap (λ (k : ℕ). block p k (tail_after p most ran.end.kind ran.end.count)) s.released in
    let says : IsFoundEnd (ring_of p (is_paced mode)) r.part ran.end.kind ran.end.count = subst (λ (x : RingConstants). IsFoundEnd x r.part ran.end.kind ran.end.count) s.of s.says in
    let all = length-samples p in let within = s.within in
    let P : List ℕ → Type 0 = λ t. (t ≡ paced_block p most) ⊎ ((is_paced mode ≡ false) × HasOverrun p most t) in
    by_mode mode p most text (subst P (sym same) (ended p mode most r.part ran.end.kind ran.end.count says s.cancelled (omega arith)))
