-- Conversions of one list entry that are put together.
use Rattle.std.proofs.Common.{◌≡◌, ℕ, zero, suc, ◌+◌, ◌*◌, ◌%◌, ◌<◌, ◌≤◌, List, [], ◌∷◌, ◌++◌, length, map, take, drop, get_or, set, refl, ap, ap₂, sym, ◌∙◌, arith, length-append, length-drop}
use Rattle.std.specs.Prelude.{Ok}
use Rattle.std.proofs.lemmas.List.{length-take-le, take_more_set}
use Rattle.std.proofs.lemmas.Slice.{take-put_mid}
use borrow.Rule.Slice.PartMut.{put_mid}
use Rattle.std.proofs.Math.Seq.{take-add}
use Rattle.cm_sample.specs.Rule.{map_from}
use Rattle.cm_signal.specs.Adding.{progression}
use Rattle.cm_expand.specs.Board.{IsBoard}
use Rattle.cm_expand.specs.TimingView.{timing_text}
use Rattle.cm_expand.specs.Items.{conv_at, items_of, raw_at}
use Rattle.cm_expand.specs.Plan.{PlanText}
use Rattle.cm_expand.specs.Steps.{steps_from}
use Rattle.cm_expand.specs.Train.{IsTrain}
use Rattle.cm_expand.specs.declared.conv.Conv.{Conv}
use Rattle.cm_expand.specs.declared.timing.Timing.{Timing}
use Rattle.cm_expand.specs.declared.timing.TimePoint.{TimePoint}
use Rattle.cm_expand.specs.declared.train.Train.{Train}
use Rattle.cm_expand.proofs.Taken.{left_train}

-- so many steps after a conversion, with another word
abbrev pub step_after : Conv → ℕ → ℕ → ℕ → Conv
step_after first step i word = record first { time = first.time + i * step; place = first.place + i; raw = word }

same_step : (first : Conv) (step word time other_time place other_place : ℕ) → time ≡ other_time → place ≡ other_place →
    let one : Conv = record first { time = time; place = place; raw = word } in one ≡ record first { time = other_time; place = other_place; raw = word }
same_step first step word time other_time place other_place t p = ap₂ (λ n k. let one : Conv = record first { time = n; place = k; raw = word } in one) t p

-- one more word is one more conversion
steps-next : (first : Conv) (step : ℕ) (words : List ℕ) (i : ℕ) → i < length words →
    steps_from first step (take (i + 1) words) ≡ steps_from first step (take i words) ++ step_after first step i (get_or words i 0) ∷ []
steps-next first step [] i within = absurd (omega (arith, within))
steps-next first step (word ∷ words) zero within = ap (λ (c : Conv). c ∷ []) (same_step first step word first.time (first.time + 0 * step) first.place (first.place + 0) (omega arith) (omega arith))
steps-next first step (word ∷ words) (suc i) within =
    let longer : suc i + 1 ≡ suc (i + 1) = omega arith in
    let later : Conv = record first { time = first.time + step; place = suc first.place } in
    let time : first.time + step + i * step ≡ first.time + suc i * step = omega arith in
    let place : suc first.place + i ≡ first.place + suc i = omega arith in
    let one : Conv = record first { raw = word } in
    ap (λ n. steps_from first step (take n (word ∷ words))) longer
    ∙ ap (λ (cs : List Conv). one ∷ cs) (steps-next later step words i (omega (arith, within)))
    ∙ ap (λ (c : Conv). one ∷ (steps_from later step (take i words) ++ c ∷ [])) (same_step first step (get_or words i 0) _ _ _ _ time place)

-- the conversions so far, and one more
pub step_put : (first : Conv) (step : ℕ) (words : List ℕ) (i : ℕ) (convs : List Conv) (conv : Conv) → i < length words → i < length convs →
    take i convs ≡ steps_from first step (take i words) → conv ≡ step_after first step i (get_or words i 0) → take (i + 1) (set convs i conv) ≡ steps_from first step (take (i + 1) words)
step_put first step words i convs conv within room so_far is =
    take_more_set convs i conv room
    ∙ ap₂ (λ (cs : List Conv) (c : Conv). cs ++ c ∷ []) so_far is
    ∙ sym (steps-next first step words i within)

-- they are those of a plan's list entry
pub steps_are : (p : PlanText) (index step n : ℕ) (first : Conv) → first.list_index ≡ index → ((k : ℕ) → k < n → index ≡ (first.place + k) % length p.cmd.list) →
    steps_from first step (map (raw_at p index) (progression first.time step n)) ≡ map_from (conv_at p) first.place (progression first.time step n)
steps_are p index step zero first is entry = refl
steps_are p index step (suc n) first is entry =
    let later : Conv = record first { time = first.time + step; place = suc first.place } in
    let here : first.place + 0 ≡ first.place = omega arith in
    let at : index ≡ first.place % length p.cmd.list = entry 0 (omega arith) ∙ ap (λ k. k % length p.cmd.list) here in
    let one : Conv = record first { raw = raw_at p index first.time } in
    let head : one ≡ conv_at p first.place first.time =
    ap (λ k. let c : Conv = record { time = first.time; place = first.place; list_index = k; raw = raw_at p index first.time } in c) (is ∙ at)
    ∙ ap (λ k. let c : Conv = record { time = first.time; place = first.place; list_index = first.place % length p.cmd.list; raw = raw_at p k first.time } in c) at in
    let others = steps_are p index step n later is (λ k below. entry (suc k) (omega (arith, below)) ∙ ap (λ m. m % length p.cmd.list) (omega arith)) in
    ap₂ (λ (c : Conv) (cs : List Conv). c ∷ cs) head others

-- one conversion alone
pub step_alone : (p : PlanText) (place time step : ℕ) (convs : List Conv) (conv : Conv) → length convs ≡ 1 → conv ≡ conv_at p place time → set convs 0 conv ≡ map_from (conv_at p) place (progression time step (length convs))
step_alone p place time step [] conv one is = absurd (cc)
step_alone p place time step (c ∷ []) conv one is = ap (λ (x : Conv). x ∷ []) is
step_alone p place time step (c ∷ d ∷ convs) conv one is = absurd (cc)

first_of : (f : ℕ → ℕ → Conv) (place first step n : ℕ) (more : List ℕ) → take n (map_from f place (progression first step n ++ more)) ≡ map_from f place (progression first step n)
first_of f place first step zero more = refl
first_of f place first step (suc n) more = ap (λ (cs : List Conv). f place first ∷ cs) (first_of f (suc place) (first + step) step n more)

counted : (f : ℕ → ℕ → Conv) (place first step n : ℕ) (more : List ℕ) → n ≤ length (map_from f place (progression first step n ++ more))
counted f place first step zero more = omega arith
counted f place first step (suc n) more = let rest = counted f (suc place) (first + step) step n more in omega arith

-- the conversions of a train that comes first
pub record IsGivenFirst (p : PlanText) (place : ℕ) (left : List Conv) (s : TimePoint) (t : Train) : Type 0 where
  pub conversions : take t.count left ≡ map_from (conv_at p) place (progression s.time t.step t.count)
  pub come : t.count ≤ length left

pub given_first : (p : PlanText) (place k : ℕ) (c : Timing) (s : TimePoint) (t : Train) → IsBoard p (place + k) (Ok (record { timing = c; point = s })) → IsTrain (timing_text c) s t →
    IsGivenFirst p (place + k) (drop k (drop place (items_of p))) s t
given_first p place k c s t is train =
    let left = left_train p place k c s t is train in
    let many = counted (conv_at p) (place + k) s.time t.step t.count left.more in
    let same = ap (length {A = Conv}) left.is in
    record {
      conversions = ap (take t.count) left.is ∙ first_of (conv_at p) (place + k) s.time t.step t.count left.more;
      come = omega arith;
    }

-- the conversions so far, and then those of a train
pub convs_and_more : (p : PlanText) (place at k n : ℕ) (s : TimePoint) (t : Train) (out convs : List Conv) → at ≤ length out → length convs ≡ t.count → n ≡ at + t.count →
    take at out ≡ take at (drop place (items_of p)) → convs ≡ map_from (conv_at p) (place + at) (progression s.time t.step t.count) → IsGivenFirst p (place + at) (drop at (drop place (items_of p))) s t →
    take n (put_mid at k out convs) ≡ take n (drop place (items_of p))
convs_and_more p place at k n s t out convs within many all so_far these first =
    take-put_mid at k out convs n (omega (arith, all, many)) within
    ∙ ap₂ (λ (cs ds : List Conv). cs ++ ds) so_far (these ∙ sym first.conversions)
    ∙ sym (ap (λ m. take m left) all ∙ take-add at t.count left)
  where
    left : List Conv
    left = drop place (items_of p)

-- conversions that are put in the middle of others leave as many
pub convs_middle : (at n : ℕ) (out convs : List Conv) → at + n ≤ length out → length convs ≡ n → length (put_mid at n out convs) ≡ length out
convs_middle at n out convs within many =
    omega (arith, length-append (take at out) (convs ++ drop n (drop at out)), length-append convs (drop n (drop at out)), length-take-le at out (omega arith), length-drop n (drop at out), length-drop at out)
