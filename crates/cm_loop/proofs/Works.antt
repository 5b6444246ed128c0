-- The filter over the first samples of a list.
use Rattle.std.proofs.Common.{◌≡◌, ℕ, ◌+◌, ◌%◌, ◌<◌, ◌≤◌, List, [], ◌∷◌, ◌++◌, length, take, get_or, sym, ap, ◌∙◌, subst, Option, Some, None, arith}
use Rattle.std.specs.Prelude.{slice_get, slice_index}
use Rattle.std.proofs.lemmas.List.{take_more, length-take-le}
use Rattle.cm_ring.specs.Roles.{Writing}
use Rattle.cm_loop.specs.declared.rule.LoopItem.{LoopItem}
use Rattle.cm_loop.specs.Filter.{FilterText, AreWithin, filtered, all_filtered}
use Rattle.cm_loop.specs.State.{StateText, StandsFor, IsNext}
use Rattle.cm_loop.specs.Work.{HasLooked, IsWaiting}
use Rattle.cm_loop.proofs.Outputs.{length_all_filtered, output_there, filtered_first}

-- the next sample of a list, given to a state that stands for those before it
module _ (rule : FilterText) (x : List ℕ) (k : ℕ) (more : k < length x) (was : StateText) (same : was.rule ≡ rule) (stands : StandsFor was (take k x)) (word : ℕ) (is_word : word ≡ get_or x k 0) where
  place : length (take k x) ≡ k
  place = length-take-le k x (omega arith)

  -- it fits its item
  pub fits_item : AreWithin rule x → (item : LoopItem) → slice_get was.rule.items (was.count % length was.rule.items) ≡ Some item → word ≤ item.in_max
  fits_item within item at =
      let count : was.count ≡ k = stands.count ∙ place in
      let le = within k item more (ap (λ (r : FilterText). slice_get r.items (k % length r.items)) (sym same) ∙ (ap (λ (j : ℕ). slice_get was.rule.items (j % length was.rule.items)) (sym count) ∙ at)) in omega arith

  longer : take k x ++ word ∷ [] ≡ take (k + 1) x
  longer = ap (λ (v : ℕ). take k x ++ v ∷ []) is_word ∙ sym (take_more x k 0 more)

  module _ (is : StateText) (output : ℕ) (next : IsNext word output was is (take k x)) where
    -- the output is the filter's over the whole list
    pub output_is : output ≡ filtered rule x k
    output_is =
        next.output_is ∙ (ap (λ (r : FilterText). filtered r (take k x ++ word ∷ []) (length (take k x))) same
        ∙ (ap (λ (l : List ℕ). filtered rule l (length (take k x))) longer ∙ (ap (filtered rule (take (k + 1) x)) place ∙ filtered_first rule x k (k + 1) (omega arith))))

    pub stands_after : StandsFor is (take (k + 1) x)
    stands_after = subst (λ (l : List ℕ). StandsFor is l) longer next.stands

-- an output is the next sample of its plan
pub put_there : (rule : FilterText) (x samples : List ℕ) (put at word : ℕ) → samples ≡ all_filtered rule x → at < length x → put ≡ at → word ≡ filtered rule x at → (put < length samples) × (slice_index samples put ≡ word)
put_there rule x samples put at word plan low here is =
    let all = length_all_filtered rule x in let size = ap (length {A = ℕ}) plan in
    (omega arith, ap (λ (k : ℕ). slice_index samples k) here ∙ (ap (λ (l : List ℕ). get_or l at 0) plan ∙ (output_there rule x at low ∙ sym is)))

-- and so is one that waits for room
pub waiting_there : (rule : FilterText) (x samples : List ℕ) (next put taken word : ℕ) (waiting : Option ℕ) → samples ≡ all_filtered rule x → taken ≤ length x → waiting ≡ Some word → IsWaiting waiting put taken rule x → next ≡ put
    → (next < length samples) × (slice_index samples next ≡ word)
waiting_there rule x samples next put taken word waiting plan within is waits here =
    let w : IsWaiting (Some word) put taken rule x = subst (λ (o : Option ℕ). IsWaiting o put taken rule x) is waits in
    let one = w.0 in put_there rule x samples next put word plan (omega arith) here w.1

-- where all samples were taken and no output waits, all were put
pub all_put : (rule : FilterText) (x samples : List ℕ) (written put taken : ℕ) (waiting : Option ℕ) → samples ≡ all_filtered rule x → taken ≡ length x → waiting ≡ None → IsWaiting waiting put taken rule x → written ≡ put → written ≡ length samples
all_put rule x samples written put taken waiting plan all is waits here =
    let w : IsWaiting None put taken rule x = subst (λ (o : Option ℕ). IsWaiting o put taken rule x) is waits in
    let size : length samples ≡ length (all_filtered rule x) = ap (length {A = ℕ}) plan in here ∙ (w ∙ (all ∙ (sym (length_all_filtered rule x) ∙ sym size)))

-- looks after which there were others
pub looked_on : (a b c : Writing) (waiting : Option ℕ) → HasLooked a b None → HasLooked b c waiting → HasLooked a c waiting
looked_on a b c waiting first then = record {
  looks = omega (arith, first.looks, then.looks);
  stop_looks = then.stop_looks ∙ first.stop_looks;
  saw_stop = then.saw_stop ∙ first.saw_stop;
}
