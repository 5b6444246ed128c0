-- The items of a loop's filter, entry by entry.
use Rattle.std.proofs.Common.{◌≡◌, ℕ, zero, suc, ◌+◌, ◌%◌, ◌<◌, ◌≤◌, List, [], ◌∷◌, ◌++◌, length, take, get_or, refl, sym, ap, ◌∙◌, subst, Some, arith}
use Rattle.std.specs.Prelude.{slice_get, slice_index}
use Rattle.std.proofs.lemmas.List.{take_more, length-take-le}
use Rattle.std.proofs.lemmas.Option.{slice_get_within}
use Rattle.cm_board.specs.Board.{SubText, IsSoundSub, maxdata_of}
use Rattle.cm_board.proofs.ChannelNumbers.{channel}
use Rattle.cm_cmd.specs.Entry.{chan}
use Rattle.cm_expand.specs.Fit.{IsExpansion, IsFit}
use Rattle.cm_expand.specs.Plan.{PlanText}
use Rattle.cm_loop.specs.Filter.{filter_text, IsFilter, IsItem, AreWithin}
use Rattle.cm_loop.specs.declared.rule.LoopItem.{LoopItem}
use Rattle.cm_job.specs.LoopJob.{LoopJobText, IsLoopJob, input_of, output_of}
use Rattle.cm_text.specs.Blocks.{munged_samples}
use Rattle.cm_text.proofs.Counts.{length-munged}
use Rattle.cm_text.proofs.Codes.{sample_from}
use Rattle.cm_loop.specs.LoopText.{item_of, items_of, filter_of}

-- the entries of a plan's list have channels of its subdevice
pub have_channels : (p : PlanText) (list : List ℕ) (sub : SubText) → IsFit p → list ≡ p.cmd.list → sub ≡ p.sub →
    (i : ℕ) → i < length list → chan (slice_index list i) < sub.channels
have_channels p list sub fits l s =
    subst (λ (sub : SubText). (i : ℕ) → i < length list → chan (slice_index list i) < sub.channels) (sym s)
    (subst (λ (list : List ℕ). (i : ℕ) → i < length list → chan (slice_index list i) < p.sub.channels) (sym l) fits.channels)

module _ (input output : SubText) where
  pub length-items : (froms tos : List ℕ) → length froms ≡ length tos → length (items_of input output froms tos) ≡ length froms
  length-items [] tos e = refl
  length-items (from ∷ froms) [] e = absurd (omega arith)
  length-items (from ∷ froms) (to ∷ tos) e = let rest = length-items froms tos (omega arith) in omega arith

  -- the items of lists that are put together
  items_append : (xs ys us vs : List ℕ) → length xs ≡ length us → items_of input output (xs ++ ys) (us ++ vs) ≡ items_of input output xs us ++ items_of input output ys vs
  items_append [] ys [] vs e = refl
  items_append [] ys (u ∷ us) vs e = absurd (omega arith)
  items_append (x ∷ xs) ys [] vs e = absurd (omega arith)
  items_append (x ∷ xs) ys (u ∷ us) vs e = ap (λ (l : List LoopItem). item_of input output x u ∷ l) (items_append xs ys us vs (omega arith))

  -- one entry of each list more
  pub items_snoc : (froms tos : List ℕ) (i : ℕ) → i < length froms → i < length tos →
      items_of input output (take (i + 1) froms) (take (i + 1) tos) ≡ items_of input output (take i froms) (take i tos) ++ item_of input output (get_or froms i 0) (get_or tos i 0) ∷ []
  items_snoc froms tos i f t =
      let a = length-take-le i froms (omega arith) in let b = length-take-le i tos (omega arith) in
      ap (λ (l : List ℕ). items_of input output l (take (i + 1) tos)) (take_more froms i 0 f)
      ∙ ap (λ (l : List ℕ). items_of input output (take i froms ++ get_or froms i 0 ∷ []) l) (take_more tos i 0 t)
      ∙ items_append (take i froms) (get_or froms i 0 ∷ []) (take i tos) (get_or tos i 0 ∷ []) (omega arith)

  -- the item of a place is that of the entries there
  pub item_at : (froms tos : List ℕ) (i : ℕ) (item : LoopItem) → slice_get (items_of input output froms tos) i ≡ Some item → item ≡ item_of input output (get_or froms i 0) (get_or tos i 0)
  item_at [] tos i item e = cc
  item_at (from ∷ froms) [] i item e = cc
  item_at (from ∷ froms) (to ∷ tos) zero item e = cc
  item_at (from ∷ froms) (to ∷ tos) (suc i) item e = item_at froms tos i item e

  -- the items of entries with channels, and a window, make a filter
  pub is_filter : (froms tos : List ℕ) (window : ℕ) → IsSoundSub input → IsSoundSub output → length froms ≡ length tos → 1 ≤ length froms
      → ((i : ℕ) → i < length froms → chan (get_or froms i 0) < input.channels) → ((i : ℕ) → i < length tos → chan (get_or tos i 0) < output.channels)
      → (1 ≤ window) × (window ≤ 16) → IsFilter (filter_text (items_of input output froms tos) window)
  is_filter froms tos window in_sound out_sound same some in_channels out_channels is_window =
      let count = length-items froms tos same in
      record {
        some = omega arith;
        items = λ i item at.
            let within = slice_get_within (items_of input output froms tos) i item at in
            let x = (channel input (chan (get_or froms i 0)) in_sound (in_channels i (omega arith))).largest in
            let y = (channel output (chan (get_or tos i 0)) out_sound (out_channels i (omega arith))).largest in
            let x_low = x.low in let x_high = x.high in let y_low = y.low in let y_high = y.high in
            subst IsItem (sym (item_at froms tos i item at)) (x.low, omega arith, y.low, omega arith);
        window = is_window;
      }

-- each entry of a plan's list has a channel
pub channels_at : (p : PlanText) (sub : SubText) (list : List ℕ) → IsFit p → sub ≡ p.sub → list ≡ p.cmd.list → (i : ℕ) → i < length list → chan (get_or list i 0) < sub.channels
channels_at p sub list fits sub_is list_is i below =
    let count = ap (length {A = ℕ}) list_is in
    let has : chan (get_or p.cmd.list i 0) < p.sub.channels = fits.channels i (omega arith) in
    subst (λ (l : List ℕ). chan (get_or l i 0) < sub.channels) (sym list_is) (subst (λ (s : SubText). chan (get_or p.cmd.list i 0) < s.channels) (sym sub_is) has)

-- the filter of two plans' lists
module _ (p q : PlanText) (a b : SubText) (froms tos : List ℕ) (items : List LoopItem) (window : ℕ) (a_is : a ≡ p.sub) (b_is : b ≡ q.sub) (froms_are : froms ≡ p.cmd.list) (tos_are : tos ≡ q.cmd.list) (made : items ≡ items_of a b froms tos) where
  pub filter_made : IsFit p → IsFit q → IsSoundSub a → IsSoundSub b → length froms ≡ length tos → (1 ≤ window) × (window ≤ 16) → IsFilter (filter_text items window)
  filter_made p_fits q_fits a_sound b_sound same is_window =
      let count = ap (length {A = ℕ}) froms_are in
      let some = p_fits.some in
      subst (λ (l : List LoopItem). IsFilter (filter_text l window)) (sym made)
      (is_filter a b froms tos window a_sound b_sound same (omega arith) (channels_at p a froms p_fits a_is froms_are) (channels_at q b tos q_fits b_is tos_are) is_window)

  pub filter_is : (job : LoopJobText) → p ≡ input_of job → q ≡ output_of job → window ≡ job.window → filter_text items window ≡ filter_of job
  filter_is job p_is q_is window_is =
      let x = a_is ∙ ap (λ (t : PlanText). t.sub) p_is in
      let y = b_is ∙ ap (λ (t : PlanText). t.sub) q_is in
      let f = froms_are ∙ ap (λ (t : PlanText). t.cmd.list) p_is in
      let t = tos_are ∙ ap (λ (t : PlanText). t.cmd.list) q_is in
      ap (λ (l : List LoopItem). filter_text l window) made ∙ λ i. filter_text (items_of (x i) (y i) (f i) (t i)) (window_is i)

-- no munged sample of the input is above its entry's greatest code
pub are_within : (job : LoopJobText) → IsLoopJob job → IsExpansion (input_of job) → 1 ≤ length job.input.list → AreWithin (filter_of job) (munged_samples (input_of job))
are_within job is expansion some k item below at =
    let p : PlanText = input_of job in
    let many = length-munged p in
    let a : SubText = p.sub in let b : SubText = (output_of job).sub in
    let list : List ℕ = job.input.list in
    let count = length-items a b list job.output.list is.lists in
    let n : ℕ = length (filter_of job).items in
    let same = item_at a b list job.output.list (k % n) item at in
    let code = sample_from p expansion some is.input.call.directed k (omega arith) is.input.munged in
    let greatest : maxdata_of a (chan (get_or list (k % length list) 0)) ≡ item.in_max = ap (λ (m : ℕ). maxdata_of a (chan (get_or list (k % m) 0))) (sym count) ∙ sym (ap (λ (x : LoopItem). x.in_max) same) in
    subst (λ (m : ℕ). get_or (munged_samples p) k 0 ≤ m) greatest code
