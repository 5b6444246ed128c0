-- A sample more in a state.
use Rattle.std.proofs.Common.{◌≡◌, ◌≢◌, ℕ, ◌+◌, ◌-◌, ◌/◌, ◌%◌, ◌<◌, ◌≤◌, Bool, true, false, cond, List, [], ◌∷◌, ◌++◌, length, map, take, get_or, sum, refl, sym, ap, ◌∙◌, subst, Option, Some, arith, length-append, length-set}
use Rattle.std.specs.Prelude.{slice_get, nat_eq}
use Rattle.std.specs.Option.{option_map}
use mathlib.Core.Logic.{dite}
use native.Mathlib.Decide.{ℕ_discrete}
use Rattle.std.proofs.Math.Nat.{mod-add-mod, mod-lt, zero-mod}
use Rattle.std.proofs.Math.Seq.{map-set_same}
use Rattle.std.proofs.lemmas.Bool.{ne_eqb, eq-eqb}
use Rattle.std.proofs.lemmas.List.{append-nil, take_all, drop_all, length-map}
use Rattle.std.proofs.lemmas.Option.{slice_get-map, slice_get_within, slice_get-get_or, get_or_from_slice_get}
use Rattle.circular_buffer.specs.Buffer.{keep_last}
use Rattle.circular_buffer.proofs.Places.{slice_get-set_same, slice_get-set_other}
use Rattle.cm_loop.specs.declared.rule.LoopItem.{LoopItem}
use Rattle.cm_loop.specs.Entry.{EntryText, entry_text, pushed}
use Rattle.cm_loop.specs.Filter.{FilterText, filter_text, IsFilter, every_nth_back, mean, scaled, scaled_if}
use Rattle.cm_loop.specs.State.{StateText, StandsFor, state_text, filter_of, IsState, NextOutput, IsNext, words_of_entry}
use Rattle.cm_loop.proofs.Means.{SameMean, same_mean, words-push, keep-on}

same_some : {A : Type 0} (a b : A) → Some a ≡ Some b → a ≡ b
same_some a b e = cc

-- the words of the entry of which the new sample is one, and of another
words_mine : (n i : ℕ) (x : List ℕ) (w : ℕ) → i ≡ length x % n → words_of_entry n i 0 (x ++ w ∷ []) ≡ words_of_entry n i 0 x ++ w ∷ []
words_mine n i x w e =
    let yes : nat_eq ((0 + length x) % n) i ≡ true = eq-eqb _ _ (ap (λ (p : ℕ). p % n) (let f : 0 + length x ≡ length x = omega arith in f) ∙ sym e) in
    words-push n i 0 x w ∙ ap (λ (b : Bool). words_of_entry n i 0 x ++ cond b (w ∷ []) []) yes

words_other : (n i : ℕ) (x : List ℕ) (w : ℕ) → i ≢ length x % n → words_of_entry n i 0 (x ++ w ∷ []) ≡ words_of_entry n i 0 x
words_other n i x w ne =
    let not : nat_eq ((0 + length x) % n) i ≡ false = ne_eqb _ _ (λ e. ne (sym e ∙ ap (λ (p : ℕ). p % n) (let f : 0 + length x ≡ length x = omega arith in f))) in
    words-push n i 0 x w ∙ (ap (λ (b : Bool). words_of_entry n i 0 x ++ cond b (w ∷ []) []) not ∙ append-nil (words_of_entry n i 0 x))

-- the filter's mean at the last place is that of the last words of its entry
mean_here : (n window : ℕ) (x : List ℕ) (w : ℕ) → 1 ≤ n → mean (every_nth_back (x ++ w ∷ []) n window (length x)) ≡ mean (keep_last window (words_of_entry n (length x % n) 0 (x ++ w ∷ [])))
mean_here n window x w some =
    let y : List ℕ = x ++ w ∷ [] in
    let len : length y ≡ length x + 1 = length-append x (w ∷ []) in
    let all : take (length x + 1) y ≡ y = take_all (length x + 1) y (omega arith) in
    let same : SameMean n some (every_nth_back y n window (length x)) (keep_last window (words_of_entry n (length x % n) 0 (take (length x + 1) y))) = same_mean n some window y (length x) (omega arith) in
    ap (λ (t : ℕ). t / length (every_nth_back y n window (length x))) same.total
    ∙ (ap (λ (l : ℕ). sum (keep_last window (words_of_entry n (length x % n) 0 (take (length x + 1) y))) / l) same.count
    ∙ ap (λ (l : List ℕ). mean (keep_last window (words_of_entry n (length x % n) 0 l))) all)

module _ (old new : List EntryText) (window at count : ℕ) (ok : IsState old window at count) where
  -- the number of the next entry, as the filter has it
  at_item : at ≡ count % length (filter_of old window).items
  at_item = ok.at_is ∙ ap (λ (n : ℕ). count % n) (sym (length-map old (λ (e : EntryText). e.item)))

  item_at : (i : ℕ) (e : EntryText) → slice_get old i ≡ Some e → slice_get (filter_of old window).items i ≡ Some e.item
  item_at i e got = slice_get-map (λ (x : EntryText). x.item) old i ∙ ap (option_map (λ (x : EntryText). x.item)) got

  pub at_within : at < length old
  at_within = let some = ok.rule_is.some in let len = length-map old (λ (e : EntryText). e.item) in let is = ok.at_is in let low = mod-lt count {m = length old} (omega arith) in omega arith

  -- the sample fits the entry where it fits the filter's item
  pub word_fits : (word : ℕ) (s : StateText) → state_text old window count ≡ s → ((item : LoopItem) → slice_get s.rule.items (s.count % length s.rule.items) ≡ Some item → word ≤ item.in_max)
      → (e : EntryText) → slice_get old at ≡ Some e → word ≤ e.item.in_max
  word_fits word s is fits e got =
      let P : StateText → Type 0 = λ t. (item : LoopItem) → slice_get t.rule.items (t.count % length t.rule.items) ≡ Some item → word ≤ item.in_max in
      let h : P (state_text old window count) = subst P (sym is) fits in h e.item (ap (slice_get (filter_of old window).items) (sym at_item) ∙ item_at at e got)

  module _ (word output : ℕ) (next : NextOutput at word output old new) where
    after : EntryText
    after = pushed next.before word

    here : slice_get new at ≡ Some after
    unfolding after
    here = ap (λ (l : List EntryText). slice_get l at) next.has ∙ slice_get-set_same old at _ (slice_get_within old at next.before next.had)

    there : (j : ℕ) → j ≢ at → slice_get new j ≡ slice_get old j
    there j ne = ap (λ (l : List EntryText). slice_get l j) next.has ∙ slice_get-set_other old at j _ ne

    as_many : length new ≡ length old
    as_many = ap (length {A = EntryText}) next.has ∙ length-set old at _

    -- the filter stays
    pub filter_kept : filter_of new window ≡ filter_of old window
    filter_kept =
        let before : next.before.item ≡ (get_or old at next.before).item = ap (λ (e : EntryText). e.item) (sym (get_or_from_slice_get old at next.before next.before next.had)) in
        ap (λ (l : List LoopItem). filter_text l window) (ap (map (λ (e : EntryText). e.item)) next.has ∙ map-set_same (λ (e : EntryText). e.item) old at (pushed next.before word) next.before before)

    pub state_ok : (at' count' : ℕ) → at' ≡ (at + 1) % length new → count' ≡ count + 1 → IsState new window at' count'
    unfolding after
    state_ok at' count' next_at more = record {
      rule_is = subst IsFilter (sym filter_kept) ok.rule_is;
      each = λ j e got. dite (ℕ_discrete j at)
          (λ (same : j ≡ at). let f : e ≡ after = same_some _ _ (sym got ∙ (ap (slice_get new) same ∙ here)) in ap (λ (x : EntryText). x.window) f ∙ ok.each at next.before next.had)
          (λ (ne : j ≢ at). ok.each j e (sym (there j ne) ∙ got));
      at_is = next_at ∙ (ap (λ (n : ℕ). (at + 1) % n) as_many ∙ (ap (λ (k : ℕ). (k + 1) % length old) ok.at_is ∙ (mod-add-mod count (length old) 1 ∙ (ap (λ (k : ℕ). k % length old) (sym more) ∙ ap (λ (n : ℕ). count' % n) (sym as_many)))));
    }

    stands_here : (count' : ℕ) → count' ≡ count + 1 → (x : List ℕ) → StandsFor (state_text old window count) x → IsNext word output (state_text old window count) (state_text new window count') x
    unfolding after
    stands_here count' more x s =
        let items : List LoopItem = (filter_of old window).items in let n : ℕ = length items in
        let at_is : at ≡ length x % n = at_item ∙ ap (λ (c : ℕ). c % n) s.count in
        let within : at < n = slice_get_within items at next.before.item (item_at at next.before next.had) in
        let kept : map (λ (e : EntryText). e.item) new ≡ items = ap (λ (r : FilterText). r.items) filter_kept in
        let as_wide : length (map (λ (e : EntryText). e.item) new) ≡ n = ap (length {A = LoopItem}) kept in
        let mine : next.before.window ≡ window = ok.each at next.before next.had in
        let old_words : next.before.words ≡ keep_last window (words_of_entry n at 0 x) =
        same_some _ _ (sym (slice_get-map (λ (e : EntryText). e.words) old at ∙ ap (option_map (λ (e : EntryText). e.words)) next.had) ∙ s.each at within) in
        let words : (pushed next.before word).words ≡ keep_last window (words_of_entry n at 0 (x ++ word ∷ [])) =
        ap (λ (w : ℕ). keep_last w (next.before.words ++ word ∷ [])) mine ∙ (ap (λ (l : List ℕ). keep_last window (l ++ word ∷ [])) old_words
        ∙ (keep-on window (words_of_entry n at 0 x) word ok.rule_is.window.0 ∙ ap (keep_last window) (sym (words_mine n at x word at_is)))) in
        let mean_is : mean (pushed next.before word).words ≡ mean (every_nth_back (x ++ word ∷ []) n window (length x)) =
        ap mean words ∙ (ap (λ (j : ℕ). mean (keep_last window (words_of_entry n j 0 (x ++ word ∷ [])))) at_is ∙ sym (mean_here n window x word ok.rule_is.some)) in
        record {
          output_is = next.output_is ∙ (ap (scaled next.before.item) mean_is
              ∙ ap (λ (o : Option LoopItem). scaled_if o (mean (every_nth_back (x ++ word ∷ []) n window (length x)))) (sym (item_at at next.before next.had) ∙ ap (slice_get items) at_is));
          stands = record {
            count = more ∙ (ap (λ (c : ℕ). c + 1) s.count ∙ sym (length-append x (word ∷ [])));
            wide = length-map new (λ (e : EntryText). e.words) ∙ sym (length-map new (λ (e : EntryText). e.item));
            each = λ j low. slice_get-map (λ (e : EntryText). e.words) new j
                ∙ (dite (ℕ_discrete j at)
                (λ (same : j ≡ at). ap (option_map (λ (e : EntryText). e.words)) (ap (slice_get new) same ∙ here)
                ∙ (ap (λ (l : List ℕ). Some l) words ∙ ap (λ (k : ℕ). Some (keep_last window (words_of_entry n k 0 (x ++ word ∷ [])))) (sym same)))
                (λ (ne : j ≢ at). ap (option_map (λ (e : EntryText). e.words)) (there j ne)
                ∙ (sym (slice_get-map (λ (e : EntryText). e.words) old j) ∙ (s.each j (omega arith) ∙ ap (λ (l : List ℕ). Some (keep_last window l)) (sym (words_other n j x word (λ e. ne (e ∙ sym at_is)))))))
                ∙ ap (λ (m : ℕ). Some (keep_last window (words_of_entry m j 0 (x ++ word ∷ [])))) (sym as_wide));
          };
        }

    pub stands : (count' : ℕ) → count' ≡ count + 1 → (s : StateText) → state_text old window count ≡ s → (x : List ℕ) → StandsFor s x → IsNext word output s (state_text new window count') x
    stands count' more s is x was = subst (λ (t : StateText). IsNext word output t (state_text new window count') x) is (stands_here count' more x (subst (λ (t : StateText). StandsFor t x) (sym is) was))

-- the items of entries that were made of them
items_back : (window : ℕ) (items : List LoopItem) → map (λ (e : EntryText). e.item) (map (entry_text [] window) items) ≡ items
items_back window [] = refl
items_back window (item ∷ items) = ap (λ (l : List LoopItem). item ∷ l) (items_back window items)

-- a new state
module _ (rule : FilterText) (entries : List EntryText) (are : entries ≡ map (entry_text [] rule.window) rule.items) where
  pub fresh_filter : filter_of entries rule.window ≡ rule
  fresh_filter = ap (λ (l : List LoopItem). filter_text l rule.window) (ap (map (λ (e : EntryText). e.item)) are ∙ items_back rule.window rule.items)

  entry_there : (i : ℕ) → i < length rule.items → (item : LoopItem) × (slice_get entries i ≡ Some (entry_text [] rule.window item))
  entry_there i low = let d : LoopItem = record { in_max = 0; out_max = 0 } in (
    get_or rule.items i d,
    ap (λ (l : List EntryText). slice_get l i) are ∙ (slice_get-map (entry_text [] rule.window) rule.items i ∙ ap (option_map (entry_text [] rule.window)) (slice_get-get_or rule.items i d low)),
  )

  as_long : length entries ≡ length rule.items
  as_long = ap (length {A = EntryText}) are ∙ length-map rule.items (entry_text [] rule.window)

  pub fresh_ok : IsFilter rule → IsState entries rule.window 0 0
  fresh_ok ok = record {
    rule_is = subst IsFilter (sym fresh_filter) ok;
    each = λ i e got.
        let low = slice_get_within entries i e got in let len = as_long in
        let there = entry_there i (omega arith) in
        let same : e ≡ entry_text [] rule.window there.0 = same_some _ _ (sym got ∙ there.1) in ap (λ (x : EntryText). x.window) same;
    at_is = sym (zero-mod (length entries));
  }

  pub fresh_stands : StandsFor (state_text entries rule.window 0) []
  fresh_stands = record {
    count = refl;
    wide = length-map entries (λ (e : EntryText). e.words) ∙ sym (length-map entries (λ (e : EntryText). e.item));
    each = λ i low.
        let items : length (map (λ (e : EntryText). e.item) entries) ≡ length rule.items = length-map entries (λ (e : EntryText). e.item) ∙ as_long in
        let there = entry_there i (omega arith) in
        slice_get-map (λ (e : EntryText). e.words) entries i ∙ (ap (option_map (λ (e : EntryText). e.words)) there.1 ∙ ap (λ (l : List ℕ). Some l) (sym (drop_all (0 - rule.window) [] (omega arith))));
  }
