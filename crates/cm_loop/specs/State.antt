-- What a loop keeps of its input.
use Rattle.std.specs.Prelude.{◌≡◌, ℕ, ◌+◌, ◌%◌, ◌<◌, if◌then◌else◌, nat_eq, List, [], ◌∷◌, ◌++◌, length, map, slice_get}
use Rattle.std.specs.Prelude.{slice_set, Some}
use Rattle.circular_buffer.specs.Buffer.{keep_last}
use Rattle.cm_loop.specs.Entry.{EntryText, pushed}
use Rattle.cm_loop.specs.Filter.{FilterText, filter_text, IsFilter, mean, scaled, filtered}

-- the words of list entry i of n, which are at the places k with k mod n = i, in a list that starts at a place
abbrev pub words_of_entry : ℕ → ℕ → ℕ → List ℕ → List ℕ
words_of_entry n i place [] = []
words_of_entry n i place (x ∷ xs) =
    if nat_eq (place % n) i then x ∷ words_of_entry n i (place + 1) xs else words_of_entry n i (place + 1) xs

-- a state as contracts see it: the filter for which it was made,
-- how many samples came, and a list of samples for each item
pub record StateText : Type 0 where
  pub rule : FilterText
  pub count : ℕ
  pub lists : List (List ℕ)

-- the filter of entries
abbrev pub filter_of : List EntryText → ℕ → FilterText
filter_of entries window = filter_text (map (λ (e : EntryText). e.item) entries) window

-- the state of entries
abbrev pub state_text : List EntryText → ℕ → ℕ → StateText
state_text entries window count = record {
  rule = filter_of entries window;
  count = count;
  lists = map (λ (e : EntryText). e.words) entries;
}

-- a state stands for a list of samples: it has the last ones of each entry, as many as the window has
pub record StandsFor (s : StateText) (x : List ℕ) : Type 0 where
  pub count : s.count ≡ length x
  pub wide : length s.lists ≡ length s.rule.items
  pub each : (i : ℕ) → i < length s.rule.items
      → slice_get s.lists i ≡ Some (keep_last s.rule.window (words_of_entry (length s.rule.items) i 0 x))

-- what a state keeps: entries of a filter, each of its window, and the number of the next one
pub record IsState (entries : List EntryText) (window at count : ℕ) : Type 0 where
  pub rule_is : IsFilter (filter_of entries window)
  pub each : (i : ℕ) (e : EntryText) → slice_get entries i ≡ Some e → e.window ≡ window
  pub at_is : at ≡ count % length entries

-- one entry has a sample more, and the output is the mean of its last ones on its item's scale
pub record NextOutput (i word output : ℕ) (old new : List EntryText) : Type 0 where
  pub before : EntryText
  pub had : slice_get old i ≡ Some before
  pub has : new ≡ slice_set old i (pushed before word)
  pub output_is : output ≡ scaled before.item (mean (pushed before word).words)

-- the output is the filter's for a sample after a list, and the state then stands for the list with the sample
pub record IsNext (word output : ℕ) (old new : StateText) (x : List ℕ) : Type 0 where
  pub output_is : output ≡ filtered old.rule (x ++ word ∷ []) (length x)
  pub stands : StandsFor new (x ++ word ∷ [])
