-- The filter of a control loop.
use Rattle.std.specs.Prelude.{◌≡◌, ℕ, zero, suc, ◌-◌, ◌*◌, ◌/◌, ◌%◌, ◌<◌, ◌≤◌, ◌^◌, if◌then◌else◌, nat_lt}
use Rattle.std.specs.Prelude.{List, [], ◌∷◌, length, map, sum, slice_index, slice_get, Option, Some, None}
use Rattle.std.specs.List.{range_with_len}
use Rattle.cm_loop.specs.declared.rule.LoopItem.{LoopItem}

-- a filter as contracts see it: an item for each list entry, and how many samples a mean is of
pub record FilterText : Type 0 where
  pub items : List LoopItem
  pub window : ℕ

-- the filter of these parts
abbrev pub filter_text : List LoopItem → ℕ → FilterText
filter_text items window = record { items = items; window = window }

-- x[k], x[k - n], .., at most `most` of them, as far as the place isn't negative
abbrev pub every_nth_back : List ℕ → ℕ → ℕ → ℕ → List ℕ
every_nth_back x n zero k = []
every_nth_back x n (suc most) k = slice_index x k ∷ (if nat_lt k n then [] else every_nth_back x n most (k - n))

-- the floor of the mean of a list
abbrev pub mean : List ℕ → ℕ
mean words = sum words / length words

-- a code of the input on the scale of the output
abbrev pub scaled : LoopItem → ℕ → ℕ
scaled item code = code * item.out_max / item.in_max

-- the same where there is an item
abbrev pub scaled_if : Option LoopItem → ℕ → ℕ
scaled_if None code = 0
scaled_if (Some item) code = scaled item code

-- the output of place k: the mean of the last samples of its entry, on the scale of its entry's item
abbrev pub filtered : FilterText → List ℕ → ℕ → ℕ
filtered rule x k =
    scaled_if (slice_get rule.items (k % length rule.items)) (mean (every_nth_back x (length rule.items) rule.window k))

-- the outputs of all places
abbrev pub all_filtered : FilterText → List ℕ → List ℕ
all_filtered rule x = map (filtered rule x) (range_with_len 0 (length x))

-- the greatest codes that a channel may have
abbrev pub IsItem : LoopItem → Type 0
IsItem item = (1 ≤ item.in_max) × (item.in_max < 2 ^ 24) × (1 ≤ item.out_max) × (item.out_max < 2 ^ 24)

-- a filter that a loop may have
pub record IsFilter (rule : FilterText) : Type 0 where
  pub some : 1 ≤ length rule.items
  pub items : (i : ℕ) (item : LoopItem) → slice_get rule.items i ≡ Some item → IsItem item
  pub window : (1 ≤ rule.window) × (rule.window ≤ 16)

-- no sample is above the greatest code of its entry's input channel
abbrev pub AreWithin : FilterText → List ℕ → Type 0
AreWithin rule x =
    (k : ℕ) (item : LoopItem) → k < length x → slice_get rule.items (k % length rule.items) ≡ Some item
    → slice_index x k ≤ item.in_max
