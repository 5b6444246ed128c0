-- The last samples of one list entry.
use Rattle.std.specs.Prelude.{◌≡◌, ℕ, ◌≤◌, List, [], ◌∷◌, ◌++◌, length, sum, All}
use Rattle.circular_buffer.specs.Buffer.{keep_last}
use Rattle.cm_loop.specs.Filter.{IsItem}
use Rattle.cm_loop.specs.declared.rule.LoopItem.{LoopItem}

-- the last samples, at most `window` of them, and the entry's item
pub record EntryText : Type 0 where
  pub words : List ℕ
  pub window : ℕ
  pub item : LoopItem

-- an entry of these parts
abbrev pub entry_text : List ℕ → ℕ → LoopItem → EntryText
entry_text words window item = record { words = words; window = window; item = item }

-- with a sample more, of which the window's last are kept
abbrev pub pushed : EntryText → ℕ → EntryText
pushed e word = record e { words = keep_last e.window (e.words ++ word ∷ []) }

-- what an entry keeps of its samples: they are few, none is above the greatest code of the input, and their sum
pub record AreSummed (words : List ℕ) (window : ℕ) (item : LoopItem) (total : ℕ) : Type 0 where
  pub total_is : total ≡ sum words
  pub few : length words ≤ window
  pub window_is : (1 ≤ window) × (window ≤ 16)
  pub limited : All (λ w. w ≤ item.in_max) words
  pub item_is : IsItem item

-- what an entry keeps: that, and divisors by the greatest code of the input and by the window
pub record IsEntry (words : List ℕ) (window : ℕ) (item : LoopItem) (total by_in_max by_window : ℕ) : Type 0 where
  pub samples : AreSummed words window item total
  pub by_in_max_is : by_in_max ≡ item.in_max
  pub by_window_is : by_window ≡ window
