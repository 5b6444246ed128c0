-- How the word at a place of a buffer is munged.
use Rattle.std.specs.Prelude.{◌≡◌, ℕ, suc, ◌%◌, ◌≤◌, Bool, List, [], ◌∷◌, length, slice_get, Option, Some, None}
use Rattle.std.specs.Prelude.{if◌then◌else◌}
use Rattle.cm_board.specs.Munge.{munged, unmunged, MayShift}
use Rattle.cm_sample.specs.declared.rule.MungeItem.{MungeItem}

-- a rule as contracts see it: an item for each list entry, and whether the words are an output's or raw
pub record RuleText : Type 0 where
  pub items : List MungeItem
  pub out : Bool
  pub raw : Bool

-- the rule of these parts
abbrev pub rule_text : List MungeItem → Bool → Bool → RuleText
rule_text items out raw = record { items = items; out = out; raw = raw }

-- the word that an item makes of a word
abbrev pub item_word : Bool → MungeItem → ℕ → ℕ
item_word out item word = if out then unmunged item.kind item.maxdata word else munged item.kind item.maxdata word

-- the same where there is an item, and the word itself without one
abbrev pub item_word_if : Bool → Option MungeItem → ℕ → ℕ
item_word_if out None word = word
item_word_if out (Some item) word = item_word out item word

-- the munged word of a place, by the item of the place modulo their number
abbrev pub munged_word : RuleText → ℕ → ℕ → ℕ
munged_word rule place word =
    if rule.raw then word else item_word_if rule.out (slice_get rule.items (place % length rule.items)) word

-- a rule that can be applied
pub record IsRule (rule : RuleText) : Type 0 where
  pub some : 1 ≤ length rule.items
  pub shift : (i : ℕ) (item : MungeItem) → slice_get rule.items i ≡ Some item → MayShift item.kind

-- each item with its place, which counts from `place`
abbrev pub map_from : {X : Type 0} → (ℕ → ℕ → X) → ℕ → List ℕ → List X
map_from f place [] = []
map_from f place (x ∷ xs) = f place x ∷ map_from f (suc place) xs
