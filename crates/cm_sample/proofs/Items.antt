-- The munged word of a place by its item.
use Rattle.std.proofs.Common.{◌≡◌, ℕ, ◌%◌, Bool, false, List, length, Option, Some, sym, ap, ◌∙◌}
use Rattle.std.specs.Prelude.{slice_get}
use Rattle.cm_sample.specs.Rule.{item_word, item_word_if, munged_word, rule_text}
use Rattle.cm_sample.specs.declared.rule.MungeItem.{MungeItem}

pub munged_by_item : (items : List MungeItem) (out : Bool) (index place word : ℕ) (item : MungeItem) → slice_get items index ≡ Some item → index ≡ place % length items →
    item_word out item word ≡ munged_word (rule_text items out false) place word
munged_by_item items out index place word item is at =
    ap (λ (o : Option MungeItem). item_word_if out o word) (sym is) ∙ ap (λ k. item_word_if out (slice_get items k) word) at
