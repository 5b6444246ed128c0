-- The munge of a command, item by item.
use Rattle.std.proofs.Common.{◌≡◌, ℕ, zero, suc, ◌%◌, ◌<◌, ◌≤◌, Bool, cond, List, [], ◌∷◌, length, map, sym, ap, ◌∙◌, subst, Option, Some, arith}
use Rattle.std.specs.Prelude.{slice_get, slice_index}
use Rattle.std.specs.Option.{option_map}
use Rattle.std.proofs.lemmas.List.{length-map}
use Rattle.std.proofs.lemmas.Option.{slice_get-map, slice_get-get_or}
use Rattle.cm_board.specs.Board.{IsSoundSub, SubText, is_output}
use Rattle.cm_cmd.specs.Command.{CmdText}
use Rattle.cm_cmd.specs.Entry.{chan}
use Rattle.cm_test.specs.Questions.{tested}
use Rattle.cm_test.proofs.Passed.{passed}
use Rattle.cm_board.specs.Munge.{MayShift}
use Rattle.cm_sample.specs.Rule.{IsRule, munged_word, item_word_if}
use Rattle.cm_sample.specs.declared.rule.MungeItem.{MungeItem}
use Rattle.cm_board.proofs.ChannelNumbers.{channel}
use Rattle.cm_board.proofs.Munging.{may_shift}
use Rattle.cm_expand.specs.Rule.{item_of, rule_of, munged_at, is_raw}
use Rattle.cm_expand.proofs.Fits.{entry_at}

item_there : (sub : SubText) (cmd : CmdText) (place : ℕ) → 1 ≤ length cmd.list → slice_get (map (item_of sub) cmd.list) (place % length (map (item_of sub) cmd.list)) ≡ Some (item_of sub (slice_index cmd.list (place % length cmd.list)))
item_there sub cmd place some =
    let within : place % length cmd.list < length cmd.list = omega arith in
    ap (λ (n : ℕ). slice_get (map (item_of sub) cmd.list) (place % n)) (length-map cmd.list (item_of sub))
    ∙ (slice_get-map (item_of sub) cmd.list (place % length cmd.list) ∙ ap (option_map (item_of sub)) (slice_get-get_or cmd.list (place % length cmd.list) 0 within))

both_ways : (raw out : Bool) (o : Option MungeItem) (item : MungeItem) (word : ℕ) → o ≡ Some item → cond raw word (item_word_if out o word) ≡ cond raw word (item_word_if out (Some item) word)
both_ways raw out o item word e = ap (λ (x : Option MungeItem). cond raw word (item_word_if out x word)) e

-- the rule munges each place by its entry's channel
pub rule_applies : (sub : SubText) (cmd : CmdText) → 1 ≤ length cmd.list → (place word : ℕ) → munged_word (rule_of sub cmd) place word ≡ munged_at sub cmd place word
rule_applies sub cmd some place word = both_ways (is_raw cmd.flags) (is_output sub.kind) _ (item_of sub (slice_index cmd.list (place % length cmd.list))) word (item_there sub cmd place some)

-- so both are one function of places and words
pub rule_munges : (sub : SubText) (cmd : CmdText) → 1 ≤ length cmd.list → munged_word (rule_of sub cmd) ≡ munged_at sub cmd
rule_munges sub cmd some = λ i place word. rule_applies sub cmd some place word i

-- each entry has a channel
pub channels_there : (sub : SubText) (cmd : CmdText) (items : List ℕ) → IsSoundSub sub → (tested sub cmd).0 ≡ 0 → items ≡ cmd.list → (i : ℕ) → i < length items → chan (slice_index items i) < sub.channels
channels_there sub cmd items sound is_passed same i within =
    let e = ap (length {A = ℕ}) same in
    subst (λ (l : List ℕ). chan (slice_index l i) < sub.channels) (sym same) (entry_at sub cmd (passed sub cmd sound is_passed) i (omega arith)).has_chan

-- the munge of each item may be applied, where its entry has a channel
items_shift : (sub : SubText) (list : List ℕ) → IsSoundSub sub → ((i : ℕ) → i < length list → chan (slice_index list i) < sub.channels) →
    (i : ℕ) (item : MungeItem) → slice_get (map (item_of sub) list) i ≡ Some item → MayShift item.kind
items_shift sub [] sound there i item e = absurd (cc)
items_shift sub (entry ∷ list) sound there zero item e =
    let same : item_of sub entry ≡ item = cc in
    subst (λ (x : MungeItem). MayShift x.kind) same (may_shift _ (channel sub (chan entry) sound (there 0 (omega arith))).munge_fits)
items_shift sub (entry ∷ list) sound there (suc i) item e = items_shift sub list sound (λ k below. there (suc k) (omega arith)) i item e

-- so the rule can be applied
pub rule_is : (sub : SubText) (cmd : CmdText) → IsSoundSub sub → 1 ≤ length cmd.list → ((i : ℕ) → i < length cmd.list → chan (slice_index cmd.list i) < sub.channels) → IsRule (rule_of sub cmd)
rule_is sub cmd sound some there = record {
  some = omega (arith, length-map cmd.list (item_of sub));
  shift = items_shift sub cmd.list sound there;
}
