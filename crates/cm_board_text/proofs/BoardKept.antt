-- A board that is read is sound.
use Rattle.std.proofs.Common.{subst, ◌≡◌, ℕ, ◌+◌, ◌≤◌, Bool, true, false, cond, not, List, [], ◌∷◌, length, map, drop, Result, Ok, Err, refl, sym, ap, ◌∙◌, IsTrue, nat_le, nat_lt, ◌==◌, arith}
use Rattle.std.specs.Prelude.{codes}
use Rattle.std.specs.List.{list_all}
use Rattle.std.specs.Result.{IfOk}
use Rattle.std.specs.Str.{bytes_eq}
use Rattle.std.proofs.lemmas.Bool.{and_right, eq-eqb}
use Rattle.std.proofs.lemmas.Bool.Decides.{nat_tests}
use Rattle.std.proofs.lemmas.Slice.Eq.{bytes_eq-Decides}
use Rattle.cm_base.specs.Lines.{LineText, is_not_empty, is_printable, is_word}
use Rattle.cm_base.specs.Parts.{begins, begins_words, fixed}
use Rattle.cm_base.specs.Reading.{◌>>=◌, at_line}
use Rattle.cm_base.specs.Refusal.{next_number}
use Rattle.cm_base.specs.Words.{one_word}
use Rattle.cm_base.specs.declared.faults.Fault.TheVariants as faults
use Rattle.cm_base.specs.declared.faults.Refused.{Refused}
use Rattle.cm_base.proofs.Bools.{and_true, both}
use Rattle.cm_base.proofs.Refusal.{keyed}
use Rattle.cm_base.proofs.Oks.{after_any, at_line_keeps, limited_ok, ok_keeps, then_ok, weaker}
use Rattle.cm_board.specs.Board.{IsFrom1To, IsSoundBoard, SubText, has_channels}
use Rattle.cm_board.specs.BoardTable.{board_table}
use Rattle.cm_board.specs.Items.{ItemText}
use Rattle.cm_board.specs.Said.{sub_of}
use Rattle.cm_board.specs.declared.table.Head.{Head}
use Rattle.cm_board_text.specs.Block.{checked, finished, is_board_ok}
use Rattle.cm_board_text.specs.BoardPart.{any_words, block_lines, blocks_from, head_after, is_name, is_signals, is_subdevice, lines_after, next_block}
use Rattle.cm_board_text.specs.Heads.{head_words}
use Rattle.cm_board_text.specs.Kept.{AreItems}
use Rattle.cm_board_text.specs.Reading.{completed, items_said}
use Rattle.cm_board_text.proofs.BoardOks.{IsHead, head_may}
use Rattle.cm_board_text.proofs.Good.{items_ok}
use Rattle.cm_board_text.proofs.TableIs.{board_is_table}

-- what the lines after a head say may stand in its block
pub block_keeps : (head : Head) (lines : List LineText) (items : List ItemText) → items_said board_table head lines ≡ Ok items → AreItems board_table head items
block_keeps head lines items e = ok_keeps (AreItems board_table head) (items_said board_table head lines) items e (items_ok board_table head lines board_is_table)

-- a head that at most 15 blocks stand before
IsHeadAfter : ℕ → ℕ → Head → Type 0
IsHeadAfter version count head = IsHead version head × IsTrue (nat_lt count 16)

head_after_keeps : (number version count : ℕ) (line : LineText) → IfOk (at_line number (head_after version count line)) (IsHeadAfter version count)
unfolding IsHeadAfter
head_after_keeps number version count line =
    at_line_keeps (IsHeadAfter version count) number (head_after version count line)
    (then_ok (IsHead version) (IsHeadAfter version count) (head_words version (drop 1 line.words)) _ (head_may version (drop 1 line.words))
    (λ h is. limited_ok (IsHeadAfter version count) (nat_lt count 16) h (λ few. (is, few))))

-- a head has the channels that its kind may have
pub head_keeps : (number version count : ℕ) (line : LineText) (head : Head) → at_line number (head_after version count line) ≡ Ok head → IsTrue (has_channels head.version head.kind head.channels)
unfolding IsHeadAfter
head_keeps number version count line head e = (ok_keeps (IsHeadAfter version count) (at_line number (head_after version count line)) head e (head_after_keeps number version count line)).0.0

-- and its version is that of the board
pub head_version : (number version count : ℕ) (line : LineText) (head : Head) → 1 ≤ version → at_line number (head_after version count line) ≡ Ok head →
    1 ≤ head.version
unfolding IsHeadAfter
head_version number version count line head some e =
    subst (λ n. 1 ≤ n) (sym (ok_keeps (IsHeadAfter version count) (at_line number (head_after version count line)) head e (head_after_keeps number version count line)).0.1) some

-- what a block says at its end is of its head's version
finished_version : (head : Head) (items : List ItemText) → IfOk (finished head items) (λ sub. sub.version ≡ head.version)
finished_version head items =
    after_any (λ (sub : SubText). sub.version ≡ head.version) (completed board_table head items) (λ all. checked (sub_of head all))
    (λ all. by (sub_of head all) (is_board_ok (sub_of head all)) refl)
  where
    by : (sub : SubText) (ok : Bool) → sub.version ≡ head.version → IfOk (cond ok (Ok sub) (Err faults.Bad)) (λ sub. sub.version ≡ head.version)
    by sub true e = e
    by sub false e = tt

-- a block that is read has at most 15 before it, and is one of its board's version
IsRead : ℕ → ℕ → SubText → Type 0
IsRead version count sub = IsTrue (nat_lt count 16) × IsTrue (sub.version == version)

block_ok : (version end count : ℕ) (line : LineText) (rest : List LineText) → IfOk (next_block version end count line rest) (IsRead version count)
unfolding IsRead IsHeadAfter
block_ok version end count line rest =
    then_ok (IsHeadAfter version count) (IsRead version count) (at_line line.number (head_after version count line)) _ (head_after_keeps line.number version count line)
    (λ head is. after_any (IsRead version count) (items_said board_table head (block_lines rest)) _
    (λ items. at_line_keeps (IsRead version count) (next_number end (lines_after rest)) (finished head items)
    (weaker (λ (sub : SubText). sub.version ≡ head.version) (IsRead version count) (λ sub same. (is.1, eq-eqb sub.version version (same ∙ is.0.1))) (finished head items) (finished_version head items))))

one_more_room : (count : ℕ) → IsTrue (nat_lt count 16) → count + 1 ≤ 16
one_more_room count few = grind (arith, nat_tests)

-- blocks after others, each of the board's version
AreBlocks : ℕ → ℕ → List SubText → Type 0
AreBlocks version count subs = (count + length subs ≤ 16) × IsTrue (list_all (λ sub. sub.version == version) subs)

one_less : (version count : ℕ) (subs : List SubText) (sub : SubText) → IsRead version count sub → AreBlocks version (count + 1) subs → AreBlocks version count (sub ∷ subs)
unfolding IsRead AreBlocks
one_less version count subs sub b k = (omega (arith, k.0), and_true _ _ b.1 k.1)

blocks_ok : (version end count : ℕ) (lines : List LineText) → count ≤ 16 → IfOk (blocks_from version end count lines) (AreBlocks version count)
unfolding AreBlocks IsRead
blocks_ok version end count [] h = tt
blocks_ok version end count (line ∷ rest) h = split (is_signals line) (is_subdevice line) (blocks_ok version end count rest h) (blocks_ok version end (count + 1) rest)
  where
    split : (signals subdevice : Bool) → IfOk (blocks_from version end count rest) (AreBlocks version count) → (count + 1 ≤ 16 → IfOk (blocks_from version end (count + 1) rest) (AreBlocks version (count + 1))) →
        IfOk (cond signals (Ok []) (cond subdevice (next_block version end count line rest >>= λ sub. blocks_from version end (count + 1) rest >>= λ subs. Ok (sub ∷ subs)) (blocks_from version end count rest))) (AreBlocks version count)
    split true subdevice other later = (omega arith, refl)
    split false false other later = other
    split false true other later =
        then_ok (IsRead version count) (AreBlocks version count) (next_block version end count line rest) _ (block_ok version end count line rest)
        (λ sub b. then_ok (AreBlocks version (count + 1)) (AreBlocks version count) (blocks_from version end (count + 1) rest) _ (later (one_more_room count b.0)) (λ subs k. one_less version count subs sub b k))

-- a line begins with one word
pub one_key : (words : List (List ℕ)) (key other : List ℕ) → (key ≡ other → ⊥) → begins_words key words ≡ true → begins_words other words ≡ false
one_key [] key other apart h = refl
one_key (word ∷ words) key other apart h = differs (bytes_eq word other) refl
  where
    differs : (b : Bool) → bytes_eq word other ≡ b → b ≡ false
    differs true e = absurd (apart (sym ((bytes_eq-Decides word key).0 h) ∙ (bytes_eq-Decides word other).0 e))
    differs false e = refl

subdevice_signals : codes "subdevice" ≡ codes "signals" → ⊥
subdevice_signals e = cc

-- what a first line says of its block, by whether it is bad and begins with the one word
abbrev any_keyed : LineText → Bool → Bool → Result Bool Refused
any_keyed line bad begun = at_line line.number (keyed line bad begun) >>= λ words. at_line words.0 (any_words words.1)

-- where the first line is a block's there is a block
blocks_some : (version end : ℕ) (lines : List LineText) (any : Bool) → fixed end (codes "subdevice") any_words lines ≡ Ok any → IfOk (blocks_from version end 0 lines) (λ subs. 1 ≤ length subs)
blocks_some version end [] any e = cc
blocks_some version end (line ∷ rest) any e = begins_one line.bad refl e
  where
    read_one : (subs : List SubText) (sub : SubText) → 1 ≤ length (sub ∷ subs)
    read_one subs sub = omega arith

    at_block : (signals subdevice : Bool) → signals ≡ false → subdevice ≡ true →
        IfOk (cond signals (Ok []) (cond subdevice (next_block version end 0 line rest >>= λ sub. blocks_from version end (0 + 1) rest >>= λ subs. Ok (sub ∷ subs)) (blocks_from version end 0 rest))) (λ subs. 1 ≤ length subs)
    at_block true subdevice p q = cc
    at_block false false p q = cc
    at_block false true p q =
        after_any (λ subs. 1 ≤ length subs) (next_block version end 0 line rest) _
        (λ sub. after_any (λ subs. 1 ≤ length subs) (blocks_from version end (0 + 1) rest) _ (λ subs. read_one subs sub))

    key_begins : (b : Bool) → begins (codes "subdevice") line ≡ b → any_keyed line false b ≡ Ok any → begins (codes "subdevice") line ≡ true
    key_begins true is e = is
    key_begins false is e = cc

    begins_one : (bad : Bool) → line.bad ≡ bad → any_keyed line bad (begins (codes "subdevice") line) ≡ Ok any → IfOk (blocks_from version end 0 (line ∷ rest)) (λ subs. 1 ≤ length subs)
    begins_one true is e = cc
    begins_one false is e =
        let good = key_begins (begins (codes "subdevice") line) refl e in
        let word = both (not line.bad) (begins_words (codes "subdevice") line.words) good in
        at_block (is_signals line) (is_subdevice line)
        (and_right (not line.bad) _ (one_key line.words (codes "subdevice") (codes "signals") subdevice_signals word.1)) good

-- the subdevices that are read are 1 to 16, each of the board's version
pub subs_keep : (version end : ℕ) (lines : List LineText) (any : Bool) (subs : List SubText) → fixed end (codes "subdevice") any_words lines ≡ Ok any → blocks_from version end 0 lines ≡ Ok subs →
    IsFrom1To 16 (length subs) × IsTrue (list_all (λ sub. sub.version == version) subs)
unfolding AreBlocks
subs_keep version end lines any subs e f =
    let few = ok_keeps (AreBlocks version 0) (blocks_from version end 0 lines) subs f (blocks_ok version end 0 lines (omega arith)) in (
      record {
        low = ok_keeps (λ (s : List SubText). 1 ≤ length s) (blocks_from version end 0 lines) subs f (blocks_some version end lines any e);
        high = omega (arith, few.0);
      },
      few.1,
    )

name_size : (name : List ℕ) → is_name name ≡ true → IsFrom1To 32 (length name)
name_size name h =
    let n = both (is_word name) (nat_le (length name) 32) h in
    let w = both (is_not_empty name) (list_all is_printable name) n.0 in
    record { low = grind (arith, nat_tests, w.0); high = grind (arith, nat_tests, n.1) }

-- a board that is read is one
pub board_keeps : (end version : ℕ) (lines : List LineText) (any : Bool) (name : List ℕ) (subs : List SubText) → IsFrom1To 3 version → is_name name ≡ true →
    fixed end (codes "subdevice") any_words lines ≡ Ok any → blocks_from version end 0 lines ≡ Ok subs → IsSoundBoard (record { version = version; name = name; subs = subs })
board_keeps end version lines any name subs v h e f = record {
  version = v;
  name = name_size name h;
  printable = (both (is_not_empty name) (list_all is_printable name) (both (is_word name) (nat_le (length name) 32) h).0).1;
  subs = (subs_keep version end lines any subs e f).0;
  blocks = (subs_keep version end lines any subs e f).1;
}

-- the one word is a name
pub name_is : {X : Type 0} (now : X → List ℕ) (words : List X) (name : List ℕ) → list_all (λ w. is_word (now w)) words ≡ true → one_word (map now words) ≡ Ok name → length name ≤ 32 → IsTrue (is_name name)
name_is now [] name h e k = cc
name_is now (w ∷ []) name h e k =
    let same : now w ≡ name = cc in
    and_true _ _ (sym (ap is_word same) ∙ (both (is_word (now w)) true h).0) (grind (arith, nat_tests))
name_is now (w ∷ v ∷ more) name h e k = cc
