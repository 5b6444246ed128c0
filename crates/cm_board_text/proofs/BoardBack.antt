-- A printed board part is read as the same board.
use Rattle.std.proofs.Common.{◌≡◌, ℕ, suc, ◌+◌, ◌<◌, ◌≤◌, Bool, true, false, cond, not, ◌&&◌, ◌||◌, List, [], ◌∷◌, ◌++◌, map, length, Ok, Err, refl, sym, ap, ap₂, ◌∙◌, nat_le, ◌==◌, arith, append_assoc, drop, take, flat_map, codes, decimal}
use Rattle.std.specs.List.{All, before_first, after_first, position_or_len, list_all}
use Rattle.std.proofs.lemmas.Bool.Decides.{nat_tests}
use Rattle.std.proofs.lemmas.List.Folds.{flat_map-map, list_all-append}
use Rattle.std.proofs.Math.Seq.{take-append_seam, drop-append_seam}
use Rattle.std.proofs.lemmas.Grind.{flat_map-append}
use Rattle.std.proofs.lemmas.Slice.Eq.{bytes_eq-Decides}
use Rattle.std.proofs.lemmas.Bool.{eqb-true, le-leb, leb-true}
use Rattle.std.proofs.lemmas.List.Sums.{AllPass-from_list_all}
use Rattle.cm_base.specs.Refusal.{next_number}
use Rattle.cm_base.specs.Lines.{LineText, is_comment, is_line_feed, is_not_empty, is_printable, is_word, line_text, lines_from, lines_of, raw_lines, text_counts}
use Rattle.cm_base.specs.Parts.{begins_words, fixed}
use Rattle.cm_base.specs.Reading.{◌>>=◌, at_line}
use Rattle.cm_base.specs.Words.{limited}
use Rattle.cm_base.specs.WrittenLines.{is_line, written_line, numbered, text_of}
use Rattle.cm_base.specs.declared.faults.Fault.TheVariants as faults
use Rattle.cm_base.proofs.Bools.{and_true, both, not_true}
use Rattle.cm_base.proofs.NumbersBack.{number_in-decimal, word-decimal}
use Rattle.cm_base.proofs.RawLines.{lines_from-cons, raw_lines-cons}
use Rattle.cm_base.proofs.WrittenLines.{lines_from-written}
use Rattle.cm_board.specs.Board.{BoardText, IsBlock, IsFrom1To, IsSaid, IsSaidSub, IsSoundBoard, SubText, is_wide}
use Rattle.cm_board.specs.BoardTable.{board_table}
use Rattle.cm_board.specs.Said.{head_of, sub_of}
use Rattle.cm_board.specs.declared.table.Head.{Head}
use Rattle.cm_board_text.specs.Block.{checked, finished}
use Rattle.cm_board_text.specs.BoardPart.{any_words, block_at, block_lines, blocks_from, board_of, ends_block, is_signals, is_subdevice, lines_after, next_block, version_of}
use Rattle.cm_board_text.specs.Printed.{block_text, board_lines, head_line, item_words, name_line, printed_board, sub_lines, version_line}
use Rattle.cm_board_text.specs.PrintedReads.{BeginsSignals, PrintedReads}
use Rattle.cm_board_text.specs.Reading.{items_said}
use Rattle.cm_board_text.proofs.Back as back
use Rattle.cm_board_text.proofs.HeadsBack.{head_at, head_back, head_is_line}
use Rattle.cm_board_text.proofs.Blocks.{none_pass, skip_block}
use Rattle.cm_board_text.proofs.Sound.{rules_back}
use Rattle.cm_board_text.proofs.TableIs.{board_is_table}

-- the words of a block's lines after its head
words_of : SubText → List (List (List ℕ))
words_of s = map (item_words board_table) s.block

-- lines at which a block doesn't end

-- a subdevice of a text is what the lines of its block say
is_said : (s : SubText) → IsSaidSub s → IsSaid s
unfolding IsBlock
is_said s h = h.block

items_inside : (number : ℕ) (s : SubText) → IsSaidSub s → none_pass ends_block (numbered number (words_of s)) ≡ true
unfolding words_of
items_inside number s h = back.lines_inside board_table (head_of s) s.block board_is_table (is_said s h).whole number

-- the first line that passes stands after those that don't
position_after : (p : LineText → Bool) (lines : List LineText) (line : LineText) (rest : List LineText) → none_pass p lines ≡ true → p line ≡ true → position_or_len p (lines ++ line ∷ rest) ≡ length lines
position_after p [] line rest h e = ap (λ b. cond (not b) (1 + position_or_len p rest) 0) e
position_after p (first ∷ lines) line rest h e =
    let b = both (not (p first)) (none_pass p lines) h in
    ap (λ t. cond (not t) (1 + position_or_len p (lines ++ line ∷ rest)) 0) (not_true (p first) b.0)
    ∙ ap (λ (n : ℕ). 1 + n) (position_after p lines line rest b.1 e) ∙ omega arith

-- a block's lines up to a line that ends it
cut_inside : (lines : List LineText) (line : LineText) (rest : List LineText) → none_pass ends_block lines ≡ true → ends_block line ≡ true → block_lines (lines ++ line ∷ rest) ≡ lines
cut_inside lines line rest h e = ap (λ (n : ℕ). take n (lines ++ line ∷ rest)) (position_after ends_block lines line rest h e) ∙ take-append_seam lines (line ∷ rest)

cut_lines : (lines : List LineText) (line : LineText) (rest : List LineText) → none_pass ends_block lines ≡ true → ends_block line ≡ true → lines_after (lines ++ line ∷ rest) ≡ line ∷ rest
cut_lines lines line rest h e = ap (λ (n : ℕ). drop n (lines ++ line ∷ rest)) (position_after ends_block lines line rest h e) ∙ drop-append_seam lines (line ∷ rest)

numbered-append : (number : ℕ) (xs ys : List (List (List ℕ))) → numbered number (xs ++ ys) ≡ numbered number xs ++ numbered (number + length xs) ys
numbered-append number [] ys = ap (λ (n : ℕ). numbered n ys) (omega arith)
numbered-append number (x ∷ xs) ys =
    ap (λ lines. record { number = number; words = x; bad = false } ∷ lines)
    (numbered-append (number + 1) xs ys ∙ ap (λ (n : ℕ). numbered (number + 1) xs ++ numbered n ys) (omega arith))

length-numbered : (number : ℕ) (lines : List (List (List ℕ))) → length (numbered number lines) ≡ length lines
length-numbered number [] = refl
length-numbered number (x ∷ lines) = ap suc (length-numbered (number + 1) lines)

-- a subdevice that a board of this version may have
record Fits (version : ℕ) (s : SubText) : Type 0 where
  pub said : IsSaidSub s
  pub has_version : s.version ≡ version

-- a block

said_back : (number : ℕ) (s : SubText) → IsSaidSub s → items_said board_table (head_of s) (numbered number (words_of s)) ≡ Ok s.block
unfolding words_of
said_back number s h = back.items_back board_table (head_of s) number s.block board_is_table (is_said s h).whole (omega (arith, h.sound.few_channels))

finished_back : (s : SubText) → IsSaidSub s → finished (head_of s) s.block ≡ Ok s
finished_back s h =
    ap (λ r. r >>= λ all. checked (sub_of (head_of s) all)) (back.completed_back board_table (head_of s) s.block (is_said s h).whole)
    ∙ ap checked (is_said s h).says
    ∙ ap (λ b. cond b (Ok s) (Err faults.Bad)) (rules_back s h.sound)

block_back : (stop count number : ℕ) (s : SubText) → count < 16 → IsSaidSub s → block_at s.version stop count (head_at number s) (numbered (number + 1) (words_of s)) ≡ Ok s
block_back stop count number s few h =
    let inside : List LineText = numbered (number + 1) (words_of s) in
    ap (λ x. at_line number x >>= λ (head : Head). items_said board_table head inside >>= λ items. at_line stop (finished head items)) (head_back count number s few h.sound)
    ∙ ap (λ x. x >>= λ items. at_line stop (finished (head_of s) items)) (said_back (number + 1) s h)
    ∙ ap (at_line stop) (finished_back s h)

-- blocks

-- these lines begin with one that ends a block
record Ends (lines : List LineText) : Type 0 where
  pub first : LineText
  pub rest : List LineText
  pub is : lines ≡ first ∷ rest
  pub ends : ends_block first ≡ true

or_right : (a b : Bool) → b ≡ true → (a || b) ≡ true
or_right true b h = refl
or_right false b h = h

ends_after : (number : ℕ) (subs : List SubText) (line : LineText) (rest : List LineText) → is_signals line ≡ true → Ends (numbered number (flat_map sub_lines subs) ++ line ∷ rest)
unfolding words_of
ends_after number [] line rest e = record { first = line; rest = rest; is = refl; ends = or_right (is_subdevice line) (is_signals line) e }
ends_after number (s ∷ subs) line rest e = record {
  first = head_at number s;
  rest = numbered (number + 1) (words_of s ++ flat_map sub_lines subs) ++ line ∷ rest;
  is = refl;
  ends = refl;
}

next_back : (end count number : ℕ) (s : SubText) (lines : List LineText) → Ends lines → count < 16 → IsSaidSub s → next_block s.version end count (head_at number s) (numbered (number + 1) (words_of s) ++ lines) ≡ Ok s
next_back end count number s lines e few h =
    let inside : List LineText = numbered (number + 1) (words_of s) in
    let none = items_inside (number + 1) s h in
    let stop : ℕ = next_number end (lines_after (inside ++ e.first ∷ e.rest)) in
    ap (λ (ls : List LineText). next_block s.version end count (head_at number s) (inside ++ ls)) e.is
    ∙ ap (λ (ls : List LineText). block_at s.version stop count (head_at number s) ls) (cut_inside inside e.first e.rest none e.ends)
    ∙ block_back stop count number s few h

next_fits : (version end count number : ℕ) (s : SubText) (lines : List LineText) → Ends lines → count < 16 → Fits version s →
    next_block version end count (head_at number s) (numbered (number + 1) (words_of s) ++ lines) ≡ Ok s
next_fits version end count number s lines e few h =
    ap (λ (v : ℕ). next_block v end count (head_at number s) (numbered (number + 1) (words_of s) ++ lines)) (sym h.has_version) ∙ next_back end count number s lines e few h.said

skipped : (version end count number : ℕ) (s : SubText) (lines : List LineText) → Ends lines → IsSaidSub s → blocks_from version end count (numbered number (words_of s) ++ lines) ≡ blocks_from version end count lines
skipped version end count number s lines e h =
    let inside : List LineText = numbered number (words_of s) in
    skip_block version end count (inside ++ lines)
    ∙ ap (λ (ls : List LineText). blocks_from version end count (lines_after (inside ++ ls))) e.is
    ∙ ap (blocks_from version end count) (cut_lines inside e.first e.rest (items_inside number s h) e.ends ∙ sym e.is)

-- the lines of the first block, and those after it
cut_first : (number : ℕ) (s : SubText) (subs : List SubText) (lines : List LineText) →
    numbered number (words_of s ++ flat_map sub_lines subs) ++ lines ≡ numbered number (words_of s) ++ (numbered (number + length (words_of s)) (flat_map sub_lines subs) ++ lines)
cut_first number s subs lines =
    ap (λ (ls : List LineText). ls ++ lines) (numbered-append number (words_of s) (flat_map sub_lines subs))
    ∙ append_assoc (numbered number (words_of s)) (numbered (number + length (words_of s)) (flat_map sub_lines subs)) lines

blocks_back : (version end count number : ℕ) (subs : List SubText) (line : LineText) (rest : List LineText) → All (Fits version) subs → count + length subs ≤ 16 → is_signals line ≡ true →
    blocks_from version end count (numbered number (flat_map sub_lines subs) ++ line ∷ rest) ≡ Ok subs
unfolding words_of
blocks_back version end count number [] line rest h few e =
    ap (λ b. cond b (Ok []) (cond (is_subdevice line) (next_block version end count line rest >>= λ sub. blocks_from version end (count + 1) rest >>= λ subs. Ok (sub ∷ subs)) (blocks_from version end count rest))) e
blocks_back version end count number (s ∷ subs) line rest h few e =
    let inside : List LineText = numbered (number + 1) (words_of s) in
    let after : ℕ = number + 1 + length (words_of s) in
    let lines : List LineText = numbered after (flat_map sub_lines subs) ++ line ∷ rest in
    let ends = ends_after after subs line rest e in
    let fits : Fits version s = h 0 s (omega arith) in
    let later = blocks_back version end (count + 1) after subs line rest (λ k d below. h (suc k) d (omega arith)) (omega arith) e in
    ap (λ (ls : List LineText). next_block version end count (head_at number s) ls >>= λ sub. blocks_from version end (count + 1) ls >>= λ more. Ok (sub ∷ more)) (cut_first (number + 1) s subs (line ∷ rest))
    ∙ ap (λ x. x >>= λ sub. blocks_from version end (count + 1) (inside ++ lines) >>= λ more. Ok (sub ∷ more)) (next_fits version end count number s lines ends (omega arith) fits)
    ∙ ap (λ x. x >>= λ more. Ok (s ∷ more)) (skipped version end (count + 1) (number + 1) s lines ends fits.said ∙ later)

-- the whole text

subs_lines : (subs : List SubText) → All IsSaidSub subs → list_all is_line (flat_map sub_lines subs) ≡ true
subs_lines [] h = refl
subs_lines (s ∷ subs) h =
    let here : IsSaidSub s = h 0 s (omega arith) in
    list_all-append is_line (sub_lines s) (flat_map sub_lines subs)
    ∙ and_true _ _ (and_true _ _ (head_is_line s here.sound) (back.lines_good board_table (head_of s) s.block board_is_table (is_said s here).whole (omega (arith, here.sound.few_channels)))) (subs_lines subs (λ k d below. h (suc k) d (omega arith)))

name_word : (name : List ℕ) → 1 ≤ length name → list_all is_printable name ≡ true → is_word name ≡ true
name_word name h p = and_true _ _ (some name h) p
  where
    some : (xs : List ℕ) → 1 ≤ length xs → is_not_empty xs ≡ true
    some xs h = grind (arith, nat_tests)

-- the versions of `comedi`
first_versions : (version : ℕ) → IsFrom1To 3 version → is_wide version ≡ false → IsFrom1To 2 version
first_versions version h e = record { low = h.low; high = grind (arith, nat_tests) }

version_is_line : (version : ℕ) → IsFrom1To 3 version → is_line (version_line version) ≡ true
version_is_line version h = by (is_wide version) refl
  where
    by : (wide : Bool) → is_wide version ≡ wide → is_line (cond wide (codes "zendrouz" ∷ codes "1" ∷ []) (codes "comedi" ∷ decimal version ∷ [])) ≡ true
    by true e = refl
    by false e = and_true _ true (word-decimal version (omega (arith, h.high))) refl

board_is_lines : (b : BoardText) → IsSoundBoard b → All IsSaidSub b.subs → list_all is_line (board_lines b) ≡ true
board_is_lines b h subs = and_true _ _ (version_is_line b.version h.version) (and_true _ _ (and_true _ true (name_word b.name h.name.low h.printable) refl) (subs_lines b.subs subs))

-- each subdevice of a sound board is of its version
subs_fit : (version : ℕ) (subs : List SubText) → list_all (λ sub. sub.version == version) subs ≡ true → All IsSaidSub subs → All (Fits version) subs
subs_fit version subs v h = λ k d below. record { said = h k d below; has_version = eqb-true _ version (AllPass-from_list_all (λ sub. sub.version == version) subs v k d below) }

-- the text is that of its lines
subs_text : (subs : List SubText) → flat_map block_text subs ≡ text_of (flat_map sub_lines subs)
subs_text [] = refl
subs_text (s ∷ subs) =
    ap₂ (λ (x y : List ℕ). (written_line (head_line s) ++ x) ++ y) (sym (flat_map-map written_line (item_words board_table) s.block)) (subs_text subs)
    ∙ sym (flat_map-append written_line (sub_lines s) (flat_map sub_lines subs))

board_text_lines : (b : BoardText) → printed_board b ≡ text_of (board_lines b)
board_text_lines b = ap (λ (x : List ℕ). written_line (version_line b.version) ++ (written_line (name_line b.name) ++ x)) (subs_text b.subs)

-- no line before the end begins with `signals`

no_signals : (lines : List LineText) → none_pass ends_block lines ≡ true → none_pass is_signals lines ≡ true
no_signals [] h = refl
no_signals (line ∷ lines) h =
    let b = both (not (ends_block line)) (none_pass ends_block lines) h in
    and_true _ _ (other (is_subdevice line) (is_signals line) b.0) (no_signals lines b.1)
  where
    other : (a b : Bool) → not (a || b) ≡ true → not b ≡ true
    other true b e = cc
    other false b e = e

subs_no_signals : (number : ℕ) (subs : List SubText) → All IsSaidSub subs → none_pass is_signals (numbered number (flat_map sub_lines subs)) ≡ true
unfolding words_of
subs_no_signals number [] h = refl
subs_no_signals number (s ∷ subs) h =
    ap (none_pass is_signals) (numbered-append number (sub_lines s) (flat_map sub_lines subs))
    ∙ list_all-append (λ line. not (is_signals line)) (numbered number (sub_lines s)) (numbered (number + length (sub_lines s)) (flat_map sub_lines subs))
    ∙ and_true _ _ (no_signals (numbered (number + 1) (words_of s)) (items_inside (number + 1) s (h 0 s (omega arith))))
    (subs_no_signals (number + length (sub_lines s)) subs (λ k d below. h (suc k) d (omega arith)))

version_no_signals : (version : ℕ) → is_signals (record { number = 1; words = version_line version; bad = false }) ≡ false
version_no_signals version = by (is_wide version)
  where
    by : (wide : Bool) → is_signals (record { number = 1; words = cond wide (codes "zendrouz" ∷ codes "1" ∷ []) (codes "comedi" ∷ decimal version ∷ []); bad = false }) ≡ false
    by true = refl
    by false = refl

board_no_signals : (b : BoardText) → All IsSaidSub b.subs → none_pass is_signals (numbered 1 (board_lines b)) ≡ true
board_no_signals b h = and_true _ _ (ap not (version_no_signals b.version)) (subs_no_signals 3 b.subs h)

-- the line after

signals_words : (words : List (List ℕ)) → begins_words (codes "signals") words ≡ true → (not (length words == 0) && not (is_comment words)) ≡ true
signals_words [] h = cc
signals_words (word ∷ words) h = and_true _ _ (some word words) (ap (λ (w : List ℕ). not (is_comment (w ∷ words))) ((bytes_eq-Decides word (codes "signals")).0 h))
  where
    some : (word : List ℕ) (words : List (List ℕ)) → not (length (word ∷ words) == 0) ≡ true
    some word words = grind (arith, nat_tests)

signals_counts : (line : LineText) → is_signals line ≡ true → text_counts line ≡ true
signals_counts line h = by line.bad (signals_words line.words (both (not line.bad) (begins_words (codes "signals") line.words) h).1)
  where
    by : (bad : Bool) → (not (length line.words == 0) && not (is_comment line.words)) ≡ true → (bad || (not (length line.words == 0) && not (is_comment line.words))) ≡ true
    by true h = refl
    by false h = h

no_signals_nowhere : (more : List ℕ) → is_signals (line_text (1, before_first is_line_feed more)) ≡ true → 0 < length more
no_signals_nowhere [] h = cc
no_signals_nowhere (c ∷ more) h = omega arith

-- the text after begins with the line
after_line : (number : ℕ) (more : List ℕ) → BeginsSignals more →
    lines_from number (raw_lines more) ≡ line_text (number, before_first is_line_feed more) ∷ lines_from (number + 1) (raw_lines (after_first is_line_feed more))
after_line number more h =
    ap (lines_from number) (raw_lines-cons more (no_signals_nowhere more h))
    ∙ lines_from-cons number (before_first is_line_feed more) (raw_lines (after_first is_line_feed more))
    ∙ ap (λ b. cond b (line_text (number, before_first is_line_feed more) ∷ []) [] ++ lines_from (number + 1) (raw_lines (after_first is_line_feed more))) (signals_counts (line_text (number, before_first is_line_feed more)) h)

-- the board part

first_block : (end number : ℕ) (subs : List SubText) (lines : List LineText) → 1 ≤ length subs → fixed end (codes "subdevice") any_words (numbered number (flat_map sub_lines subs) ++ lines) ≡ Ok true
first_block end number [] lines h = absurd (omega arith)
first_block end number (s ∷ subs) lines h = refl

less_33 : (n : ℕ) → n ≤ 32 → nat_le n 32 ≡ true
less_33 n h = grind (arith, nat_tests)

version_back : (version end : ℕ) (lines : List LineText) → IsFrom1To 3 version → version_of end (numbered 1 (version_line version ∷ []) ++ lines) ≡ Ok version
version_back version end lines h = by (is_wide version) refl
  where
    last : (version : ℕ) → IsFrom1To 3 version → is_wide version ≡ true → 3 ≡ version
    last version h e = let least = leb-true 3 version e in omega (arith, least, h.high)

    by : (wide : Bool) → is_wide version ≡ wide →
        version_of end (numbered 1 (cond wide (codes "zendrouz" ∷ codes "1" ∷ []) (codes "comedi" ∷ decimal version ∷ []) ∷ []) ++ lines) ≡ Ok version
    by true e = ap Ok (last version h e)
    by false e =
        let old = first_versions version h e in
        ap (λ r. at_line 1 (r >>= λ (v : ℕ). Ok v))
        (number_in-decimal 1 2 version (omega (arith, old.high)) (and_true _ _ (le-leb 1 version old.low) (le-leb version 2 old.high)))

lines_back : (b : BoardText) (end : ℕ) (line : LineText) (rest : List LineText) → IsSoundBoard b → All IsSaidSub b.subs → is_signals line ≡ true → board_of end (numbered 1 (board_lines b) ++ line ∷ rest) ≡ Ok (b, length (board_lines b))
lines_back b end line rest h sound e =
    let blocks : List LineText = numbered 3 (flat_map sub_lines b.subs) ++ line ∷ rest in
    let place : ℕ = position_or_len is_signals (numbered 1 (board_lines b) ++ line ∷ rest) in
    let few = h.subs.high in
    ap (λ r. r >>= λ (version : ℕ). at_line 2 (limited (nat_le (length b.name) 32) b.name) >>= λ name. fixed end (codes "subdevice") any_words blocks >>= λ any. blocks_from version end 0 blocks >>= λ subs. Ok (record { version = version; name = name; subs = subs }, place))
    (version_back b.version end (numbered 2 (name_line b.name ∷ flat_map sub_lines b.subs) ++ line ∷ rest) h.version)
    ∙ ap (λ t. at_line 2 (limited t b.name) >>= λ name. fixed end (codes "subdevice") any_words blocks >>= λ any. blocks_from b.version end 0 blocks >>= λ subs. Ok (record { version = b.version; name = name; subs = subs }, place)) (less_33 (length b.name) h.name.high)
    ∙ ap (λ x. x >>= λ (any : Bool). blocks_from b.version end 0 blocks >>= λ subs. Ok (record { version = b.version; name = b.name; subs = subs }, place)) (first_block end 3 b.subs (line ∷ rest) h.subs.low)
    ∙ ap (λ x. x >>= λ subs. Ok (record { version = b.version; name = b.name; subs = subs }, place)) (blocks_back b.version end 0 3 b.subs line rest (subs_fit b.version b.subs h.blocks sound) (omega arith) e)
    ∙ ap (λ (n : ℕ). Ok (b, n)) (position_after is_signals (numbered 1 (board_lines b)) line rest (board_no_signals b sound) e ∙ length-numbered 1 (board_lines b))

pub printed_reads : PrintedReads
printed_reads b h sound more end begins =
    let after : ℕ = 1 + length (board_lines b) in
    ap (λ (text : List ℕ). board_of end (lines_of (text ++ more))) (board_text_lines b)
    ∙ ap (board_of end) (lines_from-written 1 (board_lines b) more (board_is_lines b h sound) ∙ ap (λ (ls : List LineText). numbered 1 (board_lines b) ++ ls) (after_line after more begins))
    ∙ lines_back b end (line_text (after, before_first is_line_feed more)) (lines_from (after + 1) (raw_lines (after_first is_line_feed more))) h sound begins
