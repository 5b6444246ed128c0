-- The subdevices that a text describes are sound.
use Rattle.std.proofs.Common.{◌≡◌, ℕ, zero, suc, ◌+◌, ◌≤◌, Bool, true, false, cond, List, [], ◌∷◌, drop, Result, Ok, Err, refl, ap, ◌∙◌, IsTrue, nat_le, arith}
use Rattle.std.specs.Prelude.{codes, ◌&&◌}
use Rattle.std.specs.List.{All}
use Rattle.std.specs.Result.{IfOk}
use Rattle.std.proofs.lemmas.Bool.Decides.{nat_tests}
use Rattle.cm_base.specs.Lines.{LineText}
use Rattle.cm_base.specs.Parts.{fixed}
use Rattle.cm_base.specs.Reading.{◌>>=◌, at_line}
use Rattle.cm_base.specs.Refusal.{next_number}
use Rattle.cm_base.specs.Words.{number_in, one_word}
use Rattle.cm_base.specs.declared.faults.Fault.{Fault}
use Rattle.cm_base.specs.declared.faults.Fault.TheVariants as faults
use Rattle.cm_base.specs.declared.faults.Refused.{Refused}
use Rattle.cm_base.proofs.Oks.{after_any, at_line_keeps, fixed_ok, number_ok, ok_keeps, then_ok, weaker}
use Rattle.cm_board.specs.Board.{BoardText, IsSoundSub, SubText}
use Rattle.cm_board.specs.BoardTable.{board_table}
use Rattle.cm_board.specs.Items.{ItemText}
use Rattle.cm_board.specs.Said.{sub_of}
use Rattle.cm_board.specs.declared.table.Head.{Head}
use Rattle.cm_board_text.specs.Block.{checked, finished, is_board_ok}
use Rattle.cm_board_text.specs.BoardPart.{any_words, begins_wide, block_at, block_lines, blocks_from, board_of, head_after, is_signals, is_subdevice, lines_after, name_words, next_block, version_of, version_words, wide_words}
use Rattle.cm_board_text.specs.Reading.{completed, items_said}
use Rattle.cm_board_text.specs.SoundBoards.{BoardsAreSound}
use Rattle.cm_board_text.proofs.BlockEnd.{are_whole, sub_sound}
use Rattle.cm_board_text.proofs.BoardKept.{head_keeps, head_version}

-- a block that is read
block_sound : (version stop count : ℕ) (line : LineText) (inside : List LineText) → 1 ≤ version → IfOk (block_at version stop count line inside) IsSoundSub
block_sound version stop count line inside some = by_head (at_line line.number (head_after version count line)) refl
  where
    by_ok : (head : Head) (items all : List ItemText) (ok : Bool) → at_line line.number (head_after version count line) ≡ Ok head →
        items_said board_table head inside ≡ Ok items → completed board_table head items ≡ Ok all → is_board_ok (sub_of head all) ≡ ok →
        IfOk (cond ok (Ok (sub_of head all)) (Err faults.Bad)) IsSoundSub
    by_ok head items all false h i c e = tt
    by_ok head items all true h i c e =
        let said = ap (λ (r : Result (List ItemText) Refused). r >>= λ items. at_line stop (completed board_table head items)) i ∙ ap (at_line stop) c in
        sub_sound head all (sub_of head all) (are_whole stop head inside all said) (head_keeps line.number version count line head h) (head_version line.number version count line head some h) refl e

    by_all : (head : Head) (items : List ItemText) (r : Result (List ItemText) Fault) → at_line line.number (head_after version count line) ≡ Ok head →
        items_said board_table head inside ≡ Ok items → completed board_table head items ≡ r → IfOk (r >>= λ all. checked (sub_of head all)) IsSoundSub
    by_all head items (Ok all) h i c = by_ok head items all (is_board_ok (sub_of head all)) h i c refl
    by_all head items (Err fault) h i c = tt

    by_items : (head : Head) (r : Result (List ItemText) Refused) → at_line line.number (head_after version count line) ≡ Ok head →
        items_said board_table head inside ≡ r → IfOk (r >>= λ items. at_line stop (finished head items)) IsSoundSub
    by_items head (Ok items) h i = at_line_keeps IsSoundSub stop (finished head items) (by_all head items (completed board_table head items) h i refl)
    by_items head (Err fault) h i = tt

    by_head : (r : Result Head Refused) → at_line line.number (head_after version count line) ≡ r →
        IfOk (r >>= λ head. items_said board_table head inside >>= λ items. at_line stop (finished head items)) IsSoundSub
    by_head (Ok head) h = by_items head (items_said board_table head inside) h refl
    by_head (Err fault) h = tt

-- one more
more_sound : (sub : SubText) (subs : List SubText) → IsSoundSub sub → All IsSoundSub subs → All IsSoundSub (sub ∷ subs)
more_sound sub subs here rest zero d within = here
more_sound sub subs here rest (suc k) d within = rest k d (omega (arith, within))

none_sound : All IsSoundSub []
none_sound k d within = absurd (omega (arith, within))

blocks_sound : (version end count : ℕ) (lines : List LineText) → 1 ≤ version → IfOk (blocks_from version end count lines) (All IsSoundSub)
blocks_sound version end count [] some = tt
blocks_sound version end count (line ∷ rest) some =
    split (is_signals line) (is_subdevice line) (blocks_sound version end count rest some) (blocks_sound version end (count + 1) rest some)
  where
    split : (signals subdevice : Bool) → IfOk (blocks_from version end count rest) (All IsSoundSub) → IfOk (blocks_from version end (count + 1) rest) (All IsSoundSub) →
        IfOk (cond signals (Ok []) (cond subdevice (next_block version end count line rest >>= λ sub. blocks_from version end (count + 1) rest >>= λ subs. Ok (sub ∷ subs)) (blocks_from version end count rest))) (All IsSoundSub)
    split true subdevice other later = none_sound
    split false false other later = other
    split false true other later =
        then_ok IsSoundSub (All IsSoundSub) (next_block version end count line rest) _ (block_sound version (next_number end (lines_after rest)) count line (block_lines rest) some)
        (λ sub here. then_ok (All IsSoundSub) (All IsSoundSub) (blocks_from version end (count + 1) rest) _ later (λ subs all. more_sound sub subs here all))

-- the version of a text is never 0
IsVersion : ℕ → Type 0
IsVersion version = 1 ≤ version

low : (most n : ℕ) → IsTrue (nat_le 1 n && nat_le n most) → IsVersion n
unfolding IsVersion
low most n h = grind (arith, nat_tests)

version_some : (end : ℕ) (lines : List LineText) → IfOk (version_of end lines) IsVersion
unfolding IsVersion
version_some end lines = by (begins_wide lines)
  where
    plain : (words : List (List ℕ)) → IfOk (version_words words) IsVersion
    plain words = after_any IsVersion (one_word words) _ (λ w. then_ok IsVersion IsVersion (number_in 1 2 w) _ (weaker _ IsVersion (low 2) (number_in 1 2 w) (number_ok 1 2 w)) (λ n h. h))

    wide : (words : List (List ℕ)) → IfOk (wide_words words) IsVersion
    wide words = after_any IsVersion (one_word words) _ (λ w. after_any IsVersion (number_in 1 1 w) _ (λ n. omega arith))

    by : (b : Bool) → IfOk (cond b (fixed end (codes "zendrouz") wide_words lines) (fixed end (codes "comedi") version_words lines)) IsVersion
    by true = fixed_ok IsVersion end (codes "zendrouz") wide_words lines wide
    by false = fixed_ok IsVersion end (codes "comedi") version_words lines plain

-- a board that is read
IsRead : BoardText × ℕ → Type 0
IsRead b = All IsSoundSub b.0.subs

pub boards_sound : BoardsAreSound
unfolding IsRead IsVersion
boards_sound end lines board place e =
    ok_keeps IsRead (board_of end lines) (board, place) e
    (then_ok IsVersion IsRead (version_of end lines) _ (version_some end lines) (λ version some.
    after_any IsRead (fixed end (codes "board") name_words (drop 1 lines)) _ (λ name.
    after_any IsRead (fixed end (codes "subdevice") any_words (drop 2 lines)) _ (λ any2.
    then_ok (All IsSoundSub) IsRead (blocks_from version end 0 (drop 2 lines)) _ (blocks_sound version end 0 (drop 2 lines) some) (λ subs all. all)))))
