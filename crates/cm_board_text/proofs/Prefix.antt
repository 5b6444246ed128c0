-- The board part is read from the lines up to the `signals` line alone.
use Rattle.std.proofs.Common.{◌≡◌, ℕ, suc, ◌+◌, Bool, true, false, cond, not, List, [], ◌∷◌, take, drop, refl, sym, ap, ap₂, ◌∙◌, Result, Ok, Err, codes, arith}
use Rattle.std.specs.List.{position_or_len}
use Rattle.std.proofs.lemmas.Bool.{and_right, cond-false}
use Rattle.cm_base.specs.Refusal.{next_number}
use Rattle.cm_base.specs.Lines.{LineText}
use Rattle.cm_base.specs.Parts.{begins_words, fixed}
use Rattle.cm_base.specs.Reading.{◌>>=◌, at_line}
use Rattle.cm_base.specs.Words.{Form}
use Rattle.cm_base.specs.declared.faults.Fault.TheVariants as faults
use Rattle.cm_base.specs.declared.faults.Refused.{Refused}
use Rattle.cm_base.proofs.Bools.{both, neither, not_true}
use Rattle.cm_base.proofs.Refusal.{keyed}
use Rattle.cm_board.specs.Board.{BoardText, SubText}
use Rattle.cm_board_text.specs.BoardPart.{any_words, begins_wide, block_at, block_lines, blocks_from, board_of, ends_block, is_signals, is_subdevice, lines_after, name_words, next_block, version_of, version_words, wide_words}
use Rattle.cm_board_text.proofs.BoardKept.{one_key}

-- the lines up to the first `signals` line, and that line
part_lines : List LineText → List LineText
part_lines [] = []
part_lines (line ∷ rest) = line ∷ cond (is_signals line) [] (part_lines rest)

one_more : (n : ℕ) → 1 + n ≡ suc n
one_more n = omega arith

two_more : (n : ℕ) → 1 + n + 1 ≡ suc (n + 1)
two_more n = omega arith

taken : (lines : List LineText) → take (position_or_len is_signals lines + 1) lines ≡ part_lines lines
unfolding part_lines
taken [] = refl
taken (line ∷ rest) = at (is_signals line) (taken rest)
  where
    at : (b : Bool) → take (position_or_len is_signals rest + 1) rest ≡ part_lines rest → take (cond (not b) (1 + position_or_len is_signals rest) 0 + 1) (line ∷ rest) ≡ line ∷ cond b [] (part_lines rest)
    at true later = refl
    at false later = ap (λ (n : ℕ). take n (line ∷ rest)) (two_more (position_or_len is_signals rest)) ∙ ap (λ (ls : List LineText). line ∷ ls) later

place_kept : (lines : List LineText) → position_or_len is_signals (part_lines lines) ≡ position_or_len is_signals lines
unfolding part_lines
place_kept [] = refl
place_kept (line ∷ rest) = at (is_signals line) (place_kept rest)
  where
    at : (b : Bool) → position_or_len is_signals (part_lines rest) ≡ position_or_len is_signals rest → cond (not b) (1 + position_or_len is_signals (cond b [] (part_lines rest))) 0 ≡ cond (not b) (1 + position_or_len is_signals rest) 0
    at true later = refl
    at false later = ap (λ (n : ℕ). 1 + n) later

-- the place of the `signals` line among them
pub prefix_place : (place : ℕ) (lines part : List LineText) → place ≡ position_or_len is_signals lines → part ≡ take (place + 1) lines → place ≡ position_or_len is_signals part
prefix_place place lines part e f = e ∙ sym (place_kept lines) ∙ ap (position_or_len is_signals) (sym (taken lines) ∙ ap (λ (n : ℕ). take (n + 1) lines) (sym e) ∙ sym f)

-- the lines of a block, one by one

pub inside_end : (line : LineText) (more : List LineText) → ends_block line ≡ true → block_lines (line ∷ more) ≡ []
inside_end line more e = ap (λ b. take (cond (not b) (1 + position_or_len ends_block more) 0) (line ∷ more)) e

pub inside_more : (line : LineText) (more : List LineText) → ends_block line ≡ false → block_lines (line ∷ more) ≡ line ∷ block_lines more
inside_more line more e = ap (λ b. take (cond (not b) (1 + position_or_len ends_block more) 0) (line ∷ more)) e ∙ ap (λ (n : ℕ). take n (line ∷ more)) (one_more (position_or_len ends_block more))

pub after_end : (line : LineText) (more : List LineText) → ends_block line ≡ true → lines_after (line ∷ more) ≡ line ∷ more
after_end line more e = ap (λ b. drop (cond (not b) (1 + position_or_len ends_block more) 0) (line ∷ more)) e

pub after_more : (line : LineText) (more : List LineText) → ends_block line ≡ false → lines_after (line ∷ more) ≡ lines_after more
after_more line more e = ap (λ b. drop (cond (not b) (1 + position_or_len ends_block more) 0) (line ∷ more)) e ∙ ap (λ (n : ℕ). drop n (line ∷ more)) (one_more (position_or_len ends_block more))

part_more : (line : LineText) (more : List LineText) → ends_block line ≡ false → cond (is_signals line) [] (part_lines more) ≡ part_lines more
part_more line more e = cond-false (is_signals line) [] (part_lines more) (neither (is_subdevice line) (is_signals line) e).1

inside_kept : (lines : List LineText) → block_lines (part_lines lines) ≡ block_lines lines
unfolding part_lines
inside_kept [] = refl
inside_kept (line ∷ rest) = at (ends_block line) refl (inside_kept rest)
  where
    at : (b : Bool) → ends_block line ≡ b → block_lines (part_lines rest) ≡ block_lines rest → block_lines (line ∷ cond (is_signals line) [] (part_lines rest)) ≡ block_lines (line ∷ rest)
    at true e later = inside_end line (cond (is_signals line) [] (part_lines rest)) e ∙ sym (inside_end line rest e)
    at false e later =
        inside_more line (cond (is_signals line) [] (part_lines rest)) e ∙ ap (λ (ls : List LineText). line ∷ block_lines ls) (part_more line rest e) ∙ ap (λ (ls : List LineText). line ∷ ls) later
        ∙ sym (inside_more line rest e)

number_kept : (end : ℕ) (lines : List LineText) → next_number end (lines_after (part_lines lines)) ≡ next_number end (lines_after lines)
unfolding part_lines
number_kept end [] = refl
number_kept end (line ∷ rest) = at (ends_block line) refl (number_kept end rest)
  where
    at : (b : Bool) → ends_block line ≡ b → next_number end (lines_after (part_lines rest)) ≡ next_number end (lines_after rest) → next_number end (lines_after (line ∷ cond (is_signals line) [] (part_lines rest))) ≡ next_number end (lines_after (line ∷ rest))
    at true e later = ap (next_number end) (after_end line (cond (is_signals line) [] (part_lines rest)) e) ∙ sym (ap (next_number end) (after_end line rest e))
    at false e later =
        ap (next_number end) (after_more line (cond (is_signals line) [] (part_lines rest)) e) ∙ ap (λ (ls : List LineText). next_number end (lines_after ls)) (part_more line rest e) ∙ later
        ∙ sym (ap (next_number end) (after_more line rest e))

-- the blocks

block_kept : (version end count : ℕ) (line : LineText) (rest : List LineText) → next_block version end count line (part_lines rest) ≡ next_block version end count line rest
block_kept version end count line rest = ap (λ (n : ℕ). block_at version n count line (block_lines (part_lines rest))) (number_kept end rest) ∙ ap (block_at version (next_number end (lines_after rest)) count line) (inside_kept rest)

blocks_kept : (version end count : ℕ) (lines : List LineText) → blocks_from version end count (part_lines lines) ≡ blocks_from version end count lines
unfolding part_lines
blocks_kept version end count [] = refl
blocks_kept version end count (line ∷ rest) = at (is_signals line) (is_subdevice line) (blocks_kept version end count rest) (blocks_kept version end (count + 1) rest)
  where
    said : List LineText → Result (List SubText) Refused
    said ls = next_block version end count line ls >>= λ sub. blocks_from version end (count + 1) ls >>= λ subs. Ok (sub ∷ subs)

    at : (s d : Bool) → blocks_from version end count (part_lines rest) ≡ blocks_from version end count rest → blocks_from version end (count + 1) (part_lines rest) ≡ blocks_from version end (count + 1) rest →
        cond s (Ok []) (cond d (said (cond s [] (part_lines rest))) (blocks_from version end count (cond s [] (part_lines rest)))) ≡ cond s (Ok []) (cond d (said rest) (blocks_from version end count rest))
    at true d later next = refl
    at false true later next =
        ap (λ r. r >>= λ sub. blocks_from version end (count + 1) (part_lines rest) >>= λ subs. Ok (sub ∷ subs)) (block_kept version end count line rest)
        ∙ ap (λ r. next_block version end count line rest >>= λ sub. r >>= λ subs. Ok (sub ∷ subs)) next
    at false false later next = later

-- the lines before the blocks

-- a line that begins with another word
other_word : {X : Type 0} (end : ℕ) (key : List ℕ) (form : Form X) (line : LineText) (more : List LineText) → (codes "signals" ≡ key → ⊥) → is_signals line ≡ true → fixed end key form (line ∷ more) ≡ Err (record { line = line.number; cause = faults.Missing })
other_word end key form line more apart e =
    let h = both (not line.bad) (begins_words (codes "signals") line.words) e in
    ap₂ (λ bad begun. at_line line.number (keyed line bad begun) >>= λ words. at_line words.0 (form words.1))
    (not_true line.bad h.0) (and_right (not line.bad) (begins_words key line.words) (one_key line.words (codes "signals") key apart h.1))

-- what the lines after a first line say, where that line has its word
after_first : {X Y : Type 0} (end : ℕ) (key : List ℕ) (form : Form X) (f : List LineText → X → Result Y Refused) → (codes "signals" ≡ key → ⊥) → ((lines : List LineText) (x : X) → f (part_lines lines) x ≡ f lines x) →
    (lines : List LineText) → (fixed end key form (part_lines lines) >>= f (drop 1 (part_lines lines))) ≡ (fixed end key form lines >>= f (drop 1 lines))
unfolding part_lines
after_first end key form f apart kept [] = refl
after_first {X = X} {Y = Y} end key form f apart kept (line ∷ rest) = at (is_signals line) refl
  where
    same : (r : Result X Refused) → (r >>= f (part_lines rest)) ≡ (r >>= f rest)
    same (Ok x) = kept rest x
    same (Err r) = refl

    at : (b : Bool) → is_signals line ≡ b → (fixed end key form (line ∷ []) >>= f (cond b [] (part_lines rest))) ≡ (fixed end key form (line ∷ rest) >>= f rest)
    at true e = ap (λ r. r >>= f []) (other_word end key form line [] apart e) ∙ sym (ap (λ r. r >>= f rest) (other_word end key form line rest apart e))
    at false e = same (fixed end key form (line ∷ rest))

-- what the board's name and its blocks say
from_blocks : ℕ → ℕ → ℕ → List ℕ → List LineText → Result (BoardText × ℕ) Refused
from_blocks version end place name lines = fixed end (codes "subdevice") any_words lines >>= λ any. blocks_from version end 0 lines >>= λ subs. Ok (record { version = version; name = name; subs = subs }, place)

from_name : ℕ → ℕ → ℕ → List LineText → Result (BoardText × ℕ) Refused
from_name version end place lines = fixed end (codes "board") name_words lines >>= λ name. from_blocks version end place name (drop 1 lines)

from_blocks_kept : (version end place : ℕ) (name : List ℕ) (lines : List LineText) → from_blocks version end place name (part_lines lines) ≡ from_blocks version end place name lines
unfolding part_lines from_blocks
from_blocks_kept version end place name [] = refl
from_blocks_kept version end place name (line ∷ rest) =
    ap (λ r. fixed end (codes "subdevice") any_words (line ∷ rest) >>= λ any. r >>= λ subs. Ok (record { version = version; name = name; subs = subs }, place)) (blocks_kept version end 0 (line ∷ rest))

from_name_kept : (version end place : ℕ) (lines : List LineText) → from_name version end place (part_lines lines) ≡ from_name version end place lines
unfolding from_name
from_name_kept version end place lines = after_first end (codes "board") name_words (λ ls name. from_blocks version end place name ls) apart (λ ls name. from_blocks_kept version end place name ls) lines
  where
    apart : codes "signals" ≡ codes "board" → ⊥
    apart e = cc

-- the first line is among them
wide_kept : (lines : List LineText) → begins_wide (part_lines lines) ≡ begins_wide lines
unfolding part_lines
wide_kept [] = refl
wide_kept (line ∷ rest) = refl

-- the line of the version, and what comes after it
after_version : {Y : Type 0} (end : ℕ) (f : List LineText → ℕ → Result Y Refused) → ((lines : List LineText) (version : ℕ) → f (part_lines lines) version ≡ f lines version) →
    (lines : List LineText) → (version_of end (part_lines lines) >>= f (drop 1 (part_lines lines))) ≡ (version_of end lines >>= f (drop 1 lines))
after_version {Y = Y} end f kept lines =
    ap (λ wide. version_by wide (part_lines lines) >>= f (drop 1 (part_lines lines))) (wide_kept lines) ∙ by (begins_wide lines)
  where
    version_by : Bool → List LineText → Result ℕ Refused
    version_by wide lines = cond wide (fixed end (codes "zendrouz") wide_words lines) (fixed end (codes "comedi") version_words lines)

    not_wide : codes "signals" ≡ codes "zendrouz" → ⊥
    not_wide e = cc

    not_first : codes "signals" ≡ codes "comedi" → ⊥
    not_first e = cc

    by : (wide : Bool) → (version_by wide (part_lines lines) >>= f (drop 1 (part_lines lines))) ≡ (version_by wide lines >>= f (drop 1 lines))
    by true = after_first end (codes "zendrouz") wide_words f not_wide kept lines
    by false = after_first end (codes "comedi") version_words f not_first kept lines

step_by_step : (end : ℕ) (lines : List LineText) → board_of end lines ≡ (version_of end lines >>= λ version. from_name version end (position_or_len is_signals lines) (drop 1 lines))
unfolding from_name from_blocks
step_by_step end [] = refl
step_by_step end (line ∷ []) = refl
step_by_step end (line ∷ next ∷ rest) = refl

prefix_said : (end : ℕ) (lines : List LineText) → board_of end (part_lines lines) ≡ board_of end lines
prefix_said end lines =
    step_by_step end (part_lines lines)
    ∙ ap (λ (n : ℕ). version_of end (part_lines lines) >>= λ version. from_name version end n (drop 1 (part_lines lines))) (place_kept lines)
    ∙ after_version end (λ ls version. from_name version end (position_or_len is_signals lines) ls) (λ ls version. from_name_kept version end (position_or_len is_signals lines) ls) lines
    ∙ sym (step_by_step end lines)

-- the lines up to the `signals` line are read as all lines are
pub prefix_read : (end : ℕ) (lines : List LineText) → board_of end (take (position_or_len is_signals lines + 1) lines) ≡ board_of end lines
prefix_read end lines = ap (board_of end) (taken lines) ∙ prefix_said end lines

pub prefix_board : (end place : ℕ) (lines part : List LineText) → place ≡ position_or_len is_signals lines → part ≡ take (place + 1) lines → board_of end part ≡ board_of end lines
prefix_board end place lines part e f = ap (board_of end) (f ∙ ap (λ (n : ℕ). take (n + 1) lines) e) ∙ prefix_read end lines
