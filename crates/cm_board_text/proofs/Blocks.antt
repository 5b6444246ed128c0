-- Blocks one after another.
use Rattle.std.proofs.Common.{◌≡◌, ℕ, suc, ◌+◌, ◌<◌, List, [], ◌∷◌, ◌++◌, length, map, drop, get_or, refl, ap, sym, ◌∙◌, Result, Ok, Err, Bool, true, false, cond, not, ◌||◌, append_assoc, append-nil, arith, length-drop, length-append, inl, inr, ◌⊎◌, ◌≤◌}
use Rattle.std.proofs.lemmas.List.{drop_all, drop-map, drop-drop, length-map}
use Rattle.std.proofs.lemmas.Bool.{cases_lt, true≢false}
use Rattle.cm_base.specs.ReadStop.{Stops}
use Rattle.cm_base.specs.declared.faults.ReadStop.{ReadStop}
use Rattle.cm_base.specs.declared.faults.ReadStop.TheVariants as stops
use Rattle.std.specs.List.{list_all, position_or_len}
use Rattle.cm_base.specs.Lines.{LineText}
use Rattle.cm_base.specs.LineView.{line_view}
use Rattle.cm_base.specs.Reading.{◌>>=◌}
use Rattle.cm_base.specs.declared.lines.Line.{Line}
use Rattle.cm_base.specs.declared.faults.Refused.{Refused}
use Rattle.cm_base.proofs.Bools.{neither}
use Rattle.cm_base.proofs.Places.{next_line}
use Rattle.cm_board_text.specs.BoardPart.{is_part_end, blocks_from, next_block, ends_block, is_between, is_signals, is_subdevice, lines_after}
use Rattle.cm_board.specs.Board.{SubText}

second : {X : Type 0} (a b : Bool) (x y z : X) → a ≡ false → b ≡ false → cond a x (cond b y z) ≡ z
second true b x y z e f = cc
second false true x y z e f = cc
second false false x y z e f = refl

-- what is read after what has been read
abbrev pub with_prefix : {X : Type 0} → List X → Result (List X) Refused → Result (List X) Refused
with_prefix prefix read = read >>= λ more. Ok (prefix ++ more)

drop_at : (line : LineText) (more : List LineText) → Bool → List LineText
drop_at line more t = drop (cond (not t) (1 + position_or_len ends_block more) 0) (line ∷ more)

skip_line : (version end count : ℕ) (line : LineText) (more : List LineText) (b : Bool) → ends_block line ≡ b → blocks_from version end count more ≡ blocks_from version end count (lines_after more) → blocks_from version end count (line ∷ more) ≡ blocks_from version end count (lines_after (line ∷ more))
unfolding drop_at
skip_line version end count line more true e later = ap (λ t. blocks_from version end count (drop_at line more t)) (sym e)
skip_line version end count line more false e later =
    let apart = neither (is_subdevice line) (is_signals line) e in
    second (is_signals line) (is_subdevice line) _ _ _ apart.1 apart.0 ∙ later
    ∙ ap (λ (n : ℕ). blocks_from version end count (drop n (line ∷ more))) (sym (suc_is _))
    ∙ ap (λ t. blocks_from version end count (drop_at line more t)) (sym e)
  where
    suc_is : (n : ℕ) → 1 + n ≡ suc n
    suc_is n = omega arith

-- the lines of a block say nothing of the blocks after it
pub skip_block : (version end count : ℕ) (lines : List LineText) → blocks_from version end count lines ≡ blocks_from version end count (lines_after lines)
skip_block version end count [] = refl
skip_block version end count (line ∷ more) = skip_line version end count line more (ends_block line) refl (skip_block version end count more)

between_line : (line : LineText) (more : List LineText) (b : Bool) → ends_block line ≡ b → is_between (lines_after more) ≡ true → is_between (lines_after (line ∷ more)) ≡ true
unfolding drop_at
between_line line more true e later = ap (λ t. is_between (drop_at line more t)) e ∙ e
between_line line more false e later = ap (λ t. is_between (drop_at line more t)) e ∙ ap (λ (n : ℕ). is_between (drop n (line ∷ more))) (suc_is _) ∙ later
  where
    suc_is : (n : ℕ) → 1 + n ≡ suc n
    suc_is n = omega arith

-- after a block stands the next one, the `signals` line or nothing
pub between_blocks : (lines : List LineText) → is_between (lines_after lines) ≡ true
between_blocks [] = refl
between_blocks (line ∷ more) = between_line line more (ends_block line) refl (between_blocks more)

-- no line passes
abbrev pub none_pass : (LineText → Bool) → List LineText → Bool
none_pass p lines = list_all (λ line. not (p line)) lines

pub first_of_two : {X : Type 0} (a b : Bool) (x y z : X) → (b || a) ≡ true → a ≡ false → cond a x (cond b y z) ≡ y
first_of_two true b x y z e f = cc
first_of_two false true x y z e f = refl
first_of_two false false x y z e f = cc

with_prefix_more : (prefix : List SubText) (sub : SubText) (read : Result (List SubText) Refused) → with_prefix prefix (read >>= λ subs. Ok (sub ∷ subs)) ≡ with_prefix (prefix ++ sub ∷ []) read
with_prefix_more prefix sub (Ok subs) = ap Ok (sym (append_assoc prefix (sub ∷ []) subs))
with_prefix_more prefix sub (Err r) = refl

-- one block more
pub one_more : (version end count : ℕ) (prefix : List SubText) (line : LineText) (rest : List LineText) (sub : SubText) → ends_block line ≡ true → is_signals line ≡ false → next_block version end count line rest ≡ Ok sub → with_prefix prefix (blocks_from version end count (line ∷ rest)) ≡ with_prefix (prefix ++ sub ∷ []) (blocks_from version end (count + 1) (lines_after rest))
one_more version end count prefix line rest sub ends other said =
    ap (with_prefix prefix) (first_of_two (is_signals line) (is_subdevice line) _ _ _ ends other ∙ ap (λ r. r >>= λ sub. blocks_from version end (count + 1) rest >>= λ subs. Ok (sub ∷ subs)) said)
    ∙ with_prefix_more prefix sub (blocks_from version end (count + 1) rest) ∙ ap (with_prefix (prefix ++ sub ∷ [])) (skip_block version end (count + 1) rest)

-- a block that is refused
pub last_block : (version end count : ℕ) (prefix : List SubText) (line : LineText) (rest : List LineText) (r : Refused) → ends_block line ≡ true → is_signals line ≡ false → next_block version end count line rest ≡ Err r → with_prefix prefix (blocks_from version end count (line ∷ rest)) ≡ Err r
last_block version end count prefix line rest r ends other said =
    ap (with_prefix prefix) (first_of_two (is_signals line) (is_subdevice line) _ _ _ ends other ∙ ap (λ r. r >>= λ sub. blocks_from version end (count + 1) rest >>= λ subs. Ok (sub ∷ subs)) said)

cases_end : (lines : List Line) (at : ℕ) → (at < length lines) ⊎ (length lines ≤ at) → is_part_end (map line_view (drop at lines)) ≡ false → at < length lines
cases_end lines at (inl h) e = h
cases_end lines at (inr h) e = absurd (true≢false (sym (ap (λ (ls : List Line). is_part_end (map line_view ls)) (drop_all at lines h)) ∙ e))

-- where a block stands there is a line
pub within_lines : (lines : List Line) (at : ℕ) → is_part_end (map line_view (drop at lines)) ≡ false → at < length lines
within_lines lines at e = cases_end lines at (cases_lt at (length lines)) e

-- the lines after a block, by their place
pub after_block : (lines : List Line) (at inside : ℕ) → inside ≡ position_or_len ends_block (map line_view (drop (at + 1) lines)) → lines_after (map line_view (drop (at + 1) lines)) ≡ map line_view (drop (at + (1 + inside)) lines)
after_block lines at inside e =
    ap (λ (n : ℕ). drop n (map line_view (drop (at + 1) lines))) (sym e) ∙ drop-map line_view inside (drop (at + 1) lines)
    ∙ ap (map line_view) (drop-drop inside (at + 1) lines ∙ ap (λ (n : ℕ). drop n lines) (omega arith))

-- a block between two others, with the lines by their places
pub record Stands (lines : List Line) (at inside : ℕ) (head : Line) : Type 0 where
  pub within : at < length lines
  pub first : head ≡ get_or lines at head
  pub between : is_between (map line_view (drop at lines)) ≡ true
  pub more : is_part_end (map line_view (drop at lines)) ≡ false
  pub length_is : inside ≡ position_or_len ends_block (map line_view (drop (at + 1) lines))

pub block_reported : (version end count : ℕ) (prefix : List SubText) (lines : List Line) (at inside : ℕ) (head : Line) (sub : SubText) → Stands lines at inside head → next_block version end count (line_view head) (map line_view (drop (at + 1) lines)) ≡ Ok sub → with_prefix prefix (blocks_from version end count (map line_view (drop at lines))) ≡ with_prefix (prefix ++ sub ∷ []) (blocks_from version end (count + 1) (map line_view (drop (at + (1 + inside)) lines)))
block_reported version end count prefix lines at inside head sub s said =
    let here = next_line lines at head s.within s.first in
    ap (λ (ls : List LineText). with_prefix prefix (blocks_from version end count ls)) here
    ∙ one_more version end count prefix (line_view head) (map line_view (drop (at + 1) lines)) sub (sym (ap is_between here) ∙ s.between) (sym (ap is_part_end here) ∙ s.more) said
    ∙ ap (λ (ls : List LineText). with_prefix (prefix ++ sub ∷ []) (blocks_from version end (count + 1) ls)) (after_block lines at inside s.length_is)

pub block_between : (lines : List Line) (at inside : ℕ) → inside ≡ position_or_len ends_block (map line_view (drop (at + 1) lines)) → is_between (map line_view (drop (at + (1 + inside)) lines)) ≡ true
block_between lines at inside e = ap is_between (sym (after_block lines at inside e)) ∙ between_blocks (map line_view (drop (at + 1) lines))

-- a block that is not read
pub block_stops : (version end count : ℕ) (prefix : List SubText) (lines : List Line) (at inside : ℕ) (head : Line) (stop : ReadStop) → Stands lines at inside head → Stops stop (next_block version end count (line_view head) (map line_view (drop (at + 1) lines))) → Stops stop (with_prefix prefix (blocks_from version end count (map line_view (drop at lines))))
block_stops version end count prefix lines at inside head stops.NoMemory s said = tt
block_stops version end count prefix lines at inside head (stops.Refused r) s said =
    let here = next_line lines at head s.within s.first in
    ap (λ (ls : List LineText). with_prefix prefix (blocks_from version end count ls)) here
    ∙ last_block version end count prefix (line_view head) (map line_view (drop (at + 1) lines)) r (sym (ap is_between here) ∙ s.between) (sym (ap is_part_end here) ∙ s.more) said

-- at the `signals` line all blocks are read
pub at_signals : (version end count : ℕ) (prefix : List SubText) (lines : List LineText) → is_part_end lines ≡ true → 0 < length lines → with_prefix prefix (blocks_from version end count lines) ≡ Ok prefix
at_signals version end count prefix [] e h = absurd (omega arith)
at_signals version end count prefix (line ∷ lines) e h = ap (λ b. with_prefix prefix (cond b (Ok []) (cond (is_subdevice line) (next_block version end count line lines >>= λ sub. blocks_from version end (count + 1) lines >>= λ subs. Ok (sub ∷ subs)) (blocks_from version end count lines)))) e ∙ ap Ok (append-nil prefix)

-- one subdevice more
pub sub_pushed : (version end : ℕ) (subs all : List SubText) (sub : SubText) (lines : List LineText) → all ≡ subs ++ sub ∷ [] → with_prefix (subs ++ sub ∷ []) (blocks_from version end (length subs + 1) lines) ≡ with_prefix all (blocks_from version end (length all) lines)
sub_pushed version end subs all sub lines e =
    ap (λ (n : ℕ). with_prefix (subs ++ sub ∷ []) (blocks_from version end n lines)) (sym (length-append subs (sub ∷ [])))
    ∙ ap (λ (ls : List SubText). with_prefix ls (blocks_from version end (length ls) lines)) (sym e)

-- lines are left before the end
pub left_over : (lines : List Line) (at : ℕ) → at ≤ length lines → (at ≡ length lines → ⊥) → 0 < length (map line_view (drop at lines))
left_over lines at h k = omega (arith, length-map (drop at lines) line_view, length-drop at lines)
