-- What is refused of a board part is the first line that fails.
use Rattle.std.proofs.Common.{◌≡◌, ℕ, zero, suc, ◌+◌, ◌≤◌, Bool, true, false, cond, not, ◌||◌, List, [], ◌∷◌, ◌++◌, length, take, drop, refl, sym, ap, ap₂, subst, ◌∙◌, Result, Ok, Err, codes, arith, append_assoc, append-nil, length-drop, inl, inr, ◌⊎◌}
use Rattle.std.specs.List.{position_or_len}
use Rattle.std.proofs.lemmas.Bool.{cond-true}
use Rattle.std.proofs.lemmas.List.{take-append-drop}
use Rattle.std.proofs.lemmas.List.Folds.{list_all-append}
use Rattle.cm_base.specs.Lines.{LineText}
use Rattle.cm_base.specs.Parts.{begins, fixed}
use Rattle.cm_base.specs.Reading.{◌>>=◌, at_line, read_each}
use Rattle.cm_base.specs.Refusal.{FirstFault, next_number}
use Rattle.cm_base.specs.Words.{Form}
use Rattle.cm_base.specs.declared.faults.Fault.{Fault}
use Rattle.cm_base.specs.declared.faults.Fault.TheVariants as faults
use Rattle.cm_base.specs.declared.faults.Refused.{Refused}
use Rattle.cm_base.proofs.Bools.{and_true, both, not_true}
use Rattle.cm_base.proofs.Refusal.{each_refused, each_refuses, err_is, fixed_number, keyed}
use Rattle.cm_board.specs.Board.{BoardText, SubText}
use Rattle.cm_board.specs.BoardTable.{board_table}
use Rattle.cm_board.specs.Items.{ItemText}
use Rattle.cm_board.specs.declared.table.Head.{Head}
use Rattle.cm_board_text.specs.Block.{finished}
use Rattle.cm_board_text.specs.BoardPart.{any_words, block_at, block_lines, blocks_from, board_of, ends_block, head_after, is_between, is_signals, is_subdevice, lines_after, name_words, version_of, version_words, wide_words}
use Rattle.cm_board_text.specs.Refusal.{FirstIsRefused, IsFirstFault}
use Rattle.cm_board_text.specs.Reading.{item_after, items_said}
use Rattle.cm_board_text.proofs.Blocks.{between_blocks, first_of_two, none_pass, skip_block}
use Rattle.cm_board_text.proofs.Prefix.{after_end, after_more, inside_end, inside_more}

ok_no_error : {X : Type 0} {x : X} {refused : Refused} → Ok x ≡ Err refused → ⊥
ok_no_error e = cc

-- the lines of a block, cut from those after it

cut_inside : (inside x : List LineText) → none_pass ends_block inside ≡ true → is_between x ≡ true → block_lines (inside ++ x) ≡ inside
cut_inside [] [] h b = refl
cut_inside [] (line ∷ rest) h b = inside_end line rest b
cut_inside (line ∷ inside) x h b =
    let n = both (not (ends_block line)) (none_pass ends_block inside) h in
    inside_more line (inside ++ x) (not_true (ends_block line) n.0) ∙ ap (λ (ls : List LineText). line ∷ ls) (cut_inside inside x n.1 b)

cut_after : (inside x : List LineText) → none_pass ends_block inside ≡ true → is_between x ≡ true → lines_after (inside ++ x) ≡ x
cut_after [] [] h b = refl
cut_after [] (line ∷ rest) h b = after_end line rest b
cut_after (line ∷ inside) x h b =
    let n = both (not (ends_block line)) (none_pass ends_block inside) h in
    after_more line (inside ++ x) (not_true (ends_block line) n.0) ∙ cut_after inside x n.1 b

none_inside : (lines : List LineText) → none_pass ends_block (block_lines lines) ≡ true
none_inside [] = refl
none_inside (line ∷ rest) = at (ends_block line) refl (none_inside rest)
  where
    at : (b : Bool) → ends_block line ≡ b → none_pass ends_block (block_lines rest) ≡ true → none_pass ends_block (block_lines (line ∷ rest)) ≡ true
    at true e later = ap (none_pass ends_block) (inside_end line rest e)
    at false e later = ap (none_pass ends_block) (inside_more line rest e) ∙ and_true _ _ (ap not e) later

two_parts : (lines : List LineText) → lines ≡ block_lines lines ++ lines_after lines
two_parts lines = sym (take-append-drop (position_or_len ends_block lines) lines)

between_prefix : (xs ys : List LineText) → is_between (xs ++ ys) ≡ true → is_between xs ≡ true
between_prefix [] ys h = refl
between_prefix (x ∷ xs) ys h = h

between_next : (good rest : List LineText) → is_between (good ++ rest) ≡ true → is_between (good ++ take 1 rest) ≡ true
between_next [] [] h = refl
between_next [] (line ∷ rest) h = h
between_next (x ∷ good) rest h = h

number_next : (end : ℕ) (rest : List LineText) → next_number end (take 1 rest) ≡ next_number end rest
number_next end [] = refl
number_next end (line ∷ rest) = refl

-- a block with its head and its lines
record IsHeaded (line : LineText) (inside : List LineText) : Type 0 where
  ends : ends_block line ≡ true
  other : is_signals line ≡ false
  none : none_pass ends_block inside ≡ true

-- what is read of a block, and then of what comes after it
abbrev and_after : ℕ → ℕ → ℕ → List LineText → Result SubText Refused → Result (List SubText) Refused
and_after version end count x read = read >>= λ sub. blocks_from version end (count + 1) x >>= λ subs. Ok (sub ∷ subs)

abbrev then_blocks : ℕ → ℕ → ℕ → LineText → List LineText → List LineText → Result (List SubText) Refused
then_blocks version end count line inside x = and_after version end count x (block_at version (next_number end x) count line inside)

block_cut : (version end count : ℕ) (line : LineText) (inside x : List LineText) → IsHeaded line inside → is_between x ≡ true → blocks_from version end count (line ∷ (inside ++ x)) ≡ then_blocks version end count line inside x
block_cut version end count line inside x a b =
    first_of_two (is_signals line) (is_subdevice line) _ _ _ a.ends a.other
    ∙ ap₂ (λ (after lines : List LineText). block_at version (next_number end after) count line lines >>= λ sub. blocks_from version end (count + 1) (inside ++ x) >>= λ subs. Ok (sub ∷ subs)) (cut_after inside x a.none b) (cut_inside inside x a.none b)
    ∙ ap (λ r. block_at version (next_number end x) count line inside >>= λ sub. r >>= λ subs. Ok (sub ∷ subs)) (skip_block version end (count + 1) (inside ++ x) ∙ ap (blocks_from version end (count + 1)) (cut_after inside x a.none b))

-- a block that nothing comes after
last_cut : (version end count : ℕ) (line : LineText) (inside : List LineText) → IsHeaded line inside → blocks_from version end count (line ∷ inside) ≡ then_blocks version end count line inside []
last_cut version end count line inside a = ap (λ (ls : List LineText). blocks_from version end count (line ∷ ls)) (sym (append-nil inside)) ∙ block_cut version end count line inside [] a refl

-- the first line that fails among blocks
record BlocksFail (version end count : ℕ) (lines : List LineText) (refused : Refused) : Type 0 where
  good : List LineText
  rest : List LineText
  parts : lines ≡ good ++ rest
  line : refused.line ≡ next_number end rest
  before : (other : ℕ) → (cause : Fault) × (blocks_from version other count good ≡ Err (record { line = other; cause = cause }))
  here : blocks_from version end count (good ++ take 1 rest) ≡ Err refused

-- its head fails
head_fails : (version end count : ℕ) (line : LineText) (rest : List LineText) (cause : Fault) (refused : Refused) → IsHeaded line [] → head_after version count line ≡ Err cause → record { line = line.number; cause = cause } ≡ refused → BlocksFail version end count (line ∷ rest) refused
head_fails version end count line rest cause refused a h same = record {
  good = [];
  rest = line ∷ rest;
  parts = refl;
  line = ap (λ (r : Refused). r.line) (sym same);
  before = λ other. (faults.Missing, refl);
  here = last_cut version end count line [] a
      ∙ ap (λ r. (at_line line.number r >>= λ head. items_said board_table head [] >>= λ items. at_line end (finished head items)) >>= λ sub. blocks_from version end (count + 1) [] >>= λ subs. Ok (sub ∷ subs)) h
      ∙ ap (λ (r : Refused). Err r) same;
}

-- what a block says at its end, where its head and its lines are read
ended : (version stop count : ℕ) (line : LineText) (inside : List LineText) (head : Head) (items : List ItemText) → head_after version count line ≡ Ok head → read_each (item_after board_table head) [] inside ≡ Ok items → block_at version stop count line inside ≡ at_line stop (finished head items)
ended version stop count line inside head items h s =
    ap (λ r. at_line line.number r >>= λ head. items_said board_table head inside >>= λ items. at_line stop (finished head items)) h
    ∙ ap (λ r. r >>= λ items. at_line stop (finished head items)) s

-- a block whose head and lines are read is refused at its end, or the next one is missing there
last_fails : (version count : ℕ) (line : LineText) (inside : List LineText) (head : Head) (items : List ItemText) → IsHeaded line inside → head_after version count line ≡ Ok head → read_each (item_after board_table head) [] inside ≡ Ok items →
    (other : ℕ) → (cause : Fault) × (blocks_from version other count (line ∷ inside) ≡ Err (record { line = other; cause = cause }))
last_fails version count line inside head items a h s other = by (finished head items) refl
  where
    by : (said : Result SubText Fault) → finished head items ≡ said → (cause : Fault) × (blocks_from version other count (line ∷ inside) ≡ Err (record { line = other; cause = cause }))
    by (Err cause) e = (cause, last_cut version other count line inside a ∙ ap (λ r. r >>= λ sub. blocks_from version other (count + 1) [] >>= λ subs. Ok (sub ∷ subs)) (ended version other count line inside head items h s ∙ ap (at_line other) e))
    by (Ok sub) e = (faults.Missing, last_cut version other count line inside a ∙ ap (λ r. r >>= λ sub. blocks_from version other (count + 1) [] >>= λ subs. Ok (sub ∷ subs)) (ended version other count line inside head items h s ∙ ap (at_line other) e))

none_before : (good : List LineText) (line : LineText) (rest inside : List LineText) → inside ≡ good ++ line ∷ rest → none_pass ends_block inside ≡ true → (none_pass ends_block good ≡ true) × (ends_block line ≡ false)
none_before good line rest inside e h =
    let n = both (none_pass ends_block good) (none_pass ends_block (line ∷ rest)) (sym (list_all-append (λ l. not (ends_block l)) good (line ∷ rest)) ∙ sym (ap (none_pass ends_block) e) ∙ h) in
    (n.0, not_true (ends_block line) (both (not (ends_block line)) (none_pass ends_block rest) n.1).0)

none_through : (good : List LineText) (line : LineText) → none_pass ends_block good ≡ true → ends_block line ≡ false → none_pass ends_block (good ++ line ∷ []) ≡ true
none_through good line h e = list_all-append (λ l. not (ends_block l)) good (line ∷ []) ∙ and_true _ _ h (and_true _ _ (ap not e) refl)

-- one of its lines fails
item_fails : (version end count : ℕ) (line : LineText) (inside after : List LineText) (head : Head) (refused : Refused) → IsHeaded line inside → head_after version count line ≡ Ok head →
    FirstFault (read_each (item_after board_table head) []) (item_after board_table head) inside refused → BlocksFail version end count (line ∷ (inside ++ after)) refused
item_fails version end count line inside after head refused a h f =
    let n = none_before f.good f.line f.rest inside f.parts a.none in
    let good : IsHeaded line f.good = record { ends = a.ends; other = a.other; none = n.0 } in
    let through : IsHeaded line (f.good ++ f.line ∷ []) = record { ends = a.ends; other = a.other; none = none_through f.good f.line n.0 n.1 } in
    record {
      good = line ∷ f.good;
      rest = f.line ∷ (f.rest ++ after);
      parts = ap (λ (ls : List LineText). line ∷ ls) (ap (λ (ls : List LineText). ls ++ after) f.parts ∙ append_assoc f.good (f.line ∷ f.rest) after);
      line = f.number;
      before = last_fails version count line f.good head f.said good h f.before;
      here = last_cut version end count line (f.good ++ f.line ∷ []) through
          ∙ ap (λ r. (at_line line.number r >>= λ head. items_said board_table head (f.good ++ f.line ∷ []) >>= λ items. at_line end (finished head items)) >>= λ sub. blocks_from version end (count + 1) [] >>= λ subs. Ok (sub ∷ subs)) h
          ∙ ap (λ r. (r >>= λ items. at_line end (finished head items)) >>= λ sub. blocks_from version end (count + 1) [] >>= λ subs. Ok (sub ∷ subs)) (each_refuses (item_after board_table head) [] inside [] refused f);
    }

-- its end fails
end_fails : (version end count : ℕ) (line : LineText) (inside after : List LineText) (head : Head) (items : List ItemText) (cause : Fault) (refused : Refused) → IsHeaded line inside → is_between after ≡ true → head_after version count line ≡ Ok head →
    read_each (item_after board_table head) [] inside ≡ Ok items → finished head items ≡ Err cause → record { line = next_number end after; cause = cause } ≡ refused → BlocksFail version end count (line ∷ (inside ++ after)) refused
end_fails version end count line inside after head items cause refused a b h s f same = record {
  good = line ∷ inside;
  rest = after;
  parts = refl;
  line = ap (λ (r : Refused). r.line) (sym same);
  before = last_fails version count line inside head items a h s;
  here = block_cut version end count line inside (take 1 after) a (between_next [] after b)
      ∙ ap (λ r. r >>= λ sub. blocks_from version end (count + 1) (take 1 after) >>= λ subs. Ok (sub ∷ subs)) (ended version (next_number end (take 1 after)) count line inside head items h s ∙ ap (at_line (next_number end (take 1 after))) f)
      ∙ ap (λ (n : ℕ). Err (record { line = n; cause = cause })) (number_next end after)
      ∙ ap (λ (r : Refused). Err r) same;
}

-- a block is read, and one after it is not
later_fails : (version end count : ℕ) (line : LineText) (inside after : List LineText) (sub : SubText) (refused : Refused) → IsHeaded line inside → is_between after ≡ true → ((stop : ℕ) → block_at version stop count line inside ≡ Ok sub) →
    BlocksFail version end (count + 1) after refused → BlocksFail version end count (line ∷ (inside ++ after)) refused
later_fails version end count line inside after sub refused a b h f = record {
  good = line ∷ (inside ++ f.good);
  rest = f.rest;
  parts = ap (λ (ls : List LineText). line ∷ ls) (ap (λ (ls : List LineText). inside ++ ls) f.parts ∙ sym (append_assoc inside f.good f.rest));
  line = f.line;
  before = λ other. (
    (f.before other).0,
    block_cut version other count line inside f.good a (between_prefix f.good f.rest (sym (ap is_between f.parts) ∙ b))
        ∙ ap (λ r. r >>= λ sub. blocks_from version other (count + 1) f.good >>= λ subs. Ok (sub ∷ subs)) (h (next_number other f.good))
        ∙ ap (λ r. r >>= λ subs. Ok (sub ∷ subs)) (f.before other).1,
  );
  here = ap (λ (ls : List LineText). blocks_from version end count (line ∷ ls)) (append_assoc inside f.good (take 1 f.rest))
      ∙ block_cut version end count line inside (f.good ++ take 1 f.rest) a (between_next f.good f.rest (sym (ap is_between f.parts) ∙ b))
      ∙ ap (λ r. r >>= λ sub. blocks_from version end (count + 1) (f.good ++ take 1 f.rest) >>= λ subs. Ok (sub ∷ subs)) (h (next_number end (f.good ++ take 1 f.rest)))
      ∙ ap (λ r. r >>= λ subs. Ok (sub ∷ subs)) f.here;
}

err_more : (sub : SubText) (read : Result (List SubText) Refused) (refused : Refused) → (read >>= λ subs. Ok (sub ∷ subs)) ≡ Err refused → read ≡ Err refused
err_more sub (Ok subs) refused e = cc
err_more sub (Err r) refused e = cc

-- one block, and those after it
block_fails : (version end count : ℕ) (line : LineText) (inside after : List LineText) (refused : Refused) → IsHeaded line inside → is_between after ≡ true → then_blocks version end count line inside after ≡ Err refused →
    (blocks_from version end (count + 1) after ≡ Err refused → BlocksFail version end (count + 1) after refused) → BlocksFail version end count (line ∷ (inside ++ after)) refused
block_fails version end count line inside after refused a b e later = by_head (head_after version count line) refl
  where
    by_end : (head : Head) (items : List ItemText) → head_after version count line ≡ Ok head → read_each (item_after board_table head) [] inside ≡ Ok items → (said : Result SubText Fault) → finished head items ≡ said → BlocksFail version end count (line ∷ (inside ++ after)) refused
    by_end head items h s (Err cause) f =
        end_fails version end count line inside after head items cause refused a b h s f
        (err_is _ _ (sym (ap (and_after version end count after) (ended version (next_number end after) count line inside head items h s ∙ ap (at_line (next_number end after)) f)) ∙ e))
    by_end head items h s (Ok sub) f =
        let read : (stop : ℕ) → block_at version stop count line inside ≡ Ok sub = λ stop. ended version stop count line inside head items h s ∙ ap (at_line stop) f in
        later_fails version end count line inside after sub refused a b read (later (err_more sub (blocks_from version end (count + 1) after) refused (sym (ap (and_after version end count after) (read (next_number end after))) ∙ e)))

    by_items : (head : Head) → head_after version count line ≡ Ok head → (said : Result (List ItemText) Refused) → read_each (item_after board_table head) [] inside ≡ said → BlocksFail version end count (line ∷ (inside ++ after)) refused
    by_items head h (Ok items) s = by_end head items h s (finished head items) refl
    by_items head h (Err r) s =
        let same : r ≡ refused = err_is _ _ (sym (
        ap (λ r. and_after version end count after (at_line line.number r >>= λ head. items_said board_table head inside >>= λ items. at_line (next_number end after) (finished head items))) h
        ∙ ap (λ r. and_after version end count after (r >>= λ items. at_line (next_number end after) (finished head items))) s) ∙ e) in
        item_fails version end count line inside after head refused a h (each_refused (item_after board_table head) [] inside refused (s ∙ ap (λ (r : Refused). Err r) same))

    by_head : (said : Result Head Fault) → head_after version count line ≡ said → BlocksFail version end count (line ∷ (inside ++ after)) refused
    by_head (Ok head) h = by_items head h (read_each (item_after board_table head) [] inside) refl
    by_head (Err cause) h =
        head_fails version end count line (inside ++ after) cause refused (record { ends = a.ends; other = a.other; none = refl }) h
        (err_is _ _ (sym (ap (λ r. and_after version end count after (at_line line.number r >>= λ head. items_said board_table head inside >>= λ items. at_line (next_number end after) (finished head items))) h) ∙ e))

blocks_fail : (n version end count : ℕ) (lines : List LineText) (refused : Refused) → length lines ≤ n → is_between lines ≡ true → blocks_from version end count lines ≡ Err refused → BlocksFail version end count lines refused
blocks_fail n version end count [] refused k b e = record {
  good = [];
  rest = [];
  parts = refl;
  line = ap (λ (r : Refused). r.line) (sym (err_is _ _ e));
  before = λ other. (faults.Missing, refl);
  here = e;
}
blocks_fail zero version end count (line ∷ rest) refused k b e = absurd (omega arith)
blocks_fail (suc n) version end count (line ∷ rest) refused k b e = by (is_signals line) refl (λ r. blocks_fail n version end (count + 1) (lines_after rest) refused (shorter rest k) (between_blocks rest) r)
  where
    shorter : (rest : List LineText) → length (line ∷ rest) ≤ suc n → length (lines_after rest) ≤ n
    shorter rest k = omega (arith, length-drop (position_or_len ends_block rest) rest)

    by : (signals : Bool) → is_signals line ≡ signals → (blocks_from version end (count + 1) (lines_after rest) ≡ Err refused → BlocksFail version end (count + 1) (lines_after rest) refused) → BlocksFail version end count (line ∷ rest) refused
    by true s later = absurd (ok_no_error (sym (cond-true (is_signals line) (Ok []) _ s) ∙ e))
    by false s later =
        let a : IsHeaded line (block_lines rest) = record { ends = b; other = s; none = none_inside rest } in
        let whole : line ∷ rest ≡ line ∷ (block_lines rest ++ lines_after rest) = ap (λ (ls : List LineText). line ∷ ls) (two_parts rest) in
        subst (λ (ls : List LineText). BlocksFail version end count ls refused) (sym whole)
        (block_fails version end count line (block_lines rest) (lines_after rest) refused a (between_blocks rest)
        (sym (block_cut version end count line (block_lines rest) (lines_after rest) a (between_blocks rest)) ∙ sym (ap (blocks_from version end count) whole) ∙ e) later)

-- the lines before the blocks

-- a line that is read has its word
fixed_begins : {X : Type 0} (end : ℕ) (key : List ℕ) (form : Form X) (line : LineText) (rest : List LineText) (x : X) → fixed end key form (line ∷ rest) ≡ Ok x → begins key line ≡ true
fixed_begins {X = X} end key form line rest x e = by line.bad (begins key line) refl e
  where
    by : (bad begun : Bool) → begins key line ≡ begun → (at_line line.number (keyed line bad begun) >>= λ words. at_line words.0 (form words.1)) ≡ Ok x → begins key line ≡ true
    by true begun is e = cc
    by false false is e = cc
    by false true is e = is

-- the blocks, after the two lines before them
blocks_said : ℕ → ℕ → ℕ → List ℕ → List LineText → Result (BoardText × ℕ) Refused
blocks_said version end place name lines = fixed end (codes "subdevice") any_words lines >>= λ any. blocks_from version end 0 lines >>= λ subs. Ok (record { version = version; name = name; subs = subs }, place)

-- what two lines say before the blocks
record AreFirst (first second : LineText) (version : ℕ) (name : List ℕ) : Type 0 where
  one : version_of 0 (first ∷ []) ≡ Ok version
  two : fixed 0 (codes "board") name_words (second ∷ []) ≡ Ok name

after_two : (end : ℕ) (first second : LineText) (version : ℕ) (name : List ℕ) (lines : List LineText) → AreFirst first second version name → board_of end (first ∷ second ∷ lines) ≡ blocks_said version end (position_or_len is_signals (first ∷ second ∷ lines)) name lines
unfolding blocks_said
after_two end first second version name lines a =
    ap (λ r. r >>= λ version. fixed end (codes "board") name_words (second ∷ lines) >>= λ name. blocks_said version end (position_or_len is_signals (first ∷ second ∷ lines)) name lines) a.one
    ∙ ap (λ r. r >>= λ name. blocks_said version end (position_or_len is_signals (first ∷ second ∷ lines)) name lines) a.two

-- blocks that are refused
blocks_refused : (version end place : ℕ) (name : List ℕ) (lines : List LineText) (any : Bool) (refused : Refused) → fixed end (codes "subdevice") any_words lines ≡ Ok any → blocks_from version end 0 lines ≡ Err refused → blocks_said version end place name lines ≡ Err refused
unfolding blocks_said
blocks_refused version end place name lines any refused f e =
    ap (λ r. r >>= λ any. blocks_from version end 0 lines >>= λ subs. Ok (record { version = version; name = name; subs = subs }, place)) f ∙ ap (λ r. r >>= λ subs. Ok (record { version = version; name = name; subs = subs }, place)) e

first_refused : (version end place : ℕ) (name : List ℕ) (lines : List LineText) (refused : Refused) → fixed end (codes "subdevice") any_words lines ≡ Err refused → blocks_said version end place name lines ≡ Err refused
unfolding blocks_said
first_refused version end place name lines refused f = ap (λ r. r >>= λ any. blocks_from version end 0 lines >>= λ subs. Ok (record { version = version; name = name; subs = subs }, place)) f

-- the first block's line stands before all that is read of the blocks
same_first : (other end : ℕ) (line : LineText) (rest good more : List LineText) (any : Bool) → line ∷ rest ≡ good ++ more → fixed end (codes "subdevice") any_words (line ∷ rest) ≡ Ok any → (good ≡ []) ⊎ (fixed other (codes "subdevice") any_words good ≡ Ok any)
same_first other end line rest [] more any e f = inl refl
same_first other end line rest (g ∷ good) more any e f =
    let same : line ≡ g = cc in
    inr (ap (λ (l : LineText). fixed other (codes "subdevice") any_words (l ∷ good)) (sym same) ∙ f)

next_first : (end : ℕ) (good rest : List LineText) → fixed end (codes "subdevice") any_words (good ++ take 1 rest) ≡ fixed end (codes "subdevice") any_words (good ++ rest)
next_first end [] [] = refl
next_first end [] (line ∷ rest) = refl
next_first end (g ∷ good) rest = refl

-- blocks of which one fails
board_fails : (end : ℕ) (first second line : LineText) (rest : List LineText) (version : ℕ) (name : List ℕ) (any : Bool) (refused : Refused) → AreFirst first second version name →
    fixed end (codes "subdevice") any_words (line ∷ rest) ≡ Ok any → BlocksFail version end 0 (line ∷ rest) refused → IsFirstFault end (first ∷ second ∷ line ∷ rest) refused
board_fails end first second line rest version name any refused a f b = record {
  good = first ∷ second ∷ b.good;
  rest = b.rest;
  parts = ap (λ (ls : List LineText). first ∷ second ∷ ls) b.parts;
  line = b.line;
  before = λ other. before other (same_first other end line rest b.good b.rest any b.parts f);
  here = after_two end first second version name (b.good ++ take 1 b.rest) a
      ∙ blocks_refused version end _ name (b.good ++ take 1 b.rest) any refused (next_first end b.good b.rest ∙ sym (ap (fixed end (codes "subdevice") any_words) b.parts) ∙ f) b.here;
}
  where
    before : (other : ℕ) → (b.good ≡ []) ⊎ (fixed other (codes "subdevice") any_words b.good ≡ Ok any) → (cause : Fault) × (board_of other (first ∷ second ∷ b.good) ≡ Err (record { line = other; cause = cause }))
    before other (inl none) = (faults.Missing, ap (λ (ls : List LineText). board_of other (first ∷ second ∷ ls)) none ∙ after_two other first second version name [] a ∙ first_refused version other _ name [] (record { line = other; cause = faults.Missing }) refl)
    before other (inr some) = ((b.before other).0, after_two other first second version name b.good a ∙ blocks_refused version other _ name b.good any (record { line = other; cause = (b.before other).0 }) some (b.before other).1)

after_version : ℕ → ℕ → ℕ → List LineText → Result (BoardText × ℕ) Refused
after_version version end place lines = fixed end (codes "board") name_words lines >>= λ name. blocks_said version end place name (drop 1 lines)

one_by_one : (end : ℕ) (first : LineText) (lines : List LineText) → board_of end (first ∷ lines) ≡ (version_of end (first ∷ lines) >>= λ version. after_version version end (position_or_len is_signals (first ∷ lines)) lines)
unfolding after_version blocks_said
one_by_one end first [] = refl
one_by_one end first (second ∷ lines) = refl

-- the version is refused at its line
version_number : (end : ℕ) (first : LineText) (lines : List LineText) (refused : Refused) → version_of end (first ∷ lines) ≡ Err refused → refused.line ≡ first.number
version_number end first lines refused f = by (begins (codes "zendrouz") first) f
  where
    by : (wide : Bool) → cond wide (fixed end (codes "zendrouz") wide_words (first ∷ lines)) (fixed end (codes "comedi") version_words (first ∷ lines)) ≡ Err refused →
        refused.line ≡ first.number
    by true f = fixed_number end (codes "zendrouz") wide_words first lines refused f
    by false f = fixed_number end (codes "comedi") version_words first lines refused f

-- the line with the version fails
version_fails : (end : ℕ) (first : LineText) (lines : List LineText) (refused : Refused) → version_of end (first ∷ lines) ≡ Err refused → IsFirstFault end (first ∷ lines) refused
version_fails end first lines refused f = record {
  good = [];
  rest = first ∷ lines;
  parts = refl;
  line = version_number end first lines refused f;
  before = λ other. (faults.Missing, refl);
  here = one_by_one end first [] ∙ ap (λ r. r >>= λ version. after_version version end (position_or_len is_signals (first ∷ [])) []) f;
}

-- the line with the name fails, or is missing
name_fails : (end : ℕ) (first : LineText) (lines : List LineText) (version : ℕ) (refused : Refused) → version_of end (first ∷ []) ≡ Ok version → fixed end (codes "board") name_words lines ≡ Err refused → IsFirstFault end (first ∷ lines) refused
unfolding after_version
name_fails end first lines version refused v f = record {
  good = first ∷ [];
  rest = lines;
  parts = refl;
  line = number lines f;
  before = λ other. (faults.Missing, one_by_one other first [] ∙ ap (λ r. r >>= λ version. after_version version other (position_or_len is_signals (first ∷ [])) []) v);
  here = one_by_one end first (take 1 lines) ∙ ap (λ r. r >>= λ version. after_version version end (position_or_len is_signals (first ∷ take 1 lines)) (take 1 lines)) v
      ∙ ap (λ r. r >>= λ name. blocks_said version end (position_or_len is_signals (first ∷ take 1 lines)) name (drop 1 (take 1 lines))) (only lines f);
}
  where
    number : (lines : List LineText) → fixed end (codes "board") name_words lines ≡ Err refused → refused.line ≡ next_number end lines
    number [] f = ap (λ (r : Refused). r.line) (sym (err_is _ _ f))
    number (second ∷ rest) f = fixed_number end (codes "board") name_words second rest refused f

    only : (lines : List LineText) → fixed end (codes "board") name_words lines ≡ Err refused → fixed end (codes "board") name_words (take 1 lines) ≡ Err refused
    only [] f = f
    only (second ∷ rest) f = f

-- the first block is missing
blocks_missing : (end : ℕ) (first second : LineText) (lines : List LineText) (version : ℕ) (name : List ℕ) (refused : Refused) → AreFirst first second version name → fixed end (codes "subdevice") any_words lines ≡ Err refused → IsFirstFault end (first ∷ second ∷ lines) refused
blocks_missing end first second lines version name refused a f = record {
  good = first ∷ second ∷ [];
  rest = lines;
  parts = refl;
  line = number lines f;
  before = λ other. (faults.Missing, after_two other first second version name [] a ∙ first_refused version other _ name [] (record { line = other; cause = faults.Missing }) refl);
  here = after_two end first second version name (take 1 lines) a ∙ first_refused version end _ name (take 1 lines) refused (only lines f);
}
  where
    number : (lines : List LineText) → fixed end (codes "subdevice") any_words lines ≡ Err refused → refused.line ≡ next_number end lines
    number [] f = ap (λ (r : Refused). r.line) (sym (err_is _ _ f))
    number (line ∷ rest) f = fixed_number end (codes "subdevice") any_words line rest refused f

    only : (lines : List LineText) → fixed end (codes "subdevice") any_words lines ≡ Err refused → fixed end (codes "subdevice") any_words (take 1 lines) ≡ Err refused
    only [] f = f
    only (line ∷ rest) f = f

err_subs : (version : ℕ) (name : List ℕ) (place : ℕ) (read : Result (List SubText) Refused) (refused : Refused) → ◌≡◌ {A = Result (BoardText × ℕ) Refused} (read >>= λ subs. Ok (record { version = version; name = name; subs = subs }, place)) (Err refused) → read ≡ Err refused
err_subs version name place (Ok subs) refused e = cc
err_subs version name place (Err r) refused e = cc

-- the blocks fail
blocks_wrong : (end : ℕ) (first second : LineText) (lines : List LineText) (version : ℕ) (name : List ℕ) (refused : Refused) → AreFirst first second version name → blocks_said version end (position_or_len is_signals (first ∷ second ∷ lines)) name lines ≡ Err refused →
    IsFirstFault end (first ∷ second ∷ lines) refused
unfolding blocks_said
blocks_wrong end first second [] version name refused a e = blocks_missing end first second [] version name refused a (ap (λ (r : Refused). Err r) (err_is _ _ e))
blocks_wrong end first second (line ∷ rest) version name refused a e = by (fixed end (codes "subdevice") any_words (line ∷ rest)) refl
  where
    by : (said : Result Bool Refused) → fixed end (codes "subdevice") any_words (line ∷ rest) ≡ said → IsFirstFault end (first ∷ second ∷ line ∷ rest) refused
    by (Err r) f =
        let same : r ≡ refused = err_is _ _ (sym (ap (λ r. r >>= λ any. blocks_from version end 0 (line ∷ rest) >>= λ subs. Ok (record { version = version; name = name; subs = subs }, position_or_len is_signals (first ∷ second ∷ line ∷ rest))) f) ∙ e) in
        blocks_missing end first second (line ∷ rest) version name refused a (f ∙ ap (λ (r : Refused). Err r) same)
    by (Ok any) f =
        let begins : is_subdevice line ≡ true = fixed_begins end (codes "subdevice") any_words line rest any f in
        let fails = err_subs version name (position_or_len is_signals (first ∷ second ∷ line ∷ rest)) (blocks_from version end 0 (line ∷ rest)) refused
        (sym (ap (λ r. r >>= λ any. blocks_from version end 0 (line ∷ rest) >>= λ subs. Ok (record { version = version; name = name; subs = subs }, position_or_len is_signals (first ∷ second ∷ line ∷ rest))) f) ∙ e) in
        board_fails end first second line rest version name any refused a f
        (blocks_fail (length (line ∷ rest)) version end 0 (line ∷ rest) refused (omega arith) (ap (λ b. b || is_signals line) begins) fails)

-- what comes after the version fails
after_version_fails : (end : ℕ) (first : LineText) (lines : List LineText) (version : ℕ) (refused : Refused) → version_of end (first ∷ []) ≡ Ok version → after_version version end (position_or_len is_signals (first ∷ lines)) lines ≡ Err refused → IsFirstFault end (first ∷ lines) refused
unfolding after_version
after_version_fails end first [] version refused v e = name_fails end first [] version refused v (ap (λ (r : Refused). Err r) (err_is _ _ e))
after_version_fails end first (second ∷ lines) version refused v e = by (fixed end (codes "board") name_words (second ∷ lines)) refl
  where
    by : (said : Result (List ℕ) Refused) → fixed end (codes "board") name_words (second ∷ lines) ≡ said → IsFirstFault end (first ∷ second ∷ lines) refused
    by (Err r) f =
        let same : r ≡ refused = err_is _ _ (sym (ap (λ r. r >>= λ name. blocks_said version end (position_or_len is_signals (first ∷ second ∷ lines)) name lines) f) ∙ e) in
        name_fails end first (second ∷ lines) version refused v (f ∙ ap (λ (r : Refused). Err r) same)
    by (Ok name) f =
        blocks_wrong end first second lines version name refused (record { one = v; two = f })
        (sym (ap (λ r. r >>= λ name. blocks_said version end (position_or_len is_signals (first ∷ second ∷ lines)) name lines) f) ∙ e)

pub first_is_refused : FirstIsRefused
unfolding after_version
first_is_refused end [] refused e = record {
  good = [];
  rest = [];
  parts = refl;
  line = ap (λ (r : Refused). r.line) (sym (err_is _ _ e));
  before = λ other. (faults.Missing, refl);
  here = e;
}
first_is_refused end (first ∷ lines) refused e = by_version (version_of end (first ∷ lines)) refl
  where
    by_version : (said : Result ℕ Refused) → version_of end (first ∷ lines) ≡ said → IsFirstFault end (first ∷ lines) refused
    by_version (Err r) f =
        let same : r ≡ refused = err_is _ _ (sym (ap (λ r. r >>= λ version. after_version version end (position_or_len is_signals (first ∷ lines)) lines) f) ∙ sym (one_by_one end first lines) ∙ e) in
        version_fails end first lines refused (f ∙ ap (λ (r : Refused). Err r) same)
    by_version (Ok version) f = after_version_fails end first lines version refused f (sym (ap (λ r. r >>= λ version. after_version version end (position_or_len is_signals (first ∷ lines)) lines) f) ∙ sym (one_by_one end first lines) ∙ e)
