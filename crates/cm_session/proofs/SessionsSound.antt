-- The lines of a session that is read from a text are in order, and each is within its limits.
use Rattle.std.proofs.Common.{◌≡◌, ℕ, ◌≤◌, Bool, true, false, cond, List, [], ◌∷◌, ◌++◌, length, drop, Ok, Err, refl, nat_le, arith}
use Rattle.std.proofs.lemmas.Bool.Decides.{nat_tests}
use Rattle.std.specs.Result.{IfOk}
use Rattle.cm_base.specs.Lines.{LineText}
use Rattle.cm_base.specs.Reading.{◌>>=◌, at_line, read_each}
use Rattle.cm_base.specs.Words.{keyword, no_words, number_in, one_and_more, one_word, three_and_more, three_words, two_and_more, two_words, values}
use Rattle.cm_base.specs.declared.faults.Fault.TheVariants as faults
use Rattle.cm_base.proofs.Oks.{Each, after_any, at_line_keeps, is_read, listed_ok, number_within, ok_keeps, then_ok, values_ok}
use Rattle.cm_board.specs.Versions.{most_entries}
use Rattle.cm_cmd.specs.Command.{CmdText}
use Rattle.cm_cmd.specs.CommandText.{command_of}
use Rattle.cm_cmd.specs.ListText.{entry_of}
use Rattle.cm_cmd.specs.PrintedReads.{HasText}
use Rattle.cm_cmd.proofs.Readable.{read_has_text}
use Rattle.cm_signal.proofs.Entries.{few_entries}
use Rattle.cm_signal.specs.declared.bounds.Bounds.{Bounds}
use Rattle.cm_session.specs.Forms.{LineForm, command_words, data_word, file_word, file_words, head_of, number_words, on_file, on_sub, place_of, sub_word, sub_words, values_words, with_command, with_number, with_values}
use Rattle.cm_session.specs.Instructions.{InsnForm, bits_words, config_words, gtod_words, insn_forms, on_instruction, read_words, trigger_words, write_words}
use Rattle.cm_session.specs.Law.{SessionsAreInOrder}
use Rattle.cm_session.specs.Limits.{HasLimits, InOrder, IsLimited}
use Rattle.cm_session.specs.SessionPart.{after_time, command_lines, insn_lines, last_time, line_after, line_words, lines_by, number_lines, session_of}
use Rattle.cm_session.specs.declared.forms.LineHead.{LineHead}
use Rattle.cm_session.specs.declared.op.Op.{Op}
use Rattle.cm_session.specs.declared.op.Op.TheVariants as ops
use Rattle.cm_session.specs.declared.op.SessionLine.{SessionLine}
use Rattle.cm_session.proofs.After.{in_order_more}

-- a head by the horizon
IsHead : ℕ → LineHead → Type 0
IsHead horizon head = head.time ≤ horizon

head_ok : (bounds : Bounds) (time file : List ℕ) → IfOk (head_of bounds time file) (IsHead bounds.horizon)
unfolding IsHead
head_ok bounds time file =
    then_ok (λ t. (0 ≤ t) × (t ≤ bounds.horizon)) (IsHead bounds.horizon) (number_in 0 bounds.horizon time) _ (number_within 0 bounds.horizon time) (λ t h.
    after_any (IsHead bounds.horizon) (number_in 0 15 file) _ (λ f. h.1))

place_ok : (bounds : Bounds) (time file sub : List ℕ) → IfOk (place_of bounds time file sub) (λ at. IsHead bounds.horizon at.0)
place_ok bounds time file sub =
    then_ok (IsHead bounds.horizon) (λ (at : LineHead × ℕ). IsHead bounds.horizon at.0) (head_of bounds time file) _ (head_ok bounds time file) (λ head h.
    after_any (λ (at : LineHead × ℕ). IsHead bounds.horizon at.0) (sub_word sub) _ (λ s. h))

-- a form whose lines keep their limits
IsGood : LineForm → Type 0
IsGood form = (bounds : Bounds) (time : List ℕ) (words : List (List ℕ)) → IfOk (form bounds time words) (IsLimited bounds.horizon)

file_ok : (op : Op) → HasLimits op → IsGood (on_file op)
unfolding IsGood IsHead
file_ok op has bounds time words =
    then_ok (IsHead bounds.horizon) (IsLimited bounds.horizon) (file_words bounds time words) _
    (after_any (IsHead bounds.horizon) (one_word words) _ (λ file. head_ok bounds time file)) (λ head h. (h, has))

sub_ok : (make : ℕ → Op) → ((sub : ℕ) → HasLimits (make sub)) → IsGood (on_sub make)
unfolding IsGood IsHead
sub_ok make has bounds time words =
    then_ok (λ (w : LineHead × ℕ). IsHead bounds.horizon w.0) (IsLimited bounds.horizon) (sub_words bounds time words) _
    (after_any (λ (w : LineHead × ℕ). IsHead bounds.horizon w.0) (two_words words) _ (λ w. place_ok bounds time w.0 w.1)) (λ w h. (h, has w.1))

numbers_ok : (most : ℕ) (make : ℕ → ℕ → Op) → ((sub n : ℕ) → n ≤ most → HasLimits (make sub n)) → IsGood (with_number most make)
unfolding IsGood IsHead
numbers_ok most make has bounds time words =
    then_ok Said (IsLimited bounds.horizon) (number_words most bounds time words) _
    (after_any Said (three_words words) _ (λ w.
    then_ok (λ (at : LineHead × ℕ). IsHead bounds.horizon at.0) Said (place_of bounds time w.0 w.1) _ (place_ok bounds time w.0 w.1) (λ at h.
    then_ok (λ n. (0 ≤ n) × (n ≤ most)) Said (number_in 0 most w.2) _ (number_within 0 most w.2) (λ n k. (h, k.1)))))
    (λ w h. (h.0, has w.1 w.2 h.1))
  where
    Said : LineHead × ℕ × ℕ → Type 0
    Said w = IsHead bounds.horizon w.0 × (w.2 ≤ most)

several_ok : (make : ℕ → List ℕ → Op) → ((sub : ℕ) (xs : List ℕ) → length xs ≤ 1024 → HasLimits (make sub xs)) → IsGood (with_values make)
unfolding IsGood IsHead
several_ok make has bounds time words =
    then_ok Said (IsLimited bounds.horizon) (values_words bounds time words) _
    (after_any Said (two_and_more words) _ (λ w.
    then_ok (λ (at : LineHead × ℕ). IsHead bounds.horizon at.0) Said (place_of bounds time w.0 w.1) _ (place_ok bounds time w.0 w.1) (λ at h.
    then_ok (λ xs. (length xs ≤ 1024) × (length xs ≡ length w.2)) Said (values 1024 data_word [] w.2) _ (values_ok 1024 data_word w.2) (λ xs k. (h, k.0)))))
    (λ w h. (h.0, has w.1 w.2 h.1))
  where
    Said : LineHead × ℕ × List ℕ → Type 0
    Said w = IsHead bounds.horizon w.0 × (length w.2 ≤ 1024)

shorter : (most : ℕ) (cmd : CmdText) → most ≤ 1024 → HasText most cmd → HasText 1024 cmd
shorter most cmd few has = record {
  sub = has.sub;
  flags = has.flags;
  start = has.start;
  scan_begin = has.scan_begin;
  convert = has.convert;
  scan_end = has.scan_end;
  stop = has.stop;
  entries = has.entries;
  few = let short = has.few in omega arith;
}

command_ok : IsGood (with_command ops.Cmd)
unfolding IsGood IsHead
command_ok bounds time words =
    then_ok Said (IsLimited bounds.horizon) (command_words bounds time words) _
    (after_any Said (file_word words) _ (λ file.
    then_ok (IsHead bounds.horizon) Said (head_of bounds time file) _ (head_ok bounds time file) (λ head h.
    then_ok (λ cmd. command_of (most_entries bounds.version) (drop 1 words) ≡ Ok cmd) Said (command_of (most_entries bounds.version) (drop 1 words)) _
    (is_read (command_of (most_entries bounds.version) (drop 1 words)))
    (λ cmd e. (h, shorter (most_entries bounds.version) cmd (few_entries bounds.version) (read_has_text (most_entries bounds.version) (drop 1 words) cmd e))))))
    (λ w h. h)
  where
    Said : LineHead × CmdText → Type 0
    Said w = IsHead bounds.horizon w.0 × HasText 1024 w.1

-- the same of instructions
IsGoodInsn : InsnForm → Type 0
IsGoodInsn form = (bounds : Bounds) (time file sub : List ℕ) (words : List (List ℕ)) → IfOk (form bounds time file sub words) (IsLimited bounds.horizon)

At : Bounds → LineHead × ℕ → Type 0
At bounds at = IsHead bounds.horizon at.0

read_ok : IsGoodInsn read_words
unfolding IsGoodInsn IsHead At
read_ok bounds time file sub words =
    after_any (IsLimited bounds.horizon) (two_words words) _ (λ w.
    then_ok (At bounds) (IsLimited bounds.horizon) (place_of bounds time file sub) _ (place_ok bounds time file sub) (λ at h.
    after_any (IsLimited bounds.horizon) (entry_of w.0) _ (λ entry.
    then_ok (λ n. (1 ≤ n) × (n ≤ 64)) (IsLimited bounds.horizon) (number_in 1 64 w.1) _ (number_within 1 64 w.1) (λ n k. (h, k.1)))))

write_ok : IsGoodInsn write_words
unfolding IsGoodInsn IsHead At
write_ok bounds time file sub words =
    after_any (IsLimited bounds.horizon) (one_and_more words) _ (λ w.
    then_ok (At bounds) (IsLimited bounds.horizon) (place_of bounds time file sub) _ (place_ok bounds time file sub) (λ at h.
    after_any (IsLimited bounds.horizon) (entry_of w.0) _ (λ entry.
    then_ok (λ xs. (length xs ≤ 64) × (length xs ≡ length w.1)) (IsLimited bounds.horizon) (values 64 data_word [] w.1) _ (values_ok 64 data_word w.1) (λ xs k. (h, k.0)))))

bits_ok : IsGoodInsn bits_words
unfolding IsGoodInsn IsHead At
bits_ok bounds time file sub words =
    after_any (IsLimited bounds.horizon) (two_words words) _ (λ w.
    then_ok (At bounds) (IsLimited bounds.horizon) (place_of bounds time file sub) _ (place_ok bounds time file sub) (λ at h.
    after_any (IsLimited bounds.horizon) (data_word w.0) _ (λ mask. after_any (IsLimited bounds.horizon) (data_word w.1) _ (λ bits. (h, tt)))))

config_ok : IsGoodInsn config_words
unfolding IsGoodInsn IsHead At
config_ok bounds time file sub words =
    after_any (IsLimited bounds.horizon) (two_words words) _ (λ w.
    then_ok (At bounds) (IsLimited bounds.horizon) (place_of bounds time file sub) _ (place_ok bounds time file sub) (λ at h.
    after_any (IsLimited bounds.horizon) (entry_of w.0) _ (λ entry. after_any (IsLimited bounds.horizon) (data_word w.1) _ (λ value. (h, tt)))))

gtod_ok : IsGoodInsn gtod_words
unfolding IsGoodInsn IsHead At
gtod_ok bounds time file sub words =
    after_any (IsLimited bounds.horizon) (no_words words) _ (λ none.
    then_ok (At bounds) (IsLimited bounds.horizon) (place_of bounds time file sub) _ (place_ok bounds time file sub) (λ at h. (h, tt)))

trigger_ok : IsGoodInsn trigger_words
unfolding IsGoodInsn IsHead At
trigger_ok bounds time file sub words =
    after_any (IsLimited bounds.horizon) (one_word words) _ (λ w.
    then_ok (At bounds) (IsLimited bounds.horizon) (place_of bounds time file sub) _ (place_ok bounds time file sub) (λ at h.
    after_any (IsLimited bounds.horizon) (data_word w) _ (λ num. (h, tt))))

instruction_ok : IsGood on_instruction
unfolding IsGood IsGoodInsn
instruction_ok bounds time words =
    after_any (IsLimited bounds.horizon) (three_and_more words) _ (λ w.
    then_ok IsGoodInsn (IsLimited bounds.horizon) (keyword insn_forms w.2) _
    (listed_ok IsGoodInsn insn_forms w.2 (read_ok, (write_ok, (bits_ok, (config_ok, (gtod_ok, (trigger_ok, tt)))))))
    (λ form h. h bounds time w.0 w.1 w.3))

-- the tables of lines
more_forms : (xs ys : List (List ℕ × LineForm)) → Each IsGood xs → Each IsGood ys → Each IsGood (xs ++ ys)
more_forms [] ys hs ks = ks
more_forms (x ∷ xs) ys hs ks = (hs.0, more_forms xs ys hs.1 ks)

insn_good : Each IsGood insn_lines
insn_good =
    (file_ok ops.OpenFile tt, (file_ok ops.CloseFile tt, (sub_ok ops.Lock (λ sub. tt), (sub_ok ops.Unlock (λ sub. tt), (instruction_ok, tt)))))

number_good : Each IsGood number_lines
number_good = (
  numbers_ok 65536 ops.Read (λ sub n h. h),
  (
    numbers_ok 65536 ops.Map (λ sub n h. h),
    (
      numbers_ok 4294967295 ops.Look (λ sub n h. tt),
      (numbers_ok 4294967295 ops.Release (λ sub n h. tt), (numbers_ok 4294967295 ops.Mark (λ sub n h. tt), tt)),
    ),
  ),
)

command_good : Each IsGood command_lines
command_good =
    (command_ok, (sub_ok ops.Cancel (λ sub. tt), (sub_ok ops.Contents (λ sub. tt), (several_ok ops.Write (λ sub xs h. h), (several_ok ops.Fill (λ sub xs h. h), number_good)))))

forms_good : (only : Bool) → Each IsGood (lines_by only)
forms_good true = more_forms insn_lines [] insn_good tt
forms_good false = more_forms insn_lines command_lines insn_good command_good

-- a line that is read
words_ok : (only : Bool) (bounds : Bounds) (words : List (List ℕ)) → IfOk (line_words only bounds words) (IsLimited bounds.horizon)
unfolding IsGood
words_ok only bounds [] = tt
words_ok only bounds (time ∷ []) = tt
words_ok only bounds (time ∷ key ∷ words) =
    then_ok IsGood (IsLimited bounds.horizon) (keyword (lines_by only) key) _ (listed_ok IsGood (lines_by only) key (forms_good only)) (λ form h. h bounds time words)

-- a line after others
Follows : ℕ → ℕ → SessionLine → Type 0
Follows horizon before line = (before ≤ line.time) × IsLimited horizon line

later : (n m : ℕ) → nat_le n m ≡ true → n ≤ m
later n m h = grind (arith, nat_tests)

line_ok : (only : Bool) (bounds : Bounds) (before : ℕ) (line : LineText) → IfOk (line_after only bounds before line) (Follows bounds.horizon before)
unfolding Follows
line_ok only bounds before line = by line.bad
  where
    timed : (next : SessionLine) (b : Bool) → nat_le before next.time ≡ b → IsLimited bounds.horizon next → IfOk (cond b (Ok next) (Err faults.Bad)) (Follows bounds.horizon before)
    timed next true e h = (later before next.time e, h)
    timed next false e h = tt

    by : (b : Bool) → IfOk (cond b (Err faults.BadLine) (line_words only bounds line.words >>= λ next. after_time before next)) (Follows bounds.horizon before)
    by true = tt
    by false =
        then_ok (IsLimited bounds.horizon) (Follows bounds.horizon before) (line_words only bounds line.words) _ (words_ok only bounds line.words)
        (λ next h. timed next (nat_le before next.time) refl h)

lines_ok : (only : Bool) (bounds : Bounds) (before : List SessionLine) (lines : List LineText) → InOrder bounds.horizon 0 before →
    IfOk (read_each (λ before line. line_after only bounds (last_time before) line) before lines) (InOrder bounds.horizon 0)
unfolding Follows
lines_ok only bounds before [] order = order
lines_ok only bounds before (line ∷ rest) order =
    then_ok (Follows bounds.horizon (last_time before)) (InOrder bounds.horizon 0) (at_line line.number (line_after only bounds (last_time before) line)) _
    (at_line_keeps (Follows bounds.horizon (last_time before)) line.number (line_after only bounds (last_time before) line) (line_ok only bounds (last_time before) line))
    (λ next h. lines_ok only bounds (before ++ next ∷ []) rest (in_order_more bounds.horizon before next order h.0 h.1))

pub sessions_sound : SessionsAreInOrder
sessions_sound only bounds lines all e = ok_keeps (InOrder bounds.horizon 0) (session_of only bounds lines) all e (lines_ok only bounds [] lines tt)
