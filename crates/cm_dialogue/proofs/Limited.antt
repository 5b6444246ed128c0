-- What holds of each line of a session that is read: it has its limits, and its time is one that its word says.
use Rattle.std.proofs.Common.{◌≡◌, ℕ, ◌≤◌, Bool, true, false, List, [], ◌∷◌, ◌++◌, length, Option, Some, None, Result, Ok, Err, refl, sym, ◌∙◌, subst, arith, rules}
use Rattle.std.specs.Prelude.{◌&&◌, nat_le, IfOk, IfSome, if◌then◌else◌, drop}
use Rattle.std.specs.Str.{bytes_eq}
use Rattle.std.proofs.lemmas.Bool.{and_parts, leb-true}
use Rattle.cm_base.specs.Numbers.{number_of}
use Rattle.cm_base.specs.Reading.{◌>>=◌}
use Rattle.cm_base.specs.Words.{keyword, limited, listed, no_words, number_in, one_and_more, one_word, or_fault, three_and_more, three_words, two_and_more, two_words, values}
use Rattle.cm_base.specs.declared.faults.Fault.{Fault}
use Rattle.cm_base.specs.declared.faults.Fault.TheVariants.{BadNumber, Unknown}
use Rattle.cm_base.proofs.Values.{values_few}
use Rattle.cm_board.specs.Versions.{most_entries}
use Rattle.cm_cmd.specs.Command.{CmdText}
use Rattle.cm_cmd.specs.CommandText.{command_of}
use Rattle.cm_cmd.specs.ListText.{entry_of}
use Rattle.cm_cmd.specs.PrintedReads.{HasText}
use Rattle.cm_cmd.proofs.Readable.{read_has_text}
use Rattle.cm_signal.proofs.Entries.{few_entries}
use Rattle.cm_signal.specs.declared.bounds.Bounds.{Bounds}
use Rattle.cm_session.specs.Forms.{LineForm, command_words, data_word, file_word, file_words, head_of, number_words, on_file, on_sub, place_of, sub_word, sub_words, values_words, with_command, with_number, with_values}
use Rattle.cm_session.specs.Instructions.{InsnForm, insn_forms, on_instruction}
use Rattle.cm_session.specs.Limits.{HasLimits, IsLimited}
use Rattle.cm_session.specs.SessionPart.{command_lines, insn_lines, keyed, line_words, lines_by, number_lines}
use Rattle.cm_session.specs.declared.forms.LineHead.{LineHead}
use Rattle.cm_session.specs.declared.op.Op.{Op}
use Rattle.cm_session.specs.declared.op.SessionLine.{SessionLine}

-- a fact of each entry of a table
abbrev pub Each : {F : Type 0} → (F → Type 0) → List (List ℕ × F) → Type 0
Each P [] = Unit {0}
Each P (entry ∷ more) = P entry.1 × Each P more

each_more : {F : Type 0} (P : F → Type 0) (some more : List (List ℕ × F)) → Each P some → Each P more → Each P (some ++ more)
each_more P [] more each others = others
each_more P (entry ∷ some) more each others = (each.0, each_more P some more each.1 others)

-- what holds of anything that a step gives, and of what it gave
pub has_each : {X : Type 0} (P : X → Type 0) (r : Result X Fault) → ((x : X) → r ≡ Ok x → P x) → IfOk r P
has_each P (Ok x) h = h x refl
has_each P (Err fault) h = tt

has_ok : {X : Type 0} (P : X → Type 0) (r : Result X Fault) (x : X) → r ≡ Ok x → IfOk r P → P x
has_ok P r x e h = subst (λ (r : Result _ Fault). IfOk r P) e h

-- what a step gives after one that gave something of this kind, and after any
pub then_has : {X Y : Type 0} (P : X → Type 0) (Q : Y → Type 0) (r : Result X Fault) (f : X → Result Y Fault) → IfOk r P → ((x : X) → P x → IfOk (f x) Q) → IfOk (r >>= f) Q
then_has P Q (Ok x) f h next = next x h
then_has P Q (Err fault) f h next = tt

pub then_any : {X Y : Type 0} (Q : Y → Type 0) (r : Result X Fault) (f : X → Result Y Fault) → ((x : X) → IfOk (f x) Q) → IfOk (r >>= f) Q
then_any Q (Ok x) f next = next x
then_any Q (Err fault) f next = tt

-- what a table gives is as its entries are
pub listed_has : {F : Type 0} (P : F → Type 0) (entries : List (List ℕ × F)) (word : List ℕ) → Each P entries → IfSome (listed entries word) P
listed_has P [] word each = tt
listed_has P (entry ∷ more) word each = by (bytes_eq word entry.0) (listed_has P more word each.1)
  where
    by : (b : Bool) → IfSome (listed more word) P → IfSome (if b then Some entry.1 else listed more word) P
    by true later = each.0
    by false later = later

keyed_has : {F Y : Type 0} (Q : Y → Type 0) (run : F → Result Y Fault) (entries : List (List ℕ × F)) (word : List ℕ) → Each (λ form. IfOk (run form) Q) entries → IfOk (keyword entries word >>= run) Q
keyed_has {F} Q run entries word each = by (listed entries word) (listed_has (λ form. IfOk (run form) Q) entries word each)
  where
    by : (o : Option F) → IfSome o (λ form. IfOk (run form) Q) → IfOk (or_fault Unknown o >>= run) Q
    by (Some form) h = h
    by None h = tt

-- a number is no more than its limit
limited_has : (P : ℕ → Type 0) (b : Bool) (n : ℕ) → (b ≡ true → P n) → IfOk (limited b n) P
limited_has P true n h = h refl
limited_has P false n h = tt

pub number_most : (least most : ℕ) (word : List ℕ) → IfOk (number_in least most word) (λ n. n ≤ most)
number_most least most word =
    then_any (λ n. n ≤ most) (or_fault BadNumber (number_of word)) (λ n. limited (nat_le least n && nat_le n most) n)
    (λ n. limited_has (λ m. m ≤ most) (nat_le least n && nat_le n most) n (λ e. leb-true n most (and_parts (nat_le least n) (nat_le n most) e).1))

-- no more values than may stand
values_most : (most : ℕ) (words : List (List ℕ)) → IfOk (values most data_word [] words) (λ vs. length vs ≤ most)
values_most most words = has_each (λ vs. length vs ≤ most) (values most data_word [] words) (λ vs e. (values_few most data_word [] words vs (omega arith) e).few)

-- a command with as many entries as a version says has no more than the widest
any_version : (version : ℕ) (cmd : CmdText) → HasText (most_entries version) cmd → HasText 1024 cmd
any_version version cmd h =
    let most = few_entries version in
    let few = h.few in
    record {
      sub = h.sub;
      flags = h.flags;
      start = h.start;
      scan_begin = h.scan_begin;
      convert = h.convert;
      scan_end = h.scan_end;
      stop = h.stop;
      entries = h.entries;
      few = omega arith;
    }

-- a command that is read is one that a text can say
pub command_said : (version : ℕ) (words : List (List ℕ)) → IfOk (command_of (most_entries version) words) (HasText 1024)
command_said version words =
    has_each (HasText 1024) (command_of (most_entries version) words) (λ cmd e. any_version version cmd (read_has_text (most_entries version) words cmd e))

-- a line's time is as this says, and the line has its limits
abbrev pub IsGood : (ℕ → Type 0) → SessionLine → Type 0
IsGood P line = P line.time × HasLimits line.op

-- the forms of lines, and what holds of each time that a word says
module _ (P : ℕ → Type 0) (bounds : Bounds) (time : List ℕ) (says : IfOk (number_in 0 bounds.horizon time) P) where
  head_timed : (file : List ℕ) → IfOk (head_of bounds time file) (λ head. P head.time)
  head_timed file = then_has P _ (number_in 0 bounds.horizon time) _ says (λ t is. then_any _ (number_in 0 15 file) _ (λ f. is))

  pub place_timed : (file sub : List ℕ) → IfOk (place_of bounds time file sub) (λ at. P at.0.time)
  place_timed file sub = then_has (λ head. P head.time) _ (head_of bounds time file) _ (head_timed file) (λ head is. then_any _ (sub_word sub) _ (λ s. is))

  file_timed : (words : List (List ℕ)) → IfOk (file_words bounds time words) (λ head. P head.time)
  file_timed words = then_any _ (one_word words) _ (λ file. head_timed file)

  pub sub_timed : (words : List (List ℕ)) → IfOk (sub_words bounds time words) (λ w. P w.0.time)
  sub_timed words = then_any _ (two_words words) _ (λ w. place_timed w.0 w.1)

  -- with a limit on what stands after the subdevice
  pub number_timed : (most : ℕ) (words : List (List ℕ)) → IfOk (number_words most bounds time words) (λ w. P w.0.time × (w.2 ≤ most))
  number_timed most words =
      then_any _ (three_words words) _ (λ w. then_has (λ at. P at.0.time) _ (place_of bounds time w.0 w.1) _ (place_timed w.0 w.1)
      (λ at is. then_has (λ n. n ≤ most) _ (number_in 0 most w.2) _ (number_most 0 most w.2) (λ n few. (is, few))))

  values_timed : (words : List (List ℕ)) → IfOk (values_words bounds time words) (λ w. P w.0.time × (length w.2 ≤ 1024))
  values_timed words =
      then_any _ (two_and_more words) _ (λ w. then_has (λ at. P at.0.time) _ (place_of bounds time w.0 w.1) _ (place_timed w.0 w.1)
      (λ at is. then_has (λ vs. length vs ≤ 1024) _ (values 1024 data_word [] w.2) _ (values_most 1024 w.2) (λ vs few. (is, few))))

  command_timed : (words : List (List ℕ)) → IfOk (command_words bounds time words) (λ w. P w.0.time × HasText 1024 w.1)
  command_timed words =
      then_any _ (file_word words) _ (λ file. then_has (λ head. P head.time) _ (head_of bounds time file) _ (head_timed file)
      (λ head is. then_has (HasText 1024) _ (command_of (most_entries bounds.version) (drop 1 words)) _ (command_said bounds.version (drop 1 words)) (λ cmd text. (is, text))))

  -- so lines have theirs
  file_good : (op : Op) (words : List (List ℕ)) → HasLimits op → IfOk (on_file op bounds time words) (IsGood P)
  file_good op words limits = then_has (λ head. P head.time) _ (file_words bounds time words) _ (file_timed words) (λ head is. (is, limits))

  sub_good : (make : ℕ → Op) (words : List (List ℕ)) → ((sub : ℕ) → HasLimits (make sub)) → IfOk (on_sub make bounds time words) (IsGood P)
  sub_good make words limits = then_has (λ w. P w.0.time) _ (sub_words bounds time words) _ (sub_timed words) (λ w is. (is, limits w.1))

  number_good : (most : ℕ) (make : ℕ → ℕ → Op) (words : List (List ℕ)) → ((sub n : ℕ) → n ≤ most → HasLimits (make sub n)) → IfOk (with_number most make bounds time words) (IsGood P)
  number_good most make words limits =
      then_has (λ w. P w.0.time × (w.2 ≤ most)) _ (number_words most bounds time words) _ (number_timed most words) (λ w is. (is.0, limits w.1 w.2 is.1))

  values_good : (make : ℕ → List ℕ → Op) (words : List (List ℕ)) → ((sub : ℕ) (vs : List ℕ) → length vs ≤ 1024 → HasLimits (make sub vs)) → IfOk (with_values make bounds time words) (IsGood P)
  values_good make words limits =
      then_has (λ w. P w.0.time × (length w.2 ≤ 1024)) _ (values_words bounds time words) _ (values_timed words) (λ w is. (is.0, limits w.1 w.2 is.1))

  command_good : (make : CmdText → Op) (words : List (List ℕ)) → ((cmd : CmdText) → HasText 1024 cmd → HasLimits (make cmd)) → IfOk (with_command make bounds time words) (IsGood P)
  command_good make words limits =
      then_has (λ w. P w.0.time × HasText 1024 w.1) _ (command_words bounds time words) _ (command_timed words) (λ w is. (is.0, limits w.1 is.1))

  -- those of instructions, each with what stands after its place
  placed_good : {W : Type 0} (r : Result W Fault) (file sub : List ℕ) (f : W → LineHead × ℕ → Result SessionLine Fault) → ((w : W) (at : LineHead × ℕ) → P at.0.time → IfOk (f w at) (IsGood P)) →
      IfOk (r >>= λ w. place_of bounds time file sub >>= λ at. f w at) (IsGood P)
  placed_good r file sub f next = then_any _ r _ (λ w. then_has (λ at. P at.0.time) _ (place_of bounds time file sub) (f w) (place_timed file sub) (next w))

  insn_forms_good : (file sub : List ℕ) (words : List (List ℕ)) → Each (λ (form : InsnForm). IfOk (form bounds time file sub words) (IsGood P)) insn_forms
  insn_forms_good file sub words = (
    placed_good (two_words words) file sub _ (λ w at is. then_any _ (entry_of w.0) _ (λ entry. then_has (λ n. n ≤ 64) _ (number_in 1 64 w.1) _ (number_most 1 64 w.1) (λ n few. (is, few)))),
    (
      placed_good (one_and_more words) file sub _ (λ w at is. then_any _ (entry_of w.0) _ (λ entry. then_has (λ vs. length vs ≤ 64) _ (values 64 data_word [] w.1) _ (values_most 64 w.1) (λ vs few. (is, few)))),
      (
        placed_good (two_words words) file sub _ (λ w at is. then_any _ (data_word w.0) _ (λ mask. then_any _ (data_word w.1) _ (λ bits. (is, tt)))),
        (
          placed_good (two_words words) file sub _ (λ w at is. then_any _ (entry_of w.0) _ (λ entry. then_any _ (data_word w.1) _ (λ value. (is, tt)))),
          (
            placed_good (no_words words) file sub _ (λ w at is. (is, tt)),
            (placed_good (one_word words) file sub _ (λ w at is. then_any _ (data_word w) _ (λ num. (is, tt))), tt),
          ),
        ),
      ),
    ),
  )

  instruction_good : (words : List (List ℕ)) → IfOk (on_instruction bounds time words) (IsGood P)
  instruction_good words = then_any _ (three_and_more words) _ (λ w. keyed_has _ (λ (form : InsnForm). form bounds time w.0 w.1 w.3) insn_forms w.2 (insn_forms_good w.0 w.1 w.3))

  -- those of files, locks and instructions, those with a number, and all of commands
  abbrev MakesGood : List (List ℕ) → LineForm → Type 0
  MakesGood words form = IfOk (form bounds time words) (IsGood P)

  insn_lines_good : (words : List (List ℕ)) → Each (MakesGood words) insn_lines
  insn_lines_good words = search (rules, file_good, sub_good, instruction_good)

  number_lines_good : (words : List (List ℕ)) → Each (MakesGood words) number_lines
  number_lines_good words = search (rules, number_good)

  command_lines_good : (words : List (List ℕ)) → Each (MakesGood words) command_lines
  command_lines_good words = search (rules, command_good, sub_good, values_good, number_lines_good)

  -- and all
  keyed_good : (key : List ℕ) (words : List (List ℕ)) → IfOk (keyed (lines_by false) key bounds time words) (IsGood P)
  keyed_good key words =
      keyed_has _ (λ (form : LineForm). form bounds time words) (lines_by false) key (each_more (MakesGood words) insn_lines command_lines (insn_lines_good words) (command_lines_good words))

-- a word that is no number is the time of no line
pub untimed : (bounds : Bounds) (time : List ℕ) (fault : Fault) → number_in 0 bounds.horizon time ≡ Err fault → (key : List ℕ) (words : List (List ℕ)) (line : SessionLine) → keyed (lines_by false) key bounds time words ≡ Ok line → ⊥
untimed bounds time fault is key words line e =
    (has_ok _ _ line e (keyed_good (λ t. ⊥) bounds time (has_each _ _ (λ t said. never t (sym is ∙ said))) key words)).0
  where
    never : (t : ℕ) → (let r : Result ℕ Fault = Err fault in r) ≡ Ok t → ⊥
    never t e = cc

-- and a line is limited
pub line_limited : (bounds : Bounds) (words : List (List ℕ)) → IfOk (line_words false bounds words) (IsLimited bounds.horizon)
line_limited bounds [] = tt
line_limited bounds (time ∷ []) = tt
line_limited bounds (time ∷ key ∷ words) = keyed_good (λ t. t ≤ bounds.horizon) bounds time (number_most 0 bounds.horizon time) key words
