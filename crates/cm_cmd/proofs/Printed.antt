-- Commands are read as they were written.
use Rattle.std.proofs.Common.{◌≡◌, ℕ, ◌+◌, ◌^◌, ◌<◌, ◌≤◌, Bool, true, false, List, [], ◌∷◌, ◌++◌, length, refl, sym, ap, ◌∙◌, append_assoc, append-nil, length-append, arith}
use Rattle.std.specs.Prelude.{◌==◌, ◌||◌, not, nat_le, nat_lt, map, Ok, codes}
use Rattle.std.specs.Char.{is_ascii_digit}
use Rattle.std.specs.Fmt.{decimal}
use Rattle.std.specs.List.{list_all, flat_map, join_with_byte, filter}
use Rattle.std.specs.Str.{bytes_eq}
use Rattle.std.proofs.lemmas.Bool.Decides.{nat_tests}
use Rattle.std.proofs.lemmas.Fmt.{decimal_nonempty}
use Rattle.cm_base.specs.Lines.{is_blank, is_not_empty, words_of}
use Rattle.cm_cmd.specs.Command.{CmdText}
use Rattle.cm_cmd.specs.CommandText.{trigger, trigger_text, trigger_of, command_words, command_text, head_of, command_of}
use Rattle.cm_cmd.specs.Entry.{pack, chan, range, aref}
use Rattle.cm_base.specs.Stops.{is_byte}
use Rattle.cm_cmd.specs.ListText.{aref_text, entry_text, list_text, entry_of, aref_of, list_of}
use Rattle.cm_cmd.specs.PrintedReads.{IsTrigger, HasText, PrintedReads}
use Rattle.cm_base.specs.SourceText.{source_text}
use Rattle.cm_base.specs.Words.{number_in, source_of, two, three, values}
use Rattle.cm_cmd.specs.declared.command.Trig.{Trig}
use Rattle.cm_base.proofs.Bools.{and_true, both}
use Rattle.cm_base.proofs.NumbersBack.{some_digit, digits-decimal}
use Rattle.cm_base.proofs.Joined.{is_free, free_of, split-join, class-append, class-join, kept_all}
use Rattle.cm_cmd.proofs.Numbers.{number_in-decimal}
use Rattle.cm_cmd.proofs.Sources.{is_source_byte, source_read, aref_read}

-- a byte from this one on
abbrev pub from : ℕ → ℕ → Bool
from least c = nat_le least c

weaker : (class wider : ℕ → Bool) → ((c : ℕ) → class c ≡ true → wider c ≡ true) → (text : List ℕ) → list_all class text ≡ true → list_all wider text ≡ true
weaker class wider sub [] h = refl
weaker class wider sub (c ∷ text) h =
    let b = both (class c) (list_all class text) h in
    and_true (wider c) (list_all wider text) (sub c b.0) (weaker class wider sub text b.1)

digit_from : (c : ℕ) → is_ascii_digit c ≡ true → from 48 c ≡ true
digit_from c h = grind (arith, nat_tests)

source_from : (c : ℕ) → is_source_byte c ≡ true → from 48 c ≡ true
source_from c h = grind (arith, nat_tests)

from_44 : (c : ℕ) → from 48 c ≡ true → from 44 c ≡ true
from_44 c h = grind (arith, nat_tests)

from_47 : (c : ℕ) → from 48 c ≡ true → from 47 c ≡ true
from_47 c h = grind (arith, nat_tests)

-- a list's text has no dash where it has an entry
abbrev is_list_byte : ℕ → Bool
is_list_byte c = c == 44 || from 47 c

list_47 : (c : ℕ) → from 47 c ≡ true → is_list_byte c ≡ true
list_47 c h = grind (arith, nat_tests)

list_44 : (c : ℕ) → is_list_byte c ≡ true → from 44 c ≡ true
list_44 c h = grind (arith, nat_tests)

pub no_colon_in_digits : (c : ℕ) → is_ascii_digit c ≡ true → not ((is_byte 58) c) ≡ true
no_colon_in_digits c h = grind (arith, nat_tests)

no_colon_in_sources : (c : ℕ) → is_source_byte c ≡ true → not ((is_byte 58) c) ≡ true
no_colon_in_sources c h = grind (arith, nat_tests)

no_slash : (c : ℕ) → from 48 c ≡ true → not ((is_byte 47) c) ≡ true
no_slash c h = grind (arith, nat_tests)

no_comma : (c : ℕ) → from 47 c ≡ true → not ((is_byte 44) c) ≡ true
no_comma c h = grind (arith, nat_tests)

no_blank : (c : ℕ) → from 44 c ≡ true → not (is_blank c) ≡ true
no_blank c h = grind (arith, nat_tests)

decimal_from : (n : ℕ) → n < 2 ^ 32 → list_all (from 48) (decimal n) ≡ true
decimal_from n h = weaker is_ascii_digit (from 48) digit_from (decimal n) (digits-decimal n h)

-- triggers

pub trigger_reads : (t : Trig) → IsTrigger t → trigger_of (trigger_text t) ≡ Ok t
unfolding trigger_of
trigger_reads t h =
    let s = source_read t.src h.source in
    ap (two trigger source_of (number_in 0 4294967295)) (split-join (is_byte 58) 58 refl (source_text t.src) (decimal t.arg ∷ [])
    (free_of is_source_byte (is_byte 58) no_colon_in_sources (source_text t.src) s.class)
    (and_true _ true (free_of is_ascii_digit (is_byte 58) no_colon_in_digits (decimal t.arg) (digits-decimal t.arg h.arg)) refl))
    ∙ rw (s.value, number_in-decimal 4294967295 t.arg h.arg (let a = h.arg in omega arith)) refl

-- a word of a command

record IsWord (text : List ℕ) : Type 0 where
  pub class : list_all (from 44) text ≡ true
  pub some : is_not_empty text ≡ true

some-append : (xs ys : List ℕ) → is_not_empty xs ≡ true → is_not_empty (xs ++ ys) ≡ true
some-append [] ys h = cc
some-append (x ∷ xs) ys h = some_digit (x ∷ (xs ++ ys)) (omega arith)

decimal_word : (n : ℕ) → n < 2 ^ 32 → IsWord (decimal n)
decimal_word n h = record {
  class = weaker (from 48) (from 44) from_44 (decimal n) (decimal_from n h);
  some = some_digit (decimal n) (decimal_nonempty n (omega arith));
}

trigger_word : (t : Trig) → IsTrigger t → IsWord (trigger_text t)
trigger_word t h =
    let s = source_read t.src h.source in
    let d = decimal_word t.arg h.arg in
    let text = weaker (from 48) (from 44) from_44 (source_text t.src) (weaker is_source_byte (from 48) source_from (source_text t.src) s.class) in
    record {
      class = class-append (from 44) (source_text t.src) (58 ∷ decimal t.arg) text d.class;
      some = some-append (source_text t.src) (58 ∷ decimal t.arg) s.some;
    }

-- entries

packed : (e : ℕ) → e < 2 ^ 26 → pack (chan e) (range e) (aref e) ≡ e
packed e h = omega arith

record HasPlainParts (e : ℕ) : Type 0 where
  pub chan : list_all (from 48) (decimal (chan e)) ≡ true
  pub range : list_all (from 48) (decimal (range e)) ≡ true
  pub aref : list_all (from 48) (aref_text (aref e)) ≡ true

plain_parts : (e : ℕ) → e < 2 ^ 26 → HasPlainParts e
plain_parts e h =
    let a = aref_read (aref e) (omega arith) in
    record {
      chan = decimal_from (chan e) (omega arith);
      range = decimal_from (range e) (omega arith);
      aref = weaker is_source_byte (from 48) source_from (aref_text (aref e)) a.class;
    }

wider : (text : List ℕ) → list_all (from 48) text ≡ true → list_all (from 47) text ≡ true
wider text h = weaker (from 48) (from 47) from_47 text h

entry_from : (e : ℕ) → e < 2 ^ 26 → list_all (from 47) (entry_text e) ≡ true
entry_from e h =
    let p = plain_parts e h in
    class-join (from 47) 47 refl (decimal (chan e) ∷ decimal (range e) ∷ aref_text (aref e) ∷ [])
    (and_true _ _ (wider (decimal (chan e)) p.chan) (and_true _ _ (wider (decimal (range e)) p.range) (and_true _ true (wider (aref_text (aref e)) p.aref) refl)))

slashless : (text : List ℕ) → list_all (from 48) text ≡ true → is_free (is_byte 47) text ≡ true
slashless text h = free_of (from 48) (is_byte 47) no_slash text h

pub entry_reads : (e : ℕ) → e < 2 ^ 26 → entry_of (entry_text e) ≡ Ok e
unfolding entry_of
entry_reads e h =
    let p = plain_parts e h in
    let a = aref_read (aref e) (omega arith) in
    ap (three pack (number_in 0 65535) (number_in 0 255) aref_of) (split-join (is_byte 47) 47 refl (decimal (chan e)) (decimal (range e) ∷ aref_text (aref e) ∷ [])
    (slashless (decimal (chan e)) p.chan) (and_true _ _ (slashless (decimal (range e)) p.range) (and_true _ true (slashless (aref_text (aref e)) p.aref) refl)))
    ∙ rw (number_in-decimal 65535 (chan e) (omega arith) (omega arith), number_in-decimal 255 (range e) (omega arith) (omega arith), a.value)
    (ap (λ (x : ℕ). Ok x) (packed e h))

-- lists

abbrev is_entry : ℕ → Bool
is_entry e = nat_lt e (2 ^ 26)

small : (e : ℕ) → is_entry e ≡ true → e < 2 ^ 26
small e h = grind (arith, nat_tests)

room_left : (most n more : ℕ) → n + (1 + more) ≤ most → nat_lt n most ≡ true
room_left most n more h = grind (arith, nat_tests)

entries_read : (most : ℕ) (before list : List ℕ) → length before + length list ≤ most → list_all is_entry list ≡ true → values most entry_of before (map entry_text list) ≡ Ok (before ++ list)
entries_read most before [] few h = ap (λ (xs : List ℕ). Ok xs) (sym (append-nil before))
entries_read most before (e ∷ list) few h =
    let b = both (is_entry e) (list_all is_entry list) h in
    let l = length-append before (e ∷ []) in
    rw (room_left most (length before) (length list) (omega arith), entry_reads e (small e b.0))
    (entries_read most (before ++ e ∷ []) list (omega arith) b.1 ∙ ap (λ (xs : List ℕ). Ok xs) (append_assoc before (e ∷ []) list))

entries_plain : (list : List ℕ) → list_all is_entry list ≡ true → list_all (list_all (from 47)) (map entry_text list) ≡ true
entries_plain [] h = refl
entries_plain (e ∷ list) h =
    let b = both (is_entry e) (list_all is_entry list) h in
    and_true (list_all (from 47) (entry_text e)) _ (entry_from e (small e b.0)) (entries_plain list b.1)

all_commaless : (texts : List (List ℕ)) → list_all (list_all (from 47)) texts ≡ true → list_all (is_free (is_byte 44)) texts ≡ true
all_commaless [] h = refl
all_commaless (text ∷ texts) h =
    let b = both (list_all (from 47) text) (list_all (list_all (from 47)) texts) h in
    and_true (is_free (is_byte 44) text) _ (free_of (from 47) (is_byte 44) no_comma text b.0) (all_commaless texts b.1)

all_list_bytes : (texts : List (List ℕ)) → list_all (list_all (from 47)) texts ≡ true → list_all (list_all is_list_byte) texts ≡ true
all_list_bytes [] h = refl
all_list_bytes (text ∷ texts) h =
    let b = both (list_all (from 47) text) (list_all (list_all (from 47)) texts) h in
    and_true (list_all is_list_byte text) _ (weaker (from 47) is_list_byte list_47 text b.0) (all_list_bytes texts b.1)

list_bytes : (e : ℕ) (list : List ℕ) → list_all is_entry (e ∷ list) ≡ true → list_all is_list_byte (list_text (e ∷ list)) ≡ true
list_bytes e list h = class-join is_list_byte 44 refl (map entry_text (e ∷ list)) (all_list_bytes (map entry_text (e ∷ list)) (entries_plain (e ∷ list) h))

not_a_dash : (c : ℕ) → is_list_byte c ≡ true → (c == 45) ≡ false
not_a_dash c h = grind (arith, nat_tests)

no_dash : (text : List ℕ) → list_all is_list_byte text ≡ true → bytes_eq text (codes "-") ≡ false
no_dash [] h = refl
no_dash (c ∷ text) h = rw (not_a_dash c (both (is_list_byte c) (list_all is_list_byte text) h).0) refl

pub list_reads : (most : ℕ) (list : List ℕ) → length list ≤ most → list_all is_entry list ≡ true → list_of most (list_text list) ≡ Ok list
unfolding list_of
list_reads most [] few h = refl
list_reads most (e ∷ list) few h =
    let plain = entries_plain (e ∷ list) h in
    let b = both (is_free (is_byte 44) (entry_text e)) (list_all (is_free (is_byte 44)) (map entry_text list)) (all_commaless (map entry_text (e ∷ list)) plain) in
    rw (no_dash (list_text (e ∷ list)) (list_bytes e list h), split-join (is_byte 44) 44 refl (entry_text e) (map entry_text list) b.0 b.1) (entries_read most [] (e ∷ list) (omega arith) h)

join_some : (c : ℕ) (text : List ℕ) (texts : List (List ℕ)) → is_not_empty text ≡ true → is_not_empty (join_with_byte c (text ∷ texts)) ≡ true
join_some c text [] h = h
join_some c text (next ∷ texts) h = some-append text (c ∷ join_with_byte c (next ∷ texts)) h

list_word : (list : List ℕ) → list_all is_entry list ≡ true → IsWord (list_text list)
list_word [] h = record { class = refl; some = refl }
list_word (e ∷ list) h = record {
  class = weaker is_list_byte (from 44) list_44 (list_text (e ∷ list)) (list_bytes e list h);
  some = join_some 44 (entry_text e) (map entry_text list) (join_some 47 (decimal (chan e)) (decimal (range e) ∷ aref_text (aref e) ∷ []) (some_digit (decimal (chan e)) (decimal_nonempty (chan e) (omega arith))));
}

-- commands

blankless : (text : List ℕ) → IsWord text → is_free is_blank text ≡ true
blankless text w = free_of (from 44) is_blank no_blank text w.class

words_read : (most : ℕ) (cmd : CmdText) → HasText most cmd → words_of (command_text cmd) ≡ command_words cmd
words_read most cmd h =
    let sub = decimal_word cmd.sub (let b = h.sub in omega arith) in
    let flags = decimal_word cmd.flags h.flags in
    let start = trigger_word cmd.start h.start in
    let scan_begin = trigger_word cmd.scan_begin h.scan_begin in
    let convert = trigger_word cmd.convert h.convert in
    let scan_end = trigger_word cmd.scan_end h.scan_end in
    let stop = trigger_word cmd.stop h.stop in
    let list = list_word cmd.list h.entries in
    let rest : List (List ℕ) = decimal cmd.flags ∷ trigger_text cmd.start ∷ trigger_text cmd.scan_begin ∷ trigger_text cmd.convert ∷ trigger_text cmd.scan_end ∷ trigger_text cmd.stop ∷ list_text cmd.list ∷ [] in
    ap (filter is_not_empty) (split-join is_blank 32 refl (decimal cmd.sub) rest (blankless (decimal cmd.sub) sub)
    (and_true _ _ (blankless (decimal cmd.flags) flags) (and_true _ _ (blankless (trigger_text cmd.start) start) (and_true _ _ (blankless (trigger_text cmd.scan_begin) scan_begin)
    (and_true _ _ (blankless (trigger_text cmd.convert) convert) (and_true _ _ (blankless (trigger_text cmd.scan_end) scan_end) (and_true _ _ (blankless (trigger_text cmd.stop) stop)
    (and_true _ true (blankless (list_text cmd.list) list) refl))))))))
    ∙ kept_all is_not_empty (command_words cmd)
    (and_true _ _ sub.some (and_true _ _ flags.some (and_true _ _ start.some (and_true _ _ scan_begin.some (and_true _ _ convert.some (and_true _ _ scan_end.some (and_true _ _ stop.some (and_true _ true list.some refl))))))))

words_say : (most : ℕ) (cmd : CmdText) → HasText most cmd → command_of most (command_words cmd) ≡ Ok cmd
unfolding head_of
words_say most cmd h =
    rw (
      number_in-decimal 255 cmd.sub (let b = h.sub in omega arith) (let b = h.sub in omega arith),
      number_in-decimal 4294967295 cmd.flags h.flags (let b = h.flags in omega arith),
      trigger_reads cmd.start h.start,
      trigger_reads cmd.scan_begin h.scan_begin,
      trigger_reads cmd.convert h.convert,
      trigger_reads cmd.scan_end h.scan_end,
      trigger_reads cmd.stop h.stop,
      list_reads most cmd.list h.few h.entries,
    ) refl

-- the text of a list that is not empty is its first entry and the others after commas
pub list_text_first : (entry : ℕ) (list : List ℕ) → list_text (entry ∷ list) ≡ entry_text entry ++ flat_map (λ e. 44 ∷ entry_text e) list
list_text_first entry [] = sym (append-nil (entry_text entry))
list_text_first entry (next ∷ list) = ap (λ (text : List ℕ). entry_text entry ++ (44 ∷ text)) (list_text_first next list)

pub printed_reads : PrintedReads
printed_reads most cmd h = ap (command_of most) (words_read most cmd h) ∙ words_say most cmd h
