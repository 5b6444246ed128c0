-- A command that was read is one that a text can say.
use Rattle.std.proofs.Common.{◌≡◌, ℕ, ◌*◌, ◌^◌, ◌<◌, ◌≤◌, Bool, true, false, ◌&&◌, List, [], ◌∷◌, ◌++◌, length, length-append, refl, ◌∙◌, subst, arith, Option, Some, None, Result, Ok, Err}
use Rattle.std.specs.Prelude.{IfOk, nat_le, nat_lt, codes, bit_or, if◌then◌else◌}
use Rattle.std.specs.List.{list_all, slice_split}
use Rattle.std.specs.Str.{bytes_eq}
use Rattle.std.proofs.lemmas.Bool.{leb-true}
use Rattle.std.proofs.lemmas.Bool.Decides.{nat_tests}
use Rattle.std.proofs.lemmas.List.Folds.{list_all-append}
use Rattle.std.proofs.lemmas.Nat.{or_lt}
use Rattle.cm_base.specs.Numbers.{number_of}
use Rattle.cm_base.specs.Reading.{◌>>=◌, at_line}
use Rattle.cm_base.specs.ReadStop.{Gives}
use Rattle.cm_base.specs.Source.{bit_of}
use Rattle.cm_base.specs.Words.{bit_from, bits_of, is_bar, limited, number_in, or_fault, source_of, three_words, two_words, up_to, values}
use Rattle.cm_base.specs.declared.faults.Fault.{Fault}
use Rattle.cm_base.specs.declared.faults.Fault.TheVariants.{BadNumber, Limit, Unknown}
use Rattle.cm_base.specs.declared.faults.ReadStop.{ReadStop}
use Rattle.cm_cmd.specs.Command.{CmdText}
use Rattle.cm_cmd.specs.CommandText.{command_of, head_of, trigger_of}
use Rattle.cm_cmd.specs.Entry.{pack}
use Rattle.cm_base.specs.Stops.{is_byte}
use Rattle.cm_cmd.specs.ListText.{aref_of, entry_of, list_of}
use Rattle.cm_cmd.specs.PrintedReads.{HasText, IsTrigger, ReadHasText}
use Rattle.cm_cmd.specs.declared.command.Trig.{Trig}
use Rattle.cm_cmd.proofs.Cuts.{line_ok}
use Rattle.cm_base.proofs.Bools.{and_true, both}

-- what is read next was read after something that was read
pub after_read : {A B : Type 0} (read : Result A Fault) (next : A → Result B Fault) (y : B) → (read >>= next) ≡ Ok y → (x : A) × (read ≡ Ok x) × (next x ≡ Ok y)
after_read (Ok x) next y h = (x, refl, h)
after_read (Err fault) next y h = cc

fits_limit : (b : Bool) (n m : ℕ) → limited b n ≡ Ok m → (b ≡ true) × (n ≡ m)
fits_limit true n m h = (refl, cc)
fits_limit false n m h = cc

number_high : (least most : ℕ) (word : List ℕ) (n : ℕ) → number_in least most word ≡ Ok n → n ≤ most
number_high least most word n h =
    let r = after_read (or_fault BadNumber (number_of word)) (λ m. limited (nat_le least m && nat_le m most) m) n h in
    let l = fits_limit (nat_le least r.0 && nat_le r.0 most) r.0 n r.2 in
    let k : r.0 ≤ most = leb-true r.0 most (both (nat_le least r.0) (nat_le r.0 most) l.0).1 in
    let e = l.1 in
    omega arith

-- a bit of the nine sources, where there is one
abbrev IsSmall : Option ℕ → Type 0
IsSmall None = Unit {0}
IsSmall (Some bit) = bit < 2 ^ 9

small_bit : (b : Bool) (bit : ℕ) (more : Option ℕ) → bit < 2 ^ 9 → IsSmall more → IsSmall (if b then Some bit else more)
small_bit true bit more h k = h
small_bit false bit more h k = k

bit_small : (name : List ℕ) → IsSmall (bit_of name)
bit_small name =
    small_bit (bytes_eq name (codes "none")) 1 _ (omega arith) (small_bit (bytes_eq name (codes "now")) 2 _ (omega arith) (small_bit (bytes_eq name (codes "follow")) 4 _ (omega arith)
    (small_bit (bytes_eq name (codes "time")) 8 _ (omega arith) (small_bit (bytes_eq name (codes "timer")) 16 _ (omega arith) (small_bit (bytes_eq name (codes "count")) 32 _ (omega arith)
    (small_bit (bytes_eq name (codes "ext")) 64 _ (omega arith) (small_bit (bytes_eq name (codes "int")) 128 _ (omega arith) (small_bit (bytes_eq name (codes "other")) 256 None (omega arith) tt))))))))

from_option : (o : Option ℕ) (bit : ℕ) → IsSmall o → or_fault Unknown o ≡ Ok bit → bit < 2 ^ 9
from_option None bit s h = cc
from_option (Some b) bit s h = let e : b ≡ bit = cc in omega arith

passed_on : (b : Bool) (bit m : ℕ) → (if b then Ok bit else Err Unknown) ≡ Ok m → bit ≡ m
passed_on true bit m h = cc
passed_on false bit m h = cc

bit_from_small : (least : ℕ) (name : List ℕ) (bit : ℕ) → bit_from least name ≡ Ok bit → bit < 2 ^ 9
bit_from_small least name bit h =
    let r = after_read (or_fault Unknown (bit_of name)) (λ b. if nat_le least b then Ok b else Err Unknown) bit h in
    let s = from_option (bit_of name) r.0 (bit_small name) r.1 in
    let e = passed_on (nat_le least r.0) r.0 bit r.2 in
    omega arith

bits_small : (least : ℕ) (names : List (List ℕ)) (bits : ℕ) → bits_of least names ≡ Ok bits → bits < 2 ^ 9
bits_small least [] bits h = let e : 0 ≡ bits = cc in omega arith
bits_small least (name ∷ more) bits h =
    let r = after_read (bit_from least name) (λ bit. bits_of (2 * bit) more >>= λ rest. Ok (bit_or bit rest)) bits h in
    let s = after_read (bits_of (2 * r.0) more) (λ rest. Ok (bit_or r.0 rest)) bits r.2 in
    let first = bit_from_small least name r.0 r.1 in
    let others = bits_small (2 * r.0) more s.0 s.1 in
    let e : bit_or r.0 s.0 ≡ bits = (let f = s.2 in cc) in
    subst (λ n. n < 2 ^ 9) e (or_lt 9 r.0 s.0 first others)

source_small : (word : List ℕ) (bits : ℕ) → source_of word ≡ Ok bits → bits < 2 ^ 9
source_small word bits = elim (bytes_eq word (codes "invalid")) as (λ b. (if b then Ok 0 else bits_of 0 (slice_split is_bar word)) ≡ Ok bits → bits < 2 ^ 9) [
  | true ↦ λ h. (let e : 0 ≡ bits = cc in omega arith)
  | false ↦ bits_small 0 (slice_split is_bar word) bits
]

trigger_fits : (text : List ℕ) (t : Trig) → trigger_of text ≡ Ok t → IsTrigger t
unfolding trigger_of
trigger_fits text t h =
    let w = after_read (two_words (slice_split (is_byte 58) text)) _ t h in
    let s = after_read (source_of w.0.0) _ t w.2 in
    let a = after_read (number_in 0 4294967295 w.0.1) _ t s.2 in
    let source = source_small w.0.0 s.0 s.1 in
    let arg = number_high 0 4294967295 w.0.1 a.0 a.1 in
    let e : record { src = s.0; arg = a.0 } ≡ t = (let f = a.2 in cc) in
    subst IsTrigger e (record { source = source; arg = omega arith })

packed_small : (c r a : ℕ) → pack c r a < 2 ^ 26
packed_small c r a = omega arith

entry_small : (text : List ℕ) (entry : ℕ) → entry_of text ≡ Ok entry → entry < 2 ^ 26
unfolding entry_of
entry_small text entry h =
    let w = after_read (three_words (slice_split (is_byte 47) text)) _ entry h in
    let c = after_read (number_in 0 65535 w.0.0) _ entry w.2 in
    let r = after_read (number_in 0 255 w.0.1) _ entry c.2 in
    let a = after_read (aref_of w.0.2) _ entry r.2 in
    let e : pack c.0 r.0 a.0 ≡ entry = (let f = a.2 in cc) in
    subst (λ n. n < 2 ^ 26) e (packed_small c.0 r.0 a.0)

abbrev is_entry : ℕ → Bool
is_entry entry = nat_lt entry (2 ^ 26)

entry_test : (entry : ℕ) → entry < 2 ^ 26 → is_entry entry ≡ true
entry_test entry h = grind (arith, nat_tests)

-- what a list of at most so many entries can say
record IsList (most : ℕ) (list : List ℕ) : Type 0 where
  pub few : length list ≤ most
  pub entries : list_all is_entry list ≡ true

has_room : (most n : ℕ) (read : List ℕ → Result ℕ Fault) (word : List ℕ) (entry : ℕ) → up_to most read n word ≡ Ok entry → (n < most) × (read word ≡ Ok entry)
has_room most n read word entry = elim (nat_lt n most) as (λ b. nat_lt n most ≡ b → (if b then read word else Err Limit) ≡ Ok entry → (n < most) × (read word ≡ Ok entry)) [
  | true ↦ λ e h. (grind (arith, nat_tests), h)
  | false ↦ λ e h. cc
] refl

one_more : (most : ℕ) (before : List ℕ) (entry : ℕ) → IsList most before → length before < most → entry < 2 ^ 26 → IsList most (before ++ entry ∷ [])
one_more most before entry h few small = record {
  few = (let l = length-append before (entry ∷ []) in omega arith);
  entries = list_all-append is_entry before (entry ∷ []) ∙ and_true _ _ h.entries (and_true _ true (entry_test entry small) refl);
}

values_fit : (most : ℕ) (before : List ℕ) (texts : List (List ℕ)) (list : List ℕ) → IsList most before → values most entry_of before texts ≡ Ok list → IsList most list
values_fit most before [] list h e = subst (IsList most) (let f : before ≡ list = cc in f) h
values_fit most before (text ∷ texts) list h e =
    let r = after_read (up_to most entry_of (length before) text) (λ x. values most entry_of (before ++ x ∷ []) texts) list e in
    let u = has_room most (length before) entry_of text r.0 r.1 in
    values_fit most (before ++ r.0 ∷ []) texts list (one_more most before r.0 h u.0 (entry_small text r.0 u.1)) r.2

list_fits : (most : ℕ) (text : List ℕ) (list : List ℕ) → list_of most text ≡ Ok list → IsList most list
unfolding list_of
list_fits most text list = elim (bytes_eq text (codes "-")) as (λ b. (if b then Ok [] else values most entry_of [] (slice_split (is_byte 44) text)) ≡ Ok list → IsList most list) [
  | true ↦ λ h. subst (IsList most) (let e : [] ≡ list = cc in e) none
  | false ↦ values_fit most [] (slice_split (is_byte 44) text) list none
]
  where
    none : IsList most []
    none = record { few = omega arith; entries = refl }

-- what a command without its list can say
record IsHead (cmd : CmdText) : Type 0 where
  pub sub : cmd.sub < 256
  pub flags : cmd.flags < 2 ^ 32
  pub start : IsTrigger cmd.start
  pub scan_begin : IsTrigger cmd.scan_begin
  pub convert : IsTrigger cmd.convert
  pub scan_end : IsTrigger cmd.scan_end
  pub stop : IsTrigger cmd.stop

head_fits : (s f t0 t1 t2 t3 t4 : List ℕ) (cmd : CmdText) → head_of s f t0 t1 t2 t3 t4 ≡ Ok cmd → IsHead cmd
unfolding head_of
head_fits s f t0 t1 t2 t3 t4 cmd h =
    let sub = after_read (number_in 0 255 s) _ cmd h in
    let flags = after_read (number_in 0 4294967295 f) _ cmd sub.2 in
    let start = after_read (trigger_of t0) _ cmd flags.2 in
    let scan_begin = after_read (trigger_of t1) _ cmd start.2 in
    let convert = after_read (trigger_of t2) _ cmd scan_begin.2 in
    let scan_end = after_read (trigger_of t3) _ cmd convert.2 in
    let stop = after_read (trigger_of t4) _ cmd scan_end.2 in
    let low = number_high 0 255 s sub.0 sub.1 in
    let bits = number_high 0 4294967295 f flags.0 flags.1 in
    let head : CmdText = record { sub = sub.0; flags = flags.0; start = start.0; scan_begin = scan_begin.0; convert = convert.0; scan_end = scan_end.0; stop = stop.0; list = [] } in
    let e : head ≡ cmd = (let g = stop.2 in cc) in
    subst IsHead e (record {
      sub = omega arith;
      flags = omega arith;
      start = trigger_fits t0 start.0 start.1;
      scan_begin = trigger_fits t1 scan_begin.0 scan_begin.1;
      convert = trigger_fits t2 convert.0 convert.1;
      scan_end = trigger_fits t3 scan_end.0 scan_end.1;
      stop = trigger_fits t4 stop.0 stop.1;
    })

whole_fits : (most : ℕ) (head : CmdText) (list : List ℕ) → IsHead head → IsList most list → HasText most (record head { list = list })
whole_fits most head list h l = record {
  sub = h.sub;
  flags = h.flags;
  start = h.start;
  scan_begin = h.scan_begin;
  convert = h.convert;
  scan_end = h.scan_end;
  stop = h.stop;
  entries = l.entries;
  few = l.few;
}

pub read_has_text : ReadHasText
read_has_text most [] cmd h = cc
read_has_text most (s ∷ []) cmd h = cc
read_has_text most (s ∷ f ∷ []) cmd h = cc
read_has_text most (s ∷ f ∷ t0 ∷ []) cmd h = cc
read_has_text most (s ∷ f ∷ t0 ∷ t1 ∷ []) cmd h = cc
read_has_text most (s ∷ f ∷ t0 ∷ t1 ∷ t2 ∷ []) cmd h = cc
read_has_text most (s ∷ f ∷ t0 ∷ t1 ∷ t2 ∷ t3 ∷ []) cmd h = cc
read_has_text most (s ∷ f ∷ t0 ∷ t1 ∷ t2 ∷ t3 ∷ t4 ∷ []) cmd h = cc
read_has_text most (s ∷ f ∷ t0 ∷ t1 ∷ t2 ∷ t3 ∷ t4 ∷ l ∷ []) cmd h =
    let head = after_read (head_of s f t0 t1 t2 t3 t4) (λ head. list_of most l >>= λ list. Ok (record head { list = list })) cmd h in
    let list = after_read (list_of most l) (λ list. Ok (record head.0 { list = list })) cmd head.2 in
    let e : record head.0 { list = list.0 } ≡ cmd = (let g = list.2 in cc) in
    subst (HasText most) e (whole_fits most head.0 list.0 (head_fits s f t0 t1 t2 t3 t4 head.0 head.1) (list_fits most l list.0 list.1))
read_has_text most (s ∷ f ∷ t0 ∷ t1 ∷ t2 ∷ t3 ∷ t4 ∷ l ∷ x ∷ more) cmd h = cc

pub gives_text : (most line : ℕ) (words : List (List ℕ)) (result : Result CmdText ReadStop) → Gives (λ cmd. cmd) result (at_line line (command_of most words)) → IfOk result (λ cmd. HasText most cmd)
gives_text most line words (Ok cmd) h = read_has_text most words cmd (line_ok line (command_of most words) cmd h)
gives_text most line words (Err stop) h = tt
