-- The words of a printed line are read as what they say.
use Rattle.std.proofs.Common.{◌≡◌, ℕ, zero, suc, ◌+◌, ◌-◌, ◌^◌, ◌<◌, ◌≤◌, Bool, true, false, cond, not, ◌&&◌, ◌||◌, List, [], ◌∷◌, ◌++◌, length, Option, Some, None, option_to_list, Ok, refl, sym, ap, ◌∙◌, nat_le, nat_lt, ◌==◌, arith, append_assoc, append-nil, bit_and, decimal}
use Rattle.std.specs.List.{list_all}
use Rattle.std.specs.Str.{bytes_eq}
use Rattle.std.proofs.lemmas.Bool.{eq-eqb, eqb-true, leb-true, ltb-true}
use Rattle.std.proofs.lemmas.Bool.Decides.{nat_tests}
use Rattle.std.proofs.lemmas.Nat.{and_le_r}
use Rattle.cm_base.specs.Lines.{is_word}
use Rattle.cm_base.specs.Reading.{◌>>=◌}
use Rattle.cm_base.specs.SourceText.{source_text}
use Rattle.cm_base.specs.Words.{limited, number_below, or_fault, source_in, sources_in}
use Rattle.cm_base.specs.declared.faults.Fault.TheVariants as faults
use Rattle.cm_base.proofs.Bools.{and_true, both}
use Rattle.cm_base.proofs.NumbersBack.{number_in-decimal, number_of-decimal, signed_number-decimal, word-decimal, word-signed_decimal}
use Rattle.cm_base.proofs.SourcesBack.{source_back, word-source}
use Rattle.cm_board.specs.Kept.{are_kept, is_among, is_kept, is_source, is_within, set_in}
use Rattle.cm_board_text.specs.IsTable.{are_apart, are_names, differ, differ_somewhere, is_place, is_proper}
use Rattle.cm_board_text.specs.Printed.{name_at, value_text, words_text}
use Rattle.cm_board_text.specs.Reading.{begins_form, fixed_is, is_form, place_from, read_word, values_after}
use Rattle.cm_board.specs.Table.{WordText, Fixed, Number, Signed, Sources, Source, Name, Channel, Divisors}
use Rattle.cm_board.specs.Versions.{is_wide, most_in}
use Rattle.cm_board.specs.declared.table.Head.{Head}
use Rattle.cm_board.specs.declared.table.Limits.{Limits}
use Rattle.cm_board.specs.declared.table.Sets.{Sets}
use Rattle.cm_board.specs.declared.table.Value.{Value}
use Rattle.cm_board.specs.declared.table.Value.TheVariants as values_of
use Rattle.cm_board_text.proofs.DivisorsBack.{divisors_back, word-divisors}
use Rattle.cm_board_text.proofs.MostIn.{between}

-- a word that says nothing
abbrev pub is_fixed : WordText → Bool
is_fixed (Fixed key) = true
is_fixed other = false

-- a mask of the nine sources is less than 512
few_bits : (set mask : ℕ) → set < 512 → is_among set mask ≡ true → mask < 512
few_bits set mask k h =
    let e = (both (not (mask == 0)) (bit_and mask set == mask) h).1 in
    let same : bit_and mask set ≡ mask = grind (arith, nat_tests, e) in
    let less : bit_and mask set ≤ set = and_le_r mask set in
    omega arith

sources_back : (set mask : ℕ) → set < 512 → is_among set mask ≡ true → sources_in set (source_text mask) ≡ Ok mask
sources_back set mask k h = ap (λ r. r >>= λ bits. limited (is_among set bits) bits) (source_back mask (few_bits set mask k h)) ∙ ap (λ b. limited b mask) h

source_in_back : (src : ℕ) → is_source src ≡ true → source_in 511 (source_text src) ≡ Ok src
source_in_back src h =
    let b = both (is_among 511 src) (bit_and src (src - 1) == 0) h in
    ap (λ r. r >>= λ bits. limited (bit_and bits (bits - 1) == 0) bits) (sources_back 511 src (omega arith) b.0) ∙ ap (λ t. limited t src) b.1

-- a name is found at its place
record IsName (names : List (List ℕ)) (n : ℕ) : Type 0 where
  pub found : place_from 0 (name_at n names) names ≡ Some n
  pub word : is_word (name_at n names) ≡ true

place_is : (n : ℕ) (o : Option ℕ) → is_place n o ≡ true → o ≡ Some n
place_is n None h = cc
place_is n (Some m) h = ap (λ (k : ℕ). Some k) (eqb-true m n h)

name_from : (all : List (List ℕ)) (n k : ℕ) (names : List (List ℕ)) → are_names all n names ≡ true → k < length names →
    (place_from 0 (name_at k names) all ≡ Some (n + k)) × (is_word (name_at k names) ≡ true)
name_from all n k [] h below = absurd (omega arith)
name_from all n zero (name ∷ names) h below =
    let b = both (is_place n (place_from 0 name all) && is_word name) (are_names all (n + 1) names) h in
    let a = both (is_place n (place_from 0 name all)) (is_word name) b.0 in
    (place_is n (place_from 0 name all) a.0 ∙ ap (λ (m : ℕ). Some m) (omega arith), a.1)
name_from all n (suc k) (name ∷ names) h below =
    let b = both (is_place n (place_from 0 name all) && is_word name) (are_names all (n + 1) names) h in
    let later = name_from all (n + 1) k names b.1 (omega arith) in
    (later.0 ∙ ap (λ (m : ℕ). Some m) (omega arith), later.1)

name_back : (names : List (List ℕ)) (n : ℕ) → are_names names 0 names ≡ true → nat_lt n (length names) ≡ true → IsName names n
name_back names n h below =
    let f = name_from names 0 n names h (ltb-true n (length names) below) in record { found = f.0 ∙ ap (λ (m : ℕ). Some m) (omega arith); word = f.1 }

small_number : (version : ℕ) (l : Limits) (n : ℕ) → (nat_le l.most l.wide && nat_lt l.wide 4294967296) ≡ true → is_within version l n ≡ true → n < 2 ^ 32
small_number version l n k h =
    let a = both (nat_le l.most l.wide) (nat_lt l.wide 4294967296) k in
    let high = leb-true n l.wide (both (nat_le l.least n) (nat_le n l.wide) (between version l n a.0 h)).1 in
    let top = ltb-true l.wide 4294967296 a.1 in
    omega (arith, high, top)

small_set : (version : ℕ) (sets : Sets) → (nat_lt sets.first 512 && nat_lt sets.second 512 && nat_lt sets.wide 512) ≡ true → set_in version sets < 512
small_set version sets h = by (is_wide version) (nat_le 2 version)
  where
    by : (wide second : Bool) → cond wide sets.wide (cond second sets.second sets.first) < 512
    by true second = ltb-true sets.wide 512 (both (nat_lt sets.first 512 && nat_lt sets.second 512) (nat_lt sets.wide 512) h).1
    by false true = ltb-true sets.second 512 (both (nat_lt sets.first 512) (nat_lt sets.second 512) (both _ (nat_lt sets.wide 512) h).0).1
    by false false = ltb-true sets.first 512 (both (nat_lt sets.first 512) (nat_lt sets.second 512) (both _ (nat_lt sets.wide 512) h).0).0

-- a channel of a block
channel_back : (limit n : ℕ) → limit < 2 ^ 32 → nat_lt n limit ≡ true → number_below limit (decimal n) ≡ Ok n
channel_back limit n s h =
    let below : n < limit = ltb-true n limit h in
    ap (λ o. or_fault faults.BadNumber o >>= λ m. limited (nat_lt m limit) m) (number_of-decimal n (omega arith)) ∙ ap (λ b. limited b n) h

-- a word that is not fixed is read as its value
record IsBack (head : Head) (kind : WordText) (v : Value) : Type 0 where
  pub read : read_word head kind (value_text kind v) ≡ Ok (Some v)
  pub word : is_word (value_text kind v) ≡ true

word_back : (head : Head) (kind : WordText) (v : Value) → head.channels < 2 ^ 32 → is_proper kind ≡ true → is_kept head kind v ≡ true → IsBack head kind v
word_back head (Fixed key) v s p h = cc
word_back head (Number l) (values_of.Number n) s p h =
    let small = small_number head.version l n p h in
    record { read = ap (λ r. r >>= λ m. Ok (Some (values_of.Number m))) (number_in-decimal l.least (most_in head.version l.most l.wide) n small h); word = word-decimal n small }
word_back head (Number l) (values_of.Signed z) s p h = cc
word_back head (Number l) (values_of.Name n) s p h = cc
word_back head (Number l) (values_of.Divisors d) s p h = cc
word_back head Signed (values_of.Signed z) s p h =
    record { read = ap (λ r. r >>= λ m. Ok (Some (values_of.Signed m))) (signed_number-decimal z h); word = word-signed_decimal z h }
word_back head Signed (values_of.Number n) s p h = cc
word_back head Signed (values_of.Name n) s p h = cc
word_back head Signed (values_of.Divisors d) s p h = cc
word_back head (Sources sets) (values_of.Number n) s p h =
    let small = small_set head.version sets p in
    record { read = ap (λ r. r >>= λ m. Ok (Some (values_of.Number m))) (sources_back (set_in head.version sets) n small h); word = word-source n (few_bits (set_in head.version sets) n small h) }
word_back head (Sources sets) (values_of.Signed z) s p h = cc
word_back head (Sources sets) (values_of.Name n) s p h = cc
word_back head (Sources sets) (values_of.Divisors d) s p h = cc
word_back head Source (values_of.Number n) s p h = record {
  read = ap (λ r. r >>= λ m. Ok (Some (values_of.Number m))) (source_in_back n h);
  word = word-source n (few_bits 511 n (omega arith) (both (is_among 511 n) (bit_and n (n - 1) == 0) h).0);
}
word_back head Source (values_of.Signed z) s p h = cc
word_back head Source (values_of.Name n) s p h = cc
word_back head Source (values_of.Divisors d) s p h = cc
word_back head (Name names) (values_of.Name n) s p h =
    let i = name_back names n p h in
    record { read = ap (λ o. or_fault faults.Unknown o >>= λ m. Ok (Some (values_of.Name m))) i.found; word = i.word }
word_back head (Name names) (values_of.Number n) s p h = cc
word_back head (Name names) (values_of.Signed z) s p h = cc
word_back head (Name names) (values_of.Divisors d) s p h = cc
word_back head Channel (values_of.Number n) s p h =
    let below : n < head.channels = ltb-true n head.channels h in
    record { read = ap (λ r. r >>= λ m. Ok (Some (values_of.Number m))) (channel_back head.channels n s h); word = word-decimal n (omega arith) }
word_back head Channel (values_of.Signed z) s p h = cc
word_back head Channel (values_of.Name n) s p h = cc
word_back head Channel (values_of.Divisors d) s p h = cc
word_back head Divisors (values_of.Divisors d) s p h =
    record { read = ap (λ r. r >>= λ e. Ok (Some (values_of.Divisors e))) (divisors_back d h); word = word-divisors d h }
word_back head Divisors (values_of.Number n) s p h = cc
word_back head Divisors (values_of.Signed z) s p h = cc
word_back head Divisors (values_of.Name n) s p h = cc

-- what the words of a line are
pub record AreBack (head : Head) (kinds : List WordText) (vs : List Value) : Type 0 where
  pub read : (before : List Value) → values_after head before kinds (words_text kinds vs) ≡ Ok (before ++ vs)
  pub words : list_all is_word (words_text kinds vs) ≡ true
  pub begins : begins_form kinds (words_text kinds vs) ≡ true

value_more : (head : Head) (kind : WordText) (kinds : List WordText) (v : Value) (vs : List Value) → is_fixed kind ≡ false → IsBack head kind v →
    AreBack head kinds vs → (before : List Value) → values_after head before (kind ∷ kinds) (value_text kind v ∷ words_text kinds vs) ≡ Ok (before ++ v ∷ vs)
value_more head kind kinds v vs f b a before =
    ap (λ r. r >>= λ o. values_after head (before ++ option_to_list o) kinds (words_text kinds vs)) b.read ∙ a.read (before ++ v ∷ [])
    ∙ ap Ok (append_assoc before (v ∷ []) vs)

fixed_more : (head : Head) (key : List ℕ) (kinds : List WordText) (vs : List Value) → is_proper (Fixed key) ≡ true → AreBack head kinds vs →
    AreBack head (Fixed key ∷ kinds) vs
fixed_more head key kinds vs p a =
    let b = both (is_word key) (bytes_eq key key) p in
    record {
      read = λ before. ap (λ (xs : List Value). values_after head xs kinds (words_text kinds vs)) (append-nil before) ∙ a.read before;
      words = and_true _ _ b.0 a.words;
      begins = and_true _ _ b.1 a.begins;
    }

words_back : (head : Head) (kinds : List WordText) (vs : List Value) → head.channels < 2 ^ 32 → list_all is_proper kinds ≡ true →
    are_kept head kinds vs ≡ true → AreBack head kinds vs
words_back head [] [] s p h = record { read = λ before. ap Ok (sym (append-nil before)); words = refl; begins = refl }
words_back head [] (v ∷ vs) s p h = cc
words_back head (Fixed key ∷ kinds) vs s p h =
    let q = both (is_proper (Fixed key)) (list_all is_proper kinds) p in
    fixed_more head key kinds vs q.0 (words_back head kinds vs s q.1 h)
words_back head (kind ∷ kinds) [] s p h = cc
words_back head (kind ∷ kinds) (v ∷ vs) s p h =
    let q = both (is_proper kind) (list_all is_proper kinds) p in
    let b = both (is_kept head kind v) (are_kept head kinds vs) h in
    let here = word_back head kind v s q.0 b.0 in
    let more = words_back head kinds vs s q.1 b.1 in
    record { read = value_more head kind kinds v vs refl here more; words = and_true _ _ here.word more.words; begins = more.begins }

pub kept_back : (head : Head) (kinds : List WordText) (vs : List Value) → head.channels < 2 ^ 32 → list_all is_proper kinds ≡ true →
    are_kept head kinds vs ≡ true → AreBack head kinds vs
kept_back = words_back

-- as many words as the form has
as_many : (head : Head) (kinds : List WordText) (vs : List Value) → are_kept head kinds vs ≡ true → length (words_text kinds vs) ≡ length kinds
as_many head [] vs h = refl
as_many head (Fixed key ∷ kinds) vs h = ap suc (as_many head kinds vs h)
as_many head (kind ∷ kinds) [] h = cc
as_many head (kind ∷ kinds) (v ∷ vs) h = ap suc (as_many head kinds vs (both (is_kept head kind v) (are_kept head kinds vs) h).1)

-- a printed line is of its form
pub form_kept : (head : Head) (kinds : List WordText) (vs : List Value) → AreBack head kinds vs → are_kept head kinds vs ≡ true →
    is_form kinds (words_text kinds vs) ≡ true
form_kept head kinds vs a h = and_true _ _ (eq-eqb _ _ (as_many head kinds vs h)) a.begins

-- a line of one form has no other that is apart from it
not_both : (a : Bool) → (a && false) ≡ false
not_both true = refl
not_both false = refl

not_fixed : (a : Bool) → not a ≡ true → a ≡ false
not_fixed true e = cc
not_fixed false e = refl

fixed_apart : (g : WordText) (key : List ℕ) → differ g (Fixed key) ≡ true → fixed_is g key ≡ false
fixed_apart (Fixed a) key h = not_fixed (bytes_eq key a) h
fixed_apart (Number l) key h = cc
fixed_apart Signed key h = cc
fixed_apart (Sources sets) key h = cc
fixed_apart Source key h = cc
fixed_apart (Name names) key h = cc
fixed_apart Channel key h = cc
fixed_apart Divisors key h = cc

never_differ : (g kind : WordText) → is_fixed kind ≡ false → differ g kind ≡ false
never_differ g (Fixed key) h = cc
never_differ (Fixed a) (Number l) h = refl
never_differ (Fixed a) Signed h = refl
never_differ (Fixed a) (Sources sets) h = refl
never_differ (Fixed a) Source h = refl
never_differ (Fixed a) (Name names) h = refl
never_differ (Fixed a) Channel h = refl
never_differ (Fixed a) Divisors h = refl
never_differ g other h = refl

-- the first word of two that differ, or the words after them
apart_word : (g kind : WordText) (gs kinds : List WordText) (w : List ℕ) (ws : List (List ℕ)) → (differ g kind ≡ true → fixed_is g w ≡ false) →
    (differ_somewhere gs kinds ≡ true → begins_form gs ws ≡ false) → (differ g kind || differ_somewhere gs kinds) ≡ true →
    (fixed_is g w && begins_form gs ws) ≡ false
apart_word g kind gs kinds w ws here more h = by (differ g kind) refl h
  where
    by : (d : Bool) → differ g kind ≡ d → (d || differ_somewhere gs kinds) ≡ true → (fixed_is g w && begins_form gs ws) ≡ false
    by true e h = ap (λ b. b && begins_form gs ws) (here e)
    by false e h = ap (λ b. fixed_is g w && b) (more h) ∙ not_both (fixed_is g w)

other_words : (head : Head) (gs kinds : List WordText) (vs : List Value) → differ_somewhere gs kinds ≡ true → are_kept head kinds vs ≡ true →
    begins_form gs (words_text kinds vs) ≡ false
other_words head [] kinds vs d h = cc
other_words head (g ∷ gs) [] vs d h = cc
other_words head (g ∷ gs) (Fixed key ∷ kinds) vs d h =
    apart_word g (Fixed key) gs kinds key (words_text kinds vs) (fixed_apart g key) (λ later. other_words head gs kinds vs later h) d
other_words head (g ∷ gs) (kind ∷ kinds) [] d h = cc
other_words head (g ∷ gs) (kind ∷ kinds) (v ∷ vs) d h =
    let b = both (is_kept head kind v) (are_kept head kinds vs) h in
    apart_word g kind gs kinds (value_text kind v) (words_text kinds vs) (λ here. let n = never_differ g kind refl in cc)
    (λ later. other_words head gs kinds vs later b.1) d

pub apart_back : (head : Head) (gs kinds : List WordText) (vs : List Value) → are_apart gs kinds ≡ true → are_kept head kinds vs ≡ true →
    is_form gs (words_text kinds vs) ≡ false
apart_back head gs kinds vs a h = by (length gs == length kinds) refl a
  where
    ws : List (List ℕ)
    ws = words_text kinds vs

    fewer : (length gs == length kinds) ≡ false → (length ws == length gs) ≡ false
    fewer e = let many = as_many head kinds vs h in grind (arith, nat_tests, e, many)

    by : (b : Bool) → (length gs == length kinds) ≡ b → (not b || differ_somewhere gs kinds) ≡ true → is_form gs ws ≡ false
    by true e d = ap (λ b. length ws == length gs && b) (other_words head gs kinds vs d h) ∙ not_both (length ws == length gs)
    by false e d = ap (λ b. b && begins_form gs ws) (fewer e)
