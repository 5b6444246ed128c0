-- A source text name by name.
use Rattle.std.proofs.Common.{◌≡◌, ℕ, ◌+◌, ◌*◌, Bool, true, false, ◌&&◌, ◌≤◌, nat_le, rules, List, [], ◌∷◌, take, drop, refl, ap, ◌∙◌, Some, None, Result, Ok, Err, bit_or}
use Rattle.std.specs.Int.Bits.{or_zero_r}
use Rattle.std.specs.List.{slice_split, position}
use Rattle.cm_base.specs.Reading.{◌>>=◌}
use Rattle.std.specs.Prelude.{if◌then◌else◌}
use Rattle.std.specs.Str.{bytes_eq}
use Rattle.std.proofs.lemmas.Bool.Decides.{nat_tests}
use Rattle.std.proofs.lemmas.Slice.Eq.{bytes_eq-Decides}
use Rattle.cm_base.specs.Source.{bit_named, bit_of, source_names}
use Rattle.cm_base.specs.Words.{bit_from, bits_of, is_bar, source_of}
use Rattle.cm_base.specs.declared.faults.Fault.{Fault}
use Rattle.cm_base.proofs.Bools.{both}
use Rattle.cm_base.proofs.SourcesBack.{reads_as, reads_ok}
use Rattle.cm_base.proofs.Splits.{one_part, first_part}

alone : (read : Result ℕ Fault) → (read >>= λ bit. Ok (bit_or bit 0)) ≡ read
alone (Ok bit) = ap Ok (or_zero_r bit)
alone (Err e) = refl

-- a text without a bar is one name
pub bits_of_last : (least : ℕ) (word : List ℕ) → position is_bar word ≡ None → bits_of least (slice_split is_bar word) ≡ bit_from least word
bits_of_last least word e = ap (bits_of least) (one_part is_bar word e) ∙ alone (bit_from least word)

-- a text with a bar is the name before it and the names after it
pub bits_of_first : (least : ℕ) (word : List ℕ) (at : ℕ) → position is_bar word ≡ Some at → bits_of least (slice_split is_bar word) ≡ (bit_from least (take at word) >>= λ bit. bits_of (2 * bit) (slice_split is_bar (drop (at + 1) word)) >>= λ rest. Ok (bit_or bit rest))
bits_of_first least word at e = ap (bits_of least) (first_part is_bar word at e)

-- the same where the first name is one
pub bits_of_more : (least : ℕ) (word : List ℕ) (at bit : ℕ) (read : Result ℕ Fault) → position is_bar word ≡ Some at → bit_from least (take at word) ≡ Ok bit → bits_of (2 * bit) (slice_split is_bar (drop (at + 1) word)) ≡ read → bits_of least (slice_split is_bar word) ≡ (read >>= λ rest. Ok (bit_or bit rest))
bits_of_more least word at bit read e first more =
    bits_of_first least word at e ∙ ap (λ r. r >>= λ bit. bits_of (2 * bit) (slice_split is_bar (drop (at + 1) word)) >>= λ rest. Ok (bit_or bit rest)) first
    ∙ ap (λ r. r >>= λ rest. Ok (bit_or bit rest)) more

-- each name alone says its bit
abbrev all_alone : List (ℕ × List ℕ) → Bool
all_alone [] = true
all_alone (source ∷ more) = reads_as source.0 (source_of source.1) && all_alone more

named_alone : (names : List (ℕ × List ℕ)) (name : List ℕ) (bit : ℕ) → all_alone names ≡ true → bit_named names name ≡ Some bit → source_of name ≡ Ok bit
named_alone [] name bit h e = cc
named_alone (source ∷ more) name bit h e = by (bytes_eq name source.1) refl e (named_alone more name bit (both (reads_as source.0 (source_of source.1)) (all_alone more) h).1)
  where
    by : (t : Bool) → bytes_eq name source.1 ≡ t → (if t then Some source.0 else bit_named more name) ≡ Some bit → (bit_named more name ≡ Some bit → source_of name ≡ Ok bit) → source_of name ≡ Ok bit
    by true is e later =
        let same : source.0 ≡ bit = cc in
        ap source_of ((bytes_eq-Decides name source.1).0 is) ∙ reads_ok source.0 (source_of source.1) (both (reads_as source.0 (source_of source.1)) (all_alone more) h).0 ∙ ap Ok same
    by false is e later = later e

-- a text that is one name
pub one_name : (name : List ℕ) (bit : ℕ) → bit_of name ≡ Some bit → source_of name ≡ Ok bit
one_name name bit e = named_alone source_names name bit refl e

-- each bit of a list is at most 256
abbrev all_low : List (ℕ × List ℕ) → Bool
all_low [] = true
all_low (source ∷ more) = nat_le source.0 256 && all_low more

named_low : (names : List (ℕ × List ℕ)) (name : List ℕ) (bit : ℕ) → all_low names ≡ true → bit_named names name ≡ Some bit → bit ≤ 256
named_low [] name bit h e = cc
named_low (source ∷ more) name bit h e = by (bytes_eq name source.1) e (named_low more name bit (both (nat_le source.0 256) (all_low more) h).1)
  where
    by : (t : Bool) → (if t then Some source.0 else bit_named more name) ≡ Some bit → (bit_named more name ≡ Some bit → bit ≤ 256) → bit ≤ 256
    by true e later =
        let same : source.0 ≡ bit = cc in
        search (rules, nat_tests, same, (both (nat_le source.0 256) (all_low more) h).0)
    by false e later = later e

-- a name's bit is at most 256
pub bit_low : (name : List ℕ) (bit : ℕ) → bit_of name ≡ Some bit → bit ≤ 256
bit_low name bit e = named_low source_names name bit refl e
