-- Triggers and entries that are cut at their first separators, where what follows has none.
use Rattle.std.proofs.Common.{◌≡◌, ℕ, ◌+◌, Bool, true, false, ◌&&◌, List, [], ◌∷◌, take, drop, refl, sym, ap, ap₂, ◌∙◌, Some, None, Ok}
use Rattle.std.specs.Prelude.{nat_le, if◌then◌else◌}
use Rattle.std.specs.Char.{is_ascii_digit}
use Rattle.std.specs.List.{list_all, position, slice_split}
use Rattle.std.specs.Str.{bytes_eq}
use Rattle.std.specs.Str.Parse.{digits_value}
use Rattle.std.proofs.lemmas.List.Splits.{slice_split_none}
use Rattle.std.proofs.lemmas.Slice.Eq.{bytes_eq-Decides}
use Rattle.cm_base.specs.Numbers.{is_number}
use Rattle.cm_base.specs.Reading.{◌>>=◌}
use Rattle.cm_base.specs.Words.{limited, listed, number_in, or_fault, source_of, three, two}
use Rattle.cm_base.specs.declared.faults.Fault.TheVariants.{BadNumber, Unknown}
use Rattle.cm_base.proofs.Bools.{both}
use Rattle.cm_base.proofs.Joined.{free, free_of, is_free}
use Rattle.cm_base.proofs.Splits.{first_part}
use Rattle.cm_cmd.specs.CommandText.{trigger, trigger_of}
use Rattle.cm_cmd.specs.Entry.{pack}
use Rattle.cm_base.specs.Stops.{is_byte}
use Rattle.cm_cmd.specs.ListText.{aref_of, arefs, entry_of}
use Rattle.cm_cmd.proofs.Printed.{no_colon_in_digits}

-- a word that says a number has only digits
digits_of_number : (least most : ℕ) (word : List ℕ) (n : ℕ) → number_in least most word ≡ Ok n → list_all is_ascii_digit word ≡ true
digits_of_number least most word n = by (is_number word) refl
  where
    by : (b : Bool) → is_number word ≡ b → (or_fault BadNumber (if b then Some (digits_value 10 word) else None) >>= λ m. limited (nat_le least m && nat_le m most) m) ≡ Ok n → list_all is_ascii_digit word ≡ true
    by true is h = (both _ (list_all is_ascii_digit word) is).1
    by false is h = cc

pub trigger_cut : (text source argument : List ℕ) (at src arg : ℕ) → position (is_byte 58) text ≡ Some at → source ≡ take at text → argument ≡ drop (at + 1) text →
    source_of source ≡ Ok src → number_in 0 4294967295 argument ≡ Ok arg → trigger_of text ≡ Ok (trigger src arg)
unfolding trigger_of
trigger_cut text source argument at src arg e s a f g =
    let digits = digits_of_number 0 4294967295 argument arg g in
    let one = slice_split_none (is_byte 58) argument (free (is_byte 58) argument (free_of is_ascii_digit (is_byte 58) no_colon_in_digits argument digits)) in
    ap (two trigger source_of (number_in 0 4294967295))
    (first_part (is_byte 58) text at e ∙ ap₂ (λ (x y : List ℕ). x ∷ slice_split (is_byte 58) y) (sym s) (sym a) ∙ ap (λ (parts : List (List ℕ)). source ∷ parts) one)
    ∙ rw (f, g) refl

-- no reference has a slash
abbrev all_free : List (List ℕ × ℕ) → Bool
all_free [] = true
all_free (entry ∷ more) = is_free (is_byte 47) entry.0 && all_free more

listed_free : (entries : List (List ℕ × ℕ)) (word : List ℕ) (a : ℕ) → all_free entries ≡ true → or_fault Unknown (listed entries word) ≡ Ok a → is_free (is_byte 47) word ≡ true
listed_free [] word a h e = cc
listed_free (entry ∷ more) word a h e = by (bytes_eq word entry.0) refl e (listed_free more word a (both (is_free (is_byte 47) entry.0) (all_free more) h).1)
  where
    by : (t : Bool) → bytes_eq word entry.0 ≡ t → or_fault Unknown (if t then Some entry.1 else listed more word) ≡ Ok a → (or_fault Unknown (listed more word) ≡ Ok a → is_free (is_byte 47) word ≡ true) → is_free (is_byte 47) word ≡ true
    by true is e later = ap (is_free (is_byte 47)) ((bytes_eq-Decides word entry.0).0 is) ∙ (both (is_free (is_byte 47) entry.0) (all_free more) h).0
    by false is e later = later e

aref_free : (word : List ℕ) (a : ℕ) → aref_of word ≡ Ok a → is_free (is_byte 47) word ≡ true
unfolding aref_of
aref_free word a e = listed_free arefs word a refl e

pub entry_cut : (text chan_text rest range_text aref_text : List ℕ) (first second chan range aref : ℕ) →
    position (is_byte 47) text ≡ Some first → chan_text ≡ take first text → rest ≡ drop (first + 1) text →
    position (is_byte 47) rest ≡ Some second → range_text ≡ take second rest → aref_text ≡ drop (second + 1) rest →
    number_in 0 65535 chan_text ≡ Ok chan → number_in 0 255 range_text ≡ Ok range → aref_of aref_text ≡ Ok aref → entry_of text ≡ Ok (pack chan range aref)
unfolding entry_of
entry_cut text chan_text rest range_text aref_text first second chan range aref e c r f g a h i j =
    let one = slice_split_none (is_byte 47) aref_text (free (is_byte 47) aref_text (aref_free aref_text aref j)) in
    let later = first_part (is_byte 47) rest second f ∙ ap₂ (λ (x y : List ℕ). x ∷ slice_split (is_byte 47) y) (sym g) (sym a) ∙ ap (λ (parts : List (List ℕ)). range_text ∷ parts) one in
    ap (three pack (number_in 0 65535) (number_in 0 255) aref_of)
    (first_part (is_byte 47) text first e ∙ ap₂ (λ (x y : List ℕ). x ∷ slice_split (is_byte 47) y) (sym c) (sym r) ∙ ap (λ (parts : List (List ℕ)). chan_text ∷ parts) later)
    ∙ rw (h, i, j) refl
