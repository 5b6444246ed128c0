-- Sources and references are read as they were written.
use Rattle.std.proofs.Common.{◌≡◌, ℕ, ◌<◌, ◌^◌, Bool, true, ◌&&◌, List, refl, Result, Ok}
use Rattle.std.specs.Prelude.{nat_le}
use Rattle.std.specs.List.{list_all, range_with_len}
use Rattle.cm_base.specs.Lines.{is_not_empty}
use Rattle.cm_base.specs.SourceText.{source_text}
use Rattle.cm_base.specs.Words.{source_of}
use Rattle.cm_base.specs.declared.faults.Fault.{Fault}
use Rattle.cm_base.proofs.SourcesBack.{each_below, reads_ok, source_back, reads_as}
use Rattle.cm_cmd.specs.ListText.{aref_text, aref_of}
use Rattle.cm_base.proofs.Bools.{both}

-- a small letter or a bar
abbrev pub is_source_byte : ℕ → Bool
is_source_byte c = nat_le 97 c && nat_le c 124

-- some letters and bars
abbrev is_name : List ℕ → Bool
is_name text = list_all is_source_byte text && is_not_empty text

all_names : list_all (λ src. is_name (source_text src)) (range_with_len 0 512) ≡ true
all_names = refl

abbrev aref_is_read : ℕ → Bool
aref_is_read a = reads_as a (aref_of (aref_text a)) && is_name (aref_text a)

all_arefs_read : list_all aref_is_read (range_with_len 0 4) ≡ true
unfolding aref_of
all_arefs_read = refl

pub record IsRead (text : List ℕ) (read : Result ℕ Fault) (n : ℕ) : Type 0 where
  pub value : read ≡ Ok n
  pub class : list_all is_source_byte text ≡ true
  pub some : is_not_empty text ≡ true

pub source_read : (src : ℕ) → src < 2 ^ 9 → IsRead (source_text src) (source_of (source_text src)) src
source_read src h =
    let b = both (list_all is_source_byte (source_text src)) (is_not_empty (source_text src)) (each_below (λ n. is_name (source_text n)) 512 all_names src h) in
    record { value = source_back src h; class = b.0; some = b.1 }

pub aref_read : (a : ℕ) → a < 4 → IsRead (aref_text a) (aref_of (aref_text a)) a
aref_read a h =
    let r = both (reads_as a (aref_of (aref_text a))) (is_name (aref_text a)) (each_below aref_is_read 4 all_arefs_read a h) in
    let b = both (list_all is_source_byte (aref_text a)) (is_not_empty (aref_text a)) r.1 in
    record { value = reads_ok a (aref_of (aref_text a)) r.0; class = b.0; some = b.1 }
