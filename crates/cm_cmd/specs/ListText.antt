-- Channel lists as text, both ways.
use Rattle.std.specs.Prelude.{ℕ, ◌==◌, List, [], ◌∷◌, ◌++◌, length, map, Result, Ok, codes, if◌then◌else◌}
use Rattle.std.specs.Fmt.{decimal}
use Rattle.std.specs.List.{join_with_byte, slice_split}
use Rattle.std.specs.Str.{bytes_eq}
use Rattle.cm_base.specs.Reading.{◌>>=◌}
use Rattle.cm_base.specs.Stops.{is_byte}
use Rattle.cm_base.specs.Words.{keyword, number_in, three, up_to, values}
use Rattle.cm_base.specs.declared.faults.Fault.{Fault}
use Rattle.cm_cmd.specs.Entry.{pack, chan, range, aref}

-- the references by their numbers
abbrev pub aref_text : ℕ → List ℕ
aref_text a =
    if a == 0 then codes "ground"
    else (if a == 1 then codes "common" else (if a == 2 then codes "diff" else codes "other"))

-- channel, range and reference, with slashes between them
abbrev pub entry_text : ℕ → List ℕ
entry_text entry = join_with_byte 47 (decimal (chan entry) ∷ decimal (range entry) ∷ aref_text (aref entry) ∷ [])

-- the entries with commas between them, and a dash for none
abbrev pub list_text : List ℕ → List ℕ
list_text [] = codes "-"
list_text (entry ∷ list) = join_with_byte 44 (map entry_text (entry ∷ list))

-- the analog references with their names
abbrev pub arefs : List (List ℕ × ℕ)
arefs = (codes "ground", 0) ∷ (codes "common", 1) ∷ (codes "diff", 2) ∷ (codes "other", 3) ∷ []

-- the number of a reference
unfoldable pub aref_of : List ℕ → Result ℕ Fault
aref_of word = keyword arefs word

-- a channel, a range and a reference, with slashes between them
unfoldable pub entry_of : List ℕ → Result ℕ Fault
entry_of text = three pack (number_in 0 65535) (number_in 0 255) aref_of (slice_split (is_byte 47) text)

-- a list with the entry of this text, of which there may be so many
abbrev pub with_entry : ℕ → List ℕ → List ℕ → Result (List ℕ) Fault
with_entry most list text = up_to most entry_of (length list) text >>= λ entry. Ok (list ++ entry ∷ [])

-- at most so many entries with commas between them, and a dash for none
unfoldable pub list_of : ℕ → List ℕ → Result (List ℕ) Fault
list_of most text = if bytes_eq text (codes "-") then Ok [] else values most entry_of [] (slice_split (is_byte 44) text)
