-- The words that are moved, and what is compared.
use Rattle.std.specs.Prelude.{◌≡◌, ◌⊎◌, ℕ, zero, suc, ◌+◌, ◌-◌, ◌*◌, ◌/◌}
use Rattle.std.specs.Prelude.{◌%◌, ◌^◌, bit_and, nat_eq, List, [], ◌∷◌, ◌++◌, take, drop}
use Rattle.std.specs.Prelude.{if◌then◌else◌}
use Rattle.cm_load.specs.declared.words.Stretch.{Stretch}

-- a greatest code of the words that are moved
abbrev pub IsMost : ℕ → Type 0
IsMost maxdata = (maxdata ≡ 255) ⊎ (maxdata ≡ 65535)

-- the word that is put at a place
abbrev pub place_word : ℕ → ℕ → ℕ
place_word maxdata place = bit_and (place * 2654435761 % 2 ^ 32 / 2 ^ 16) maxdata

-- the words of the first so many places
abbrev pub place_words : ℕ → ℕ → List ℕ
place_words maxdata zero = []
place_words maxdata (suc n) = place_words maxdata n ++ place_word maxdata n ∷ []

-- the code that comes for it: half of all codes further
abbrev pub place_code : ℕ → ℕ → ℕ
place_code maxdata place = bit_and ((place_word maxdata place + (maxdata / 2 + 1)) % 2 ^ 32) maxdata

-- how many of the first so many values of two sequences differ
abbrev pub differing : (ℕ → ℕ) → (ℕ → ℕ) → ℕ → ℕ
differing f g zero = 0
differing f g (suc n) = differing f g n + (if nat_eq (f n) (g n) then 0 else 1)

-- the first half of consecutive places
abbrev pub front_half : Stretch → Stretch
front_half places = record { first = places.first; count = places.count / 2 }

-- the other half
abbrev pub back_half : Stretch → Stretch
back_half places = record {
  first = (places.first + places.count / 2) % 2 ^ 32;
  count = places.count - places.count / 2;
}

-- those of the words that are given at places
abbrev pub words_at : Stretch → List ℕ → List ℕ
words_at places words = take places.count (drop places.first words)
