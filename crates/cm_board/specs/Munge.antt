-- What a munge is: the lines that say it, the codes that it goes with, and both of its ways.
use Rattle.std.specs.Prelude.{◌≡◌, ℕ, zero, suc, ◌+◌, ◌*◌, ◌/◌, ◌%◌, ◌^◌, ◌<◌, ◌≤◌, min, max, nat_le, bit_xor}
use Rattle.std.specs.Prelude.{Bool, true, false, ◌&&◌, List, [], ◌∷◌, ◌++◌, map, codes}
use Rattle.cm_board.specs.Table.{FormText, WordText, Fixed, Number}
use Rattle.cm_board.specs.declared.munge.Munge.{Munge}
use Rattle.cm_board.specs.declared.munge.Munge.TheVariants.{Plain, Offset, Swap16, Left}
use Rattle.cm_board.specs.declared.table.Rule.TheVariants as rules_of

-- the words of each form after `munge`
abbrev pub munge_words : List (List WordText)
munge_words =
    (Fixed (codes "none") ∷ [])
    ∷ (Fixed (codes "offset") ∷ [])
    ∷ (Fixed (codes "swap16") ∷ [])
    ∷ (Fixed (codes "left") ∷ Number (record { least = 1; most = 8; wide = 8 }) ∷ [])
    ∷ []

-- the forms of a row of munges, whose lines begin with these words
abbrev pub munge_forms : ℕ → List WordText → List FormText
munge_forms row before =
    map (λ words. record { row = row; words = before ++ (Fixed (codes "munge") ∷ words); rule = rules_of.Free })
    munge_words

-- a munge by its number among these forms, where the last shifts by so many bits, 1 to 8
abbrev pub munge_by_form : ℕ → ℕ → Munge
munge_by_form zero bits = Plain
munge_by_form (suc zero) bits = Offset
munge_by_form (suc (suc zero)) bits = Swap16
munge_by_form form bits = Left (max (min bits 8) 1)

-- a shift is by 1 to 8 bits
abbrev pub is_munge : Munge → Bool
is_munge (Left bits) = nat_le 1 bits && nat_le bits 8
is_munge kind = true

-- whether a munge leaves each word as it is
abbrev pub is_plain : Munge → Bool
is_plain Plain = true
is_plain kind = false

-- whether a munge goes with a greatest code: words that are swapped have at most 16 bits
abbrev pub fits_bits : Munge → ℕ → Bool
fits_bits Swap16 maxdata = nat_le maxdata 65535
fits_bits kind maxdata = true

-- the two low bytes exchanged, higher bits 0
abbrev pub swapped : ℕ → ℕ
swapped word = word % 256 * 256 + word / 256 % 256

-- the code that a word of the board stands for
abbrev pub munged : Munge → ℕ → ℕ → ℕ
munged Plain maxdata word = word
munged Offset maxdata word = bit_xor (bit_xor word maxdata) (maxdata / 2)
munged Swap16 maxdata word = swapped word
munged (Left s) maxdata word = word / 2 ^ s

-- the word that the board takes for a code
abbrev pub unmunged : Munge → ℕ → ℕ → ℕ
unmunged Plain maxdata code = code
unmunged Offset maxdata code = bit_xor (bit_xor code maxdata) (maxdata / 2)
unmunged Swap16 maxdata code = swapped code
unmunged (Left s) maxdata code = code * 2 ^ s % 2 ^ 32

-- a shift by at most 8 bits
abbrev pub MayShift : Munge → Type 0
MayShift (Left s) = s ≤ 8
MayShift kind = Unit {0}

-- the codes for which munging gives back what was unmunged
abbrev pub IsCode : Munge → ℕ → ℕ → Type 0
IsCode Swap16 maxdata code = (code ≤ maxdata) × (maxdata < 2 ^ 16)
IsCode (Left s) maxdata code = (code ≤ maxdata) × (maxdata < 2 ^ 24) × (s ≤ 8)
IsCode kind maxdata code = (code ≤ maxdata) × (maxdata < 2 ^ 24)

-- munging undoes unmunging
abbrev pub Undoes : Type 0
Undoes =
    (kind : Munge) (maxdata code : ℕ) → IsCode kind maxdata code →
    munged kind maxdata (unmunged kind maxdata code) ≡ code
