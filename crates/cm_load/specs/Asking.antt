-- What is asked of a run, and how many samples it moves.
use Rattle.std.specs.Prelude.{◌≡◌, ℕ, ◌+◌, ◌*◌, ◌/◌, ◌%◌, ◌^◌, ◌<◌, max}
use Rattle.std.specs.Prelude.{true, false, List, [], ◌∷◌, Option, Some, None, String, codes}
use Rattle.std.specs.Option.{SomeIff}
use Rattle.std.specs.String.{string_bytes}
use Rattle.std.specs.Str.Parse.{IsNumeral, digits_value, without_leading_plus}
use Rattle.std.specs.declared.alloc.Global.{Global}
use Rattle.cm_load.specs.declared.cases.Load.{Load}

-- the number that a word writes
abbrev pub number_of : List ℕ → ℕ
number_of word = digits_value 10 (without_leading_plus word)

-- a word writes a number of 32 bits
abbrev pub IsNumber : List ℕ → Type 0
IsNumber word = IsNumeral 10 (without_leading_plus word) × (number_of word < 2 ^ 32)

-- what is asked by the words after the program's name: how many samples, how many rounds, and whether with times
abbrev pub Asks : List (String Global) → Option Load → Type 0
Asks [] asked = asked ≡ Some (record { samples = 100000; rounds = 1; times = false })
Asks (samples ∷ []) asked =
    SomeIff asked (IsNumber (string_bytes samples))
    (record { samples = number_of (string_bytes samples); rounds = 1; times = false })
Asks (samples ∷ rounds ∷ []) asked =
    SomeIff asked (IsNumber (string_bytes samples) × IsNumber (string_bytes rounds))
    (record { samples = number_of (string_bytes samples); rounds = number_of (string_bytes rounds); times = false })
Asks (samples ∷ rounds ∷ times ∷ []) asked =
    SomeIff asked
    (IsNumber (string_bytes samples) × IsNumber (string_bytes rounds) × (string_bytes times ≡ codes "times"))
    (record { samples = number_of (string_bytes samples); rounds = number_of (string_bytes rounds); times = true })
Asks words asked = asked ≡ None

-- how many samples go through a ring of one to three cells
abbrev pub few_of : ℕ → ℕ
few_of samples = max (samples / 1000) 1

-- and through one of 64
abbrev pub some_of : ℕ → ℕ
some_of samples = max (samples / 10) 1

-- how many samples go through all rings of a round, as a count of 32 bits has it
abbrev pub round_of : ℕ → ℕ
round_of samples = (9 * few_of samples + 3 * some_of samples + 4 * samples) % 2 ^ 32
