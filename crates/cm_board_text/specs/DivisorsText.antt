-- What a counter can divide by, as a word, both ways.
use Rattle.std.specs.Prelude.{ℕ, ◌+◌, ◌==◌, List, [], ◌∷◌, ◌++◌, map, take, drop, codes, decimal, nat_eq, if◌then◌else◌}
use Rattle.std.specs.Prelude.{Option, Some, None, Result, Ok, Err}
use Rattle.std.specs.List.{join_with_byte, slice_split, starts_with}
use Rattle.std.specs.Option.{is_some}
use Rattle.cm_base.specs.Reading.{◌>>=◌}
use Rattle.cm_base.specs.Words.{number_in, values}
use Rattle.cm_base.specs.declared.faults.Fault.{Fault}
use Rattle.cm_base.specs.declared.faults.Fault.TheVariants.{BadLine}
use Rattle.cm_board.specs.declared.board.Divisors.{Divisors}
use Rattle.cm_board.specs.declared.board.Divisors.TheVariants as divisors_of

-- a number that a counter can divide by
abbrev pub divisor_of : List ℕ → Result ℕ Fault
divisor_of = number_in 1 16777216

-- the place of the first two points, where the bytes are counted from `n`
abbrev pub points_from : ℕ → List ℕ → Option ℕ
points_from n [] = None
points_from n (c ∷ text) = if starts_with nat_eq (c ∷ text) (codes "..") then Some n else points_from (n + 1) text

-- all numbers from one to another
abbrev pub span_of : List ℕ → List ℕ → Result Divisors Fault
span_of first last =
    if is_some (points_from 0 last) then Err BadLine
    else divisor_of first >>= λ a. divisor_of last >>= λ b. Ok (divisors_of.Span a b)

-- at most 32 numbers with commas between them
abbrev pub listed_of : List ℕ → Result Divisors Fault
listed_of word = values 32 divisor_of [] (slice_split (λ c. c == 44) word) >>= λ list. Ok (divisors_of.Listed list)

-- a span where two points stand in the word, and else a list
abbrev pub divided : List ℕ → Option ℕ → Result Divisors Fault
divided word (Some at) = span_of (take at word) (drop (at + 2) word)
divided word None = listed_of word

-- the divisors that a word says
unfoldable pub divisors_word : List ℕ → Result Divisors Fault
divisors_word word = divided word (points_from 0 word)

-- numbers with commas between them
abbrev pub list_text : List ℕ → List ℕ
list_text list = join_with_byte 44 (map decimal list)

-- the two ends with two points between them, or the numbers with commas
abbrev pub divisors_text : Divisors → List ℕ
divisors_text (divisors_of.Span first last) = decimal first ++ (codes ".." ++ decimal last)
divisors_text (divisors_of.Listed list) = list_text list
