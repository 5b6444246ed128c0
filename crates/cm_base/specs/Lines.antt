-- A text as numbered lines of words.
use Rattle.std.specs.Prelude.{ℕ, Bool, false, not, ◌&&◌, ◌||◌, ◌==◌, nat_le, List, [], ◌∷◌, length, map, slice_index}
use Rattle.std.specs.Prelude.{if◌then◌else◌}
use Rattle.std.specs.List.{filter, list_all, list_any, enumerate_from, slice_split}

-- a space, a tab or a carriage return
abbrev pub is_blank : ℕ → Bool
is_blank c = c == 32 || c == 9 || c == 13

-- a byte that may stand in a word
abbrev pub is_printable : ℕ → Bool
is_printable c = nat_le 33 c && nat_le c 126

-- a byte that may stand in a line: a blank, or one that may stand in a word
abbrev pub is_allowed : ℕ → Bool
is_allowed c = is_blank c || is_printable c

-- the byte that ends a line
abbrev pub is_line_feed : ℕ → Bool
is_line_feed c = c == 10

-- whether a part of a line holds a byte
abbrev pub is_not_empty : List ℕ → Bool
is_not_empty line = not (length line == 0)

-- at least one byte, each of them one that may stand in a word
abbrev pub is_word : List ℕ → Bool
is_word word = is_not_empty word && list_all is_printable word

-- the list without its last part, where that is empty
abbrev pub without_empty_end : List (List ℕ) → List (List ℕ)
without_empty_end [] = []
without_empty_end (x ∷ []) = if is_not_empty x then x ∷ [] else []
without_empty_end (x ∷ y ∷ more) = x ∷ without_empty_end (y ∷ more)

-- the lines of a text: each ends at a line feed, and the bytes after the last line feed are a line too
abbrev pub raw_lines : List ℕ → List (List ℕ)
raw_lines text = without_empty_end (slice_split is_line_feed text)

-- the words of a line
abbrev pub words_of : List ℕ → List (List ℕ)
words_of line = filter is_not_empty (slice_split is_blank line)

-- a byte of the line is not allowed
abbrev pub is_bad : List ℕ → Bool
is_bad line = list_any (λ c. not (is_allowed c)) line

-- the first byte of the first word is `#`
abbrev pub is_comment : List (List ℕ) → Bool
is_comment [] = false
is_comment (word ∷ words) = slice_index word 0 == 35

-- a line with its number, counted from 1
pub record LineText : Type 0 where
  pub number : ℕ
  pub words : List (List ℕ)
  pub bad : Bool

-- a line with its number, cut into words
abbrev pub line_text : ℕ × List ℕ → LineText
line_text line = record { number = line.0; words = words_of line.1; bad = is_bad line.1 }

-- a line counts unless it has no words or is a comment, and a bad line always counts
abbrev pub text_counts : LineText → Bool
text_counts line = line.bad || (not (length line.words == 0) && not (is_comment line.words))

-- the lines that count, numbered from `first`
abbrev pub lines_from : ℕ → List (List ℕ) → List LineText
lines_from first raw = filter text_counts (map line_text (enumerate_from first raw))

-- the lines of a text that count
abbrev pub lines_of : List ℕ → List LineText
lines_of text = lines_from 1 (raw_lines text)
