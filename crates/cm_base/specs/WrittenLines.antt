-- Lines of words, written as text.
use Rattle.std.specs.Prelude.{ℕ, ◌+◌, Bool, false, not, ◌&&◌, List, [], ◌∷◌, ◌++◌, flat_map}
use Rattle.std.specs.List.{join_with_byte, list_all}
use Rattle.cm_base.specs.Lines.{LineText, is_comment, is_word}

-- the words with a space between two, and a line feed after them
abbrev pub written_line : List (List ℕ) → List ℕ
written_line words = join_with_byte 32 words ++ 10 ∷ []

-- lines of words as a text
abbrev pub text_of : List (List (List ℕ)) → List ℕ
text_of lines = flat_map written_line lines

-- some words, of which the first does not make the line a comment
abbrev pub is_line : List (List ℕ) → Bool
is_line [] = false
is_line (word ∷ words) = not (is_comment (word ∷ words)) && list_all is_word (word ∷ words)

-- these lines as they are read, numbered from `number`
abbrev pub numbered : ℕ → List (List (List ℕ)) → List LineText
numbered number [] = []
numbered number (words ∷ lines) = record { number = number; words = words; bad = false } ∷ numbered (number + 1) lines
