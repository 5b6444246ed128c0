-- The texts of what a running command gives.
use Rattle.std.specs.Prelude.{ℕ, List, [], ◌∷◌, ◌++◌, length, codes}
use Rattle.std.specs.Fmt.{decimal}
use Rattle.cm_text.specs.Format.{Format, sample_line, sample_lines}

-- a count
abbrev pub count_text : ℕ → List ℕ
count_text k = codes "ok " ++ decimal k ++ codes "\n"

-- samples from a place on, after their count
abbrev pub taken_text : Format → ℕ → List ℕ → List ℕ
taken_text f place words = count_text (length words) ++ sample_lines f place words

-- the sample of a place
abbrev pub looked_text : Format → ℕ → ℕ → List ℕ
looked_text f place word = codes "ok " ++ sample_line f place word

-- words, each after a space
abbrev pub words_text : List ℕ → List ℕ
words_text [] = []
words_text (word ∷ words) = codes " " ++ decimal word ++ words_text words

-- samples in codes, after their count
abbrev pub codes_text : List ℕ → List ℕ
codes_text words = codes "ok " ++ decimal (length words) ++ words_text words ++ codes "\n"
