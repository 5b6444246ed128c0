-- A fact: one line of the answer.
use Rattle.std.specs.Prelude.{ℕ, List, [], ◌∷◌, ◌++◌, codes}
use Rattle.std.specs.Fmt.{decimal, signed_decimal}
use Rattle.cm_base.specs.SourceText.{source_text}
use Rattle.cm_running.specs.Texts.{words_text}
use Rattle.cm_facts.specs.declared.fact.FactWord.{FactWord}
use Rattle.cm_facts.specs.declared.fact.FactWord.TheVariants as words_of

-- words, each after a space
abbrev pub spaced : List (List ℕ) → List ℕ
spaced [] = []
spaced (word ∷ words) = (codes " " ++ word) ++ spaced words

-- a fact: its key, then numbers, and then words, each after a space
unfoldable pub fact_line : List ℕ → List ℕ → List (List ℕ) → List ℕ
fact_line key numbers words = key ++ words_text numbers ++ spaced words ++ codes "\n"

-- how a word of a fact is written
abbrev pub word_text : FactWord → List ℕ
word_text (words_of.Fixed word) = word.now
word_text (words_of.Number n) = decimal n
word_text (words_of.Signed z) = signed_decimal z
word_text (words_of.Sources mask) = source_text mask
