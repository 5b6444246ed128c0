-- Words that are given one after another.
use Rattle.std.specs.Prelude.{ℕ, List}

-- all words, and how many were given
pub record SourceText : Type 0 where
  pub all : List ℕ
  pub place : ℕ
