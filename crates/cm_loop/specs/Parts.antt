-- The lines of a loop's outputs, a part of them at a time.
use Rattle.std.specs.Prelude.{◌≡◌, ℕ, ◌<◌, List, ◌++◌, drop, length}
use Rattle.cm_expand.specs.Items.{items_of}
use Rattle.cm_job.specs.LoopJob.{LoopJobText, output_of}
use Rattle.cm_text.specs.Blocks.{outputs_of}
use Rattle.cm_text.specs.Outputs.{output_texts}

-- words in two parts: the second one follows the first, and isn't empty
pub record IsCutInTwo (words first rest : List ℕ) : Type 0 where
  pub both : words ≡ first ++ rest
  pub some : length first < length words

-- the lines of words that are put out at the conversions of a loop's output, by a subdevice of this number
abbrev pub lines_of : ℕ → LoopJobText → List ℕ → List ℕ
lines_of sub job words = output_texts (outputs_of sub (items_of (output_of job)) words)

-- the same at the conversions from a place on
abbrev pub lines_from : ℕ → LoopJobText → ℕ → List ℕ → List ℕ
lines_from sub job from words = output_texts (outputs_of sub (drop from (items_of (output_of job))) words)
