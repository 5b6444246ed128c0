-- What holds of the outputs of each loop.
use Rattle.std.specs.Prelude.{◌≡◌, ℕ, ◌%◌, ◌<◌, ◌≤◌, List, length, slice_get, Some}
use Rattle.cm_sample.specs.Rule.{RuleText}
use Rattle.cm_loop.specs.Filter.{FilterText, IsFilter, AreWithin, filtered}
use Rattle.cm_loop.specs.Looped.{looped_samples}
use Rattle.cm_loop.specs.LoopText.{loop_text, loop_words}
use Rattle.cm_loop.specs.declared.rule.LoopItem.{LoopItem}
use Rattle.cm_job.specs.LoopJob.{LoopJobText, output_of}
use Rattle.cm_text.specs.Streams.{StreamsOutput}

-- there are as many outputs as raw words
abbrev pub IsAsLong : Type 0
IsAsLong = (raw : List ℕ) (munge : RuleText) (rule : FilterText) → length (looped_samples raw munge rule) ≡ length raw

-- no output is above the greatest code of its entry's output channel
abbrev pub IsOnScale : Type 0
IsOnScale =
    (rule : FilterText) (x : List ℕ) (k : ℕ) (item : LoopItem)
    → IsFilter rule → AreWithin rule x → k < length x → slice_get rule.items (k % length rule.items) ≡ Some item
    → filtered rule x k ≤ item.out_max

-- a loop puts out the words of its filter over the munged samples of its input, each at the time of its conversion
abbrev pub LoopLaw : Type 0
LoopLaw = (job : LoopJobText) → StreamsOutput (output_of job) (loop_words job) (loop_text job)
