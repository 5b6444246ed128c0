-- The text of a loop.
use Rattle.std.specs.Prelude.{ℕ, nat_lt, List, [], ◌∷◌, Option, Some, None, if◌then◌else◌}
use Rattle.cm_board.specs.Board.{SubText, maxdata_of}
use Rattle.cm_cmd.specs.Entry.{chan}
use Rattle.cm_loop.specs.Filter.{FilterText, filter_text, all_filtered}
use Rattle.cm_loop.specs.declared.rule.LoopItem.{LoopItem}
use Rattle.cm_job.specs.LoopJob.{LoopJobText, input_of, output_of}
use Rattle.cm_text.specs.Blocks.{drive_block, munged_samples}

-- the greatest codes of an input's channel and of an output's
abbrev pub item_of : SubText → SubText → ℕ → ℕ → LoopItem
item_of input output from to = record { in_max = maxdata_of input (chan from); out_max = maxdata_of output (chan to) }

-- those of the entries of both lists, one beside the other
abbrev pub items_of : SubText → SubText → List ℕ → List ℕ → List LoopItem
items_of input output [] tos = []
items_of input output (from ∷ froms) [] = []
items_of input output (from ∷ froms) (to ∷ tos) = item_of input output from to ∷ items_of input output froms tos

-- the filter of a loop
abbrev pub filter_of : LoopJobText → FilterText
filter_of job = filter_text (items_of (input_of job).sub (output_of job).sub job.input.list job.output.list) job.window

-- the words that a loop puts out: its filter's, of the munged samples of its input
abbrev pub loop_words : LoopJobText → List ℕ
loop_words job = all_filtered (filter_of job) (munged_samples (input_of job))

-- the text of a loop: these words at the times of the output's conversions, as a `drive` line with them has it
abbrev pub loop_text : LoopJobText → List ℕ
loop_text job = drive_block (output_of job) (loop_words job)

-- how many words a client takes where there are more samples than conversions of the output
abbrev pub take_of : ℕ → ℕ → Option ℕ
take_of samples outputs = if nat_lt outputs samples then Some outputs else None
