-- The answers to the lines of `expand`.
use Rattle.std.specs.Prelude.{ℕ, Bool, List, ◌++◌, codes, if◌then◌else◌}
use Rattle.std.specs.Fmt.{decimal}
use Rattle.std.specs.List.{flat_map}
use Rattle.cm_board.specs.Board.{BoardText}
use Rattle.cm_signal.specs.Signals.{SignalsText}
use Rattle.cm_expand.specs.Items.{items_of}
use Rattle.cm_expand.specs.Plan.{PlanText, is_complete}
use Rattle.cm_expand.specs.declared.conv.Conv.{Conv}
use Rattle.cm_job.specs.ExpandLines.{plan_of}
use Rattle.cm_job.specs.declared.expand_lines.ExpandLine.{ExpandLine}
use Rattle.cm_text.specs.Tails.{end_words}
use Rattle.cm_text.specs.declared.end.End.TheVariants as ends

-- a conversion: its time, its list index and its raw word
abbrev pub conversion_line : Conv → List ℕ
conversion_line c = decimal c.time ++ codes " " ++ decimal c.list_index ++ codes " " ++ decimal c.raw ++ codes "\n"

-- the last line of an expansion: `done` where the command's stop is reached, and otherwise `dry`
abbrev pub end_line : Bool → List ℕ
end_line complete = end_words (if complete then ends.Done else ends.Dry) ++ codes "\n"

-- the conversions of a plan in order, and whether nothing is missing
abbrev pub expansion_text : PlanText → List ℕ
expansion_text p = flat_map conversion_line (items_of p) ++ end_line (is_complete p)

-- the answer to all lines of an `expand` session
abbrev pub expands_text : BoardText → SignalsText → List ExpandLine → List ℕ
expands_text board signals lines = flat_map (λ line. expansion_text (plan_of board signals line)) lines
