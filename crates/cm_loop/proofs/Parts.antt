-- The lines of a loop's outputs, a part of them after another.
use Rattle.std.proofs.Common.{◌≡◌, ℕ, List, [], ◌++◌, length, drop, sym, ap, ◌∙◌}
use Rattle.cm_expand.specs.Items.{items_of}
use Rattle.cm_expand.specs.declared.conv.Conv.{Conv}
use Rattle.cm_job.specs.LoopJob.{LoopJobText, output_of}
use Rattle.cm_loop.specs.Parts.{IsCutInTwo, lines_from, lines_of}
use Rattle.cm_text.proofs.Outs.{outs_append, outs_empty, outs_of}

-- no words, no lines
pub lines_empty : (sub : ℕ) (job : LoopJobText) (words : List ℕ) → words ≡ [] → [] ≡ lines_of sub job words
lines_empty sub job words none = outs_empty sub (items_of (output_of job)) words none

-- the lines of words that are cut in two
pub lines_parts : (sub from : ℕ) (job : LoopJobText) (words first rest text block all : List ℕ) → IsCutInTwo words first rest → from ≡ length first → text ≡ lines_of sub job first → block ≡ lines_from sub job from rest → all ≡ text ++ block
    → all ≡ lines_of sub job words
lines_parts sub from job words first rest text block all cut from_is text_is block_is is =
    let items : List Conv = items_of (output_of job) in
    is ∙ ((λ j. text_is j ++ block_is j) ∙ (ap (λ (n : ℕ). outs_of sub items first ++ outs_of sub (drop n items) rest) from_is ∙ (sym (outs_append sub items first rest) ∙ ap (outs_of sub items) (sym cut.both))))
