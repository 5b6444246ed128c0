-- What a step writes are whole lines.
use Rattle.std.proofs.Common.{ℕ, suc, ◌%◌, List, [], ◌∷◌, ◌++◌, length, append_assoc, refl, sym, ap, ◌∙◌, inl, inr}
use Rattle.std.specs.Prelude.{codes}
use Rattle.std.specs.Fmt.{decimal}
use Rattle.std.proofs.lemmas.List.{append-nil}
use Rattle.cm_cmd.specs.CommandText.{command_text}
use Rattle.cm_sub.specs.Checks.{number_of}
use Rattle.cm_text.specs.Format.{Format, sample_line, sample_lines, value_text}
use Rattle.cm_text.specs.Outputs.{Output, output_text, output_texts}
use Rattle.cm_text.specs.Tails.{end_words}
use Rattle.cm_running.specs.Texts.{count_text, words_text}
use Rattle.cm_replay.specs.Answers.{Answer, Begun, Data, Ended, Filled, Fine, Holds, Idle, Looked, Mapped}
use Rattle.cm_replay.specs.Answers.{Marked, Refused, Rejected, Released, Taken, Triggered, Written}
use Rattle.cm_replay.specs.Readback.{AreLines, EndsLine, WholeLinesLaw}
use Rattle.cm_replay.specs.Texts.{answer_text, end_start}

-- a text and a line feed
line : (before : List ℕ) → EndsLine (before ++ codes "\n")
line before = record { before = before; is = refl }

-- a text after another one
ends-after : (xs ys : List ℕ) → EndsLine ys → EndsLine (xs ++ ys)
ends-after xs ys ends = record {
  before = xs ++ ends.before;
  is = ap (λ (text : List ℕ). xs ++ text) ends.is ∙ sym (append_assoc xs ends.before (codes "\n"));
}

-- whole lines after a line
ends-more : (xs ys : List ℕ) → EndsLine xs → AreLines ys → EndsLine (xs ++ ys)
ends-more xs ys ends (inr more) = ends-after xs ys more
ends-more xs ys ends (inl none) = record {
  before = ends.before;
  is = ap (λ (text : List ℕ). xs ++ text) none ∙ append-nil xs ∙ ends.is;
}

-- samples
sample-ends : (f : Format) (place word : ℕ) → EndsLine (sample_line f place word)
sample-ends f place word = line (decimal (place % length f.list) ++ codes " " ++ value_text f place word)

samples-whole : (f : Format) (place : ℕ) (words : List ℕ) → AreLines (sample_lines f place words)
samples-whole f place [] = inl refl
samples-whole f place (word ∷ words) =
    inr (ends-more (sample_line f place word) (sample_lines f (suc place) words) (sample-ends f place word) (samples-whole f (suc place) words))

-- what is put out
output-ends : (o : Output) → EndsLine (output_text o)
output-ends o = line (codes "out " ++ decimal o.sub ++ codes " " ++ decimal o.time ++ codes " " ++ decimal o.index ++ codes " " ++ decimal o.word)

outputs-whole : (outputs : List Output) → AreLines (output_texts outputs)
outputs-whole [] = inl refl
outputs-whole (o ∷ outputs) = inr (ends-more (output_text o) (output_texts outputs) (output-ends o) (outputs-whole outputs))

-- answers
count-ends : (k : ℕ) → EndsLine (count_text k)
count-ends k = line (codes "ok " ++ decimal k)

answer-ends : (answer : Answer) → EndsLine (answer_text answer)
answer-ends Fine = line (codes "ok")
answer-ends Begun = line (codes "ok")
answer-ends Triggered = line (codes "ok 1")
answer-ends (Taken f place words) =
    ends-more (count_text (length words)) (sample_lines f place words) (count-ends (length words)) (samples-whole f place words)
answer-ends (Mapped k) = count-ends k
answer-ends (Looked f place word) = ends-after (codes "ok ") (sample_line f place word) (sample-ends f place word)
answer-ends (Released k) = count-ends k
answer-ends (Holds k) = count-ends k
answer-ends (Written words) = count-ends (length words)
answer-ends (Filled words) = count-ends (length words)
answer-ends (Marked k) = count-ends k
answer-ends (Data k words) = line (codes "ok " ++ decimal k ++ words_text words)
answer-ends Idle = line (codes "ok 0 idle")
answer-ends (Ended e) = ends-after (end_start e) (end_words e ++ codes "\n") (line (end_words e))
answer-ends (Rejected step cmd) = line (codes "err 11 " ++ decimal step ++ codes " " ++ command_text cmd)
answer-ends (Refused error) = line (codes "err " ++ decimal (number_of error))

pub whole_lines_law : WholeLinesLaw
whole_lines_law done = (outputs-whole done.outputs, answer-ends done.answer)
