-- How the bytes of a read's or a look's answer are read back as samples.
use Rattle.std.specs.Prelude.{◌≡◌, ℕ, ◌%◌, ◌<◌, ◌≤◌, ◌^◌, suc, true, false, List, [], ◌∷◌, ◌++◌, length, map, take}
use Rattle.std.specs.Prelude.{codes, Result, Ok, Err, ℤ, ◌⊎◌, if◌then◌else◌}
use Rattle.cm_base.specs.Lines.{lines_of}
use Rattle.cm_base.specs.Reading.{◌>>=◌}
use Rattle.cm_base.specs.Words.{Form, is_int, keyword, number_in, signed_number}
use Rattle.cm_base.specs.declared.faults.Fault.{Fault}
use Rattle.cm_base.specs.declared.faults.Fault.TheVariants.{BadLine}
use Rattle.cm_board.specs.Board.{maxdata_of, range_of}
use Rattle.cm_cmd.specs.Entry.{chan, range}
use Rattle.cm_expand.specs.Rule.{entry_at}
use Rattle.cm_sample.specs.Sample.{micro_of}
use Rattle.cm_session.specs.declared.op.SessionLine.{SessionLine}
use Rattle.cm_signal.specs.Setting.{Setting}
use Rattle.cm_text.specs.Format.{Format}
use Rattle.cm_text.specs.Outputs.{output_texts}
use Rattle.cm_running.specs.Texts.{taken_text}
use Rattle.cm_replay.specs.Answers.{Answer, Looked, Taken}
use Rattle.cm_replay.specs.Job.{JobText, setting_of}
use Rattle.cm_replay.specs.Law.{IsSoundJob}
use Rattle.cm_replay.specs.Session.{Step, step}
use Rattle.cm_replay.specs.State.{State, at_start}
use Rattle.cm_replay.specs.Texts.{answer_text}

-- what a line says of a sample: its raw word, or its level in micro-units
pub data Value : Type 0 where
  Word : ℕ → Value
  Level : ℤ → Value

-- a sample as a client sees it: its place in the channel list, and its value
pub record Seen : Type 0 where
  pub index : ℕ
  pub value : Value

-- the level of a word of a place
abbrev pub level_at : Format → ℕ → ℕ → ℤ
level_at f place word =
    micro_of (range_of f.sub (chan (entry_at f.list place)) (range (entry_at f.list place)))
    (maxdata_of f.sub (chan (entry_at f.list place))) word

-- the sample of a place as a client sees it
abbrev pub seen_at : Format → ℕ → ℕ → Seen
seen_at f place word = record {
  index = place % length f.list;
  value = if f.raw then Word word else Level (level_at f place word);
}

-- samples from a place on
abbrev pub seen_from : Format → ℕ → List ℕ → List Seen
seen_from f place [] = []
seen_from f place (word ∷ words) = seen_at f place word ∷ seen_from f (suc place) words

-- a number of 32 bits
abbrev pub number_word : List ℕ → Result ℕ Fault
number_word = number_in 0 4294967295

-- the sample that the words of a line say: `INDEX LEVEL` or `INDEX raw WORD`
abbrev pub sample_words : Form Seen
sample_words (index ∷ level ∷ []) =
    number_word index >>= λ i. signed_number level >>= λ v. Ok (record { index = i; value = Level v })
sample_words (index ∷ raw ∷ word ∷ []) =
    number_word index >>= λ i. keyword ((codes "raw", Word) ∷ []) raw >>= λ make.
    number_word word >>= λ w. Ok (record { index = i; value = make w })
sample_words words = Err BadLine

-- the samples that lines say
abbrev pub samples_said : List (List (List ℕ)) → Result (List Seen) Fault
samples_said [] = Ok []
samples_said (line ∷ lines) = sample_words line >>= λ sample. samples_said lines >>= λ more. Ok (sample ∷ more)

-- the samples that an answer says: after the line `ok N` come the lines of N samples, and a look has one after `ok`
abbrev pub answer_said : List (List (List ℕ)) → Result (List Seen) Fault
answer_said ((ok ∷ count ∷ []) ∷ lines) =
    keyword ((codes "ok", samples_said) ∷ []) ok >>= λ samples. number_word count >>= λ n. samples (take n lines)
answer_said ((ok ∷ words) ∷ lines) =
    keyword ((codes "ok", sample_words) ∷ []) ok >>= λ read. read words >>= λ sample. Ok (sample ∷ [])
answer_said lines = Err BadLine

-- the samples that a client reads from the bytes of an answer on
abbrev pub read_back : List ℕ → Result (List Seen) Fault
read_back bytes = answer_said (map (λ line. line.words) (lines_of bytes))

-- a word that is written as a number of 32 bits: a raw one as it is, and others by their level
abbrev pub IsShown : Format → ℕ → ℕ → Type 0
IsShown f place word =
    (f.raw ≡ true → word < 2 ^ 32) × (f.raw ≡ false → is_int (level_at f place word) ≡ true)

-- the same of each word from a place on
abbrev pub AreShown : Format → ℕ → List ℕ → Type 0
AreShown f place [] = Unit {0}
AreShown f place (word ∷ words) = IsShown f place word × AreShown f (suc place) words

-- whatever stands after the answer to a read, its samples are read back from its bytes
abbrev pub ReadbackLaw : Type 0
ReadbackLaw =
    (f : Format) (place : ℕ) (words rest : List ℕ)
    → 1 ≤ length f.list → length f.list < 2 ^ 32 → length words < 2 ^ 32
    → AreShown f place words
    → read_back (taken_text f place words ++ rest) ≡ Ok (seen_from f place words)

-- the samples of a read or a look are read back from the bytes of its answer, whatever follows them
abbrev pub IsReadBack : Answer → Type 0
IsReadBack (Taken f place words) =
    (rest : List ℕ) → read_back (answer_text (Taken f place words) ++ rest) ≡ Ok (seen_from f place words)
IsReadBack (Looked f place word) =
    (rest : List ℕ) → read_back (answer_text (Looked f place word) ++ rest) ≡ Ok (seen_at f place word ∷ [])
IsReadBack other = Unit {0}

-- at every line of a session the samples that are read or looked at are read back from the bytes of its answer
abbrev pub ReadsBack : Setting → State → List SessionLine → Type 0
ReadsBack s state [] = Unit {0}
ReadsBack s state (line ∷ rest) =
    IsReadBack (step s line state).answer × ReadsBack s (step s line state).state rest

-- in every session the samples that are read or looked at are read back from the bytes of the answers
abbrev pub SessionReadback : Type 0
SessionReadback =
    (job : JobText) → IsSoundJob job → ReadsBack (setting_of job) (at_start (setting_of job)) job.lines

-- a text ends with a line feed
pub record EndsLine (text : List ℕ) : Type 0 where
  pub before : List ℕ
  pub is : text ≡ before ++ codes "\n"

-- a text of whole lines is empty or ends with a line feed
abbrev pub AreLines : List ℕ → Type 0
AreLines text = (text ≡ []) ⊎ EndsLine text

-- what a step puts out are whole lines, and so is the answer after them
abbrev pub WholeLinesLaw : Type 0
WholeLinesLaw = (done : Step) → AreLines (output_texts done.outputs) × EndsLine (answer_text done.answer)
