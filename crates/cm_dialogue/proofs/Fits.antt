-- What a line says isn't before the line before it nor after the horizon, and has its limits.
use Rattle.std.proofs.Common.{◌≡◌, ℕ, ◌≤◌, Bool, true, false, List, [], ◌∷◌, codes, Option, Some, None, Result, Ok, Err, refl}
use Rattle.std.specs.Prelude.{nat_le, drop, IfOk, IfSome, if◌then◌else◌}
use Rattle.std.proofs.lemmas.Bool.{leb-true}
use Rattle.cm_base.specs.Lines.{LineText}
use Rattle.cm_base.specs.Parts.{begins}
use Rattle.cm_base.specs.Words.{four_words, listed, no_words, number_in}
use Rattle.cm_base.specs.declared.faults.Fault.{Fault}
use Rattle.cm_base.specs.declared.faults.Fault.TheVariants.{Bad, BadLine}
use Rattle.cm_cmd.specs.Command.{CmdText}
use Rattle.cm_cmd.specs.PrintedReads.{HasText}
use Rattle.cm_signal.specs.declared.bounds.Bounds.{Bounds}
use Rattle.cm_session.specs.Forms.{number_words, place_of, sub_words}
use Rattle.cm_session.specs.Limits.{HasLimits, IsLimited}
use Rattle.cm_session.specs.SessionPart.{line_after, line_words}
use Rattle.cm_dialogue.specs.Asked.{asked_op, session_line}
use Rattle.cm_dialogue.specs.declared.asked.Asked.{Asked}
use Rattle.cm_dialogue.specs.declared.asked.Fetch.{Fetch}
use Rattle.cm_dialogue.specs.declared.asked.Question.{Question}
use Rattle.cm_dialogue.specs.declared.asked.Question.TheVariants.{Await, Info, Codes, Peek}
use Rattle.cm_dialogue.specs.Lines.{QuestionForm, about_command, alone, asked_after, asked_by, counted, fetching, most_counted, most_taken, next_line, plain, questions, ranged, ranged_words, said_by, tested_command, timed, worded}
use Rattle.cm_dialogue.specs.Reading.{IsFit, IsSayable}
use Rattle.cm_dialogue.specs.declared.dialogue_line.DialogueLine.TheVariants as says
use Rattle.cm_dialogue.specs.declared.dialogue_line.Untimed.{Untimed}
use Rattle.cm_dialogue.specs.declared.dialogue_line.Untimed.TheVariants as untimed
use Rattle.cm_dialogue.proofs.Limited.{Each, command_said, line_limited, listed_has, number_most, number_timed, place_timed, sub_timed, then_any, then_has}

-- one of two
if_has : {X : Type 0} (P : X → Type 0) (b : Bool) (r t : Result X Fault) → IfOk r P → IfOk t P → IfOk (if b then r else t) P
if_has P true r t h k = h
if_has P false r t h k = k

-- what may not be below a time isn't
after_has : {X : Type 0} (P : X → Type 0) (before time : ℕ) (x : X) → (before ≤ time → P x) → IfOk (let r : Result X Fault = if nat_le before time then Ok x else Err Bad in r) P
after_has {X} P before time x h = by (nat_le before time) refl
  where
    by : (b : Bool) → nat_le before time ≡ b → IfOk (let r : Result X Fault = if b then Ok x else Err Bad in r) P
    by true e = h (leb-true before time e)
    by false e = tt

-- the forms of questions, with the limits on what stands after their subdevices
module _ (before : ℕ) (bounds : Bounds) (time : List ℕ) (words : List (List ℕ)) where
  asked_fits : (asked : Asked) → IsLimited bounds.horizon (session_line asked) → IfOk (asked_after before asked) (IsFit bounds.horizon before)
  asked_fits asked limits = after_has (IsFit bounds.horizon before) before asked.time (says.Question asked) (λ after. (after, limits))

  plain-fits : (question : Question) → ((sub : ℕ) → HasLimits (asked_op sub question)) → IfOk (plain question before bounds time words) (IsFit bounds.horizon before)
  plain-fits question limits =
      then_has (λ w. w.0.time ≤ bounds.horizon) _ (sub_words bounds time words) _ (sub_timed _ bounds time (number_most 0 bounds.horizon time) words)
      (λ w within. asked_fits (asked_by w.0 w.1 question) (within, limits w.1))

  counted-fits : (most : ℕ) (make : ℕ → Question) → ((sub n : ℕ) → n ≤ most → HasLimits (asked_op sub (make n))) →
      IfOk (counted most make before bounds time words) (IsFit bounds.horizon before)
  counted-fits most make limits =
      then_has (λ w. (w.0.time ≤ bounds.horizon) × (w.2 ≤ most)) _ (number_words most bounds time words) _ (number_timed _ bounds time (number_most 0 bounds.horizon time) most words)
      (λ w within. asked_fits (asked_by w.0 w.1 (make w.2)) (within.0, limits w.1 w.2 within.1))

  ranged_within : IfOk (ranged_words bounds time words) (λ w. (w.0.time ≤ bounds.horizon) × (w.3 ≤ 65536))
  ranged_within =
      then_any _ (four_words words) _ (λ w. then_has (λ at. at.0.time ≤ bounds.horizon) _ (place_of bounds time w.0 w.1) _ (place_timed _ bounds time (number_most 0 bounds.horizon time) w.0 w.1)
      (λ at within. then_any _ (number_in 0 most_counted w.2) _ (λ from. then_has (λ n. n ≤ 65536) _ (number_in 0 65536 w.3) _ (number_most 0 65536 w.3) (λ n few. (within, few)))))

  ranged-fits : (make : ℕ → ℕ → Question) → ((sub from n : ℕ) → HasLimits (asked_op sub (make from n))) → IfOk (ranged make before bounds time words) (IsFit bounds.horizon before)
  ranged-fits make limits =
      then_has (λ w. (w.0.time ≤ bounds.horizon) × (w.3 ≤ 65536)) _ (ranged_words bounds time words) _ ranged_within
      (λ w within. asked_fits (asked_by w.0 w.1 (make w.2 w.3)) (within.0, limits w.1 w.2 w.3))

  fetch-fits : IfOk (fetching before bounds time words) (IsFit bounds.horizon before)
  fetch-fits =
      then_has (λ w. (w.0.time ≤ bounds.horizon) × (w.3 ≤ 65536)) _ (ranged_words bounds time words) _ ranged_within
      (λ w within. let fetch : Fetch = record { time = w.0.time; file = w.0.file; sub = w.1; wanted = w.2; n = w.3 } in after_has (IsFit bounds.horizon before) before w.0.time (says.Fetch fetch) (λ after. (after, within)))

  questions-fit : Each (λ (form : QuestionForm). IfOk (form before bounds time words) (IsFit bounds.horizon before)) questions
  questions-fit = (
    counted-fits most_counted Await (λ sub n few. tt),
    (plain-fits Info (λ sub. tt), (counted-fits most_taken Codes (λ sub n few. few), (ranged-fits Peek (λ sub from n. tt), (fetch-fits, tt)))),
  )

-- a line of the session
next_fits : (bounds : Bounds) (before : ℕ) (line : LineText) → IfOk (next_line bounds before line) (IsFit bounds.horizon before)
next_fits bounds before line =
    then_has (λ next. (before ≤ next.time) × IsLimited bounds.horizon next) (IsFit bounds.horizon before) (line_after false bounds before line) (λ next. Ok (says.Session next))
    (if_has _ line.bad (Err BadLine) _ tt
    (then_has (IsLimited bounds.horizon) _ (line_words false bounds line.words) _ (line_limited bounds line.words) (λ next limits. after_has _ before next.time next (λ after. (after, limits)))))
    (λ next fits. fits)

-- or a question
timed_fits : (bounds : Bounds) (before : ℕ) (line : LineText) (time : List ℕ) (words : List (List ℕ)) (form : Option QuestionForm) → IfSome form (λ f. IfOk (f before bounds time words) (IsFit bounds.horizon before)) →
    IfOk (timed bounds before line time words form) (IsFit bounds.horizon before)
timed_fits bounds before line time words None is = next_fits bounds before line
timed_fits bounds before line time words (Some form) is = is

worded_fits : (bounds : Bounds) (before : ℕ) (line : LineText) (words : List (List ℕ)) → IfOk (worded bounds before line words) (IsFit bounds.horizon before)
worded_fits bounds before line [] = tt
worded_fits bounds before line (time ∷ []) = tt
worded_fits bounds before line (time ∷ key ∷ words) =
    timed_fits bounds before line time words (listed questions key) (listed_has (λ (form : QuestionForm). IfOk (form before bounds time words) (IsFit bounds.horizon before)) questions key (questions-fit before bounds time words))

-- or a question of one word
alone_fits : (asked : Untimed) (horizon before : ℕ) (line : LineText) → IsSayable asked → IfOk (alone asked line) (IsFit horizon before)
alone_fits asked horizon before line is = then_any (IsFit horizon before) (no_words (drop 1 line.words)) (λ none. Ok (says.Untimed asked)) (λ none. is)

-- or one about a command
command_fits : (make : CmdText → Untimed) (bounds : Bounds) (before : ℕ) (line : LineText) → ((cmd : CmdText) → HasText 1024 cmd → IsSayable (make cmd)) →
    IfOk (about_command make bounds line) (IsFit bounds.horizon before)
command_fits make bounds before line is =
    then_has (HasText 1024) (IsFit bounds.horizon before) (tested_command bounds line) (λ cmd. Ok (says.Untimed (make cmd))) (command_said bounds.version (drop 1 line.words)) is

-- what a line says
pub said_fits : (bounds : Bounds) (before : ℕ) (line : LineText) → IfOk (said_by bounds before line) (IsFit bounds.horizon before)
said_fits bounds before line =
    let horizon = bounds.horizon in
    if_has _ line.bad (Err BadLine) _ tt
    (if_has _ (begins (codes "describe") line) _ _ (alone_fits untimed.Describe horizon before line tt)
    (if_has _ (begins (codes "subdevices") line) _ _ (alone_fits untimed.Subdevices horizon before line tt)
    (if_has _ (begins (codes "claims") line) _ _ (alone_fits untimed.Claims horizon before line tt)
    (if_has _ (begins (codes "test") line) _ _ (command_fits untimed.Test bounds before line (λ cmd text. text))
    (if_has _ (begins (codes "cmdtest") line) _ _ (command_fits untimed.CmdTest bounds before line (λ cmd text. text))
    (worded_fits bounds before line line.words))))))
