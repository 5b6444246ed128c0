-- The record of a dialogue.
use Rattle.std.proofs.Common.{◌≡◌, ℕ, ◌≤◌, List, [], ◌∷◌, ◌++◌, Some, Result, Ok, Err, IfOk, refl, ap, sym, ◌∙◌, arith, append_assoc}
use Rattle.std.specs.Result.{result_ok}
use Rattle.cm_base.specs.Lines.{LineText, lines_of}
use Rattle.cm_base.specs.Reading.{at_line}
use Rattle.cm_base.specs.declared.faults.Fault.{Fault}
use Rattle.cm_session.specs.Limits.{InOrder}
use Rattle.cm_session.specs.declared.op.SessionLine.{SessionLine}
use Rattle.cm_dialogue.specs.Asked.{awaits, session_line, takes}
use Rattle.cm_serve.specs.Asking.{taking_time}
use Rattle.cm_serve.specs.Playing.{Play, bounds_at, first_play, line_text, played}
use Rattle.cm_replay.specs.Texts.{texts_from}
use Rattle.cm_serve.specs.Dialogue.{fetched, next_number, replied, replied_if, reply_of}
use Rattle.cm_serve.specs.Law.{RecordReplays, answer_of, lines_of_fetch, play_after, played_all, record_of, recorded, recorded_answers, said_in}
use Rattle.cm_dialogue.specs.Lines.{said_by}
use Rattle.cm_dialogue.specs.Reading.{IsFit}
use Rattle.cm_dialogue.specs.declared.asked.Fetch.{Fetch}
use Rattle.cm_dialogue.specs.declared.dialogue_line.DialogueLine.{DialogueLine}
use Rattle.cm_dialogue.specs.declared.dialogue_line.DialogueLine.TheVariants as says
use Rattle.cm_dialogue.proofs.Fits.{said_fits}

-- the record of these lines from here on replays
record IsReplayed (p : Play) (n : ℕ) (lines : List (List ℕ)) : Type 0 where
  pub session : InOrder p.setting.signals.horizon p.latest (recorded p n lines)
  pub text : texts_from p.setting p.state (recorded p n lines) ≡ recorded_answers p n lines
  pub play : play_after p n lines ≡ played_all p (recorded p n lines)

-- so does this record of a line with this answer, which leaves the session so, with the lines after it
record IsStep (p after : Play) (its : List SessionLine) (answer : List ℕ) (n : ℕ) (lines : List (List ℕ)) : Type 0 where
  pub session : InOrder p.setting.signals.horizon p.latest (its ++ recorded after n lines)
  pub text : texts_from p.setting p.state (its ++ recorded after n lines) ≡ answer ++ recorded_answers after n lines
  pub play : play_after after n lines ≡ played_all p (its ++ recorded after n lines)

-- a line that has no record changes nothing
no_record : (p : Play) (n : ℕ) (lines : List (List ℕ)) → IsReplayed p n lines → IsStep p p [] [] n lines
no_record p n lines later = record { session = later.session; text = later.text; play = later.play }

-- a line of the session comes after those before it
comes_next : (p : Play) (line : SessionLine) (n : ℕ) (lines : List (List ℕ)) → IsFit p.setting.signals.horizon p.latest (says.Session line) → IsReplayed (played p line) n lines →
    IsStep p (played p line) (line ∷ []) (line_text p line) n lines
comes_next p line n lines fit later = record { session = (fit.0, fit.1, later.session); text = ap (λ (t : List ℕ). line_text p line ++ t) later.text; play = later.play }

-- and so do the two lines of a fetch
fetch_next : (p : Play) (fetch : Fetch) (n : ℕ) (lines : List (List ℕ)) → IsFit p.setting.signals.horizon p.latest (says.Fetch fetch) → IsReplayed (fetched p fetch).play n lines →
    IsStep p (fetched p fetch).play (lines_of_fetch p fetch) (texts_from p.setting p.state (lines_of_fetch p fetch)) n lines
fetch_next p fetch n lines fit later =
    let first = session_line (awaits fetch) in
    let time = taking_time p.setting fetch p.state in
    let second = session_line (takes time fetch) in
    let after = played p first in
    let s = p.setting in
    let within : time ≤ s.signals.horizon = omega (arith, fit.1.0) in
    let order : fetch.time ≤ time = omega arith in
    record {
      session = (fit.0, (fit.1.0, tt), (order, (within, fit.1.1), later.session));
      text =
          ap (λ (t : List ℕ). line_text p first ++ (line_text after second ++ t)) later.text
          ∙ sym (append_assoc (line_text p first) (line_text after second ++ []) (recorded_answers (fetched p fetch).play n lines)
          ∙ ap (λ (t : List ℕ). line_text p first ++ t) (append_assoc (line_text after second) [] (recorded_answers (fetched p fetch).play n lines)));
      play = later.play;
    }

-- by what the line says
said_step : (p : Play) (said : DialogueLine) (n : ℕ) (lines : List (List ℕ)) → IsFit p.setting.signals.horizon p.latest said → ((q : Play) → IsReplayed q n lines) →
    IsStep p (replied p said).play (record_of p (Some said)) (answer_of p (replied p said).text (Some said)) n lines
said_step p (says.Session line) n lines fit later = comes_next p line n lines fit (later (played p line))
said_step p (says.Question asked) n lines fit later = comes_next p (session_line asked) n lines fit (later (played p (session_line asked)))
said_step p (says.Fetch fetch) n lines fit later = fetch_next p fetch n lines fit (later (fetched p fetch).play)
said_step p (says.Untimed asked) n lines fit later = no_record p n lines (later p)

-- where it isn't refused
read_step : (p : Play) (number : ℕ) (read : Result DialogueLine Fault) (n : ℕ) (lines : List (List ℕ)) → IfOk read (IsFit p.setting.signals.horizon p.latest) → ((q : Play) → IsReplayed q n lines) →
    IsStep p (replied_if p (at_line number read)).play (record_of p (result_ok read)) (answer_of p (replied_if p (at_line number read)).text (result_ok read)) n lines
read_step p number (Ok said) n lines fit later = said_step p said n lines fit later
read_step p number (Err fault) n lines fit later = no_record p n lines (later p)

-- and isn't empty
line_step : (p : Play) (number : ℕ) (here : List LineText) (n : ℕ) (lines : List (List ℕ)) → ((q : Play) → IsReplayed q n lines) →
    IsStep p (reply_of p number here).play (record_of p (said_in p here)) (answer_of p (reply_of p number here).text (said_in p here)) n lines
line_step p number [] n lines later = no_record p n lines (later p)
line_step p number (line ∷ rest) n lines later =
    read_step p number (said_by (bounds_at p) p.latest line) n lines (said_fits (bounds_at p) p.latest line) later

-- line by line
replays : (p : Play) (n : ℕ) (lines : List (List ℕ)) → IsReplayed p n lines
replays p n [] = record { session = tt; text = refl; play = refl }
replays p n (bytes ∷ lines) =
    let step = line_step p n (lines_of bytes) (next_number n) lines (λ q. replays q (next_number n) lines) in
    record { session = step.session; text = step.text; play = step.play }

pub record_replays : RecordReplays
record_replays s first lines =
    let r = replays (first_play s) first lines in
    record { session = r.session; text = r.text; play = r.play }
