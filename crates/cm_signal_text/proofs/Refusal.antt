-- What is refused of a signals part is the first line that fails.
use Rattle.std.proofs.Common.{◌≡◌, ℕ, ◌+◌, Bool, true, false, List, [], ◌∷◌, ◌++◌, take, refl, sym, ap, ◌∙◌, Result, Ok, Err, codes}
use Rattle.std.specs.List.{position_or_len}
use Rattle.cm_base.specs.Refusal.{next_number}
use Rattle.cm_base.specs.Lines.{LineText}
use Rattle.cm_base.specs.Parts.{fixed}
use Rattle.cm_base.specs.Reading.{◌>>=◌, at_line, read_on}
use Rattle.cm_base.specs.Words.{alone}
use Rattle.cm_base.specs.declared.faults.Fault.{Fault}
use Rattle.cm_base.specs.declared.faults.Fault.TheVariants as faults
use Rattle.cm_base.specs.declared.faults.ReadStop.TheVariants as stops
use Rattle.cm_base.specs.declared.faults.Refused.{Refused}
use Rattle.cm_base.proofs.Refusal.{err_is, fixed_number}
use Rattle.cm_board.specs.Board.{BoardText}
use Rattle.cm_signal_text.specs.Refusal.{FirstIsRefused, IsFirstFault}
use Rattle.cm_signal.specs.Signals.{SignalsText}
use Rattle.cm_signal.specs.Adding.{silent}
use Rattle.cm_signal_text.specs.SignalsPart.{horizon_words, is_session, lines_after, lines_inside, said_after, signals_after}
use Rattle.cm_signal_text.proofs.Parts.{line_inside, line_stops, part_after, raised, session_here}

-- the first line that fails of those after the `signals` line
record IsFault (board : BoardText) (signals : SignalsText) (end : ℕ) (lines : List LineText) (refused : Refused) : Type 0 where
  good : List LineText
  rest : List LineText
  parts : lines ≡ good ++ rest
  line : refused.line ≡ next_number end rest
  before : (other : ℕ) → signals_after board other signals good ≡ Err (record { line = other; cause = faults.Missing })
  here : signals_after board end signals (good ++ take 1 rest) ≡ Err refused

-- the first of some lines fails
fails_here : (board : BoardText) (signals : SignalsText) (end : ℕ) (line : LineText) (rest : List LineText) (refused : Refused) → refused.line ≡ line.number →
    signals_after board end signals (line ∷ []) ≡ Err refused → IsFault board signals end (line ∷ rest) refused
fails_here board signals end line rest refused n e = record {
  good = [];
  rest = line ∷ rest;
  parts = refl;
  line = n;
  before = λ other. refl;
  here = e;
}

-- what comes of so many lines more is refused as before
raised_err : (count : ℕ) (read : Result (SignalsText × ℕ) Refused) (refused : Refused) → raised count read ≡ Err refused → read ≡ Err refused
raised_err count (Ok s) refused e = cc
raised_err count (Err r) refused e = ap (λ (x : Refused). Err x) (err_is _ _ e)

-- the signals where their `session` line is read
abbrev closes : SignalsText → Result Bool Refused → Result (SignalsText × ℕ) Refused
closes before closed = closed >>= λ c. Ok (before, 1)

closed_err : (before : SignalsText) (closed : Result Bool Refused) (refused : Refused) → closes before closed ≡ Err refused → closed ≡ Err refused
closed_err before (Ok c) refused e = cc
closed_err before (Err r) refused e = ap (λ (x : Refused). Err x) (err_is _ _ e)

after_refused : (board : BoardText) (signals : SignalsText) (end : ℕ) (lines : List LineText) (refused : Refused) → signals_after board end signals lines ≡ Err refused → IsFault board signals end lines refused
after_refused board signals end [] refused e = record {
  good = [];
  rest = [];
  parts = refl;
  line = ap (λ (r : Refused). r.line) (sym (err_is _ _ e));
  before = λ other. refl;
  here = e;
}
after_refused board signals end (line ∷ rest) refused e = by (is_session line) refl (λ more. after_refused board more end rest refused)
  where
    by_said : is_session line ≡ false → (said : Result SignalsText Fault) → said_after board signals line ≡ said → ((more : SignalsText) → signals_after board end more rest ≡ Err refused → IsFault board more end rest refused) → IsFault board signals end (line ∷ rest) refused
    by_said inside (Err cause) said later =
        let stop : at_line line.number (said_after board signals line) ≡ Err (record { line = line.number; cause = cause }) = ap (at_line line.number) said in
        let same : record { line = line.number; cause = cause } ≡ refused = err_is _ _ (sym (line_stops board end signals line rest (stops.Refused (record { line = line.number; cause = cause })) inside stop) ∙ e) in
        fails_here board signals end line rest refused (ap (λ (r : Refused). r.line) (sym same))
        (line_stops board end signals line [] (stops.Refused (record { line = line.number; cause = cause })) inside stop ∙ ap (λ (r : Refused). Err r) same)
    by_said inside (Ok more) said later =
        let read : at_line line.number (said_after board signals line) ≡ Ok more = ap (at_line line.number) said in
        let f = later more (raised_err 1 (signals_after board end more rest) refused (sym (line_inside board end signals more line rest inside read) ∙ e)) in
        record {
          good = line ∷ f.good;
          rest = f.rest;
          parts = ap (λ (ls : List LineText). line ∷ ls) f.parts;
          line = f.line;
          before = λ other. line_inside board other signals more line f.good inside read ∙ ap (raised 1) (f.before other);
          here = line_inside board end signals more line (f.good ++ take 1 f.rest) inside read ∙ ap (raised 1) f.here;
        }

    by : (session : Bool) → is_session line ≡ session → ((more : SignalsText) → signals_after board end more rest ≡ Err refused → IsFault board more end rest refused) → IsFault board signals end (line ∷ rest) refused
    by true is later =
        let closed = closed_err signals (fixed 0 (codes "session") (alone true) (line ∷ [])) refused (sym (session_here board end signals line rest is) ∙ e) in
        fails_here board signals end line rest refused (fixed_number 0 (codes "session") (alone true) line [] refused closed)
        (session_here board end signals line [] is ∙ ap (closes signals) closed)
    by false is later = by_said is (said_after board signals line) refl later

-- a signals part by what its first line says, and the lines after it
abbrev after_head : BoardText → ℕ → List LineText → Result ℕ Refused → Result (SignalsText × ℕ) Refused
after_head board end more said =
    said >>= λ horizon. read_on (said_after board) (silent horizon) (lines_inside more) >>= λ signals.
    fixed end (codes "session") (alone true) (lines_after more) >>= λ closed. Ok (signals, 2 + position_or_len is_session more)

first_fails : (board : BoardText) (end : ℕ) (line : LineText) (rest : List LineText) (refused : Refused) → fixed end (codes "signals") (horizon_words board.version) (line ∷ rest) ≡ Err refused → IsFirstFault board end (line ∷ rest) refused
first_fails board end line rest refused e = record {
  good = [];
  rest = line ∷ rest;
  parts = refl;
  line = fixed_number end (codes "signals") (horizon_words board.version) line rest refused e;
  before = λ other. refl;
  here = ap (after_head board end []) e;
}

pub first_refused : FirstIsRefused
first_refused board end [] refused e = record {
  good = [];
  rest = [];
  parts = refl;
  line = ap (λ (r : Refused). r.line) (sym (err_is _ _ e));
  before = λ other. refl;
  here = e;
}
first_refused board end (line ∷ rest) refused e = by (fixed end (codes "signals") (horizon_words board.version) (line ∷ rest)) refl
  where
    by : (said : Result ℕ Refused) → fixed end (codes "signals") (horizon_words board.version) (line ∷ rest) ≡ said → IsFirstFault board end (line ∷ rest) refused
    by (Err r) is =
        let same : r ≡ refused = err_is _ _ (sym (ap (after_head board end rest) is) ∙ e) in
        first_fails board end line rest refused (is ∙ ap (λ (x : Refused). Err x) same)
    by (Ok horizon) is =
        let f = after_refused board (silent horizon) end rest refused (raised_err 1 (signals_after board end (silent horizon) rest) refused (sym (part_after board end horizon (line ∷ rest) is) ∙ e)) in
        record {
          good = line ∷ f.good;
          rest = f.rest;
          parts = ap (λ (ls : List LineText). line ∷ ls) f.parts;
          line = f.line;
          before = λ other. part_after board other horizon (line ∷ f.good) is ∙ ap (raised 1) (f.before other);
          here = part_after board end horizon (line ∷ (f.good ++ take 1 f.rest)) is ∙ ap (raised 1) f.here;
        }
