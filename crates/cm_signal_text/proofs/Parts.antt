-- The signals part from its lines.
use Rattle.std.proofs.Common.{◌≡◌, ℕ, suc, ◌+◌, List, [], ◌∷◌, take, drop, Bool, true, false, cond, not, refl, ap, sym, ◌∙◌, Result, Ok, Err, arith, subst}
use Rattle.std.specs.Prelude.{codes}
use Rattle.std.specs.List.{position_or_len}
use Rattle.cm_base.specs.Lines.{LineText}
use Rattle.cm_base.specs.Parts.{fixed}
use Rattle.cm_base.specs.ReadStop.{Stops}
use Rattle.cm_base.specs.Reading.{◌>>=◌, at_line, read_on}
use Rattle.cm_base.specs.Words.{alone}
use Rattle.cm_base.specs.declared.faults.ReadStop.{ReadStop}
use Rattle.cm_base.specs.declared.faults.ReadStop.TheVariants as stops
use Rattle.cm_base.specs.declared.faults.Refused.{Refused}
use Rattle.cm_board.specs.Board.{BoardText}
use Rattle.cm_signal.specs.Signals.{SignalsText}
use Rattle.cm_signal.specs.Adding.{silent}
use Rattle.cm_signal_text.specs.SignalsPart.{horizon_words, is_session, lines_after, lines_inside, said_after, signals_after, signals_of}

-- signals of so many lines more
abbrev pub raised : ℕ → Result (SignalsText × ℕ) Refused → Result (SignalsText × ℕ) Refused
raised count r = r >>= λ s. Ok (s.0, count + s.1)

raised_twice : (m n : ℕ) (r : Result (SignalsText × ℕ) Refused) → raised m (raised n r) ≡ raised (m + n) r
raised_twice m n (Ok s) = ap (λ (k : ℕ). let r : Result (SignalsText × ℕ) Refused = Ok (s.0, k) in r) (omega arith)
raised_twice m n (Err e) = refl

-- the signals of lines of which so many are inside
abbrev cut_at : BoardText → ℕ → SignalsText → List LineText → ℕ → Result (SignalsText × ℕ) Refused
cut_at board end before lines n = read_on (said_after board) before (take n lines) >>= λ signals. fixed end (codes "session") (alone true) (drop n lines) >>= λ closed. Ok (signals, 1 + n)

reported_raised : {C : Type 0} (read : Result SignalsText Refused) (closed : Result C Refused) (k n : ℕ) → k ≡ 1 + n →
    (read >>= λ s. closed >>= λ c. Ok (s, k)) ≡ raised 1 (read >>= λ s. closed >>= λ c. Ok (s, n))
reported_raised (Ok s) (Ok c) k n e = ap (λ (m : ℕ). let r : Result (SignalsText × ℕ) Refused = Ok (s, m) in r) e
reported_raised (Ok s) (Err e) k n same = refl
reported_raised (Err e) closed k n same = refl

one_more : (n : ℕ) → 1 + n ≡ suc n
one_more n = omega arith

-- the `session` line ends the part
pub session_here : (board : BoardText) (end : ℕ) (before : SignalsText) (line : LineText) (rest : List LineText) → is_session line ≡ true →
    signals_after board end before (line ∷ rest) ≡ (fixed 0 (codes "session") (alone true) (line ∷ []) >>= λ closed. Ok (before, 1))
session_here board end before line rest e = ap (λ (b : Bool). cut_at board end before (line ∷ rest) (cond (not b) (1 + position_or_len is_session rest) 0)) e

inside : (board : BoardText) (end : ℕ) (before : SignalsText) (line : LineText) (rest : List LineText) → is_session line ≡ false →
    signals_after board end before (line ∷ rest) ≡ cut_at board end before (line ∷ rest) (suc (position_or_len is_session rest))
inside board end before line rest e =
    ap (λ (b : Bool). cut_at board end before (line ∷ rest) (cond (not b) (1 + position_or_len is_session rest) 0)) e
    ∙ ap (cut_at board end before (line ∷ rest)) (one_more (position_or_len is_session rest))

-- a line more is read
pub line_inside : (board : BoardText) (end : ℕ) (before more : SignalsText) (line : LineText) (rest : List LineText) → is_session line ≡ false →
    at_line line.number (said_after board before line) ≡ Ok more → signals_after board end before (line ∷ rest) ≡ raised 1 (signals_after board end more rest)
line_inside board end before more line rest e said =
    let n = position_or_len is_session rest in
    inside board end before line rest e
    ∙ ap (λ (r : Result SignalsText Refused). (r >>= λ m. read_on (said_after board) m (take n rest)) >>= λ signals. fixed end (codes "session") (alone true) (drop n rest) >>= λ closed. Ok (signals, 1 + suc n)) said
    ∙ reported_raised (read_on (said_after board) more (lines_inside rest)) (fixed end (codes "session") (alone true) (lines_after rest)) (1 + suc n) (1 + n) (omega arith)

-- after others too
pub line_more : (board : BoardText) (end : ℕ) (first before more : SignalsText) (all : List LineText) (line : LineText) (now rest : List LineText) (count : ℕ) →
    signals_after board end first all ≡ raised count (signals_after board end before now) → now ≡ line ∷ rest → is_session line ≡ false → at_line line.number (said_after board before line) ≡ Ok more →
    signals_after board end first all ≡ raised (count + 1) (signals_after board end more rest)
line_more board end first before more all line now rest count reported here e said =
    reported ∙ ap (λ (ls : List LineText). raised count (signals_after board end before ls)) here
    ∙ ap (raised count) (line_inside board end before more line rest e said)
    ∙ raised_twice count 1 (signals_after board end more rest)

raised_stops : (stop : ReadStop) (count : ℕ) (r : Result (SignalsText × ℕ) Refused) → Stops stop r → Stops stop (raised count r)
raised_stops stops.NoMemory count r said = tt
raised_stops (stops.Refused why) count r said = ap (raised count) said

-- a line of the part that is refused
pub line_stops : (board : BoardText) (end : ℕ) (before : SignalsText) (line : LineText) (rest : List LineText) (stop : ReadStop) → is_session line ≡ false →
    Stops stop (at_line line.number (said_after board before line)) → Stops stop (signals_after board end before (line ∷ rest))
line_stops board end before line rest stops.NoMemory e said = tt
line_stops board end before line rest (stops.Refused why) e said =
    let n = position_or_len is_session rest in
    inside board end before line rest e
    ∙ ap (λ (r : Result SignalsText Refused). (r >>= λ m. read_on (said_after board) m (take n rest)) >>= λ signals. fixed end (codes "session") (alone true) (drop n rest) >>= λ closed. Ok (signals, 1 + suc n)) said

-- a line that is refused after others
pub lines_stop : (board : BoardText) (end : ℕ) (first before : SignalsText) (all : List LineText) (line : LineText) (now rest : List LineText) (count : ℕ) (stop : ReadStop) →
    signals_after board end first all ≡ raised count (signals_after board end before now) → now ≡ line ∷ rest → is_session line ≡ false → Stops stop (at_line line.number (said_after board before line)) →
    Stops stop (signals_after board end first all)
lines_stop board end first before all line now rest count stop reported here e said =
    subst (Stops stop) (sym (reported ∙ ap (λ (ls : List LineText). raised count (signals_after board end before ls)) here))
    (raised_stops stop count (signals_after board end before (line ∷ rest)) (line_stops board end before line rest stop e said))

-- the whole part, from what is after its first line
pub part_after : (board : BoardText) (end horizon : ℕ) (lines : List LineText) → fixed end (codes "signals") (horizon_words board.version) lines ≡ Ok horizon →
    signals_of board end lines ≡ raised 1 (signals_after board end (silent horizon) (drop 1 lines))
part_after board end horizon lines e =
    let rest = drop 1 lines in
    let n = position_or_len is_session rest in
    ap (λ (r : Result ℕ Refused). r >>= λ h. read_on (said_after board) (silent h) (lines_inside rest) >>= λ signals. fixed end (codes "session") (alone true) (lines_after rest) >>= λ closed. Ok (signals, 2 + n)) e
    ∙ reported_raised (read_on (said_after board) (silent horizon) (lines_inside rest)) (fixed end (codes "session") (alone true) (lines_after rest)) (2 + n) (1 + n) (omega arith)

-- what was read after the first line
pub record IsBegun (board : BoardText) (end horizon : ℕ) (lines rest : List LineText) (start : SignalsText) : Type 0 where
  pub head : fixed end (codes "signals") (horizon_words board.version) lines ≡ Ok horizon
  pub rest_is : rest ≡ drop 1 lines
  pub silence : start ≡ silent horizon

begun : (board : BoardText) (end horizon : ℕ) (lines rest : List LineText) (start : SignalsText) → IsBegun board end horizon lines rest start →
    signals_of board end lines ≡ raised 1 (signals_after board end start rest)
begun board end horizon lines rest start b =
    part_after board end horizon lines b.head
    ∙ ap (λ (s : SignalsText). raised 1 (signals_after board end s (drop 1 lines))) (sym b.silence)
    ∙ ap (λ (ls : List LineText). raised 1 (signals_after board end start ls)) (sym b.rest_is)

pub part_stops : (board : BoardText) (end horizon : ℕ) (lines rest : List LineText) (start : SignalsText) (stop : ReadStop) → IsBegun board end horizon lines rest start →
    Stops stop (signals_after board end start rest) → Stops stop (signals_of board end lines)
part_stops board end horizon lines rest start stop b said =
    subst (Stops stop) (sym (begun board end horizon lines rest start b)) (raised_stops stop 1 (signals_after board end start rest) said)

pub part_reported : (board : BoardText) (end horizon : ℕ) (lines rest : List LineText) (start signals : SignalsText) (count : ℕ) → IsBegun board end horizon lines rest start →
    signals_after board end start rest ≡ Ok (signals, count) → signals_of board end lines ≡ Ok (signals, 1 + count)
part_reported board end horizon lines rest start signals count b said = begun board end horizon lines rest start b ∙ ap (raised 1) said
