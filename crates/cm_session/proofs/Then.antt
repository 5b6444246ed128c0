-- What a line asks, one step after another.
use Rattle.std.proofs.Common.{◌≡◌, ℕ, ◌<◌, ◌≤◌, Bool, false, nat_le, List, [], drop, length, Result, Ok, Err, ap, sym, ◌∙◌, subst, arith}
use Rattle.std.proofs.lemmas.List.{drop-drop}
use Rattle.std.proofs.lemmas.Bool.{cond-false, cond-true, le-leb, lt-leb}
use Rattle.cm_base.specs.Lines.{LineText}
use Rattle.cm_base.specs.ReadStop.{Stops}
use Rattle.cm_base.specs.Reading.{◌>>=◌, at_line}
use Rattle.cm_base.specs.Words.{values}
use Rattle.cm_base.specs.declared.faults.Fault.{Fault}
use Rattle.cm_base.specs.declared.faults.Fault.TheVariants as faults
use Rattle.cm_base.specs.declared.faults.ReadStop.{ReadStop}
use Rattle.cm_base.specs.declared.faults.ReadStop.TheVariants as stops
use Rattle.cm_base.proofs.Each.{stops-along}
use Rattle.cm_base.proofs.Values.{at_line_ok, values_few}
use Rattle.cm_board.specs.Versions.{most_entries}
use Rattle.cm_cmd.specs.Command.{CmdText}
use Rattle.cm_cmd.specs.CommandText.{command_of}
use Rattle.cm_session.specs.Forms.{command_words, data_word, file_word, head_of}
use Rattle.cm_session.specs.SessionPart.{after_time, line_after, line_words}
use Rattle.cm_signal.specs.declared.bounds.Bounds.{Bounds}
use Rattle.cm_session.specs.declared.forms.LineHead.{LineHead}
use Rattle.cm_session.specs.declared.op.SessionLine.{SessionLine}

-- what stops a step stops all that come after it
pub then_stops : {X Y : Type 0} (stop : ReadStop) (number : ℕ) (read : Result X Fault) (next : X → Result Y Fault) → Stops stop (at_line number read) → Stops stop (at_line number (read >>= next))
then_stops stops.NoMemory number read next e = tt
then_stops (stops.Refused r) number (Ok x) next e = cc
then_stops (stops.Refused r) number (Err fault) next e = cc

-- a step that gives something is followed by the next one
pub then_reads : {X Y : Type 0} (number : ℕ) (read : Result X Fault) (next : X → Result Y Fault) (x : X) → at_line number read ≡ Ok x → at_line number (read >>= next) ≡ at_line number (next x)
then_reads {Y} number read next x e = ap (λ r. at_line number (r >>= next)) (at_line_ok number read x e)

-- no more values than may stand
pub few_values : (most number : ℕ) (words : List (List ℕ)) (xs : List ℕ) → at_line number (values most data_word [] words) ≡ Ok xs → length xs ≤ most
few_values most number words xs e =
    let few = (values_few most data_word [] words xs (omega arith) (at_line_ok number (values most data_word [] words) xs e)).few in
    few

-- a good line asks what its words ask, after the time before it
good_line : (only : Bool) (bounds : Bounds) (before : ℕ) (line : LineText) → line.bad ≡ false → line_after only bounds before line ≡ (line_words only bounds line.words >>= λ next. after_time before next)
good_line only bounds before line good = cond-false line.bad (Err faults.BadLine) (line_words only bounds line.words >>= λ next. after_time before next) good

pub line_stops : (only : Bool) (bounds : Bounds) (before : ℕ) (line : LineText) (stop : ReadStop) → line.bad ≡ false → Stops stop (at_line line.number (line_words only bounds line.words)) → Stops stop (at_line line.number (line_after only bounds before line))
line_stops only bounds before line stop good e =
    stops-along stop _ _ (ap (at_line line.number) (good_line only bounds before line good))
    (then_stops stop line.number (line_words only bounds line.words) (λ next. after_time before next) e)

pub line_read : (only : Bool) (bounds : Bounds) (before : ℕ) (line : LineText) (next : SessionLine) → line.bad ≡ false → at_line line.number (line_words only bounds line.words) ≡ Ok next → before ≤ next.time → at_line line.number (line_after only bounds before line) ≡ Ok next
line_read only bounds before line next good e after =
    ap (at_line line.number) (good_line only bounds before line good)
    ∙ then_reads line.number (line_words only bounds line.words) (λ next. after_time before next) next e
    ∙ ap (at_line line.number) (cond-true (nat_le before next.time) (Ok next) (Err faults.Bad) (le-leb before next.time after))

pub line_before : (only : Bool) (bounds : Bounds) (before : ℕ) (line : LineText) (next : SessionLine) (stop : ReadStop) → line.bad ≡ false → at_line line.number (line_words only bounds line.words) ≡ Ok next → next.time < before →
    stop ≡ stops.Refused (record { line = line.number; cause = faults.Bad }) → Stops stop (at_line line.number (line_after only bounds before line))
line_before only bounds before line next stop good e below is =
    let refused = ap (at_line line.number) (good_line only bounds before line good)
    ∙ then_reads line.number (line_words only bounds line.words) (λ next. after_time before next) next e
    ∙ ap (at_line line.number) (cond-false (nat_le before next.time) (Ok next) (Err faults.Bad) (lt-leb before next.time below)) in
    subst (λ (s : ReadStop). Stops s (at_line line.number (line_after only bounds before line))) (sym is) refused

-- the words of a command, whose file and head are read
command_here : (number : ℕ) (bounds : Bounds) (time file : List ℕ) (words : List (List ℕ)) (head : LineHead) → file_word words ≡ Ok file → head_of bounds time file ≡ Ok head →
    at_line number (command_words bounds time words) ≡ at_line number (command_of (most_entries bounds.version) (drop 1 words) >>= λ cmd. Ok (head, cmd))
command_here number bounds time file words head f h =
    ap (λ (r : Result (List ℕ) Fault). at_line number (r >>= λ file. head_of bounds time file >>= λ head. command_of (most_entries bounds.version) (drop 1 words) >>= λ cmd. Ok (head, cmd))) f
    ∙ ap (λ (r : Result LineHead Fault). at_line number (r >>= λ head. command_of (most_entries bounds.version) (drop 1 words) >>= λ cmd. Ok (head, cmd))) h

pub command_stops : (number : ℕ) (bounds : Bounds) (time file : List ℕ) (words : List (List ℕ)) (head : LineHead) (stop : ReadStop) → file_word words ≡ Ok file → head_of bounds time file ≡ Ok head →
    Stops stop (at_line number (command_of (most_entries bounds.version) (drop 1 words))) → Stops stop (at_line number (command_words bounds time words))
command_stops number bounds time file words head stop f h e =
    stops-along stop _ _ (command_here number bounds time file words head f h)
    (then_stops stop number (command_of (most_entries bounds.version) (drop 1 words)) (λ cmd. Ok (head, cmd)) e)

pub command_read : (number : ℕ) (bounds : Bounds) (time file : List ℕ) (words : List (List ℕ)) (head : LineHead) (cmd : CmdText) → file_word words ≡ Ok file → head_of bounds time file ≡ Ok head →
    at_line number (command_of (most_entries bounds.version) (drop 1 words)) ≡ Ok cmd → at_line number (command_words bounds time words) ≡ Ok (head, cmd)
command_read number bounds time file words head cmd f h e =
    command_here number bounds time file words head f h
    ∙ then_reads number (command_of (most_entries bounds.version) (drop 1 words)) (λ cmd. Ok (head, cmd)) cmd e

-- the words of a command by their places in the line, with as many entries as its version says
pub command_placed : (version most number other : ℕ) (line words : List (List ℕ)) → most ≡ most_entries version → number ≡ other → drop 2 line ≡ words →
    at_line number (command_of (most_entries version) (drop 1 words)) ≡ at_line other (command_of most (drop 3 line))
command_placed version most number other line words m n w =
    ap (λ (n : ℕ). at_line n (command_of (most_entries version) (drop 1 words))) n
    ∙ ap (λ (ws : List (List ℕ)). at_line other (command_of (most_entries version) ws)) (sym (ap (drop 1) w) ∙ drop-drop 1 2 line)
    ∙ ap (λ (m : ℕ). at_line other (command_of m (drop 3 line))) (sym m)
