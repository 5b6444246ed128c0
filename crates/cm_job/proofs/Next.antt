-- The next line of a run, step by step.
use Rattle.std.proofs.Common.{◌≡◌, ℕ, ◌<◌, ◌≤◌, Bool, true, List, Result, Ok, sym, ap, ◌∙◌, subst}
use Rattle.std.specs.Prelude.{nat_lt}
use Rattle.std.proofs.lemmas.Bool.{le-ltb, lt-ltb}
use Rattle.cm_base.specs.Lines.{LineText}
use Rattle.cm_base.specs.Reading.{◌>>=◌, at_line}
use Rattle.cm_base.specs.ReadStop.{Stops}
use Rattle.cm_base.specs.Words.{limited}
use Rattle.cm_base.specs.declared.faults.Fault.{Fault}
use Rattle.cm_base.specs.declared.faults.Fault.TheVariants.{Limit}
use Rattle.cm_base.specs.declared.faults.ReadStop.{ReadStop}
use Rattle.cm_base.specs.declared.faults.ReadStop.TheVariants as stops
use Rattle.cm_board.specs.Board.{BoardText, SubText}
use Rattle.cm_cmd.specs.Command.{CmdText}
use Rattle.cm_signal.specs.declared.bounds.Bounds.{Bounds}
use Rattle.cm_test.specs.Accepting.{passed}
use Rattle.cm_job.specs.Forms.{asked_of}
use Rattle.cm_job.specs.RunPart.{directed_sub, drive_of, next_line, taken_line, values_of}
use Rattle.cm_job.specs.declared.asked.AskedLine.{AskedLine}
use Rattle.cm_job.specs.declared.asked.Session.{Session}
use Rattle.cm_job.specs.declared.line.RunLine.TheVariants.{Drive}
use Rattle.cm_job.proofs.Steps.{then-reads, then-stops}

-- words that aren't read stop the line
pub next-stops : (session : Session) (board : BoardText) (h bounds : Bounds) (count number : ℕ) (line : LineText) (stop : ReadStop) → h ≡ bounds → Stops stop (at_line number (asked_of h line)) → Stops stop (at_line number (next_line session board bounds count line))
next-stops session board h bounds count number line stop same e =
    then-stops stop number (asked_of bounds line) (λ asked. limited (nat_lt count 16) asked >>= λ asked. taken_line session board asked)
    (subst (λ (k : Bounds). Stops stop (at_line number (asked_of k line))) same e)

-- the line where its words are read
next-by : (session : Session) (board : BoardText) (h bounds : Bounds) (count number : ℕ) (line : LineText) (asked : AskedLine) → h ≡ bounds → at_line number (asked_of h line) ≡ Ok asked →
    at_line number (next_line session board bounds count line) ≡ at_line number (limited (nat_lt count 16) asked >>= λ asked. taken_line session board asked)
next-by session board h bounds count number line asked same e =
    then-reads number (asked_of bounds line) (λ asked. limited (nat_lt count 16) asked >>= λ asked. taken_line session board asked) asked
    (subst (λ (k : Bounds). at_line number (asked_of k line) ≡ Ok asked) same e)

-- a line that is one too many
pub next-full : (session : Session) (board : BoardText) (h bounds : Bounds) (count number : ℕ) (line : LineText) (asked : AskedLine) (stop : ReadStop) → h ≡ bounds → at_line number (asked_of h line) ≡ Ok asked → 16 ≤ count →
    stop ≡ stops.Refused (record { line = number; cause = Limit }) → Stops stop (at_line number (next_line session board bounds count line))
next-full session board h bounds count number line asked stop same e full is =
    let refused = next-by session board h bounds count number line asked same e ∙ ap (λ (b : Bool). at_line number (limited b asked >>= λ asked. taken_line session board asked)) (le-ltb count 16 full) in
    subst (λ (s : ReadStop). Stops s (at_line number (next_line session board bounds count line))) (sym is) refused

-- and one that isn't
pub next-there : (session : Session) (board : BoardText) (h bounds : Bounds) (count number : ℕ) (line : LineText) (asked : AskedLine) → h ≡ bounds → at_line number (asked_of h line) ≡ Ok asked → count < 16 →
    at_line number (next_line session board bounds count line) ≡ at_line number (taken_line session board asked)
next-there session board h bounds count number line asked same e few =
    next-by session board h bounds count number line asked same e ∙ ap (λ (b : Bool). at_line number (limited b asked >>= λ asked. taken_line session board asked)) (lt-ltb count 16 few)

-- a `drive` line whose command is accepted
pub drive-by : (board : BoardText) (t0 number : ℕ) (numbers : List ℕ) (cmd next : CmdText) (sub : SubText) → directed_sub board true cmd.sub ≡ Ok sub → passed sub cmd ≡ Ok next →
    at_line number (drive_of board t0 numbers cmd) ≡ at_line number (values_of sub next numbers >>= λ values. Ok (Drive t0 values next))
drive-by board t0 number numbers cmd next sub found takes =
    ap (λ (r : Result SubText Fault). at_line number (r >>= λ sub. passed sub cmd >>= λ cmd. values_of sub cmd numbers >>= λ values. Ok (Drive t0 values cmd))) found
    ∙ ap (λ (r : Result CmdText Fault). at_line number (r >>= λ cmd. values_of sub cmd numbers >>= λ values. Ok (Drive t0 values cmd))) takes
