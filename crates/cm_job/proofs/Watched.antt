-- What the lines of a watch keep.
use Rattle.std.proofs.Common.{◌≡◌, ℕ, ◌≤◌, Bool, true, false, List, [], ◌∷◌, ◌++◌, length, Option, Some, None, Result, Ok, Err, refl, ap, ◌∙◌, subst, arith}
use Rattle.std.specs.Prelude.{◌&&◌, nat_le, nat_lt, is_none, IfOk}
use Rattle.std.specs.List.{All, list_all}
use Rattle.std.proofs.lemmas.Bool.{and_parts, leb-true}
use Rattle.std.proofs.lemmas.List.Elements.{All-push}
use Rattle.cm_base.specs.Lines.{LineText}
use Rattle.cm_base.specs.Reading.{◌>>=◌, at_line, read_each}
use Rattle.cm_base.specs.ReadStop.{Gives}
use Rattle.cm_base.specs.Words.{limited}
use Rattle.cm_base.specs.declared.faults.Fault.{Fault}
use Rattle.cm_base.specs.declared.faults.ReadStop.{ReadStop}
use Rattle.cm_board.specs.Board.{BoardText, SubText}
use Rattle.cm_cmd.specs.Command.{CmdText}
use Rattle.cm_signal.specs.Bounds.{bounds_of}
use Rattle.cm_signal.specs.Signals.{SignalsText}
use Rattle.cm_test.proofs.Adjusted.{first_no}
use Rattle.cm_test.specs.Questions.{is_compatible, is_narrow, is_rounded, is_within, tested}
use Rattle.cm_test.specs.Steps.{narrowed, repaired, rounded}
use Rattle.cm_test.specs.ValidList.{has_valid_length, keeps_rules, is_valid_entry, is_valid_list}
use Rattle.cm_test.specs.Accepting.{sub_at}
use Rattle.cm_expand.specs.Totals.{has_room, length_of, length_of_all}
use Rattle.cm_job.specs.Forms.{asked_of}
use Rattle.cm_job.specs.RunLines.{AreRunLines}
use Rattle.cm_job.specs.RunPart.{accepted, line_after, next_line, run_line, taken_line, watch_of}
use Rattle.cm_job.specs.Modes.{is_paced}
use Rattle.cm_job.specs.Sessions.{holds_scan, is_watched}
use Rattle.cm_job.specs.WatchLines.{AreWatchLines, IsWatched}
use Rattle.cm_job.specs.declared.asked.AskedLine.{AskedLine}
use Rattle.cm_job.specs.declared.asked.AskedLine.TheVariants as asks
use Rattle.cm_job.specs.declared.asked.Session.TheVariants as sessions
use Rattle.cm_job.specs.declared.line.Access.{Access}
use Rattle.cm_job.specs.declared.line.Mode.{Mode}
use Rattle.cm_job.specs.declared.line.Mode.TheVariants.{Paced, Free}
use Rattle.cm_job.specs.declared.line.RunLine.{RunLine}
use Rattle.cm_job.specs.declared.line.RunLine.TheVariants.{Go}
use Rattle.cm_job.proofs.Kept.{accepted-from, taken-from}
use Rattle.cm_job.proofs.Steps.{limited-from, same-ok, then-from}
use Rattle.cm_job.specs.Calls.{plan_of}

-- the last of five questions has yes where the answer is 0
last_yes : {A : Type 0} (a b c d e : Bool) (x y z w : A) → (first_no a b c d e x y z w).0 ≡ 0 → e ≡ true
last_yes false b c d e x y z w h = cc
last_yes true false c d e x y z w h = cc
last_yes true true false d e x y z w h = cc
last_yes true true true false e x y z w h = cc
last_yes true true true true false x y z w h = cc
last_yes true true true true true x y z w h = refl

-- the list of a command that passes the test has an entry
pub some-entry : (sub : SubText) (cmd : CmdText) → (tested sub cmd).0 ≡ 0 → 1 ≤ length cmd.list
some-entry sub cmd passes =
    let valid = last_yes (is_narrow sub cmd) (is_compatible sub cmd) (is_within sub cmd) (is_rounded sub cmd) (is_valid_list sub cmd.list) cmd (narrowed sub cmd) (repaired sub cmd) (rounded sub cmd) passes in
    let most = and_parts (has_valid_length sub cmd.list && list_all (is_valid_entry sub) cmd.list) (keeps_rules sub cmd.list) valid in
    let length_ok = and_parts (has_valid_length sub cmd.list) (list_all (is_valid_entry sub) cmd.list) most.0 in
    let some = and_parts (nat_le 1 (length cmd.list)) (nat_le (length cmd.list) sub.list_max) length_ok.0 in
    leb-true 1 (length cmd.list) some.0

paced-from : (mode : Mode) → is_paced mode ≡ true → mode ≡ Paced
paced-from Paced e = refl
paced-from Free e = absurd (cc)

none-from : (most : Option ℕ) → is_none most ≡ true → most ≡ None
none-from None e = refl
none-from (Some n) e = absurd (cc)

-- a line that asks for what a watch takes is watched
go-watched : (board : BoardText) (mode : Mode) (access : Access) (t0 : ℕ) (most : Option ℕ) (cmd : CmdText) (line : RunLine) → is_watched board (asks.Go mode access t0 most cmd) ≡ true →
    run_line board (asks.Go mode access t0 most cmd) ≡ Ok line → IsWatched board line
go-watched board mode access t0 most cmd line takes e =
    let a = then-from (accepted board false cmd) (λ next. Ok (Go mode access t0 most next)) line e in
    let f = accepted-from board false cmd a.0 a.1 in
    let whole = and_parts (is_paced mode && is_none most) (holds_scan board cmd) takes in
    let paced = and_parts (is_paced mode) (is_none most) whole.0 in
    let held = and_parts (nat_lt cmd.sub (length board.subs)) (nat_le (length cmd.list) (sub_at board cmd.sub).buffer) whole.1 in
    let same : Go mode access t0 most cmd ≡ line = ap (Go mode access t0 most) f.same ∙ same-ok (Go mode access t0 most a.0) line a.2 in
    subst (IsWatched board) same (
      paced-from mode paced.0,
      none-from most paced.1,
      some-entry (sub_at board cmd.sub) cmd f.passes,
      leb-true (length cmd.list) (sub_at board cmd.sub).buffer held.1,
    )

asked-watched : (board : BoardText) (asked : AskedLine) (line : RunLine) → is_watched board asked ≡ true → run_line board asked ≡ Ok line → IsWatched board line
asked-watched board (asks.Go mode access t0 most cmd) line takes e = go-watched board mode access t0 most cmd line takes e
asked-watched board (asks.Drive t0 numbers cmd) line takes e = absurd (cc)

-- a line that is read of a watch is watched
line-watched : (board : BoardText) (signals : SignalsText) (before : List RunLine) (line : LineText) (next : RunLine) → line_after sessions.Watch board signals before line ≡ Ok next → IsWatched board next
line-watched board signals before line next e =
    let n = then-from (next_line sessions.Watch board (bounds_of board signals) (length before) line) (λ x. limited (has_room (length_of_all (plan_of board signals) before) (length_of (plan_of board signals x))) x) next e in
    let l = limited-from (has_room (length_of_all (plan_of board signals) before) (length_of (plan_of board signals n.0))) n.0 next n.2 in
    let a = then-from (asked_of (bounds_of board signals) line) (λ asked. limited (nat_lt (length before) 16) asked >>= λ asked. taken_line sessions.Watch board asked) n.0 n.1 in
    let f = then-from (limited (nat_lt (length before) 16) a.0) (λ asked. taken_line sessions.Watch board asked) n.0 a.2 in
    let t = taken-from sessions.Watch board f.0 n.0 f.2 in
    subst (IsWatched board) l.1 (asked-watched board f.0 n.0 t.takes t.said)

-- what holds of each line that is read holds of all that are
each-kept : {X : Type 0} (P : X → Type 0) (read : List X → LineText → Result X Fault) (before : List X) (lines : List LineText) (all : List X) →
    ((before : List X) (line : LineText) (x : X) → read before line ≡ Ok x → P x) → All P before → read_each read before lines ≡ Ok all → All P all
each-kept P read before [] all kept so e = let same : before ≡ all = cc in subst (All P) same so
each-kept {X} P read before (line ∷ rest) all kept so e = by (read before line) refl e (λ x. each-kept P read (before ++ x ∷ []) rest all kept)
  where
    by : (r : Result X Fault) → read before line ≡ r → (at_line line.number r >>= λ x. read_each read (before ++ x ∷ []) rest) ≡ Ok all →
        ((x : X) → All P (before ++ x ∷ []) → read_each read (before ++ x ∷ []) rest ≡ Ok all → All P all) → All P all
    by (Ok x) is said later = later x (All-push P before x so (kept before line x is)) said
    by (Err fault) is said later = absurd (cc)

all-none : {X : Type 0} (P : X → Type 0) → All P []
all-none P i x within = absurd (omega (arith, within))

pub watch-lines : {X : Type 0} (view : X → List RunLine) (board : BoardText) (signals : SignalsText) (lines : List LineText) (r : Result X ReadStop) →
    Gives view r (watch_of board signals lines) → IfOk r (λ all. AreRunLines board signals (view all)) → IfOk r (λ all. AreWatchLines board signals (view all))
watch-lines view board signals lines (Ok all) gives run = record {
  run = run;
  watched = each-kept (IsWatched board) (line_after sessions.Watch board signals) [] lines (view all) (line-watched board signals) (all-none (IsWatched board)) gives;
}
watch-lines view board signals lines (Err stop) gives run = tt
