-- What the lines of a run keep that were read.
use Rattle.std.proofs.Common.{◌≡◌, ℕ, ◌+◌, ◌<◌, ◌≤◌, Bool, true, false, List, [], ◌∷◌, ◌++◌, length, drop, Option, Ok, Err, refl, sym, ap, ◌∙◌, subst, arith, length-append}
use Rattle.std.specs.Prelude.{◌&&◌, ◌==◌, not, nat_le, nat_lt, if◌then◌else◌}
use Rattle.std.proofs.lemmas.Bool.{and_parts, eqb-true, leb-true, ltb-true}
use Rattle.std.proofs.lemmas.List.Elements.{All-push}
use Rattle.cm_base.specs.Lines.{LineText}
use Rattle.cm_base.specs.declared.faults.Fault.TheVariants.{Bad}
use Rattle.cm_base.specs.Reading.{at_line}
use Rattle.cm_base.specs.Words.{limited, number_in}
use Rattle.cm_base.proofs.Values.{at_line_ok}
use Rattle.cm_board.specs.Board.{BoardText, SubText, is_output}
use Rattle.cm_board.specs.Versions.{most_entries}
use Rattle.cm_cmd.specs.Command.{CmdText}
use Rattle.cm_cmd.specs.CommandText.{command_of}
use Rattle.cm_test.specs.Accepting.{numbered_sub, passed, sub_at}
use Rattle.cm_signal.specs.Bounds.{bounds_of}
use Rattle.cm_signal.specs.Signals.{SignalsText}
use Rattle.cm_signal.specs.declared.bounds.Bounds.{Bounds}
use Rattle.cm_test.specs.Questions.{tested}
use Rattle.cm_expand.specs.Totals.{has_room, length_of, length_of_all}
use Rattle.cm_expand.proofs.Rooms.{length-more}
use Rattle.cm_job.specs.Calls.{CanCall, cmd_of, plan_of}
use Rattle.cm_job.specs.Forms.{access_of, asked_of, drive_head, drive_line, go_head, go_line, keyed, line_key, mode_of, numbers_of, take_of}
use Rattle.cm_job.specs.Head.{before_commands, word_at}
use Rattle.cm_job.specs.RunLines.{AreRunLines, CanRun, HasLimits}
use Rattle.cm_job.specs.RunPart.{accepted, are_codes, directed, directed_sub, drive_of, is_directed, line_after, next_line, run_line, taken_line, values_of}
use Rattle.cm_job.specs.Sessions.{takes}
use Rattle.cm_job.specs.declared.asked.AskedLine.{AskedLine}
use Rattle.cm_job.specs.declared.asked.AskedLine.TheVariants as asks
use Rattle.cm_job.specs.declared.asked.Key.{Key}
use Rattle.cm_job.specs.declared.asked.Key.TheVariants as keys
use Rattle.cm_job.specs.declared.asked.Session.{Session}
use Rattle.cm_job.specs.declared.line.Access.{Access}
use Rattle.cm_job.specs.declared.line.Mode.{Mode}
use Rattle.cm_job.specs.declared.line.RunLine.{RunLine}
use Rattle.cm_job.specs.declared.line.RunLine.TheVariants.{Go, Drive}
use Rattle.cm_job.proofs.Steps.{IsTake, good-from, limited-from, number-from, numbers-some, same-ok, take-from, then-from}

-- what is asked is within the limits of its words
abbrev IsAsked : ℕ → AskedLine → Type 0
IsAsked horizon (asks.Go mode access t0 most cmd) = (t0 ≤ horizon) × IsTake most
IsAsked horizon (asks.Drive t0 numbers cmd) = (t0 ≤ horizon) × (1 ≤ length numbers)

head-from : (horizon : ℕ) (words : List (List ℕ)) (h : Mode × Access × ℕ × Option ℕ) → go_head horizon words ≡ Ok h → (h.2 ≤ horizon) × IsTake h.3
head-from horizon words h e =
    let w = then-from (before_commands 4 8 words) _ h e in
    let m = then-from (mode_of (word_at w.0 0)) _ h w.2 in
    let a = then-from (access_of (word_at w.0 1)) _ h m.2 in
    let t = then-from (number_in 0 horizon (word_at w.0 2)) _ h a.2 in
    let k = then-from (take_of (word_at w.0 3)) _ h t.2 in
    let time = number-from 0 horizon (word_at w.0 2) t.0 t.1 in
    let most = take-from (word_at w.0 3) k.0 k.1 in
    subst (λ (x : Mode × Access × ℕ × Option ℕ). (x.2 ≤ horizon) × IsTake x.3) (same-ok (m.0, a.0, t.0, k.0) h k.2) (time.1, most)

go-from : (bounds : Bounds) (line : LineText) (asked : AskedLine) → go_line bounds line ≡ Ok asked → IsAsked bounds.horizon asked
go-from bounds line asked e =
    let h = then-from (go_head bounds.horizon (drop 1 line.words)) _ asked e in
    let c = then-from (command_of (most_entries bounds.version) (drop 5 line.words)) _ asked h.2 in
    subst (IsAsked bounds.horizon) (same-ok (asks.Go h.0.0 h.0.1 h.0.2 h.0.3 c.0) asked c.2) (head-from bounds.horizon (drop 1 line.words) h.0 h.1)

drive-from : (bounds : Bounds) (line : LineText) (asked : AskedLine) → drive_line bounds line ≡ Ok asked → IsAsked bounds.horizon asked
drive-from bounds line asked e =
    let h = then-from (drive_head bounds.horizon (drop 1 line.words)) _ asked e in
    let n = then-from (numbers_of h.0.1) _ asked h.2 in
    let c = then-from (command_of (most_entries bounds.version) (drop 3 line.words)) _ asked n.2 in
    let w = then-from (before_commands 2 8 (drop 1 line.words)) _ h.0 h.1 in
    let t = then-from (number_in 0 bounds.horizon (word_at w.0 0)) _ h.0 w.2 in
    let time = number-from 0 bounds.horizon (word_at w.0 0) t.0 t.1 in
    let same : t.0 ≡ h.0.0 = ap (λ (x : ℕ × List ℕ). x.0) (same-ok (t.0, (word_at w.0 1)) h.0 t.2) in
    subst (IsAsked bounds.horizon) (same-ok (asks.Drive h.0.0 n.0 c.0) asked c.2) (subst (λ (k : ℕ). k ≤ bounds.horizon) same time.1, numbers-some h.0.1 n.0 n.1)

asked-from : (bounds : Bounds) (line : LineText) (asked : AskedLine) → asked_of bounds line ≡ Ok asked → IsAsked bounds.horizon asked
asked-from bounds line asked e =
    let k = then-from (line_key line) (keyed bounds line) asked e in
    by k.0 k.2
  where
    by : (key : Key) → keyed bounds line key ≡ Ok asked → IsAsked bounds.horizon asked
    by keys.Go said = go-from bounds line asked said
    by keys.Drive said = drive-from bounds line asked said

-- a subdevice that was found
record IsFound (board : BoardText) (out : Bool) (i : ℕ) (sub : SubText) : Type 0 where
  within : i < length board.subs
  directed : is_directed out sub ≡ true
  there : sub_at board i ≡ sub

found-from : (board : BoardText) (out : Bool) (i : ℕ) (sub : SubText) → directed_sub board out i ≡ Ok sub → IsFound board out i sub
found-from board out i sub e =
    let n = then-from (numbered_sub board i) (λ s. directed out s) sub e in
    let g = good-from (nat_lt i (length board.subs)) (sub_at board i) n.0 n.1 in
    let d = good-from (is_directed out n.0) n.0 sub n.2 in
    record { within = ltb-true i (length board.subs) g.0; directed = subst (λ (s : SubText). is_directed out s ≡ true) d.1 d.0; there = g.1 ∙ d.1 }

pub passed-from : (sub : SubText) (cmd next : CmdText) → passed sub cmd ≡ Ok next → ((tested sub cmd).0 ≡ 0) × (cmd ≡ next)
passed-from sub cmd next e =
    let g = good-from ((tested sub cmd).0 == 0) cmd next e in
    (eqb-true (tested sub cmd).0 0 g.0, g.1)

not-false : (b : Bool) → not b ≡ true → b ≡ false
not-false true e = absurd (cc)
not-false false e = refl

-- a command that was accepted
pub record IsAccepted (board : BoardText) (out : Bool) (cmd next : CmdText) : Type 0 where
  pub within : cmd.sub < length board.subs
  pub directed : is_output (sub_at board cmd.sub).kind ≡ out
  pub passes : (tested (sub_at board cmd.sub) cmd).0 ≡ 0
  pub same : cmd ≡ next

is-output : (out : Bool) (sub : SubText) → is_directed out sub ≡ true → is_output sub.kind ≡ out
is-output true sub e = e
is-output false sub e = not-false (is_output sub.kind) e

pub accepted-from : (board : BoardText) (out : Bool) (cmd next : CmdText) → accepted board out cmd ≡ Ok next → IsAccepted board out cmd next
accepted-from board out cmd next e =
    let d = then-from (directed_sub board out cmd.sub) (λ sub. passed sub cmd) next e in
    let f = found-from board out cmd.sub d.0 d.1 in
    let p = passed-from d.0 cmd next d.2 in
    record {
      within = f.within;
      directed = subst (λ (s : SubText). is_output s.kind ≡ out) (sym f.there) (is-output out d.0 f.directed);
      passes = subst (λ (s : SubText). (tested s cmd).0 ≡ 0) (sym f.there) p.0;
      same = p.1;
    }

-- a line whose command is accepted can be called, and has the limits of its form
abbrev pub IsCalled : BoardText → SignalsText → RunLine → Type 0
IsCalled board signals line = CanCall board signals line × HasLimits (sub_at board (cmd_of line).sub) line

go-called : (board : BoardText) (signals : SignalsText) (mode : Mode) (access : Access) (t0 : ℕ) (most : Option ℕ) (cmd : CmdText) (line : RunLine) → (t0 ≤ signals.horizon) × IsTake most →
    run_line board (asks.Go mode access t0 most cmd) ≡ Ok line → IsCalled board signals line
go-called board signals mode access t0 most cmd line asked e =
    let a = then-from (accepted board false cmd) (λ next. Ok (Go mode access t0 most next)) line e in
    let f = accepted-from board false cmd a.0 a.1 in
    let same : Go mode access t0 most cmd ≡ line = ap (Go mode access t0 most) f.same ∙ same-ok (Go mode access t0 most a.0) line a.2 in
    subst (IsCalled board signals) same (record { within = f.within; passes = f.passes; time = asked.0 }, (f.directed, asked.1))

drive-called : (board : BoardText) (signals : SignalsText) (t0 : ℕ) (numbers : List ℕ) (cmd : CmdText) (line : RunLine) → (t0 ≤ signals.horizon) × (1 ≤ length numbers) → drive_of board t0 numbers cmd ≡ Ok line → IsCalled board signals line
drive-called board signals t0 numbers cmd line asked e =
    let d = then-from (directed_sub board true cmd.sub) _ line e in
    let f = found-from board true cmd.sub d.0 d.1 in
    let q = then-from (passed d.0 cmd) _ line d.2 in
    let p = passed-from d.0 cmd q.0 q.1 in
    let v = then-from (values_of d.0 q.0 numbers) _ line q.2 in
    let l = limited-from (nat_le (length numbers) 1024 && are_codes d.0 q.0.list 0 numbers) numbers v.0 v.1 in
    let parts = and_parts (nat_le (length numbers) 1024) (are_codes d.0 q.0.list 0 numbers) l.0 in
    let few = leb-true (length numbers) 1024 parts.0 in
    let codes : are_codes (sub_at board cmd.sub) cmd.list 0 numbers ≡ true =
    ap (λ (s : SubText). are_codes s cmd.list 0 numbers) f.there ∙ ap (λ (c : CmdText). are_codes d.0 c.list 0 numbers) p.1 ∙ parts.1 in
    let same : Drive t0 numbers cmd ≡ line = ap (Drive t0 numbers) p.1 ∙ ap (λ (vs : List ℕ). Drive t0 vs q.0) l.1 ∙ same-ok (Drive t0 v.0 q.0) line v.2 in
    subst (IsCalled board signals) same (
      record { within = f.within; passes = subst (λ (s : SubText). (tested s cmd).0 ≡ 0) (sym f.there) p.0; time = asked.0 },
      (subst (λ (s : SubText). is_output s.kind ≡ true) (sym f.there) f.directed, asked.1, few, codes),
    )

line-called : (board : BoardText) (signals : SignalsText) (asked : AskedLine) (line : RunLine) → IsAsked signals.horizon asked → run_line board asked ≡ Ok line → IsCalled board signals line
line-called board signals (asks.Go mode access t0 most cmd) line asked e = go-called board signals mode access t0 most cmd line asked e
line-called board signals (asks.Drive t0 numbers cmd) line asked e = drive-called board signals t0 numbers cmd line asked e

-- what a session takes
pub record IsTaken (session : Session) (board : BoardText) (asked : AskedLine) (line : RunLine) : Type 0 where
  pub takes : takes session board asked ≡ true
  pub said : run_line board asked ≡ Ok line

pub taken-from : (session : Session) (board : BoardText) (asked : AskedLine) (line : RunLine) → taken_line session board asked ≡ Ok line → IsTaken session board asked line
taken-from session board asked line e = by (takes session board asked) refl e
  where
    by : (b : Bool) → takes session board asked ≡ b → (if b then run_line board asked else Err Bad) ≡ Ok line → IsTaken session board asked line
    by true is said = record { takes = is; said = said }
    by false is said = absurd (cc)

-- a line that is read can be called, and there are not too many before it
pub next-called : (session : Session) (board : BoardText) (signals : SignalsText) (count : ℕ) (line : LineText) (next : RunLine) → next_line session board (bounds_of board signals) count line ≡ Ok next → IsCalled board signals next × (count < 16)
next-called session board signals count line next e =
    let a = then-from (asked_of (bounds_of board signals) line) _ next e in
    let f = then-from (limited (nat_lt count 16) a.0) _ next a.2 in
    let l = limited-from (nat_lt count 16) a.0 f.0 f.1 in
    let t = taken-from session board f.0 next f.2 in
    (line-called board signals f.0 next (subst (IsAsked signals.horizon) l.1 (asked-from (bounds_of board signals) line a.0 a.1)) t.said, ltb-true count 16 l.0)

-- lines with one more that is read after them can be run
pub lines-more : (session : Session) (board : BoardText) (signals : SignalsText) (before : List RunLine) (number : ℕ) (line : LineText) (next : RunLine) → AreRunLines board signals before →
    at_line number (line_after session board signals before line) ≡ Ok next → AreRunLines board signals (before ++ next ∷ [])
lines-more session board signals before number line next so e =
    let said = at_line_ok number (line_after session board signals before line) next e in
    let n = then-from (next_line session board (bounds_of board signals) (length before) line) _ next said in
    let l = limited-from (has_room (length_of_all (plan_of board signals) before) (length_of (plan_of board signals n.0))) n.0 next n.2 in
    let parts = and_parts (nat_le (length_of (plan_of board signals n.0)) 1000000) (nat_le (length_of_all (plan_of board signals) before + length_of (plan_of board signals n.0)) 4000000) l.0 in
    let called = next-called session board signals (length before) line n.0 n.1 in
    let runs : CanRun board signals n.0 = record { call = called.0.0; limits = called.0.1; few = leb-true (length_of (plan_of board signals n.0)) 1000000 parts.0 } in
    let all = leb-true (length_of_all (plan_of board signals) before + length_of (plan_of board signals n.0)) 4000000 parts.1 in
    subst (λ (x : RunLine). AreRunLines board signals (before ++ x ∷ [])) l.1 (record {
      each = All-push (CanRun board signals) before n.0 so.each runs;
      few = omega (arith, length-append before (n.0 ∷ []), called.1);
      total = omega (arith, length-more (plan_of board signals) before n.0, all);
    })
