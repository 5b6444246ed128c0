-- What a loop job keeps that was read.
use Rattle.std.proofs.Common.{◌≡◌, ℕ, ◌≤◌, Bool, true, false, length, Result, Ok, Err, refl, subst}
use Rattle.std.specs.Prelude.{◌&&◌, ◌==◌, not, if◌then◌else◌, take, drop}
use Rattle.std.proofs.lemmas.Bool.{and_parts, eqb-true, leb-true}
use Rattle.cm_base.specs.Lines.{LineText}
use Rattle.cm_base.specs.Words.{number_in}
use Rattle.cm_base.specs.declared.faults.Fault.{Fault}
use Rattle.cm_base.specs.declared.faults.Fault.TheVariants.{Bad, Limit}
use Rattle.cm_board.specs.Board.{BoardText}
use Rattle.cm_board.specs.Versions.{most_entries}
use Rattle.cm_cmd.specs.Command.{CmdText}
use Rattle.cm_cmd.specs.CommandText.{command_of}
use Rattle.cm_expand.specs.Items.{items_of}
use Rattle.cm_expand.specs.Rule.{is_raw}
use Rattle.cm_signal.specs.Bounds.{bounds_of}
use Rattle.cm_signal.specs.Signals.{SignalsText}
use Rattle.cm_signal.specs.declared.bounds.Bounds.{Bounds}
use Rattle.cm_job.proofs.Kept.{accepted-from}
use Rattle.cm_job.proofs.Steps.{number-from, same-ok, then-from}
use Rattle.cm_job.specs.RunPart.{accepted}
use Rattle.cm_job.specs.Head.{before_commands, word_at}
use Rattle.cm_job.specs.LoopForms.{after_loop, asked_of, loop_head}
use Rattle.cm_job.specs.LoopJob.{IsCalled, IsLoopJob}
use Rattle.cm_job.specs.Later.{are_later}
use Rattle.cm_job.specs.LoopPart.{called_of, input_at, is_matched, is_short, job_of, loop_line, output_at, ruled}
use Rattle.cm_job.specs.declared.loop_asked.AskedLoop.{AskedLoop}
use Rattle.cm_job.specs.declared.loop_line.LoopLine.{LoopLine}

-- the times and the window are within their limits
pub record IsAsked (horizon : ℕ) (a : AskedLoop) : Type 0 where
  pub t_in : a.t_in ≤ horizon
  pub t_out : a.t_out ≤ horizon
  pub window : (1 ≤ a.window) × (a.window ≤ 16)

IsHead : ℕ → ℕ × ℕ × ℕ → Type 0
IsHead horizon h = (h.0 ≤ horizon) × (h.1 ≤ horizon) × (1 ≤ h.2) × (h.2 ≤ 16)

head-from : (horizon : ℕ) (line : LineText) (h : ℕ × ℕ × ℕ) → loop_head horizon line ≡ Ok h → IsHead horizon h
unfolding IsHead
head-from horizon line h e =
    let k = then-from (after_loop line) _ h e in
    let w = then-from (before_commands 3 16 k.0) _ h k.2 in
    let i = then-from (number_in 0 horizon (word_at w.0 0)) _ h w.2 in
    let o = then-from (number_in 0 horizon (word_at w.0 1)) _ h i.2 in
    let n = then-from (number_in 1 16 (word_at w.0 2)) _ h o.2 in
    let t_in = number-from 0 horizon (word_at w.0 0) i.0 i.1 in
    let t_out = number-from 0 horizon (word_at w.0 1) o.0 o.1 in
    let window = number-from 1 16 (word_at w.0 2) n.0 n.1 in
    subst (IsHead horizon) (same-ok (i.0, o.0, n.0) h n.2) (t_in.1, t_out.1, window.0, window.1)

pub asked-from : (bounds : Bounds) (line : LineText) (a : AskedLoop) → asked_of bounds line ≡ Ok a → IsAsked bounds.horizon a
unfolding IsHead
asked-from bounds line a e =
    let h = then-from (loop_head bounds.horizon line) _ a e in
    let i = then-from (command_of (most_entries bounds.version) (take 8 (drop 4 line.words))) _ a h.2 in
    let o = then-from (command_of (most_entries bounds.version) (drop 12 line.words)) _ a i.2 in
    let head = head-from bounds.horizon line h.0 h.1 in
    let made : AskedLoop = record { t_in = h.0.0; t_out = h.0.1; window = h.0.2; input = i.0; output = o.0 } in
    let is : IsAsked bounds.horizon made = record { t_in = head.0; t_out = head.1; window = (head.2, head.3) } in
    subst (IsAsked bounds.horizon) (same-ok made a o.2) is

-- both commands of a line can be called
pub record AreCalled (board : BoardText) (signals : SignalsText) (a : AskedLoop) (line : LoopLine) : Type 0 where
  pub input : IsCalled board signals false line.t_in line.input
  pub output : IsCalled board signals true line.t_out line.output
  pub window : a.window ≡ line.window

call-from : (board : BoardText) (signals : SignalsText) (out : Bool) (t0 : ℕ) (cmd next : CmdText) → t0 ≤ signals.horizon → accepted board out cmd ≡ Ok next → IsCalled board signals out t0 next
call-from board signals out t0 cmd next time e =
    let f = accepted-from board out cmd next e in
    subst (IsCalled board signals out t0) f.same (record { within = f.within; directed = f.directed; passes = f.passes; time = time })

pub called-from : (board : BoardText) (signals : SignalsText) (a : AskedLoop) (line : LoopLine) → a.t_in ≤ signals.horizon → a.t_out ≤ signals.horizon → called_of board a ≡ Ok line → AreCalled board signals a line
called-from board signals a line t_in t_out e =
    let i = then-from (accepted board false a.input) _ line e in
    let o = then-from (accepted board true a.output) _ line i.2 in
    let made : LoopLine = record { t_in = a.t_in; t_out = a.t_out; window = a.window; input = i.0; output = o.0 } in
    let is : AreCalled board signals a made = record {
      input = call-from board signals false a.t_in a.input i.0 t_in i.1;
      output = call-from board signals true a.t_out a.output o.0 t_out o.1;
      window = refl;
    } in
    subst (AreCalled board signals a) (same-ok made line o.2) is

-- a line that keeps the rules over both commands
record IsRuled (board : BoardText) (signals : SignalsText) (line next : LoopLine) : Type 0 where
  matched : is_matched line ≡ true
  short : (is_short (input_at board signals line) && is_short (output_at board signals line)) ≡ true
  later : are_later (items_of (input_at board signals line)) (items_of (output_at board signals line)) ≡ true
  same : line ≡ next

-- which of three questions has which answer
three-yes : (a b c : Bool) (line next : LoopLine) →
    (let r : Result LoopLine Fault = if not a then Err Bad else (if not b then Err Limit else (if c then Ok line else Err Bad)) in r) ≡ Ok next →
    (a ≡ true) × (b ≡ true) × (c ≡ true) × (line ≡ next)
three-yes true true true line next e = (refl, refl, refl, same-ok line next e)
three-yes true true false line next e = absurd (cc)
three-yes true false c line next e = absurd (cc)
three-yes false b c line next e = absurd (cc)

ruled-from : (board : BoardText) (signals : SignalsText) (line next : LoopLine) → ruled board signals line ≡ Ok next → IsRuled board signals line next
ruled-from board signals line next e =
    let y = three-yes (is_matched line) (is_short (input_at board signals line) && is_short (output_at board signals line)) (are_later (items_of (input_at board signals line)) (items_of (output_at board signals line))) line next e in
    record { matched = y.0; short = y.1; later = y.2; same = y.3 }

not-true : (b : Bool) → not b ≡ true → b ≡ false
not-true true e = absurd (cc)
not-true false e = refl

-- a line that is read makes a loop job
pub loop-from : (board : BoardText) (signals : SignalsText) (line : LineText) (next : LoopLine) → loop_line board signals line ≡ Ok next → IsLoopJob (job_of board signals next)
loop-from board signals line next e =
    let a = then-from (asked_of (bounds_of board signals) line) _ next e in
    let asked = asked-from (bounds_of board signals) line a.0 a.1 in
    let l = then-from (called_of board a.0) (λ x. ruled board signals x) next a.2 in
    let c = called-from board signals a.0 l.0 asked.t_in asked.t_out l.1 in
    let r = ruled-from board signals l.0 next l.2 in
    let m = and_parts (not (is_raw l.0.input.flags) && not (is_raw l.0.output.flags)) (length l.0.input.list == length l.0.output.list) r.matched in
    let raw = and_parts (not (is_raw l.0.input.flags)) (not (is_raw l.0.output.flags)) m.0 in
    let s = and_parts (is_short (input_at board signals l.0)) (is_short (output_at board signals l.0)) r.short in
    let is : IsLoopJob (job_of board signals l.0) = record {
      input = record { call = c.input; munged = not-true (is_raw l.0.input.flags) raw.0; few = leb-true (length (items_of (input_at board signals l.0))) 1000000 s.0 };
      output = record { call = c.output; munged = not-true (is_raw l.0.output.flags) raw.1; few = leb-true (length (items_of (output_at board signals l.0))) 1000000 s.1 };
      window = subst (λ (w : ℕ). (1 ≤ w) × (w ≤ 16)) c.window asked.window;
      lists = eqb-true (length l.0.input.list) (length l.0.output.list) m.1;
      later = r.later;
    } in
    subst (λ (x : LoopLine). IsLoopJob (job_of board signals x)) r.same is
