-- A session line by line.
use Rattle.std.proofs.Common.{◌≡◌, ℕ, zero, suc, ◌+◌, ◌<◌, ◌≤◌, List, [], ◌∷◌, length, get_or, map, drop, refl, sym, ap, ◌∙◌, subst, arith, Option, Some, None}
use Rattle.std.specs.List.{All}
use Rattle.std.proofs.lemmas.List.{drop_all, length-map, length-replicate}
use Rattle.cm_base.specs.Transfer.{IsUnderWay}
use Rattle.cm_base.proofs.Elements.{left-next}
use Rattle.cm_base.proofs.UnderWay.{under_way-more}
use Rattle.cm_cmd.specs.Command.{CmdText}
use Rattle.cm_signal.specs.Setting.{Setting}
use Rattle.cm_session.specs.Limits.{InOrder, IsLimited}
use Rattle.cm_session.specs.declared.op.SessionLine.{SessionLine}
use Rattle.cm_sub.specs.Claims.{nobody}
use Rattle.cm_replay.specs.Law.{Wiring, wiring_at}
use Rattle.cm_replay.specs.Ready.{CanMove, StaysReady}
use Rattle.cm_replay.specs.Replies.{AreMany, AreWhole, CanCome, CanReplay, CanStep, HasCome, Steps, tried_of}
use Rattle.cm_running.specs.Running.{Running}
use Rattle.cm_replay.specs.Session.{brought_all, step}
use Rattle.cm_replay.specs.State.{Device, State, at_start, idle_device}
use Rattle.cm_replay.specs.Texts.{step_text, texts_from}
use Rattle.cm_replay.proofs.Counts.{length-brought, step-claims, step-devices}
use Rattle.cm_replay.proofs.Readiness.{ready-at}
use Rattle.cm_replay.proofs.Wholes.{whole-brought, whole-step}

-- each line has its limits
limits-at : (horizon time : ℕ) (lines : List SessionLine) (i : ℕ) (line : SessionLine) → InOrder horizon time lines → i < length lines → line ≡ get_or lines i line → IsLimited horizon line
limits-at horizon time [] i line order within is = absurd (omega arith)
limits-at horizon time (x ∷ lines) zero line order within is = subst (IsLimited horizon) (sym is) order.1
limits-at horizon time (x ∷ lines) (suc i) line order within is = limits-at horizon x.time lines i line order.2 (omega arith) is

-- and its own trial
trial-at : (f : SessionLine → Option CmdText) (lines : List SessionLine) (i : ℕ) (line : SessionLine) (t : Option CmdText) → i < length lines → get_or (map f lines) i t ≡ f (get_or lines i line)
trial-at f [] i line t within = absurd (omega arith)
trial-at f (x ∷ lines) zero line t within = refl
trial-at f (x ∷ lines) (suc i) line t within = trial-at f lines i line t (omega arith)

-- and the session is ready for it
line-ready : (s : Setting) (lines : List SessionLine) (i : ℕ) (line : SessionLine) (state : State) → i < length lines → line ≡ get_or lines i line → StaysReady s state (drop i lines) → StaysReady s state (line ∷ drop (i + 1) lines)
line-ready s lines i line state within is ready = subst (StaysReady s state) (left-next lines i line within is) ready

-- where each line is reached, it can be done
pub can-step : (s : Setting) (lines : List SessionLine) (tried : List (Option CmdText)) (first : List Device) (state : State) (i : ℕ) (line : SessionLine) (t : Option CmdText) → CanReplay s lines tried first → AreMany s.board state.files state.devices →
    AreWhole s.board state.devices → StaysReady s state (drop i lines) → i < length lines → line ≡ get_or lines i line → t ≡ get_or tried i t → CanStep s line t (brought_all line.time state)
can-step s lines tried first state i line t can many whole ready within is its = record {
  limits = limits-at s.signals.horizon 0 lines i line can.job.is.lines within is;
  many = record { claims = many.claims ∙ sym (length-brought line.time state); places = length-brought line.time state ∙ many.places };
  few = omega (arith, length-brought line.time state, many.places, can.few);
  whole = whole-brought s.board line.time state.devices whole;
  ready = (line-ready s lines i line state within is ready).2;
  its_trial = its ∙ ap (λ (all : List (Option CmdText)). get_or all i t) can.trials ∙ trial-at (λ x. tried_of s.board x.op) lines i line t within ∙ ap (λ (x : SessionLine). tried_of s.board x.op) (sym is);
}

come-ready : (wiring : Wiring) (number time : ℕ) (running : Option Running) → CanMove wiring number time running → CanCome time running
come-ready wiring number time None ready = tt
come-ready wiring number time (Some c) ready = ready.come

-- each command can be brought to the next line's time
pub all-come : (s : Setting) (lines : List SessionLine) (state : State) (i : ℕ) (line : SessionLine) → StaysReady s state (drop i lines) → i < length lines → line ≡ get_or lines i line → All (HasCome line.time) state.devices
all-come s lines state i line ready within is k d there =
    come-ready (wiring_at s k) k line.time (get_or state.devices k d).running (ready-at s line.time state k d (line-ready s lines i line state within is ready).1 there)

-- one line more is answered
pub line-answered : (s : Setting) (a b : Option (List ℕ)) (lines : List SessionLine) (i : ℕ) (line : SessionLine) (state new : State) (text more whole : List ℕ) → i < length lines → line ≡ get_or lines i line → Steps (step s line state) new text more →
    IsUnderWay a b text (texts_from s state (drop i lines)) whole → IsUnderWay a b more (texts_from s new (drop (i + 1) lines)) whole
line-answered s a b lines i line state new text more whole within is made way =
    subst (λ (n : State). IsUnderWay a b more (texts_from s n (drop (i + 1) lines)) whole) (sym made.after)
    (under_way-more a b text more (step_text (step s line state)) (texts_from s (step s line state).state (drop (i + 1) lines)) whole made.reported
    (subst (λ (ls : List SessionLine). IsUnderWay a b text (texts_from s state ls) whole) (left-next lines i line within is) way))

-- after the last line nothing is left to answer
pub all-answered : (s : Setting) (state : State) (lines : List SessionLine) (i : ℕ) → length lines ≤ i → texts_from s state (drop i lines) ≡ []
all-answered s state lines i after = ap (λ (ls : List SessionLine). texts_from s state ls) (drop_all i lines after)

-- as many claims and places as subdevices, from the start on
pub many-start : (s : Setting) → AreMany s.board (at_start s).files (at_start s).devices
many-start s = record {
  claims = length-replicate (length s.board.subs) nobody ∙ sym (length-map s.board.subs idle_device);
  places = length-map s.board.subs idle_device;
}

-- what a line leaves
pub many-after : (s : Setting) (line : SessionLine) (state after : State) → after ≡ (step s line state).state → AreMany s.board state.files state.devices → AreMany s.board after.files after.devices
many-after s line state after is many =
    subst (λ (n : State). AreMany s.board n.files n.devices) (sym is)
    (record { claims = step-claims s line state ∙ many.claims ∙ sym (step-devices s line state); places = step-devices s line state ∙ many.places })

pub whole-after : (s : Setting) (line : SessionLine) (state after : State) → after ≡ (step s line state).state → AreWhole s.board state.devices → AreWhole s.board after.devices
whole-after s line state after is whole = subst (λ (n : State). AreWhole s.board n.devices) (sym is) (whole-step s line state whole)

pub ready-after : (s : Setting) (lines : List SessionLine) (i : ℕ) (line : SessionLine) (state after : State) → i < length lines → line ≡ get_or lines i line → after ≡ (step s line state).state → StaysReady s state (drop i lines) →
    StaysReady s after (drop (i + 1) lines)
ready-after s lines i line state after within at is ready = subst (λ (n : State). StaysReady s n (drop (i + 1) lines)) (sym is) (line-ready s lines i line state within at ready).3
