-- What a step and a take leave of a board with a FIFO.
use Rattle.std.proofs.Common.{◌≡◌, ℕ, ◌+◌, ◌-◌, ◌<◌, ◌≤◌, Bool, true, false, List, [], ◌∷◌, length, drop, sym, ap, ◌∙◌, subst, Option, Some, None, arith, drop-drop, length-drop}
use Rattle.std.specs.Prelude.{slice_get, IfSome}
use Rattle.std.proofs.lemmas.Option.{slice_get_within}
use Rattle.circular_buffer.specs.Buffer.{Buffer, buffer}
use Rattle.cm_board.specs.declared.board.Fifo.{Fifo}
use Rattle.cm_expand.specs.Board.{BoardState}
use Rattle.cm_expand.specs.Items.{items_of}
use Rattle.cm_expand.specs.Taking.{left_of}
use Rattle.cm_expand.specs.declared.conv.Conv.{Conv}
use Rattle.cm_fifo.specs.Held.{IsHeld}
use Rattle.cm_fifo.specs.State.{FifoState, IsFifo, ready_of}
use Rattle.cm_fifo.proofs.Lists.{get-append, get-drop}

-- one conversion less
less_held : (board : BoardState) (cells : List Conv) → IsHeld board cells → IsHeld board (drop 1 cells)
less_held board [] h = h
less_held board (x ∷ xs) h =
    let few = h.few in
    let place : board.place - length (x ∷ xs) + 1 ≡ board.place - length xs = omega arith in
    record {
      ahead_is = ap (drop 1) h.ahead_is ∙ drop-drop 1 (board.place - length (x ∷ xs)) (items_of board.plan) ∙ ap (λ n. drop n (items_of board.plan)) place;
      few = omega arith;
      within = h.within;
    }

less_counted : (place drains : ℕ) (cells : List Conv) → length cells ≤ place → drains ≤ place - length cells + length cells → drains ≤ place - length (drop 1 cells) + length (drop 1 cells)
less_counted place drains cells few most = omega (arith, length-drop 1 cells)

pub take_ok : (f : Fifo) (horizon : ℕ) (edge : Option ℕ) (board : BoardState) (cells cells' : Buffer Conv) (drains : ℕ) (is_ready : Bool) → IsFifo f horizon edge board cells drains is_ready → is_ready ≡ true → cells' ≡ buffer (drop 1 cells.items) cells.capacity →
    IsFifo f horizon edge board cells' drains is_ready
take_ok f horizon edge board cells cells' drains false is ready e = absurd (cc)
take_ok f horizon edge board cells cells' drains true is ready e =
    let filled = is.filled in
    subst (λ (b : Buffer Conv). IsFifo f horizon edge board b drains true) (sym e) (record {
      filled = record {
        held = less_held board cells.items filled.held;
        size = filled.size;
        room = filled.room;
        few = omega (arith, filled.few, length-drop 1 cells.items);
        horizon_is = filled.horizon_is;
        edge_is = filled.edge_is;
      };
      early = λ not. absurd (cc);
      counted = less_counted board.place drains cells.items filled.held.few is.counted;
    })

-- as contracts see it
abbrev pub state_of : Fifo → BoardState → List Conv → ℕ → Bool → Bool → FifoState
state_of f board cells drains is_ready is_over = record {
  plan = board.plan;
  fifo = f;
  drains = drains;
  taken = board.place - length cells;
  ready = ready_of is_ready cells;
  over = is_over;
}

-- the first one that is held is the next of the expansion
first_held : (board : BoardState) (cells : List Conv) (c : Conv) → IsHeld board cells → slice_get cells 0 ≡ Some c → slice_get (items_of board.plan) (board.place - length cells) ≡ Some c
first_held board cells c h e =
    let place : board.place - length cells + 0 ≡ board.place - length cells = omega arith in
    ap (slice_get (items_of board.plan)) (sym place)
    ∙ sym (get-drop (board.place - length cells) (items_of board.plan) 0)
    ∙ ap (λ (xs : List Conv). slice_get xs 0) (sym h.ahead_is)
    ∙ get-append cells (left_of board) 0 (slice_get_within cells 0 c e)
    ∙ e

pub take_says : (f : Fifo) (horizon : ℕ) (edge : Option ℕ) (board : BoardState) (cells cells' : Buffer Conv) (drains : ℕ) (is_ready is_over : Bool) → IsFifo f horizon edge board cells drains is_ready → is_ready ≡ true → cells' ≡ buffer (drop 1 cells.items) cells.capacity →
    (o : Option Conv) → o ≡ slice_get cells.items 0 → (old : FifoState) → state_of f board cells.items drains is_ready is_over ≡ old →
    IfSome o (λ conv. (0 < old.ready) × (slice_get (items_of old.plan) old.taken ≡ Some conv) × (state_of f board cells'.items drains is_ready is_over ≡ record old { taken = old.taken + 1; ready = old.ready - 1 }))
take_says f horizon edge board cells cells' drains false is_over is ready e o o_is old view = absurd (cc)
take_says f horizon edge board cells cells' drains true is_over is ready e None o_is old view = tt
take_says f horizon edge board cells cells' drains true is_over is ready e (Some conv) o_is old view =
    let held = is.filled.held in
    let few = held.few in
    let some : 0 < length cells.items = slice_get_within cells.items 0 conv (sym o_is) in
    let fewer : length cells'.items ≡ length cells.items - 1 = ap (λ (b : Buffer Conv). length b.items) e ∙ length-drop 1 cells.items in
    let one_taken : board.place - length cells'.items ≡ board.place - length cells.items + 1 = omega arith in
    let P : FifoState → Type 0 = λ t. (0 < t.ready) × (slice_get (items_of t.plan) t.taken ≡ Some conv) × (state_of f board cells'.items drains true is_over ≡ record t { taken = t.taken + 1; ready = t.ready - 1 }) in
    subst P view (some, first_held board cells.items conv held (sym o_is), λ i. record { plan = board.plan; fifo = f; drains = drains; taken = one_taken i; ready = fewer i; over = is_over })
