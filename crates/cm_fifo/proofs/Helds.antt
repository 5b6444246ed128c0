-- One conversion more in a FIFO.
use Rattle.std.proofs.Common.{◌≡◌, ℕ, suc, ◌+◌, ◌-◌, ◌≤◌, List, [], ◌∷◌, ◌++◌, length, drop, sym, ap, ap₂, ◌∙◌, subst, Some, arith, length-append}
use Rattle.std.specs.Prelude.{slice_get}
use Rattle.std.proofs.lemmas.List.{append_assoc}
use Rattle.std.proofs.lemmas.Option.{slice_get_within}
use Rattle.circular_buffer.specs.Buffer.{Buffer}
use Rattle.cm_expand.specs.Board.{BoardState}
use Rattle.cm_expand.specs.Items.{items_of}
use Rattle.cm_expand.specs.Taking.{come, left_of}
use Rattle.cm_expand.specs.declared.conv.Conv.{Conv}
use Rattle.cm_expand.proofs.Taking.{drop-found, drop-missing}
use Rattle.cm_expand.proofs.Come.{come-first}
use Rattle.cm_fifo.proofs.Lists.{come-append}
use Rattle.cm_fifo.specs.Held.{ahead, IsHeld, TookNone, TookOne}

-- what is ahead stays the same where the next conversion goes into the FIFO
same_more : (items cells : List Conv) (place : ℕ) (c : Conv) → slice_get items place ≡ Some c → (cells ++ c ∷ []) ++ drop (place + 1) items ≡ cells ++ drop place items
same_more items cells place c there =
    let later : place + 1 ≡ suc place = omega arith in
    append_assoc cells (c ∷ []) (drop (place + 1) items)
    ∙ ap (λ n. cells ++ c ∷ drop n items) later
    ∙ ap (λ left. cells ++ left) (sym (drop-found items place c there))

held_more : (board : BoardState) (cells : List Conv) (c : Conv) → IsHeld board cells → slice_get (items_of board.plan) board.place ≡ Some c → IsHeld (record board { place = board.place + 1 }) (cells ++ c ∷ [])
held_more board cells c h there =
    let more : length (cells ++ c ∷ []) ≡ length cells + 1 = length-append cells (c ∷ []) in
    let few = h.few in
    let same : board.place - length cells ≡ board.place + 1 - length (cells ++ c ∷ []) = omega arith in
    let within = slice_get_within (items_of board.plan) board.place c there in
    record {
      ahead_is = same_more (items_of board.plan) cells board.place c there ∙ h.ahead_is ∙ ap (λ q. drop q (items_of board.plan)) same;
      few = omega arith;
      within = omega arith;
    }

-- as the code has it
pub took_held : (c : Conv) (old new : BoardState) (cells cells' : Buffer Conv) → TookOne c old new cells cells' → IsHeld old cells.items → IsHeld new cells'.items
took_held c old new cells cells' took h =
    subst (λ (b : BoardState). IsHeld b cells'.items) (sym took.board_is) (subst (λ (x : Buffer Conv). IsHeld (record old { place = old.place + 1 }) x.items) (sym took.cells_are) (held_more old cells.items c h took.there))

pub took_same : (c : Conv) (old new : BoardState) (cells cells' : Buffer Conv) → TookOne c old new cells cells' → ahead new cells'.items ≡ ahead old cells.items
took_same c old new cells cells' took =
    ap₂ (λ (b : BoardState) (x : Buffer Conv). ahead b x.items) took.board_is took.cells_are ∙ same_more (items_of old.plan) cells.items old.place c took.there

pub took_length : (c : Conv) (old new : BoardState) (cells cells' : Buffer Conv) → TookOne c old new cells cells' → length cells'.items ≡ length cells.items + 1
took_length c old new cells cells' took = ap (λ (x : Buffer Conv). length x.items) took.cells_are ∙ length-append cells.items (c ∷ [])

pub took_room : (c : Conv) (old new : BoardState) (cells cells' : Buffer Conv) → TookOne c old new cells cells' → cells'.capacity ≡ cells.capacity
took_room c old new cells cells' took = ap (λ (x : Buffer Conv). x.capacity) took.cells_are

pub took_plan : (c : Conv) (old new : BoardState) (cells cells' : Buffer Conv) → TookOne c old new cells cells' → new.plan ≡ old.plan
took_plan c old new cells cells' took = ap (λ (b : BoardState). b.plan) took.board_is

-- where it has come by a time, all that is held still has
pub took_come : (t : ℕ) (c : Conv) (old new : BoardState) (cells cells' : Buffer Conv) → TookOne c old new cells cells' → come t cells.items ≡ length cells.items → c.time ≤ t → come t cells'.items ≡ length cells'.items
took_come t c old new cells cells' took all early =
    let one : come t (c ∷ []) ≡ 1 = come-first t c [] early in
    let more : come t (cells.items ++ c ∷ []) ≡ come t cells.items + come t (c ∷ []) = come-append t cells.items (c ∷ []) in
    let long : length (cells.items ++ c ∷ []) ≡ length cells.items + 1 = length-append cells.items (c ∷ []) in
    ap (λ (x : Buffer Conv). come t x.items) took.cells_are ∙ (let same : come t (cells.items ++ c ∷ []) ≡ length (cells.items ++ c ∷ []) = omega arith in same) ∙ ap (λ (x : Buffer Conv). length x.items) (sym took.cells_are)

-- where none was taken, none is left
pub none_left : (t : ℕ) (old new : BoardState) (cells cells' : Buffer Conv) → TookNone old new cells cells' → come t (left_of new) ≡ 0
none_left t old new cells cells' took = ap (λ (b : BoardState). come t (left_of b)) took.board_is ∙ ap (come t) (drop-missing (items_of old.plan) old.place took.none)
