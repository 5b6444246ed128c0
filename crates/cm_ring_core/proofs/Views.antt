-- The ring's fields against what contracts see.
use Rattle.std.proofs.Common.{◌≡◌, ℕ, ◌+◌, ◌-◌, ◌%◌, ◌<◌, ◌≤◌, List, length, get_or, set, take, drop, refl, sym, ap, ap₂, ◌∙◌, arith, length-set}
use native.Mathlib.Nat.{mod-add-mod}
use Rattle.cm_ring_core.specs.Held.{held_at, stored_from}
use Rattle.cm_ring_core.specs.Local.{IsRing}
use Rattle.cm_ring_core.specs.LocalView.{ring_of, IsSoundRing}
use Rattle.cm_ring_core.specs.declared.local.LocalRing.TheInside.{Inside}
use Rattle.cm_ring_core.proofs.Cells.{length-held_at, get_or-held_at, Held-held_at, held_at-set, take-held_at, drop-held_at}
use Rattle.cm_sample.proofs.Mapped.{length-map_from}
use Rattle.cm_ring_core.proofs.Rings.{same_ring}
use Rattle.cm_ring_core.proofs.Stored.{held_at-stored_from, length-stored_from}
use Rattle.cm_ring_core.specs.Pushed.{munged_from, pushed}
use Rattle.cm_sample.specs.Rule.{munged_word}
use Rattle.std.specs.Vec.{with_item, with_items}
use Rattle.std.proofs.lemmas.List.{with_items_is}

-- the cell that is so many steps after the first one is that place's cell
pub place_cell : (size first r i cell : ℕ) → first ≡ r % size → cell ≡ (first + i) % size → cell ≡ (r + i) % size
place_cell size first r i cell at_first at_cell = at_cell ∙ ap (λ f. (f + i) % size) at_first ∙ mod-add-mod r size i

pub IsRing-ring_of : (l : Inside) → IsSoundRing l → IsRing (ring_of l)
IsRing-ring_of l s =
    let count = length-held_at l.cells.items (length l.cells.items) l.r (l.a - l.r) in
    record {
      rule = s.rule;
      nonempty = s.nonempty;
      small = s.small;
      its_cells = refl;
      r_ra = s.r_ra;
      ra_m = s.ra_m;
      m_w = s.m_w;
      w_a = s.w_a;
      room = s.room;
      count = omega arith;
      held = Held-held_at l.cells.items (length l.cells.items) l.r (l.a - l.r) (omega arith);
    }

-- a read of a place's cell gives its item
pub read_cell : (cells : List ℕ) (first r count i cell : ℕ) → first ≡ r % length cells → cell ≡ (first + i) % length cells → i < count →
    get_or cells cell 0 ≡ get_or (held_at cells (length cells) r count) i 0
read_cell cells first r count i cell at_first at_cell below =
    ap (λ k. get_or cells k 0) (place_cell (length cells) first r i cell at_first at_cell) ∙ sym (get_or-held_at cells (length cells) r count i 0 below)

-- a write into a place's cell changes its item alone
pub write_cell : (cells : List ℕ) (first r count i cell word : ℕ) → first ≡ r % length cells → cell ≡ (first + i) % length cells → i < count → count ≤ length cells →
    held_at (set cells cell word) (length (set cells cell word)) r count ≡ set (held_at cells (length cells) r count) i word
write_cell cells first r count i cell word at_first at_cell below fits =
    ap (λ size. held_at (set cells cell word) size r count) (length-set cells cell word)
    ∙ ap (λ k. held_at (set cells k word) (length cells) r count) (place_cell (length cells) first r i cell at_first at_cell)
    ∙ held_at-set cells (length cells) r count i word fits below refl

-- a write into a place's cell, as contracts see it
pub wrote : (l : Inside) → IsSoundRing l → (i p cell word : ℕ) → cell ≡ (l.first + i) % length l.cells.items → p ≡ l.r + i → i < l.a - l.r →
    ring_of (record l { cells = with_item l.cells cell word })
    ≡ record (ring_of l) { cells = set l.cells.items (p % length l.cells.items) word; held = set (ring_of l).held i word }
wrote l s i p cell word at_cell at_place below =
    let its_cells =
    ap (λ k. set l.cells.items k word) (place_cell (length l.cells.items) l.first l.r i cell s.first at_cell ∙ ap (λ k. k % length l.cells.items) (sym at_place))
    in
    let its_held = write_cell l.cells.items l.first l.r (l.a - l.r) i cell word s.first at_cell below (omega arith) in
    λ j. record (ring_of l) { size = length-set l.cells.items cell word j; cells = its_cells j; held = its_held j }

-- a longer ring still has its old samples
pub kept : (l : Inside) → IsSoundRing l → (n : ℕ) → take (length (ring_of l).held) (held_at l.cells.items (length l.cells.items) l.r (l.a + n - l.r)) ≡ (ring_of l).held
kept l s n =
    ap (λ k. take k (held_at l.cells.items (length l.cells.items) l.r (l.a + n - l.r))) (length-held_at l.cells.items (length l.cells.items) l.r (l.a - l.r))
    ∙ take-held_at l.cells.items (length l.cells.items) l.r (l.a - l.r) (l.a + n - l.r) (omega arith)

-- without its first samples the ring has the others
pub dropped : (l : Inside) → IsSoundRing l → (n : ℕ) → held_at l.cells.items (length l.cells.items) (l.r + n) (l.a - (l.r + n)) ≡ drop n (ring_of l).held
dropped l s n =
    ap (held_at l.cells.items (length l.cells.items) (l.r + n)) (omega arith) ∙ sym (drop-held_at l.cells.items (length l.cells.items) l.r (l.a - l.r) n)

-- words after all that is held, as contracts see the ring
pub grew : (l : Inside) → IsSoundRing l → l.m ≡ l.w → l.w ≡ l.a → (words cells : List ℕ) → l.a + length words ≤ l.r + length l.cells.items →
    cells ≡ stored_from l.cells.items (length l.cells.items) l.w (munged_from l.rule l.w words) →
    ring_of (record l { cells = with_items l.cells cells; m = l.w + length words; w = l.w + length words; a = l.w + length words }) ≡ pushed (ring_of l) words
grew l s m_w w_a words cells room stored =
    let old = l.cells.items in
    let count = l.a - l.r in
    let munged = munged_from l.rule l.w words in
    let here : l.w ≡ l.r + count = omega (arith, s.r_ra, s.ra_m) in
    let many : length munged ≡ length words = length-map_from (munged_word l.rule) l.w words in
    let longer : l.w + length words - l.r ≡ count + length munged = omega arith in
    let same : length cells ≡ length old = ap (length {A = ℕ}) stored ∙ length-stored_from old (length old) l.w munged in
    let items : (with_items l.cells cells).items ≡ cells = with_items_is l.cells cells (same ∙ sym l.cells.ok.0) in
    let its_size = ap (length {A = ℕ}) items ∙ same in
    let its_cells = items ∙ stored in
    same_ring _ _ refl its_size refl refl refl refl refl its_cells
    (ap₂ (λ cs n. held_at cs n l.r (l.w + length words - l.r)) its_cells its_size
    ∙ ap₂ (λ p n. held_at (stored_from old (length old) p munged) (length old) l.r n) here longer
    ∙ held_at-stored_from old (length old) l.r count munged refl (omega (arith, s.r_ra, s.ra_m)))
