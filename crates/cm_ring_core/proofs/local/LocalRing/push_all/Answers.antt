use Rattle.std.proofs.Common.{◌≡◌, ℕ, ◌+◌, ◌-◌, ◌%◌, List, length, sym, ap, ap₂, ◌∙◌, arith}
use Rattle.cm_ring_core.specs.Held.{stored_from}
use Rattle.cm_ring_core.specs.Local.{Ring}
use Rattle.cm_ring_core.specs.Pushed.{munged_from, pushed}
use Rattle.cm_ring_core.proofs.Views.{grew, place_cell}
use Rattle.cm_ring_core.proofs.local.LocalRing.push_all.Goals as goal

pub store_around-requires-clause-cell : goal.store_around-requires-clause-cell
store_around-requires-clause-cell c =
    let l = c.self.inside in
    let size : c.len.result ≡ length l.cells.items = omega arith in
    let its_r = ap (λ (ring : Ring). ring.r) c.self.view_is in
    let its_w = ap (λ (ring : Ring). ring.w) c.self.view_is in
    let here : l.r + (l.w - l.r) ≡ l.w = omega (arith, c.self.invariant.r_ra, c.self.invariant.ra_m, c.self.invariant.m_w) in
    place_cell (length l.cells.items) l.first l.r (l.w - l.r) c.cell_after-cell.result c.self.invariant.first
    (c.cell_after-cell.ensures.value ∙ ap (λ n. (l.first + (l.w - l.r)) % n) size)
    ∙ ap₂ (λ p (cells : List ℕ). p % length cells) here (sym c.as_mut_slice.ensures.value)

pub returns : goal.returns
returns c =
    let l = c.self.inside in
    let words = c.args.words.now in
    let m_w = c.requires.level.m_w in
    let w_a = c.requires.level.w_a in
    let its_m = ap (λ (ring : Ring). ring.m) c.self.view_is in
    let its_w = ap (λ (ring : Ring). ring.w) c.self.view_is in
    let its_a = ap (λ (ring : Ring). ring.a) c.self.view_is in
    let its_r = ap (λ (ring : Ring). ring.r) c.self.view_is in
    let its_size = ap (λ (ring : Ring). ring.size) c.self.view_is in
    let room = c.requires.room in
    grew l c.self.invariant (omega arith) (omega arith) words c.store_around.new.cells (omega arith)
    (c.store_around.ensures ∙ ap (λ (cells : List ℕ). stored_from cells (length cells) l.w (munged_from l.rule l.w words)) c.as_mut_slice.ensures.value)
    ∙ ap (λ (ring : Ring). pushed ring words) c.self.view_is
