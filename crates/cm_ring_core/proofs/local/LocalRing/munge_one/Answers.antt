use Rattle.std.proofs.Common.{◌≡◌, ◌+◌, ◌-◌, ◌%◌, length, get_or, set, ap, subst, ◌∙◌, arith}
use Rattle.std.proofs.lemmas.Grind.{get_or_default_zero}
use Rattle.cm_ring_core.proofs.Views.{IsRing-ring_of, read_cell, wrote}
use Rattle.cm_ring_core.proofs.CutLaws.{munge_local}
use Rattle.cm_ring_core.specs.Local.{Ring, IsRing}
use Rattle.cm_ring_core.specs.LocalView.{ring_of}
use Rattle.cm_sample.specs.Rule.{munged_word}
use Rattle.cm_ring_core.proofs.local.LocalRing.munge_one.Goals as goal

pub returns-clause-after : goal.returns-clause-after
returns-clause-after c =
    let l = c.self.inside in
    let size : c.len.result ≡ length l.cells.items = omega arith in
    let from_m = ap (λ (ring : Ring). ring.m) c.self.view_is in
    let to_w = ap (λ (ring : Ring). ring.w) c.self.view_is in
    let i = l.m - l.r in
    let cell : c.cell_after-cell.result ≡ (l.first + i) % length l.cells.items = c.cell_after-cell.ensures.value ∙ ap (λ n. (l.first + i) % n) size in
    let read =
    c.index.ensures ∙ get_or_default_zero l.cells.items c.cell_after-cell.result c.index.result.now (omega arith)
    ∙ read_cell l.cells.items l.first l.r (l.a - l.r) i c.cell_after-cell.result c.self.invariant.first cell (omega arith)
    in
    let munged = c.apply-word.ensures ∙ ap (munged_word l.rule l.m) read in
    ap (λ (ring : Ring). record ring { m = l.m + 1 })
    (wrote l c.self.invariant i l.m c.cell_after-cell.result c.apply-word.result cell (omega arith) (omega arith)
    ∙ ap (λ word. record (ring_of l) { cells = set l.cells.items (l.m % length l.cells.items) word; held = set (ring_of l).held i word }) munged)
    ∙ ap (λ (ring : Ring). record ring {
      m = ring.m + 1;
      cells = set ring.cells (ring.m % ring.size) (munged_word ring.rule ring.m (get_or ring.held (ring.m - ring.r) 0));
      held = set ring.held (ring.m - ring.r) (munged_word ring.rule ring.m (get_or ring.held (ring.m - ring.r) 0));
    }) c.self.view_is

pub returns-clause-cut : goal.returns-clause-cut
returns-clause-cut c = munge_local _ _ (subst IsRing c.self.view_is (IsRing-ring_of c.self.inside c.self.invariant)) c.requires (returns-clause-after c)
