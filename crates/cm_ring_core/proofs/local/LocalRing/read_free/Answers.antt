use Rattle.std.proofs.Common.{◌≡◌, ◌+◌, ◌%◌, length, drop, ap, ◌∙◌, arith}
use Rattle.cm_ring_core.proofs.Views.{dropped, place_cell}
use Rattle.cm_ring_core.specs.Local.{Ring}
use Rattle.cm_ring_core.specs.LocalView.{ring_of}
use Rattle.cm_ring_core.proofs.local.LocalRing.read_free.Goals as goal

pub invariant_of-self : goal.invariant_of-self
invariant_of-self c =
    let l = c.self.inside in
    let size : c.len.result ≡ length l.cells.items = omega arith in
    record {
      rule = c.self.invariant.rule;
      nonempty = c.self.invariant.nonempty;
      small = c.self.invariant.small;
      r_ra = omega arith;
      ra_m = c.self.invariant.ra_m;
      m_w = c.self.invariant.m_w;
      w_a = c.self.invariant.w_a;
      room = omega arith;
      first = place_cell (length l.cells.items) l.first l.r c.min-granted.result _ c.self.invariant.first
          (c.cell_after-self-inside.ensures.value ∙ ap (λ n. (l.first + c.min-granted.result) % n) size);
    }

pub returns-clause-after : goal.returns-clause-after
returns-clause-after c =
    let l = c.self.inside in
    ap (λ held. record (ring_of l) { r = l.r + c.min-granted.result; held = held }) (dropped l c.self.invariant c.min-granted.result)
    ∙ ap (λ (ring : Ring). record ring { r = ring.r + c.min-granted.result; held = drop c.min-granted.result ring.held }) c.self.view_is
