use Rattle.std.proofs.Common.{◌≡◌, ◌+◌, ◌-◌, ◌<◌, ◌++◌, List, ℕ, length, take, drop, refl, sym, subst, ap, ap₂, ◌∙◌, arith, mod-lt}
use Rattle.cm_ring_core.specs.Local.{Ring}
use Rattle.cm_ring_core.proofs.Cells.{take-held_at}
use Rattle.cm_ring_core.proofs.Stored.{held_at-around}
use Rattle.cm_ring_core.proofs.local.LocalRing.granted.Goals as goal

pub returns : goal.returns
returns c =
    let l = c.self.inside in
    let cells = l.cells.items in
    let s = c.self.invariant in
    let count = l.ra - l.r in
    let run = c.min-run.result in
    let size : c.len.result ≡ length cells = omega arith in
    let within : l.first < length cells = subst (λ f. f < length cells) (sym s.first) (mod-lt l.r (omega (arith, s.nonempty))) in
    let alone : l.first + run - l.first ≡ run = omega arith in
    ap (λ n. take n (drop l.first c.deref.result.now) ++ take (count - run) c.deref-2.result.now) alone
    ∙ ap₂ (λ (xs ys : List ℕ). take run (drop l.first xs) ++ take (count - run) ys) c.deref.ensures.value c.deref-2.ensures.value
    ∙ held_at-around cells (length cells) l.r l.first count run refl s.first within (omega (arith, s.ra_m, s.m_w, s.w_a, s.room)) (omega arith)
    ∙ sym (take-held_at cells (length cells) l.r count (l.a - l.r) (omega (arith, s.ra_m, s.m_w, s.w_a)))
    ∙ ap (λ (ring : Ring). take (ring.ra - ring.r) ring.held) c.self.view_is
