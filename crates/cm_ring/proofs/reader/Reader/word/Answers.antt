use Rattle.std.proofs.Common.{◌+◌, ◌<◌, ap, arith}
use Rattle.cm_ring_core.proofs.Views.{place_cell}
use Rattle.cm_ring.specs.Roles.{Reading}
use Rattle.cm_ring.proofs.Readers.{word_fits, word_is}
use Rattle.cm_ring.proofs.reader.Reader.word.Goals as goal

pub overflow_cast-result : goal.overflow_cast-result
overflow_cast-result g c =
    let s = c.self.invariant in
    let few = ap (λ (x : Reading). x.mapped) c.self.view_is in
    let mapped = c.requires in
    let here = place_cell c.self.inside.size c.self.inside.cell c.self.inside.released c.args.i _ s.cell_is c.cell_after-cell.ensures.value in
    let h : c.load_cell.result < 4294967296 = word_fits _ _ c.self.inside.seat c.load_cell.new.seat _ _ _ _ _ _ s c.args.i _ _ (omega arith) (ap (λ n. n + 5) here) c.load_cell.ensures.gives in
    omega arith

pub returns-clause-word : goal.returns-clause-word
returns-clause-word g c =
    let s = c.self.invariant in
    let few = ap (λ (x : Reading). x.mapped) c.self.view_is in
    let mapped = c.requires in
    let here = place_cell c.self.inside.size c.self.inside.cell c.self.inside.released c.args.i _ s.cell_is c.cell_after-cell.ensures.value in
    word_is _ _ c.self.inside.seat c.load_cell.new.seat _ _ _ _ _ _ s c.args.i _ _ (omega arith) (ap (λ n. n + 5) here) c.load_cell.ensures.gives c.args.self.now c.self.view_is
