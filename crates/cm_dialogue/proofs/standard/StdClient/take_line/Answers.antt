use Rattle.std.proofs.Common.{◌-◌, List, ℕ, ap, refl, take, drop, inl, inr}
use Rattle.cm_dialogue.proofs.FirstLine.{Taken}
use Rattle.cm_dialogue.proofs.Outside.{moved-by}
use Rattle.cm_dialogue.proofs.standard.StdClient.take_line.Goals.{then-ended, else-ended}
use Rattle.cm_dialogue.proofs.standard.StdClient.take_line.Goals as goal

pub returns-clause-moved : goal.returns-clause-moved
returns-clause-moved g c =
    let inside = c.self.inside in
    let rest : List ℕ = take (inside.to - inside.from) (drop inside.from c.deref.result.now) in
    let taken : Taken c.first_line-part.result.now rest c.if-ended.self = elim c.if-ended.branch [
      | then-ended w ↦ inl (w.if-ended.true, w.self-is)
      | else-ended w ↦ inr (w.if-ended.false, w.self-is)
    ] in
    moved-by c.args.self.now _ _ c.args.line.now.items c.extend_from_slice.new.self.items c.first_line-part.result.now rest inside.piece.items inside.from inside.to c.if-ended.self c.self.view_is
    c.self.invariant.0 c.self.invariant.1 (ap (λ (bytes : List ℕ). take (inside.to - inside.from) (drop inside.from bytes)) c.deref.ensures.value) c.first_line-part.ensures c.in_ok-extend_from_slice.ensures.items
    refl refl refl taken
