use Rattle.std.proofs.Common.{◌+◌, ◌≡◌, ap, ◌∙◌, arith}
use Rattle.cm_ring.specs.Roles.{Writing}
use Rattle.cm_client.proofs.Served.{more_handed}
use Rattle.cm_client.proofs.boarding.publish.Goals as goal
use Rattle.cm_client.proofs.boarding.publish.Goals.{then-fresh-gt0, else-fresh-gt0}

pub returns-clause-way : goal.returns-clause-way
returns-clause-way g c =
    let all : c.if-fresh-gt0.writer.part.written ≡ c.args.writer.now.part.written + c.args.fresh = elim c.if-fresh-gt0.branch [
      | then-fresh-gt0 w ↦ (let e = ap (λ (x : Writing). x.part.written) (w.writer-is ∙ w.publish.ensures) in let n = c.requires.fresh in omega arith)
      | else-fresh-gt0 w ↦ (let e = ap (λ (x : Writing). x.part.written) w.writer-is in let n = w.if-fresh-gt0.false in omega arith)
    ] in
    λ start from had. more_handed _ _ _ _ _ _ _ _ _ had c.hand_on.ensures.way all
