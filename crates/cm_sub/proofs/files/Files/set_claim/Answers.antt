use Rattle.std.proofs.Common.{◌≡◌, ◌<◌, set, ap, ◌∙◌, rules}
use Rattle.std.proofs.Math.Seq.{take-set-lt}
use Rattle.cm_sub.specs.Files.{with_claim}
use Rattle.cm_sub.specs.FilesView.{files_text}
use Rattle.cm_sub.proofs.files.Files.set_claim.Goals as goal

pub returns : goal.returns
returns c =
    let there : c.args.sub < c.self.inside.subs = search rules in
    let here : files_text (record c.self.inside { claims = set c.self.inside.claims c.args.sub c.args.claim }) ≡ with_claim c.args.claim c.args.sub (files_text c.self.inside) =
    λ i. record {
      are_open = c.self.inside.opened;
      claims = take-set-lt c.self.inside.subs c.self.inside.claims c.args.sub c.args.claim there i;
    } in
    here ∙ ap (with_claim c.args.claim c.args.sub) c.self.view_is
