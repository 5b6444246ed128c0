use Rattle.std.proofs.Common.{◌≡◌, false, set, take, ap, ◌∙◌}
use Rattle.std.proofs.lemmas.List.{take-map}
use Rattle.cm_sub.specs.Claims.{claim_without}
use Rattle.cm_sub.specs.Files.{closed}
use Rattle.cm_sub.specs.FilesView.{files_text}
use Rattle.cm_sub.proofs.files.Files.close.Goals as goal

pub returns : goal.returns
returns c =
    let here : files_text (record c.self.inside { opened = set c.self.inside.opened c.args.f false; claims = c.give_up.new.claims }) ≡ closed c.args.f (files_text c.self.inside) =
    λ i. record {
      are_open = set c.self.inside.opened c.args.f false;
      claims = (ap (take c.self.inside.subs) c.give_up.ensures ∙ take-map (claim_without c.args.f) c.self.inside.subs c.self.inside.claims) i;
    } in
    here ∙ ap (closed c.args.f) c.self.view_is
