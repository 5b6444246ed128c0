use Rattle.std.proofs.Common.{◌≡◌, ℕ, ◌<◌, ◌++◌, List, OnOk, length, sym, ap, ◌∙◌, subst}
use Rattle.cm_text.specs.Format.{Format, sample_line}
use Rattle.cm_text.specs.LineFormat.{format_view}
use Rattle.cm_text.proofs.Scaled.{line-scaled, scale_at}
use Rattle.cm_text.proofs.line_format.LineFormat.put.Goals as goal

pub returns : goal.returns
returns c =
    let f : Format = format_view c.self.inside in
    let scale = c.index.result.now in
    let within : c.args.index < length f.list = subst (λ (g : Format). c.args.index < length g.list) (sym c.self.view_is) c.requires.index in
    let its = scale_at f c.self.inside.scales.items c.args.index scale c.self.invariant.scales within c.index.ensures in
    subst (λ (l : List ℕ). OnOk c.append_to.result (c.append_to.new.out.items ≡ c.args.text.now.items ++ l))
    (c.put_line.ensures ∙ line-scaled f scale c.args.index c.args.word within its ∙ ap (λ (g : Format). sample_line g c.args.index c.args.word) c.self.view_is)
    c.append_to.ensures.ok
