use Rattle.std.proofs.Common.{◌≡◌, ℕ, ◌%◌, ◌<◌, ◌++◌, List, OnOk, length, sym, ap, ◌∙◌, subst}
use Rattle.std.proofs.Math.Nat.{mod-lt}
use Rattle.cm_text.specs.Format.{Format, IsSample, sample_line}
use Rattle.cm_text.proofs.Entries.{same_line, same_sample}
use Rattle.cm_text.proofs.sample_lines.SampleLines.put_one.Goals as goal

pub put-requires-clause-code : goal.put-requires-clause-code
put-requires-clause-code c =
    let f : Format = c.self.inside.format in
    let at : c.args.place % c.entries.result ≡ c.args.place % length f.list = ap (λ (k : ℕ). c.args.place % k) c.entries.ensures.count in
    let low : c.args.place % c.entries.result < length f.list = subst (λ (k : ℕ). c.args.place % c.entries.result < k) c.entries.ensures.count (mod-lt c.args.place c.entries.ensures.some) in
    same_sample f c.args.place (c.args.place % c.entries.result) at low c.args.word (subst (λ (g : Format). IsSample g c.args.place c.args.word) (sym c.self.view_is) c.requires)

pub returns : goal.returns
returns c =
    let f : Format = c.self.inside.format in
    let at : c.args.place % c.entries.result ≡ c.args.place % length f.list = ap (λ (k : ℕ). c.args.place % k) c.entries.ensures.count in
    let low : c.args.place % c.entries.result < length f.list = subst (λ (k : ℕ). c.args.place % c.entries.result < k) c.entries.ensures.count (mod-lt c.args.place c.entries.ensures.some) in
    subst (λ (l : List ℕ). OnOk c.put.result (c.put.new.text.items ≡ c.args.text.now.items ++ l))
    (same_line f c.args.place (c.args.place % c.entries.result) at low c.args.word ∙ ap (λ (g : Format). sample_line g c.args.place c.args.word) c.self.view_is)
    c.put.ensures
