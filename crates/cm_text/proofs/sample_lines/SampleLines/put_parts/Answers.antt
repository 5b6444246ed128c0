use Rattle.std.proofs.Common.{◌≡◌, ℕ, ◌+◌, ◌++◌, List, length, get_or, ap, ap₂, sym, ◌∙◌, subst, arith, append_assoc}
use Rattle.std.proofs.lemmas.Result.{on_ok_weaker}
use Rattle.std.proofs.lemmas.List.{get_or_append_left, get_or-append-add}
use Rattle.cm_text.specs.Format.{Format, IsSample, sample_lines}
use Rattle.cm_text.proofs.Joined.{lines-joined}
use Rattle.cm_text.proofs.sample_lines.SampleLines.put_parts.Goals as goal

pub put-requires : goal.put-requires
put-requires c = λ i below.
    let first = c.args.first.now in
    subst (IsSample c.args.self.now (c.args.place + i)) (get_or_append_left first c.args.rest.now 0 i below) (c.requires.codes i (omega (arith, below)))

pub put-requires-2 : goal.put-requires-2
put-requires-2 c = λ i below.
    let f : Format = c.args.self.now in
    let first = c.args.first.now in
    let word = subst (IsSample f (c.args.place + (length first + i))) (get_or-append-add first c.args.rest.now i 0) (c.requires.codes (length first + i) (omega (arith, below))) in
    let there : c.args.place + (length first + i) ≡ c.args.place + length first + i = omega arith in
    subst (λ (g : Format). IsSample g (c.args.place + length first + i) (get_or c.args.rest.now i 0)) (sym c.in_ok-put.ensures.format) (subst (λ (p : ℕ). IsSample f p (get_or c.args.rest.now i 0)) there word)

pub returns-clause-lines : goal.returns-clause-lines
returns-clause-lines c =
    let f : Format = c.args.self.now in
    let old = c.args.text.now.items in
    let first = c.args.first.now in
    let rest = c.args.rest.now in
    on_ok_weaker c.put-2.result (λ more.
    more
    ∙ ap₂ (λ (t : List ℕ) (g : Format). t ++ sample_lines g (c.args.place + length first) rest) c.in_ok-put.ensures.lines c.in_ok-put.ensures.format
    ∙ append_assoc old (sample_lines f c.args.place first) (sample_lines f (c.args.place + length first) rest)
    ∙ ap (λ (t : List ℕ). old ++ t) (sym (lines-joined f c.args.place first rest)))
    c.put-2.ensures.lines
