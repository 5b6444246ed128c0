use Rattle.std.proofs.Common.{rules, ◌≡◌, ◌++◌, ℕ, List, OnOk, sym, ap, ◌∙◌, subst}
use Rattle.cm_text.specs.declared.kept.KeptLine.{KeptLine}
use Rattle.cm_text.proofs.Entries.{kept_at, set_kept}
use Rattle.cm_text.proofs.kept.put_kept_line.Goals as goal

pub returns-then-eq-clause-line : goal.returns-then-eq-clause-line
returns-then-eq-clause-line c =
    let own = c.index-kept-index.result in
    let is = kept_at c.args.format.now c.args.kept.now c.args.index own c.requires.kept c.requires.index c.index-kept-index.is c.args.word (search rules) in
    subst (λ (l : List ℕ). OnOk c.add.result (c.add.new.text.items ++ c.add.new.self ≡ (c.args.text.now.items ++ c.args.gathered.now) ++ l)) (ap (λ (k : KeptLine). k.line) (sym c.index-kept-index.is) ∙ is) c.add.ensures

pub returns-else-eq-clause-kept : goal.returns-else-eq-clause-kept
returns-else-eq-clause-kept c = set_kept c.args.format.now c.args.kept.now c.args.index c.put_new_line.new.kept c.requires.kept c.put_new_line.ensures.kept
