use Rattle.std.proofs.Common.{◌≡◌, ℕ, ◌+◌, ◌-◌, ◌≤◌, List, ◌++◌, length, drop, ap, ap₂, ◌∙◌, arith, rules, length-drop}
use Rattle.std.proofs.lemmas.List.{drop-drop}
use Rattle.cm_base.proofs.Written.{end_of_copied}
use Rattle.cm_base.proofs.short.Short.word.Goals as goal

after : (at n : ℕ) (bytes : List ℕ) → 8 ≤ at → n ≡ 8 → drop (at - 8 + (at - 8 + n - (at - 8))) bytes ≡ drop at bytes
after at n bytes room long = let same : at - 8 + (at - 8 + n - (at - 8)) ≡ at = omega arith in ap (λ (i : ℕ). drop i bytes) same

pub returns-clause-text : goal.returns-clause-text
returns-clause-text c =
    let at : ℕ = c.self.inside.at in
    let bytes : List ℕ = c.self.inside.bytes in
    let s = ap length c.self.view_is in
    let l = length-drop at bytes in
    let room : 8 ≤ at = omega (arith, s, l) in
    let long : length c.args.eight.now ≡ 8 = search (rules, c.told-eight) in
    end_of_copied (at - 8) c.args.from bytes c.copy_from_slice.new.self _ (omega (arith, s, l)) (omega (arith, long, ap length c.copy_from_slice.ensures.after))
    ∙ ap₂ (λ (x y : List ℕ). drop c.args.from x ++ y) c.copy_from_slice.ensures.after
    (drop-drop (at - 8 + length c.args.eight.now - (at - 8)) (at - 8) bytes ∙ after at (length c.args.eight.now) bytes room long ∙ c.self.view_is)
