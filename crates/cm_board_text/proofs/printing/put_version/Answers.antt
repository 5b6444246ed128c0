use Rattle.std.proofs.Common.{◌≡◌, ℕ, List, [], ◌∷◌, ◌++◌, Bool, true, cond, codes, decimal, OnOk, subst, sym, ◌∙◌, arith}
use Rattle.std.proofs.lemmas.Fmt.{decimal_digit}
use Rattle.cm_base.specs.WrittenLines.{written_line}
use Rattle.cm_board.specs.Versions.{is_wide}
use Rattle.cm_board_text.proofs.printing.put_version.Goals as goal

pub returns-then-is_wide : goal.returns-then-is_wide
returns-then-is_wide c =
    let wide : is_wide c.args.version ≡ true = sym c.is_wide.ensures ∙ c.if-is_wide.true in
    let first : List (List ℕ) = codes "comedi" ∷ decimal c.args.version ∷ [] in
    subst (λ (b : Bool). OnOk c.put_one.result (c.put_one.new.out.items ≡ c.args.out.now.items ++ written_line (cond b (codes "zendrouz" ∷ codes "1" ∷ []) first)))
    (sym wide)
    (subst (λ (one : List ℕ). OnOk c.put_one.result (c.put_one.new.out.items ≡ c.args.out.now.items ++ written_line (codes "zendrouz" ∷ one ∷ [])))
    (decimal_digit 1 (omega arith)) c.put_one.ensures)
