-- Before the wider texts no line is about counters or rounding.
use Rattle.std.proofs.Common.{◌≡◌, ℕ, ◌<◌, ◌≤◌, Bool, true, false, ◌&&◌, List, [], ◌∷◌, map, length, not, refl, sym, ap, ◌∙◌, nat_le, arith}
use Rattle.std.specs.List.{list_all}
use Rattle.std.proofs.lemmas.Bool.Decides.{nat_tests}
use Rattle.cm_base.proofs.Bools.{both}
use Rattle.cm_board.specs.Board.{IsBlock, IsSaid, IsSaidSub, SubText}
use Rattle.cm_board.specs.BoardTable.{board_rows}
use Rattle.cm_board.specs.Items.{ItemText}
use Rattle.cm_board.specs.Rows as rows
use Rattle.cm_board.specs.Rules.{admits}
use Rattle.cm_board.specs.Said.{counters_in, first_of, first_or, head_of, name_at, way_named}
use Rattle.cm_board.specs.Slots.{is_empty, of_row}
use Rattle.cm_board.specs.Table.{may_stand, row_at}
use Rattle.cm_board.specs.declared.table.Head.{Head}
use Rattle.cm_board_text.specs.NarrowBoards.{NarrowBoardsRoundByFlags}
use Rattle.cm_board_text.proofs.Shapes.{own_lands, row_stands}
use Rattle.cm_board_text.proofs.SoundRows.{AreGood}

is_said : (s : SubText) → IsSaidSub s → IsSaid s
unfolding IsBlock
is_said s h = h.block

-- no line stands in a block that may have none
none_stand : (b : Bool) (xs : List ItemText) → b ≡ false → list_all (λ (item : ItemText). b) xs ≡ true → xs ≡ []
none_stand b [] e h = refl
none_stand b (x ∷ xs) e h = let yes = (both b (list_all (λ (item : ItemText). b) xs) h).0 in cc

-- a row of the wider texts has no line before them
none_narrow : (head : Head) (items : List ItemText) (n : ℕ) → AreGood head items → head.version ≤ 2 → n < length board_rows → (row_at n board_rows).since ≡ 3 → of_row n items ≡ []
none_narrow head items n good narrow below since =
    none_stand (may_stand head (row_at n board_rows)) (of_row n items) never (row_stands head n n (own_lands n below) items good)
  where
    later : nat_le (row_at n board_rows).since head.version ≡ false
    later = ap (λ (k : ℕ). nat_le k head.version) since ∙ (let old : nat_le 3 head.version ≡ false = grind (arith, nat_tests) in old)

    never : may_stand head (row_at n board_rows) ≡ false
    never = ap (λ b. b && admits (row_at n board_rows).place head.kind) later

pub narrow : NarrowBoardsRoundByFlags
narrow sub h old =
    let said : IsSaid sub = is_said sub h in
    let good : AreGood (head_of sub) sub.block = said.whole.good in
    let clock = none_narrow (head_of sub) sub.block rows.clock good old (omega arith) refl in
    let rounds = none_narrow (head_of sub) sub.block rows.rounds good old (omega arith) refl in
    let half = none_narrow (head_of sub) sub.block rows.half_down good old (omega arith) refl in
    record {
      counters =
          sym (ap (λ (s : SubText). s.timers.clock) said.says)
          ∙ ap (λ (xs : List ItemText). first_or [] (map (λ (item : ItemText). counters_in item.values) xs)) clock;
      rounding =
          sym (ap (λ (s : SubText). s.rounding) said.says)
          ∙ (λ i. record {
            own = first_of (map (λ (item : ItemText). way_named (name_at 0 item.values)) (rounds i));
            half_down = not (is_empty (half i));
          });
    }
