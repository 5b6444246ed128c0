use Rattle.std.proofs.Common.{◌≡◌, ◌++◌, ◌∷◌, decimal, drop, flat_map}
use Rattle.cm_board_text.proofs.divisors.put_more.Given as goal

-- the numbers so far, and those that are left
abbrev pub invariant-loop-number : goal.invariant-loop-number
invariant-loop-number l =
    l.initial.out.items ++ flat_map (λ n. 44 ∷ decimal n) l.list
    ≡ l.out.items ++ flat_map (λ n. 44 ∷ decimal n) (drop l.number-index l.list)
