-- A text in blocks.
use Rattle.std.specs.Prelude.{ℕ, List}
use Rattle.std.specs.List.{flat_map}
use Rattle.std.specs.declared.vec.Vec.{Vec}

-- the bytes of the blocks, one block after another
abbrev pub joined : {Z : Type 0} → List (Vec ℕ Z) → List ℕ
joined blocks = flat_map (λ block. block.items) blocks
