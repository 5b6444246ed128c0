-- A text that stands several times.
use Rattle.std.specs.Prelude.{ℕ, zero, suc, List, [], ◌++◌}

-- a text so many times, one after another
abbrev pub repeated : ℕ → List ℕ → List ℕ
repeated zero text = []
repeated (suc times) text = text ++ repeated times text
