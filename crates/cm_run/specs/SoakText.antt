-- The text of a soak.
use Rattle.std.specs.Prelude.{ℕ, ◌+◌, List, [], ◌∷◌, ◌++◌, codes}
use Rattle.std.specs.Fmt.{decimal}
use Rattle.cm_run.specs.declared.soak.part.Part.{Part}

-- the line of a subdevice
abbrev pub part_line : ℕ → Part → List ℕ
part_line i part =
    codes "soak " ++ decimal i ++ codes " " ++ decimal part.count ++ codes " " ++ decimal part.sum ++ codes " done\n"

-- the lines of subdevices, which are counted from this one on
abbrev pub part_lines : ℕ → List Part → List ℕ
part_lines first [] = []
part_lines first (part ∷ parts) = part_line first part ++ part_lines (first + 1) parts

-- the lines of the subdevices, and that of the whole
abbrev pub summary_text : ℕ → List Part → List ℕ
summary_text n parts = part_lines 0 parts ++ (codes "total " ++ decimal n ++ codes "\n")
