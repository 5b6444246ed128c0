-- The sources of a trigger, one bit each, and their names.
use Rattle.std.specs.Prelude.{ℕ, Bool, ◌==◌, bit_and, List, [], ◌∷◌, codes, Option, Some, None, if◌then◌else◌}
use Rattle.std.specs.Str.{bytes_eq}

-- no trigger (Comedi: `TRIG_NONE`)
abbrev pub none : ℕ
none = 1

-- a trigger at once (Comedi: `TRIG_NOW`)
abbrev pub now : ℕ
now = 2

-- a trigger with the one before it (Comedi: `TRIG_FOLLOW`)
abbrev pub follow : ℕ
follow = 4

-- a trigger at a time (Comedi: `TRIG_TIME`)
abbrev pub time : ℕ
time = 8

-- a trigger by a timer (Comedi: `TRIG_TIMER`)
abbrev pub timer : ℕ
timer = 16

-- a trigger after a count (Comedi: `TRIG_COUNT`)
abbrev pub count : ℕ
count = 32

-- a trigger from outside (Comedi: `TRIG_EXT`)
abbrev pub ext : ℕ
ext = 64

-- a trigger by an instruction (Comedi: `TRIG_INT`)
abbrev pub int : ℕ
int = 128

-- a trigger of the board's own kind (Comedi: `TRIG_OTHER`)
abbrev pub other : ℕ
other = 256

-- the sources with their names, in rising order of their bits
abbrev pub source_names : List (ℕ × List ℕ)
source_names =
    ((none, codes "none") ∷ (now, codes "now") ∷ (follow, codes "follow") ∷ (time, codes "time")
    ∷ (timer, codes "timer") ∷ (count, codes "count") ∷ (ext, codes "ext") ∷ (int, codes "int")
    ∷ (other, codes "other") ∷ [])

-- the bit that stands with a name in such a list
abbrev pub bit_named : List (ℕ × List ℕ) → List ℕ → Option ℕ
bit_named [] name = None
bit_named (source ∷ more) name = if bytes_eq name source.1 then Some source.0 else bit_named more name

-- the bit of the source with this name
abbrev pub bit_of : List ℕ → Option ℕ
bit_of name = bit_named source_names name

-- the mask has all bits of a source
abbrev pub allows : ℕ → ℕ → Bool
allows mask src = bit_and src mask == src
