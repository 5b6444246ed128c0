-- What contracts see of a stream, and what each keeps.
use Rattle.std.specs.Prelude.{◌≡◌, ℕ, ◌-◌, ◌%◌, ◌≤◌, ◌==◌, min, Bool, true, false, ◌⊎◌, Option, Some, None}
use Rattle.cm_ring_core.specs.declared.view.End.{End}
use Rattle.cm_ring_core.specs.Lawful.{IsFoundEnd}
use Rattle.cm_ring.specs.Roles.{Reading, IsReading}

-- a stream as contracts see it: how many samples a scan has, and its reader
pub record Streaming : Type 0 where
  pub n : ℕ
  pub reader : Reading

-- a stream by its fields
abbrev pub streaming : ℕ → Reading → Streaming
streaming n reader = record { n = n; reader = reader }

-- how many words the next scan has: n, or what is left where an end was found
abbrev pub wanted : ℕ → ℕ → Option End → ℕ
wanted n released None = n
wanted n released (Some e) = min n (e.count - released)

-- how many words a stream's next scan has
abbrev pub want_of : Streaming → ℕ
want_of s = wanted s.n s.reader.part.released s.reader.part.found

-- all samples before a place were given in whole scans, or it is the count of the end that was found
abbrev pub IsCut : ℕ → ℕ → Option End → Type 0
IsCut n released found = (released % n ≡ 0) ⊎ ((e : End) × (found ≡ Some e) × (e.count ≡ released))

-- what a stream keeps, beside the end that it has found
pub record IsStream (s : Streaming) (found : Option End) : Type 0 where
  pub some : 1 ≤ s.n
  pub fits : s.n ≤ s.reader.ring.size
  pub places : IsReading s.reader
  pub found_is : s.reader.part.found ≡ found
  pub known : (e : End) → s.reader.part.found ≡ Some e → s.reader.part.known ≤ e.count
  pub cut : IsCut s.n s.reader.part.released s.reader.part.found
  pub says : (e : End) → s.reader.part.found ≡ Some e → IsFoundEnd s.reader.ring s.reader.part e.kind e.count

-- whether an end was found and all samples up to its count are released
abbrev pub is_released : ℕ → Option End → Bool
is_released released None = false
is_released released (Some e) = e.count == released

-- whether a stream has found its end and released all up to it
abbrev pub is_over : Streaming → Bool
is_over s = is_released s.reader.part.released s.reader.part.found

-- an end was found, it says what it may, and all samples up to its count are released
pub record IsOver (s : Streaming) : Type 0 where
  pub end : End
  pub found : s.reader.part.found ≡ Some end
  pub count : end.count ≡ s.reader.part.released
  pub says : IsFoundEnd s.reader.ring s.reader.part end.kind end.count

-- the same ring in scans of the same size, and no stop asked in between
pub record IsSameStream (old new : Streaming) : Type 0 where
  pub n : new.n ≡ old.n
  pub table : new.reader.table ≡ old.reader.table
  pub ring : new.reader.ring ≡ old.reader.ring
  pub asked : new.reader.part.asked ≡ old.reader.part.asked

-- a stream whose ring's writer was asked to stop
abbrev pub asked_stream : Streaming → Streaming
asked_stream s = record s { reader = record s.reader { part = record s.reader.part { asked = true } } }
