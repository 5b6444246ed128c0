-- Whole scans that a stream appends to a client's words.
use Rattle.std.specs.Prelude.{◌≡◌, ℕ, ◌+◌, ◌-◌, ◌*◌, ◌/◌, min, List, ◌++◌, map, slice_get, slice_set, Some}
use Rattle.cm_ring.specs.Samples.{piece}
use Rattle.cm_stream.specs.Stream.{Streaming, IsSameStream}
use Rattle.cm_stream.specs.Merging.{fixed, given_words, released_of}

-- the next whole scans, so many: all that a look at the munged count found,
-- of at most `most` samples; their words are appended and released
pub record HasAppended (count most : ℕ) (before after : List ℕ) (old new : Streaming) : Type 0 where
  pub same : IsSameStream old new
  pub looked : new.reader.part.munged_looks ≡ old.reader.part.munged_looks + 1
  pub found : new.reader.part.found ≡ old.reader.part.found
  pub scans : count ≡ min most (new.reader.part.known - old.reader.part.released) / old.n
  pub released : new.reader.part.released ≡ old.reader.part.released + count * old.n
  pub words : after ≡ before ++ piece old.reader.ring old.reader.part.released (count * old.n)

-- one source of a merge does so, and the others stay as they are; `more` are the words that it has given so
pub record HasAppendedOf (source count most : ℕ) (before after : List ℕ) (old new : List Streaming) : Type 0 where
  pub stream : Streaming
  pub later : Streaming
  pub had : slice_get old source ≡ Some stream
  pub set : new ≡ slice_set old source later
  pub appended : HasAppended count most before after stream later
  pub fixed : map fixed new ≡ map fixed old
  pub more : List ℕ
  pub words : after ≡ before ++ more
  pub given : map given_words new ≡ slice_set (map given_words old) source (given_words stream ++ more)

-- no source has released anything, and what no step changes of them stays
pub record HasReleasedNothing (old new : List Streaming) : Type 0 where
  pub released : map released_of new ≡ map released_of old
  pub fixed : map fixed new ≡ map fixed old
