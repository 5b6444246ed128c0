-- What whole scans that one source appends mean for what each has given.
use Rattle.std.proofs.Common.{◌≡◌, ℕ, ◌*◌, List, ◌++◌, map, set, refl, ap, ◌∙◌, Some, Result, Ok, Err, OnErr}
use Rattle.std.specs.Prelude.{slice_get, slice_set}
use Rattle.std.proofs.Math.Seq.{take-add}
use Rattle.std.proofs.lemmas.List.{map-set}
use Rattle.cm_ring_core.specs.declared.view.RingConstants.{RingConstants}
use Rattle.cm_ring.specs.Samples.{munged_plan, first_munged, piece}
use Rattle.cm_stream.specs.Appended.{HasAppended, HasAppendedOf, HasReleasedNothing}
use Rattle.cm_stream.specs.Merging.{fixed, given_words, released_of}
use Rattle.cm_stream.specs.Stream.{Streaming, IsSameStream}
use Rattle.cm_stream.proofs.Merged.{fixed_same, set_alike}

-- a stream has given the words that it appended after those before
given_more : (count most : ℕ) (before after : List ℕ) (a b : Streaming) → HasAppended count most before after a b
    → given_words b ≡ given_words a ++ piece a.reader.ring a.reader.part.released (count * a.n)
given_more count most before after a b h =
    let from : ℕ = a.reader.part.released in
    ap (λ (ring : RingConstants). first_munged ring b.reader.part.released) h.same.ring
    ∙ (ap (λ (n : ℕ). first_munged a.reader.ring n) h.released ∙ take-add from (count * a.n) (munged_plan a.reader.ring))

pub appended_of : (source count most : ℕ) (before after : List ℕ) (old : List Streaming) (a b : Streaming) → slice_get old source ≡ Some a → HasAppended count most before after a b
    → HasAppendedOf source count most before after old (slice_set old source b)
appended_of source count most before after old a b had h = record {
  stream = a;
  later = b;
  had = had;
  set = refl;
  appended = h;
  fixed = set_alike fixed old source a b had (fixed_same a b h.same);
  more = piece a.reader.ring a.reader.part.released (count * a.n);
  words = h.words;
  given = map-set given_words old source b ∙ ap (set (map given_words old) source) (given_more count most before after a b h);
}

-- want of memory at one source leaves them all
pub released_nothing : {X E : Type 0} (r : Result X E) (source : ℕ) (old : List Streaming) (a b : Streaming) → slice_get old source ≡ Some a → IsSameStream a b → OnErr r (released_of b ≡ released_of a)
    → OnErr r (HasReleasedNothing old (slice_set old source b))
released_nothing (Ok x) source old a b had same lack = tt
released_nothing (Err e) source old a b had same lack = record {
  released = set_alike released_of old source a b had lack;
  fixed = set_alike fixed old source a b had (fixed_same a b same);
}
