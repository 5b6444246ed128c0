-- What one client reads of many streams.
use Rattle.std.specs.Prelude.{◌≡◌, ℕ, ◌+◌, ◌<◌, List, length, map, slice_get, slice_index, slice_set, true, Some}
use Rattle.std.specs.List.{All}
use Rattle.cm_client.specs.Progress.{Accepts}
use Rattle.cm_text.specs.SampleText.{CanReport, LinesText, lines_of, with_lines}
use Rattle.cm_stream.specs.Stream.{Streaming, IsOver}
use Rattle.cm_stream.specs.Merging.{Fixed, IsPacedOn, fixed, given_words, plan_of}
use Rattle.cm_text.specs.Format.{Format}
use Rattle.cm_watch.specs.declared.client.Watched.{Watched}

-- more samples can be reported after those of one source
pub record CanPut (source : ℕ) (words : List ℕ) (texts : List LinesText) : Type 0 where
  pub text : LinesText
  pub there : slice_get texts source ≡ Some text
  pub report : (i : ℕ) → i < length words → CanReport text (text.count + i) (slice_index words i)

-- their lines stand after those of this source
pub record HasPut (source : ℕ) (words : List ℕ) (old new : List LinesText) : Type 0 where
  pub text : LinesText
  pub there : slice_get old source ≡ Some text
  pub set : new ≡ slice_set old source (with_lines text words)

-- the lines are those of all samples that a stream has given, and each of its samples can be reported
pub record HasLines (t : LinesText) (s : Streaming) : Type 0 where
  pub lines : t ≡ lines_of t.format (given_words s)
  pub report : Accepts (CanReport t) s.reader.ring

-- streams of paced rings whose stop wasn't asked for, and the lines of what each has given
pub record AreRead (streams : List Streaming) (texts : List LinesText) : Type 0 where
  pub paced : All IsPacedOn streams
  pub count : length texts ≡ length streams
  pub each : (i : ℕ) (t : LinesText) (s : Streaming) → slice_get texts i ≡ Some t → slice_get streams i ≡ Some s
      → HasLines t s

-- how the samples of some lines are reported
abbrev pub text_format : LinesText → Format
text_format t = t.format

-- the same rings in the same scans, and lines of the same formats
pub record AreSame (first now : List Streaming) (before after : List LinesText) : Type 0 where
  pub streams : map fixed now ≡ map fixed first
  pub formats : map text_format after ≡ map text_format before

-- each stream has asked its ring's writer to stop
abbrev pub AreStopped : List Streaming → Type 0
AreStopped streams = All (λ s. s.reader.part.asked ≡ true) streams

-- what no step changes of a stream, once it has asked for the stop
abbrev pub asked_fixed : Streaming → Fixed
asked_fixed s = record (fixed s) { asked = true }

-- the same rings in the same scans, each of which was asked for the stop
abbrev pub HaveAsked : List Streaming → List Streaming → Type 0
HaveAsked first now = map fixed now ≡ map asked_fixed first

-- all streams have been read to their ends, and what each has given is its whole plan
pub record HasWatched (first now : List Streaming) (before after : List LinesText) : Type 0 where
  pub read : AreRead now after
  pub same : AreSame first now before after
  pub over : All IsOver now
  pub whole : map given_words now ≡ map plan_of now

-- the same of a client with its streams and its lines
abbrev pub HasWatchedAll : {P : Type 0} → Watched P → Watched P → Type 0
HasWatchedAll first now = HasWatched first.merge.streams now.merge.streams first.texts.items now.texts.items
