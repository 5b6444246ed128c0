-- What the client of many streams has read of them.
use Rattle.std.proofs.Common.{◌≡◌, inl, inr, ℕ, ◌+◌, ◌<◌, List, [], ◌++◌, length, length-append, map, set, get_or, refl, sym, ap, ◌∙◌, subst, Some, arith}
use Rattle.std.specs.Prelude.{slice_get, option_map}
use Rattle.std.specs.List.{All}
use Rattle.std.proofs.Math.ListN.{get_or-map, length-map}
use Rattle.std.proofs.lemmas.List.{get_or-append-add, length-set, map-set}
use Rattle.std.proofs.lemmas.Option.{slice_get-map, slice_get_within}
use Rattle.cm_client.specs.Progress.{Accepts}
use Rattle.cm_text.specs.SampleText.{CanReport, LinesText, lines_of, with_lines}
use Rattle.cm_text.proofs.Joined.{lines_more}
use Rattle.cm_client.proofs.Accepted.{given_accepted}
use Rattle.cm_stream.specs.Scans.{ScanText}
use Rattle.cm_stream.specs.Stream.{Streaming}
use Rattle.cm_stream.specs.Appended.{HasAppendedOf}
use Rattle.cm_stream.specs.Merging.{HasMerged, IsPacedOn, Fixed, fixed, given_words}
use Rattle.cm_stream.specs.declared.merge.MergeStep.TheVariants as merged
use Rattle.cm_watch.specs.Watched.{AreRead, AreSame, CanPut, HasLines, HasPut, HasWatched, text_format}
use Rattle.cm_base.proofs.Elements.{only, same_at, same_or_not, set_elsewhere, set_here, set_same, there}

-- what no step changes of a stream at a place
fixed_at : (old new : List Streaming) → map fixed new ≡ map fixed old → (k : ℕ) (d : Streaming) → fixed (get_or new k d) ≡ fixed (get_or old k d)
fixed_at old new same k d = sym (get_or-map fixed new k d) ∙ ap (λ (l : List Fixed). get_or l k (fixed d)) same ∙ get_or-map fixed old k d

as_many : (old new : List Streaming) → map fixed new ≡ map fixed old → length new ≡ length old
as_many old new same = sym (length-map new fixed) ∙ (ap (length {A = Fixed}) same ∙ length-map old fixed)

-- a paced ring whose stop wasn't asked for stays one
paced_on : (old new : List Streaming) → map fixed new ≡ map fixed old → All IsPacedOn old → All IsPacedOn new
paced_on old new same paced k d within =
    let e = fixed_at old new same k d in
    let count = as_many old new same in
    let was = paced k d (omega arith) in
    (ap (λ (f : Fixed). f.ring.paced) e ∙ was.0, ap (λ (f : Fixed). f.asked) e ∙ was.1)

module _ (t : LinesText) (s new : Streaming) (has : HasLines t s) (ring : new.reader.ring ≡ s.reader.ring) where
  -- a stream that has given no more
  still_lines : given_words new ≡ given_words s → HasLines t new
  still_lines given = record {
    lines = has.lines ∙ ap (lines_of t.format) (sym given);
    report = subst (Accepts (CanReport t)) (sym ring) has.report;
  }

  -- a stream that has given more
  has_more : (words : List ℕ) → given_words new ≡ given_words s ++ words → HasLines (with_lines t words) new
  has_more words given = record {
    lines = ap (λ (x : LinesText). with_lines x words) has.lines ∙ (lines_more t.format (given_words s) words ∙ ap (lines_of t.format) (sym given));
    report = subst (Accepts (CanReport t)) (sym ring) has.report;
  }

  -- each sample that it gives then can be reported
  can_report : (words : List ℕ) → given_words new ≡ given_words s ++ words → (i : ℕ) → i < length words → CanReport t (t.count + i) (get_or words i 0)
  can_report words given i below =
      let g = given_words s in
      let long : length (given_words new) ≡ length g + length words = ap (λ (l : List ℕ). length l) given ∙ length-append g words in
      let place : length g + i ≡ t.count + i = sym (ap (λ (x : LinesText). x.count + i) has.lines) in
      let word : get_or (given_words new) (length g + i) 0 ≡ get_or words i 0 = ap (λ (l : List ℕ). get_or l (length g + i) 0) given ∙ get_or-append-add g words i 0 in
      let may = given_accepted new.reader.ring (CanReport t) (subst (Accepts (CanReport t)) (sym ring) has.report) new.reader.part.released (given_words new) refl (length g + i) (omega (arith, below, long)) in
      subst (λ (n : ℕ). CanReport t n (get_or words i 0)) place (subst (CanReport t (length g + i)) word may)

-- a step of streams of which the lines so far are made
module _ (old new : List Streaming) (texts : List LinesText) (read : AreRead old texts) (same : map fixed new ≡ map fixed old) where
  -- the stream at a place was one of the same ring
  was_at : (i : ℕ) (s : Streaming) → slice_get new i ≡ Some s → (x : Streaming) × (slice_get old i ≡ Some x) × (s.reader.ring ≡ x.reader.ring)
  was_at i s here = let x = same_at fixed fixed old new i s (sym same) here in (x.0, x.1, sym (ap (λ (f : Fixed). f.ring) x.2))

  given_at : (streams : List Streaming) (i : ℕ) (s : Streaming) → slice_get streams i ≡ Some s → slice_get (map given_words streams) i ≡ Some (given_words s)
  given_at streams i s here = slice_get-map given_words streams i ∙ ap (option_map given_words) here

  -- a step in which no stream gives anything
  pub still_read : map given_words new ≡ map given_words old → AreRead new texts
  still_read given = record {
    paced = paced_on old new same read.paced;
    count = read.count ∙ sym (as_many old new same);
    each = λ i t s text here.
        let x = was_at i s here in
        let kept : given_words s ≡ given_words x.0 = only _ _ _ (given_at new i s here) (ap (λ (l : List (List ℕ)). slice_get l i) given ∙ given_at old i x.0 x.1) in
        still_lines t x.0 s (read.each i t x.0 text x.1) x.2 kept;
  }

  -- a step in which one stream gives more
  module _ (source : ℕ) (had words : List ℕ) (there_is : slice_get (map given_words old) source ≡ Some had) (given : map given_words new ≡ set (map given_words old) source (had ++ words)) where
    within : source < length old
    within = let w = slice_get_within (map given_words old) source had there_is in omega (arith, length-map old given_words)

    after_at : (s x : Streaming) → slice_get new source ≡ Some s → slice_get old source ≡ Some x → given_words s ≡ given_words x ++ words
    after_at s x here was =
        let is : given_words s ≡ had ++ words = set_here (map given_words old) source (had ++ words) (given_words s) (ap (λ (l : List (List ℕ)). slice_get l source) (sym given) ∙ given_at new source s here) in
        is ∙ ap (λ (l : List ℕ). l ++ words) (only _ _ _ there_is (given_at old source x was))

    pub can_put : CanPut source words texts
    can_put =
        let s = there new source (let n = as_many old new same in let w = within in omega arith) in
        let x = was_at source s.0 s.1 in
        let t = there texts source (let n = read.count in let w = within in omega arith) in
        record {
          text = t.0;
          there = t.1;
          report = can_report t.0 x.0 s.0 (read.each source t.0 x.0 t.1 x.1) x.2 words (after_at s.0 x.0 s.1 x.1);
        }

    module _ (more : List LinesText) (put : HasPut source words texts more) where
      each_more : (i : ℕ) (t : LinesText) (s : Streaming) → slice_get more i ≡ Some t → slice_get new i ≡ Some s → HasLines t s
      each_more i t s text here = elim (same_or_not i source) [
        | inl e ↦
            let here_is : slice_get new source ≡ Some s = subst (λ (n : ℕ). slice_get new n ≡ Some s) e here in
            let x = was_at source s here_is in
            let text_is : t ≡ with_lines put.text words = set_here texts source _ t (ap (λ (l : List LinesText). slice_get l source) (sym put.set) ∙ subst (λ (n : ℕ). slice_get more n ≡ Some t) e text) in
            subst (λ (z : LinesText). HasLines z s) (sym text_is) (has_more put.text x.0 s (read.each source put.text x.0 put.there x.1) x.2 words (after_at s x.0 here_is x.1))
        | inr apart ↦
            let x = was_at i s here in
            let text_was : slice_get texts i ≡ Some t = sym (set_elsewhere texts source i _ apart) ∙ (ap (λ (l : List LinesText). slice_get l i) (sym put.set) ∙ text) in
            let kept : given_words s ≡ given_words x.0 =
            only _ _ _ (given_at new i s here) (ap (λ (l : List (List ℕ)). slice_get l i) given ∙ (set_elsewhere (map given_words old) source i (had ++ words) apart ∙ given_at old i x.0 x.1)) in
            still_lines t x.0 s (read.each i t x.0 text_was x.1) x.2 kept
      ]

      pub more_read : AreRead new more
      more_read = record {
        paced = paced_on old new same read.paced;
        count = ap (length {A = LinesText}) put.set ∙ (length-set texts source (with_lines put.text words) ∙ (read.count ∙ sym (as_many old new same)));
        each = each_more;
      }

      pub more_same : AreSame old new texts more
      more_same = record {
        streams = same;
        formats = ap (map text_format) put.set ∙ (map-set text_format texts source (with_lines put.text words) ∙ set_same (map text_format texts) source (text_format put.text) (slice_get-map text_format texts source ∙ ap (option_map text_format) put.there));
      }

-- what stays the same in steps one after another
pub same_on : (first old new : List Streaming) (before texts more : List LinesText) → AreSame first old before texts → AreSame old new texts more → AreSame first new before more
same_on first old new before texts more one two = record { streams = two.streams ∙ one.streams; formats = two.formats ∙ one.formats }

-- at the ends all words of each plan were read
pub ended_read : (at : ℕ) (first old new : List Streaming) (before texts : List LinesText) → AreRead old texts → AreSame first old before texts → HasMerged merged.Ended at old new → HasWatched first new before texts
ended_read at first old new before texts read same step = record {
  read = still_read old new texts read step.fixed step.words;
  same = record { streams = step.fixed ∙ same.streams; formats = same.formats };
  over = step.ended.0;
  whole = step.ended.1 (paced_on old new step.fixed read.paced);
}

-- a scan's source is one of the streams
pub has_stream : (source : ℕ) (scan : ScanText) (at : ℕ) (old new : List Streaming) → HasMerged (merged.Given source scan) at old new → source < length new
has_stream source scan at old new step =
    let within = slice_get_within (map given_words old) source step.words.0 step.words.1 in
    let count = step.count in omega (arith, length-map old given_words)

-- the words of a scan are those that its source gives
module _ (source : ℕ) (scan : ScanText) (at : ℕ) (words : List ℕ) (old new : List Streaming) (texts : List LinesText) (read : AreRead old texts) (step : HasMerged (merged.Given source scan) at old new) (are : words ≡ scan.words) where
  scan_given : map given_words new ≡ set (map given_words old) source (step.words.0 ++ words)
  scan_given = step.words.2 ∙ ap (λ (l : List ℕ). set (map given_words old) source (step.words.0 ++ l)) (sym are)

  pub can_put_scan : CanPut source words texts
  can_put_scan = can_put old new texts read step.fixed source step.words.0 words step.words.1 scan_given

  module _ (more : List LinesText) (put : HasPut source words texts more) where
    pub scan_read : AreRead new more
    scan_read = more_read old new texts read step.fixed source step.words.0 words step.words.1 scan_given more put

    pub scan_same : AreSame old new texts more
    scan_same = more_same old new texts read step.fixed source step.words.0 words step.words.1 scan_given more put

-- and so are whole scans that it appends to a list
module _ (source scans most : ℕ) (before after words : List ℕ) (old new : List Streaming) (texts : List LinesText) (read : AreRead old texts) (step : HasAppendedOf source scans most before after old new) (none : before ≡ []) (are : words ≡ after) where
  had_is : slice_get (map given_words old) source ≡ Some (given_words step.stream)
  had_is = slice_get-map given_words old source ∙ ap (option_map given_words) step.had

  given_is : map given_words new ≡ set (map given_words old) source (given_words step.stream ++ words)
  given_is =
      let more : step.more ≡ words = sym (are ∙ step.words ∙ ap (λ (l : List ℕ). l ++ step.more) none) in
      step.given ∙ ap (λ (l : List ℕ). set (map given_words old) source (given_words step.stream ++ l)) more

  pub can_put_more : CanPut source words texts
  can_put_more = can_put old new texts read step.fixed source (given_words step.stream) words had_is given_is

  module _ (more : List LinesText) (put : HasPut source words texts more) where
    pub put_read : AreRead new more
    put_read = more_read old new texts read step.fixed source (given_words step.stream) words had_is given_is more put

    pub put_same : AreSame old new texts more
    put_same = more_same old new texts read step.fixed source (given_words step.stream) words had_is given_is more put
