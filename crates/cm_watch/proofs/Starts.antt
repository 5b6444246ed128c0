-- What streams that start for lines have of them.
use Rattle.std.proofs.Common.{◌≡◌, inl, inr, ℕ, List, [], ◌∷◌, ◌++◌, length, length-append, map, sym, ap, ◌∙◌, subst, arith}
use Rattle.std.specs.Prelude.{slice_get}
use Rattle.std.specs.List.{All, AllByRecursion}
use Rattle.std.proofs.Math.ListN.{length-map}
use Rattle.std.proofs.lemmas.List.{map-append}
use Rattle.std.proofs.lemmas.List.Elements.{All-from_recursion}
use Rattle.std.proofs.lemmas.Option.{slice_get_within}
use Rattle.cm_board.specs.Board.{BoardText}
use Rattle.cm_client.specs.Progress.{Accepts}
use Rattle.cm_ring.specs.Samples.{first_munged}
use Rattle.cm_signal.specs.Signals.{SignalsText}
use Rattle.cm_text.specs.SampleText.{CanReport, LinesText, lines_of, no_lines}
use Rattle.cm_block.specs.Whole.{line_format}
use Rattle.cm_job.specs.declared.line.RunLine.{RunLine}
use Rattle.cm_stream.specs.Stream.{Streaming}
use Rattle.cm_stream.specs.Merging.{IsFresh, IsPacedOn, given_words}
use Rattle.cm_watch.specs.Opened.{Start, line_start, stream_start}
use Rattle.cm_watch.specs.Watched.{AreRead, HasLines}
use Rattle.cm_base.proofs.Elements.{all_more, snoc_cases}

module _ (board : BoardText) (signals : SignalsText) where
  -- streams start for lines
  abbrev pub Start_for : List Streaming → List RunLine → Type 0
  Start_for streams lines = map stream_start streams ≡ map (line_start board signals) lines

  -- a stream that starts for a line has a paced ring, of which nothing was read
  pub paced_one : (s : Streaming) (line : RunLine) → stream_start s ≡ line_start board signals line → IsPacedOn s
  paced_one s line e = (ap (λ (x : Start). x.ring.paced) e, ap (λ (x : Start). x.part.asked) e)

  fresh_one : (s : Streaming) (line : RunLine) → stream_start s ≡ line_start board signals line → IsFresh s
  fresh_one s line e = ap (λ (x : Start). x.part.released) e

  -- and there are no lines yet
  pub starts_with : (s : Streaming) (line : RunLine) (t : LinesText) → stream_start s ≡ line_start board signals line → t ≡ no_lines (line_format board signals line) → Accepts (CanReport t) (line_start board signals line).ring → HasLines t s
  starts_with s line t e none report =
      let given : given_words s ≡ [] = ap (λ (n : ℕ). first_munged s.reader.ring n) (fresh_one s line e) in
      let format : t.format ≡ line_format board signals line = ap (λ (x : LinesText). x.format) none in
      record {
        lines = none ∙ ap no_lines (sym format) ∙ ap (lines_of t.format) (sym given);
        report = subst (Accepts (CanReport t)) (sym (ap (λ (x : Start). x.ring) e)) report;
      }

  -- what holds of each such stream
  each_by : (P : Streaming → Type 0) → ((s : Streaming) (line : RunLine) → stream_start s ≡ line_start board signals line → P s) → (streams : List Streaming) (lines : List RunLine) → Start_for streams lines → AllByRecursion P streams
  each_by P one [] lines start = tt
  each_by P one (s ∷ streams) [] start = absurd cc
  each_by P one (s ∷ streams) (line ∷ lines) start =
      let head : stream_start s ≡ line_start board signals line = cc in
      let tail : Start_for streams lines = cc in
      (one s line head, each_by P one streams lines tail)

  pub all_fresh : (streams : List Streaming) (lines : List RunLine) → Start_for streams lines → All IsFresh streams
  all_fresh streams lines start = All-from_recursion IsFresh streams (each_by IsFresh fresh_one streams lines start)

  pub counted : (streams : List Streaming) (lines : List RunLine) → Start_for streams lines → length streams ≡ length lines
  counted streams lines start = sym (length-map streams stream_start) ∙ (ap (length {A = Start}) start ∙ length-map lines (line_start board signals))

-- two lists that are the same under two functions, with one more each
pub both_more : {A B X : Type 0} (f : A → X) (g : B → X) (xs : List A) (x : A) (ys : List B) (y : B) → map f xs ≡ map g ys → f x ≡ g y → map f (xs ++ x ∷ []) ≡ map g (ys ++ y ∷ [])
both_more {X = X} f g xs x ys y before one =
    map-append f xs (x ∷ [])
    ∙ (ap (λ (l : List X). l ++ f x ∷ []) before
    ∙ (ap (λ (z : X). map g ys ++ z ∷ []) one
    ∙ sym (map-append g ys (y ∷ []))))

-- one stream more
pub read_more : (streams more : List Streaming) (texts longer : List LinesText) (s : Streaming) (t : LinesText) → more ≡ streams ++ s ∷ [] → longer ≡ texts ++ t ∷ [] → AreRead streams texts → IsPacedOn s → HasLines t s → AreRead more longer
read_more streams more texts longer s t more_is longer_is read paced one =
    let n = read.count in
    record {
      paced = subst (All IsPacedOn) (sym more_is) (all_more IsPacedOn streams s read.paced paced);
      count = (let a = ap (length {A = LinesText}) longer_is ∙ length-append texts (t ∷ []) in let b = ap (length {A = Streaming}) more_is ∙ length-append streams (s ∷ []) in omega arith);
      each = λ i x y here there.
          let at_end = snoc_cases texts t i x (ap (λ (l : List LinesText). slice_get l i) (sym longer_is) ∙ here) in
          let stream = snoc_cases streams s i y (ap (λ (l : List Streaming). slice_get l i) (sym more_is) ∙ there) in
          elim at_end [
            | inl text ↦
                elim stream [
                  | inl before ↦ read.each i x y text before
                  | inr last ↦ absurd (let w = slice_get_within texts i x text in omega (arith, last.0))
                ]
            | inr end ↦
                elim stream [
                  | inl before ↦ absurd (let w = slice_get_within streams i y before in omega (arith, end.0))
                  | inr last ↦ subst (λ (z : LinesText). HasLines z y) end.1 (subst (HasLines t) last.1 one)
                ]
          ];
    }
