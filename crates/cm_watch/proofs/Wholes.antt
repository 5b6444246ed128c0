-- That the lines which were made of a line's stream are the whole line's.
use Rattle.std.proofs.Common.{◌≡◌, inl, inr, true, ℕ, ◌+◌, ◌<◌, ◌≤◌, List, [], ◌∷◌, ◌++◌, length, length-append, take, get_or, refl, sym, ap, ◌∙◌, subst, Some, None, append_assoc, append-nil, arith}
use Rattle.std.specs.Prelude.{slice_get}
use Rattle.std.specs.List.{All}
use Rattle.std.proofs.Math.ListN.{length-map}
use Rattle.std.proofs.lemmas.List.{take_more}
use Rattle.std.proofs.lemmas.Option.{slice_get_within, slice_get-get_or, slice_get_read, get_or_from_slice_get}
use Rattle.cm_board.specs.Board.{BoardText, SubText}
use Rattle.cm_test.specs.Accepting.{sub_at}
use Rattle.cm_ring.specs.Samples.{munged_plan}
use Rattle.cm_ring.proofs.AtEnd.{whole_plan}
use Rattle.cm_expand.specs.Items.{samples_of}
use Rattle.cm_expand.specs.Plan.{PlanText}
use Rattle.cm_ring_core.specs.declared.view.End.{End}
use Rattle.cm_ring_core.specs.declared.view.EndKind.{EndKind}
use Rattle.cm_ring_core.specs.declared.view.RingConstants.{RingConstants}
use Rattle.cm_ring_core.specs.Lawful.{IsFoundEnd}
use Rattle.cm_block.specs.RunText.{line_block, run_text}
use Rattle.cm_text.specs.Blocks.{munged_samples}
use Rattle.cm_client.specs.LineRing.{ring_of}
use Rattle.cm_text.specs.SampleText.{LinesText, lines_of}
use Rattle.cm_block.specs.Whole.{HasWhole, TakesAll, line_format}
use Rattle.cm_text.proofs.Counts.{length-samples}
use Rattle.cm_text.proofs.Counts.{length-munged, munged_by_rule}
use Rattle.cm_job.specs.Calls.{cmd_of, plan_of}
use Rattle.cm_job.specs.Job.{RunJobText}
use Rattle.cm_job.specs.WatchLines.{IsWatched, WatchesSub}
use Rattle.cm_job.specs.declared.line.RunLine.{RunLine}
use Rattle.cm_job.specs.declared.line.RunLine.TheVariants.{Go, Drive}
use Rattle.cm_signal.specs.Signals.{SignalsText}
use Rattle.cm_stream.specs.Stream.{Streaming, IsOver}
use Rattle.cm_stream.specs.Merging.{Fixed, IsEndOf, IsPacedOn, fixed, given_words, plan_of as whole_of}
use Rattle.cm_text.specs.Format.{Format}
use Rattle.cm_watch.specs.Whole.{AreEnds, AreWhole}
use Rattle.cm_watch.specs.Opened.{HaveWatched, Start, line_start, stream_start}
use Rattle.cm_watch.specs.Watched.{text_format}
use Rattle.cm_watch.proofs.Openings.{scan_of}
use Rattle.cm_base.proofs.Elements.{from_some, if_some, only, same_at, snoc_before, snoc_cases, snoc_last}
use Rattle.cm_watch.proofs.Starts.{counted}

-- a text of one line more
run_text_snoc : (board : BoardText) (signals : SignalsText) (lines : List RunLine) (line : RunLine) → run_text board signals (lines ++ line ∷ []) ≡ run_text board signals lines ++ line_block board signals line
run_text_snoc board signals [] line = append-nil (line_block board signals line)
run_text_snoc board signals (first ∷ lines) line =
    ap (λ (l : List ℕ). line_block board signals first ++ l) (run_text_snoc board signals lines line)
    ∙ sym (append_assoc (line_block board signals first) (run_text board signals lines) (line_block board signals line))

pub run_text_more : (board : BoardText) (signals : SignalsText) (lines : List RunLine) (i : ℕ) (line : RunLine) (text block : List ℕ) → slice_get lines i ≡ Some line → text ≡ run_text board signals (take i lines) → block ≡ line_block board signals line
    → text ++ block ≡ run_text board signals (take (i + 1) lines)
run_text_more board signals lines i line text block here before is =
    ap (λ (l : List ℕ). l ++ block) before
    ∙ (ap (λ (l : List ℕ). run_text board signals (take i lines) ++ l) (is ∙ ap (line_block board signals) (sym (get_or_from_slice_get lines i line line here)))
    ∙ (sym (run_text_snoc board signals (take i lines) (get_or lines i line))
    ∙ ap (run_text board signals) (sym (take_more lines i line (slice_get_within lines i line here)))))

-- the munged plan of a line's ring is its munged expansion
plan_is : (p : PlanText) → 1 ≤ length p.cmd.list → munged_plan (ring_of p true) ≡ munged_samples p
plan_is p some = munged_by_rule p (samples_of p) some

-- a line that is watched takes all samples
takes_by : (sub : SubText) (line : RunLine) → WatchesSub sub line → TakesAll line
takes_by sub (Go mode access t0 most cmd) watched = watched.1
takes_by sub (Drive t0 values cmd) watched = absurd watched

pub takes_all : (board : BoardText) (line : RunLine) → IsWatched board line → TakesAll line
takes_all board line watched = takes_by (sub_at board (cmd_of line).sub) line watched

module _ (board : BoardText) (signals : SignalsText) (lines : List RunLine) (now : List Streaming) (texts : List LinesText) (watched : All (IsWatched board) lines) (have : HaveWatched board signals lines now texts) where
  -- as many streams as lines
  pub streams_counted : length now ≡ length lines
  streams_counted = sym (length-map now fixed) ∙ (ap (length {A = Fixed}) have.read.same.streams ∙ (length-map have.first fixed ∙ counted board signals have.first lines have.start.streams))

  -- the lines and the end of a line's stream are those of the whole line
  pub whole_at : (i : ℕ) (line : RunLine) (t : LinesText) (e : End) → slice_get lines i ≡ Some line → slice_get texts i ≡ Some t → IsEndOf now i (Some e) → HasWhole board signals line t e
  whole_at i line t e here text end =
      let p = plan_of board signals line in
      let s = end.0 in
      let watched_line : IsWatched board line = subst (IsWatched board) (get_or_from_slice_get lines i line line here) (watched i line (slice_get_within lines i line here)) in
      let first = same_at stream_start (line_start board signals) have.first lines i line have.start.streams here in
      let mine = same_at fixed fixed now have.first i first.0 have.read.same.streams first.1 in
      let ring : s.reader.ring ≡ ring_of p true = ap (λ (x : Streaming). x.reader.ring) (only _ _ _ end.1 mine.1) ∙ (ap (λ (x : Fixed). x.ring) mine.2 ∙ ap (λ (x : Start). x.ring) first.2) in
      let given = same_at given_words whole_of now now i s have.read.whole end.1 in
      let all : given_words s ≡ munged_samples p = ap given_words (only _ _ _ end.1 given.1) ∙ (given.2 ∙ (ap munged_plan ring ∙ plan_is p (scan_of board line watched_line).0)) in
      let text_is = same_at text_format (line_format board signals) texts lines i line (have.read.same.formats ∙ have.start.formats) here in
      let format : t.format ≡ line_format board signals line = ap text_format (only _ _ _ text text_is.1) ∙ text_is.2 in
      let paced : IsPacedOn s = subst IsPacedOn (get_or_from_slice_get now i s s end.1) (have.read.read.paced i s (slice_get_within now i s end.1)) in
      let says = end.3 e refl in
      let done = (whole_plan s.reader.ring s.reader.part e.kind e.count paced.0 paced.1 says).0 in
      let count : e.count ≡ length s.reader.ring.samples = subst (λ (k : EndKind). IsFoundEnd s.reader.ring s.reader.part k e.count) done says in
      record {
        words = munged_samples p;
        whole = record {
          takes = takes_all board line watched_line;
          all = refl;
          done = done;
          count = count ∙ (ap (λ (r : RingConstants). length r.samples) ring ∙ (length-samples p ∙ sym (length-munged p)));
        };
        lines = (have.read.read.each i t s text end.1).lines ∙ (ap (λ (f : Format). lines_of f (given_words s)) format ∙ ap (lines_of (line_format board signals line)) all);
      }

-- all lines were read to their ends
pub are_whole : (job : RunJobText) (now : List Streaming) (texts : List LinesText) (ends : List End) → All (IsWatched job.board) job.lines → HaveWatched job.board job.signals job.lines now texts → AreEnds now ends → AreWhole job texts ends
are_whole job now texts ends watched have ended =
    let count = streams_counted job.board job.signals job.lines now texts watched have in
    record {
      count = ended.count ∙ count;
      within = (let n = have.read.read.count in omega arith);
      each = λ i t e text end. if_some (slice_get job.lines i) (λ line. HasWhole job.board job.signals line t e) (λ line here. whole_at job.board job.signals job.lines now texts watched have i line t e here text (ended.each i e end));
    }

-- as many texts as lines
pub texts_counted : (job : RunJobText) (now : List Streaming) (texts : List LinesText) → All (IsWatched job.board) job.lines → HaveWatched job.board job.signals job.lines now texts → length texts ≡ length job.lines
texts_counted job now texts watched have = have.read.read.count ∙ streams_counted job.board job.signals job.lines now texts watched have

-- the last text, and those before it
module _ (job : RunJobText) (all texts : List LinesText) (last : LinesText) (is : all ≡ texts ++ last ∷ []) where
  one_more : length all ≡ length texts + 1
  one_more = ap (λ (l : List LinesText). length l) is ∙ length-append texts (last ∷ [])

  module _ (ends : List End) (whole : AreWhole job all ends) where
    within : length texts < length job.lines
    within = let w = whole.within in let n = one_more in omega arith

    pub whole_last : (at : ℕ) (line : RunLine) (d : End) → at ≡ length texts → line ≡ get_or job.lines at line → HasWhole job.board job.signals line last (get_or ends at d)
    whole_last at line d at_is line_is =
        let low : at < length job.lines = (let w = within in omega arith) in
        let here = slice_get_read job.lines (length job.lines) at line refl low line_is in
        let end = slice_get-get_or ends at d (let n = whole.count in omega arith) in
        let mine : slice_get all at ≡ Some last = ap (λ (n : ℕ). slice_get all n) at_is ∙ (ap (λ (l : List LinesText). slice_get l (length texts)) is ∙ snoc_last texts last) in
        from_some (slice_get job.lines at) (λ line. HasWhole job.board job.signals line last (get_or ends at d)) line here (whole.each at last (get_or ends at d) mine end)

    pub whole_before : AreWhole job texts ends
    whole_before = record {
      count = whole.count;
      within = (let w = within in omega arith);
      each = λ i t e text end. whole.each i t e (ap (λ (l : List LinesText). slice_get l i) is ∙ snoc_before texts last i t text) end;
    }

    pub text_longer : (at : ℕ) (line : RunLine) (text block longer : List ℕ) → at ≡ length texts → line ≡ get_or job.lines at line → text ≡ run_text job.board job.signals (take (length texts) job.lines) → block ≡ line_block job.board job.signals line → longer ≡ text ++ block
        → longer ≡ run_text job.board job.signals (take (length all) job.lines)
    text_longer at line text block longer at_is line_is before block_is longer_is =
        let low : at < length job.lines = (let w = within in omega arith) in
        let here = slice_get_read job.lines (length job.lines) at line refl low line_is in
        let first : text ≡ run_text job.board job.signals (take at job.lines) = before ∙ ap (λ (n : ℕ). run_text job.board job.signals (take n job.lines)) (sym at_is) in
        let many : at + 1 ≡ length all = (let n = one_more in omega arith) in
        longer_is ∙ (run_text_more job.board job.signals job.lines at line text block here first block_is ∙ ap (λ (n : ℕ). run_text job.board job.signals (take n job.lines)) many)

-- each source of streams that are over has found an end
pub some_end : (streams : List Streaming) (i : ℕ) → All IsOver streams → IsEndOf streams i None → ⊥
some_end streams i over end =
    let here : get_or streams i end.0 ≡ end.0 = get_or_from_slice_get streams i end.0 end.0 end.1 in
    let is : IsOver end.0 = subst IsOver here (over i end.0 (slice_get_within streams i end.0 end.1)) in
    let found = is.found in let none = end.2 in cc

-- the ends of some sources, and of one more
pub ended_more : (streams : List Streaming) (ends : List End) (e : End) → ((i : ℕ) (x : End) → slice_get ends i ≡ Some x → IsEndOf streams i (Some x)) → IsEndOf streams (length ends) (Some e)
    → (i : ℕ) (x : End) → slice_get (ends ++ e ∷ []) i ≡ Some x → IsEndOf streams i (Some x)
ended_more streams ends e each last i x here = elim (snoc_cases ends e i x here) [
  | inl before ↦ each i x before
  | inr new ↦ subst (λ (n : ℕ). IsEndOf streams n (Some x)) (sym new.0) (subst (λ (z : End). IsEndOf streams (length ends) (Some z)) new.1 last)
]
