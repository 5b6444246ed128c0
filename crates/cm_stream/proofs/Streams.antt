-- What a stream keeps, and what a scan of it says.
use Rattle.std.proofs.Common.{◌≡◌, ℕ, ◌+◌, ◌-◌, ◌*◌, ◌%◌, ◌≤◌, true, inl, inr, List, [], ◌∷◌, ◌++◌, length, refl, sym, ap, ◌∙◌, subst, Option, Some, None, arith}
use Rattle.std.proofs.Math.Nat.{add-mod_right, add-mul-mod_self_right}
use Rattle.std.proofs.lemmas.Bool.{cases_lt}
use Rattle.cm_ring_core.specs.declared.view.EndKind.{EndKind}
use Rattle.cm_ring_core.specs.declared.view.EndKind.TheVariants.{Done, Overrun, Cancelled}
use Rattle.cm_ring_core.specs.declared.view.End.{End}
use Rattle.cm_ring_core.specs.declared.view.RingConstants.{RingConstants}
use Rattle.cm_ring_core.specs.declared.view.ReaderPart.{ReaderPart}
use Rattle.cm_ring_core.specs.Lawful.{IsFoundEnd}
use Rattle.cm_ring.specs.Roles.{Reading, IsReading}
use Rattle.cm_ring.specs.Samples.{munged_plan, first_munged, piece}
use Rattle.cm_ring.proofs.Pieces.{length_munged, length-piece}
use Rattle.cm_stream.specs.Scans.{ScanText, scan_text, scans}
use Rattle.cm_stream.specs.Stream.{Streaming, streaming, IsStream, IsCut, wanted, want_of}
use Rattle.cm_stream.specs.Step.{IsGiven}
use Rattle.cm_stream.proofs.Cuts.{scans_more}

wanted_few : (n released : ℕ) (found : Option End) → wanted n released found ≤ n
wanted_few n released None = omega arith
wanted_few n released (Some e) = omega arith

-- where something is left, all before it were whole scans
whole_before : (n released : ℕ) (found : Option End) → 1 ≤ wanted n released found → IsCut n released found → released % n ≡ 0
whole_before n released found some (inl whole) = whole
whole_before n released None some (inr ended) = let no = ended.1 in cc
whole_before n released (Some e) some (inr ended) =
    let same : e ≡ ended.0 = cc ended.1 in let count : e.count ≡ ended.0.count = ap (λ (x : End). x.count) same in let is = ended.2 in absurd (omega arith)

-- after a scan, all were whole ones, or it was the last
cut_after : (n released want : ℕ) (found : Option End) → want ≡ wanted n released found → released % n ≡ 0 → IsCut n (released + want) found
cut_after n released want None is whole = let e : released + want ≡ released + n = omega arith in inl (ap (λ (x : ℕ). x % n) e ∙ (add-mod_right released n ∙ whole))
cut_after n released want (Some e) is whole = elim (cases_lt (e.count - released) n) [
  | inl short ↦ elim (cases_lt e.count released) [ inl past ↦ let z : released + want ≡ released = omega arith in inl (ap (λ (x : ℕ). x % n) z ∙ whole) | inr there ↦ inr (e, refl, omega arith) ]
  | inr long ↦ let z : released + want ≡ released + n = omega arith in inl (ap (λ (x : ℕ). x % n) z ∙ (add-mod_right released n ∙ whole))
]

-- what an end says holds after the stop was asked for, and after more was released
asked_says : (ring : RingConstants) (r : ReaderPart) (kind : EndKind) (count : ℕ) → IsFoundEnd ring r kind count → IsFoundEnd ring (record r { asked = true }) kind count
asked_says ring r Done count h = h
asked_says ring r Overrun count h = h
asked_says ring r Cancelled count h = refl

released_says : (ring : RingConstants) (r : ReaderPart) (want : ℕ) (kind : EndKind) (count : ℕ) → IsFoundEnd ring r kind count → IsFoundEnd ring (record r { released = r.released + want }) kind count
released_says ring r want Done count h = h
released_says ring r want Overrun count h = let below = h.2 in (h.0, h.1, omega arith, h.3)
released_says ring r want Cancelled count h = h

looked_says : (ring : RingConstants) (r : ReaderPart) (known looks : ℕ) (kind : EndKind) (count : ℕ) → IsFoundEnd ring r kind count → IsFoundEnd ring (record r { known = known; munged_looks = looks }) kind count
looked_says ring r known looks Done count h = h
looked_says ring r known looks Overrun count h = h
looked_says ring r known looks Cancelled count h = h

module _ (s : Streaming) (found : Option End) (h : IsStream s found) where
  -- a look leaves what a stream keeps
  pub mapped_ok : (r : Reading) (known looks mapped : ℕ) → r ≡ record s.reader { part = record s.reader.part { known = known; munged_looks = looks }; mapped = mapped } → IsReading r
      → ((e : End) → s.reader.part.found ≡ Some e → known ≤ e.count) → IsStream (streaming s.n r) found
  mapped_ok r known looks mapped e places ended =
      let P : Reading → Type 0 = λ x. IsReading x → IsStream (streaming s.n x) found in
      let here : P (record s.reader { part = record s.reader.part { known = known; munged_looks = looks }; mapped = mapped }) = λ at. record {
        some = h.some;
        fits = h.fits;
        places = at;
        found_is = h.found_is;
        known = ended;
        cut = h.cut;
        says = λ x is. looked_says s.reader.ring s.reader.part known looks x.kind x.count (h.says x is);
      } in subst P (sym e) here places

  -- and so does asking for the stop
  pub asked_ok : (r : Reading) → r ≡ record s.reader { part = record s.reader.part { asked = true } } → IsStream (streaming s.n r) found
  asked_ok r e =
      let P : Reading → Type 0 = λ x. IsStream (streaming s.n x) found in
      let at = h.places in
      let here : P (record s.reader { part = record s.reader.part { asked = true } }) = record {
        some = h.some;
        fits = h.fits;
        places = record { mapped_known = at.mapped_known; known_room = at.known_room; known_end = at.known_end; few_cells = at.few_cells; finite = at.finite };
        found_is = h.found_is;
        known = h.known;
        cut = h.cut;
        says = λ x is. asked_says s.reader.ring s.reader.part x.kind x.count (h.says x is);
      } in subst P (sym e) here

-- the reader after a release
abbrev pub released_by : Reading → ℕ → Reading
released_by r want = record r { part = record r.part { released = r.part.released + want }; mapped = r.mapped - want }

pub released_same : (r s t : Reading) (want : ℕ) → t ≡ released_by s want → s ≡ r → t ≡ released_by r want
released_same r s t want e same = e ∙ ap (λ (x : Reading). released_by x want) same

-- whole scans more
scans_cut : (n released scans most : ℕ) (found : Option End) → released + scans * n ≤ most → ((e : End) → found ≡ Some e → most ≤ e.count) → IsCut n released found → IsCut n (released + scans * n) found
scans_cut n released scans most found within ended (inl whole) = inl (add-mul-mod_self_right released scans n ∙ whole)
scans_cut n released scans most found within ended (inr end) =
    let few = ended end.0 end.1 in let is = end.2 in inr (end.0, end.1, omega arith)

module _ (s : Streaming) (found : Option End) (want : ℕ) (is : want ≡ want_of s) (some : 1 ≤ want) (h : IsStream s found) where
  whole : s.reader.part.released % s.n ≡ 0
  whole = whole_before s.n s.reader.part.released s.reader.part.found (omega arith) h.cut

  pub given_ok : (r : Reading) → r ≡ released_by s.reader want → IsReading r → IsStream (streaming s.n r) found
  given_ok r e places =
      let P : Reading → Type 0 = λ x. IsReading x → IsStream (streaming s.n x) found in
      let here : P (released_by s.reader want) = λ at. record {
        some = h.some;
        fits = h.fits;
        places = at;
        found_is = h.found_is;
        known = h.known;
        says = λ x end_is. released_says s.reader.ring s.reader.part want x.kind x.count (h.says x end_is);
        cut = cut_after s.n s.reader.part.released want s.reader.part.found is whole;
      } in subst P (sym e) here places

  given_says : (scan : ScanText) (words : List ℕ) → scan ≡ scan_text s.reader.part.released words → words ≡ piece s.reader.ring s.reader.part.released want → want ≤ s.reader.mapped
      → IsGiven scan want s (streaming s.n (released_by s.reader want))
  given_says scan words is_scan is_words is_mapped =
      let ring : RingConstants = s.reader.ring in let from : ℕ = s.reader.part.released in let at = h.places in
      let mk = at.mapped_known in let ke = at.known_end in
      let within : from + want ≤ length ring.samples = omega arith in
      let size : length (munged_plan ring) ≡ length ring.samples = length_munged ring in
      let few = wanted_few s.n s.reader.part.released s.reader.part.found in
      let mine : scan.words ≡ piece ring from want = ap (λ (x : ScanText). x.words) is_scan ∙ is_words in
      let more = scans_more (munged_plan ring) s.n from want h.some some (omega arith) whole (omega arith) in
      record {
        some = some;
        first = ap (λ (x : ScanText). x.first) is_scan;
        words = mine;
        count = ap (length {A = ℕ}) mine ∙ length-piece ring from want within;
        released = refl;
        scans = more ∙ ap (λ (x : ScanText). scans (first_munged ring from) s.n ++ x ∷ []) (sym (is_scan ∙ ap (scan_text from) is_words));
      }

  -- as contracts see it
  pub given_here : (scan : ScanText) (words : List ℕ) → scan ≡ scan_text s.reader.part.released words → words ≡ piece s.reader.ring s.reader.part.released want → want ≤ s.reader.mapped
      → (r : Reading) → r ≡ released_by s.reader want → (old : Streaming) → s ≡ old → IsGiven scan want old (streaming s.n r)
  given_here scan words is_scan is_words is_mapped r e old view_is =
      let P : Streaming → Type 0 = λ x. IsGiven scan want x (streaming s.n r) in
      let Q : Reading → Type 0 = λ x. IsGiven scan want s (streaming s.n x) in
      subst P view_is (subst Q (sym e) (given_says scan words is_scan is_words is_mapped))

-- as many whole scans more
module _ (s : Streaming) (found : Option End) (scans : ℕ) (h : IsStream s found) (mapped : scans * s.n ≤ s.reader.mapped) where
  pub scans_ok : (r : Reading) → r ≡ released_by s.reader (scans * s.n) → IsReading r → IsStream (streaming s.n r) found
  scans_ok r e places =
      let count : ℕ = scans * s.n in let at = h.places in let known = at.mapped_known in
      let P : Reading → Type 0 = λ x. IsReading x → IsStream (streaming s.n x) found in
      let here : P (released_by s.reader count) = λ now. record {
        some = h.some;
        fits = h.fits;
        places = now;
        found_is = h.found_is;
        known = h.known;
        says = λ x end_is. released_says s.reader.ring s.reader.part count x.kind x.count (h.says x end_is);
        cut = scans_cut s.n s.reader.part.released scans s.reader.part.known s.reader.part.found (omega arith) h.known h.cut;
      } in subst P (sym e) here places
