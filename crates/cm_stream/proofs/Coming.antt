-- What comes from a stream, scan after scan.
use Rattle.std.proofs.Common.{◌≡◌, ℕ, ◌+◌, List, [], ◌∷◌, ◌++◌, length, sym, ap, ◌∙◌, Option, Ok, Err, arith, append_assoc}
use Rattle.std.proofs.lemmas.List.{append-nil}
use Rattle.cm_ring_core.specs.declared.view.RingConstants.{RingConstants}
use Rattle.cm_stream.specs.Scans.{ScanText, scans}
use Rattle.cm_ring.specs.Samples.{first_munged}
use Rattle.cm_stream.specs.Polled.{Item, Comes, scans_in, words_in}

pub comes_in_scans : (ring : RingConstants) (n released : ℕ) (items : List Item) (last : Option Item) → Comes ring n released items last
    → scans (first_munged ring (released + words_in items)) n ≡ scans (first_munged ring released) n ++ scans_in items
comes_in_scans ring n released [] last h =
    let e : released + 0 ≡ released = omega arith in
    ap (λ (r : ℕ). scans (first_munged ring r) n) e ∙ sym (append-nil (scans (first_munged ring released) n))
comes_in_scans ring n released (Ok scan ∷ items) last h =
    let e : released + (length scan.words + words_in items) ≡ released + length scan.words + words_in items = omega arith in
    ap (λ (r : ℕ). scans (first_munged ring r) n) e
    ∙ (comes_in_scans ring n (released + length scan.words) items last h.1
    ∙ (ap (λ (l : List ScanText). l ++ scans_in items) h.0.scans ∙ append_assoc (scans (first_munged ring released) n) (scan ∷ []) (scans_in items)))
comes_in_scans ring n released (Err lack ∷ items) last h = comes_in_scans ring n released items last h
