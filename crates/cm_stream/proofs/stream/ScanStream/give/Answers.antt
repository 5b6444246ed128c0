use Rattle.std.proofs.Common.{ℕ, ◌≤◌, ap, sym, subst, ◌∙◌, rules}
use Rattle.cm_stream.specs.Scans.{scan_text}
use Rattle.cm_stream.specs.Stream.{Streaming, streaming, want_of}
use Rattle.cm_stream.proofs.Streams.{released_same, given_ok, given_here}
use Rattle.cm_stream.proofs.stream.ScanStream.give.Goals as goal

pub invariant_of-self-2 : goal.invariant_of-self-2
invariant_of-self-2 g c =
    let s : Streaming = streaming c.self.inside.n c.self.inside.reader in let view = c.self.view_is in
    let mapped = subst (λ (x : Streaming). c.args.want ≤ x.reader.mapped) (sym view) c.requires.mapped in
    let want = c.requires.want.0 ∙ ap want_of (sym view) in
    given_ok s c.self.inside.found c.args.want want c.requires.want.1 c.self.invariant c.release.new.self (released_same s.reader _ _ c.args.want c.release.ensures c.mapped_words.ensures.same) c.mapped.ensures.places

pub returns-clause-given : goal.returns-clause-given
returns-clause-given g c =
    let s : Streaming = streaming c.self.inside.n c.self.inside.reader in let view = c.self.view_is in
    let mapped = subst (λ (x : Streaming). c.args.want ≤ x.reader.mapped) (sym view) c.requires.mapped in
    let want = c.requires.want.0 ∙ ap want_of (sym view) in
    let first = ap (λ (x : ℕ). scan_text x c.in_ok-words.words.items) c.released-first.ensures.value in
    given_here s c.self.inside.found c.args.want want c.requires.want.1 c.self.invariant (scan_text c.released-first.result c.in_ok-words.words.items) c.in_ok-words.words.items
    first (search (rules, c.mapped_words.ensures.words, c.in_ok-words.was)) mapped c.release.new.self (released_same s.reader _ _ c.args.want c.release.ensures c.mapped_words.ensures.same) c.args.self.now view
