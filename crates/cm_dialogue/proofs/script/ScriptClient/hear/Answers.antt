use Rattle.std.proofs.Common.{◌≡◌, ◌+◌, ◌-◌, ◌<◌, ℕ, List, ◌∷◌, ◌++◌, ap, refl, sym, ◌∙◌, subst, take, drop, length, inl, inr, arith}
use Rattle.std.proofs.lemmas.Bool.Decides.{nat_tests}
use Rattle.std.specs.List.{before_first}
use Rattle.cm_base.specs.Lines.{is_line_feed, raw_lines}
use Rattle.cm_dialogue.specs.Ahead.{BeginsLong, IsLine}
use Rattle.cm_dialogue.specs.Script.{lines_left}
use Rattle.cm_dialogue.proofs.FirstLine.{first-single, lines-begin, lines-taken, Taken}
use Rattle.cm_dialogue.proofs.script.ScriptClient.hear.Goals.{then-count-rest, else-count-rest}
use Rattle.cm_dialogue.proofs.script.ScriptClient.hear.Goals as goal

pub returns-then-next-gt-LINE_LIMIT-clause-next : goal.returns-then-next-gt-LINE_LIMIT-clause-next
returns-then-next-gt-LINE_LIMIT-clause-next c =
    let text : List ℕ = c.fails_now.new.self.text.items in
    let at : ℕ = c.fails_now.new.self.at in
    let of : List ℕ → List ℕ = λ bytes. take (length bytes - at) (drop at bytes) in
    let some : 0 < length (of c.deref.result.now) = grind (arith, nat_tests, c.if-is_empty.false, c.is_empty.ensures) in
    let long : 1048576 < length (before_first is_line_feed (of c.deref.result.now)) = subst (λ (part : List ℕ). 1048576 < length part) c.first_line-next.ensures c.if-next-gt-LINE_LIMIT.true in
    λ same. (
      lines_left c.args.self.now,
      refl,
      subst BeginsLong c.fails_now.ensures.lines
          (lines-begin text at (subst (λ (bytes : List ℕ). 0 < length (of bytes)) c.deref.ensures.value some) (subst (λ (bytes : List ℕ). 1048576 < length (before_first is_line_feed (of bytes))) c.deref.ensures.value long)),
    )

pub returns-clause-next : goal.returns-clause-next
returns-clause-next c =
    let text : List ℕ = c.fails_now.new.self.text.items in
    let at : ℕ = c.fails_now.new.self.at in
    let part : List ℕ = c.first_line-next.result.now in
    let of : List ℕ → List ℕ = λ bytes. take (length bytes - at) (drop at bytes) in
    let some : 0 < length (of c.deref.result.now) = grind (arith, nat_tests, c.if-is_empty.false, c.is_empty.ensures) in
    let taken : Taken part (of c.deref.result.now) c.if-count-rest.after = elim c.if-count-rest.branch [
      | then-count-rest w ↦ inl (w.if-count-rest.true, w.after-is)
      | else-count-rest w ↦ inr (w.if-count-rest.false, w.after-is)
    ] in
    let first : Taken (before_first is_line_feed (of c.deref.result.now)) (of c.deref.result.now) c.if-count-rest.after = subst (λ (bytes : List ℕ). Taken bytes (of c.deref.result.now) c.if-count-rest.after) c.first_line-next.ensures taken in
    let line : c.extend_from_slice.new.self.items ≡ part = c.in_ok-extend_from_slice.ensures.items ∙ ap (λ (before : List ℕ). before ++ part) c.requires in
    sym c.fails_now.ensures.lines
    ∙ lines-taken text at c.if-count-rest.after (subst (λ (bytes : List ℕ). 0 < length (of bytes)) c.deref.ensures.value some)
    (subst (λ (bytes : List ℕ). Taken (before_first is_line_feed (of bytes)) (of bytes) c.if-count-rest.after) c.deref.ensures.value first)
    ∙ ap (λ (next : List ℕ). next ∷ raw_lines (drop (at + c.if-count-rest.after) text))
    (sym (line ∙ c.first_line-next.ensures ∙ ap (λ (bytes : List ℕ). before_first is_line_feed (of bytes)) c.deref.ensures.value))

pub returns-clause-single : goal.returns-clause-single
returns-clause-single c =
    subst IsLine (sym (c.in_ok-extend_from_slice.ensures.items ∙ ap (λ (before : List ℕ). before ++ c.first_line-next.result.now) c.requires ∙ c.first_line-next.ensures)) (first-single (take (length c.deref.result.now - c.fails_now.new.self.at) (drop c.fails_now.new.self.at c.deref.result.now)))
