-- The answer to a line, by what it says.
use Rattle.std.proofs.Common.{◌≡◌, ℕ, List, ◌∷◌, Result, Ok, Err, ap, sym, ◌∙◌}
use Rattle.cm_base.specs.Lines.{LineText, lines_of}
use Rattle.cm_base.specs.Reading.{at_line}
use Rattle.cm_base.specs.declared.faults.Fault.{Fault}
use Rattle.cm_base.specs.declared.faults.Refused.{Refused}
use Rattle.cm_text.specs.Declined.{refused_text}
use Rattle.cm_signal.specs.declared.bounds.Bounds.{Bounds}
use Rattle.cm_serve.specs.Playing.{Play, bounds_at}
use Rattle.cm_serve.specs.Dialogue.{replied_if, reply, reply_of, unchanged}
use Rattle.cm_dialogue.specs.Lines.{said_by}

renumbered-err : {X : Type 0} (number other : ℕ) (read : Result X Fault) (refused : Refused) → at_line number read ≡ Err refused → at_line other read ≡ Err (record { line = other; cause = refused.cause })
renumbered-err number other (Ok y) refused e = cc
renumbered-err {X} number other (Err fault) refused e = refused_at other fault refused.cause (same_cause number fault refused e)
  where
    refused_at : (other : ℕ) (a b : Fault) → a ≡ b → at_line {X = X} other (Err a) ≡ at_line {X = X} other (Err b)
    refused_at other a b e = ap (λ (cause : Fault). at_line {X = X} other (Err cause)) e

    same_cause : (number : ℕ) (fault : Fault) (refused : Refused) → at_line {X = X} number (Err fault) ≡ Err refused → fault ≡ refused.cause
    same_cause number fault refused e = cc

-- what the first line says that counts
line_read : (p : Play) (number at : ℕ) (bytes : List ℕ) (line : LineText) (rest : List LineText) (bounds : Bounds) (latest : ℕ) → lines_of bytes ≡ line ∷ rest → bounds ≡ bounds_at p → latest ≡ p.latest →
    reply p number bytes ≡ replied_if p (at_line number (said_by bounds latest line))
line_read p number at bytes line rest bounds latest e h l =
    ap (reply_of p number) e
    ∙ ap (λ (b : Bounds). replied_if p (at_line number (said_by b p.latest line))) (sym h)
    ∙ ap (λ (n : ℕ). replied_if p (at_line number (said_by bounds n line))) (sym l)

pub reply-refused : (p : Play) (number at : ℕ) (bytes : List ℕ) (line : LineText) (rest : List LineText) (bounds : Bounds) (latest : ℕ) (refused : Refused) → lines_of bytes ≡ line ∷ rest → bounds ≡ bounds_at p → latest ≡ p.latest →
    at_line at (said_by bounds latest line) ≡ Err refused → reply p number bytes ≡ unchanged p (refused_text (record { line = number; cause = refused.cause }))
reply-refused p number at bytes line rest bounds latest refused e h l is =
    line_read p number at bytes line rest bounds latest e h l
    ∙ ap (replied_if p) (renumbered-err at number (said_by bounds latest line) refused is)
