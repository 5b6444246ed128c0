-- What a session of instructions reads, a session of all kinds reads too.
use Rattle.std.proofs.Common.{◌≡◌, ℕ, Bool, true, false, List, [], ◌∷◌, ◌++◌, Result, Ok, Err, refl, ap, sym, ◌∙◌}
use Rattle.std.specs.Prelude.{Some, if◌then◌else◌}
use Rattle.std.specs.Str.{bytes_eq}
use Rattle.cm_base.specs.Lines.{LineText}
use Rattle.cm_base.specs.Reading.{◌>>=◌, at_line, read_each}
use Rattle.cm_base.specs.Words.{keyword, listed, or_fault}
use Rattle.cm_base.specs.declared.faults.Fault.{Fault}
use Rattle.cm_base.specs.declared.faults.Fault.TheVariants.{BadLine, Unknown}
use Rattle.cm_base.proofs.Values.{at_line_ok}
use Rattle.cm_session.specs.Law.{InsnReadsTheSame}
use Rattle.cm_session.specs.SessionPart.{after_time, command_lines, insn_lines, last_time, line_after, line_words, lines_by}
use Rattle.cm_signal.specs.declared.bounds.Bounds.{Bounds}
use Rattle.cm_session.specs.declared.op.SessionLine.{SessionLine}

-- a key that is found in a table is found where more stand after it
listed_more : {X : Type 0} (table more : List (List ℕ × X)) (key : List ℕ) (x : X) → keyword (table ++ []) key ≡ Ok x → keyword (table ++ more) key ≡ Ok x
listed_more [] more key x e = cc
listed_more {X} (entry ∷ rest) more key x e = at (bytes_eq key entry.0) refl (listed_more rest more key x)
  where
    found : List (List ℕ × X) → Bool → Result X Fault
    found after here = or_fault Unknown (if here then Some entry.1 else listed (rest ++ after) key)

    at : (here : Bool) → bytes_eq key entry.0 ≡ here → (keyword (rest ++ []) key ≡ Ok x → keyword (rest ++ more) key ≡ Ok x) → keyword ((entry ∷ rest) ++ more) key ≡ Ok x
    at true is later = ap (found more) is ∙ sym (ap (found []) is) ∙ e
    at false is later = ap (found more) is ∙ later (sym (ap (found []) is) ∙ e)

-- two readings whose steps give the same give the same
both_steps : {E A B : Type 0} (r s : Result A E) (f g : A → Result B E) (x : B) → ((a : A) → r ≡ Ok a → s ≡ Ok a) → ((a : A) → f a ≡ Ok x → g a ≡ Ok x) → (r >>= f) ≡ Ok x → (s >>= g) ≡ Ok x
both_steps (Ok a) s f g x h k e = ap (λ r. r >>= g) (h a refl) ∙ k a e
both_steps (Err d) s f g x h k e = cc

words_same : (bounds : Bounds) (words : List (List ℕ)) (x : SessionLine) → line_words true bounds words ≡ Ok x → line_words false bounds words ≡ Ok x
words_same bounds [] x e = cc
words_same bounds (time ∷ []) x e = cc
words_same bounds (time ∷ key ∷ words) x e =
    both_steps (keyword (lines_by true) key) (keyword (lines_by false) key) (λ form. form bounds time words) (λ form. form bounds time words) x
    (λ form. listed_more insn_lines command_lines key form) (λ form e. e) e

line_same : (bounds : Bounds) (before : ℕ) (line : LineText) (x : SessionLine) → line_after true bounds before line ≡ Ok x → line_after false bounds before line ≡ Ok x
line_same bounds before line x = at line.bad
  where
    kind : Bool → Bool → Result SessionLine Fault
    kind only bad = if bad then Err BadLine else line_words only bounds line.words >>= λ next. after_time before next

    at : (bad : Bool) → kind true bad ≡ Ok x → kind false bad ≡ Ok x
    at true e = e
    at false e = both_steps (line_words true bounds line.words) (line_words false bounds line.words) (λ next. after_time before next) (λ next. after_time before next) x (words_same bounds line.words) (λ next e. e) e

-- lines that are read the same one by one are read the same together
each_same : {X : Type 0} (read other : List X → LineText → Result X Fault) → ((before : List X) (line : LineText) (x : X) → read before line ≡ Ok x → other before line ≡ Ok x) →
    (before : List X) (lines : List LineText) (all : List X) → read_each read before lines ≡ Ok all → read_each other before lines ≡ Ok all
each_same read other h before [] all e = e
each_same read other h before (line ∷ rest) all e =
    both_steps (at_line line.number (read before line)) (at_line line.number (other before line)) (λ x. read_each read (before ++ x ∷ []) rest) (λ x. read_each other (before ++ x ∷ []) rest) all
    (λ x k. ap (at_line line.number) (h before line x (at_line_ok line.number (read before line) x k)))
    (λ x k. each_same read other h (before ++ x ∷ []) rest all k) e

pub insn_reads_the_same : InsnReadsTheSame
insn_reads_the_same bounds lines all e =
    each_same (λ before line. line_after true bounds (last_time before) line) (λ before line. line_after false bounds (last_time before) line) (λ before line x k. line_same bounds (last_time before) line x k) [] lines all e
