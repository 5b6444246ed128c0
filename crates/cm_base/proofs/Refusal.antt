-- What is refused is the first line that fails, after lines that are read.
use Rattle.std.proofs.Common.{◌≡◌, ℕ, Bool, true, false, cond, drop, List, [], ◌∷◌, ◌++◌, Result, Ok, Err, refl, sym, ap, subst, ◌∙◌}
use Rattle.std.specs.Prelude.{IsErrAnd}
use Rattle.cm_base.specs.Lines.{LineText}
use Rattle.cm_base.specs.Parts.{begins, fixed}
use Rattle.cm_base.specs.Reading.{◌>>=◌, at_line, read_each}
use Rattle.cm_base.specs.ReadStop.{Gives, Stops}
use Rattle.cm_base.specs.Refusal.{FirstFault, RefusesFirst}
use Rattle.cm_base.specs.Words.{Form}
use Rattle.cm_base.specs.declared.faults.Fault.{Fault}
use Rattle.cm_base.specs.declared.faults.Fault.TheVariants as faults
use Rattle.cm_base.specs.declared.faults.ReadStop.{ReadStop}
use Rattle.cm_base.specs.declared.faults.Refused.{Refused}

pub err_is : {X : Type 0} (a b : Refused) → ◌≡◌ {A = Result X Refused} (Err a) (Err b) → a ≡ b
err_is a b e = cc

-- a fault at a line as the refusal of that line
refusal_of : {Y : Type 0} (line : ℕ) (refused : Refused) (read : Result Y Fault) → refused.line ≡ line → read ≡ Err refused.cause → at_line line read ≡ Err refused
refusal_of line refused read n c = ap (at_line line) c ∙ ap (λ (m : ℕ). Err (record { line = m; cause = refused.cause })) (sym n)

pub each_refused : {X : Type 0} (read : List X → LineText → Result X Fault) (before : List X) (lines : List LineText) (refused : Refused) →
    read_each read before lines ≡ Err refused → FirstFault (read_each read before) read lines refused
each_refused read before [] refused e = cc
each_refused {X = X} read before (line ∷ rest) refused e = at (read before line) refl (λ x. each_refused read (before ++ x ∷ []) rest refused)
  where
    at : (said : Result X Fault) → read before line ≡ said → ((x : X) → read_each read (before ++ x ∷ []) rest ≡ Err refused → FirstFault (read_each read (before ++ x ∷ [])) read rest refused) → FirstFault (read_each read before) read (line ∷ rest) refused
    at (Err cause) is later =
        let same : record { line = line.number; cause = cause } ≡ refused = err_is _ _ (sym (ap (λ r. at_line line.number r >>= λ x. read_each read (before ++ x ∷ []) rest) is) ∙ e) in
        record {
          good = [];
          line = line;
          rest = rest;
          said = before;
          parts = refl;
          before = refl;
          number = ap (λ (r : Refused). r.line) (sym same);
          cause = is ∙ ap (λ (r : Refused). Err r.cause) same;
        }
    at (Ok x) is later =
        let f = later x (sym (ap (λ r. at_line line.number r >>= λ y. read_each read (before ++ y ∷ []) rest) is) ∙ e) in
        record {
          good = line ∷ f.good;
          line = f.line;
          rest = f.rest;
          said = f.said;
          parts = ap (λ (ls : List LineText). line ∷ ls) f.parts;
          before = ap (λ r. at_line line.number r >>= λ y. read_each read (before ++ y ∷ []) f.good) is ∙ f.before;
          number = f.number;
          cause = f.cause;
        }

-- lines one after another
pub each-append : {X : Type 0} (read : List X → LineText → Result X Fault) (before : List X) (xs ys : List LineText) → read_each read before (xs ++ ys) ≡ (read_each read before xs >>= λ said. read_each read said ys)
each-append read before [] ys = refl
each-append {X = X} read before (line ∷ xs) ys = at (at_line line.number (read before line)) (λ x. each-append read (before ++ x ∷ []) xs ys)
  where
    at : (said : Result X Refused) → ((x : X) → read_each read (before ++ x ∷ []) (xs ++ ys) ≡ (read_each read (before ++ x ∷ []) xs >>= λ all. read_each read all ys)) →
        (said >>= λ x. read_each read (before ++ x ∷ []) (xs ++ ys)) ≡ ((said >>= λ x. read_each read (before ++ x ∷ []) xs) >>= λ all. read_each read all ys)
    at (Ok x) later = later x
    at (Err r) later = refl

-- the lines up to the first that fails are refused at it, whatever comes after them
pub each_refuses : {X : Type 0} (read : List X → LineText → Result X Fault) (before : List X) (lines more : List LineText) (refused : Refused) →
    (f : FirstFault (read_each read before) read lines refused) → read_each read before (f.good ++ f.line ∷ more) ≡ Err refused
each_refuses read before lines more refused f =
    each-append read before f.good (f.line ∷ more) ∙ ap (λ r. r >>= λ said. read_each read said (f.line ∷ more)) f.before
    ∙ ap (λ r. r >>= λ x. read_each read (f.said ++ x ∷ []) more) (refusal_of f.line.number refused (read f.said f.line) f.number f.cause)

-- lines that are read one after another are refused at the first that fails
pub refuses_first : {X : Type 0} (read : List X → LineText → Result X Fault) (before : List X) → RefusesFirst (read_each read before) read
refuses_first read before = λ lines refused e. (each_refused read before lines refused e, λ f more. each_refuses read before lines more refused f)

-- what a first line says by whether it is bad and begins with the one word
abbrev pub keyed : LineText → Bool → Bool → Result (ℕ × List (List ℕ)) Fault
keyed line bad begun = cond bad (Err faults.BadLine) (cond begun (Ok (line.number, drop 1 line.words)) (Err faults.Missing))

pub at_line_number : {X : Type 0} (number : ℕ) (read : Result X Fault) (refused : Refused) → at_line number read ≡ Err refused → refused.line ≡ number
at_line_number number (Ok x) refused e = cc
at_line_number number (Err cause) refused e = ap (λ (r : Refused). r.line) (sym (err_is _ _ e))

-- a line that has one fixed word is refused at its number
pub fixed_number : {X : Type 0} (end : ℕ) (key : List ℕ) (form : Form X) (line : LineText) (rest : List LineText) (refused : Refused) → fixed end key form (line ∷ rest) ≡ Err refused → refused.line ≡ line.number
fixed_number {X = X} end key form line rest refused e = by line.bad (begins key line) e
  where
    by : (bad begun : Bool) → (at_line line.number (keyed line bad begun) >>= λ words. at_line words.0 (form words.1)) ≡ Err refused → refused.line ≡ line.number
    by true begun e = ap (λ (r : Refused). r.line) (sym (err_is _ _ e))
    by false false e = ap (λ (r : Refused). r.line) (sym (err_is _ _ e))
    by false true e = at_line_number line.number (form (drop 1 line.words)) refused e

-- an answer that stops for the same reason
pub gives_err : {X Y : Type 0} (view : X → Y) (r : Result X ReadStop) (stop : ReadStop) (read : Result Y Refused) → IsErrAnd r (λ e. e ≡ stop) → Stops stop read → Gives view r read
gives_err view (Ok x) stop read h s = absurd h
gives_err view (Err e) stop read h s = subst (λ st. Stops st read) (sym h) s
