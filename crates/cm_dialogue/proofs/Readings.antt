-- What a line says, one step after another.
use Rattle.std.proofs.Common.{◌≡◌, ℕ, Bool, false, cond, List, [], ◌∷◌, codes, Option, Some, None, Result, Ok, Err, ap, sym, ◌∙◌}
use Rattle.std.specs.Str.{bytes_eq}
use Rattle.cm_base.specs.Lines.{LineText}
use Rattle.cm_base.specs.ReadStop.{Gives}
use Rattle.cm_base.specs.Reading.{at_line}
use Rattle.cm_base.specs.Words.{listed}
use Rattle.cm_base.specs.declared.faults.ReadStop.{ReadStop}
use Rattle.cm_base.specs.declared.faults.Refused.{Refused}
use Rattle.cm_base.proofs.Each.{stops-along}
use Rattle.cm_signal.specs.declared.bounds.Bounds.{Bounds}
use Rattle.cm_dialogue.specs.declared.asked.Question.TheVariants.{Await, Info, Codes, Peek}
use Rattle.cm_dialogue.specs.Lines.{QuestionForm, counted, fetching, most_counted, most_taken, next_line, plain, questions, ranged, timed}

-- what a reader gives is what another text says that says the same
pub gives-along : {X Y : Type 0} (view : X → Y) (r : Result X ReadStop) (a b : Result Y Refused) → a ≡ b → Gives view r b → Gives view r a
gives-along view (Ok x) a b e g = e ∙ g
gives-along view (Err stop) a b e g = stops-along stop a b e g

-- a key that isn't the next one of the table
not_here : (key word : List ℕ) (form : QuestionForm) (rest : Option QuestionForm) → false ≡ bytes_eq key word → cond (bytes_eq key word) (Some form) rest ≡ rest
not_here key word form rest e = ap (λ (b : Bool). cond b (Some form) rest) (sym e)

-- a key that asks no question
pub asks_nothing : (key : List ℕ) → false ≡ bytes_eq key (codes "await") → false ≡ bytes_eq key (codes "info") → false ≡ bytes_eq key (codes "codes") → false ≡ bytes_eq key (codes "peek") →
    false ≡ bytes_eq key (codes "fetch") → listed questions key ≡ None
asks_nothing key a b c d e =
    not_here key (codes "await") (counted most_counted Await) (listed ((codes "info", plain Info) ∷ (codes "codes", counted most_taken Codes) ∷ (codes "peek", ranged Peek) ∷ (codes "fetch", fetching) ∷ []) key) a
    ∙ not_here key (codes "info") (plain Info) (listed ((codes "codes", counted most_taken Codes) ∷ (codes "peek", ranged Peek) ∷ (codes "fetch", fetching) ∷ []) key) b
    ∙ not_here key (codes "codes") (counted most_taken Codes) (listed ((codes "peek", ranged Peek) ∷ (codes "fetch", fetching) ∷ []) key) c
    ∙ not_here key (codes "peek") (ranged Peek) (listed ((codes "fetch", fetching) ∷ []) key) d
    ∙ not_here key (codes "fetch") fetching None e

-- the words of such a line are a line of the session
pub timed_next : (number other : ℕ) (bounds : Bounds) (before : ℕ) (line : LineText) (time : List ℕ) (words : List (List ℕ)) (key : List ℕ) → number ≡ other → listed questions key ≡ None →
    at_line number (timed bounds before line time words (listed questions key)) ≡ at_line other (next_line bounds before line)
timed_next number other bounds before line time words key n e =
    ap (λ (form : Option QuestionForm). at_line number (timed bounds before line time words form)) e
    ∙ ap (λ (n : ℕ). at_line n (next_line bounds before line)) n
