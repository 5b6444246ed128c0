-- A dialogue whose lines are those of a session.
use Rattle.std.proofs.Common.{◌≡◌, ℕ, ◌≤◌, Bool, true, false, cond, List, [], ◌∷◌, ◌++◌, codes, flat_map, length, None, Result, Ok, Err, refl, ap, sym, ◌∙◌, arith, append_assoc, append-nil}
use Rattle.std.specs.List.{All}
use Rattle.std.specs.Str.{bytes_eq}
use Rattle.std.proofs.lemmas.Slice.Eq.{bytes_eq-Decides}
use Rattle.std.proofs.lemmas.List.Elements.{All-head, All-tail}
use Rattle.cm_base.specs.Lines.{LineText, lines_of}
use Rattle.cm_base.specs.Reading.{◌>>=◌, at_line, read_each}
use Rattle.cm_base.specs.Words.{listed, number_in}
use Rattle.cm_base.specs.declared.faults.Fault.{Fault}
use Rattle.cm_base.specs.declared.faults.Fault.TheVariants.{BadLine, BadNumber}
use Rattle.cm_base.specs.declared.faults.Refused.{Refused}
use Rattle.cm_base.proofs.Values.{at_line_ok}
use Rattle.cm_signal.specs.declared.bounds.Bounds.{Bounds}
use Rattle.cm_session.specs.SessionPart.{after_time, keyed, last_time, line_after, line_words, lines_by}
use Rattle.cm_session.specs.declared.op.SessionLine.{SessionLine}
use Rattle.cm_session.proofs.After.{last-after}
use Rattle.cm_serve.specs.Playing.{Play, bounds_at, first_play, line_text, played}
use Rattle.cm_replay.specs.State.{at_start}
use Rattle.cm_replay.specs.Texts.{texts_from}
use Rattle.cm_dialogue.specs.Ahead.{IsLine}
use Rattle.cm_serve.specs.Dialogue.{Reply, dialogue, next_number, replied, replied_if, reply, reply_of}
use Rattle.cm_serve.specs.Law.{AnswersAsReplay, answers}
use Rattle.cm_dialogue.specs.Lines.{questions, said_by}
use Rattle.cm_dialogue.specs.declared.dialogue_line.DialogueLine.{DialogueLine}
use Rattle.cm_dialogue.specs.declared.dialogue_line.DialogueLine.TheVariants as says
use Rattle.cm_dialogue.proofs.FirstLine.{one-counts}
use Rattle.cm_dialogue.proofs.Limited.{untimed}

-- two tests of a word
is_not : (word key : List ℕ) → (word ≡ key → ⊥) → bytes_eq word key ≡ false
is_not word key n = by (bytes_eq word key) refl
  where
    by : (b : Bool) → bytes_eq word key ≡ b → bytes_eq word key ≡ false
    by true e = absurd (n ((bytes_eq-Decides word key).0 e))
    by false e = e

-- a key of a question is none of a session
asked_never : (key : List ℕ) (bounds : Bounds) (time : List ℕ) (words : List (List ℕ)) (next : SessionLine) → keyed (lines_by false) key bounds time words ≡ Ok next → listed questions key ≡ None
asked_never key bounds time words next e = none_listed
  where
    other : (word : List ℕ) → ((n : SessionLine) → keyed (lines_by false) word bounds time words ≡ Ok n → ⊥) → bytes_eq key word ≡ false
    other word never = is_not key word (λ same. never next (ap (λ (k : List ℕ). keyed (lines_by false) k bounds time words) (sym same) ∙ e))

    none_listed : listed questions key ≡ None
    none_listed = simp (other (codes "await") (λ n f. cc), other (codes "info") (λ n f. cc), other (codes "codes") (λ n f. cc), other (codes "peek") (λ n f. cc), other (codes "fetch") (λ n f. cc))

-- a word of a time is none of those with which other lines start
timed_word : (time key : List ℕ) (bounds : Bounds) (words : List (List ℕ)) (next : SessionLine) (word : List ℕ) (fault : Fault) → number_in 0 bounds.horizon word ≡ Err fault →
    keyed (lines_by false) key bounds time words ≡ Ok next → bytes_eq time word ≡ false
timed_word time key bounds words next word fault is e =
    is_not time word (λ same. untimed bounds word fault is key words next (ap (λ (t : List ℕ). keyed (lines_by false) key bounds t words) (sym same) ∙ e))

-- a step that gave something
opened : {A B E : Type 0} (r : Result A E) (f : A → Result B E) (y : B) → (r >>= f) ≡ Ok y → (x : A) × (r ≡ Ok x) × (f x ≡ Ok y)
opened (Ok x) f y e = (x, refl, e)
opened (Err fault) f y e = cc

-- what says a line of a session
abbrev said_as : SessionLine → Result DialogueLine Fault
said_as line = Ok (says.Session line)

-- a good line of a session is said as one
good_line : (bounds : Bounds) (before number : ℕ) (words : List (List ℕ)) (next : SessionLine) → line_after false bounds before (record { number = number; words = words; bad = false }) ≡ Ok next →
    said_by bounds before (record { number = number; words = words; bad = false }) ≡ Ok (says.Session next)
good_line bounds before number [] next e = cc
good_line bounds before number (time ∷ []) next e = cc
good_line bounds before number (time ∷ key ∷ words) next e =
    let o = opened (keyed (lines_by false) key bounds time words) (λ line. after_time before line) next e in
    let describes = timed_word time key bounds words o.0 (codes "describe") BadNumber refl o.1 in
    let numbers = timed_word time key bounds words o.0 (codes "subdevices") BadNumber refl o.1 in
    let claims = timed_word time key bounds words o.0 (codes "claims") BadNumber refl o.1 in
    let tests = timed_word time key bounds words o.0 (codes "test") BadNumber refl o.1 in
    let cmdtests = timed_word time key bounds words o.0 (codes "cmdtest") BadNumber refl o.1 in
    let asks = asked_never key bounds time words o.0 o.1 in
    simp (describes, numbers, claims, tests, cmdtests, asks) (ap (λ (r : Result SessionLine Fault). r >>= λ line. said_as line) e)

-- a line of a session is said as one
said_next : (bounds : Bounds) (before : ℕ) (line : LineText) (next : SessionLine) → line_after false bounds before line ≡ Ok next → said_by bounds before line ≡ Ok (says.Session next)
said_next bounds before line next e = by line.bad refl
  where
    by : (b : Bool) → line.bad ≡ b → said_by bounds before line ≡ Ok (says.Session next)
    by true bad =
        let refused : Err BadLine ≡ Ok next = ap (λ (b : Bool). cond b (Err BadLine) (line_words false bounds line.words >>= λ n. after_time before n)) (sym bad) ∙ e in
        cc
    by false good =
        let is : line ≡ record { number = line.number; words = line.words; bad = false } = λ i. record { number = line.number; words = line.words; bad = good i } in
        ap (said_by bounds before) is ∙ good_line bounds before line.number line.words next (ap (line_after false bounds before) (sym is) ∙ e)

-- lines of a session that were read so far, and those that are read after them
abbrev pub read_after : Bounds → List SessionLine → List LineText → Result (List SessionLine) Refused
read_after bounds before lines = read_each (λ before line. line_after false bounds (last_time before) line) before lines

-- the answers to these lines are those to the lines that are read of them
record IsReplayed (p : Play) (n : ℕ) (lines : List (List ℕ)) (before all : List SessionLine) : Type 0 where
  pub new : List SessionLine
  pub all_is : all ≡ before ++ new
  pub text : answers (dialogue p n lines) ≡ texts_from p.setting p.state new

one_more : (p : Play) (n : ℕ) (bytes : List ℕ) (lines : List (List ℕ)) (before all : List SessionLine) (here : List LineText) → lines_of bytes ≡ here → length (lines_of bytes) ≤ 1 → p.latest ≡ last_time before →
    read_after (bounds_at p) before (here ++ flat_map lines_of lines) ≡ Ok all →
    ((q : Play) (m : ℕ) (b : List SessionLine) → q.latest ≡ last_time b → read_after (bounds_at q) b (flat_map lines_of lines) ≡ Ok all → IsReplayed q m lines b all) →
    IsReplayed p n (bytes ∷ lines) before all
one_more p n bytes lines before all [] is one l e later =
    let r = later p (next_number n) before l e in
    record {
      new = r.new;
      all_is = r.all_is;
      text = ap (λ (a : Reply). a.text ++ answers (dialogue a.play (next_number n) lines)) (ap (reply_of p n) is) ∙ r.text;
    }
one_more p n bytes lines before all (line ∷ []) is one l e later =
    let bounds = bounds_at p in
    let o = opened (at_line line.number (line_after false bounds (last_time before) line)) (λ x. read_after bounds (before ++ x ∷ []) (flat_map lines_of lines)) all e in
    let x = o.0 in
    let said : said_by bounds p.latest line ≡ Ok (says.Session x) = ap (λ (t : ℕ). said_by bounds t line) l ∙ said_next bounds (last_time before) line x (at_line_ok line.number (line_after false bounds (last_time before) line) x o.1) in
    let answer : reply p n bytes ≡ replied p (says.Session x) = ap (reply_of p n) is ∙ ap (λ (r : Result DialogueLine Fault). replied_if p (at_line n r)) said in
    let r = later (played p x) (next_number n) (before ++ x ∷ []) (sym (last-after before x)) o.2 in
    record {
      new = x ∷ r.new;
      all_is = r.all_is ∙ append_assoc before (x ∷ []) r.new;
      text = ap (λ (a : Reply). a.text ++ answers (dialogue a.play (next_number n) lines)) answer ∙ ap (λ (t : List ℕ). line_text p x ++ t) r.text;
    }
one_more p n bytes lines before all (line ∷ next ∷ more) is one l e later = absurd (omega (arith, ap length is))

replays : (p : Play) (n : ℕ) (lines : List (List ℕ)) (before all : List SessionLine) → All IsLine lines → p.latest ≡ last_time before → read_after (bounds_at p) before (flat_map lines_of lines) ≡ Ok all →
    IsReplayed p n lines before all
replays p n [] before all single l e =
    let same : before ≡ all = cc in
    record { new = []; all_is = sym same ∙ sym (append-nil before); text = refl }
replays p n (bytes ∷ lines) before all single l e =
    one_more p n bytes lines before all (lines_of bytes) refl (one-counts bytes (All-head IsLine bytes lines single)) l e
    (λ q m b k f. replays q m lines b all (All-tail IsLine bytes lines single) k f)

pub answers_as_replay : AnswersAsReplay
answers_as_replay s first lines all single read =
    let r = replays (first_play s) first lines [] all single refl read in
    r.text ∙ ap (texts_from s (at_start s)) (sym r.all_is)
