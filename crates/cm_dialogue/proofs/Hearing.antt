-- What was heard of the part of a dialogue before its session.
use Rattle.std.proofs.Common.{◌≡◌, ℕ, ◌+◌, ◌<◌, ◌≤◌, inl, inr, Bool, true, false, List, [], ◌∷◌, ◌++◌, length, map, codes, Option, Result, Ok, Err, refl, ap, sym, ◌∙◌, subst, arith, append-nil, length-append}
use Rattle.std.proofs.lemmas.Grind.{flat_map-append}
use Rattle.std.proofs.lemmas.List.{map-append}
use Rattle.std.proofs.lemmas.List.Elements.{All-push}
use Rattle.cm_dialogue.specs.Heading.{HasHead, StartsLater, starts_session, text_of}
use Rattle.std.specs.List.{All}
use Rattle.std.specs.Result.{IsErrAnd}
use Rattle.cm_dialogue.specs.Stops.{heard_stop}
use Rattle.cm_dialogue.specs.Ahead.{AreAhead, BeginsLong, Came, IsLine}
use Rattle.cm_base.specs.declared.transfer.ReadError.{ReadError}
use Rattle.cm_base.specs.declared.transfer.ReadError.TheVariants as hears
use Rattle.cm_dialogue.specs.Turns.{Turn, Answer, Line, Heard, Says}
use Rattle.cm_dialogue.specs.declared.heading.DialogueHead.{DialogueHead}
use Rattle.cm_dialogue.specs.declared.stop.TalkStop.{TalkStop}
use Rattle.cm_dialogue.specs.declared.stop.TalkStop.TheVariants.{TooLong}
use Rattle.cm_dialogue.proofs.Coming.{came-ahead, came-more, others}
use Rattle.cm_dialogue.proofs.Heads.{head-more, later-head}
use Rattle.cm_dialogue.proofs.Saying.{says-more, says-same}

-- lines that don't start the session were heard, and are the text
pub record IsHeard (ahead left : Option (List (List ℕ))) (old now : Option (List Turn)) (text : List ℕ) (count : ℕ) : Type 0 where
  pub lines : List (List ℕ)
  pub came : Came ahead left lines
  pub single : All IsLine lines
  pub says : Says old now (map Line lines)
  pub text_is : text ≡ text_of lines
  pub count_is : count ≡ length lines
  pub later : StartsLater lines

-- a line more was heard
says_line : (old now new : Option (List Turn)) (lines : List (List ℕ)) (line : List ℕ) → Says old now (map Line lines) → Says now new (Line line ∷ []) → Says old new (map Line (lines ++ line ∷ []))
says_line old now new lines line a b = says-same old new (map Line lines ++ Line line ∷ []) (map Line (lines ++ line ∷ [])) (sym (map-append Line lines (line ∷ []))) (says-more old now new (map Line lines) (Line line ∷ []) a b)

text_more : (text new : List ℕ) (lines : List (List ℕ)) (line : List ℕ) → text ≡ text_of lines → new ≡ text ++ (line ++ codes "\n") → new ≡ text_of (lines ++ line ∷ [])
text_more text new lines line e n =
    n ∙ ap (λ (t : List ℕ). t ++ (line ++ codes "\n")) e
    ∙ ap (λ (t : List ℕ). text_of lines ++ t) (sym (append-nil (line ++ codes "\n")))
    ∙ sym (flat_map-append (λ line. line ++ codes "\n") lines (line ∷ []))

-- which makes the text longer
pub text_grows : (text new line : List ℕ) → new ≡ text ++ (line ++ codes "\n") → length text + 1 ≤ length new
text_grows text new line e = omega (arith, ap length e, length-append text (line ++ codes "\n"), length-append line (codes "\n"))

-- and it doesn't start the session
pub heard-more : (ahead left after : Option (List (List ℕ))) (old now new : Option (List Turn)) (text more : List ℕ) (count : ℕ) (line : List ℕ) (starts : Bool) → starts ≡ starts_session line → starts ≡ false →
    Came left after (line ∷ []) → IsLine line → Says now new (Line line ∷ []) → more ≡ text ++ (line ++ codes "\n") → IsHeard ahead left old now text count → IsHeard ahead after old new more (count + 1)
heard-more ahead left after old now new text more count line starts is later came one says e h = record {
  lines = h.lines ++ line ∷ [];
  came = came-more ahead left after h.lines (line ∷ []) h.came came;
  single = All-push IsLine h.lines line h.single one;
  says = says_line old now new h.lines line h.says says;
  text_is = text_more text more h.lines line h.text_is e;
  count_is = omega (arith, h.count_is, length-append h.lines (line ∷ []));
  later = All-push (λ line. starts_session line ≡ false) h.lines line h.later (sym is ∙ later);
}

-- it starts the session
pub heard-ends : (ahead left after : Option (List (List ℕ))) (old now new : Option (List Turn)) (text more : List ℕ) (count : ℕ) (line : List ℕ) (starts : Bool) → starts ≡ starts_session line → starts ≡ true →
    Came left after (line ∷ []) → IsLine line → Says now new (Line line ∷ []) → more ≡ text ++ (line ++ codes "\n") → IsHeard ahead left old now text count →
    HasHead (Ok (record { count = count + 1; goes_on = true })) ahead after old new more
heard-ends ahead left after old now new text more count line starts is ends came one says e h = record {
  lines = h.lines ++ line ∷ [];
  single = All-push IsLine h.lines line h.single one;
  says = says_line old now new h.lines line h.says says;
  text_is = text_more text more h.lines line h.text_is e;
  count_is = omega (arith, h.count_is, length-append h.lines (line ∷ []));
  follows = (h.lines, line, refl, h.later, sym is ∙ ends);
  came = λ t. came-more ahead left after h.lines (line ∷ []) h.came came;
  ends = λ f. cc;
}

-- the input ended
pub heard-all : (ahead left after : Option (List (List ℕ))) (old now new : Option (List Turn)) (text : List ℕ) (count : ℕ) → AreAhead [] left → new ≡ now → IsHeard ahead left old now text count →
    HasHead (Ok (record { count = count; goes_on = false })) ahead after old new text
heard-all ahead left after old now new text count ends e h = record {
  lines = h.lines;
  single = h.single;
  says = e ∙ h.says;
  text_is = h.text_is;
  count_is = h.count_is;
  follows = h.later;
  came = λ t. cc;
  ends = λ f. subst (λ (lines : List (List ℕ)). AreAhead lines ahead) (append-nil h.lines) (came-ahead ahead left h.lines [] h.came ends);
}

-- no further line was heard, as there may be one that is too long
pub heard-stopped : (ahead left after : Option (List (List ℕ))) (old now new : Option (List Turn)) (text rest : List ℕ) (count : ℕ) (r : Result DialogueHead TalkStop) (stop : ReadError) → IsErrAnd r (λ e. e ≡ heard_stop stop) →
    (stop ≡ hears.TooLong → (lines : List (List ℕ)) × AreAhead lines left × BeginsLong lines) → new ≡ now → IsHeard ahead left old now text count → HasHead r ahead after old new rest
heard-stopped ahead left after old now new text rest count (Ok head) stop is long e h = absurd is
heard-stopped ahead left after old now new text rest count (Err cause) stop is long e h = by stop is long
  where
    stopped : (more : List (List ℕ)) → AreAhead more left → (cause ≡ TooLong → BeginsLong more) → HasHead (Err cause) ahead after old new rest
    stopped more is_ahead begins = record {
      heard = h.lines;
      more = more;
      ahead_is = came-ahead ahead left h.lines more h.came is_ahead;
      says = e ∙ h.says;
      head = later-head h.lines h.later;
      long = λ same. inr (h.later, begins same);
    }

    by : (stop : ReadError) → cause ≡ heard_stop stop → (stop ≡ hears.TooLong → (lines : List (List ℕ)) × AreAhead lines left × BeginsLong lines) → HasHead (Err cause) ahead after old new rest
    by hears.NoMemory is long = stopped (others left).0 (others left).1 (λ same. cc)
    by hears.ReadFault is long = stopped (others left).0 (others left).1 (λ same. cc)
    by hears.TooLong is long = let next = long refl in stopped next.0 next.1 (λ same. next.2)

-- a line was heard, and no more was done with it, as the text may be too long with it
pub heard-cut : (ahead left new_left after : Option (List (List ℕ))) (old now new : Option (List Turn)) (text rest : List ℕ) (count : ℕ) (line : List ℕ) (r : Result DialogueHead TalkStop) (stop : TalkStop) → IsErrAnd r (λ e. e ≡ stop) →
    (stop ≡ TooLong → 1048576 < length (text ++ (line ++ codes "\n"))) → Came left new_left (line ∷ []) → Says now new (Line line ∷ []) → IsHeard ahead left old now text count → HasHead r ahead after old new rest
heard-cut ahead left new_left after old now new text rest count line (Ok head) stop is long came says h = absurd is
heard-cut ahead left new_left after old now new text rest count line (Err cause) stop is long came says h = record {
  heard = h.lines ++ line ∷ [];
  more = (others new_left).0;
  ahead_is = came-ahead ahead new_left (h.lines ++ line ∷ []) (others new_left).0 (came-more ahead left new_left h.lines (line ∷ []) h.came came) (others new_left).1;
  says = says_line old now new h.lines line h.says says;
  head = head-more h.lines line h.later;
  long = λ same. inl (subst (λ (t : List ℕ). 1048576 < length t) (text_more text (text ++ (line ++ codes "\n")) h.lines line h.text_is refl) (long (sym is ∙ same)));
}

-- what was heard, where a line was
pub heard_line : (b : Bool) (old new : Option (List Turn)) (line : List ℕ) → b ≡ true → Heard (Ok b) old new line → Says old new (Line line ∷ [])
heard_line b old new line e h = subst (λ (b : Bool). Heard (Ok b) old new line) e h

-- and where none was
pub heard_nothing : (b : Bool) (old new : Option (List Turn)) (line : List ℕ) → b ≡ false → Heard (Ok b) old new line → new ≡ old
heard_nothing b old new line e h = subst (λ (b : Bool). Heard (Ok b) old new line) e h

-- the answer that was said is the text
pub said_text : (old new : Option (List Turn)) (said text : List ℕ) → said ≡ text → Says old new (Answer said ∷ []) → Says old new (Answer text ∷ [])
said_text old new said text e h = subst (λ (bytes : List ℕ). Says old new (Answer bytes ∷ [])) e h
