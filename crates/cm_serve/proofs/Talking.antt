-- A dialogue under way.
use Rattle.std.proofs.Common.{◌≡◌, ℕ, List, [], ◌∷◌, ◌++◌, Option, Result, Ok, Err, refl, ap, sym, ◌∙◌, subst, append_assoc, append-nil}
use Rattle.std.specs.List.{All}
use Rattle.std.specs.Result.{IsErrAnd}
use Rattle.std.proofs.lemmas.List.Elements.{All-nil, All-push}
use Rattle.cm_serve.specs.Playing.{Play}
use Rattle.cm_dialogue.specs.Ahead.{AreAhead, BeginsLong, Came, IsLine}
use Rattle.cm_serve.specs.Conversing.{Converses}
use Rattle.cm_serve.specs.Dialogue.{dialogue, next_number, reply}
use Rattle.cm_dialogue.specs.Stops.{heard_stop}
use Rattle.cm_dialogue.specs.Turns.{Turn, Answer, Line, Says}
use Rattle.cm_base.specs.declared.transfer.ReadError.{ReadError}
use Rattle.cm_base.specs.declared.transfer.ReadError.TheVariants as hears
use Rattle.cm_dialogue.specs.declared.stop.TalkStop.{TalkStop}
use Rattle.cm_dialogue.specs.declared.stop.TalkStop.TheVariants.{NoMemory, TooLong}
use Rattle.cm_dialogue.proofs.Coming.{came-ahead, came-more, came-none, others}
use Rattle.cm_dialogue.proofs.Saying.{says-more, says-nothing, says-same, says-still}

-- some lines were heard and answered, after which the dialogue goes on from here
pub record IsUnderWay (ahead left : Option (List (List ℕ))) (old now : Option (List Turn)) (p : Play) (first : ℕ) (here : Play) (number : ℕ) : Type 0 where
  pub lines : List (List ℕ)
  pub came : Came ahead left lines
  pub single : All IsLine lines
  pub said : List Turn
  pub says : Says old now said
  pub goes_on : (more : List (List ℕ)) → dialogue p first (lines ++ more) ≡ said ++ dialogue here number more

-- none were
pub talk-start : (ahead : Option (List (List ℕ))) (old : Option (List Turn)) (p q : Play) (first : ℕ) → p ≡ q → IsUnderWay ahead ahead old old p first q first
talk-start ahead old p q first e = record {
  lines = [];
  came = came-none ahead;
  single = All-nil IsLine;
  said = [];
  says = says-nothing old;
  goes_on = λ more. ap (λ (p : Play). dialogue p first more) e;
}

-- what was said of them is the whole dialogue
whole : (ahead left : Option (List (List ℕ))) (old now : Option (List Turn)) (p : Play) (first : ℕ) (here : Play) (number : ℕ) (way : IsUnderWay ahead left old now p first here number) → dialogue p first way.lines ≡ way.said
whole ahead left old now p first here number way = ap (dialogue p first) (sym (append-nil way.lines)) ∙ way.goes_on [] ∙ append-nil way.said

-- a line was heard too
heard_turns : (ahead left : Option (List (List ℕ))) (old now new : Option (List Turn)) (p : Play) (first : ℕ) (here : Play) (number : ℕ) (line : List ℕ) (way : IsUnderWay ahead left old now p first here number) →
    Says now new (Line line ∷ []) → Says old new (way.said ++ Line line ∷ [])
heard_turns ahead left old now new p first here number line way h = says-more old now new way.said (Line line ∷ []) way.says h

-- and what is said of it
line_turns : (ahead left : Option (List (List ℕ))) (old now : Option (List Turn)) (p : Play) (first : ℕ) (here : Play) (number : ℕ) (line : List ℕ) (more : List (List ℕ)) (way : IsUnderWay ahead left old now p first here number) →
    dialogue p first ((way.lines ++ line ∷ []) ++ more) ≡ (way.said ++ Line line ∷ []) ++ (Answer (reply here number line).text ∷ dialogue (reply here number line).play (next_number number) more)
line_turns ahead left old now p first here number line more way =
    ap (dialogue p first) (append_assoc way.lines (line ∷ []) more)
    ∙ way.goes_on (line ∷ more)
    ∙ sym (append_assoc way.said (Line line ∷ []) (Answer (reply here number line).text ∷ dialogue (reply here number line).play (next_number number) more))

-- a line more was heard and answered
pub talk-more : (ahead left after_line : Option (List (List ℕ))) (old now heard answered : Option (List Turn)) (p : Play) (first : ℕ) (here after : Play) (number next : ℕ) (line text : List ℕ) →
    Came left after_line (line ∷ []) → IsLine line → Says now heard (Line line ∷ []) → after ≡ (reply here number line).play → text ≡ (reply here number line).text → Says heard answered (Answer text ∷ []) → next ≡ next_number number →
    IsUnderWay ahead left old now p first here number → IsUnderWay ahead after_line old answered p first after next
talk-more ahead left after_line old now heard answered p first here after number next line text c o h a t s n way = record {
  lines = way.lines ++ line ∷ [];
  came = came-more ahead left after_line way.lines (line ∷ []) way.came c;
  single = All-push IsLine way.lines line way.single o;
  said = (way.said ++ Line line ∷ []) ++ Answer text ∷ [];
  says = says-more old heard answered (way.said ++ Line line ∷ []) (Answer text ∷ []) (heard_turns ahead left old now heard p first here number line way h) s;
  goes_on = λ more. line_turns ahead left old now p first here number line more way
      ∙ ap (λ (answer : List ℕ). (way.said ++ Line line ∷ []) ++ (Answer answer ∷ dialogue (reply here number line).play (next_number number) more)) (sym t)
      ∙ ap (λ (q : Play). (way.said ++ Line line ∷ []) ++ (Answer text ∷ dialogue q (next_number number) more)) (sym a)
      ∙ ap (λ (m : ℕ). (way.said ++ Line line ∷ []) ++ (Answer text ∷ dialogue after m more)) (sym n)
      ∙ sym (append_assoc (way.said ++ Line line ∷ []) (Answer text ∷ []) (dialogue after next more));
}

-- the input ended
pub talk-done : (ahead left : Option (List (List ℕ))) (old now new : Option (List Turn)) (p : Play) (first : ℕ) (here : Play) (number : ℕ) → AreAhead [] left → new ≡ now →
    IsUnderWay ahead left old now p first here number → Converses (Ok tt) ahead old new p first
talk-done ahead left old now new p first here number ends e way = (
  way.lines,
  subst (λ (lines : List (List ℕ)). AreAhead lines ahead) (append-nil way.lines) (came-ahead ahead left way.lines [] way.came ends),
  way.single,
  says-same old new way.said (dialogue p first way.lines) (sym (whole ahead left old now p first here number way)) (says-still old now new way.said way.says e),
)

-- no further line was heard, as there may be one that is too long
pub talk-stopped : (ahead left : Option (List (List ℕ))) (old now new : Option (List Turn)) (p : Play) (first : ℕ) (here : Play) (number : ℕ) (r : Result (Unit {0}) TalkStop) (stop : ReadError) → IsErrAnd r (λ e. e ≡ heard_stop stop) →
    (stop ≡ hears.TooLong → (lines : List (List ℕ)) × AreAhead lines left × BeginsLong lines) → new ≡ now → IsUnderWay ahead left old now p first here number → Converses r ahead old new p first
talk-stopped ahead left old now new p first here number (Ok done) stop is long e way = absurd is
talk-stopped ahead left old now new p first here number (Err cause) stop is long e way = by stop is long
  where
    stopped : (more : List (List ℕ)) → AreAhead more left → (cause ≡ TooLong → BeginsLong more) → Converses (Err cause) ahead old new p first
    stopped more is_ahead begins = (
      way.lines,
      more,
      way.said,
      [],
      came-ahead ahead left way.lines more way.came is_ahead,
      whole ahead left old now p first here number way ∙ sym (append-nil way.said),
      says-still old now new way.said way.says e,
      λ same. (begins same, refl),
    )

    by : (stop : ReadError) → cause ≡ heard_stop stop → (stop ≡ hears.TooLong → (lines : List (List ℕ)) × AreAhead lines left × BeginsLong lines) → Converses (Err cause) ahead old new p first
    by hears.NoMemory is long = stopped (others left).0 (others left).1 (λ same. cc)
    by hears.ReadFault is long = stopped (others left).0 (others left).1 (λ same. cc)
    by hears.TooLong is long = let next = long refl in stopped next.0 next.1 (λ same. next.2)

-- a line was heard, and its answer wasn't said
pub talk-cut : (ahead left after_line : Option (List (List ℕ))) (old now heard new : Option (List Turn)) (p : Play) (first : ℕ) (here : Play) (number : ℕ) (line : List ℕ) (r : Result (Unit {0}) TalkStop) (stop : TalkStop) →
    IsErrAnd r (λ e. e ≡ stop) → (stop ≡ TooLong → ⊥) → Came left after_line (line ∷ []) → Says now heard (Line line ∷ []) → new ≡ heard →
    IsUnderWay ahead left old now p first here number → Converses r ahead old new p first
talk-cut ahead left after_line old now heard new p first here number line (Ok done) stop is other c h e way = absurd is
talk-cut ahead left after_line old now heard new p first here number line (Err cause) stop is other c h e way = (
  way.lines ++ line ∷ [],
  (others after_line).0,
  way.said ++ Line line ∷ [],
  Answer (reply here number line).text ∷ [],
  came-ahead ahead after_line (way.lines ++ line ∷ []) (others after_line).0 (came-more ahead left after_line way.lines (line ∷ []) way.came c) (others after_line).1,
  ap (dialogue p first) (sym (append-nil (way.lines ++ line ∷ []))) ∙ line_turns ahead left old now p first here number line [] way,
  says-still old heard new (way.said ++ Line line ∷ []) (heard_turns ahead left old now heard p first here number line way h) e,
  λ same. absurd (other (sym is ∙ same)),
)

-- nothing was said at all
pub talk-none : (ahead : Option (List (List ℕ))) (old : Option (List Turn)) (p : Play) (first : ℕ) (r : Result (Unit {0}) TalkStop) → IsErrAnd r (λ e. e ≡ NoMemory) → Converses r ahead old old p first
talk-none ahead old p first (Ok done) is = absurd is
talk-none ahead old p first (Err stop) is = ([], (others ahead).0, [], [], (others ahead).1, refl, says-nothing old, λ same. cc)
