-- A dialogue from its first line on, one part after another.
use Rattle.std.proofs.Common.{◌≡◌, ℕ, ◌+◌, true, false, not, Bool, List, [], ◌∷◌, ◌++◌, length, map, drop, Option, Result, Ok, Err, refl, ap, sym, ◌∙◌, subst, append_assoc, append-nil, inl, inr}
use Rattle.std.proofs.Math.Seq.{drop-append_seam}
use Rattle.std.proofs.lemmas.List.{map-append}
use Rattle.std.proofs.lemmas.List.Elements.{All-append}
use Rattle.std.specs.Result.{IsErrAnd}
use Rattle.cm_base.specs.ReadStop.{Stops}
use Rattle.cm_base.specs.declared.faults.ReadStop.{ReadStop}
use Rattle.cm_base.specs.declared.faults.ReadStop.TheVariants as reads
use Rattle.cm_base.specs.declared.faults.Refused.{Refused}
use Rattle.cm_signal.specs.Setting.{Setting}
use Rattle.cm_serve.specs.Playing.{Play, first_play}
use Rattle.cm_serve.specs.Conversing.{Converses}
use Rattle.cm_dialogue.specs.Ahead.{AreAhead, Came, IsLine}
use Rattle.cm_serve.specs.Dialogue.{dialogue, next_number, reply}
use Rattle.cm_dialogue.specs.Heading.{Follows, HasHead, IsHead, head_of, text_of}
use Rattle.cm_serve.specs.Served.{Declines, Holds, IsCutShort, IsHeld, IsNearlyHeld, IsTooLong, Serves, refusal}
use Rattle.cm_serve.specs.Serving.{conversation, follows, setting_of, setting_said}
use Rattle.cm_dialogue.specs.Stops.{read_stop, too_long}
use Rattle.cm_dialogue.specs.Turns.{Turn, Answer, Line, Says}
use Rattle.cm_dialogue.specs.declared.heading.DialogueHead.{DialogueHead}
use Rattle.cm_serve.specs.declared.serving.Served.{Served}
use Rattle.cm_serve.specs.declared.serving.Served.TheVariants as served
use Rattle.cm_dialogue.specs.declared.stop.ServeStop.{ServeStop}
use Rattle.cm_dialogue.specs.declared.stop.ServeStop.TheVariants as serves
use Rattle.cm_dialogue.specs.declared.stop.TalkStop.{TalkStop}
use Rattle.cm_dialogue.specs.declared.stop.TalkStop.TheVariants.{NoMemory, TooLong}
use Rattle.cm_dialogue.proofs.Coming.{came-ahead, others}
use Rattle.cm_dialogue.proofs.Heads.{head-follows, head-prefix, later-head}
use Rattle.cm_dialogue.proofs.Saying.{says-more, says-same}

-- what is said with a client whose first lines are a head
after_head : (lines more : List (List ℕ)) → head_of (lines ++ more) ≡ lines → conversation (lines ++ more) ≡ map Line lines ++ follows (setting_of (text_of lines)) (length lines + 1) more
after_head lines more e =
    ap (λ (head : List (List ℕ)). map Line head ++ follows (setting_of (text_of head)) (length head + 1) (drop (length head) (lines ++ more))) e
    ∙ ap (λ (rest : List (List ℕ)). map Line lines ++ follows (setting_of (text_of lines)) (length lines + 1) rest) (drop-append_seam lines more)

-- and where there are no more
head_alone : (lines : List (List ℕ)) → IsHead lines → conversation lines ≡ map Line lines ++ follows (setting_of (text_of lines)) (length lines + 1) []
head_alone lines e =
    ap conversation (sym (append-nil lines))
    ∙ after_head lines [] (ap head_of (append-nil lines) ∙ e)

follows-head : (b : Bool) (lines : List (List ℕ)) → Follows b lines → IsHead lines
follows-head true lines f = ap head_of (sym (append-nil lines)) ∙ head-follows lines [] f
follows-head false lines f = later-head lines f

-- a dialogue that is cut short in its head
cut_head : (stop : TalkStop) (ahead : Option (List (List ℕ))) (old new : Option (List Turn)) (text : List ℕ) → HasHead (Err stop) ahead ahead old new text → IsCutShort ahead old new
cut_head stop ahead old new text h =
    let part = head-prefix h.heard h.more h.head in
    let lines : List (List ℕ) = h.heard ++ h.more in
    let last : List Turn = follows (setting_said lines) (length (head_of lines) + 1) (drop (length (head_of lines)) lines) in (
      lines,
      map Line h.heard,
      map Line part.0 ++ last,
      h.ahead_is,
      ap (λ (head : List (List ℕ)). map Line head ++ last) part.1
          ∙ ap (λ (turns : List Turn). turns ++ last) (map-append Line h.heard part.0)
          ∙ append_assoc (map Line h.heard) (map Line part.0) last,
      h.says,
    )

-- the lines that come after a head, where none do unless the session follows
after_lines : (ahead left : Option (List (List ℕ))) (lines : List (List ℕ)) (goes : Bool) → (goes ≡ true → Came ahead left lines) → (goes ≡ false → AreAhead lines ahead) →
    (more : List (List ℕ)) × AreAhead (lines ++ more) ahead × (goes ≡ false → more ≡ [])
after_lines ahead left lines true came ends = ((others left).0, came-ahead ahead left lines (others left).0 (came refl) (others left).1, λ f. cc)
after_lines ahead left lines false came ends = ([], subst (λ (ls : List (List ℕ)). AreAhead ls ahead) (sym (append-nil lines)) (ends refl), λ f. refl)

-- and after it
cut_after : (ahead left : Option (List (List ℕ))) (old new : Option (List Turn)) (text : List ℕ) (head : DialogueHead) → HasHead (Ok head) ahead left old new text → IsCutShort ahead old new
cut_after ahead left old new text head h =
    let after = after_lines ahead left h.lines head.goes_on h.came h.ends in
    cut_head NoMemory ahead old new text
    (record {
      heard = h.lines;
      more = after.0;
      ahead_is = after.1;
      says = h.says;
      head = follows-head head.goes_on h.lines h.follows;
      long = λ same. cc;
    })

-- whatever cuts it
holds_cut : (ahead : Option (List (List ℕ))) (old new : Option (List Turn)) (r : Result (Unit {0}) ServeStop) (stop : TalkStop) → IsErrAnd r (λ e. e ≡ serves.Cut stop) → IsCutShort ahead old new → (stop ≡ TooLong → IsTooLong ahead old new []) →
    Holds r ahead old new
holds_cut ahead old new (Ok done) stop e cut long = absurd e
holds_cut ahead old new (Err other) stop e cut long = subst (λ (s : ServeStop). Holds (Err s) ahead old new) (sym e) (cut, long)

-- no whole head was heard
pub head-stopped : (ahead left : Option (List (List ℕ))) (old new : Option (List Turn)) (text : List ℕ) (r : Result (Unit {0}) ServeStop) (stop : TalkStop) → IsErrAnd r (λ e. e ≡ serves.Cut stop) → HasHead (Err stop) ahead left old new text →
    Holds r ahead old new
head-stopped ahead left old new text r stop e h =
    holds_cut ahead old new r stop e (cut_head stop ahead old new text h)
    (λ same. (
      h.heard,
      h.more,
      map Line h.heard,
      h.ahead_is,
      inl (h.head, h.long same, refl),
      says-same old new (map Line h.heard) (map Line h.heard ++ []) (sym (append-nil (map Line h.heard))) h.says,
    ))

-- a head is that of all its client's lines
whole_head : (goes : Bool) (lines more : List (List ℕ)) → Follows goes lines → (goes ≡ false → more ≡ []) → head_of (lines ++ more) ≡ lines
whole_head true lines more f none = head-follows lines more f
whole_head false lines more f none = ap (λ (rest : List (List ℕ)). head_of (lines ++ rest)) (none refl) ∙ ap head_of (append-nil lines) ∙ later-head lines f

-- the head's text is refused
pub head-refused : (ahead left : Option (List (List ℕ))) (old new : Option (List Turn)) (text same : List ℕ) (head : DialogueHead) (r : Result (Unit {0}) ServeStop) (stop : ReadStop) → IsErrAnd r (λ e. e ≡ read_stop stop) → same ≡ text →
    Stops stop (setting_of same) → HasHead (Ok head) ahead left old new text → Holds r ahead old new
head-refused ahead left old new text same head (Ok done) stop e s refused h = absurd e
head-refused ahead left old new text same head (Err other) stop e s refused h = subst (λ (s : ServeStop). Holds (Err s) ahead old new) (sym e) (by stop refused)
  where
    by : (stop : ReadStop) → Stops stop (setting_of same) → Holds (Err (read_stop stop)) ahead old new
    by reads.NoMemory refused = (cut_after ahead left old new text head h, λ same. cc)
    by (reads.Refused refused) is =
        let after = after_lines ahead left h.lines head.goes_on h.came h.ends in
        let whole : head_of (h.lines ++ after.0) ≡ h.lines = whole_head head.goes_on h.lines after.0 h.follows after.2 in
        let setting : setting_of (text_of h.lines) ≡ Err refused = ap setting_of (sym h.text_is ∙ sym s) ∙ is in (
          h.lines ++ after.0,
          map Line h.lines,
          after.1,
          ap (λ (head : List (List ℕ)). setting_of (text_of head)) whole ∙ setting,
          after_head h.lines after.0 whole ∙ ap (λ (s : Result Setting Refused). map Line h.lines ++ follows s (length h.lines + 1) after.0) setting,
          h.says,
        )

-- a test that turned out the other way
pub not-false : (b : Bool) → not b ≡ false → b ≡ true
not-false true e = refl
not-false false e = cc

pub not-true : (b : Bool) → not b ≡ true → b ≡ false
not-true true e = cc
not-true false e = refl

-- the setting that a head's text says
setting_is : (text same : List ℕ) (lines : List (List ℕ)) (s : Setting) → same ≡ text → setting_of same ≡ Ok s → text ≡ text_of lines → setting_of (text_of lines) ≡ Ok s
setting_is text same lines s e is t = ap setting_of (sym t ∙ sym e) ∙ is

-- the input ended before the session
pub head-alone : (ahead left : Option (List (List ℕ))) (old new : Option (List Turn)) (text same : List ℕ) (head : DialogueHead) (s : Setting) → head.goes_on ≡ false → same ≡ text → setting_of same ≡ Ok s → HasHead (Ok head) ahead left old new text →
    IsHeld ahead old new
head-alone ahead left old new text same head s ends e is h = (
  h.lines,
  s,
  h.ends ends,
  h.single,
  ap (λ (lines : List (List ℕ)). setting_of (text_of lines)) (follows-head head.goes_on h.lines h.follows) ∙ setting_is text same h.lines s e is h.text_is,
  says-same old new (map Line h.lines) (conversation h.lines)
      (sym (head_alone h.lines (follows-head head.goes_on h.lines h.follows)
      ∙ ap (λ (r : Result Setting Refused). map Line h.lines ++ follows r (length h.lines + 1) []) (setting_is text same h.lines s e is h.text_is)
      ∙ append-nil (map Line h.lines)))
      h.says,
)

-- what is said from a head on, with its session
with_session : (lines more : List (List ℕ)) (s : Setting) → Follows true lines → setting_of (text_of lines) ≡ Ok s → conversation (lines ++ more) ≡ map Line lines ++ dialogue (first_play s) (length lines + 1) more
with_session lines more s f is =
    after_head lines more (head-follows lines more f)
    ∙ ap (λ (r : Result Setting Refused). map Line lines ++ follows r (length lines + 1) more) is

session_follows : (b : Bool) (lines : List (List ℕ)) → b ≡ true → Follows b lines → Follows true lines
session_follows b lines e f = subst (λ (b : Bool). Follows b lines) e f

-- the setting that a client's lines say whose head this is
said_setting : (lines more : List (List ℕ)) (s : Setting) → Follows true lines → setting_of (text_of lines) ≡ Ok s → setting_said (lines ++ more) ≡ Ok s
said_setting lines more s f is = ap (λ (first : List (List ℕ)). setting_of (text_of first)) (head-follows lines more f) ∙ is

-- all that is said of a head and then of its session, whose lines count on
whole_session : (lines more : List (List ℕ)) (s : Setting) (first count : ℕ) → Follows true lines → setting_of (text_of lines) ≡ Ok s → first ≡ count + 1 → count ≡ length lines →
    conversation (lines ++ more) ≡ map Line lines ++ dialogue (first_play s) first more
whole_session lines more s first count f is n k =
    with_session lines more s f is
    ∙ ap (λ (m : ℕ). map Line lines ++ dialogue (first_play s) m more) (sym (n ∙ ap (λ (m : ℕ). m + 1) k))

-- the session was held to its end
pub session-held : (ahead left : Option (List (List ℕ))) (old now new : Option (List Turn)) (text same : List ℕ) (head : DialogueHead) (s : Setting) (first : ℕ) → head.goes_on ≡ true → same ≡ text → setting_of same ≡ Ok s → first ≡ head.count + 1 →
    HasHead (Ok head) ahead left old now text → Converses (Ok tt) left now new (first_play s) first → IsHeld ahead old new
session-held ahead left old now new text same head s first goes e is n h held =
    let lines : List (List ℕ) = h.lines in
    let f : Follows true lines = session_follows head.goes_on lines goes h.follows in
    let setting : setting_of (text_of lines) ≡ Ok s = setting_is text same lines s e is h.text_is in (
      lines ++ held.0,
      s,
      came-ahead ahead left lines held.0 (h.came goes) held.1,
      All-append IsLine lines held.0 h.single held.2,
      said_setting lines held.0 s f setting,
      says-same old new (map Line lines ++ dialogue (first_play s) first held.0) (conversation (lines ++ held.0))
          (sym (whole_session lines held.0 s first head.count f setting n h.count_is))
          (says-more old now new (map Line lines) (dialogue (first_play s) first held.0) h.says held.3),
    )

-- what is said of some lines is said first of them and others
dialogue_first : (p : Play) (first : ℕ) (heard more : List (List ℕ)) → (rest : List Turn) × (dialogue p first (heard ++ more) ≡ dialogue p first heard ++ rest)
dialogue_first p first [] more = (dialogue p first more, refl)
dialogue_first p first (line ∷ heard) more =
    let further = dialogue_first (reply p first line).play (next_number first) heard more in
    (further.0, ap (λ (turns : List Turn). Line line ∷ Answer (reply p first line).text ∷ turns) further.1)

-- or it was cut short
pub session-cut : (ahead left : Option (List (List ℕ))) (old now new : Option (List Turn)) (text same : List ℕ) (head : DialogueHead) (s : Setting) (first : ℕ) (r : Result (Unit {0}) ServeStop) (stop : TalkStop) → IsErrAnd r (λ e. e ≡ serves.Cut stop) →
    head.goes_on ≡ true → same ≡ text → setting_of same ≡ Ok s → first ≡ head.count + 1 → HasHead (Ok head) ahead left old now text → Converses (Err stop) left now new (first_play s) first → Holds r ahead old new
session-cut ahead left old now new text same head s first r stop was goes e is n h held =
    let lines : List (List ℕ) = h.lines in
    let heard : List (List ℕ) = held.0 in
    let more : List (List ℕ) = held.1 in
    let cut : List Turn = held.2 in
    let rest : List Turn = held.3 in
    let f : Follows true lines = session_follows head.goes_on lines goes h.follows in
    let setting : setting_of (text_of lines) ≡ Ok s = setting_is text same lines s e is h.text_is in
    let talk : List (List ℕ) → List Turn = λ ls. dialogue (first_play s) first ls in
    let further = dialogue_first (first_play s) first heard more in
    let all : AreAhead (lines ++ (heard ++ more)) ahead = came-ahead ahead left lines (heard ++ more) (h.came goes) held.4 in
    let said : Says old new (map Line lines ++ cut) = says-more old now new (map Line lines) cut h.says held.6 in
    holds_cut ahead old new r stop was (
      lines ++ (heard ++ more),
      map Line lines ++ cut,
      rest ++ further.0,
      all,
      whole_session lines (heard ++ more) s first head.count f setting n h.count_is
          ∙ ap (λ (turns : List Turn). map Line lines ++ turns) (further.1 ∙ ap (λ (turns : List Turn). turns ++ further.0) held.5 ∙ append_assoc cut rest further.0)
          ∙ sym (append_assoc (map Line lines) cut (rest ++ further.0)),
      said,
    )
    (λ long.
    let whole : cut ≡ talk heard = sym (append-nil cut) ∙ ap (λ (turns : List Turn). cut ++ turns) (sym (held.7 long).1) ∙ sym held.5 in (
      lines ++ heard,
      more,
      map Line lines ++ cut,
      subst (λ (ls : List (List ℕ)). AreAhead ls ahead) (sym (append_assoc lines heard more)) all,
      inr (
        s,
        said_setting lines heard s f setting,
        (held.7 long).0,
        ap (λ (turns : List Turn). map Line lines ++ turns) whole ∙ sym (whole_session lines heard s first head.count f setting n h.count_is),
      ),
      says-same old new (map Line lines ++ cut) ((map Line lines ++ cut) ++ []) (sym (append-nil (map Line lines ++ cut))) said,
    ))

-- the last answer isn't said
cut_still : (ahead : Option (List (List ℕ))) (old now new : Option (List Turn)) → new ≡ now → IsCutShort ahead old now → IsCutShort ahead old new
cut_still ahead old now new e cut = subst (λ (t : Option (List Turn)). IsCutShort ahead old t) (sym e) cut

-- it was reported to the client why it is refused, or that failed
answered : (ahead : Option (List (List ℕ))) (old now new : Option (List Turn)) (refused : Refused) (r : Served) → IsCutShort ahead old now → (Says now new (refusal refused ∷ []) → Serves served.Refused ahead old new) →
    Declines r refused now new → Serves r ahead old new
answered ahead old now new refused served.Done cut says d = absurd d
answered ahead old now new refused served.ReadFault cut says d = absurd d
answered ahead old now new refused served.WriteFault cut says d = cut_still ahead old now new d cut
answered ahead old now new refused served.NoMemory cut says d = cut_still ahead old now new d cut
answered ahead old now new refused served.Refused cut says d = says d

-- of the board or the signals
pub answered-refused : (ahead : Option (List (List ℕ))) (old now new : Option (List Turn)) (refused : Refused) (r : Served) → IsNearlyHeld refused ahead old now → Declines r refused now new → Serves r ahead old new
answered-refused ahead old now new refused r h =
    answered ahead old now new refused r (h.0, h.1, refusal refused ∷ [], h.2, h.4, h.5)
    (λ says. inl (h.0, refused, h.2, h.3, says-same old new (h.1 ++ refusal refused ∷ []) (conversation h.0) (sym h.4) (says-more old now new h.1 (refusal refused ∷ []) h.5 says)))

-- or of what is too long
pub answered-cut : (ahead : Option (List (List ℕ))) (old now new : Option (List Turn)) (stop : TalkStop) (r : Served) → stop ≡ TooLong → Holds (Err (serves.Cut stop)) ahead old now → Declines r too_long now new → Serves r ahead old new
answered-cut ahead old now new stop r same h =
    let long = h.1 same in
    answered ahead old now new too_long r h.0
    (λ says. inr (
      long.0,
      long.1,
      long.2,
      long.3,
      long.4,
      says-more old now new long.2 (refusal too_long ∷ []) (says-same old now (long.2 ++ []) long.2 (append-nil long.2) long.5) says,
    ))
