-- The part of a dialogue before its session.
use Rattle.std.specs.Prelude.{◌≡◌, ℕ, ◌+◌, ◌<◌, ◌⊎◌, true, false, Bool, List, [], ◌∷◌, ◌++◌, codes}
use Rattle.std.specs.Prelude.{flat_map, length, map, take, Option, Result, Ok, Err}
use Rattle.std.specs.List.{All, list_any, position_or_len}
use Rattle.cm_base.specs.Lines.{lines_of}
use Rattle.cm_base.specs.Parts.{begins}
use Rattle.cm_dialogue.specs.Ahead.{AreAhead, BeginsLong, Came, IsLine}
use Rattle.cm_dialogue.specs.Turns.{Turn, Line, Says}
use Rattle.cm_dialogue.specs.declared.stop.TalkStop.{TalkStop}
use Rattle.cm_dialogue.specs.declared.stop.TalkStop.TheVariants.{TooLong}
use Rattle.cm_dialogue.specs.declared.heading.DialogueHead.{DialogueHead}

-- the line after which the session starts
abbrev pub starts_session : List ℕ → Bool
starts_session line = list_any (begins (codes "session")) (lines_of line)

-- the lines up to that one, with it
abbrev pub head_of : List (List ℕ) → List (List ℕ)
head_of lines = take (position_or_len starts_session lines + 1) lines

-- lines as a text
abbrev pub text_of : List (List ℕ) → List ℕ
text_of lines = flat_map (λ line. line ++ codes "\n") lines

-- none of these lines starts the session
abbrev pub StartsLater : List (List ℕ) → Type 0
StartsLater lines = All (λ line. starts_session line ≡ false) lines

-- whether the session follows: after its last line, or not at all
abbrev pub Follows : Bool → List (List ℕ) → Type 0
Follows true lines =
    (before : List (List ℕ))
    × (last : List ℕ)
    × (lines ≡ before ++ last ∷ [])
    × StartsLater before
    × (starts_session last ≡ true)
Follows false lines = StartsLater lines

-- none of these lines but the last starts the session
abbrev pub IsHead : List (List ℕ) → Type 0
IsHead lines = head_of lines ≡ lines

-- the lines before the session have more than a mebibyte, or the next one alone has
abbrev pub IsLongHead : List (List ℕ) → List (List ℕ) → Type 0
IsLongHead heard more = (1048576 < length (text_of heard)) ⊎ (StartsLater heard × BeginsLong more)

-- these lines were heard, and are the text; where no session follows, they are all that came
pub record IsHeadHeard
    (head : DialogueHead) (ahead left : Option (List (List ℕ))) (old new : Option (List Turn))
    (text : List ℕ) : Type 0 where
  pub lines : List (List ℕ)
  pub single : All IsLine lines
  pub says : Says old new (map Line lines)
  pub text_is : text ≡ text_of lines
  pub count_is : head.count ≡ length lines
  pub follows : Follows head.goes_on lines
  pub came : head.goes_on ≡ true → Came ahead left lines
  pub ends : head.goes_on ≡ false → AreAhead lines ahead

-- some were, and no more of them
pub record IsHeadCut (stop : TalkStop) (ahead : Option (List (List ℕ))) (old new : Option (List Turn)) : Type 0 where
  pub heard : List (List ℕ)
  pub more : List (List ℕ)
  pub ahead_is : AreAhead (heard ++ more) ahead
  pub says : Says old new (map Line heard)
  pub head : IsHead heard
  pub long : stop ≡ TooLong → IsLongHead heard more

-- what was read, said and left of a head, whether it was heard whole or cut off
abbrev pub HasHead :
    Result DialogueHead TalkStop → Option (List (List ℕ)) → Option (List (List ℕ)) → Option (List Turn) →
    Option (List Turn)
    → List ℕ → Type 0
HasHead (Ok head) ahead left old new text = IsHeadHeard head ahead left old new text
HasHead (Err stop) ahead left old new text = IsHeadCut stop ahead old new
