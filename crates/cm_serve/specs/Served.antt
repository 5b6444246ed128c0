-- How a dialogue ended.
use Rattle.std.specs.Prelude.{◌≡◌, ℕ, ◌⊎◌, List, [], ◌∷◌, ◌++◌, map, Option, Result, Ok, Err}
use Rattle.std.specs.List.{All}
use Rattle.cm_base.specs.declared.faults.Refused.{Refused}
use Rattle.cm_signal.specs.Setting.{Setting}
use Rattle.cm_text.specs.Declined.{refused_text}
use Rattle.cm_dialogue.specs.Ahead.{AreAhead, BeginsLong, IsLine}
use Rattle.cm_dialogue.specs.Heading.{IsHead, IsLongHead}
use Rattle.cm_serve.specs.Serving.{conversation, setting_said}
use Rattle.cm_dialogue.specs.Stops.{too_long}
use Rattle.cm_dialogue.specs.Turns.{Turn, Answer, Line, Says}
use Rattle.cm_serve.specs.declared.serving.Served.{Served}
use Rattle.cm_serve.specs.declared.serving.Served.TheVariants as served
use Rattle.cm_dialogue.specs.declared.stop.ServeStop.{ServeStop}
use Rattle.cm_dialogue.specs.declared.stop.ServeStop.TheVariants as stops
use Rattle.cm_dialogue.specs.declared.stop.TalkStop.TheVariants.{TooLong}

-- all lines to come were heard, their board and signals are accepted, and all was said that is said with such a client
abbrev pub IsHeld : Option (List (List ℕ)) → Option (List Turn) → Option (List Turn) → Type 0
IsHeld ahead old new =
    (lines : List (List ℕ))
    × (s : Setting)
    × AreAhead lines ahead
    × All IsLine lines
    × (setting_said lines ≡ Ok s)
    × Says old new (conversation lines)

-- the same of a client whose board or signals are refused
abbrev pub IsDeclined : Option (List (List ℕ)) → Option (List Turn) → Option (List Turn) → Type 0
IsDeclined ahead old new =
    (lines : List (List ℕ))
    × (refused : Refused)
    × AreAhead lines ahead
    × (setting_said lines ≡ Err refused)
    × Says old new (conversation lines)

-- that was cut short
abbrev pub IsCutShort : Option (List (List ℕ)) → Option (List Turn) → Option (List Turn) → Type 0
IsCutShort ahead old new =
    (lines : List (List ℕ))
    × (cut rest : List Turn)
    × AreAhead lines ahead
    × (conversation lines ≡ cut ++ rest)
    × Says old new cut

-- the lines of the head are too long, of which none has an answer;
-- or the next line is, and those before it are answered
abbrev pub IsLongAfter : List (List ℕ) → List (List ℕ) → List Turn → Type 0
IsLongAfter heard more said =
    (IsHead heard × IsLongHead heard more × (said ≡ map Line heard))
    ⊎ ((s : Setting) × (setting_said heard ≡ Ok s) × BeginsLong more × (said ≡ conversation heard))

-- a client has said too much, and this was said last
abbrev pub IsTooLong : Option (List (List ℕ)) → Option (List Turn) → Option (List Turn) → List Turn → Type 0
IsTooLong ahead old new last =
    (heard more : List (List ℕ))
    × (said : List Turn)
    × AreAhead (heard ++ more) ahead
    × IsLongAfter heard more said
    × Says old new (said ++ last)

-- the answer to one who is refused
abbrev pub refusal : Refused → Turn
refusal refused = Answer (refused_text refused)

-- what was read and said, by the way in which serving a client ended
abbrev pub Serves : Served → Option (List (List ℕ)) → Option (List Turn) → Option (List Turn) → Type 0
Serves served.Done ahead old new = IsHeld ahead old new
Serves served.Refused ahead old new = IsDeclined ahead old new ⊎ IsTooLong ahead old new (refusal too_long ∷ [])
Serves other ahead old new = IsCutShort ahead old new

-- all was said but that the client is refused
abbrev pub IsNearlyHeld : Refused → Option (List (List ℕ)) → Option (List Turn) → Option (List Turn) → Type 0
IsNearlyHeld refused ahead old new =
    (lines : List (List ℕ))
    × (cut : List Turn)
    × AreAhead lines ahead
    × (setting_said lines ≡ Err refused)
    × (conversation lines ≡ cut ++ refusal refused ∷ [])
    × Says old new cut

-- the same before an answer says why the client is refused
abbrev pub Holds :
    Result (Unit {0}) ServeStop → Option (List (List ℕ)) → Option (List Turn) → Option (List Turn) → Type 0
Holds (Ok done) ahead old new = IsHeld ahead old new
Holds (Err (stops.Refused refused)) ahead old new = IsNearlyHeld refused ahead old new
Holds (Err (stops.Cut stop)) ahead old new = IsCutShort ahead old new × (stop ≡ TooLong → IsTooLong ahead old new [])

-- an answer said why the client is refused, or nothing was said
abbrev pub Declines : Served → Refused → Option (List Turn) → Option (List Turn) → Type 0
Declines served.Refused refused old new = Says old new (refusal refused ∷ [])
Declines served.WriteFault refused old new = new ≡ old
Declines served.NoMemory refused old new = new ≡ old
Declines other refused old new = ⊥

-- the numbers with which a program ends, as those of `comedi`
abbrev pub exit_status : Served → ℕ
exit_status served.Done = 0
exit_status served.Refused = 1
exit_status served.ReadFault = 3
exit_status served.WriteFault = 4
exit_status served.NoMemory = 5
