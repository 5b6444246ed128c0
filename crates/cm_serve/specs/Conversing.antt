-- How a dialogue goes.
use Rattle.std.specs.Prelude.{◌≡◌, ℕ, List, [], ◌++◌, Option, Result, Ok, Err}
use Rattle.std.specs.List.{All}
use Rattle.cm_serve.specs.Playing.{Play}
use Rattle.cm_dialogue.specs.Ahead.{AreAhead, BeginsLong, IsLine}
use Rattle.cm_serve.specs.Dialogue.{dialogue}
use Rattle.cm_dialogue.specs.Turns.{Turn, Says}
use Rattle.cm_dialogue.specs.declared.stop.TalkStop.{TalkStop}
use Rattle.cm_dialogue.specs.declared.stop.TalkStop.TheVariants.{TooLong}

-- all lines to come were heard and answered, each before the next one
abbrev pub HasConversed : Option (List (List ℕ)) → Option (List Turn) → Option (List Turn) → Play → ℕ → Type 0
HasConversed ahead old new p first =
    (lines : List (List ℕ)) × AreAhead lines ahead × All IsLine lines × Says old new (dialogue p first lines)

-- that was cut short after the first of them; where it was for a line that is too long, those before it were answered
abbrev pub IsCutOff : TalkStop → Option (List (List ℕ)) → Option (List Turn) → Option (List Turn) → Play → ℕ → Type 0
IsCutOff stop ahead old new p first =
    (heard more : List (List ℕ))
    × (cut rest : List Turn)
    × AreAhead (heard ++ more) ahead
    × (dialogue p first heard ≡ cut ++ rest)
    × Says old new cut
    × (stop ≡ TooLong → BeginsLong more × (rest ≡ []))

-- what was read, said and left in a conversation, whether it came to its end or was cut off
abbrev pub Converses :
    Result (Unit {0}) TalkStop → Option (List (List ℕ)) → Option (List Turn) → Option (List Turn) → Play → ℕ → Type 0
Converses (Ok done) ahead old new p first = HasConversed ahead old new p first
Converses (Err stop) ahead old new p first = IsCutOff stop ahead old new p first
