-- What a question is in other words.
use Rattle.std.specs.Prelude.{ℕ}
use Rattle.cm_session.specs.declared.op.Op.{Op}
use Rattle.cm_session.specs.declared.op.Op.TheVariants as ops
use Rattle.cm_session.specs.declared.op.SessionLine.{SessionLine}
use Rattle.cm_dialogue.specs.declared.asked.Asked.{Asked}
use Rattle.cm_dialogue.specs.declared.asked.Fetch.{Fetch}
use Rattle.cm_dialogue.specs.declared.asked.Question.{Question}
use Rattle.cm_dialogue.specs.declared.asked.Question.TheVariants.{Await, Info, Codes, Peek}

-- what the line asks that a question is in other words
abbrev pub asked_op : ℕ → Question → Op
asked_op sub (Await n) = ops.Contents sub
asked_op sub Info = ops.Contents sub
asked_op sub (Codes n) = ops.Read sub n
asked_op sub (Peek from n) = ops.Contents sub

-- the line that a question is in other words
abbrev pub session_line : Asked → SessionLine
session_line asked = record { time = asked.time; file = asked.file; op = asked_op asked.sub asked.question }

-- the first question of a fetch: it awaits its samples
abbrev pub awaits : Fetch → Asked
awaits fetch = record { time = fetch.time; file = fetch.file; sub = fetch.sub; question = Await fetch.wanted }

-- its second question: from this time it takes some
abbrev pub takes : ℕ → Fetch → Asked
takes time fetch = record { time = time; file = fetch.file; sub = fetch.sub; question = Codes fetch.n }
