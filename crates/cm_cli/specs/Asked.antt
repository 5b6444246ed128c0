-- A call by the words that the process was given.
use Rattle.std.specs.Prelude.{◌≡◌, ◌≢◌, ◌⊎◌, List, [], drop, Result, Ok, Err, String, Vec}
use Rattle.std.specs.IoError.{error_kind}
use Rattle.std.specs.Vec.Iter.{into_iter_items}
use Rattle.std.specs.declared.alloc.AllocError.{AllocError}
use Rattle.std.specs.declared.alloc.Global.{Global}
use Rattle.std.specs.declared.io.Error.{Error}
use Rattle.std.specs.declared.io.ErrorKind.TheVariants.{OutOfMemory}
use Rattle.std.specs.declared.vec.IntoIter.{IntoIter}
use Rattle.cm_cli.specs.Answers.{Answers, End}
use Rattle.cm_cli.specs.Commands.{call_of}
use Rattle.cm_cli.specs.declared.status.Status.{Status}
use Rattle.cm_cli.specs.declared.status.Status.TheVariants.{NoMemory}

-- the words that a process gets, or why it gets none
abbrev pub Given : Type 0
Given = Result (IntoIter (String Global) Global) Error

-- the words after the program's name. Where words can't be read there are none, but want of memory is reported as such
abbrev pub AreAfterName : Given → Result (Vec (String Global) Global) AllocError → Type 0
AreAfterName (Ok all) (Ok words) = words.items ≡ drop 1 (into_iter_items all)
AreAfterName (Ok all) (Err lack) = Unit {0}
AreAfterName (Err error) (Ok words) = (words.items ≡ []) × (error_kind error ≢ OutOfMemory)
AreAfterName (Err error) (Err lack) = error_kind error ≡ OutOfMemory

-- there is no memory for the words, so nothing is read or written
abbrev pub Lacks : Status → End → End → End → End → Type 0
Lacks result left rest taken text = (result ≡ NoMemory) × (rest ≡ left) × (text ≡ taken)

-- what a call by some words does with its source and its sink
abbrev pub Calls : Type 1
Calls = List (String Global) → Status → End → End → End → End → Type 0

-- a call by such words is answered. If they can't be read it has none, or lacks them if memory kept them from it
abbrev pub DoesAsAsked : Calls → Given → Status → End → End → End → End → Type 0
DoesAsAsked does (Ok all) result left rest taken text =
    does (drop 1 (into_iter_items all)) result left rest taken text ⊎ Lacks result left rest taken text
DoesAsAsked does (Err error) result left rest taken text =
    ((error_kind error ≢ OutOfMemory) × does [] result left rest taken text)
    ⊎ ((error_kind error ≡ OutOfMemory) × Lacks result left rest taken text)

-- a call of `comedi`
abbrev pub AnswersAsked : Given → Status → End → End → End → End → Type 0
AnswersAsked = DoesAsAsked (λ words. Answers (call_of words))
