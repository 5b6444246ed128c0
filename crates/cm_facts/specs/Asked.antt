-- A call by the words that the process was given.
use Rattle.cm_cli.specs.Answers.{End}
use Rattle.cm_cli.specs.Asked.{DoesAsAsked, Given}
use Rattle.cm_cli.specs.declared.status.Status.{Status}
use Rattle.cm_facts.specs.Answers.{Answers}
use Rattle.cm_facts.specs.Inquiries.{inquiry_of}

-- a call of `comedi_facts`
abbrev pub AnswersAsked : Given → Status → End → End → End → End → Type 0
AnswersAsked = DoesAsAsked (λ words. Answers (inquiry_of words))
