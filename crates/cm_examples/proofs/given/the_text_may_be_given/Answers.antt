use Rattle.cm_examples.proofs.RunText.{may_be_given}
use Rattle.cm_examples.proofs.given.the_text_may_be_given.Goals as goal

pub returns : goal.returns
returns c = may_be_given
