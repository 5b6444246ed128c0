use Rattle.cm_client.proofs.Sources.{next_there, none_there}
use Rattle.cm_client.proofs.words.WordSourceWords.next_word.Goals as goal

pub returns-then-self : goal.returns-then-self
returns-then-self c = next_there c.self.inside c.args.self.now c.self.view_is c.self.invariant c.if-self.true

pub returns-else-self : goal.returns-else-self
returns-else-self c = none_there c.self.inside c.args.self.now c.self.view_is c.self.invariant c.if-self.false
