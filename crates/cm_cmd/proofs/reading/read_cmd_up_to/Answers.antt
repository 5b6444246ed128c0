use Rattle.cm_cmd.proofs.Readable.{gives_text}
use Rattle.cm_cmd.proofs.reading.read_cmd_up_to.Goals as goal

pub returns-clause-text : goal.returns-clause-text
returns-clause-text c = gives_text c.args.most c.args.line.now.number _ c.read_words.result c.read_words.ensures
