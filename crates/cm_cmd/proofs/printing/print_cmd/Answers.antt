use Rattle.std.proofs.Common.{◌≡◌, ◌∙◌, ap, List, ℕ, rules}
use Rattle.cm_base.specs.Lines.{words_of}
use Rattle.cm_cmd.specs.CommandText.{command_of, command_text}
use Rattle.cm_cmd.proofs.Printed.{printed_reads}
use Rattle.cm_cmd.proofs.printing.print_cmd.Goals as goal

pub returns-clause-reads : goal.returns-clause-reads
returns-clause-reads c =
    let e : c.put_cmd.new.out.items ≡ command_text c.args.cmd.now = search rules in
    λ most h. ap (λ (text : List ℕ). command_of most (words_of text)) e ∙ printed_reads most c.args.cmd.now h
