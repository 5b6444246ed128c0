use Rattle.std.proofs.Common.{rules, ◌-◌, ◌≤◌, length, arith, decimal, length-set}
use Rattle.std.proofs.lemmas.Fmt.{length-decimal-le}
use Rattle.cm_block.proofs.expanding.put_number.Goals as goal

pub write_digits-requires : goal.write_digits-requires
write_digits-requires c =
    let few : length (decimal c.args.number) ≤ 20 = length-decimal-le 20 c.args.number (omega arith) (search (rules, c.ranges)) (search (rules, c.ranges)) in
    let size = length-set c.args.lines.now (c.args.end - 1) c.args.byte in
    let room = c.requires.room in
    let within = c.requires.within in
    (omega arith, omega arith)

pub returns-clause-short : goal.returns-clause-short
returns-clause-short c =
    let few : length (decimal c.args.number) ≤ 20 = length-decimal-le 20 c.args.number (omega arith) (search (rules, c.ranges)) (search (rules, c.ranges)) in
    let start = c.write_digits.ensures.start in
    let room = c.requires.room in
    omega arith
