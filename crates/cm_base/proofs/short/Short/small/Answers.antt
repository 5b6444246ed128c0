use Rattle.std.proofs.Common.{rules, ◌≤◌, length, drop, arith, ap, length-drop, length-append}
use Rattle.std.specs.Fmt.{decimal}
use Rattle.std.proofs.lemmas.Fmt.{length-decimal-le}
use Rattle.cm_base.proofs.short.Short.small.Goals as goal

pub write_digits-self-inside-requires : goal.write_digits-self-inside-requires
write_digits-self-inside-requires c =
    let few : length (decimal c.args.value) ≤ 10 = length-decimal-le 10 c.args.value (omega arith) (search (rules, c.ranges)) (search (rules, c.ranges)) in
    let s = ap length c.self.view_is in
    let l = length-drop c.self.inside.at c.self.inside.bytes in
    (search (rules, few, s, l), search rules)

pub returns-clause-length : goal.returns-clause-length
returns-clause-length c =
    let few : length (decimal c.args.value) ≤ 10 = length-decimal-le 10 c.args.value (omega arith) (search (rules, c.ranges)) (search (rules, c.ranges)) in
    let w = c.write_digits-self-inside in
    let s = ap length c.self.view_is in
    let e = ap length w.ensures.written in
    let l = length-append (decimal c.args.value) (drop c.self.inside.at c.self.inside.bytes) in
    omega (arith, few, s, e, l)
