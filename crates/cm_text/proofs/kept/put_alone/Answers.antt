use Rattle.std.proofs.Common.{ℕ, ◌++◌, length, ap, arith, length-drop}
use Rattle.std.proofs.lemmas.List.{take_rest}
use Rattle.cm_text.proofs.Repeats.{first_code, more_alike}
use Rattle.cm_text.proofs.kept.put_alone.Goals as goal

pub put_alike-requires-clause-code : goal.put_alike-requires-clause-code
put_alike-requires-clause-code c =
    let i = c.loop-i.i in
    first_code c.args.format.now c.requires.alone c.args.place i c.args.words.now c.loop-i-test.true (c.requires.codes i c.loop-i-test.true)

pub loop-i-preserved : goal.loop-i-preserved
loop-i-preserved c =
    let i = c.loop-i.i in
    let words = c.args.words.now in
    let have = c.loop-i.invariant in
    let last = c.in_ok-i.ensures.within in
    record {
      within = omega (arith, ap (length {A = ℕ}) (take_rest words i), length-drop i words, last, have.within);
      reported = more_alike c.args.format.now c.requires.alone c.args.place i c.in_ok-i.field-0 words c.args.text.now.items (c.loop-i.text.items ++ c.loop-i.gathered) _ have.within have.reported c.in_ok-i.ensures.lines;
      kept = c.in_ok-i.ensures.kept;
    }
