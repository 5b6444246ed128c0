use Rattle.std.proofs.Common.{refl, sym, ap, ◌∙◌}
use Rattle.cm_test.specs.Questions.{is_compatible, is_within, is_rounded}
use Rattle.cm_test.specs.Steps.{repaired, rounded}
use Rattle.cm_test.proofs.Failing.{by_answers, left_at}
use Rattle.cm_test.proofs.test.command_test.Goals as goal

pub returns-then-not-narrow : goal.returns-then-not-narrow
returns-then-not-narrow c =
    ap (left_at 1) c.narrow.ensures.cmd
    ∙ sym (by_answers c.args.sub.now c.args.cmd.now _ _ _ _ _ (sym c.if-not-narrow.ensures.result) refl refl refl refl)

pub returns-then-not-is_compatible : goal.returns-then-not-is_compatible
returns-then-not-is_compatible c =
    let same = c.if-not-narrow.ensures.kept refl in
    let compatible = ap (is_compatible c.args.sub.now) (sym same) ∙ sym c.if-not-is_compatible.ensures in
    ap (left_at 2) same
    ∙ sym (by_answers c.args.sub.now c.args.cmd.now _ _ _ _ _ (sym c.if-not-narrow.ensures.result) compatible refl refl refl)

pub returns-then-not-repair : goal.returns-then-not-repair
returns-then-not-repair c =
    let same = c.if-not-narrow.ensures.kept refl in
    let compatible = ap (is_compatible c.args.sub.now) (sym same) ∙ sym c.if-not-is_compatible.ensures in
    let within = ap (is_within c.args.sub.now) (sym same) ∙ sym c.if-not-repair.ensures.result in
    ap (left_at 3) (c.repair.ensures.cmd ∙ ap (repaired c.args.sub.now) same)
    ∙ sym (by_answers c.args.sub.now c.args.cmd.now _ _ _ _ _ (sym c.if-not-narrow.ensures.result) compatible within refl refl)

pub returns-then-not-round : goal.returns-then-not-round
returns-then-not-round c =
    let same = c.if-not-narrow.ensures.kept refl in
    let compatible = ap (is_compatible c.args.sub.now) (sym same) ∙ sym c.if-not-is_compatible.ensures in
    let within = ap (is_within c.args.sub.now) (sym same) ∙ sym c.if-not-repair.ensures.result in
    let now = c.if-not-repair.ensures.kept refl ∙ same in
    let round = ap (is_rounded c.args.sub.now) (sym now) ∙ sym c.if-not-round.ensures.result in
    ap (left_at 4) (c.round.ensures.cmd ∙ ap (rounded c.args.sub.now) now)
    ∙ sym (by_answers c.args.sub.now c.args.cmd.now _ _ _ _ _ (sym c.if-not-narrow.ensures.result) compatible within round refl)
