use Rattle.std.proofs.Common.{◌++◌, ◌-◌, List, ℕ, ap, ◌∙◌, arith}
use Rattle.cm_text.specs.Repeated.{repeated}
use Rattle.cm_text.proofs.Repeats.{repeated-left}
use Rattle.cm_text.proofs.gathered.Gathered.add_times.Goals as goal

pub loop-left-preserved : goal.loop-left-preserved
loop-left-preserved c =
    let text = c.make_room.new.text.items in
    let lines = c.self.inside.lines in
    let line = c.args.line.now in
    let left = c.loop-left.left in
    let count = c.min-count.result in
    let least = c.min-count.ensures in
    let before = c.loop-left.text.items ++ c.loop-left.self in
    ap (λ (t : List ℕ). (text ++ t) ++ repeated (left - count) line) c.append_times.ensures
    ∙ repeated-left left count line text lines before _ (omega arith) (ap (λ (t : List ℕ). text ++ t) c.self.view_is ∙ c.in_ok-make_room.ensures.text) c.loop-left.invariant
