use Rattle.std.proofs.Common.{◌==◌, ℕ, Bool, not, List, length, Ok, Err, ◌∙◌, ap, sym, subst, arith}
use Rattle.cm_dialogue.specs.Ahead.{HearsNext}
use Rattle.cm_dialogue.specs.Standard.{unheard_lines}
use Rattle.cm_dialogue.proofs.Outside.{hearing-ends, hearing-last, hearing-long, hearing-more, hears-stop, moved-all, moved-single}
use Rattle.cm_dialogue.proofs.standard.StdClientClient.hear.Goals as goal

pub returns-in_err-take_line-clause-next : goal.returns-in_err-take_line-clause-next
returns-in_err-take_line-clause-next g c =
    hears-stop (unheard_lines c.args.self.now) (unheard_lines c.take_line.new.self) c.take_line.new.line.items c.from_residual.result c.in_err-take_line.field-0.0 c.from_residual.ensures.1
    (λ same. hearing-long c.args.self.now c.loop-self.self c.loop-self.line.items (c.in_err-take_line.ensures.long (ap Err same)) c.loop-self.invariant.way)

pub refill-requires : goal.refill-requires
refill-requires g c =
    moved-all c.loop-self.self c.take_line.new.self c.loop-self.line.items c.take_line.new.line.items c.in_ok-take_line.field-0 c.if-not-branch.true c.in_ok-take_line.ensures.moved

pub returns-then-not-branch-2-clause-next : goal.returns-then-not-branch-2-clause-next
returns-then-not-branch-2-clause-next g c =
    subst (λ (empty : Bool). HearsNext (Ok (not empty)) (unheard_lines c.args.self.now) (unheard_lines c.refill.new.self) c.take_line.new.line.items) (sym (c.is_empty.ensures ∙ ap (λ (bytes : List ℕ). length bytes == 0) c.as_slice.ensures.value))
    (hearing-last c.args.self.now c.loop-self.self c.take_line.new.self c.refill.new.self c.loop-self.line.items c.take_line.new.line.items c.in_ok-take_line.field-0 c.in_ok-refill.field-0
    c.if-not-branch.true c.if-not-branch-2.true c.in_ok-take_line.ensures.moved c.in_ok-refill.ensures.refilled c.loop-self.invariant.way)

pub loop-self-preserved : goal.loop-self-preserved
loop-self-preserved g c = record {
  way = hearing-more c.args.self.now c.loop-self.self c.take_line.new.self c.refill.new.self c.loop-self.line.items c.take_line.new.line.items c.in_ok-take_line.field-0 c.in_ok-refill.field-0
      c.if-not-branch.true c.in_ok-take_line.ensures.moved c.in_ok-refill.ensures.refilled c.loop-self.invariant.way;
  short = c.in_ok-take_line.ensures.short;
  later = omega (arith, c.loop-self.invariant.later, c.take_line.ensures.same, c.refill.ensures.later);
}

pub returns-clause-next : goal.returns-clause-next
returns-clause-next g c =
    hearing-ends c.args.self.now c.loop-self.self c.take_line.new.self c.loop-self.line.items c.take_line.new.line.items c.in_ok-take_line.field-0 c.if-not-branch.false c.in_ok-take_line.ensures.moved
    c.loop-self.invariant.way

pub returns-clause-single : goal.returns-clause-single
returns-clause-single g c =
    moved-single c.args.self.now c.loop-self.self c.take_line.new.self c.loop-self.line.items c.take_line.new.line.items c.in_ok-take_line.field-0 c.in_ok-take_line.ensures.moved c.loop-self.invariant.way
