use Rattle.std.proofs.Common.{◌≡◌, get_or, sym, ◌∙◌, subst, arith}
use Rattle.std.proofs.lemmas.Result.{IfOk-weaker}
use Rattle.cm_ring_core.specs.declared.view.End.{End}
use Rattle.cm_ring_core.specs.declared.view.EndKind.TheVariants.{Done}
use Rattle.cm_block.specs.RunText.{line_block}
use Rattle.cm_block.specs.Whole.{HasWhole}
use Rattle.cm_job.specs.Job.{RunJobText}
use Rattle.cm_watch.proofs.Wholes.{text_longer, whole_before, whole_last}
use Rattle.cm_watch.proofs.blocks.+blocks_up_to.Goals as goal

no_end : End
no_end = record { kind = Done; count = 0 }

pub block_of-requires-clause-whole : goal.block_of-requires-clause-whole
unfolding no_end
block_of-requires-clause-whole t c =
    let line = c.index.result.now in
    let here = subst (λ (j : RunJobText). line ≡ get_or j.lines c.len-at.result line) c.job.view_is c.index.ensures in
    subst (λ (j : RunJobText). HasWhole j.board j.signals line c.in-Some.last (get_or c.args.ends.now c.len-at.result no_end)) (sym c.job.view_is)
    (whole_last c.args.job.now c.args.texts.items c.pop.new.self.items c.in-Some.last c.in-Some.ensures.items c.args.ends.now c.requires.whole c.len-at.result line no_end (c.len-at.ensures ∙ c.pop.new.self.ok.0) here)

pub blocks_up_to-requires : goal.blocks_up_to-requires
blocks_up_to-requires t c = (
  omega (arith, c.decreases, c.in-Some.ensures.len),
  whole_before c.args.job.now c.args.texts.items c.pop.new.self.items c.in-Some.last c.in-Some.ensures.items c.args.ends.now c.requires.whole,
)

pub returns : goal.returns
returns t c =
    let line = c.index.result.now in
    let here = subst (λ (j : RunJobText). line ≡ get_or j.lines c.len-at.result line) c.job.view_is c.index.ensures in
    let block = subst (λ (j : RunJobText). c.in_ok-block.block.items ≡ line_block j.board j.signals line) c.job.view_is c.in_ok-block.ensures in
    IfOk-weaker c.with.result _ _ (λ longer is. text_longer c.args.job.now c.args.texts.items c.pop.new.self.items c.in-Some.last c.in-Some.ensures.items c.args.ends.now c.requires.whole c.len-at.result line _ _ longer (c.len-at.ensures ∙ c.pop.new.self.ok.0) here c.in_ok-blocks_up_to.ensures block is)
    c.with.ensures
