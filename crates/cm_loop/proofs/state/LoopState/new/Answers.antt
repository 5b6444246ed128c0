use Rattle.std.proofs.Common.{◌∙◌, [], map, ap}
use Rattle.cm_loop.specs.Entry.{entry_text}
use Rattle.cm_loop.specs.Filter.{filter_text}
use Rattle.cm_loop.proofs.States.{fresh_filter, fresh_ok, fresh_stands}
use Rattle.cm_loop.proofs.state.LoopState.new.Goals as goal

pub invariant_of-result : goal.invariant_of-result
invariant_of-result c =
    fresh_ok (filter_text c.rule.inside.items.items c.rule.inside.window) _ (c.in_ok-entries.ensures ∙ ap (map (entry_text [] c.rule.inside.window)) c.deref.ensures.value) c.rule.invariant

pub returns-clause-rule : goal.returns-clause-rule
returns-clause-rule c =
    fresh_filter (filter_text c.rule.inside.items.items c.rule.inside.window) _ (c.in_ok-entries.ensures ∙ ap (map (entry_text [] c.rule.inside.window)) c.deref.ensures.value) ∙ c.rule.view_is

pub returns-clause-stands : goal.returns-clause-stands
returns-clause-stands c = fresh_stands (filter_text c.rule.inside.items.items c.rule.inside.window) _ (c.in_ok-entries.ensures ∙ ap (map (entry_text [] c.rule.inside.window)) c.deref.ensures.value)
