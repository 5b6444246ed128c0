-- How contracts see the plan of a loop's output.
use Rattle.std.specs.Prelude.{ℕ, List}
use Rattle.cm_expand.specs.PlanView.{plan_words}
use Rattle.cm_loop.specs.Looped.{looped_samples}
use Rattle.cm_loop.specs.declared.looped.Looped.{Looped}

-- the words that a loop gives to its output's ring. The name stands for them unless it is unfolded
unfoldable pub looped_words : Looped → List ℕ
looped_words l = looped_samples (plan_words l.input) l.munge.now l.rule.now
