-- What every instruction leaves.
use Rattle.std.specs.Prelude.{◌≡◌, length}
use Rattle.cm_sub.specs.State.{StateText}

-- a state has as many values and directions as another
pub record IsAsLong (old new : StateText) : Type 0 where
  pub values : length new.values ≡ length old.values
  pub outs : length new.outs ≡ length old.outs
