-- The limits of each line of a session.
use Rattle.std.proofs.Common.{ℕ, List, [], ◌∷◌}
use Rattle.std.specs.List.{All}
use Rattle.std.proofs.lemmas.List.Elements.{All-cons, All-nil}
use Rattle.cm_session.specs.Limits.{HasLimits, InOrder}
use Rattle.cm_session.specs.declared.op.SessionLine.{SessionLine}

-- the lines of a session in order have their limits
pub all-limited : (horizon time : ℕ) (lines : List SessionLine) → InOrder horizon time lines → All (λ (line : SessionLine). HasLimits line.op) lines
all-limited horizon time [] order = All-nil (λ (line : SessionLine). HasLimits line.op)
all-limited horizon time (line ∷ lines) order = All-cons (λ (line : SessionLine). HasLimits line.op) line lines order.1.1 (all-limited horizon line.time lines order.2)
