-- Lines of a session, one after another.
use Rattle.std.proofs.Common.{◌≡◌, ℕ, ◌≤◌, List, [], ◌∷◌, ◌++◌, refl, arith}
use Rattle.cm_session.specs.Limits.{InOrder, IsLimited}
use Rattle.cm_session.specs.SessionPart.{last_time}
use Rattle.cm_session.specs.declared.op.SessionLine.{SessionLine}

-- the last of lines is the one that was put after them
pub last-after : (lines : List SessionLine) (line : SessionLine) → last_time (lines ++ line ∷ []) ≡ line.time
last-after [] line = refl
last-after (first ∷ []) line = refl
last-after (first ∷ next ∷ more) line = last-after (next ∷ more) line

-- a line after others
after : (horizon time : ℕ) (first : SessionLine) (rest : List SessionLine) (line : SessionLine) → InOrder horizon time (first ∷ rest) → last_time (first ∷ rest) ≤ line.time → IsLimited horizon line → InOrder horizon time ((first ∷ rest) ++ line ∷ [])
after horizon time first [] line o h l = (o.0, o.1, (h, l, tt))
after horizon time first (next ∷ more) line o h l = (o.0, o.1, after horizon first.time next more line o.2 h l)

pub in_order_more : (horizon : ℕ) (lines : List SessionLine) (line : SessionLine) → InOrder horizon 0 lines → last_time lines ≤ line.time → IsLimited horizon line → InOrder horizon 0 (lines ++ line ∷ [])
in_order_more horizon [] line o h l = (omega arith, l, tt)
in_order_more horizon (first ∷ rest) line o h l = after horizon 0 first rest line o h l
